-- What is made of expressions and paths has the C types of what they are made of.
use Rattle.std.proofs.Common.{◌≡◌, ℕ, ◌+◌, ℤ, Bool, true, false, ◌&&◌, List, [], ◌∷◌, ◌++◌, map, take, Option, Some, None}
use Rattle.std.proofs.Common.{refl, sym, ap, ◌∙◌}
use Rattle.std.proofs.Common.{arith, subst, codes}
use Rattle.std.proofs.lemmas.Bool.{eqb-true}
use Rattle.std.proofs.lemmas.List.Elements.{All-head, All-tail}
use Rattle.std.proofs.lemmas.Option.{same_Some}
use Rattle.std.specs.Prelude.{All, is_none, is_some, nat_eq, option_and_then, option_map, slice_get, unwrap_or, if◌then◌else◌, ◌||◌}
use Rattle.std.specs.List.{list_all}
use Rattle.std.proofs.lemmas.Bool.{and_from}
use Rattle.bl_tree.proofs.Basics.{and_first, and_second}
use Rattle.bl_tree.specs.declared.c.CArg.{CArg}
use Rattle.bl_tree.specs.declared.c.CExpr.{CExpr}
use Rattle.bl_tree.specs.declared.c.CPlace.{CPlace}
use Rattle.bl_tree.specs.declared.c.CStep.{CStep}
use Rattle.bl_tree.specs.declared.c.CType.{CType}
use Rattle.bl_tree.specs.declared.c.CType.TheVariants.{Scalar as OfScalar, Struct as OfStruct}
use Rattle.bl_tree.specs.declared.place.Place.{Place}
use Rattle.bl_tree.specs.declared.scalar.Op.{Op}
use Rattle.bl_tree.specs.declared.scalar.Scalar.{Scalar as ScalarType}
use Rattle.bl_tree.specs.declared.scalar.Scalar.TheVariants.{Bool as OfBool}
use Rattle.bl_tree.specs.declared.tree.Expr.{Expr, fold-roll-Expr}
use Rattle.bl_tree.specs.declared.tree.ExprKind.{ExprKind, fold-roll-ExprKind}
use Rattle.bl_tree.specs.declared.tree.ExprKind.TheOpen.{ExprKind-F, Part-F}
use Rattle.bl_tree.specs.declared.tree.Part.{Part, fold-roll-Part, out-Part, out-roll-Part, roll-Part, roll-out-Part}
use Rattle.bl_tree.specs.declared.tree.Path.{Path, fold-roll-Path, out-Path, out-roll-Path, roll-Path}
use Rattle.bl_tree.specs.declared.tree.Role.{Role}
use Rattle.bl_tree.specs.declared.tree.Role.TheVariants.{Input, Output, Variable as OfVariable, Fixed}
use Rattle.bl_tree.specs.declared.tree.StructDef.{StructDef}
use Rattle.bl_tree.specs.declared.tree.Ty.{Ty, out-Ty}
use Rattle.bl_tree.specs.declared.tree.Ty.TheOpen.{Ty-F}
use Rattle.bl_tree.specs.declared.tree.Unit.{Unit as UnitDef}
use Rattle.bl_tree.specs.declared.tree.Var.{Var}
use Rattle.bl_tree.specs.Numbers.{takes_one, takes_two, type_of_result}
use Rattle.bl_tree.specs.Program.{is_input, is_output, parameters_of, structs_stand_from}
use Rattle.bl_tree.specs.Reduce.{all_of}
use Rattle.bl_tree.specs.Scalar.{in_range, is_int, is_whole}
use Rattle.bl_tree.specs.Types.{same_scalar, same_type, scalar, scalar_in}
use Rattle.bl_tree.specs.Typing.{TypingContext, after_parts, call_type, cast_type, element_in, inputs_of, is_activity, is_function, is_variable, one_type, prev_type}
use Rattle.bl_tree.specs.Typing.{two_type, type_of, type_of_path, types_match, var_at, where_same, where_whole}
use Rattle.bl_tree.proofs.ExprInduction.{Cases, EachIndex, OfIndex, expr, induct, induct_path}
use Rattle.bl_eval.proofs.FitLemmas.{same_scalar_is, same_type_is}
use Rattle.bl_eval.proofs.OperatorFits.{some_found, where_holds}
use Rattle.bl_eval.proofs.PartFits.{type_of_part}
use Rattle.bl_ctext_semantics.specs.Faults.{Context, Judged, JudgedArg, Variable, fit_each, fits_arg, judge_root, judged_arg, judged_step}
use Rattle.bl_ctext_semantics.specs.Faults.{same_type as same_c_type}
use Rattle.bl_ctext_semantics.specs.Faults.{signature_as, signature_of}
use Rattle.bl_emit_acts.specs.declared.home.Home.{Home}
use Rattle.bl_emit_acts.specs.declared.home.Home.TheVariants.{Held, Local, Lent}
use Rattle.bl_emit_acts.specs.declared.made.Made.{Made}
use Rattle.bl_emit_acts.specs.declared.made.Made.TheVariants.{Number, Whole}
use Rattle.bl_emit_acts.specs.Expressions.{arg_of, c_both, c_cast, c_one, code_of, field_at, length_in, made_at, made_call, made_of, name_of_field}
use Rattle.bl_emit_acts.specs.Expressions.{Stood}
use Rattle.bl_emit_acts.specs.Expressions.{scalar_at, stands, step_typing, steps_of, type_at, type_made}
use Rattle.bl_emit_acts.specs.Places.{home_of, place_by_steps}
use Rattle.bl_emit_acts.specs.Trees.{c_called, c_element, c_index, c_literal, c_place, c_read, c_step, nowhere}
use Rattle.bl_emit_acts.specs.Types.{c_scalar, c_type, copy_name, elements_name, field_name, unit_name, variable_name}
use Rattle.bl_emit_acts_laws_simulation.specs.Encodes.{copied_in, copied_in_path}
use Rattle.bl_emit_acts_laws_simulation.specs.inner.Holds.{copied_in_part}
use Rattle.bl_emit_acts_laws_wellformed.specs.Formed.Declared.{Declared, InActivity, IsDeclaredAt, home_leads, leads_through, parameter_for}
use Rattle.bl_emit_acts_laws_wellformed.specs.Formed.Declared.{signature_for, variable_of}
use Rattle.bl_emit_acts_laws_wellformed.specs.Formed.Formed.{ExprIs, PlaceIs, sound, sound_place}
use Rattle.bl_emit_acts_laws_wellformed.proofs.OnFormed.Judged.{address_arg-is, called-is, element-is, faults_of_args, judged_args, literal-is, of_address}
use Rattle.bl_emit_acts_laws_wellformed.proofs.OnFormed.Judged.{of_value}
use Rattle.bl_emit_acts_laws_wellformed.proofs.OnFormed.Judged.{place-is, read-is, step-judged, steps_judged, value_arg-is}
use Rattle.bl_emit_acts_laws_wellformed.proofs.OnFormed.Operators.{MadeIs, NumberIs, WholeIs, both_is, cast_is, number_is, one_is}
use Rattle.bl_emit_acts_laws_wellformed.proofs.OnFormed.Parts.{Known, c_scalar_type, element_known, field_is, into_member}
use Rattle.bl_emit_acts_laws_wellformed.proofs.OnFormed.Prelude.{index_suits, type_same, unit_named}

-- ---- places of variables

module _ (context : Context) where
  -- a variable that is used as it is declared
  root_plain : (name : List ℕ) (ty : CType) (at : Place) → context.variables name ≡ Some (variable_of false ty) →
      judge_root (context.variables name) false at ≡ sound ty
  root_plain name ty at is = ap (λ o. judge_root o false at) is

  root_pointer : (name : List ℕ) (ty : CType) (at : Place) → context.variables name ≡ Some (variable_of true ty) →
      judge_root (context.variables name) true at ≡ sound ty
  root_pointer name ty at is = ap (λ o. judge_root o true at) is

  root_memory : (activity : Bool) (ty : CType) (at : Place) → context.variables (codes "m") ≡ Some (variable_of activity ty) →
      judge_root (context.variables (codes "m")) activity at ≡ sound ty
  root_memory true ty at is = root_pointer (codes "m") ty at is
  root_memory false ty at is = root_plain (codes "m") ty at is

  -- a variable alone
  pub variable_place : (name : List ℕ) (ty : CType) → context.variables name ≡ Some (variable_of false ty) →
      PlaceIs context false ty (c_place false name [])
  variable_place name ty is = place-is context false name [] ty ty (λ at. root_plain name ty at is) (λ at. refl)

  -- what a pointer leads to
  pub pointer_place : (name : List ℕ) (ty : CType) → context.variables name ≡ Some (variable_of true ty) →
      PlaceIs context true ty (c_place true name [])
  pointer_place name ty is = place-is context true name [] ty ty (λ at. root_pointer name ty at is) (λ at. refl)

  -- steps from a variable
  pub home_place : (activity : Bool) (home : Home) (vars : List Var) (k : ℕ) (ty last : CType) (steps : List CStep) →
      IsDeclaredAt context activity home vars k ty →
      ((at : Place) → steps_judged context steps at (Some ty) ≡ sound last) →
      PlaceIs context (home_leads activity home) last (place_by_steps activity home vars k steps)
  home_place activity Held vars k ty last steps held ends =
      place-is context activity (codes "m") (c_step (variable_name vars k) ∷ steps) (OfStruct held.name) last
      (λ at. root_memory activity (OfStruct held.name) at held.memory)
      (λ at. ap (λ (first : Judged). record {
        ty = (steps_judged context steps at first.ty).ty;
        faults = first.faults ++
            (steps_judged context steps at first.ty).faults;
      })
      (step-judged context (variable_name vars k) at (Some (OfStruct held.name))
      ∙ into_member context (variable_name vars k) (OfStruct held.name) ty at held.member)
      ∙ ends at)
  home_place activity Local vars k ty last steps is ends =
      place-is context false (variable_name vars k) steps ty last (λ at. root_plain (variable_name vars k) ty at is) ends
  home_place activity Lent vars k ty last steps is ends =
      place-is context true (variable_name vars k) steps ty last (λ at. root_pointer (variable_name vars k) ty at is) ends

-- ---- paths

-- the place of a path has the C type of the path's type, and that is the one that is written beside it
pub record PathIs (context : Context) (site : TypingContext) (ty : Ty) (root : ℕ) (stood : Stood) : Type 0 where
  pub var : Var
  pub there : var_at site root ≡ Some var
  pub is : PlaceIs context (leads_through site root) (c_type site.structs ty) stood.place
  pub written : stood.ty ≡ ty

module _ (site : TypingContext) (copied : ℕ → Bool) (context : Context) (declared : Declared site copied context)
    (stand : structs_stand_from 0 site.structs ≡ true)
    (inputs_stand : (f : ℕ) (callee : UnitDef) → slice_get site.earlier f ≡ Some callee → list_all
    (λ (var : Var). is_input var.role) (inputs_of callee) ≡ true)
  where
    abbrev structs : List StructDef
    structs = site.structs

    abbrev P : Expr → Type 0
    P e = InActivity site (copied_in copied e) → (ty : Ty) → type_of site e ≡ Some ty → MadeIs context site ty (made_of site e)

    -- the place of a path has the C type of the path's type, and that is known
    abbrev Q : Path → Type 0
    Q path = InActivity site (copied_in_path copied path) → (ty : Ty) → type_of_path site path ≡ Some ty
        → PathIs context site ty (out-Path path).root (stands site path)

    abbrev Made_of : Ty → Made → Type 0
    Made_of = MadeIs context site

    -- the same in other words
    is_as : (ty : Ty) (made other : Made) → made ≡ other → Made_of ty other → Made_of ty made
    is_as ty made other same is = subst (Made_of ty) (sym same) is

    literal_typed : (place : Place) (n : ℤ) (s : ScalarType) → P (expr place (ExprKind-F.Literal n s))
    literal_typed place n s named ty typed =
        let found = where_holds (in_range s n) (Some (scalar s)) ty (rw (fold-roll-Expr, fold-roll-ExprKind) at typed) in
        rw (fold-roll-Expr, fold-roll-ExprKind)
        (subst (λ ty. Made_of ty (Number s (c_literal (c_scalar s) n))) (same_Some (scalar s) ty found.1)
        (number_is context site s (c_literal (c_scalar s) n) (literal-is context (c_scalar s) n)))

    -- ---- what is read

    read_by : (ty : Ty) (place : CPlace) (s : Option ScalarType) → scalar_in ty ≡ s → WholeIs context site ty place → Made_of ty (made_at s place)
    read_by ty place None scalar_is whole = (scalar_is, whole)
    read_by ty place (Some s) scalar_is whole = (
      scalar_is,
      subst (λ t. ExprIs context t (c_read place)) (c_scalar_type structs ty s scalar_is)
          (read-is context (leads_through site whole.root) (c_type structs ty) place whole.is),
    )

    read_typed : (place : Place) (path : Path) → Q path → P (expr place (ExprKind-F.Read path))
    read_typed place path is named ty typed =
        let found = is (λ act. let named_now = named act in rw (fold-roll-Expr, fold-roll-ExprKind) at named_now) ty
        (rw (fold-roll-Expr, fold-roll-ExprKind) at typed) in
        rw (fold-roll-Expr, fold-roll-ExprKind)
        (subst (λ t. Made_of ty (made_at (scalar_in t) (stands site path).place)) (sym found.written)
        (read_by ty (stands site path).place (scalar_in ty) refl (record { root = (out-Path path).root; var = found.var; there = found.there; is = found.is })))

    -- ---- what variables were

    prev_scalar : (var : Var) (s : Option ScalarType) → scalar_in var.ty ≡ s → is_some s ≡ true → scalar_in var.ty ≡ Some (unwrap_or s OfBool)
    prev_scalar var None is there = absurd (cc)
    prev_scalar var (Some s) is there = is

    prev_by : (k : ℕ) (ty : Ty) → InActivity site (copied k) → option_and_then (prev_type site.kind) (var_at site k) ≡ Some ty →
        Made_of ty (Number (scalar_at (var_at site k)) (c_read (c_place false (copy_name site.vars k) [])))
    prev_by k ty copied_k typed =
        let found = some_found (prev_type site.kind) (var_at site k) ty typed in
        let var : Var = found.0 in
        let is = where_holds (is_activity site.kind && (is_variable var.role && is_some (scalar_in var.ty))) (Some var.ty) ty found.2 in
        let there : is_some (scalar_in var.ty) ≡ true = and_second (is_variable var.role) (is_some (scalar_in var.ty))
        (and_second (is_activity site.kind) _ is.0) in
        let s : ScalarType = unwrap_or (scalar_in var.ty) OfBool in
        let scalar_is : scalar_in var.ty ≡ Some s = prev_scalar var (scalar_in var.ty) refl there in
        let place : PlaceIs context false (c_type structs var.ty) (c_place false (copy_name site.vars k) []) =
        variable_place context (copy_name site.vars k) (c_type structs var.ty) (declared.copies k var
        (copied_k (and_first (is_activity site.kind) (is_variable var.role && is_some (scalar_in var.ty)) is.0)) found.1) in
        subst (λ at. Made_of ty (Number (scalar_at at) (c_read (c_place false (copy_name site.vars k) [])))) (sym found.1)
        (subst (λ ty. Made_of ty (Number s (c_read (c_place false (copy_name site.vars k) [])))) (same_Some var.ty ty is.1) (
          scalar_is,
          subst (λ t. ExprIs context t (c_read (c_place false (copy_name site.vars k) []))) (c_scalar_type structs var.ty s scalar_is)
              (read-is context false (c_type structs var.ty) (c_place false (copy_name site.vars k) []) place),
        ))

    prev_typed : (place : Place) (k : ℕ) → P (expr place (ExprKind-F.Prev k))
    prev_typed place k named ty typed =
        rw (fold-roll-Expr, fold-roll-ExprKind)
        (prev_by k ty (λ act. let named_now = named act in rw (fold-roll-Expr, fold-roll-ExprKind) at named_now)
        (rw (fold-roll-Expr, fold-roll-ExprKind) at typed))

    -- ---- operators

    -- an operand of a scalar type: the type of the number that is made of it, and that of its code
    abbrev Operand : ScalarType → Made → Type 0
    Operand s made = (type_made made ≡ s) × NumberIs context s (code_of made)

    operand_by : (t : Ty) (s : ScalarType) (made : Made) → scalar_in t ≡ Some s → Made_of t made → Operand s made
    operand_by t s (Number r code) scalar_is is =
        let same : r ≡ s = same_Some r s (sym is.0 ∙ scalar_is) in
        (same, subst (λ s. NumberIs context s code) same is.1)
    operand_by t s (Whole place) scalar_is is = absurd (let none = sym is.0 ∙ scalar_is in cc)

    operand : (a : Expr) (s : ScalarType) → P a → InActivity site (copied_in copied a) → option_and_then scalar_in (type_of site a) ≡ Some s →
        Operand s (made_of site a)
    operand a s is named typed =
        let found = some_found scalar_in (type_of site a) s typed in
        operand_by found.0 s (made_of site a) found.2 (is named found.0 found.1)

    one_typed : (place : Place) (op : Op) (a : Expr) → P a → P (expr place (ExprKind-F.One op a))
    one_typed place op a is named ty typed =
        let found = some_found (one_type op) (option_and_then scalar_in (type_of site a)) ty (rw (fold-roll-Expr, fold-roll-ExprKind) at typed) in
        let s : ScalarType = found.0 in
        let taken = where_holds (takes_one op s) (Some (scalar (type_of_result op s))) ty found.2 in
        let o = operand a s is (λ act. let named_now = named act in rw (fold-roll-Expr, fold-roll-ExprKind) at named_now) found.1 in
        is_as ty (made_of site (expr place (ExprKind-F.One op a))) (c_one op (type_made (made_of site a)) (code_of (made_of site a)))
        (rw (fold-roll-Expr, fold-roll-ExprKind) refl)
        (subst (λ s. Made_of ty (c_one op s (code_of (made_of site a)))) (sym o.0)
        (subst (λ ty. Made_of ty (c_one op s (code_of (made_of site a)))) (same_Some (scalar (type_of_result op s)) ty taken.1)
        (one_is context site op s (code_of (made_of site a)) taken.0 o.1)))

    two_typed : (place : Place) (op : Op) (a b : Expr) → P a → P b → P (expr place (ExprKind-F.Two op a b))
    two_typed place op a b is other named ty typed =
        let found = some_found (λ s. option_and_then (two_type op s) (option_and_then scalar_in (type_of site b)))
        (option_and_then scalar_in (type_of site a)) ty (rw (fold-roll-Expr, fold-roll-ExprKind) at typed) in
        let s : ScalarType = found.0 in
        let right = some_found (two_type op s) (option_and_then scalar_in (type_of site b)) ty found.2 in
        let taken = where_holds (same_scalar s right.0 && takes_two op s) (Some (scalar (type_of_result op s))) ty right.2 in
        let same : s ≡ right.0 = same_scalar_is s right.0 (and_first (same_scalar s right.0) (takes_two op s) taken.0) in
        let all : InActivity site (copied_in copied a && copied_in copied b) =
        λ act. let named_now = named act in rw (fold-roll-Expr, fold-roll-ExprKind) at named_now in
        let o = operand a s is (λ act. and_first (copied_in copied a) (copied_in copied b) (all act)) found.1 in
        let p = operand b s other (λ act. and_second (copied_in copied a) (copied_in copied b) (all act)) (right.1 ∙ ap Some (sym same)) in
        is_as ty (made_of site (expr place (ExprKind-F.Two op a b)))
        (c_both op (type_made (made_of site a)) (code_of (made_of site a)) (code_of (made_of site b)))
        (rw (fold-roll-Expr, fold-roll-ExprKind) refl)
        (subst (λ s. Made_of ty (c_both op s (code_of (made_of site a)) (code_of (made_of site b)))) (sym o.0)
        (subst (λ ty. Made_of ty (c_both op s (code_of (made_of site a)) (code_of (made_of site b)))) (same_Some (scalar (type_of_result op s)) ty taken.1)
        (both_is context site op s (code_of (made_of site a)) (code_of (made_of site b))
        (and_second (same_scalar s right.0) (takes_two op s) taken.0) o.1 p.1)))

    cast_typed : (place : Place) (target : ScalarType) (a : Expr) → P a → P (expr place (ExprKind-F.Cast target a))
    cast_typed place target a is named ty typed =
        let found = some_found (cast_type target) (option_and_then scalar_in (type_of site a)) ty (rw (fold-roll-Expr, fold-roll-ExprKind) at typed) in
        let s : ScalarType = found.0 in
        let whole = where_holds (is_whole target && is_whole s) (Some (scalar target)) ty found.2 in
        let o = operand a s is (λ act. let named_now = named act in rw (fold-roll-Expr, fold-roll-ExprKind) at named_now) found.1 in
        is_as ty (made_of site (expr place (ExprKind-F.Cast target a)))
        (Number target (c_cast (type_made (made_of site a)) target (code_of (made_of site a))))
        (rw (fold-roll-Expr, fold-roll-ExprKind) refl)
        (subst (λ s. Made_of ty (Number target (c_cast s target (code_of (made_of site a))))) (sym o.0)
        (subst (λ ty. Made_of ty (Number target (c_cast s target (code_of (made_of site a))))) (same_Some (scalar target) ty whole.1)
        (number_is context site target (c_cast s target (code_of (made_of site a)))
        (cast_is context s target (code_of (made_of site a)) (and_second (is_whole target) (is_whole s) whole.0)
        (and_first (is_whole target) (is_whole s) whole.0) o.1))))

    -- ---- calls

    -- an argument suits a parameter, and nothing fails in it
    abbrev Suits : Variable → JudgedArg → Type 0
    Suits v j = (fits_arg false v j ≡ true) × (j.faults ≡ [])

    value_suits : (pointer : Bool) (wanted ty : CType) → pointer ≡ false → same_c_type wanted ty ≡ true → Suits
        (variable_of pointer wanted) (of_value (sound ty))
    value_suits true wanted ty plain same = absurd (cc)
    value_suits false wanted ty plain same = (same, refl)

    pub address_suits : (pointer through : Bool) (wanted ty : CType) → pointer ≡ true → same_c_type wanted ty ≡ true →
        Suits (variable_of pointer wanted) (of_address (sound_place through ty))
    address_suits true through wanted ty plain same = (same, refl)
    address_suits false through wanted ty plain same = absurd (cc)

    no_output : (role : Role) (rest : Bool) → is_input role ≡ true → (is_output role || rest) ≡ rest
    no_output Input rest h = refl
    no_output Output rest h = absurd (cc)
    no_output OfVariable rest h = absurd (cc)
    no_output Fixed rest h = absurd (cc)

    arg_suits : (var : Var) (made : Made) (at : Place) → is_input var.role ≡ true → Made_of var.ty made →
        Suits (parameter_for structs var) (judged_arg (arg_of made) context at)
    arg_suits var (Number s code) at input is =
        subst (Suits (parameter_for structs var)) (sym (value_arg-is context (OfScalar (c_scalar s)) code at is.1))
        (value_suits (is_output var.role || is_none (scalar_in var.ty)) (c_type structs var.ty) (OfScalar (c_scalar s))
        (no_output var.role (is_none (scalar_in var.ty)) input ∙ ap is_none is.0)
        (ap (λ t. same_c_type t (OfScalar (c_scalar s))) (c_scalar_type structs var.ty s is.0) ∙ type_same (OfScalar (c_scalar s))))
    arg_suits var (Whole place) at input is =
        subst (Suits (parameter_for structs var)) (sym (address_arg-is context (leads_through site is.1.root) (c_type structs var.ty) place at is.1.is))
        (address_suits (is_output var.role || is_none (scalar_in var.ty)) (leads_through site is.1.root) (c_type structs var.ty) (c_type structs var.ty)
        (no_output var.role (is_none (scalar_in var.ty)) input ∙ ap is_none is.0) (type_same (c_type structs var.ty)))

    -- arguments suit their parameters, one for one, and nothing fails in them
    abbrev pub SuitAll : List Var → List JudgedArg → Type 0
    SuitAll vars judged = (fit_each false (map (parameter_for structs) vars) judged ≡ true) × (faults_of_args judged ≡ [])

    pub one_more : (var : Var) (vars : List Var) (j : JudgedArg) (judged : List JudgedArg) → Suits (parameter_for structs var) j → SuitAll vars judged →
        SuitAll (var ∷ vars) (j ∷ judged)
    one_more var vars j judged one rest = (
      and_from (fits_arg false (parameter_for structs var) j) (fit_each false (map (parameter_for structs) vars) judged) one.0 rest.0,
      (λ i. one.1 i ++ rest.1 i),
    )

    -- the arguments that are made of expressions
    abbrev pub inputs_judged : List Expr → Place → List JudgedArg
    inputs_judged inputs at = judged_args context (map arg_of (map (made_of site) inputs)) at

    abbrev InputsSuit : List Expr → Place → Type 0
    InputsSuit inputs at = (vars : List Var) → types_match (map (type_of site) inputs) vars ≡ true
        → list_all (λ (var : Var). is_input var.role) vars ≡ true →
        SuitAll vars (inputs_judged inputs at)

    first_input : (e : Expr) (inputs : List Expr) (at : Place) → P e → InActivity site (copied_in copied e)
        → InputsSuit inputs at → (t : Option Ty) → type_of site e ≡ t →
        (vars : List Var) → types_match (t ∷ map (type_of site) inputs) vars ≡ true → list_all (λ (var : Var). is_input var.role) vars ≡ true →
        SuitAll vars (inputs_judged (e ∷ inputs) at)
    first_input e inputs at one named more None is [] typed input = absurd (cc)
    first_input e inputs at one named more (Some t) is [] typed input = absurd (cc)
    first_input e inputs at one named more None is (var ∷ vars) typed input = absurd (cc)
    first_input e inputs at one named more (Some t) is (var ∷ vars) typed input =
        let same : t ≡ var.ty = same_type_is t var.ty (and_first (same_type t var.ty) (types_match (map (type_of site) inputs) vars) typed) in
        one_more var vars (judged_arg (arg_of (made_of site e)) context at) (inputs_judged inputs at)
        (arg_suits var (made_of site e) at (and_first (is_input var.role) (list_all (λ (var : Var). is_input var.role) vars) input)
        (one named var.ty (is ∙ ap Some same)))
        (more vars (and_second (same_type t var.ty) (types_match (map (type_of site) inputs) vars) typed)
        (and_second (is_input var.role) (list_all (λ (var : Var). is_input var.role) vars) input))

    pub inputs_suit : (inputs : List Expr) (at : Place) → All P inputs → InActivity site (all_of (map (copied_in copied) inputs)) → InputsSuit inputs at
    inputs_suit [] at each all [] typed input = (refl, refl)
    inputs_suit [] at each all (var ∷ vars) typed input = absurd (cc)
    inputs_suit (e ∷ inputs) at each all vars typed input =
        first_input e inputs at (All-head P e inputs each) (λ act. and_first (copied_in copied e) (all_of (map (copied_in copied) inputs)) (all act))
        (inputs_suit inputs at (All-tail P e inputs each) (λ act. and_second (copied_in copied e) (all_of (map (copied_in copied) inputs)) (all act)))
        (type_of site e) refl
        vars typed input

    -- the function of a unit that is called
    pub callee_known : (f : ℕ) (callee : UnitDef) → slice_get site.earlier f ≡ Some callee → is_function callee.kind ≡ true →
        signature_of context (unit_name callee.name) ≡ Some (signature_for structs callee)
    callee_known f callee there function =
        ap (λ o. signature_as o (context.functions (unit_name callee.name))) (unit_named callee.name) ∙ declared.functions f callee there function

    inputs_alone : (callee : UnitDef) → callee.outputs ≡ 0 → parameters_of callee ≡ inputs_of callee
    inputs_alone callee none =
        let few : callee.inputs + callee.outputs ≡ callee.inputs = omega (arith, none) in ap (λ n. take n callee.vars) few

    result_there : (ty : Ty) (o : Option ScalarType) → option_map scalar o ≡ Some ty → (s : ScalarType) × (o ≡ Some s) × (scalar s ≡ ty)
    result_there ty None h = absurd (cc)
    result_there ty (Some s) h = (s, refl, same_Some (scalar s) ty h)

    call_by : (f : ℕ) (inputs : List Expr) (ty : Ty) → All P inputs → InActivity site (all_of (map (copied_in copied) inputs)) →
        option_and_then (call_type (map (type_of site) inputs)) (slice_get site.earlier f) ≡ Some ty →
        Made_of ty (made_call (slice_get site.earlier f) (map arg_of (map (made_of site) inputs)))
    call_by f inputs ty each all typed =
        let found = some_found (call_type (map (type_of site) inputs)) (slice_get site.earlier f) ty typed in
        let callee : UnitDef = found.0 in
        let shape : Bool = nat_eq callee.outputs 0 && types_match (map (type_of site) inputs) (inputs_of callee) in
        let is = where_holds (is_function callee.kind && shape) (option_map scalar callee.result) ty found.2 in
        let fitting : shape ≡ true = and_second (is_function callee.kind) shape is.0 in
        let none : callee.outputs ≡ 0 = eqb-true callee.outputs 0
        (and_first (nat_eq callee.outputs 0) (types_match (map (type_of site) inputs) (inputs_of callee)) fitting) in
        let matched : types_match (map (type_of site) inputs) (inputs_of callee) ≡ true =
        and_second (nat_eq callee.outputs 0) (types_match (map (type_of site) inputs) (inputs_of callee)) fitting in
        let result = result_there ty callee.result is.1 in
        let suit = inputs_suit inputs nowhere each all (inputs_of callee) matched (inputs_stand f callee found.1) in
        let args : List CArg = map arg_of (map (made_of site) inputs) in
        let code : CExpr = c_called (unit_name callee.name) args in
        subst (λ (at : Option UnitDef). Made_of ty (made_call at args)) (sym found.1)
        (subst (λ s. Made_of ty (Number (unwrap_or s OfBool) code)) (sym result.1)
        (subst (λ ty. Made_of ty (Number result.0 code)) result.2
        (number_is context site result.0 code
        (called-is context (unit_name callee.name) args (signature_for structs callee) (c_scalar result.0) (inputs_judged inputs nowhere)
        (callee_known f callee found.1 (and_first (is_function callee.kind) shape is.0)) (ap (option_map c_scalar) result.1) refl
        (subst (λ vars. fit_each false (map (parameter_for structs) vars) (inputs_judged inputs nowhere) ≡ true) (sym (inputs_alone callee none)) suit.0)
        suit.1))))

    call_typed : (place : Place) (f : ℕ) (inputs : List Expr) → All P inputs → P (expr place (ExprKind-F.Call f inputs))
    call_typed place f inputs each named ty typed =
        is_as ty (made_of site (expr place (ExprKind-F.Call f inputs))) (made_call (slice_get site.earlier f) (map arg_of (map (made_of site) inputs)))
        (rw (fold-roll-Expr, fold-roll-ExprKind) refl)
        (call_by f inputs ty each (λ act. let named_now = named act in rw (fold-roll-Expr, fold-roll-ExprKind) at named_now)
        (rw (fold-roll-Expr, fold-roll-ExprKind) at typed))

    -- ---- parts of paths

    abbrev Arrays : Ty → Type 0
    Arrays = Known structs stand context declared.types.definitions

    element_is : (a c : Ty) (layer : Ty-F Ty) → out-Ty a ≡ layer → element_in layer ≡ Some c → (n : ℕ) × (out-Ty a ≡ Ty-F.Array n c)
    element_is a c (Ty-F.Scalar s) is found = absurd (cc)
    element_is a c (Ty-F.Struct s) is found = absurd (cc)
    element_is a c (Ty-F.Array n inner) is found = (n, is ∙ ap (Ty-F.Array n) (same_Some inner c found))

    -- an index whose type is a whole number
    index_typed : (index : Option Ty) (t : Option Ty) (c : Ty) → where_whole index t ≡ Some c →
        (s : ScalarType) × (option_and_then scalar_in index ≡ Some s) × (is_whole s ≡ true) × (t ≡ Some c)
    index_typed None t c is = absurd (cc)
    index_typed (Some ty) t c is = by (scalar_in ty) refl is
      where
        by : (o : Option ScalarType) → scalar_in ty ≡ o → option_and_then (λ s. if is_whole s then t else None) o ≡ Some c →
            (s : ScalarType) × (option_and_then scalar_in (Some ty) ≡ Some s) × (is_whole s ≡ true) × (t ≡ Some c)
        by None found h = absurd (cc)
        by (Some s) found h = let whole = where_holds (is_whole s) t c h in (s, found, whole.0, whole.1)

    -- the step of a part, into the type before it, and the type behind it
    abbrev PartIs : Part → Ty → Ty → Type 0
    PartIs part a c =
        ((step_typing site part (Some a)).ty ≡ Some c)
        × ((at : Place) → judged_step (step_typing site part (Some a)).step context at (Some (c_type structs a)) ≡ sound (c_type structs c))
        × Arrays c

    part_by : (layer : Part-F ExprKind Part Expr Path) (a c : Ty) → OfIndex P layer → InActivity site (copied_in_part copied (roll-Part layer)) →
        type_of_part site (roll-Part layer) a ≡ Some c → Arrays a → PartIs (roll-Part layer) a c
    part_by (Part-F.Field k) a c is named typed known =
        let f = field_is structs stand context declared.types.definitions a c k (rw fold-roll-Part at typed) in
        rw fold-roll-Part (
          f.0,
          λ at. step-judged context (field_name (name_of_field (field_at structs k (Some a)))) at (Some (c_type structs a)) ∙ f.1 at,
          f.2,
        )
    part_by (Part-F.Index e) a c is named typed known =
        let found = index_typed (type_of site e) (element_in (out-Ty a)) c (rw fold-roll-Part at typed) in
        let s : ScalarType = found.0 in
        let o = operand e s is (λ act. let named_now = named act in rw fold-roll-Part at named_now) found.1 in
        let inner = element_is a c (out-Ty a) refl found.3 in
        let n : ℕ = inner.0 in
        let long : length_in (out-Ty a) ≡ n = ap length_in inner.1 in
        let element = element_known structs stand context declared.types.definitions a c 0 n inner.1 known in
        rw fold-roll-Part (
          found.3,
          λ at. (λ i. judged_step (c_element elements_name (c_index (is_int (o.0 i)) (code_of (made_of site e)) (long i))) context at
              (Some (c_type structs a)))
              ∙ element-is context elements_name (is_int s) (code_of (made_of site e)) n at
              (c_type structs c) (OfScalar (c_scalar s)) (Some (c_type structs a))
              o.1 (index_suits s found.2) (element.0 at),
          element.1,
        )

    part_is : (part : Part) (a c : Ty) → OfIndex P (out-Part part) → InActivity site (copied_in_part copied part)
        → type_of_part site part a ≡ Some c → Arrays a →
        PartIs part a c
    part_is part a c = subst
        (λ part. OfIndex P (out-Part part) → InActivity site (copied_in_part copied part)
        → type_of_part site part a ≡ Some c → Arrays a → PartIs part a c)
        (roll-out-Part part)
        (λ is. part_by (out-Part part) a c (subst (OfIndex P) (out-roll-Part (out-Part part)) is))

    -- ---- paths

    -- what is judged of further steps, behind a first
    abbrev behind : Judged → List CStep → Place → Judged
    behind first steps at = record {
      ty = (steps_judged context steps at first.ty).ty;
      faults = first.faults ++ (steps_judged context steps at first.ty).faults;
    }

    steps_are : (parts : List Part) → EachIndex P parts → InActivity site (all_of (map (copied_in_part copied) parts)) → (a b : Ty) →
        after_parts (map (type_of_part site) parts) a ≡ Some b → Arrays a → (at : Place) →
        steps_judged context (steps_of (map (step_typing site) parts) (Some a)) at (Some (c_type structs a)) ≡ sound (c_type structs b)
    steps_are [] each all a b typed known at = ap (λ ty. sound (c_type structs ty)) (same_Some a b typed)
    steps_are (part ∷ rest) each all a b typed known at =
        let found = some_found (after_parts (map (type_of_part site) rest)) (type_of_part site part a) b typed in
        let c : Ty = found.0 in
        let one = part_is part a c (All-head (λ part. OfIndex P (out-Part part)) part rest each)
        (λ act. and_first (copied_in_part copied part) (all_of (map (copied_in_part copied) rest)) (all act)) found.1 known in
        let more : steps_judged context (steps_of (map (step_typing site) rest) (Some c)) at (Some (c_type structs c)) ≡ sound (c_type structs b) =
        steps_are rest (All-tail (λ part. OfIndex P (out-Part part)) part rest each)
        (λ act. and_second (copied_in_part copied part) (all_of (map (copied_in_part copied) rest)) (all act)) c b found.2 one.2 at in
        (λ i. behind (one.1 at i) (steps_of (map (step_typing site) rest) (one.0 i)) at) ∙ more

    rooted_at : (path : Path) (root : ℕ) (ty : Ty) (stood : Stood) → (out-Path path).root ≡ root → PathIs context site ty root stood →
        PathIs context site ty (out-Path path).root stood
    rooted_at path root ty stood is at = subst (λ (n : ℕ). PathIs context site ty n stood) (sym is) at

    path_typed : (place : Place) (root : ℕ) (parts : List Part) (written : Ty) → EachIndex P parts →
        Q (roll-Path (record { place = place; root = root; parts = parts; ty = written }))
    path_typed place root parts written each named ty typed =
        let whole = some_found (where_same written) (option_and_then (λ (var : Var). after_parts (map (type_of_part site) parts) var.ty)
        (var_at site root)) ty (rw fold-roll-Path at typed) in
        let found = some_found (λ (var : Var). after_parts (map (type_of_part site) parts) var.ty) (var_at site root) whole.0 whole.1 in
        let var : Var = found.0 in
        let is = where_holds (same_type written whole.0) (Some whole.0) ty whole.2 in
        let same : whole.0 ≡ ty = same_Some whole.0 ty is.1 in
        let ends : (at : Place) → steps_judged context (steps_of (map (step_typing site) parts) (Some var.ty)) at
        (Some (c_type structs var.ty)) ≡ sound (c_type structs ty) =
        λ at. steps_are parts each (λ act. let named_now = named act in rw fold-roll-Path at named_now) var.ty ty
        (found.2 ∙ ap Some same) (declared.types.variables root var found.1) at in
        let home : (o : Option Var) → o ≡ Some var → PlaceIs context (home_leads (is_activity site.kind) (home_of site o)) (c_type structs ty)
        (place_by_steps (is_activity site.kind) (home_of site o) site.vars root (steps_of (map (step_typing site) parts) (type_at o))) =
        λ o there. subst (λ o. PlaceIs context (home_leads (is_activity site.kind) (home_of site o)) (c_type structs ty)
        (place_by_steps (is_activity site.kind) (home_of site o) site.vars root (steps_of (map (step_typing site) parts) (type_at o)))) (sym there)
        (home_place context (is_activity site.kind) (home_of site (Some var)) site.vars root (c_type structs var.ty) (c_type structs ty)
        (steps_of (map (step_typing site) parts) (Some var.ty)) (declared.variables root var found.1) ends) in
        rw fold-roll-Path (rooted_at (roll-Path (record { place = place; root = root; parts = parts; ty = written })) root ty _
        (ap (λ p. p.root) (out-roll-Path (record { place = place; root = root; parts = parts; ty = written }))) (record {
          var = var;
          there = found.1;
          is = home (var_at site root) found.1;
          written = same_type_is written whole.0 is.0 ∙ same;
        }))

    cases : Cases P Q
    cases = record {
      literal = literal_typed;
      read = read_typed;
      prev = prev_typed;
      one = one_typed;
      two = two_typed;
      cast = cast_typed;
      call = call_typed;
      path = path_typed;
    }

    -- what is made of an expression is of its type
    pub made_typed : (e : Expr) → P e
    made_typed = induct P Q cases

    -- and so is the place of a path
    pub place_typed : (path : Path) → Q path
    place_typed = induct_path P Q cases

    -- the code of an expression has the C type of its type
    pub code_is : (ty : Ty) (made : Made) → Made_of ty made → ExprIs context (c_type structs ty) (code_of made)
    code_is ty (Number s code) is = subst (λ t. ExprIs context t code) (sym (c_scalar_type structs ty s is.0)) is.1
    code_is ty (Whole place) is = read-is context (leads_through site is.1.root) (c_type structs ty) place is.1.is
