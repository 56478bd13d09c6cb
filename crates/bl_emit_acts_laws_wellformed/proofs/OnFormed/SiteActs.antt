-- Nothing fails in the C of acts.
use Rattle.std.proofs.Common.{◌≡◌, ℕ, pos, Bool, true, false, ◌&&◌, ◌||◌, List, [], ◌∷◌, ◌++◌, map, length, Option}
use Rattle.std.proofs.Common.{Some, None}
use Rattle.std.proofs.Common.{refl, sym, ap, ◌∙◌, subst, take-add}
use Rattle.std.proofs.lemmas.List.{map-append}
use Rattle.std.proofs.lemmas.Option.{same_Some}
use Rattle.std.specs.Prelude.{is_none, slice_get}
use Rattle.std.specs.List.{list_all}
use Rattle.std.proofs.lemmas.Bool.{and_from}
use Rattle.bl_tree.proofs.Basics.{and_false, and_first, and_second}
use Rattle.bl_tree.specs.declared.place.Place.{Place}
use Rattle.bl_tree.specs.declared.c.CArg.{CArg}
use Rattle.bl_tree.specs.declared.c.CType.TheVariants.{Scalar as OfScalar}
use Rattle.bl_tree.specs.declared.scalar.Scalar.{Scalar as ScalarType}
use Rattle.bl_tree.specs.declared.tree.Expr.{Expr}
use Rattle.bl_tree.specs.declared.tree.Path.{Path, out-Path}
use Rattle.bl_tree.specs.declared.tree.Role.{Role}
use Rattle.bl_tree.specs.declared.tree.Role.TheVariants.{Input, Output, Variable as OfVariable, Fixed}
use Rattle.bl_tree.specs.declared.tree.StructDef.{StructDef}
use Rattle.bl_tree.specs.declared.tree.Ty.{Ty}
use Rattle.bl_tree.specs.declared.tree.Unit.{Unit as UnitDef}
use Rattle.bl_tree.specs.declared.tree.Var.{Var}
use Rattle.bl_tree.specs.Program.{is_input, is_output, parameters_of, structs_stand_from}
use Rattle.bl_tree.specs.Reduce.{all_of, any_of}
use Rattle.bl_tree.specs.Types.{same_type, scalar_in, type_stands}
use Rattle.bl_tree.specs.Typing.{TypingContext, are_same, declaration_fits, inputs_of, is_activity, is_function, is_procedure, is_assignable, outputs_of}
use Rattle.bl_tree.specs.Typing.{type_of, type_of_path}
use Rattle.bl_tree.specs.Typing.{arguments_fit, call_fits, is_fixed, is_variable, types_match, var_at}
use Rattle.bl_eval.proofs.FitLemmas.{same_type_is}
use Rattle.bl_ctext_semantics.specs.Faults.{Context, JudgedArg, Variable, fit_each, fits_arg, judged_arg}
use Rattle.bl_emit_acts.specs.declared.made.Made.{Made}
use Rattle.bl_emit_acts.specs.declared.made.Made.TheVariants.{Number, Whole}
use Rattle.bl_emit_acts.specs.Acts.{c_calling, c_copied, c_set, c_zeroed, call_args, call_made, copy_code, initial_code, name_of_callee}
use Rattle.bl_emit_acts.specs.Acts.{output_arg, zeroed}
use Rattle.bl_emit_acts.specs.Expressions.{arg_of, code_of, made_of, stands, type_at}
use Rattle.bl_emit_acts.specs.Places.{home_of, place_by_steps, place_in}
use Rattle.bl_emit_acts.specs.Trees.{c_call, c_literal, c_place, c_read, nowhere}
use Rattle.bl_emit_acts.specs.Types.{c_scalar, c_type, copy_name, type_name, unit_name}
use Rattle.bl_emit_acts_laws_simulation.specs.Encodes.{copied_in, copied_in_path}
use Rattle.bl_emit_acts_laws_wellformed.specs.Formed.Declared.{ChangesNone, Declared, InActivity, home_leads, leads_through, parameter_for, signature_for}
use Rattle.bl_emit_acts_laws_wellformed.specs.Formed.Formed.{BlockIs, ExprIs, PlaceIs, StmtIs, sound_place}
use Rattle.bl_emit_acts_laws_wellformed.proofs.OnFormed.Acts.{Allowed, NoneHanded, block_append, block_nil, block_one, calling-is, clear-is, set-is}
use Rattle.bl_emit_acts_laws_wellformed.proofs.OnFormed.Judged.{address_arg-is, faults_of_args, judged_args, literal-is, of_address, read-is, value_arg-is}
use Rattle.bl_emit_acts_laws_wellformed.proofs.OnFormed.Operators.{MadeIs}
use Rattle.bl_emit_acts_laws_wellformed.proofs.OnFormed.Parts.{c_scalar_type}
use Rattle.bl_emit_acts_laws_wellformed.proofs.OnFormed.Prelude.{type_same}
use Rattle.bl_emit_acts_laws_wellformed.proofs.OnFormed.Typed.{PathIs, address_suits, callee_known, code_is, home_place, inputs_judged, inputs_suit}
use Rattle.bl_emit_acts_laws_wellformed.proofs.OnFormed.Typed.{made_typed}
use Rattle.bl_emit_acts_laws_wellformed.proofs.OnFormed.Typed.{place_typed, variable_place}
use Rattle.bl_emit_acts_laws_wellformed.proofs.OnFormed.TypeNames.{type_declared, whole_type}

-- what is asked of the earlier units
pub record EarlierStand (site : TypingContext) : Type 0 where
  pub inputs : (f : ℕ) (callee : UnitDef) → slice_get site.earlier f ≡ Some callee → list_all
      (λ (var : Var). is_input var.role) (inputs_of callee) ≡ true
  pub outputs : (f : ℕ) (callee : UnitDef) → slice_get site.earlier f ≡ Some callee → list_all
      (λ (var : Var). is_output var.role) (outputs_of callee) ≡ true

each_plain : (is_read_only a b : Bool) → (is_read_only && a) ≡ false → (is_read_only && b) ≡ false → (is_read_only && (a || b)) ≡ false
each_plain false a b h k = refl
each_plain true false b h k = k
each_plain true true b h k = absurd (cc)

module _ (site : TypingContext) (copied : ℕ → Bool) (context : Context) (declared : Declared site copied context)
    (stand : structs_stand_from 0 site.structs ≡ true) (earlier : EarlierStand site)
    (typed_vars : (k : ℕ) (var : Var) → var_at site k ≡ Some var → type_stands (length site.structs) var.ty ≡ true)
    (plain : ChangesNone site context) where
  abbrev structs : List StructDef
  structs = site.structs

  allowed_at : (k : ℕ) (var : Var) → var_at site k ≡ Some var → Allowed context (leads_through site k)
  allowed_at k var there = by context.is_read_only refl
    where
      by : (b : Bool) → context.is_read_only ≡ b → (b && leads_through site k) ≡ false
      by false is = refl
      by true is = plain is k var there

  made_is : (e : Expr) (ty : Ty) → InActivity site (copied_in copied e) → type_of site e ≡ Some ty → MadeIs context site ty (made_of site e)
  made_is e ty named typed = made_typed site copied context declared stand earlier.inputs e named ty typed

  pub code_typed : (e : Expr) (ty : Ty) → InActivity site (copied_in copied e) → type_of site e ≡ Some ty → ExprIs context
      (c_type structs ty) (code_of (made_of site e))
  code_typed e ty named typed = code_is site copied context declared stand earlier.inputs ty (made_of site e) (made_is e ty named typed)

  path_is : (path : Path) (ty : Ty) → InActivity site (copied_in_path copied path) → type_of_path site path ≡ Some ty →
      PathIs context site ty (out-Path path).root (stands site path)
  path_is path ty named typed = place_typed site copied context declared stand earlier.inputs path named ty typed

  -- ---- types that are one

  pub same_types : (a b : Option Ty) → are_same a b ≡ true → (ty : Ty) × (a ≡ Some ty) × (b ≡ Some ty)
  same_types None None h = absurd (cc)
  same_types None (Some b) h = absurd (cc)
  same_types (Some a) None h = absurd (cc)
  same_types (Some a) (Some b) h = (a, refl, ap Some (sym (same_type_is a b h)))

  -- ---- assignments

  pub assign_is : (path : Path) (e : Expr) → (is_assignable site path && are_same (type_of_path site path) (type_of site e)) ≡ true →
      InActivity site (copied_in_path copied path) → InActivity site (copied_in copied e) → StmtIs context
      (c_set (stands site path).place (code_of (made_of site e)))
  assign_is path e fits path_named named =
      let same = same_types (type_of_path site path) (type_of site e) (and_second (is_assignable site path)
      (are_same (type_of_path site path) (type_of site e)) fits) in
      let at = path_is path same.0 path_named same.1 in
      set-is context (leads_through site (out-Path path).root) (c_type structs same.0) (stands site path).place (code_of (made_of site e)) at.is
      (code_typed e same.0 named same.2) (allowed_at (out-Path path).root at.var at.there)

  -- ---- declarations

  -- the place of a variable
  pub own_place : (k : ℕ) (var : Var) → var_at site k ≡ Some var → PlaceIs context (leads_through site k) (c_type structs var.ty) (place_in site k [])
  own_place k var there =
      subst (λ o. PlaceIs context (home_leads (is_activity site.kind) (home_of site o)) (c_type structs var.ty)
      (place_by_steps (is_activity site.kind) (home_of site o) site.vars k []))
      (sym there)
      (home_place context (is_activity site.kind) (home_of site (Some var)) site.vars k (c_type structs var.ty) (c_type structs var.ty) []
      (declared.variables k var there)
      (λ at. refl))

  zeroed_by : (k : ℕ) (var : Var) → var_at site k ≡ Some var → (s : Option ScalarType) → scalar_in var.ty ≡ s →
      StmtIs context (c_zeroed structs (place_in site k []) var.ty s)
  zeroed_by k var there (Some s) is =
      set-is context (leads_through site k) (c_type structs var.ty) (place_in site k []) (c_literal (c_scalar s) (pos 0)) (own_place k var there)
      (subst (λ t. ExprIs context t (c_literal (c_scalar s) (pos 0))) (sym (c_scalar_type structs var.ty s is)) (literal-is context (c_scalar s) (pos 0)))
      (allowed_at k var there)
  zeroed_by k var there None is =
      clear-is context (leads_through site k) (place_in site k []) (type_name structs var.ty)
      (subst (λ t. PlaceIs context (leads_through site k) t (place_in site k [])) (whole_type structs var.ty is) (own_place k var there))
      (type_declared structs context declared.types.definitions var.ty (typed_vars k var there) is (declared.types.variables k var there))
      (allowed_at k var there)

  zeroed_is : (k : ℕ) (var : Var) → var_at site k ≡ Some var → BlockIs context (zeroed structs (place_in site k []) (type_at (var_at site k)))
  zeroed_is k var there =
      subst (λ o. BlockIs context (zeroed structs (place_in site k []) (type_at o))) (sym there)
      (block_one context (c_zeroed structs (place_in site k []) var.ty (scalar_in var.ty)) (zeroed_by k var there (scalar_in var.ty) refl))

  copy_is : (k : ℕ) (var : Var) → var_at site k ≡ Some var → copied k ≡ true → StmtIs context (c_copied site k)
  copy_is k var there copied_k =
      set-is context false (c_type structs var.ty) (c_place false (copy_name site.vars k) []) (c_read (place_in site k []))
      (variable_place context (copy_name site.vars k) (c_type structs var.ty) (declared.copies k var copied_k there))
      (read-is context (leads_through site k) (c_type structs var.ty) (place_in site k []) (own_place k var there)) (and_false context.is_read_only)

  copies_are : (k : ℕ) (var : Var) → var_at site k ≡ Some var → (b : Bool) → copied k ≡ b → BlockIs context (copy_code site b k)
  copies_are k var there true is = block_one context (c_copied site k) (copy_is k var there is)
  copies_are k var there false is = block_nil context

  -- an initial value that is named, where there is one
  abbrev pub named_initial : Option Expr → Bool
  named_initial (Some e) = copied_in copied e
  named_initial None = true

  initial_by : (k : ℕ) (var : Var) → var_at site k ≡ Some var → (initial : Option Expr) → declaration_fits site initial (Some var) ≡ true →
      InActivity site (named_initial initial) → BlockIs context (initial_code site k initial)
  initial_by k var there None fits named = zeroed_is k var there
  initial_by k var there (Some e) fits named =
      let same = same_types (Some var.ty) (type_of site e)
      (and_second (is_variable var.role || is_fixed var.role) (are_same (Some var.ty) (type_of site e)) fits) in
      let ty : Ty = same.0 in
      let own : PlaceIs context (leads_through site k) (c_type structs ty) (place_in site k []) =
      subst (λ t. PlaceIs context (leads_through site k) (c_type structs t) (place_in site k [])) (same_Some var.ty ty same.1) (own_place k var there) in
      block_one context (c_set (place_in site k []) (code_of (made_of site e)))
      (set-is context (leads_through site k) (c_type structs ty) (place_in site k []) (code_of (made_of site e)) own (code_typed e ty named same.2)
      (allowed_at k var there))

  declare_by : (k : ℕ) (initial : Option Expr) (o : Option Var) → var_at site k ≡ o → declaration_fits site initial o
      ≡ true → InActivity site (named_initial initial) →
      (b : Bool) → (b ≡ true → copied k ≡ true) → BlockIs context (initial_code site k initial ++ copy_code site b k)
  declare_by k (Some e) None there fits named b is = absurd (cc)
  declare_by k None None there fits named b is = absurd (cc)
  declare_by k initial (Some var) there fits named b is =
      block_append context (initial_code site k initial) (copy_code site b k) (initial_by k var there initial fits named) (copies b is)
    where
      copies : (b : Bool) → (b ≡ true → copied k ≡ true) → BlockIs context (copy_code site b k)
      copies true is = copies_are k var there true (is refl)
      copies false is = block_nil context

  -- a declaration, with the copy or without it
  pub declare_is : (k : ℕ) (initial : Option Expr) → declaration_fits site initial (var_at site k) ≡ true → InActivity site (named_initial initial) →
      (b : Bool) → (b ≡ true → copied k ≡ true) → BlockIs context (initial_code site k initial ++ copy_code site b k)
  declare_is k initial fits named b is = declare_by k initial (var_at site k) refl fits named b is

  -- ---- calls

  -- an argument hands on no pointer where nothing may be changed
  abbrev Plain : JudgedArg → Type 0
  Plain j = (context.is_read_only && (j.address && j.through)) ≡ false

  arg_plain : (ty : Ty) (made : Made) (at : Place) → MadeIs context site ty made → Plain (judged_arg (arg_of made) context at)
  arg_plain ty (Number s code) at is = subst Plain (sym (value_arg-is context (OfScalar (c_scalar s)) code at is.1)) (and_false context.is_read_only)
  arg_plain ty (Whole place) at is =
      subst Plain (sym (address_arg-is context (leads_through site is.1.root) (c_type structs ty) place at is.1.is)) (allowed_at is.1.root is.1.var is.1.there)

  abbrev InputsPlain : List Expr → Type 0
  InputsPlain inputs = (vars : List Var) → types_match (map (type_of site) inputs) vars ≡ true →
      NoneHanded context (inputs_judged site copied context declared stand earlier.inputs inputs nowhere)

  first_plain : (e : Expr) (inputs : List Expr) → InActivity site (copied_in copied e) → InputsPlain inputs →
      (t : Option Ty) → type_of site e ≡ t → (vars : List Var) →
      types_match (t ∷ map (type_of site) inputs) vars ≡ true →
      NoneHanded context (inputs_judged site copied context declared stand earlier.inputs (e ∷ inputs) nowhere)
  first_plain e inputs named more None is [] typed = absurd (cc)
  first_plain e inputs named more (Some t) is [] typed = absurd (cc)
  first_plain e inputs named more None is (var ∷ vars) typed = absurd (cc)
  first_plain e inputs named more (Some t) is (var ∷ vars) typed =
      let j : JudgedArg = judged_arg (arg_of (made_of site e)) context nowhere in
      each_plain context.is_read_only (j.address && j.through)
      (any_of (map (λ (a : JudgedArg). a.address && a.through) (inputs_judged site copied context declared stand earlier.inputs inputs nowhere)))
      (arg_plain t (made_of site e) nowhere (made_is e t named is)) (more vars
      (and_second (same_type t var.ty) (types_match (map (type_of site) inputs) vars) typed))

  inputs_plain : (inputs : List Expr) → InActivity site (all_of (map (copied_in copied) inputs)) → InputsPlain inputs
  inputs_plain [] named vars typed = and_false context.is_read_only
  inputs_plain (e ∷ inputs) named vars typed =
      first_plain e inputs (λ act. and_first (copied_in copied e) (all_of (map (copied_in copied) inputs)) (named act))
      (inputs_plain inputs (λ act. and_second (copied_in copied e) (all_of (map (copied_in copied) inputs)) (named act))) (type_of site e) refl vars typed

  output_pointer : (role : Role) (rest : Bool) → is_output role ≡ true → (is_output role || rest) ≡ true
  output_pointer Output rest h = refl
  output_pointer Input rest h = absurd (cc)
  output_pointer OfVariable rest h = absurd (cc)
  output_pointer Fixed rest h = absurd (cc)

  -- the arguments for outputs
  abbrev outputs_judged : List Path → List JudgedArg
  outputs_judged outputs = judged_args context (map (output_arg site) outputs) nowhere

  -- arguments suit their parameters, and hand on no pointer where nothing may be changed
  abbrev OutputsSuit : List Path → Type 0
  OutputsSuit outputs = (vars : List Var) → types_match (map (type_of_path site) outputs) vars ≡ true → list_all
      (λ (var : Var). is_output var.role) vars ≡ true →
      ((fit_each false (map (parameter_for structs) vars) (outputs_judged outputs) ≡ true) × (faults_of_args (outputs_judged outputs) ≡ []))
      × NoneHanded context (outputs_judged outputs)

  first_output : (path : Path) (outputs : List Path) → InActivity site (copied_in_path copied path) → OutputsSuit outputs
      → (t : Option Ty) → type_of_path site path ≡ t →
      (vars : List Var) → types_match (t ∷ map (type_of_path site) outputs) vars ≡ true
      → list_all (λ (var : Var). is_output var.role) vars ≡ true →
      ((fit_each false (map (parameter_for structs) vars) (outputs_judged (path ∷ outputs)) ≡ true) ×
      (faults_of_args (outputs_judged (path ∷ outputs)) ≡ []))
      × NoneHanded context (outputs_judged (path ∷ outputs))
  first_output path outputs named more None is [] typed roles = absurd (cc)
  first_output path outputs named more (Some t) is [] typed roles = absurd (cc)
  first_output path outputs named more None is (var ∷ vars) typed roles = absurd (cc)
  first_output path outputs named more (Some t) is (var ∷ vars) typed roles =
      let same : t ≡ var.ty = same_type_is t var.ty (and_first (same_type t var.ty) (types_match (map (type_of_path site) outputs) vars) typed) in
      let at = path_is path var.ty named (is ∙ ap Some same) in
      let through : Bool = leads_through site (out-Path path).root in
      let j : JudgedArg = judged_arg (output_arg site path) context nowhere in
      let judged : j ≡ of_address (sound_place through (c_type structs var.ty)) =
      address_arg-is context through (c_type structs var.ty) (stands site path).place nowhere at.is in
      let suits = address_suits site copied context declared stand earlier.inputs (is_output var.role || is_none (scalar_in var.ty)) through
      (c_type structs var.ty) (c_type structs var.ty)
      (output_pointer var.role (is_none (scalar_in var.ty)) (and_first (is_output var.role) (list_all (λ (var : Var). is_output var.role) vars) roles))
      (type_same (c_type structs var.ty)) in
      let rest = more vars (and_second (same_type t var.ty) (types_match (map (type_of_path site) outputs) vars) typed)
      (and_second (is_output var.role) (list_all (λ (var : Var). is_output var.role) vars) roles) in
      let handed : (context.is_read_only && (j.address && j.through)) ≡ false = subst Plain (sym judged) (allowed_at (out-Path path).root at.var at.there) in (
        (
          and_from (fits_arg false (parameter_for structs var) j) (fit_each false (map (parameter_for structs) vars) (outputs_judged outputs))
              (subst (λ j. fits_arg false (parameter_for structs var) j ≡ true) (sym judged) suits.0) rest.0.0,
          (λ i. (judged i).faults ++ rest.0.1 i),
        ),
        each_plain context.is_read_only (j.address && j.through) (any_of (map (λ (a : JudgedArg). a.address && a.through) (outputs_judged outputs))) handed rest.1,
      )

  outputs_suit : (outputs : List Path) → InActivity site (all_of (map (copied_in_path copied) outputs)) → OutputsSuit outputs
  outputs_suit [] named [] typed roles = ((refl, refl), and_false context.is_read_only)
  outputs_suit [] named (var ∷ vars) typed roles = absurd (cc)
  outputs_suit (path ∷ outputs) named vars typed roles =
      first_output path outputs (λ act. and_first (copied_in_path copied path) (all_of (map (copied_in_path copied) outputs)) (named act))
      (outputs_suit outputs (λ act. and_second (copied_in_path copied path) (all_of (map (copied_in_path copied) outputs)) (named act)))
      (type_of_path site path) refl
      vars typed roles

  -- ---- lists of arguments behind one another

  fit_append : (ps qs : List Variable) (xs ys : List JudgedArg) → fit_each false ps xs ≡ true → fit_each false qs ys ≡ true →
      fit_each false (ps ++ qs) (xs ++ ys) ≡ true
  fit_append [] qs [] ys one other = other
  fit_append [] qs (x ∷ xs) ys one other = absurd (cc)
  fit_append (p ∷ ps) qs [] ys one other = absurd (cc)
  fit_append (p ∷ ps) qs (x ∷ xs) ys one other =
      and_from (fits_arg false p x) (fit_each false (ps ++ qs) (xs ++ ys)) (and_first (fits_arg false p x) (fit_each false ps xs) one)
      (fit_append ps qs xs ys (and_second (fits_arg false p x) (fit_each false ps xs) one) other)

  none_front : {A : Type 0} (xs ys : List A) → xs ++ ys ≡ [] → (xs ≡ []) × (ys ≡ [])
  none_front [] ys is = (refl, is)
  none_front (x ∷ xs) ys is = absurd (cc)

  faults_append : (xs ys : List JudgedArg) → faults_of_args xs ≡ [] → faults_of_args ys ≡ [] → faults_of_args (xs ++ ys) ≡ []
  faults_append [] ys one other = other
  faults_append (x ∷ xs) ys one other =
      let parts = none_front x.faults (faults_of_args xs) one in
      (λ i. parts.0 i ++ faults_append xs ys parts.1 other i)

  plain_append : (xs ys : List JudgedArg) → NoneHanded context xs → NoneHanded context ys → NoneHanded context (xs ++ ys)
  plain_append [] ys one other = other
  plain_append (x ∷ xs) ys one other =
      each_plain context.is_read_only (x.address && x.through) (any_of (map (λ (a : JudgedArg). a.address && a.through) (xs ++ ys)))
      (first context.is_read_only (x.address && x.through) (any_of (map (λ (a : JudgedArg). a.address && a.through) xs)) one)
      (plain_append xs ys (later context.is_read_only (x.address && x.through) (any_of (map (λ (a : JudgedArg). a.address && a.through) xs)) one) other)
    where
      first : (is_read_only a b : Bool) → (is_read_only && (a || b)) ≡ false → (is_read_only && a) ≡ false
      first false a b h = refl
      first true false b h = refl
      first true true b h = h

      later : (is_read_only a b : Bool) → (is_read_only && (a || b)) ≡ false → (is_read_only && b) ≡ false
      later false a b h = refl
      later true false b h = h
      later true true b h = absurd (cc)

  judged_append : (xs ys : List CArg) → judged_args context (xs ++ ys) nowhere ≡ judged_args context xs nowhere ++ judged_args context ys nowhere
  judged_append [] ys = refl
  judged_append (x ∷ xs) ys = ap (λ rest. judged_arg x context nowhere ∷ rest) (judged_append xs ys)

  -- ---- a call of a function without a result

  parameters_are : (callee : UnitDef) → parameters_of callee ≡ inputs_of callee ++ outputs_of callee
  parameters_are callee = take-add callee.inputs callee.outputs callee.vars

  call_by : (f : ℕ) (inputs : List Expr) (outputs : List Path) (o : Option UnitDef)
      → slice_get site.earlier f ≡ o → call_fits site inputs outputs o ≡ true →
      InActivity site (all_of (map (copied_in copied) inputs)) → InActivity site (all_of (map (copied_in_path copied) outputs)) →
      StmtIs context (c_calling (c_call (name_of_callee o) (call_args site inputs outputs)))
  call_by f inputs outputs None there fits named path_named = absurd (cc)
  call_by f inputs outputs (Some callee) there fits named path_named =
      let shape : arguments_fit site inputs outputs callee ≡ true = and_second (is_procedure callee) (arguments_fit site inputs outputs callee) fits in
      let function : is_function callee.kind ≡ true =
      and_first (is_function callee.kind) (is_none callee.result) (and_first (is_procedure callee) (arguments_fit site inputs outputs callee) fits) in
      let matched : types_match (map (type_of site) inputs) (inputs_of callee) ≡ true = and_first _ _ shape in
      let path_matched : types_match (map (type_of_path site) outputs) (outputs_of callee) ≡ true = and_first _ _ (and_second _ _ shape) in
      let xs : List JudgedArg = inputs_judged site copied context declared stand earlier.inputs inputs nowhere in
      let ys : List JudgedArg = outputs_judged outputs in
      let one = inputs_suit site copied context declared stand earlier.inputs inputs nowhere
      (λ k d within. made_typed site copied context declared stand earlier.inputs _) named (inputs_of callee) matched
      (earlier.inputs f callee there) in
      let other = outputs_suit outputs path_named (outputs_of callee) path_matched (earlier.outputs f callee there) in
      let all : judged_args context (call_args site inputs outputs) nowhere ≡ xs ++ ys =
      judged_append (map arg_of (map (made_of site) inputs)) (map (output_arg site) outputs) in
      let params : map (parameter_for structs) (parameters_of callee) ≡ map (parameter_for structs) (inputs_of callee) ++ map
      (parameter_for structs) (outputs_of callee) =
      ap (map (parameter_for structs)) (parameters_are callee) ∙ map-append (parameter_for structs) (inputs_of callee) (outputs_of callee) in
      calling-is context (unit_name callee.name) (call_args site inputs outputs) (signature_for structs callee)
      (callee_known site copied context declared stand earlier.inputs f callee there function)
      ((λ i. fit_each false (params i) (all i))
      ∙ fit_append (map (parameter_for structs) (inputs_of callee)) (map (parameter_for structs) (outputs_of callee)) xs ys one.0 other.0.0)
      (ap faults_of_args all ∙ faults_append xs ys one.1 other.0.1)
      (subst (NoneHanded context) (sym all) (plain_append xs ys (inputs_plain inputs named (inputs_of callee) matched) other.1))

  pub call_is : (f : ℕ) (inputs : List Expr) (outputs : List Path) → call_fits site inputs outputs (slice_get site.earlier f) ≡ true →
      InActivity site (all_of (map (copied_in copied) inputs)) → InActivity site (all_of (map (copied_in_path copied) outputs)) →
      StmtIs context (c_calling (call_made site f inputs outputs))
  call_is f inputs outputs fits named path_named = call_by f inputs outputs (slice_get site.earlier f) refl fits named path_named
