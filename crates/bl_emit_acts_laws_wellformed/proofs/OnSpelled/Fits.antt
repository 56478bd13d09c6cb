-- What is made of expressions and paths has a spelling, which is no deeper than what it is made of allows.
use Rattle.std.proofs.Common.{◌≡◌, ℕ, zero, suc, ◌+◌, ◌*◌, ◌^◌, ◌<◌, ◌≤◌, max, ℤ, Bool, true, false, ◌&&◌, List}
use Rattle.std.proofs.Common.{[], ◌∷◌, map, length, Option, Some, None}
use Rattle.std.proofs.Common.{refl, sym, ap, ◌∙◌, subst, arith, codes}
use Rattle.std.proofs.lemmas.List.Elements.{All-head, All-tail}
use Rattle.std.proofs.lemmas.Option.{same_Some, slice_get_within}
use Rattle.std.specs.Prelude.{All, is_some, nat_eq, nat_le, option_and_then, option_map, slice_get, unwrap_or, if◌then◌else◌}
use Rattle.std.specs.List.{list_all}
use Rattle.std.proofs.lemmas.Bool.{and_from}
use Rattle.bl_tree.proofs.Basics.{and_first, and_second}
use Rattle.bl_tree.specs.declared.text.Text.{Text}
use Rattle.bl_tree.specs.declared.c.CArg.{CArg}
use Rattle.bl_tree.specs.declared.c.CExpr.{CExpr}
use Rattle.bl_tree.specs.declared.c.CPlace.{CPlace}
use Rattle.bl_tree.specs.declared.c.CStep.{CStep}
use Rattle.bl_tree.specs.declared.place.Place.{Place}
use Rattle.bl_tree.specs.declared.scalar.Op.{Op}
use Rattle.bl_tree.specs.declared.scalar.Scalar.{Scalar as ScalarType}
use Rattle.bl_tree.specs.declared.scalar.Scalar.TheVariants.{Bool as OfBool}
use Rattle.bl_tree.specs.declared.tree.Expr.{Expr, fold-roll-Expr}
use Rattle.bl_tree.specs.declared.tree.ExprKind.{ExprKind, fold-roll-ExprKind}
use Rattle.bl_tree.specs.declared.tree.ExprKind.TheOpen.{ExprKind-F, Part-F}
use Rattle.bl_tree.specs.declared.tree.Field.{Field}
use Rattle.bl_tree.specs.declared.tree.Part.{Part, fold-Part, fold-roll-Part, out-Part, out-roll-Part, roll-Part, roll-out-Part}
use Rattle.bl_tree.specs.declared.tree.Path.{Path, fold-roll-Path, roll-Path}
use Rattle.bl_tree.specs.declared.tree.StructDef.{StructDef}
use Rattle.bl_tree.specs.declared.tree.Ty.{Ty, fold_out-Ty, map-Ty, out-Ty}
use Rattle.bl_tree.specs.declared.tree.Ty.TheOpen.{Ty-F}
use Rattle.bl_tree.specs.declared.tree.Unit.{Unit as UnitDef}
use Rattle.bl_tree.specs.declared.tree.Var.{Var}
use Rattle.bl_tree.specs.Depths.{expr_depth, expr_layer_depth, kind_depth, part_depth, path_depth, path_layer_depth}
use Rattle.bl_tree.specs.Numbers.{takes_one, takes_two, type_of_result}
use Rattle.bl_tree.specs.Program.{field_names, names_of, structs_stand_from}
use Rattle.bl_tree.specs.Reduce.{greatest}
use Rattle.bl_tree.specs.Scalar.{in_range, is_int, is_whole}
use Rattle.bl_tree.specs.Types.{same_scalar, same_type, scalar, scalar_in, type_stands, type_stands_level}
use Rattle.bl_tree.specs.Typing.{TypingContext, after_parts, call_type, cast_type, element_in, field_in, inputs_of, is_activity, is_function, is_variable, one_type}
use Rattle.bl_tree.specs.Typing.{prev_type, two_type, type_of, type_of_path, types_match, var_at, where_same, where_whole}
use Rattle.bl_tree.specs.Words as words
use Rattle.bl_tree.proofs.ExprInduction.{Cases, EachIndex, OfIndex, expr, induct, induct_path}
use Rattle.bl_eval.proofs.FitLemmas.{same_scalar_is, same_type_is, structs_at}
use Rattle.bl_eval.proofs.OperatorFits.{scalar_alone, some_found, where_holds}
use Rattle.bl_eval.proofs.PartFits.{type_of_part}
use Rattle.bl_eval.proofs.PassLemmas.{all_at}
use Rattle.bl_ctext.specs.Spellable.{is_length}
use Rattle.bl_ctext.specs.inner.Fits.{arg_fits, expr_fits, place_fits, step_fits}
use Rattle.bl_ctext.specs.inner.Prefixes.{is_source_name}
use Rattle.bl_ctext.proofs.Fitting.{expr_fits-more, literal-fits, place-fits, place_fits-more, read-fits, step-fits}
use Rattle.bl_emit_acts.specs.declared.home.Home.{Home}
use Rattle.bl_emit_acts.specs.declared.home.Home.TheVariants.{Held, Local, Lent}
use Rattle.bl_emit_acts.specs.declared.made.Made.{Made}
use Rattle.bl_emit_acts.specs.declared.made.Made.TheVariants.{Number, Whole}
use Rattle.bl_emit_acts.specs.Expressions.{arg_of, c_both, c_cast, c_one, code_of, field_at, field_of_struct, length_in, made_at, made_call, made_of}
use Rattle.bl_emit_acts.specs.Expressions.{name_of_field, scalar_at, stands, step_typing, steps_of, type_at, type_made}
use Rattle.bl_emit_acts.specs.Places.{home_of, place_by_steps}
use Rattle.bl_emit_acts.specs.Trees.{c_called, c_element, c_index, c_literal, c_place, c_read, c_step, nowhere}
use Rattle.bl_emit_acts.specs.Types.{c_scalar, copy_name, elements_name, unit_name, variable_name}
use Rattle.bl_emit_acts.specs.Types as types
use Rattle.bl_emit_acts_laws_wellformed.proofs.OnFormed.Parts.{struct_at}
use Rattle.bl_emit_acts_laws_wellformed.proofs.OnSpelled.Literals.{literal-stands}
use Rattle.bl_emit_acts_laws_wellformed.proofs.OnSpelled.Names.{callee-name, copy-name, elements-name, field-name, memory-name, variable-name}
use Rattle.bl_emit_acts_laws_wellformed.proofs.OnSpelled.Operators.{MadeFits, argument-fits, both-fits, calling-fits, cast-fits, code-fits, one-fits}
use Rattle.bl_emit_acts_laws_wellformed.proofs.OnSpelled.Shapes.{element-fits}

-- how many brackets may be open at once in what is made of a part of this depth
abbrev pub room : ℕ → ℕ
room n = 2 * n + 2

-- the lengths of a type are lengths
pub record Stands (ty : Ty) : Type 0 where
  pub most : ℕ
  pub stands : type_stands most ty ≡ true

-- the depth of a part of a path
abbrev pub depth_of_part : Part → ℕ
depth_of_part = fold-Part ℕ ℕ ℕ ℕ kind_depth part_depth expr_layer_depth path_layer_depth

pub source_name : (name : Text) → words.is_name name ≡ true → is_source_name name ≡ true
unfolding is_source_name
source_name name h = h

module _ (site : TypingContext) (stand : structs_stand_from 0 site.structs ≡ true) (few : length site.vars ≤ 2 ^ 64)
    (named : (f : ℕ) (callee : UnitDef) → slice_get site.earlier f ≡ Some callee → words.is_name callee.name ≡ true)
    (vars_named : list_all words.is_name (names_of site.vars) ≡ true)
    (typed_vars : (k : ℕ) (var : Var) → var_at site k ≡ Some var → type_stands (length site.structs) var.ty ≡ true) where
  abbrev structs : List StructDef
  structs = site.structs

  abbrev P : Expr → Type 0
  P e = (ty : Ty) → type_of site e ≡ Some ty → MadeFits (room (expr_depth e)) ty (made_of site e)

  -- the place of a path fits, and the type behind it is known
  abbrev Q : Path → Type 0
  Q path = (ty : Ty) → type_of_path site path ≡ Some ty → (place_fits (room (path_depth path)) (stands site path).place ≡ true) ×
      ((stands site path).ty ≡ ty)

  below : (k : ℕ) (var : Var) → var_at site k ≡ Some var → k < 2 ^ 64
  below k var there = let within : k < length site.vars = slice_get_within site.vars k var there in omega (arith, within, few)

  -- the same in other words
  fits_as : (d e : ℕ) (ty : Ty) (made other : Made) → d ≡ e → made ≡ other → MadeFits e ty other → MadeFits d ty made
  fits_as d e ty made other deep same fit = subst (λ made. MadeFits d ty made) (sym same) (subst (λ d. MadeFits d ty other) (sym deep) fit)

  more_code : (d e : ℕ) (ty : Ty) (made : Made) → d ≤ e → MadeFits d ty made → expr_fits e (code_of made) ≡ true
  more_code d e ty made le fit = expr_fits-more d e (code_of made) le (code-fits d ty made fit)

  literal_fits : (place : Place) (n : ℤ) (s : ScalarType) → P (expr place (ExprKind-F.Literal n s))
  literal_fits place n s ty typed =
      let found = where_holds (in_range s n) (Some (scalar s)) ty (rw (fold-roll-Expr, fold-roll-ExprKind) at typed) in
      rw (fold-roll-Expr, fold-roll-ExprKind, fold-roll-Expr, fold-roll-ExprKind)
      (subst (λ ty. MadeFits 2 ty (Number s (c_literal (c_scalar s) n))) (same_Some (scalar s) ty found.1)
      (scalar_alone s, literal-fits 2 nowhere (c_scalar s) n (omega arith) (literal-stands s n found.0)))

  -- ---- what is read

  read_by : (d : ℕ) (ty : Ty) (place : CPlace) (s : Option ScalarType) → scalar_in ty ≡ s
      → place_fits d place ≡ true → MadeFits d ty (made_at s place)
  read_by d ty place None scalar_is fit = (scalar_is, fit)
  read_by d ty place (Some s) scalar_is fit = (scalar_is, read-fits d nowhere place fit)

  read_fits : (place : Place) (path : Path) → Q path → P (expr place (ExprKind-F.Read path))
  read_fits place path is ty typed =
      let found = is ty (rw (fold-roll-Expr, fold-roll-ExprKind) at typed) in
      fits_as (room (expr_depth (expr place (ExprKind-F.Read path)))) (room (path_depth path)) ty (made_of site (expr place (ExprKind-F.Read path)))
      (made_at (scalar_in (stands site path).ty) (stands site path).place) (rw (fold-roll-Expr, fold-roll-ExprKind) refl)
      (rw (fold-roll-Expr, fold-roll-ExprKind) refl)
      (subst (λ t. MadeFits (room (path_depth path)) ty (made_at (scalar_in t) (stands site path).place)) (sym found.1)
      (read_by (room (path_depth path)) ty (stands site path).place (scalar_in ty) refl found.0))

  -- ---- what variables were

  prev_scalar : (var : Var) (s : Option ScalarType) → scalar_in var.ty ≡ s → is_some s ≡ true → scalar_in var.ty ≡ Some (unwrap_or s OfBool)
  prev_scalar var None is there = absurd (cc)
  prev_scalar var (Some s) is there = is

  prev_by : (k : ℕ) (ty : Ty) → option_and_then (prev_type site.kind) (var_at site k) ≡ Some ty →
      MadeFits 2 ty (Number (scalar_at (var_at site k)) (c_read (c_place false (copy_name site.vars k) [])))
  prev_by k ty typed =
      let found = some_found (prev_type site.kind) (var_at site k) ty typed in
      let var : Var = found.0 in
      let is = where_holds (is_activity site.kind && (is_variable var.role && is_some (scalar_in var.ty))) (Some var.ty) ty found.2 in
      let there : is_some (scalar_in var.ty) ≡ true = and_second (is_variable var.role) (is_some (scalar_in var.ty))
      (and_second (is_activity site.kind) _ is.0) in
      subst (λ at. MadeFits 2 ty (Number (scalar_at at) (c_read (c_place false (copy_name site.vars k) [])))) (sym found.1)
      (subst (λ ty. MadeFits 2 ty (Number (unwrap_or (scalar_in var.ty) OfBool) (c_read (c_place false (copy_name site.vars k) []))))
      (same_Some var.ty ty is.1) (
        prev_scalar var (scalar_in var.ty) refl there,
        read-fits 2 nowhere (c_place false (copy_name site.vars k) [])
            (place-fits 2 false (copy_name site.vars k) [] (omega arith) (copy-name site.vars k vars_named (below k var found.1)) refl),
      ))

  prev_fits : (place : Place) (k : ℕ) → P (expr place (ExprKind-F.Prev k))
  prev_fits place k ty typed =
      rw (fold-roll-Expr, fold-roll-ExprKind, fold-roll-Expr, fold-roll-ExprKind) (prev_by k ty (rw (fold-roll-Expr, fold-roll-ExprKind) at typed))

  -- ---- operators

  type_by : (d : ℕ) (t : Ty) (s : ScalarType) (made : Made) → scalar_in t ≡ Some s → MadeFits d t made → type_made made ≡ s
  type_by d t s (Number r code) scalar_is fit = same_Some r s (sym fit.0 ∙ scalar_is)
  type_by d t s (Whole place) scalar_is fit = absurd (let none = sym fit.0 ∙ scalar_is in cc)

  -- an operand of a scalar type
  abbrev Operand : ScalarType → ℕ → Made → Type 0
  Operand s d made = (type_made made ≡ s) × (expr_fits d (code_of made) ≡ true)

  operand : (a : Expr) (s : ScalarType) (d : ℕ) → room (expr_depth a) ≤ d → P a → option_and_then scalar_in (type_of site a) ≡ Some s →
      Operand s d (made_of site a)
  operand a s d le is typed =
      let found = some_found scalar_in (type_of site a) s typed in
      let fit = is found.0 found.1 in (
        type_by (room (expr_depth a)) found.0 s (made_of site a) found.2 fit,
        more_code (room (expr_depth a)) d found.0 (made_of site a) le fit,
      )

  one_fits : (place : Place) (op : Op) (a : Expr) → P a → P (expr place (ExprKind-F.One op a))
  one_fits place op a is ty typed =
      let found = some_found (one_type op) (option_and_then scalar_in (type_of site a)) ty (rw (fold-roll-Expr, fold-roll-ExprKind) at typed) in
      let s : ScalarType = found.0 in
      let taken = where_holds (takes_one op s) (Some (scalar (type_of_result op s))) ty found.2 in
      let d : ℕ = room (expr_depth a) in
      let o = operand a s d (omega arith) is found.1 in
      fits_as (room (expr_depth (expr place (ExprKind-F.One op a)))) (room (1 + expr_depth a)) ty (made_of site (expr place (ExprKind-F.One op a)))
      (c_one op (type_made (made_of site a)) (code_of (made_of site a))) (rw (fold-roll-Expr, fold-roll-ExprKind) refl)
      (rw (fold-roll-Expr, fold-roll-ExprKind) refl)
      (subst (λ s. MadeFits (room (1 + expr_depth a)) ty (c_one op s (code_of (made_of site a)))) (sym o.0)
      (subst (λ ty. MadeFits (room (1 + expr_depth a)) ty (c_one op s (code_of (made_of site a)))) (same_Some (scalar (type_of_result op s)) ty taken.1)
      (one-fits d (room (1 + expr_depth a)) (omega arith) (omega arith) op s (code_of (made_of site a)) taken.0 o.1)))

  two_fits : (place : Place) (op : Op) (a b : Expr) → P a → P b → P (expr place (ExprKind-F.Two op a b))
  two_fits place op a b is other ty typed =
      let found = some_found (λ s. option_and_then (two_type op s) (option_and_then scalar_in (type_of site b)))
      (option_and_then scalar_in (type_of site a)) ty (rw (fold-roll-Expr, fold-roll-ExprKind) at typed) in
      let s : ScalarType = found.0 in
      let right = some_found (two_type op s) (option_and_then scalar_in (type_of site b)) ty found.2 in
      let taken = where_holds (same_scalar s right.0 && takes_two op s) (Some (scalar (type_of_result op s))) ty right.2 in
      let same : s ≡ right.0 = same_scalar_is s right.0 (and_first (same_scalar s right.0) (takes_two op s) taken.0) in
      let deep : ℕ = max (expr_depth a) (expr_depth b) in
      let d : ℕ = room deep in
      let o = operand a s d (omega arith) is found.1 in
      let p = operand b s d (omega arith) other (right.1 ∙ ap Some (sym same)) in
      fits_as (room (expr_depth (expr place (ExprKind-F.Two op a b)))) (room (1 + deep)) ty (made_of site (expr place (ExprKind-F.Two op a b)))
      (c_both op (type_made (made_of site a)) (code_of (made_of site a)) (code_of (made_of site b)))
      (rw (fold-roll-Expr, fold-roll-ExprKind) refl) (rw (fold-roll-Expr, fold-roll-ExprKind) refl)
      (subst (λ s. MadeFits (room (1 + deep)) ty (c_both op s (code_of (made_of site a)) (code_of (made_of site b)))) (sym o.0)
      (subst (λ ty. MadeFits (room (1 + deep)) ty (c_both op s (code_of (made_of site a)) (code_of (made_of site b))))
      (same_Some (scalar (type_of_result op s)) ty taken.1)
      (both-fits d (room (1 + deep)) (omega arith) (omega arith) op s (code_of (made_of site a)) (code_of (made_of site b))
      (and_second (same_scalar s right.0) (takes_two op s) taken.0) o.1 p.1)))

  cast_fits : (place : Place) (target : ScalarType) (a : Expr) → P a → P (expr place (ExprKind-F.Cast target a))
  cast_fits place target a is ty typed =
      let found = some_found (cast_type target) (option_and_then scalar_in (type_of site a)) ty (rw (fold-roll-Expr, fold-roll-ExprKind) at typed) in
      let s : ScalarType = found.0 in
      let whole = where_holds (is_whole target && is_whole s) (Some (scalar target)) ty found.2 in
      let d : ℕ = room (expr_depth a) in
      let o = operand a s d (omega arith) is found.1 in
      let from : ScalarType = type_made (made_of site a) in
      fits_as (room (expr_depth (expr place (ExprKind-F.Cast target a)))) (room (1 + expr_depth a)) ty (made_of site (expr place (ExprKind-F.Cast target a)))
      (Number target (c_cast from target (code_of (made_of site a)))) (rw (fold-roll-Expr, fold-roll-ExprKind) refl)
      (rw (fold-roll-Expr, fold-roll-ExprKind) refl)
      (subst (λ ty. MadeFits (room (1 + expr_depth a)) ty (Number target (c_cast from target (code_of (made_of site a)))))
      (same_Some (scalar target) ty whole.1) (
        scalar_alone target,
        cast-fits d (room (1 + expr_depth a)) (omega arith) (omega arith) from target (code_of (made_of site a))
            (and_first (is_whole target) (is_whole s) whole.0) o.1,
      ))

  -- ---- calls

  more_arg : (d e : ℕ) (ty : Ty) (made : Made) → d ≤ e → MadeFits d ty made → arg_fits e (arg_of made) ≡ true
  more_arg d e ty made le fit = argument-fits e ty made (raised made fit)
    where
      raised : (made : Made) → MadeFits d ty made → MadeFits e ty made
      raised (Number s code) fit = (fit.0, expr_fits-more d e code le fit.1)
      raised (Whole place) fit = (fit.0, place_fits-more d e place le fit.1)

  abbrev ArgsFit : List Expr → Type 0
  ArgsFit inputs = (vars : List Var) → types_match (map (type_of site) inputs) vars ≡ true
      → (d : ℕ) → room (greatest (map expr_depth inputs)) ≤ d →
      list_all (arg_fits d) (map arg_of (map (made_of site) inputs)) ≡ true

  first_arg : (e : Expr) (inputs : List Expr) → P e → ArgsFit inputs → (t : Option Ty) → type_of site e ≡ t → (vars : List Var) →
      types_match (t ∷ map (type_of site) inputs) vars ≡ true → (d : ℕ) → room (max (expr_depth e) (greatest (map expr_depth inputs))) ≤ d →
      list_all (arg_fits d) (map arg_of (map (made_of site) (e ∷ inputs))) ≡ true
  first_arg e inputs one more None is [] typed d le = absurd (cc)
  first_arg e inputs one more (Some t) is [] typed d le = absurd (cc)
  first_arg e inputs one more None is (var ∷ vars) typed d le = absurd (cc)
  first_arg e inputs one more (Some t) is (var ∷ vars) typed d le =
      let here : room (expr_depth e) ≤ d = omega (arith, le) in
      let later : room (greatest (map expr_depth inputs)) ≤ d = omega (arith, le) in
      and_from (arg_fits d (arg_of (made_of site e))) (list_all (arg_fits d) (map arg_of (map (made_of site) inputs)))
      (more_arg (room (expr_depth e)) d t (made_of site e) here (one t is))
      (more vars (and_second (same_type t var.ty) (types_match (map (type_of site) inputs) vars) typed) d later)

  args_fit : (inputs : List Expr) → All P inputs → ArgsFit inputs
  args_fit [] each vars typed d le = refl
  args_fit (e ∷ inputs) each vars typed d le =
      first_arg e inputs (All-head P e inputs each) (args_fit inputs (All-tail P e inputs each)) (type_of site e) refl vars typed d le

  result_there : (ty : Ty) (o : Option ScalarType) → option_map scalar o ≡ Some ty → (s : ScalarType) × (o ≡ Some s) × (scalar s ≡ ty)
  result_there ty None h = absurd (cc)
  result_there ty (Some s) h = (s, refl, same_Some (scalar s) ty h)

  call_by : (f : ℕ) (inputs : List Expr) (ty : Ty) → All P inputs →
      option_and_then (call_type (map (type_of site) inputs)) (slice_get site.earlier f) ≡ Some ty →
      MadeFits (room (1 + greatest (map expr_depth inputs))) ty (made_call (slice_get site.earlier f) (map arg_of (map (made_of site) inputs)))
  call_by f inputs ty each typed =
      let found = some_found (call_type (map (type_of site) inputs)) (slice_get site.earlier f) ty typed in
      let callee : UnitDef = found.0 in
      let shape : Bool = nat_eq callee.outputs 0 && types_match (map (type_of site) inputs) (inputs_of callee) in
      let is = where_holds (is_function callee.kind && shape) (option_map scalar callee.result) ty found.2 in
      let matched : types_match (map (type_of site) inputs) (inputs_of callee) ≡ true =
      and_second (nat_eq callee.outputs 0) (types_match (map (type_of site) inputs) (inputs_of callee)) (and_second (is_function callee.kind) shape is.0) in
      let result = result_there ty callee.result is.1 in
      let args : List CArg = map arg_of (map (made_of site) inputs) in
      let code : CExpr = c_called (unit_name callee.name) args in
      let deep : ℕ = greatest (map expr_depth inputs) in
      subst (λ (at : Option UnitDef). MadeFits (room (1 + deep)) ty (made_call at args)) (sym found.1)
      (subst (λ s. MadeFits (room (1 + deep)) ty (Number (unwrap_or s OfBool) code)) (sym result.1)
      (subst (λ ty. MadeFits (room (1 + deep)) ty (Number result.0 code)) result.2 (
        scalar_alone result.0,
        calling-fits (room deep) (room (1 + deep)) (unit_name callee.name) args (omega arith)
            (callee-name callee.name (source_name callee.name (named f callee found.1)))
            (args_fit inputs each (inputs_of callee) matched (room deep) (omega arith)),
      )))

  call_fits : (place : Place) (f : ℕ) (inputs : List Expr) → All P inputs → P (expr place (ExprKind-F.Call f inputs))
  call_fits place f inputs each ty typed =
      fits_as (room (expr_depth (expr place (ExprKind-F.Call f inputs)))) (room (1 + greatest (map expr_depth inputs))) ty
      (made_of site (expr place (ExprKind-F.Call f inputs))) (made_call (slice_get site.earlier f) (map arg_of (map (made_of site) inputs)))
      (rw (fold-roll-Expr, fold-roll-ExprKind) refl) (rw (fold-roll-Expr, fold-roll-ExprKind) refl)
      (call_by f inputs ty each (rw (fold-roll-Expr, fold-roll-ExprKind) at typed))

  -- ---- parts of paths

  -- the step of a part fits, and the type behind it is known and stands
  abbrev PartFits : ℕ → Part → Ty → Ty → Type 0
  PartFits d part a c = (step_fits d (step_typing site part (Some a)).step ≡ true) × ((step_typing site part (Some a)).ty ≡ Some c) × Stands c

  module _ (a c : Ty) (k d : ℕ) where
    abbrev FieldFits : Type 0
    FieldFits = (step_fits d (c_step (types.field_name (name_of_field (field_at structs k (Some a))))) ≡ true)
        × (option_map (λ (field : Field). field.ty) (field_at structs k (Some a)) ≡ Some c) × Stands c

    field_named : (s : ℕ) (def : StructDef) (field : Field) → slice_get structs s ≡ Some def → slice_get def.fields k ≡ Some field →
        words.is_name field.name ≡ true
    field_named s def field there has =
        let all : list_all words.is_name (field_names def) ≡ true = and_first _ _ (and_first _ _ (and_second _ _ (struct_at structs 0 s def stand there))) in
        named_at def.fields k all has
      where
        named_at : (fields : List Field) (k : ℕ) → list_all words.is_name
            (map (λ (f : Field). f.name) fields) ≡ true → slice_get fields k ≡ Some field →
            words.is_name field.name ≡ true
        named_at [] k all there = absurd (cc)
        named_at (f ∷ fields) zero all there =
            ap (λ (f : Field). words.is_name f.name) (sym (same_Some f field there))
            ∙ and_first (words.is_name f.name) (list_all words.is_name (map (λ (f : Field). f.name) fields)) all
        named_at (f ∷ fields) (suc k) all there =
            named_at fields k (and_second (words.is_name f.name) (list_all words.is_name (map (λ (f : Field). f.name) fields)) all) there

    field_found : (s : ℕ) (def : StructDef) (field : Field) → out-Ty a ≡ Ty-F.Struct s → slice_get structs s ≡ Some def →
        slice_get def.fields k ≡ Some field → field.ty ≡ c → FieldFits
    field_found s def field is there has same =
        let at_field : field_at structs k (Some a) ≡ Some field =
        ap (field_of_struct structs k) is ∙ ap (option_and_then (λ (def : StructDef). slice_get def.fields k)) there ∙ has in (
          subst (λ o. step_fits d (c_step (types.field_name (name_of_field o))) ≡ true) (sym at_field)
              (step-fits d (types.field_name field.name) (field-name field.name (source_name field.name (field_named s def field there has)))),
          ap (option_map (λ (field : Field). field.ty)) at_field ∙ ap Some same,
          record {
            most = s;
            stands = ap (type_stands s) (sym same)
                ∙ all_at (λ (field : Field). type_stands s field.ty) def.fields k field (structs_at structs 0 s s def stand there (omega arith)) has;
          },
        )

    by_field : (s : ℕ) (def : StructDef) (o : Option Field) → out-Ty a ≡ Ty-F.Struct s
        → slice_get structs s ≡ Some def → slice_get def.fields k ≡ o →
        option_map (λ (field : Field). field.ty) o ≡ Some c → FieldFits
    by_field s def None is there has typed = absurd (cc)
    by_field s def (Some field) is there has typed = field_found s def field is there has (same_Some field.ty c typed)

    by_def : (s : ℕ) (o : Option StructDef) → out-Ty a ≡ Ty-F.Struct s → slice_get structs s ≡ o →
        option_and_then (λ (def : StructDef). option_map (λ (field : Field). field.ty) (slice_get def.fields k)) o ≡ Some c → FieldFits
    by_def s None is there typed = absurd (cc)
    by_def s (Some def) is there typed = by_field s def (slice_get def.fields k) is there refl typed

    by_layer : (layer : Ty-F Ty) → out-Ty a ≡ layer → field_in structs k layer ≡ Some c → FieldFits
    by_layer (Ty-F.Scalar s) is typed = absurd (cc)
    by_layer (Ty-F.Struct s) is typed = by_def s (slice_get structs s) is refl typed
    by_layer (Ty-F.Array n inner) is typed = absurd (cc)

    field_fits : field_in structs k (out-Ty a) ≡ Some c → FieldFits
    field_fits typed = by_layer (out-Ty a) refl typed

  element_is : (a c : Ty) (layer : Ty-F Ty) → out-Ty a ≡ layer → element_in layer ≡ Some c → (n : ℕ) × (out-Ty a ≡ Ty-F.Array n c)
  element_is a c (Ty-F.Scalar s) is found = absurd (cc)
  element_is a c (Ty-F.Struct s) is found = absurd (cc)
  element_is a c (Ty-F.Array n inner) is found = (n, is ∙ ap (Ty-F.Array n) (same_Some inner c found))

  -- an index whose type is a whole number
  index_typed : (index : Option Ty) (t : Option Ty) (c : Ty) → where_whole index t ≡ Some c → (ty : Ty) × (index ≡ Some ty) × (t ≡ Some c)
  index_typed None t c is = absurd (cc)
  index_typed (Some ty) t c is = by (scalar_in ty) is
    where
      by : (o : Option ScalarType) → option_and_then (λ s. if is_whole s then t else None) o ≡ Some c
          → (ty' : Ty) × (Some ty ≡ Some ty') × (t ≡ Some c)
      by None h = absurd (cc)
      by (Some s) h = (ty, refl, (where_holds (is_whole s) t c h).1)

  element_stands : (a c : Ty) (n m : ℕ) → out-Ty a ≡ Ty-F.Array n c → type_stands m a ≡ true → (is_length n ≡ true) × (type_stands m c ≡ true)
  element_stands a c n m is stands_a =
      let level : ((nat_le 1 n && nat_le n 65536) && type_stands m c) ≡ true =
      sym (fold_out-Ty Bool (type_stands_level m) a ∙ ap (λ l. type_stands_level m (map-Ty Ty Bool (type_stands m) l)) is) ∙ stands_a in
      (and_first (nat_le 1 n && nat_le n 65536) (type_stands m c) level, and_second (nat_le 1 n && nat_le n 65536) (type_stands m c) level)

  part_by : (layer : Part-F ExprKind Part Expr Path) (a c : Ty) (d : ℕ) → room (depth_of_part (roll-Part layer)) ≤ d → OfIndex P layer →
      type_of_part site (roll-Part layer) a ≡ Some c → Stands a → PartFits d (roll-Part layer) a c
  part_by (Part-F.Field k) a c d le is typed known = rw fold-roll-Part (field_fits a c k d (rw fold-roll-Part at typed))
  part_by (Part-F.Index e) a c d le is typed known =
      let found = index_typed (type_of site e) (element_in (out-Ty a)) c (rw fold-roll-Part at typed) in
      let fit = is found.0 found.1 in
      let inner = element_is a c (out-Ty a) refl found.2 in
      let n : ℕ = inner.0 in
      let long : length_in (out-Ty a) ≡ n = ap length_in inner.1 in
      let length = element_stands a c n known.most inner.1 known.stands in
      let deep : room (1 + expr_depth e) ≤ d = rw fold-roll-Part at le in
      rw fold-roll-Part (
        subst (λ n. step_fits d (c_element elements_name (c_index (is_int (type_made (made_of site e))) (code_of (made_of site e)) n)) ≡ true) (sym long)
            (element-fits (room (expr_depth e)) d elements_name (is_int (type_made (made_of site e))) (code_of (made_of site e)) n (omega (arith, deep))
            elements-name length.0 (code-fits (room (expr_depth e)) found.0 (made_of site e) fit)),
        found.2,
        record { most = known.most; stands = length.1 },
      )

  part_is : (part : Part) (a c : Ty) (d : ℕ) → room (depth_of_part part) ≤ d → OfIndex P
      (out-Part part) → type_of_part site part a ≡ Some c → Stands a →
      PartFits d part a c
  part_is part a c d = subst
      (λ part. room (depth_of_part part) ≤ d → OfIndex P (out-Part part) → type_of_part site part a ≡ Some c → Stands a → PartFits d part a c)
      (roll-out-Part part)
      (λ le is. part_by (out-Part part) a c d le (subst (OfIndex P) (out-roll-Part (out-Part part)) is))

  -- ---- paths

  steps_fit : (parts : List Part) → EachIndex P parts → (a b : Ty) (d : ℕ) → room (greatest (map depth_of_part parts)) ≤ d →
      after_parts (map (type_of_part site) parts) a ≡ Some b → Stands a →
      list_all (step_fits d) (steps_of (map (step_typing site) parts) (Some a)) ≡ true
  steps_fit [] each a b d le typed known = refl
  steps_fit (part ∷ rest) each a b d le typed known =
      let found = some_found (after_parts (map (type_of_part site) rest)) (type_of_part site part a) b typed in
      let c : Ty = found.0 in
      let here : room (depth_of_part part) ≤ d = omega (arith, le) in
      let later : room (greatest (map depth_of_part rest)) ≤ d = omega (arith, le) in
      let one = part_is part a c d here (All-head (λ part. OfIndex P (out-Part part)) part rest each) found.1 known in
      and_from (step_fits d (step_typing site part (Some a)).step)
      (list_all (step_fits d) (steps_of (map (step_typing site) rest) (step_typing site part (Some a)).ty)) one.0
      (subst (λ ty. list_all (step_fits d) (steps_of (map (step_typing site) rest) ty) ≡ true) (sym one.1)
      (steps_fit rest (All-tail (λ part. OfIndex P (out-Part part)) part rest each) c b d later found.2 one.2))

  home_fits : (d : ℕ) (activity : Bool) (home : Home) (k : ℕ) (steps : List CStep) → 1 ≤ d → k < 2 ^ 64 → list_all (step_fits d) steps ≡ true →
      place_fits d (place_by_steps activity home site.vars k steps) ≡ true
  home_fits d activity Held k steps low small all =
      place-fits d activity (codes "m") (c_step (variable_name site.vars k) ∷ steps) low memory-name
      (and_from (step_fits d (c_step (variable_name site.vars k))) (list_all (step_fits d) steps)
      (step-fits d (variable_name site.vars k) (variable-name site.vars k vars_named small)) all)
  home_fits d activity Local k steps low small all = place-fits d false (variable_name site.vars k) steps low (variable-name site.vars k vars_named small) all
  home_fits d activity Lent k steps low small all = place-fits d true (variable_name site.vars k) steps low (variable-name site.vars k vars_named small) all

  path_fits : (place : Place) (root : ℕ) (parts : List Part) (written : Ty) → EachIndex P parts →
      Q (roll-Path (record { place = place; root = root; parts = parts; ty = written }))
  path_fits place root parts written each ty typed =
      let whole = some_found (where_same written) (option_and_then (λ (var : Var). after_parts (map (type_of_part site) parts) var.ty)
      (var_at site root)) ty (rw fold-roll-Path at typed) in
      let found = some_found (λ (var : Var). after_parts (map (type_of_part site) parts) var.ty) (var_at site root) whole.0 whole.1 in
      let var : Var = found.0 in
      let is = where_holds (same_type written whole.0) (Some whole.0) ty whole.2 in
      let same : whole.0 ≡ ty = same_Some whole.0 ty is.1 in
      let d : ℕ = room (greatest (map depth_of_part parts)) in
      let all : list_all (step_fits d) (steps_of (map (step_typing site) parts) (Some var.ty)) ≡ true =
      steps_fit parts each var.ty ty d (omega arith) (found.2 ∙ ap Some same) (record { most = length structs; stands = typed_vars root var found.1 }) in
      rw (fold-roll-Path, fold-roll-Path) (
        home_fits d (is_activity site.kind) (home_of site (var_at site root)) root (steps_of (map (step_typing site) parts) (type_at (var_at site root)))
            (omega arith) (below root var found.1)
            (subst (λ o. list_all (step_fits d) (steps_of (map (step_typing site) parts) (type_at o)) ≡ true) (sym found.1) all),
        same_type_is written whole.0 is.0 ∙ same,
      )

  cases : Cases P Q
  cases = record {
    literal = literal_fits;
    read = read_fits;
    prev = prev_fits;
    one = one_fits;
    two = two_fits;
    cast = cast_fits;
    call = call_fits;
    path = path_fits;
  }

  -- what is made of an expression fits its depth
  pub made_fits : (e : Expr) → P e
  made_fits = induct P Q cases

  -- and so does the place of a path
  pub place_fit : (path : Path) → Q path
  place_fit = induct_path P Q cases
