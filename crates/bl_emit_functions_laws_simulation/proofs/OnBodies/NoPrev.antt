-- What stands in a function names no variable under a `prev`.
use Rattle.std.proofs.Common.{◌≡◌, ℕ, Bool, true, false, ◌&&◌, List, [], ◌∷◌, map, Option, Some, None, refl, sym, ap, ◌∙◌, subst}
use Rattle.std.proofs.lemmas.List.Elements.{All-head, All-tail}
use Rattle.std.specs.Prelude.{All, is_some, nat_eq, option_and_then, option_map, slice_get}
use Rattle.std.proofs.lemmas.Bool.{and_from}
use Rattle.bl_tree.proofs.Basics.{and_first, and_second}
use Rattle.bl_tree.specs.declared.place.Place.{Place}
use Rattle.bl_tree.specs.declared.scalar.Op.{Op}
use Rattle.bl_tree.specs.declared.scalar.Scalar.{Scalar as ScalarType}
use Rattle.bl_tree.specs.declared.tree.Expr.{Expr, fold-roll-Expr}
use Rattle.bl_tree.specs.declared.tree.ExprKind.{ExprKind, fold-roll-ExprKind}
use Rattle.bl_tree.specs.declared.tree.ExprKind.TheOpen.{ExprKind-F, Part-F}
use Rattle.bl_tree.specs.declared.tree.Part.{Part, fold-roll-Part, out-Part, roll-Part, roll-out-Part}
use Rattle.bl_tree.specs.declared.tree.Path.{Path, fold-roll-Path, roll-Path}
use Rattle.bl_tree.specs.declared.tree.Ty.{Ty, out-Ty}
use Rattle.bl_tree.specs.declared.tree.Unit.{Unit as UnitDef}
use Rattle.bl_tree.specs.declared.tree.Var.{Var}
use Rattle.bl_tree.specs.Reduce.{all_of}
use Rattle.bl_tree.specs.Types.{same_type, scalar, scalar_in}
use Rattle.bl_tree.specs.Typing.{TypingContext, after_parts, call_type, cast_type, element_in, inputs_of, is_activity, is_function, is_variable, one_type}
use Rattle.bl_tree.specs.Typing.{prev_type, two_type, type_of, type_of_path, types_match, var_at, where_same, where_whole}
use Rattle.bl_tree.proofs.ExprInduction.{Cases, EachIndex, OfIndex, expr, induct, induct_path}
use Rattle.bl_eval.proofs.OperatorFits.{some_found, where_holds}
use Rattle.bl_eval.proofs.PartFits.{type_of_part}
use Rattle.bl_emit_acts_laws_simulation.specs.Encodes.{copied_in, copied_in_path}
use Rattle.bl_emit_acts_laws_simulation.specs.inner.Holds.{copied_in_part}

module _ (site : TypingContext) (function : is_activity site.kind ≡ false) (copied : ℕ → Bool) where
  abbrev P : Expr → Type 0
  P e = (ty : Ty) → type_of site e ≡ Some ty → copied_in copied e ≡ true

  abbrev Q : Path → Type 0
  Q path = (ty : Ty) → type_of_path site path ≡ Some ty → copied_in_path copied path ≡ true

  no_prev : (ty : Ty) (var : Var) → prev_type site.kind var ≡ Some ty → ⊥
  no_prev ty var h =
      let is = where_holds (is_activity site.kind && (is_variable var.role && is_some (scalar_in var.ty))) (Some var.ty) ty h in
      let no = sym function ∙ and_first (is_activity site.kind) (is_variable var.role && is_some (scalar_in var.ty)) is.0 in cc

  typed_operand : (a : Expr) (s : ScalarType) → P a → option_and_then scalar_in (type_of site a) ≡ Some s → copied_in copied a ≡ true
  typed_operand a s p typed = let found = some_found scalar_in (type_of site a) s typed in p found.0 found.1

  one_named : (place : Place) (op : Op) (a : Expr) → P a → P (expr place (ExprKind-F.One op a))
  one_named place op a p ty typed =
      let found = some_found (one_type op) (option_and_then scalar_in (type_of site a)) ty (rw (fold-roll-Expr, fold-roll-ExprKind) at typed) in
      rw (fold-roll-Expr, fold-roll-ExprKind) (typed_operand a found.0 p found.1)

  two_named : (place : Place) (op : Op) (a b : Expr) → P a → P b → P (expr place (ExprKind-F.Two op a b))
  two_named place op a b p q ty typed =
      let found = some_found (λ s. option_and_then (two_type op s) (option_and_then scalar_in (type_of site b)))
      (option_and_then scalar_in (type_of site a)) ty (rw (fold-roll-Expr, fold-roll-ExprKind) at typed) in
      let right = some_found (two_type op found.0) (option_and_then scalar_in (type_of site b)) ty found.2 in
      rw (fold-roll-Expr, fold-roll-ExprKind)
      (and_from (copied_in copied a) (copied_in copied b) (typed_operand a found.0 p found.1) (typed_operand b right.0 q right.1))

  cast_named : (place : Place) (target : ScalarType) (a : Expr) → P a → P (expr place (ExprKind-F.Cast target a))
  cast_named place target a p ty typed =
      let found = some_found (cast_type target) (option_and_then scalar_in (type_of site a)) ty (rw (fold-roll-Expr, fold-roll-ExprKind) at typed) in
      rw (fold-roll-Expr, fold-roll-ExprKind) (typed_operand a found.0 p found.1)

  first_typed : (typed : Option Ty) (types : List (Option Ty)) (vars : List Var) → types_match (typed ∷ types) vars ≡ true →
      (ty : Ty) × (typed ≡ Some ty) × ((rest : List Var) × (types_match types rest ≡ true))
  first_typed None types [] h = absurd (cc)
  first_typed None types (var ∷ vars) h = absurd (cc)
  first_typed (Some ty) types [] h = absurd (cc)
  first_typed (Some ty) types (var ∷ vars) h = (ty, refl, (vars, and_second (same_type ty var.ty) (types_match types vars) h))

  pub exprs_named : (inputs : List Expr) (vars : List Var) → All P inputs → types_match (map (type_of site) inputs) vars ≡ true →
      all_of (map (copied_in copied) inputs) ≡ true
  exprs_named [] vars each h = refl
  exprs_named (e ∷ inputs) vars each h =
      let found = first_typed (type_of site e) (map (type_of site) inputs) vars h in
      and_from (copied_in copied e) (all_of (map (copied_in copied) inputs)) (All-head P e inputs each found.0 found.1)
      (exprs_named inputs found.2.0 (All-tail P e inputs each) found.2.1)

  pub paths_named : (paths : List Path) (vars : List Var) → ((path : Path) → Q path) → types_match (map (type_of_path site) paths) vars ≡ true →
      all_of (map (copied_in_path copied) paths) ≡ true
  paths_named [] vars each h = refl
  paths_named (path ∷ paths) vars each h =
      let found = first_typed (type_of_path site path) (map (type_of_path site) paths) vars h in
      and_from (copied_in_path copied path) (all_of (map (copied_in_path copied) paths)) (each path found.0 found.1)
      (paths_named paths found.2.0 each found.2.1)

  call_named : (place : Place) (f : ℕ) (inputs : List Expr) → All P inputs → P (expr place (ExprKind-F.Call f inputs))
  call_named place f inputs each ty typed =
      let found = some_found (call_type (map (type_of site) inputs)) (slice_get site.earlier f) ty (rw (fold-roll-Expr, fold-roll-ExprKind) at typed) in
      let callee : UnitDef = found.0 in
      let shape : Bool = nat_eq callee.outputs 0 && types_match (map (type_of site) inputs) (inputs_of callee) in
      let is = where_holds (is_function callee.kind && shape) (option_map scalar callee.result) ty found.2 in
      let fitting : shape ≡ true = and_second (is_function callee.kind) shape is.0 in
      rw (fold-roll-Expr, fold-roll-ExprKind)
      (exprs_named inputs (inputs_of callee) each (and_second (nat_eq callee.outputs 0) (types_match (map (type_of site) inputs) (inputs_of callee)) fitting))

  index_typed : (index t : Option Ty) (c : Ty) → where_whole index t ≡ Some c → (ty : Ty) × (index ≡ Some ty)
  index_typed None t c h = absurd (cc)
  index_typed (Some ty) t c h = (ty, refl)

  part_named_at : (layer : Part-F ExprKind Part Expr Path) (a c : Ty) → OfIndex P layer → type_of_part site (roll-Part layer) a ≡ Some c →
      copied_in_part copied (roll-Part layer) ≡ true
  part_named_at (Part-F.Field k) a c p typed = rw fold-roll-Part refl
  part_named_at (Part-F.Index e) a c p typed =
      let found = index_typed (type_of site e) (element_in (out-Ty a)) c (rw fold-roll-Part at typed) in rw fold-roll-Part (p found.0 found.1)

  part_named : (part : Part) (a c : Ty) → OfIndex P (out-Part part) → type_of_part site part a ≡ Some c → copied_in_part copied part ≡ true
  part_named part a c =
      subst (λ part. OfIndex P (out-Part part) → type_of_part site part a ≡ Some c → copied_in_part copied part ≡ true) (roll-out-Part part)
      (λ p. part_named_at (out-Part part) a c (subst (OfIndex P) (ap out-Part (roll-out-Part part)) p))

  abbrev OfPart : Part → Type 0
  OfPart part = OfIndex P (out-Part part)

  parts_named : (parts : List Part) (a b : Ty) → EachIndex P parts → after_parts (map (type_of_part site) parts) a ≡ Some b →
      all_of (map (copied_in_part copied) parts) ≡ true
  parts_named [] a b each typed = refl
  parts_named (part ∷ rest) a b each typed =
      let found = some_found (after_parts (map (type_of_part site) rest)) (type_of_part site part a) b typed in
      and_from (copied_in_part copied part) (all_of (map (copied_in_part copied) rest))
      (part_named part a found.0 (All-head OfPart part rest each) found.1)
      (parts_named rest found.0 b (All-tail OfPart part rest each) found.2)

  path_named_at : (place : Place) (root : ℕ) (parts : List Part) (written : Ty) → EachIndex P parts →
      Q (roll-Path (record { place = place; root = root; parts = parts; ty = written }))
  path_named_at place root parts written each ty typed =
      let whole = some_found (where_same written) (option_and_then (λ (var : Var). after_parts (map (type_of_part site) parts) var.ty) (var_at site root)) ty
      (rw fold-roll-Path at typed) in
      let found = some_found (λ (var : Var). after_parts (map (type_of_part site) parts) var.ty) (var_at site root) whole.0 whole.1 in
      rw fold-roll-Path (parts_named parts found.0.ty whole.0 each found.2)

  cases : Cases P Q
  cases = record {
    literal = λ place n s ty typed. rw (fold-roll-Expr, fold-roll-ExprKind) refl;
    read = λ place path q ty typed. rw (fold-roll-Expr, fold-roll-ExprKind) (q ty (rw (fold-roll-Expr, fold-roll-ExprKind) at typed));
    prev = λ place k ty typed.
        let found = some_found (prev_type site.kind) (var_at site k) ty (rw (fold-roll-Expr, fold-roll-ExprKind) at typed) in
        absurd (no_prev ty found.0 found.2);
    one = one_named;
    two = two_named;
    cast = cast_named;
    call = call_named;
    path = path_named_at;
  }

  pub expr_named : (e : Expr) (ty : Ty) → type_of site e ≡ Some ty → copied_in copied e ≡ true
  expr_named = induct P Q cases

  pub path_named : (path : Path) (ty : Ty) → type_of_path site path ≡ Some ty → copied_in_path copied path ≡ true
  path_named = induct_path P Q cases
