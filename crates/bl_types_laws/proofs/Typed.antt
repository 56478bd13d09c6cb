-- The type of an expression by its kind, and an open expression as one of a type.
use Rattle.std.proofs.Common.{◌≡◌, ℕ, ℤ, List, map, Option, Some, refl, ap, ◌∙◌}
use Rattle.std.specs.Prelude.{option_and_then, slice_get}
use Rattle.bl_tree.specs.declared.place.Place.{Place}
use Rattle.bl_tree.specs.declared.rule.Rule.TheVariants as rule
use Rattle.bl_tree.specs.declared.scalar.Op.{Op}
use Rattle.bl_tree.specs.declared.scalar.Scalar.{Scalar as ScalarType}
use Rattle.bl_tree.specs.declared.tree.Expr.{Expr, fold-roll-Expr, roll-Expr}
use Rattle.bl_tree.specs.declared.tree.ExprKind.{ExprKind, fold-ExprKind, fold_out-ExprKind, map-ExprKind, out-ExprKind}
use Rattle.bl_tree.specs.declared.tree.ExprKind.TheOpen.{ExprKind-F, Part-F}
use Rattle.bl_tree.specs.declared.tree.ExprKind.TheVariants as what
use Rattle.bl_tree.specs.declared.tree.Part.{Part, fold-Part, fold_out-Part, map-Part, out-Part}
use Rattle.bl_tree.specs.declared.tree.Part.TheVariants as part
use Rattle.bl_tree.specs.declared.tree.Path.{Path, fold-Path, fold-roll-Path}
use Rattle.bl_tree.specs.declared.tree.Ty.{Ty, out-Ty}
use Rattle.bl_tree.specs.declared.tree.Var.{Var}
use Rattle.bl_tree.specs.Scalar.{in_range}
use Rattle.bl_tree.specs.Types.{scalar_in}
use Rattle.bl_tree.specs.Typing.{TypingContext, after_parts, call_type, cast_type, element_in, expr_type, field_in, kind_type, literal_type, one_type}
use Rattle.bl_tree.specs.Typing.{part_type, path_type, prev_type, two_type, type_of, type_of_path, var_at, where_same, where_whole}
use Rattle.bl_eval.proofs.PartFits.{type_of_part}
use Rattle.bl_types.specs.Expressions.{call, cast, path, previous, read}
use Rattle.bl_types.specs.Failures.{unless}
use Rattle.bl_types.specs.Settled.{Settled, behind, literal, one, one_made, settled, settled_kind, settled_layer, settled_part, settled_path, two, two_made}

module _ (site : TypingContext) where
  pub kind_at : (at : Place) (kind : ExprKind) (layer : ExprKind-F ExprKind Part Expr Path) → out-ExprKind kind ≡ layer →
      type_of site (roll-Expr (record { place = at; what = kind }))
      ≡ kind_type site (map-ExprKind ExprKind Part Expr Path (Option Ty) (Ty → Option Ty) (Option Ty) (Option Ty)
      (fold-ExprKind (Option Ty) (Ty → Option Ty) (Option Ty) (Option Ty) (kind_type site) (part_type site) expr_type (path_type site)) (type_of_part site)
      (type_of site) (type_of_path site) layer)
  kind_at at kind layer is =
      rw fold-roll-Expr
      (fold_out-ExprKind (Option Ty) (Ty → Option Ty) (Option Ty) (Option Ty) (kind_type site) (part_type site) expr_type (path_type site) kind
      ∙ ap (λ layer. kind_type site (map-ExprKind ExprKind Part Expr Path (Option Ty) (Ty → Option Ty) (Option Ty) (Option Ty)
      (fold-ExprKind (Option Ty) (Ty → Option Ty) (Option Ty) (Option Ty) (kind_type site) (part_type site) expr_type (path_type site)) (type_of_part site)
      (type_of site) (type_of_path site) layer)) is)

  pub part_at : (part : Part) (layer : Part-F ExprKind Part Expr Path) (ty : Ty) → out-Part part ≡ layer →
      type_of_part site part ty
      ≡ part_type site (map-Part ExprKind Part Expr Path (Option Ty) (Ty → Option Ty) (Option Ty) (Option Ty)
      (fold-ExprKind (Option Ty) (Ty → Option Ty) (Option Ty) (Option Ty) (kind_type site) (part_type site) expr_type (path_type site)) (type_of_part site)
      (type_of site) (type_of_path site) layer) ty
  part_at part layer ty is =
      ap (λ (step : Ty → Option Ty). step ty) (fold_out-Part (Option Ty) (Ty → Option Ty) (Option Ty) (Option Ty) (kind_type site)
      (part_type site) expr_type
      (path_type site) part)
      ∙ ap (λ layer. part_type site (map-Part ExprKind Part Expr Path (Option Ty) (Ty → Option Ty) (Option Ty) (Option Ty)
      (fold-ExprKind (Option Ty) (Ty → Option Ty) (Option Ty) (Option Ty) (kind_type site) (part_type site) expr_type (path_type site)) (type_of_part site)
      (type_of site) (type_of_path site) layer) ty) is

  pub literal_is : (at : Place) (n : ℤ) (s : ScalarType) → type_of site (literal at n s) ≡ literal_type s (in_range s n)
  literal_is at n s = kind_at at (what.Literal n s) (ExprKind-F.Literal n s) (what.outs-Literal n s)

  pub read_is : (at : Place) (path : Path) → type_of site (read at path) ≡ type_of_path site path
  read_is at path = kind_at at (what.Read path) (ExprKind-F.Read path) (what.outs-Read path)

  pub previous_is : (at : Place) (k : ℕ) → type_of site (previous at k) ≡ option_and_then (prev_type site.kind) (var_at site k)
  previous_is at k = kind_at at (what.Prev k) (ExprKind-F.Prev k) (what.outs-Prev k)

  pub one_is : (at : Place) (op : Op) (a : Expr) (ty : Ty) → type_of site a ≡ Some ty →
      type_of site (one at op a) ≡ option_and_then (one_type op) (scalar_in ty)
  one_is at op a ty is =
      kind_at at (what.One op a) (ExprKind-F.One op a) (what.outs-One op a)
      ∙ ap (λ found. option_and_then (one_type op) (option_and_then scalar_in found)) is

  pub two_is : (at : Place) (op : Op) (a b : Expr) (ty other : Ty) → type_of site a ≡ Some ty → type_of site b ≡ Some other →
      type_of site (two at op a b) ≡ option_and_then (λ s. option_and_then (two_type op s) (scalar_in other)) (scalar_in ty)
  two_is at op a b ty other is are =
      kind_at at (what.Two op a b) (ExprKind-F.Two op a b) (what.outs-Two op a b)
      ∙ ap (λ found. option_and_then (λ s. option_and_then (two_type op s) (option_and_then scalar_in (type_of site b)))
      (option_and_then scalar_in found)) is
      ∙ ap (λ found. option_and_then (λ s. option_and_then (two_type op s) (option_and_then scalar_in found)) (scalar_in ty)) are

  pub cast_is : (at : Place) (target : ScalarType) (a : Expr) (ty : Ty) → type_of site a ≡ Some ty →
      type_of site (cast at target a) ≡ option_and_then (cast_type target) (scalar_in ty)
  cast_is at target a ty is =
      kind_at at (what.Cast target a) (ExprKind-F.Cast target a) (what.outs-Cast target a)
      ∙ ap (λ found. option_and_then (cast_type target) (option_and_then scalar_in found)) is

  pub call_is : (at : Place) (f : ℕ) (inputs : List Expr) → type_of site (call at f inputs)
      ≡ option_and_then (call_type (map (type_of site) inputs)) (slice_get site.earlier f)
  call_is at f inputs = kind_at at (what.Call f inputs) (ExprKind-F.Call f inputs) (what.outs-Call f inputs)

  pub path_is : (at : Place) (k : ℕ) (parts : List Part) (ty : Ty) →
      type_of_path site (path at k parts ty) ≡ option_and_then (where_same ty)
      (option_and_then (λ (var : Var). after_parts (map (type_of_part site) parts) var.ty) (var_at site k))
  path_is at k parts ty = rw fold-roll-Path refl

  pub field_is : (k : ℕ) (ty : Ty) → type_of_part site (part.Field k) ty ≡ field_in site.structs k (out-Ty ty)
  field_is k ty = part_at (part.Field k) (Part-F.Field k) ty (part.outs-Field k)

  pub index_is : (e : Expr) (ty : Ty) → type_of_part site (part.Index e) ty ≡ where_whole (type_of site e) (element_in (out-Ty ty))
  index_is e ty = part_at (part.Index e) (Part-F.Index e) ty (part.outs-Index e)

-- ---- open expressions

module _ (s : ScalarType) where
  settled_at : (at : Place) (kind : ExprKind) (layer : ExprKind-F ExprKind Part Expr Path) → out-ExprKind kind ≡ layer →
      settled s (roll-Expr (record { place = at; what = kind }))
      ≡ settled_kind s (map-ExprKind ExprKind Part Expr Path (Place → Settled) (Unit {0}) Settled (Unit {0})
      (fold-ExprKind (Place → Settled) (Unit {0}) Settled (Unit {0}) (settled_kind s) settled_part settled_layer settled_path)
      (fold-Part (Place → Settled) (Unit {0}) Settled (Unit {0}) (settled_kind s) settled_part settled_layer settled_path) (settled s)
      (fold-Path (Place → Settled) (Unit {0}) Settled (Unit {0}) (settled_kind s) settled_part settled_layer settled_path) layer) at
  settled_at at kind layer is =
      rw fold-roll-Expr
      (ap (λ (settles : Place → Settled). settles at) (fold_out-ExprKind (Place → Settled) (Unit {0}) Settled (Unit {0}) (settled_kind s) settled_part
      settled_layer settled_path kind)
      ∙ ap (λ layer. settled_kind s (map-ExprKind ExprKind Part Expr Path (Place → Settled) (Unit {0}) Settled (Unit {0})
      (fold-ExprKind (Place → Settled) (Unit {0}) Settled (Unit {0}) (settled_kind s) settled_part settled_layer settled_path)
      (fold-Part (Place → Settled) (Unit {0}) Settled (Unit {0}) (settled_kind s) settled_part settled_layer settled_path) (settled s)
      (fold-Path (Place → Settled) (Unit {0}) Settled (Unit {0}) (settled_kind s) settled_part settled_layer settled_path) layer) at) is)

  pub settled_literal : (at : Place) (n : ℤ) (t : ScalarType) → settled s (literal at n t)
      ≡ record { made = Some (literal at n s); failures = unless (in_range s n) rule.Literal at }
  settled_literal at n t = settled_at at (what.Literal n t) (ExprKind-F.Literal n t) (what.outs-Literal n t)

  pub settled_one : (at : Place) (op : Op) (a : Expr) → settled s (one at op a) ≡ behind (settled s a).failures (one_made s at op (settled s a).made)
  settled_one at op a = settled_at at (what.One op a) (ExprKind-F.One op a) (what.outs-One op a)

  pub settled_two : (at : Place) (op : Op) (a b : Expr) →
      settled s (two at op a b) ≡ behind (settled s a).failures (behind (settled s b).failures (two_made s at op (settled s a).made (settled s b).made))
  settled_two at op a b = settled_at at (what.Two op a b) (ExprKind-F.Two op a b) (what.outs-Two op a b)
