-- Induction over raw expressions and targets: one case for each kind, with what is known of the parts inside.
use Rattle.std.proofs.Common.{ℕ, Bool, List, subst, sym, ◌∙◌}
use Rattle.std.specs.Prelude.{All}
use Rattle.bl_tree.specs.declared.place.Place.{Place}
use Rattle.bl_tree.specs.declared.scalar.Op.{Op}
use Rattle.bl_tree.specs.declared.scalar.Scalar.{Scalar}
use Rattle.bl_parse_tree.specs.declared.expr.RawExpr.{RawExpr, ind-RawExpr, roll-RawExpr}
use Rattle.bl_parse_tree.specs.declared.expr.RawExprKind.{RawExprKind, roll-RawExprKind}
use Rattle.bl_parse_tree.specs.declared.expr.RawExprKind.TheFolds.{map-RawExprKind, map-RawPart}
use Rattle.bl_parse_tree.specs.declared.expr.RawExprKind.TheOpen.{RawExprKind-F, RawPart-F}
use Rattle.bl_parse_tree.specs.declared.expr.RawPart.{RawPart, out-RawPart, out-roll-RawPart}
use Rattle.bl_parse_tree.specs.declared.expr.RawTarget.{RawTarget, ind-RawTarget, roll-RawTarget}
use Rattle.bl_parse_tree.specs.declared.name.Name.{Name}
use Rattle.bl_tree.proofs.StmtInduction.{each_such}

-- an expression by its place and its kind's parts
abbrev pub expr : Place → RawExprKind-F RawExprKind RawPart RawExpr RawTarget → RawExpr
expr place layer = roll-RawExpr (record { place = place; what = roll-RawExprKind layer })

-- P of the index, where the part is one
abbrev pub OfIndex : (RawExpr → Type 0) → RawPart-F RawExprKind RawPart RawExpr RawTarget → Type 0
OfIndex P (RawPart-F.Field name) = Unit {0}
OfIndex P (RawPart-F.Index e) = P e

-- P of every index of the parts
abbrev pub EachIndex : (RawExpr → Type 0) → List RawPart → Type 0
EachIndex P parts = All (λ part. OfIndex P (out-RawPart part)) parts

-- what shows P of every expression and Q of every target
pub record Cases (P : RawExpr → Type 0) (Q : RawTarget → Type 0) : Type 0 where
  pub number : (place : Place) (minus : Bool) (n : ℕ) → P (expr place (RawExprKind-F.Number minus n))
  pub truth : (place : Place) (b : Bool) → P (expr place (RawExprKind-F.Truth b))
  pub read : (place : Place) (target : RawTarget) → Q target → P (expr place (RawExprKind-F.Read target))
  pub prev : (place : Place) (name : Name) → P (expr place (RawExprKind-F.Prev name))
  pub one : (place : Place) (op : Op) (a : RawExpr) → P a → P (expr place (RawExprKind-F.One op a))
  pub two : (place : Place) (op : Op) (a b : RawExpr) → P a → P b → P (expr place (RawExprKind-F.Two op a b))
  pub cast : (place : Place) (s : Scalar) (a : RawExpr) → P a → P (expr place (RawExprKind-F.Cast s a))
  pub call : (place : Place) (f : Name) (inputs : List RawExpr) → All P inputs → P (expr place (RawExprKind-F.Call f inputs))
  pub target : (place : Place) (root : Name) (parts : List RawPart) → EachIndex P parts
      → Q (roll-RawTarget (record { place = place; root = root; parts = parts }))

module _ (P : RawExpr → Type 0) (Q : RawTarget → Type 0) (cases : Cases P Q) where
  abbrev OfKind : RawExprKind → Type 0
  OfKind kind = (place : Place) → P (roll-RawExpr (record { place = place; what = kind }))

  abbrev OfPart : RawPart → Type 0
  OfPart part = OfIndex P (out-RawPart part)

  abbrev Shown : Type 0
  Shown = RawExprKind-F ((kind : RawExprKind) × OfKind kind) ((part : RawPart) × OfPart part) ((e : RawExpr) × P e) ((target : RawTarget) × Q target)

  abbrev plain : Shown → RawExprKind-F RawExprKind RawPart RawExpr RawTarget
  plain = map-RawExprKind ((kind : RawExprKind) × OfKind kind) ((part : RawPart) × OfPart part) ((e : RawExpr) × P e) ((target : RawTarget) × Q target)
      RawExprKind RawPart RawExpr RawTarget (λ e. e.0) (λ e. e.0) (λ e. e.0) (λ e. e.0)

  by_kind : (place : Place) (shown : Shown) → P (expr place (plain shown))
  by_kind place (RawExprKind-F.Number minus n) = cases.number place minus n
  by_kind place (RawExprKind-F.Truth b) = cases.truth place b
  by_kind place (RawExprKind-F.Read target) = cases.read place _ target.1
  by_kind place (RawExprKind-F.Prev name) = cases.prev place name
  by_kind place (RawExprKind-F.One op a) = cases.one place op _ a.1
  by_kind place (RawExprKind-F.Two op a b) = cases.two place op _ _ a.1 b.1
  by_kind place (RawExprKind-F.Cast s a) = cases.cast place s _ a.1
  by_kind place (RawExprKind-F.Call f inputs) = cases.call place f _ (each_such P inputs)

  abbrev ShownPart : Type 0
  ShownPart = RawPart-F ((kind : RawExprKind) × OfKind kind) ((part : RawPart) × OfPart part) ((e : RawExpr) × P e) ((target : RawTarget) × Q target)

  abbrev plain_part : ShownPart → RawPart-F RawExprKind RawPart RawExpr RawTarget
  plain_part = map-RawPart ((kind : RawExprKind) × OfKind kind) ((part : RawPart) × OfPart part) ((e : RawExpr) × P e) ((target : RawTarget) × Q target)
      RawExprKind RawPart RawExpr RawTarget (λ e. e.0) (λ e. e.0) (λ e. e.0) (λ e. e.0)

  by_part : (shown : ShownPart) → OfIndex P (plain_part shown)
  by_part (RawPart-F.Field name) = tt
  by_part (RawPart-F.Index e) = e.1

  -- every expression has P where the cases show it
  pub induct : (e : RawExpr) → P e
  induct =
      ind-RawExpr OfKind OfPart P Q
      (λ x y is place. subst (λ layer. P (expr place layer)) is (by_kind place y))
      (λ x y is. subst (OfIndex P) (is ∙ sym (out-roll-RawPart x)) (by_part y))
      (λ x y is. subst (λ layer. P (roll-RawExpr layer)) is (y.what.1 y.place))
      (λ x y is. subst (λ layer. Q (roll-RawTarget layer)) is (cases.target y.place y.root _ (each_such OfPart y.parts)))

  -- and every target Q
  pub induct_target : (target : RawTarget) → Q target
  induct_target =
      ind-RawTarget OfKind OfPart P Q
      (λ x y is place. subst (λ layer. P (expr place layer)) is (by_kind place y))
      (λ x y is. subst (OfIndex P) (is ∙ sym (out-roll-RawPart x)) (by_part y))
      (λ x y is. subst (λ layer. P (roll-RawExpr layer)) is (y.what.1 y.place))
      (λ x y is. subst (λ layer. Q (roll-RawTarget layer)) is (cases.target y.place y.root _ (each_such OfPart y.parts)))
