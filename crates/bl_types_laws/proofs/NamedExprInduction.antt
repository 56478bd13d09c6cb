-- Induction over named expressions and targets: one case for each kind, with what is known of the parts inside.
use Rattle.std.proofs.Common.{ℕ, Bool, List, subst, sym, ◌∙◌}
use Rattle.std.specs.Prelude.{All}
use Rattle.bl_tree.specs.declared.place.Place.{Place}
use Rattle.bl_tree.specs.declared.scalar.Op.{Op}
use Rattle.bl_tree.specs.declared.scalar.Scalar.{Scalar}
use Rattle.bl_names_tree.specs.declared.expr.NamedExpr.{NamedExpr, ind-NamedExpr, roll-NamedExpr}
use Rattle.bl_names_tree.specs.declared.expr.NamedExprKind.{NamedExprKind, roll-NamedExprKind}
use Rattle.bl_names_tree.specs.declared.expr.NamedExprKind.TheFolds.{map-NamedExprKind, map-NamedPart}
use Rattle.bl_names_tree.specs.declared.expr.NamedExprKind.TheOpen.{NamedExprKind-F, NamedPart-F}
use Rattle.bl_names_tree.specs.declared.expr.NamedPart.{NamedPart, out-NamedPart, out-roll-NamedPart}
use Rattle.bl_names_tree.specs.declared.expr.NamedTarget.{NamedTarget, ind-NamedTarget, roll-NamedTarget}
use Rattle.bl_names_tree.specs.declared.expr.Root.{Root}
use Rattle.bl_tree.proofs.StmtInduction.{each_such}

-- an expression by its place and its kind's parts
abbrev pub expr : Place → NamedExprKind-F NamedExprKind NamedPart NamedExpr NamedTarget → NamedExpr
expr place layer = roll-NamedExpr (record { place = place; what = roll-NamedExprKind layer })

-- P of the index, where the part is one
abbrev pub OfIndex : (NamedExpr → Type 0) → NamedPart-F NamedExprKind NamedPart NamedExpr NamedTarget → Type 0
OfIndex P (NamedPart-F.Field name) = Unit {0}
OfIndex P (NamedPart-F.Index e) = P e

-- P of every index of the parts
abbrev pub EachIndex : (NamedExpr → Type 0) → List NamedPart → Type 0
EachIndex P parts = All (λ part. OfIndex P (out-NamedPart part)) parts

-- what shows P of every expression and Q of every target
pub record Cases (P : NamedExpr → Type 0) (Q : NamedTarget → Type 0) : Type 0 where
  pub number : (place : Place) (minus : Bool) (n : ℕ) → P (expr place (NamedExprKind-F.Number minus n))
  pub truth : (place : Place) (b : Bool) → P (expr place (NamedExprKind-F.Truth b))
  pub read : (place : Place) (target : NamedTarget) → Q target → P (expr place (NamedExprKind-F.Read target))
  pub prev : (place : Place) (k : ℕ) → P (expr place (NamedExprKind-F.Prev k))
  pub one : (place : Place) (op : Op) (a : NamedExpr) → P a → P (expr place (NamedExprKind-F.One op a))
  pub two : (place : Place) (op : Op) (a b : NamedExpr) → P a → P b → P (expr place (NamedExprKind-F.Two op a b))
  pub cast : (place : Place) (s : Scalar) (a : NamedExpr) → P a → P (expr place (NamedExprKind-F.Cast s a))
  pub call : (place : Place) (name : Place) (f : ℕ) (inputs : List NamedExpr) → All P inputs → P (expr place (NamedExprKind-F.Call name f inputs))
  pub target : (place : Place) (root : Root) (parts : List NamedPart) → EachIndex P parts →
      Q (roll-NamedTarget (record { place = place; root = root; parts = parts }))

module _ (P : NamedExpr → Type 0) (Q : NamedTarget → Type 0) (cases : Cases P Q) where
  abbrev OfKind : NamedExprKind → Type 0
  OfKind kind = (place : Place) → P (roll-NamedExpr (record { place = place; what = kind }))

  abbrev OfPart : NamedPart → Type 0
  OfPart part = OfIndex P (out-NamedPart part)

  abbrev Shown : Type 0
  Shown = NamedExprKind-F ((kind : NamedExprKind) × OfKind kind) ((part : NamedPart) × OfPart part) ((e : NamedExpr) × P e)
      ((target : NamedTarget) × Q target)

  abbrev plain : Shown → NamedExprKind-F NamedExprKind NamedPart NamedExpr NamedTarget
  plain = map-NamedExprKind ((kind : NamedExprKind) × OfKind kind) ((part : NamedPart) × OfPart part) ((e : NamedExpr) × P e)
      ((target : NamedTarget) × Q target)
      NamedExprKind NamedPart NamedExpr NamedTarget (λ e. e.0) (λ e. e.0) (λ e. e.0) (λ e. e.0)

  by_kind : (place : Place) (shown : Shown) → P (expr place (plain shown))
  by_kind place (NamedExprKind-F.Number minus n) = cases.number place minus n
  by_kind place (NamedExprKind-F.Truth b) = cases.truth place b
  by_kind place (NamedExprKind-F.Read target) = cases.read place _ target.1
  by_kind place (NamedExprKind-F.Prev k) = cases.prev place k
  by_kind place (NamedExprKind-F.One op a) = cases.one place op _ a.1
  by_kind place (NamedExprKind-F.Two op a b) = cases.two place op _ _ a.1 b.1
  by_kind place (NamedExprKind-F.Cast s a) = cases.cast place s _ a.1
  by_kind place (NamedExprKind-F.Call name f inputs) = cases.call place name f _ (each_such P inputs)

  abbrev ShownPart : Type 0
  ShownPart = NamedPart-F ((kind : NamedExprKind) × OfKind kind) ((part : NamedPart) × OfPart part) ((e : NamedExpr) × P e)
      ((target : NamedTarget) × Q target)

  abbrev plain_part : ShownPart → NamedPart-F NamedExprKind NamedPart NamedExpr NamedTarget
  plain_part = map-NamedPart ((kind : NamedExprKind) × OfKind kind) ((part : NamedPart) × OfPart part) ((e : NamedExpr) × P e)
      ((target : NamedTarget) × Q target)
      NamedExprKind NamedPart NamedExpr NamedTarget (λ e. e.0) (λ e. e.0) (λ e. e.0) (λ e. e.0)

  by_part : (shown : ShownPart) → OfIndex P (plain_part shown)
  by_part (NamedPart-F.Field name) = tt
  by_part (NamedPart-F.Index e) = e.1

  -- every expression has P where the cases show it
  pub induct : (e : NamedExpr) → P e
  induct =
      ind-NamedExpr OfKind OfPart P Q
      (λ x y is place. subst (λ layer. P (expr place layer)) is (by_kind place y))
      (λ x y is. subst (OfIndex P) (is ∙ sym (out-roll-NamedPart x)) (by_part y))
      (λ x y is. subst (λ layer. P (roll-NamedExpr layer)) is (y.what.1 y.place))
      (λ x y is. subst (λ layer. Q (roll-NamedTarget layer)) is (cases.target y.place y.root _ (each_such OfPart y.parts)))

  -- and every target Q
  pub induct_target : (target : NamedTarget) → Q target
  induct_target =
      ind-NamedTarget OfKind OfPart P Q
      (λ x y is place. subst (λ layer. P (expr place layer)) is (by_kind place y))
      (λ x y is. subst (OfIndex P) (is ∙ sym (out-roll-NamedPart x)) (by_part y))
      (λ x y is. subst (λ layer. P (roll-NamedExpr layer)) is (y.what.1 y.place))
      (λ x y is. subst (λ layer. Q (roll-NamedTarget layer)) is (cases.target y.place y.root _ (each_such OfPart y.parts)))
