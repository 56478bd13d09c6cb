-- Induction over expressions and paths: one case for each kind, with what is known of the parts inside.
use Rattle.std.proofs.Common.{ℕ, ℤ, List, subst, sym, ◌∙◌}
use Rattle.std.specs.Prelude.{All}
use Rattle.bl_tree.specs.declared.place.Place.{Place}
use Rattle.bl_tree.specs.declared.scalar.Op.{Op}
use Rattle.bl_tree.specs.declared.scalar.Scalar.{Scalar}
use Rattle.bl_tree.specs.declared.tree.Expr.{Expr, ind-Expr, roll-Expr}
use Rattle.bl_tree.specs.declared.tree.ExprKind.{ExprKind, roll-ExprKind}
use Rattle.bl_tree.specs.declared.tree.ExprKind.TheFolds.{map-ExprKind, map-Part}
use Rattle.bl_tree.specs.declared.tree.ExprKind.TheOpen.{ExprKind-F, Part-F}
use Rattle.bl_tree.specs.declared.tree.Part.{Part, out-Part, out-roll-Part}
use Rattle.bl_tree.specs.declared.tree.Path.{Path, ind-Path, roll-Path}
use Rattle.bl_tree.specs.declared.tree.Ty.{Ty}
use Rattle.bl_tree.proofs.StmtInduction.{each_such}

-- an expression by its place and its kind's parts
abbrev pub expr : Place → ExprKind-F ExprKind Part Expr Path → Expr
expr place layer = roll-Expr (record { place = place; what = roll-ExprKind layer })

-- P of the index, where the part is one
abbrev pub OfIndex : (Expr → Type 0) → Part-F ExprKind Part Expr Path → Type 0
OfIndex P (Part-F.Field k) = Unit {0}
OfIndex P (Part-F.Index e) = P e

-- P of every index of the parts
abbrev pub EachIndex : (Expr → Type 0) → List Part → Type 0
EachIndex P parts = All (λ part. OfIndex P (out-Part part)) parts

-- what shows P of every expression and Q of every path
pub record Cases (P : Expr → Type 0) (Q : Path → Type 0) : Type 0 where
  pub literal : (place : Place) (n : ℤ) (s : Scalar) → P (expr place (ExprKind-F.Literal n s))
  pub read : (place : Place) (path : Path) → Q path → P (expr place (ExprKind-F.Read path))
  pub prev : (place : Place) (k : ℕ) → P (expr place (ExprKind-F.Prev k))
  pub one : (place : Place) (op : Op) (a : Expr) → P a → P (expr place (ExprKind-F.One op a))
  pub two : (place : Place) (op : Op) (a b : Expr) → P a → P b → P (expr place (ExprKind-F.Two op a b))
  pub cast : (place : Place) (s : Scalar) (a : Expr) → P a → P (expr place (ExprKind-F.Cast s a))
  pub call : (place : Place) (f : ℕ) (inputs : List Expr) → All P inputs → P (expr place (ExprKind-F.Call f inputs))
  pub path : (place : Place) (root : ℕ) (parts : List Part) (ty : Ty) → EachIndex P parts →
      Q (roll-Path (record { place = place; root = root; parts = parts; ty = ty }))

module _ (P : Expr → Type 0) (Q : Path → Type 0) (cases : Cases P Q) where
  abbrev OfKind : ExprKind → Type 0
  OfKind kind = (place : Place) → P (roll-Expr (record { place = place; what = kind }))

  abbrev OfPart : Part → Type 0
  OfPart part = OfIndex P (out-Part part)

  abbrev Shown : Type 0
  Shown = ExprKind-F ((kind : ExprKind) × OfKind kind) ((part : Part) × OfPart part) ((e : Expr) × P e) ((path : Path) × Q path)

  abbrev plain : Shown → ExprKind-F ExprKind Part Expr Path
  plain = map-ExprKind ((kind : ExprKind) × OfKind kind) ((part : Part) × OfPart part) ((e : Expr) × P e) ((path : Path) × Q path)
      ExprKind Part Expr Path (λ e. e.0) (λ e. e.0) (λ e. e.0) (λ e. e.0)

  by_kind : (place : Place) (shown : Shown) → P (expr place (plain shown))
  by_kind place (ExprKind-F.Literal n s) = cases.literal place n s
  by_kind place (ExprKind-F.Read path) = cases.read place _ path.1
  by_kind place (ExprKind-F.Prev k) = cases.prev place k
  by_kind place (ExprKind-F.One op a) = cases.one place op _ a.1
  by_kind place (ExprKind-F.Two op a b) = cases.two place op _ _ a.1 b.1
  by_kind place (ExprKind-F.Cast s a) = cases.cast place s _ a.1
  by_kind place (ExprKind-F.Call f inputs) = cases.call place f _ (each_such P inputs)

  abbrev ShownPart : Type 0
  ShownPart = Part-F ((kind : ExprKind) × OfKind kind) ((part : Part) × OfPart part) ((e : Expr) × P e) ((path : Path) × Q path)

  abbrev plain_part : ShownPart → Part-F ExprKind Part Expr Path
  plain_part = map-Part ((kind : ExprKind) × OfKind kind) ((part : Part) × OfPart part) ((e : Expr) × P e) ((path : Path) × Q path)
      ExprKind Part Expr Path (λ e. e.0) (λ e. e.0) (λ e. e.0) (λ e. e.0)

  by_part : (shown : ShownPart) → OfIndex P (plain_part shown)
  by_part (Part-F.Field k) = tt
  by_part (Part-F.Index e) = e.1

  -- every expression has P where the cases show it
  pub induct : (e : Expr) → P e
  induct =
      ind-Expr OfKind OfPart P Q
      (λ x y is place. subst (λ layer. P (expr place layer)) is (by_kind place y))
      (λ x y is. subst (OfIndex P) (is ∙ sym (out-roll-Part x)) (by_part y))
      (λ x y is. subst (λ layer. P (roll-Expr layer)) is (y.what.1 y.place))
      (λ x y is. subst (λ layer. Q (roll-Path layer)) is (cases.path y.place y.root _ y.ty (each_such OfPart y.parts)))

  -- and every path Q
  pub induct_path : (path : Path) → Q path
  induct_path =
      ind-Path OfKind OfPart P Q
      (λ x y is place. subst (λ layer. P (expr place layer)) is (by_kind place y))
      (λ x y is. subst (OfIndex P) (is ∙ sym (out-roll-Part x)) (by_part y))
      (λ x y is. subst (λ layer. P (roll-Expr layer)) is (y.what.1 y.place))
      (λ x y is. subst (λ layer. Q (roll-Path layer)) is (cases.path y.place y.root _ y.ty (each_such OfPart y.parts)))
