-- Raw expressions: what the map of places makes of each layer, and induction.
use Rattle.std.proofs.Common.{◌≡◌, ℕ, Bool, List, map, refl, subst, sym}
use Rattle.std.specs.Prelude.{All}
use Rattle.bl_tree.specs.declared.place.Place.{Place}
use Rattle.bl_tree.specs.declared.scalar.Op.{Op}
use Rattle.bl_tree.specs.declared.scalar.Scalar.{Scalar}
use Rattle.bl_parse_tree.specs.declared.expr.RawExpr.{RawExpr, fold-roll-RawExpr, ind-RawExpr, roll-RawExpr}
use Rattle.bl_parse_tree.specs.declared.expr.RawExprKind.{RawExprKind, fold-RawExprKind, fold-roll-RawExprKind, roll-RawExprKind}
use Rattle.bl_parse_tree.specs.declared.expr.RawExprKind.TheFolds.{map-RawExprKind, map-RawPart}
use Rattle.bl_parse_tree.specs.declared.expr.RawExprKind.TheOpen.{RawExprKind-F, RawPart-F}
use Rattle.bl_parse_tree.specs.declared.expr.RawPart.{RawPart, fold-RawPart, fold-roll-RawPart, out-RawPart, roll-RawPart, roll-out-RawPart}
use Rattle.bl_parse_tree.specs.declared.expr.RawTarget.{RawTarget, fold-roll-RawTarget, ind-RawTarget, roll-RawTarget}
use Rattle.bl_parse_tree.specs.declared.name.Name.{Name}
use Rattle.bl_parse_tree.specs.declared.expr.RawExprKind.TheVariants.{rolls-Number, rolls-Truth, rolls-Read, rolls-Prev, rolls-One, rolls-Two, rolls-Cast}
use Rattle.bl_parse_tree.specs.declared.expr.RawExprKind.TheVariants.{rolls-Call}
use Rattle.bl_parse_tree.specs.declared.expr.RawPart.TheVariants.{rolls-Field, rolls-Index}
use Rattle.bl_tree.proofs.StmtInduction.{each_such}
use Rattle.bl_joined.specs.Trees.{placed_expr, placed_expr_layer, placed_kind, placed_name, placed_part, placed_target, placed_target_layer}

-- ---- the map of places at each layer

abbrev pub Layer : Type 0
Layer = RawExprKind-F RawExprKind RawPart RawExpr RawTarget

module _ (f : Place → Place) where
  -- what an expression says, with all places mapped
  abbrev pub said : RawExprKind → RawExprKind
  said = fold-RawExprKind RawExprKind RawPart RawExpr RawTarget (placed_kind f) (placed_part f) (placed_expr_layer f) (placed_target_layer f)

  -- a part of a target, with all places mapped
  abbrev pub stepped : RawPart → RawPart
  stepped = fold-RawPart RawExprKind RawPart RawExpr RawTarget (placed_kind f) (placed_part f) (placed_expr_layer f) (placed_target_layer f)

  -- a layer with all places mapped
  abbrev pub said_layer : Layer → Layer
  said_layer (RawExprKind-F.Number minus n) = RawExprKind-F.Number minus n
  said_layer (RawExprKind-F.Truth b) = RawExprKind-F.Truth b
  said_layer (RawExprKind-F.Read target) = RawExprKind-F.Read (placed_target f target)
  said_layer (RawExprKind-F.Prev name) = RawExprKind-F.Prev (placed_name f name)
  said_layer (RawExprKind-F.One op a) = RawExprKind-F.One op (placed_expr f a)
  said_layer (RawExprKind-F.Two op a b) = RawExprKind-F.Two op (placed_expr f a) (placed_expr f b)
  said_layer (RawExprKind-F.Cast s a) = RawExprKind-F.Cast s (placed_expr f a)
  said_layer (RawExprKind-F.Call name inputs) = RawExprKind-F.Call (placed_name f name) (map (placed_expr f) inputs)

  pub said_is : (layer : Layer) → said (roll-RawExprKind layer) ≡ roll-RawExprKind (said_layer layer)
  said_is (RawExprKind-F.Number minus n) = rw fold-roll-RawExprKind (sym (rolls-Number _ _))
  said_is (RawExprKind-F.Truth b) = rw fold-roll-RawExprKind (sym (rolls-Truth _))
  said_is (RawExprKind-F.Read target) = rw fold-roll-RawExprKind (sym (rolls-Read _))
  said_is (RawExprKind-F.Prev name) = rw fold-roll-RawExprKind (sym (rolls-Prev _))
  said_is (RawExprKind-F.One op a) = rw fold-roll-RawExprKind (sym (rolls-One _ _))
  said_is (RawExprKind-F.Two op a b) = rw fold-roll-RawExprKind (sym (rolls-Two _ _ _))
  said_is (RawExprKind-F.Cast s a) = rw fold-roll-RawExprKind (sym (rolls-Cast _ _))
  said_is (RawExprKind-F.Call name inputs) = rw fold-roll-RawExprKind (sym (rolls-Call _ _))

  pub field_is : (name : Name) → stepped (roll-RawPart (RawPart-F.Field name)) ≡ roll-RawPart (RawPart-F.Field (placed_name f name))
  field_is name = rw fold-roll-RawPart (sym (rolls-Field _))

  pub index_is : (e : RawExpr) → stepped (roll-RawPart (RawPart-F.Index e)) ≡ roll-RawPart (RawPart-F.Index (placed_expr f e))
  index_is e = rw fold-roll-RawPart (sym (rolls-Index _))

  pub expr_is : (place : Place) (what : RawExprKind) →
      placed_expr f (roll-RawExpr (record { place = place; what = what })) ≡ roll-RawExpr (record { place = f place; what = said what })
  expr_is place what = rw fold-roll-RawExpr refl

  pub target_is : (place : Place) (root : Name) (parts : List RawPart) →
      placed_target f (roll-RawTarget (record { place = place; root = root; parts = parts }))
      ≡ roll-RawTarget (record { place = f place; root = placed_name f root; parts = map stepped parts })
  target_is place root parts = rw fold-roll-RawTarget refl

-- ---- induction

-- what shows facts of all parts of raw expressions
pub record Cases (K : RawExprKind → Type 0) (P : RawPart → Type 0) (E : RawExpr → Type 0) (Q : RawTarget → Type 0) : Type 0 where
  pub number : (minus : Bool) (n : ℕ) → K (roll-RawExprKind (RawExprKind-F.Number minus n))
  pub truth : (b : Bool) → K (roll-RawExprKind (RawExprKind-F.Truth b))
  pub read : (target : RawTarget) → Q target → K (roll-RawExprKind (RawExprKind-F.Read target))
  pub prev : (name : Name) → K (roll-RawExprKind (RawExprKind-F.Prev name))
  pub one : (op : Op) (a : RawExpr) → E a → K (roll-RawExprKind (RawExprKind-F.One op a))
  pub two : (op : Op) (a b : RawExpr) → E a → E b → K (roll-RawExprKind (RawExprKind-F.Two op a b))
  pub cast : (s : Scalar) (a : RawExpr) → E a → K (roll-RawExprKind (RawExprKind-F.Cast s a))
  pub call : (callee : Name) (inputs : List RawExpr) → All E inputs → K (roll-RawExprKind (RawExprKind-F.Call callee inputs))
  pub field : (name : Name) → P (roll-RawPart (RawPart-F.Field name))
  pub index : (e : RawExpr) → E e → P (roll-RawPart (RawPart-F.Index e))
  pub expr : (place : Place) (what : RawExprKind) → K what → E (roll-RawExpr (record { place = place; what = what }))
  pub target : (place : Place) (root : Name) (parts : List RawPart) → All P parts →
      Q (roll-RawTarget (record { place = place; root = root; parts = parts }))

module _ (K : RawExprKind → Type 0) (P : RawPart → Type 0) (E : RawExpr → Type 0) (Q : RawTarget → Type 0) (cases : Cases K P E Q) where
  abbrev ShownKind : Type 0
  ShownKind =
      RawExprKind-F ((kind : RawExprKind) × K kind) ((part : RawPart) × P part) ((e : RawExpr) × E e) ((target : RawTarget) × Q target)

  abbrev plain : ShownKind → RawExprKind-F RawExprKind RawPart RawExpr RawTarget
  plain = map-RawExprKind ((kind : RawExprKind) × K kind) ((part : RawPart) × P part) ((e : RawExpr) × E e) ((target : RawTarget) × Q target)
      RawExprKind RawPart RawExpr RawTarget (λ e. e.0) (λ e. e.0) (λ e. e.0) (λ e. e.0)

  by_kind : (shown : ShownKind) → K (roll-RawExprKind (plain shown))
  by_kind (RawExprKind-F.Number minus n) = cases.number minus n
  by_kind (RawExprKind-F.Truth b) = cases.truth b
  by_kind (RawExprKind-F.Read target) = cases.read _ target.1
  by_kind (RawExprKind-F.Prev name) = cases.prev name
  by_kind (RawExprKind-F.One op a) = cases.one op _ a.1
  by_kind (RawExprKind-F.Two op a b) = cases.two op _ _ a.1 b.1
  by_kind (RawExprKind-F.Cast s a) = cases.cast s _ a.1
  by_kind (RawExprKind-F.Call callee inputs) = cases.call callee _ (each_such E inputs)

  abbrev ShownPart : Type 0
  ShownPart = RawPart-F ((kind : RawExprKind) × K kind) ((part : RawPart) × P part) ((e : RawExpr) × E e) ((target : RawTarget) × Q target)

  abbrev plain_part : ShownPart → RawPart-F RawExprKind RawPart RawExpr RawTarget
  plain_part = map-RawPart ((kind : RawExprKind) × K kind) ((part : RawPart) × P part) ((e : RawExpr) × E e) ((target : RawTarget) × Q target)
      RawExprKind RawPart RawExpr RawTarget (λ e. e.0) (λ e. e.0) (λ e. e.0) (λ e. e.0)

  by_part : (shown : ShownPart) → P (roll-RawPart (plain_part shown))
  by_part (RawPart-F.Field name) = cases.field name
  by_part (RawPart-F.Index e) = cases.index _ e.1

  -- every raw expression has what the cases show
  pub induct_expr : (e : RawExpr) → E e
  induct_expr =
      ind-RawExpr K P E Q
      (λ x y is. subst (λ layer. K (roll-RawExprKind layer)) is (by_kind y))
      (λ x y is. subst (λ layer. P (roll-RawPart layer)) is (by_part y))
      (λ x y is. subst (λ layer. E (roll-RawExpr layer)) is (cases.expr y.place y.what.0 y.what.1))
      (λ x y is. subst (λ layer. Q (roll-RawTarget layer)) is (cases.target y.place y.root _ (each_such P y.parts)))

  -- every raw target has what the cases show
  pub induct_target : (target : RawTarget) → Q target
  induct_target =
      ind-RawTarget K P E Q
      (λ x y is. subst (λ layer. K (roll-RawExprKind layer)) is (by_kind y))
      (λ x y is. subst (λ layer. P (roll-RawPart layer)) is (by_part y))
      (λ x y is. subst (λ layer. E (roll-RawExpr layer)) is (cases.expr y.place y.what.0 y.what.1))
      (λ x y is. subst (λ layer. Q (roll-RawTarget layer)) is (cases.target y.place y.root _ (each_such P y.parts)))

-- a part is a field or an index
pub induct_part : (P : RawPart → Type 0) → ((name : Name) → P (roll-RawPart (RawPart-F.Field name))) →
    ((e : RawExpr) → P (roll-RawPart (RawPart-F.Index e))) → (step : RawPart) → P step
induct_part P field index step = subst P (roll-out-RawPart step) (by_layer (out-RawPart step))
  where
    by_layer : (layer : RawPart-F RawExprKind RawPart RawExpr RawTarget) → P (roll-RawPart layer)
    by_layer (RawPart-F.Field name) = field name
    by_layer (RawPart-F.Index e) = index e
