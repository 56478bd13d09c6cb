-- What is folded over the parts of an expression with no look at places stays where the places are mapped.
use Rattle.std.proofs.Common.{◌≡◌, ℕ, ℤ, List, map, refl, ap, ap₂, subst, ◌∙◌}
use Rattle.std.specs.Prelude.{All}
use Rattle.bl_tree.specs.declared.place.Place.{Place}
use Rattle.bl_tree.specs.declared.scalar.Op.{Op}
use Rattle.bl_tree.specs.declared.scalar.Scalar.{Scalar}
use Rattle.bl_tree.specs.declared.tree.Expr.{Expr, fold-Expr, fold-roll-Expr, fold_out-Expr, ind-Expr, out-Expr, out-roll-Expr, roll-Expr}
use Rattle.bl_tree.specs.declared.tree.ExprKind.{ExprKind, fold-ExprKind, fold-roll-ExprKind, fold_out-ExprKind, out-ExprKind, out-roll-ExprKind, roll-ExprKind}
use Rattle.bl_tree.specs.declared.tree.ExprKind.TheFolds.{map-ExprKind, map-Part}
use Rattle.bl_tree.specs.declared.tree.ExprKind.TheOpen.{ExprKind-F, Part-F, Expr-F, Path-F}
use Rattle.bl_tree.specs.declared.tree.Part.{Part, fold-Part, fold-roll-Part, roll-Part}
use Rattle.bl_tree.specs.declared.tree.Path.{Path, fold-Path, fold-roll-Path, fold_out-Path, ind-Path, out-Path, out-roll-Path, roll-Path}
use Rattle.bl_tree.specs.declared.tree.Ty.{Ty}
use Rattle.bl_tree.proofs.StmtInduction.{each_such}
use Rattle.bl_tree_laws_places.specs.Placed.{placed_expr, placed_expr_layer, placed_path, placed_path_layer}
use Rattle.bl_tree_laws_places.proofs.Lists.{map-after, map-back}

module _ (f : Place → Place) where
  -- what an expression says, with all places mapped
  abbrev pub said : ExprKind → ExprKind
  said = fold-ExprKind ExprKind Part Expr Path roll-ExprKind roll-Part (placed_expr_layer f) (placed_path_layer f)

  -- a part of a path, with all places mapped
  abbrev pub stepped : Part → Part
  stepped = fold-Part ExprKind Part Expr Path roll-ExprKind roll-Part (placed_expr_layer f) (placed_path_layer f)

  -- an expression with places mapped, by its place and its kind
  pub expr_out : (e : Expr) → out-Expr (placed_expr f e) ≡ record { place = f (out-Expr e).place; what = said (out-Expr e).what }
  expr_out e =
      ap out-Expr (fold_out-Expr ExprKind Part Expr Path roll-ExprKind roll-Part (placed_expr_layer f) (placed_path_layer f) e)
      ∙ out-roll-Expr _

  -- the kind of an expression with places mapped, by its parts
  pub kind_out : (what : ExprKind) → out-ExprKind (said what)
      ≡ map-ExprKind ExprKind Part Expr Path ExprKind Part Expr Path said stepped (placed_expr f) (placed_path f) (out-ExprKind what)
  kind_out what =
      ap out-ExprKind (fold_out-ExprKind ExprKind Part Expr Path roll-ExprKind roll-Part (placed_expr_layer f) (placed_path_layer f) what)
      ∙ out-roll-ExprKind _

  -- a path with places mapped, by its parts
  pub path_out : (path : Path) → out-Path (placed_path f path)
      ≡ record { place = f (out-Path path).place; root = (out-Path path).root; parts = map stepped (out-Path path).parts; ty = (out-Path path).ty }
  path_out path =
      ap out-Path (fold_out-Path ExprKind Part Expr Path roll-ExprKind roll-Part (placed_expr_layer f) (placed_path_layer f) path)
      ∙ out-roll-Path _

-- what shows facts of all parts of expressions
pub record Cases (K : ExprKind → Type 0) (P : Part → Type 0) (E : Expr → Type 0) (Q : Path → Type 0) : Type 0 where
  pub literal : (n : ℤ) (s : Scalar) → K (roll-ExprKind (ExprKind-F.Literal n s))
  pub read : (path : Path) → Q path → K (roll-ExprKind (ExprKind-F.Read path))
  pub prev : (k : ℕ) → K (roll-ExprKind (ExprKind-F.Prev k))
  pub one : (op : Op) (a : Expr) → E a → K (roll-ExprKind (ExprKind-F.One op a))
  pub two : (op : Op) (a b : Expr) → E a → E b → K (roll-ExprKind (ExprKind-F.Two op a b))
  pub cast : (s : Scalar) (a : Expr) → E a → K (roll-ExprKind (ExprKind-F.Cast s a))
  pub call : (callee : ℕ) (inputs : List Expr) → All E inputs → K (roll-ExprKind (ExprKind-F.Call callee inputs))
  pub field : (k : ℕ) → P (roll-Part (Part-F.Field k))
  pub index : (e : Expr) → E e → P (roll-Part (Part-F.Index e))
  pub expr : (place : Place) (what : ExprKind) → K what → E (roll-Expr (record { place = place; what = what }))
  pub path : (place : Place) (root : ℕ) (parts : List Part) (ty : Ty) → All P parts →
      Q (roll-Path (record { place = place; root = root; parts = parts; ty = ty }))

module _ (K : ExprKind → Type 0) (P : Part → Type 0) (E : Expr → Type 0) (Q : Path → Type 0) (cases : Cases K P E Q) where
  abbrev ShownKind : Type 0
  ShownKind = ExprKind-F ((kind : ExprKind) × K kind) ((part : Part) × P part) ((e : Expr) × E e) ((path : Path) × Q path)

  abbrev plain : ShownKind → ExprKind-F ExprKind Part Expr Path
  plain = map-ExprKind ((kind : ExprKind) × K kind) ((part : Part) × P part) ((e : Expr) × E e) ((path : Path) × Q path)
      ExprKind Part Expr Path (λ e. e.0) (λ e. e.0) (λ e. e.0) (λ e. e.0)

  by_kind : (shown : ShownKind) → K (roll-ExprKind (plain shown))
  by_kind (ExprKind-F.Literal n s) = cases.literal n s
  by_kind (ExprKind-F.Read path) = cases.read _ path.1
  by_kind (ExprKind-F.Prev k) = cases.prev k
  by_kind (ExprKind-F.One op a) = cases.one op _ a.1
  by_kind (ExprKind-F.Two op a b) = cases.two op _ _ a.1 b.1
  by_kind (ExprKind-F.Cast s a) = cases.cast s _ a.1
  by_kind (ExprKind-F.Call callee inputs) = cases.call callee _ (each_such E inputs)

  abbrev ShownPart : Type 0
  ShownPart = Part-F ((kind : ExprKind) × K kind) ((part : Part) × P part) ((e : Expr) × E e) ((path : Path) × Q path)

  abbrev plain_part : ShownPart → Part-F ExprKind Part Expr Path
  plain_part = map-Part ((kind : ExprKind) × K kind) ((part : Part) × P part) ((e : Expr) × E e) ((path : Path) × Q path)
      ExprKind Part Expr Path (λ e. e.0) (λ e. e.0) (λ e. e.0) (λ e. e.0)

  by_part : (shown : ShownPart) → P (roll-Part (plain_part shown))
  by_part (Part-F.Field k) = cases.field k
  by_part (Part-F.Index e) = cases.index _ e.1

  -- every expression has what the cases show
  pub induct_expr : (e : Expr) → E e
  induct_expr =
      ind-Expr K P E Q
      (λ x y is. subst (λ layer. K (roll-ExprKind layer)) is (by_kind y))
      (λ x y is. subst (λ layer. P (roll-Part layer)) is (by_part y))
      (λ x y is. subst (λ layer. E (roll-Expr layer)) is (cases.expr y.place y.what.0 y.what.1))
      (λ x y is. subst (λ layer. Q (roll-Path layer)) is (cases.path y.place y.root _ y.ty (each_such P y.parts)))

  -- every path has what the cases show
  pub induct_path : (path : Path) → Q path
  induct_path =
      ind-Path K P E Q
      (λ x y is. subst (λ layer. K (roll-ExprKind layer)) is (by_kind y))
      (λ x y is. subst (λ layer. P (roll-Part layer)) is (by_part y))
      (λ x y is. subst (λ layer. E (roll-Expr layer)) is (cases.expr y.place y.what.0 y.what.1))
      (λ x y is. subst (λ layer. Q (roll-Path layer)) is (cases.path y.place y.root _ y.ty (each_such P y.parts)))

-- ---- folds

module _ (f : Place → Place) (K P E Q : Type 0) (kind : ExprKind-F K P E Q → K) (part : Part-F K P E Q → P) (expr : Expr-F K P E Q → E)
    (path : Path-F K P E Q → Q)
    (blind : (p q : Place) (what : K) → expr (record { place = p; what = what }) ≡ expr (record { place = q; what = what }))
    (blind_path : (p q : Place) (root : ℕ) (parts : List P) (ty : Ty) →
    path (record { place = p; root = root; parts = parts; ty = ty }) ≡ path (record { place = q; root = root; parts = parts; ty = ty })) where
  abbrev of_kind : ExprKind → K
  of_kind = fold-ExprKind K P E Q kind part expr path

  abbrev of_part : Part → P
  of_part = fold-Part K P E Q kind part expr path

  abbrev of_expr : Expr → E
  of_expr = fold-Expr K P E Q kind part expr path

  abbrev of_path : Path → Q
  of_path = fold-Path K P E Q kind part expr path

  abbrev KindStays : ExprKind → Type 0
  KindStays what = of_kind (said f what) ≡ of_kind what

  abbrev PartStays : Part → Type 0
  PartStays step = of_part (stepped f step) ≡ of_part step

  abbrev ExprStays : Expr → Type 0
  ExprStays e = of_expr (placed_expr f e) ≡ of_expr e

  abbrev PathStays : Path → Type 0
  PathStays target = of_path (placed_path f target) ≡ of_path target

  staying : Cases KindStays PartStays ExprStays PathStays
  staying = record {
    literal = λ n s. simp fold-roll-ExprKind refl;
    read = λ target h. simp fold-roll-ExprKind (ap (λ x. kind (ExprKind-F.Read x)) h);
    prev = λ k. simp fold-roll-ExprKind refl;
    one = λ op a h. simp fold-roll-ExprKind (ap (λ x. kind (ExprKind-F.One op x)) h);
    two = λ op a b h k. simp fold-roll-ExprKind (ap₂ (λ x y. kind (ExprKind-F.Two op x y)) h k);
    cast = λ s a h. simp fold-roll-ExprKind (ap (λ x. kind (ExprKind-F.Cast s x)) h);
    call = λ callee inputs h.
        simp fold-roll-ExprKind (ap (λ xs. kind (ExprKind-F.Call callee xs)) (map-after of_expr (placed_expr f) inputs h));
    field = λ k. simp fold-roll-Part refl;
    index = λ e h. simp fold-roll-Part (ap (λ x. part (Part-F.Index x)) h);
    expr = λ place what h.
        simp fold-roll-Expr (ap (λ x. expr (record { place = f place; what = x })) h ∙ blind (f place) place (of_kind what));
    path = λ place root parts ty h.
        simp fold-roll-Path
        (ap (λ xs. path (record { place = f place; root = root; parts = xs; ty = ty })) (map-after of_part (stepped f) parts h)
        ∙ blind_path (f place) place root (map of_part parts) ty);
  }

  pub expr_stays : (e : Expr) → of_expr (placed_expr f e) ≡ of_expr e
  expr_stays = induct_expr KindStays PartStays ExprStays PathStays staying

  pub path_stays : (target : Path) → of_path (placed_path f target) ≡ of_path target
  path_stays = induct_path KindStays PartStays ExprStays PathStays staying

-- ---- back

module _ (f g : Place → Place) (back : (place : Place) → g (f place) ≡ place) where
  abbrev KindBack : ExprKind → Type 0
  KindBack what = said g (said f what) ≡ what

  abbrev PartBack : Part → Type 0
  PartBack step = stepped g (stepped f step) ≡ step

  abbrev ExprBack : Expr → Type 0
  ExprBack e = placed_expr g (placed_expr f e) ≡ e

  abbrev PathBack : Path → Type 0
  PathBack target = placed_path g (placed_path f target) ≡ target

  coming : Cases KindBack PartBack ExprBack PathBack
  coming = record {
    literal = λ n s. simp fold-roll-ExprKind refl;
    read = λ target h. simp fold-roll-ExprKind (ap (λ x. roll-ExprKind (ExprKind-F.Read x)) h);
    prev = λ k. simp fold-roll-ExprKind refl;
    one = λ op a h. simp fold-roll-ExprKind (ap (λ x. roll-ExprKind (ExprKind-F.One op x)) h);
    two = λ op a b h k. simp fold-roll-ExprKind (ap₂ (λ x y. roll-ExprKind (ExprKind-F.Two op x y)) h k);
    cast = λ s a h. simp fold-roll-ExprKind (ap (λ x. roll-ExprKind (ExprKind-F.Cast s x)) h);
    call = λ callee inputs h.
        simp fold-roll-ExprKind
        (ap (λ xs. roll-ExprKind (ExprKind-F.Call callee xs)) (map-back (placed_expr g) (placed_expr f) inputs h));
    field = λ k. simp fold-roll-Part refl;
    index = λ e h. simp fold-roll-Part (ap (λ x. roll-Part (Part-F.Index x)) h);
    expr = λ place what h. simp fold-roll-Expr (ap₂ (λ p x. roll-Expr (record { place = p; what = x })) (back place) h);
    path = λ place root parts ty h.
        simp fold-roll-Path
        (ap₂ (λ p xs. roll-Path (record { place = p; root = root; parts = xs; ty = ty })) (back place)
        (map-back (stepped g) (stepped f) parts h));
  }

  pub expr_back : (e : Expr) → placed_expr g (placed_expr f e) ≡ e
  expr_back = induct_expr KindBack PartBack ExprBack PathBack coming

  pub path_back : (target : Path) → placed_path g (placed_path f target) ≡ target
  path_back = induct_path KindBack PartBack ExprBack PathBack coming
