-- Trees that are made at a place, with places mapped.
use Rattle.std.proofs.Common.{◌≡◌, ℕ, ℤ, Bool, true, false, List, ◌∷◌, ◌++◌, map, refl, ap, sym, ◌∙◌}
use Rattle.std.specs.Prelude.{Option, Some, None, if◌then◌else◌, option_map}
use Rattle.std.specs.List.{cons_option}
use Rattle.std.proofs.lemmas.List.{map-append}
use Rattle.bl_tree.specs.declared.place.Place.{Place}
use Rattle.bl_tree.specs.declared.rule.Failure.{Failure}
use Rattle.bl_tree.specs.declared.rule.Rule.{Rule}
use Rattle.bl_tree.specs.declared.scalar.Op.{Op}
use Rattle.bl_tree.specs.declared.scalar.Scalar.{Scalar as ScalarType}
use Rattle.bl_tree.specs.declared.tree.Expr.{Expr, fold-roll-Expr, out-Expr, roll-Expr}
use Rattle.bl_tree.specs.declared.tree.ExprKind.{ExprKind, fold-roll-ExprKind, map-ExprKind, roll-ExprKind}
use Rattle.bl_tree.specs.declared.tree.ExprKind.TheOpen.{ExprKind-F}
use Rattle.bl_tree.specs.declared.tree.ExprKind.TheVariants.{rolls-Literal, rolls-Read, rolls-Prev, rolls-One, rolls-Two, rolls-Cast, rolls-Call}
use Rattle.bl_tree.specs.declared.tree.ExprKind.TheVariants as what
use Rattle.bl_tree.specs.declared.tree.Part.{Part, fold-roll-Part, roll-Part}
use Rattle.bl_tree.specs.declared.tree.Part.TheVariants.{rolls-Field, rolls-Index}
use Rattle.bl_tree.specs.declared.tree.Part.TheVariants as part
use Rattle.bl_tree.specs.declared.tree.Path.{Path, fold-roll-Path, out-Path}
use Rattle.bl_tree.specs.declared.tree.Ty.{Ty}
use Rattle.bl_tree_laws_places.specs.Placed.{placed_expr, placed_expr_layer, placed_path, placed_path_layer}
use Rattle.bl_tree_laws_places.proofs.Exprs.{expr_out, path_out, said}
use Rattle.bl_tree_laws_places.proofs.Exprs.{stepped as moved_part}
use Rattle.bl_types.specs.Expressions.{call, cast, path, previous, read}
use Rattle.bl_types.specs.Failures.{unless}
use Rattle.bl_types.specs.Settled.{literal, one, two}
use Rattle.bl_types_laws_places.specs.Agree.{placed_failure, placed_failures}

abbrev pub Layer : Type 0
Layer = ExprKind-F ExprKind Part Expr Path

-- ---- tests

-- a function of what a test chooses
pub chosen : {A B : Type 0} (g : A → B) (test : Bool) (a b : A) → if test then g a else g b ≡ g (if test then a else b)
chosen g true a b = refl
chosen g false a b = refl

-- ---- lists with one element more, if there is one

pub made_first : {A : Type 0} (g : A → A) (one : Option A) (rest rest' : List A) → rest' ≡ map g rest →
    cons_option (option_map g one) rest' ≡ map g (cons_option one rest)
made_first g (Some x) rest rest' is = ap (λ more. g x ∷ more) is
made_first g None rest rest' is = is

module _ (f : Place → Place) where
  -- ---- failures

  pub both_placed : (xs ys : List Failure) → placed_failures f xs ++ placed_failures f ys ≡ placed_failures f (xs ++ ys)
  both_placed xs ys = sym (map-append (placed_failure f) xs ys)

  pub unless_placed : (test : Bool) (rule : Rule) (at : Place) → unless test rule (f at) ≡ placed_failures f (unless test rule at)
  unless_placed true rule at = refl
  unless_placed false rule at = refl

  -- ---- expressions

  -- a layer of an expression with all places mapped
  abbrev pub said_layer : Layer → Layer
  said_layer = map-ExprKind ExprKind Part Expr Path ExprKind Part Expr Path (said f) (moved_part f) (placed_expr f) (placed_path f)

  pub said_is : (layer : Layer) → said f (roll-ExprKind layer) ≡ roll-ExprKind (said_layer layer)
  said_is layer = fold-roll-ExprKind ExprKind Part Expr Path roll-ExprKind roll-Part (placed_expr_layer f) (placed_path_layer f) layer

  by_kind : (at : Place) (said_now said_then : ExprKind) → said f said_now ≡ said_then →
      placed_expr f (roll-Expr (record { place = at; what = said_now })) ≡ roll-Expr (record { place = f at; what = said_then })
  by_kind at said_now said_then h =
      let placed : placed_expr f (roll-Expr (record { place = at; what = said_now }))
      ≡ roll-Expr (record { place = f at; what = said f said_now }) = rw fold-roll-Expr refl in
      placed ∙ ap (λ kind. roll-Expr (record { place = f at; what = kind })) h

  pub literal_placed : (at : Place) (n : ℤ) (s : ScalarType) → placed_expr f (literal at n s) ≡ literal (f at) n s
  literal_placed at n s =
      by_kind at (what.Literal n s) (what.Literal n s) (ap (said f) (sym (rolls-Literal n s)) ∙ rw fold-roll-ExprKind (rolls-Literal n s))

  pub one_placed : (at : Place) (op : Op) (a : Expr) → placed_expr f (one at op a) ≡ one (f at) op (placed_expr f a)
  one_placed at op a =
      by_kind at (what.One op a) (what.One op (placed_expr f a))
      (ap (said f) (sym (rolls-One op a)) ∙ rw fold-roll-ExprKind (rolls-One op (placed_expr f a)))

  pub two_placed : (at : Place) (op : Op) (a b : Expr) → placed_expr f (two at op a b) ≡ two (f at) op (placed_expr f a) (placed_expr f b)
  two_placed at op a b =
      by_kind at (what.Two op a b) (what.Two op (placed_expr f a) (placed_expr f b))
      (ap (said f) (sym (rolls-Two op a b)) ∙ rw fold-roll-ExprKind (rolls-Two op (placed_expr f a) (placed_expr f b)))

  pub cast_placed : (at : Place) (s : ScalarType) (a : Expr) → placed_expr f (cast at s a) ≡ cast (f at) s (placed_expr f a)
  cast_placed at s a =
      by_kind at (what.Cast s a) (what.Cast s (placed_expr f a))
      (ap (said f) (sym (rolls-Cast s a)) ∙ rw fold-roll-ExprKind (rolls-Cast s (placed_expr f a)))

  pub previous_placed : (at : Place) (k : ℕ) → placed_expr f (previous at k) ≡ previous (f at) k
  previous_placed at k =
      by_kind at (what.Prev k) (what.Prev k) (ap (said f) (sym (rolls-Prev k)) ∙ rw fold-roll-ExprKind (rolls-Prev k))

  pub read_placed : (at : Place) (path : Path) → placed_expr f (read at path) ≡ read (f at) (placed_path f path)
  read_placed at path =
      by_kind at (what.Read path) (what.Read (placed_path f path))
      (ap (said f) (sym (rolls-Read path)) ∙ rw fold-roll-ExprKind (rolls-Read (placed_path f path)))

  pub call_placed : (at : Place) (callee : ℕ) (inputs : List Expr) →
      placed_expr f (call at callee inputs) ≡ call (f at) callee (map (placed_expr f) inputs)
  call_placed at callee inputs =
      by_kind at (what.Call callee inputs) (what.Call callee (map (placed_expr f) inputs))
      (ap (said f) (sym (rolls-Call callee inputs)) ∙ rw fold-roll-ExprKind (rolls-Call callee (map (placed_expr f) inputs)))

  pub place_placed : (e : Expr) → (out-Expr (placed_expr f e)).place ≡ f (out-Expr e).place
  place_placed e = ap (λ layer. layer.place) (expr_out f e)

  -- ---- paths

  pub path_placed : (at : Place) (k : ℕ) (parts : List Part) (ty : Ty) →
      placed_path f (path at k parts ty) ≡ path (f at) k (map (moved_part f) parts) ty
  path_placed at k parts ty = rw fold-roll-Path refl

  pub type_placed : (path : Path) → (out-Path (placed_path f path)).ty ≡ (out-Path path).ty
  type_placed path = ap (λ layer. layer.ty) (path_out f path)

  pub field_moved : (k : ℕ) → moved_part f (part.Field k) ≡ part.Field k
  field_moved k = ap (moved_part f) (sym (rolls-Field k)) ∙ rw fold-roll-Part (rolls-Field k)

  pub index_moved : (e : Expr) → moved_part f (part.Index e) ≡ part.Index (placed_expr f e)
  index_moved e = ap (moved_part f) (sym (rolls-Index e)) ∙ rw fold-roll-Part (rolls-Index (placed_expr f e))
