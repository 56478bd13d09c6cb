-- Open expressions with places mapped, as some type is wanted of them.
use Rattle.std.proofs.Common.{◌≡◌, Bool, true, false, List, refl, ap, ap₂, sym, ◌∙◌}
use Rattle.std.specs.Prelude.{Option, Some, None, if◌then◌else◌, option_map}
use Rattle.bl_tree.specs.declared.place.Place.{Place}
use Rattle.bl_tree.specs.declared.rule.Failure.{Failure}
use Rattle.bl_tree.specs.declared.rule.Rule.TheVariants as rule
use Rattle.bl_tree.specs.declared.scalar.Op.{Op}
use Rattle.bl_tree.specs.declared.scalar.Scalar.{Scalar as ScalarType}
use Rattle.bl_tree.specs.declared.tree.Expr.{Expr, fold-roll-Expr}
use Rattle.bl_tree.specs.declared.tree.ExprKind.{ExprKind, fold-ExprKind, fold-roll-ExprKind, map-ExprKind, roll-ExprKind}
use Rattle.bl_tree.specs.declared.tree.ExprKind.TheOpen.{ExprKind-F}
use Rattle.bl_tree.specs.declared.tree.Part.{Part, fold-Part}
use Rattle.bl_tree.specs.declared.tree.Path.{Path, fold-Path}
use Rattle.bl_tree.specs.declared.tree.Ty.{Ty}
use Rattle.bl_tree.specs.Numbers.{takes_one, takes_two}
use Rattle.bl_tree.specs.Scalar.{in_range, is_whole}
use Rattle.bl_tree.specs.Types.{scalar_in}
use Rattle.bl_tree_laws_places.specs.Placed.{placed_expr}
use Rattle.bl_tree_laws_places.proofs.Exprs.{Cases, induct_expr, said}
use Rattle.bl_types.specs.Settled.{Settled, behind, given, given_scalar, kept, one, one_made, settled, settled_if, settled_kind, settled_layer, settled_part}
use Rattle.bl_types.specs.Settled.{settled_path, two, two_made, unfit}
use Rattle.bl_types_laws_places.specs.Agree.{placed_failures}
use Rattle.bl_types_laws_places.specs.Judgements.{placed_settled}
use Rattle.bl_types_laws_places.proofs.Trees.{Layer, both_placed, chosen, literal_placed, one_placed, place_placed, said_is, said_layer, two_placed}
use Rattle.bl_types_laws_places.proofs.Trees.{unless_placed}

-- what is made and what fails, put together
abbrev settled_of : Option Expr → List Failure → Settled
settled_of made failures = record { made = made; failures = failures }

module _ (f : Place → Place) where
  pub behind_placed : (earlier : List Failure) (s : Settled) →
      behind (placed_failures f earlier) (placed_settled f s) ≡ placed_settled f (behind earlier s)
  behind_placed earlier s = ap (λ failures. record { made = option_map (placed_expr f) s.made; failures = failures }) (both_placed f earlier s.failures)

  -- one of two, by a test
  pub choice_placed : (test : Bool) (a b a' b' : Settled) → a' ≡ placed_settled f a → b' ≡ placed_settled f b →
      if test then a' else b' ≡ placed_settled f (if test then a else b)
  choice_placed test a b a' b' h k =
      ap₂ (λ x y. if test then x else y) h k ∙ chosen (placed_settled f) test a b

  one_made_placed : (s : ScalarType) (at : Place) (op : Op) (a : Option Expr) →
      one_made s (f at) op (option_map (placed_expr f) a) ≡ placed_settled f (one_made s at op a)
  one_made_placed s at op (Some a) =
      choice_placed (takes_one op s) (kept (one at op a)) (unfit at) (kept (one (f at) op (placed_expr f a))) (unfit (f at))
      (ap kept (sym (one_placed f at op a))) refl
  one_made_placed s at op None = refl

  two_made_placed : (s : ScalarType) (at : Place) (op : Op) (a b : Option Expr) →
      two_made s (f at) op (option_map (placed_expr f) a) (option_map (placed_expr f) b) ≡ placed_settled f (two_made s at op a b)
  two_made_placed s at op (Some a) (Some b) =
      choice_placed (takes_two op s) (kept (two at op a b)) (unfit at) (kept (two (f at) op (placed_expr f a) (placed_expr f b))) (unfit (f at))
      (ap kept (sym (two_placed f at op a b))) refl
  two_made_placed s at op (Some a) None = refl
  two_made_placed s at op None b = refl

  -- ---- an open expression as one of a type

  module _ (s : ScalarType) where
    abbrev settled_what : ExprKind → Place → Settled
    settled_what =
        fold-ExprKind (Place → Settled) (Unit {0}) Settled (Unit {0}) (settled_kind s) settled_part settled_layer settled_path

    -- a layer of an open expression, from what its operands come to
    abbrev filled : Layer → ExprKind-F (Place → Settled) (Unit {0}) Settled (Unit {0})
    filled = map-ExprKind ExprKind Part Expr Path (Place → Settled) (Unit {0}) Settled (Unit {0}) settled_what
        (fold-Part (Place → Settled) (Unit {0}) Settled (Unit {0}) (settled_kind s) settled_part settled_layer settled_path) (settled s)
        (fold-Path (Place → Settled) (Unit {0}) Settled (Unit {0}) (settled_kind s) settled_part settled_layer settled_path)

    what_is : (layer : Layer) → settled_what (roll-ExprKind layer) ≡ settled_kind s (filled layer)
    what_is layer = fold-roll-ExprKind (Place → Settled) (Unit {0}) Settled (Unit {0}) (settled_kind s) settled_part settled_layer settled_path layer

    abbrev KindSettles : ExprKind → Type 0
    KindSettles what = (at : Place) → settled_what (said f what) (f at) ≡ placed_settled f (settled_what what at)

    abbrev ExprSettles : Expr → Type 0
    ExprSettles e = settled s (placed_expr f e) ≡ placed_settled f (settled s e)

    by_layer : (layer : Layer) (at : Place) →
        settled_kind s (filled (said_layer f layer)) (f at) ≡ placed_settled f (settled_kind s (filled layer) at) →
        settled_what (said f (roll-ExprKind layer)) (f at) ≡ placed_settled f (settled_what (roll-ExprKind layer) at)
    by_layer layer at h =
        ap (λ kind. settled_what kind (f at)) (said_is f layer)
        ∙ ap (λ (settles : Place → Settled). settles (f at)) (what_is (said_layer f layer))
        ∙ h
        ∙ ap (λ (settles : Place → Settled). placed_settled f (settles at)) (sym (what_is layer))

    one_settles : (op : Op) (at : Place) (a a' : Settled) → a' ≡ placed_settled f a →
        behind a'.failures (one_made s (f at) op a'.made) ≡ placed_settled f (behind a.failures (one_made s at op a.made))
    one_settles op at a a' h =
        ap (λ (x : Settled). behind x.failures (one_made s (f at) op x.made)) h
        ∙ ap (λ x. behind (placed_failures f a.failures) x) (one_made_placed s at op a.made)
        ∙ behind_placed a.failures (one_made s at op a.made)

    two_settles : (op : Op) (at : Place) (a b a' b' : Settled) → a' ≡ placed_settled f a → b' ≡ placed_settled f b →
        behind a'.failures (behind b'.failures (two_made s (f at) op a'.made b'.made))
        ≡ placed_settled f (behind a.failures (behind b.failures (two_made s at op a.made b.made)))
    two_settles op at a b a' b' h k =
        ap₂ (λ (x y : Settled). behind x.failures (behind y.failures (two_made s (f at) op x.made y.made))) h k
        ∙ ap (λ x. behind (placed_failures f a.failures) (behind (placed_failures f b.failures) x)) (two_made_placed s at op a.made b.made)
        ∙ ap (behind (placed_failures f a.failures)) (behind_placed b.failures (two_made s at op a.made b.made))
        ∙ behind_placed a.failures (behind b.failures (two_made s at op a.made b.made))

    settling : Cases KindSettles (λ step. Unit {0}) ExprSettles (λ path. Unit {0})
    settling = record {
      literal = λ n t at.
          by_layer (ExprKind-F.Literal n t) at
          (ap₂ settled_of (ap Some (sym (literal_placed f at n s))) (unless_placed f (in_range s n) rule.Literal at));
      read = λ path h at. by_layer (ExprKind-F.Read path) at refl;
      prev = λ k at. by_layer (ExprKind-F.Prev k) at refl;
      one = λ op a h at. by_layer (ExprKind-F.One op a) at (one_settles op at (settled s a) (settled s (placed_expr f a)) h);
      two = λ op a b h k at.
          by_layer (ExprKind-F.Two op a b) at
          (two_settles op at (settled s a) (settled s b) (settled s (placed_expr f a)) (settled s (placed_expr f b)) h k);
      cast = λ target a h at. by_layer (ExprKind-F.Cast target a) at refl;
      call = λ callee inputs h at. by_layer (ExprKind-F.Call callee inputs) at refl;
      field = λ k. tt;
      index = λ e h. tt;
      expr = λ place what h. simp fold-roll-Expr (h place);
      path = λ place root parts ty h. tt;
    }

    pub settled_placed : (e : Expr) → settled s (placed_expr f e) ≡ placed_settled f (settled s e)
    settled_placed = induct_expr KindSettles (λ step. Unit {0}) ExprSettles (λ path. Unit {0}) settling

  -- ---- where some type is wanted

  pub settled_if_placed : (test : Bool) (s : ScalarType) (e : Expr) → settled_if test s (placed_expr f e) ≡ placed_settled f (settled_if test s e)
  settled_if_placed true s e = settled_placed s e
  settled_if_placed false s e = ap unfit (place_placed f e)

  given_scalar_placed : (s : Option ScalarType) (e : Expr) → given_scalar s (placed_expr f e) ≡ placed_settled f (given_scalar s e)
  given_scalar_placed (Some s) e = settled_if_placed (is_whole s) s e
  given_scalar_placed None e = ap unfit (place_placed f e)

  pub given_placed : (ty : Ty) (e : Expr) → given ty (placed_expr f e) ≡ placed_settled f (given ty e)
  given_placed ty e = given_scalar_placed (scalar_in ty) e
