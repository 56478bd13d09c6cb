-- An open expression as one of a type is nested no deeper, and names no more.
use Rattle.std.proofs.Common.{◌≡◌, Option, Some, None, refl, subst, sym}
use Rattle.std.specs.Prelude.{Bool, true, false, if◌then◌else◌}
use Rattle.bl_tree.specs.declared.place.Place.{Place}
use Rattle.bl_tree.specs.declared.scalar.Op.{Op}
use Rattle.bl_tree.specs.declared.scalar.Scalar.{Scalar as ScalarType}
use Rattle.bl_tree.specs.declared.tree.Expr.{Expr, fold-roll-Expr}
use Rattle.bl_tree.specs.declared.tree.ExprKind.{ExprKind, fold-ExprKind, fold-roll-ExprKind, map-ExprKind, out-roll-ExprKind, roll-ExprKind}
use Rattle.bl_tree.specs.declared.tree.ExprKind.TheOpen.{ExprKind-F}
use Rattle.bl_tree.specs.declared.tree.Part.{Part, fold-Part}
use Rattle.bl_tree.specs.declared.tree.Path.{Path, fold-Path}
use Rattle.bl_tree.specs.declared.tree.Ty.{Ty}
use Rattle.bl_tree.specs.Numbers.{takes_one, takes_two}
use Rattle.bl_tree.specs.Scalar.{is_whole}
use Rattle.bl_tree.specs.Types.{scalar_in}
use Rattle.bl_tree.proofs.ExprInduction.{Cases, expr, induct}
use Rattle.bl_types.specs.Settled.{Settled, given, given_scalar, kept, literal, one, one_made, settled, settled_if, settled_kind, settled_layer, settled_part}
use Rattle.bl_types.specs.Settled.{settled_path, two, two_made, unfit}
use Rattle.bl_types_laws.proofs.Sizes.{Layer, MadeIn, Size, SizeMost, beside, deeper, empty, literal_size, one_most, size_at, size_empty, size_is, size_kind}
use Rattle.bl_types_laws.proofs.Sizes.{size_of, two_most}

abbrev pub ExprIn : Size → Option Expr → Type 0
ExprIn = MadeIn size_of

one_if : (s : ScalarType) (at : Place) (op : Op) (a : Expr) (takes : Bool) (size : Size) → SizeMost (size_of a) size →
    ExprIn (deeper size) (if takes then kept (one at op a) else unfit at).made
one_if s at op a true size most = one_most at op a size most
one_if s at op a false size most = tt

one_in : (s : ScalarType) (at : Place) (op : Op) (a : Option Expr) (size : Size) → ExprIn size a → ExprIn (deeper size) (one_made s at op a).made
one_in s at op (Some a) size most = one_if s at op a (takes_one op s) size most
one_in s at op None size most = tt

two_if : (s : ScalarType) (at : Place) (op : Op) (a b : Expr) (takes : Bool) (left right : Size) → SizeMost (size_of a) left →
    SizeMost (size_of b) right →
    ExprIn (deeper (beside left right)) (if takes then kept (two at op a b) else unfit at).made
two_if s at op a b true left right most other = two_most at op a b left right most other
two_if s at op a b false left right most other = tt

two_in : (s : ScalarType) (at : Place) (op : Op) (a b : Option Expr) (left right : Size) → ExprIn left a → ExprIn right b →
    ExprIn (deeper (beside left right)) (two_made s at op a b).made
two_in s at op (Some a) (Some b) left right most other = two_if s at op a b (takes_two op s) left right most other
two_in s at op (Some a) None left right most other = tt
two_in s at op None b left right most other = tt

module _ (s : ScalarType) where
  abbrev P : Expr → Type 0
  P e = ExprIn (size_of e) (settled s e).made

  abbrev Q : Path → Type 0
  Q path = Unit {0}

  abbrev settled_by : Layer → Place → Settled
  settled_by layer = settled_kind s
      (map-ExprKind ExprKind Part Expr Path (Place → Settled) (Unit {0}) Settled (Unit {0})
      (fold-ExprKind (Place → Settled) (Unit {0}) Settled (Unit {0}) (settled_kind s) settled_part settled_layer settled_path)
      (fold-Part (Place → Settled) (Unit {0}) Settled (Unit {0}) (settled_kind s) settled_part settled_layer settled_path) (settled s)
      (fold-Path (Place → Settled) (Unit {0}) Settled (Unit {0}) (settled_kind s) settled_part settled_layer settled_path) layer)

  settled_is : (place : Place) (layer : Layer) → settled s (expr place layer) ≡ settled_by layer place
  settled_is place layer = rw (fold-roll-Expr, fold-roll-ExprKind) refl

  size_here : (place : Place) (layer : Layer) → size_of (expr place layer) ≡ size_kind layer
  size_here place layer = size_at place (roll-ExprKind layer) layer (out-roll-ExprKind layer)

  by_kind : (place : Place) (layer : Layer) → ExprIn (size_kind layer) (settled_by layer place).made → P (expr place layer)
  by_kind place layer most =
      subst (λ size. ExprIn size (settled s (expr place layer)).made) (sym (size_here place layer))
      (subst (λ (settled : Settled). ExprIn (size_kind layer) settled.made) (sym (settled_is place layer)) most)

  open_cases : Cases P Q
  open_cases = record {
    literal = λ place n t. by_kind place (ExprKind-F.Literal n t) (size_is (size_of (literal place n s)) empty empty (literal_size place n s)
        (size_empty empty));
    read = λ place path of. by_kind place (ExprKind-F.Read path) tt;
    prev = λ place k. by_kind place (ExprKind-F.Prev k) tt;
    one = λ place op a is. by_kind place (ExprKind-F.One op a) (one_in s place op (settled s a).made (size_of a) is);
    two = λ place op a b is_a is_b. by_kind place (ExprKind-F.Two op a b)
        (two_in s place op (settled s a).made (settled s b).made (size_of a) (size_of b) is_a is_b);
    cast = λ place t a is. by_kind place (ExprKind-F.Cast t a) tt;
    call = λ place f inputs all. by_kind place (ExprKind-F.Call f inputs) tt;
    path = λ place root parts ty each. tt;
  }

  pub settled_in : (e : Expr) → ExprIn (size_of e) (settled s e).made
  settled_in = induct P Q open_cases

if_in : (whole : Bool) (s : ScalarType) (e : Expr) → ExprIn (size_of e) (settled_if whole s e).made
if_in true s e = settled_in s e
if_in false s e = tt

scalar_given_in : (s : Option ScalarType) (e : Expr) → ExprIn (size_of e) (given_scalar s e).made
scalar_given_in (Some s) e = if_in (is_whole s) s e
scalar_given_in None e = tt

pub settled_if_in : (s : ScalarType) (e : Expr) → ExprIn (size_of e) (settled_if (is_whole s) s e).made
settled_if_in s e = if_in (is_whole s) s e

pub given_in : (ty : Ty) (e : Expr) → ExprIn (size_of e) (given ty e).made
given_in ty e = scalar_given_in (scalar_in ty) e
