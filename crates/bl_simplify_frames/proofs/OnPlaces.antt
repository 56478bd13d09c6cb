-- Places that are members of a frame, or the whole of it, and what calls pass on.
use Rattle.std.proofs.Common.{◌≡◌, Bool, true, false, ◌&&◌, ◌||◌, List, [], ◌∷◌, ◌++◌, map, length, get_or, ◌≤◌, arith, Option, Some, None, refl, ap, sym, ◌∙◌}
use Rattle.std.specs.Prelude.{bytes_eq}
use Rattle.std.specs.List.{list_all}
use Rattle.bl_tree.proofs.Basics.{and_assoc, and_true}
use Rattle.bl_tree.specs.Reduce.{joined}
use Rattle.bl_tree.specs.declared.text.Text.{Text}
use Rattle.bl_simplify_laws.specs.declared.facts.CSpot.{CSpot}
use Rattle.bl_simplify_laws.specs.Known.{spot_told}
use Rattle.bl_simplify_laws.specs.Spots.{same_truth, spots_apart}
use Rattle.bl_simplify_laws_frames.specs.Reached.{ArgFrames, Frame, all_apart, covers, first_exact, frame_spot, is_spot, whole_frame}
use Rattle.bl_simplify_frames.specs.Plain.{is_first_told, is_none_told}

-- ---- truths

through : (t b z : Bool) → (same_truth t true && (b && z)) ≡ ((t && b) && z)
through true b z = refl
through false b z = refl

pub never : (b : Bool) → false ≡ (b && false)
never true = refl
never false = refl

-- ---- places

pub member_told : (frame : Frame) (m : Text) (t : Bool) (name : Text) (steps : List (Option Text)) →
    is_spot (spot_told t name steps) (frame_spot frame m) ≡ ((t && bytes_eq name frame.pointer) && is_first_told steps m)
member_told frame m t name [] = through t (bytes_eq name frame.pointer) false
member_told frame m t name (Some n ∷ []) = through t (bytes_eq name frame.pointer) (bytes_eq n m)
member_told frame m t name (None ∷ []) = never (t && bytes_eq name frame.pointer)
member_told frame m t name (Some n ∷ next ∷ steps) = never (t && bytes_eq name frame.pointer)
member_told frame m t name (None ∷ next ∷ steps) = never (t && bytes_eq name frame.pointer)

pub whole_told : (frame : Frame) (t : Bool) (name : Text) (steps : List (Option Text)) →
    is_spot (spot_told t name steps) (whole_frame frame) ≡ ((t && bytes_eq name frame.pointer) && is_none_told steps)
whole_told frame t name [] = through t (bytes_eq name frame.pointer) true
whole_told frame t name (Some n ∷ []) = through t (bytes_eq name frame.pointer) false
whole_told frame t name (None ∷ []) = never (t && bytes_eq name frame.pointer)
whole_told frame t name (Some n ∷ next ∷ steps) = never (t && bytes_eq name frame.pointer)
whole_told frame t name (None ∷ next ∷ steps) = never (t && bytes_eq name frame.pointer)

pub covers_told : (frame : Frame) (exact : Option CSpot) (spot : CSpot) →
    (is_spot exact spot || is_spot exact (whole_frame frame)) ≡ covers frame exact spot
covers_told frame None spot = refl
covers_told frame (Some one) spot = refl

-- the first of what is told of a list
pub first_told : {X : Type 0} (g : X → ArgFrames) (xs : List X) (x : X) → 1 ≤ length xs → x ≡ get_or xs 0 x →
    first_exact (map (λ a. a.exact) (map g xs)) ≡ (g x).exact
first_told g [] x some is = absurd (omega arith)
first_told g (y ∷ ys) x some is = ap (λ z. (g z).exact) (sym is)

-- ---- what calls pass on

pub one_apart : (one spot : CSpot) → spots_apart one spot ≡ all_apart (one ∷ []) spot
one_apart one spot = sym (and_true (spots_apart one spot))

all_both : {X : Type 0} (f : X → Bool) (xs ys : List X) → (list_all f xs && list_all f ys) ≡ list_all f (xs ++ ys)
all_both f [] ys = refl
all_both f (x ∷ xs) ys = and_assoc (f x) (list_all f xs) (list_all f ys) ∙ ap (λ b. f x && b) (all_both f xs ys)

-- all of joined lists
pub all_joined : {X Y : Type 0} (f : Y → List X) (g : X → Bool) (ys : List Y) → list_all (λ y. list_all g (f y)) ys ≡ list_all g (joined (map f ys))
all_joined f g [] = refl
all_joined f g (y ∷ ys) = ap (λ b. list_all g (f y) && b) (all_joined f g ys) ∙ all_both g (f y) (joined (map f ys))

-- ---- truths put together

pub both : (one other a b : Bool) → one ≡ a → other ≡ b → (one && other) ≡ (a && b)
both one other a b first second = (λ i. first i && second i)

pub either : (one other a b : Bool) → one ≡ a → other ≡ b → (one || other) ≡ (a || b)
either one other a b first second = (λ i. first i || second i)
