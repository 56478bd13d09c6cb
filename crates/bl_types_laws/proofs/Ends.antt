-- Lists that end with what is still to come.
use Rattle.std.proofs.Common.{◌≡◌, ℕ, ◌+◌, List, [], ◌∷◌, ◌++◌, length, take, refl, sym, ap, ◌∙◌, append-nil, append_assoc}
use Rattle.std.specs.Prelude.{slice_get}
use Rattle.std.proofs.Math.Seq.{take-append_seam}
use Rattle.std.proofs.lemmas.List.{length-append}
use Rattle.bl_names.proofs.PlacedStmt.{Within, within_first}

-- the list ends with these, which begin at the position
pub record Ends {A : Type 0} (xs : List A) (at : ℕ) (part : List A) : Type 0 where
  pub before : List A
  pub there : xs ≡ before ++ part
  pub is_at : length before ≡ at

abbrev pub ends_whole : {A : Type 0} (xs : List A) → Ends xs 0 xs
ends_whole xs = record { before = []; there = refl; is_at = refl }

pub ends_within : {A : Type 0} (xs : List A) (at : ℕ) (part : List A) → Ends xs at part → Within xs at part
ends_within xs at part ends = record {
  before = ends.before;
  rest = [];
  there = ends.there
      ∙ ap (λ part. ends.before ++ part) (sym (append-nil part));
  is_at = ends.is_at;
}

pub ends_first : {A : Type 0} (xs : List A) (at : ℕ) (a b : List A) → Ends xs at (a ++ b) → Within xs at a
ends_first xs at a b ends = within_first xs at a b (ends_within xs at (a ++ b) ends)

abbrev pub ends_on : {A : Type 0} (xs : List A) (at next : ℕ) (a b : List A) → next ≡ at + length a → Ends xs at (a ++ b) → Ends xs next b
ends_on xs at next a b is ends = record {
  before = ends.before ++ a;
  there = ends.there ∙ sym (append_assoc ends.before a b);
  is_at = length-append ends.before a ∙ ap (λ n. n + length a) ends.is_at ∙ sym is;
}

get_behind : {A : Type 0} (before part : List A) → slice_get (before ++ part) (length before) ≡ slice_get part 0
get_behind [] part = refl
get_behind (x ∷ before) part = get_behind before part

-- what is next is the first of what is to come
pub ends_next : {A : Type 0} (xs : List A) (at : ℕ) (part : List A) → Ends xs at part → slice_get xs at ≡ slice_get part 0
ends_next xs at part ends = (λ i. slice_get (ends.there i) (sym ends.is_at i)) ∙ get_behind ends.before part

pub ends_take : {A : Type 0} (xs : List A) (at : ℕ) (part : List A) (ends : Ends xs at part) → take at xs ≡ ends.before
ends_take xs at part ends = (λ i. take (sym ends.is_at i) (ends.there i)) ∙ take-append_seam ends.before part

-- ---- the last of a list

abbrev last_or : {A : Type 0} → A → List A → A
last_or d [] = d
last_or d (x ∷ xs) = last_or x xs

last_is : {A : Type 0} (d : A) (xs : List A) (x : A) → last_or d (xs ++ x ∷ []) ≡ x
last_is d [] x = refl
last_is d (y ∷ xs) x = last_is y xs x

pub same_last : {A : Type 0} (xs ys : List A) (x y : A) → xs ++ x ∷ [] ≡ ys ++ y ∷ [] → x ≡ y
same_last xs ys x y is = sym (last_is x xs x) ∙ ap (last_or x) is ∙ last_is x ys y
