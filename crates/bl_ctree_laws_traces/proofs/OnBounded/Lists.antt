-- Members of lists, and sums of what is said of them.
use Rattle.std.proofs.Common.{◌≡◌, ℕ, suc, ◌+◌, ◌<◌, ◌≤◌, List, [], ◌∷◌, ◌++◌, map, length, ◌⊎◌, inl, inr, refl, sym, ap, ◌∙◌, subst, arith}
use Rattle.std.specs.Prelude.{⊤}
use Rattle.std.proofs.lemmas.List.{length-append}
use Rattle.bl_tree.specs.Reduce.{joined, total}
use Rattle.bl_tree.proofs.FirstLemmas.{In}
use Rattle.bl_graph_nodes.specs.Steps.{StepLabel}
use Rattle.bl_ctree_laws_traces.specs.Bounded.Differ.{LabelsDiffer, Unlisted}
use Rattle.bl_ctree_laws_confluence.proofs.OnApart.Members.{in_left, in_right}

-- ---- members

-- P of each element
abbrev pub EachOf : {A : Type 0} → (A → Type 0) → List A → Type 0
EachOf P [] = ⊤
EachOf P (x ∷ xs) = P x × EachOf P xs

pub each_append : {A : Type 0} (P : A → Type 0) (xs ys : List A) → EachOf P xs → EachOf P ys → EachOf P (xs ++ ys)
each_append P [] ys each more = more
each_append P (x ∷ xs) ys each more = (each.0, each_append P xs ys each.1 more)

pub each_map : {A B : Type 0} (P : B → Type 0) (f : A → B) (xs : List A) → EachOf (λ x. P (f x)) xs → EachOf P (map f xs)
each_map P f [] each = tt
each_map P f (x ∷ xs) each = (each.0, each_map P f xs each.1)

pub each_more : {A : Type 0} (P Q : A → Type 0) → ((x : A) → P x → Q x) → (xs : List A) → EachOf P xs → EachOf Q xs
each_more P Q so [] each = tt
each_more P Q so (x ∷ xs) each = (so x each.0, each_more P Q so xs each.1)

pub among_either : {A : Type 0} (x : A) (xs ys : List A) → In x (xs ++ ys) → In x xs ⊎ In x ys
among_either x [] ys at = inr at
among_either x (y ∷ xs) ys (inl is) = inl (inl is)
among_either x (y ∷ xs) ys (inr at) = elim (among_either x xs ys at) [
  | inl here ↦ inl (inr here)
  | inr there ↦ inr there
]

-- what stands behind a member of a mapped list
pub record Mapped {A B : Type 0} (f : A → B) (y : B) (xs : List A) : Type 0 where
  pub one : A
  pub among : In one xs
  pub is : y ≡ f one

pub among_mapped : {A B : Type 0} (f : A → B) (y : B) (xs : List A) → In y (map f xs) → Mapped f y xs
among_mapped f y [] at = elim at [ ]
among_mapped f y (x ∷ xs) (inl is) = record { one = x; among = inl refl; is = is }
among_mapped f y (x ∷ xs) (inr at) =
    let more = among_mapped f y xs at in
    record { one = more.one; among = inr more.among; is = more.is }

pub among_joined : {A B : Type 0} (f : A → List B) (x : A) (y : B) (xs : List A) → In x xs → In y (f x) → In y (joined (map f xs))
among_joined f x y [] at inside = elim at [ ]
among_joined f x y (z ∷ xs) (inl is) inside = in_left y (f z) (joined (map f xs)) (subst (λ z. In y (f z)) is inside)
among_joined f x y (z ∷ xs) (inr at) inside = in_right y (f z) (joined (map f xs)) (among_joined f x y xs at inside)

-- ---- a list without doubles is no longer than one that has all of it

abbrev without : {A : Type 0} (x : A) (ys : List A) → In x ys → List A
without x [] at = elim at [ ]
without x (y ∷ ys) (inl is) = ys
without x (y ∷ ys) (inr at) = y ∷ without x ys at

without_long : {A : Type 0} (x : A) (ys : List A) (at : In x ys) → length ys ≡ suc (length (without x ys at))
without_long x [] at = elim at [ ]
without_long x (y ∷ ys) (inl is) = refl
without_long x (y ∷ ys) (inr at) = ap suc (without_long x ys at)

still_among : {A : Type 0} (x z : A) (ys : List A) (at : In x ys) → In z ys → (z ≡ x → ⊥) → In z (without x ys at)
still_among x z [] at other differ = elim at [ ]
still_among x z (y ∷ ys) (inl is) (inl same) differ = absurd (differ (same ∙ sym is))
still_among x z (y ∷ ys) (inl is) (inr there) differ = there
still_among x z (y ∷ ys) (inr at) (inl same) differ = inl same
still_among x z (y ∷ ys) (inr at) (inr there) differ = inr (still_among x z ys at there differ)

all_still : (n : StepLabel) (ys : List StepLabel) (at : In n ys) (labels : List StepLabel) → Unlisted n labels →
    EachOf (λ m. In m ys) labels → EachOf (λ m. In m (without n ys at)) labels
all_still n ys at [] differ among = tt
all_still n ys at (m ∷ rest) differ among = (still_among n m ys at among.0 differ.0, all_still n ys at rest differ.1 among.1)

pub pigeons : (labels ys : List StepLabel) → LabelsDiffer labels → EachOf (λ n. In n ys) labels → length labels ≤ length ys
pigeons [] ys differ among = omega arith
pigeons (n ∷ rest) ys differ among =
    let long = without_long n ys among.0 in
    let less = pigeons rest (without n ys among.0) differ.1 (all_still n ys among.0 rest differ.0 among.1) in
    omega arith

-- ---- sums

pub total_append : {A : Type 0} (f : A → ℕ) (xs ys : List A) → total (map f (xs ++ ys)) ≡ total (map f xs) + total (map f ys)
total_append f [] ys = omega arith
total_append f (x ∷ xs) ys = let more = total_append f xs ys in omega arith

pub total_both : {A : Type 0} (f g h : A → ℕ) → ((x : A) → h x ≡ f x + g x) → (xs : List A) →
    total (map h xs) ≡ total (map f xs) + total (map g xs)
total_both f g h is [] = refl
total_both f g h is (x ∷ xs) = let one = is x in let more = total_both f g h is xs in omega arith

pub total_of : {A B : Type 0} (f : B → ℕ) (g : A → B) (xs : List A) → total (map f (map g xs)) ≡ total (map (λ x. f (g x)) xs)
total_of f g [] = refl
total_of f g (x ∷ xs) = let more = total_of f g xs in omega arith

pub joined_long : {A B : Type 0} (f : A → List B) (xs : List A) → length (joined (map f xs)) ≡ total (map (λ x. length (f x)) xs)
joined_long f [] = refl
joined_long f (x ∷ xs) =
    let both = length-append (f x) (joined (map f xs)) in
    let more = joined_long f xs in
    omega arith

pub totals_less : {A : Type 0} (f g : A → ℕ) (xs : List A) → ((x : A) → In x xs → f x ≤ g x) → total (map f xs) ≤ total (map g xs)
totals_less f g [] each = omega arith
totals_less f g (x ∷ xs) each =
    let one = each x (inl refl) in
    let more = totals_less f g xs (λ y at. each y (inr at)) in
    omega arith
