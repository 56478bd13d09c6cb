-- Lists that are no longer than a bound can't become lower for ever.
use Rattle.std.proofs.Common.{inl, inr, ℕ, zero, suc, ◌<◌, ◌≤◌, List, [], ◌∷◌, length, sym, subst, arith}
use Rattle.bl_ctree_laws_traces.specs.Ready.Ranks.{Lower}

nothing_lower : {A : Type 0} (ys : List ℕ) → Lower ys [] → A
nothing_lower [] low = elim low [ ]
nothing_lower (y ∷ ys) low = elim low [ ]

-- P of a list where it is so of all that are lower
abbrev Inductive : ℕ → (List ℕ → Type 0) → Type 0
Inductive bound P = (xs : List ℕ) → length xs ≤ bound → ((ys : List ℕ) → length ys ≤ bound → Lower ys xs → P ys) → P xs

lower_in : (bound x : ℕ) (P : List ℕ → Type 0) (zs : List ℕ) → ((y : ℕ) → y < x → (ys : List ℕ) → length ys ≤ bound →
    P (y ∷ ys)) →
    ((ys : List ℕ) → length ys ≤ bound → Lower ys zs → P (x ∷ ys)) → (ys : List ℕ) → length ys ≤ suc bound →
    Lower ys (x ∷ zs) → P ys
lower_in bound x P zs earlier same [] within low = elim low [ ]
lower_in bound x P zs earlier same (y ∷ ys) within (inl lt) = earlier y lt ys (omega arith)
lower_in bound x P zs earlier same (y ∷ ys) within (inr (is, low)) = subst (λ k. P (k ∷ ys)) (sym is) (same ys (omega arith) low)

by_head : (bound : ℕ) (P : List ℕ → Type 0) → Inductive (suc bound) P →
    ((Q : List ℕ → Type 0) → Inductive bound Q → (xs : List ℕ) → length xs ≤ bound → Q xs) → (limit x : ℕ) → x < limit →
    (xs : List ℕ) →
    length xs ≤ bound → P (x ∷ xs)
by_head bound P step more zero x lt xs within = absurd (omega arith)
by_head bound P step more (suc limit) x lt xs within =
    more (λ zs. P (x ∷ zs))
    (λ zs le rec. step (x ∷ zs) (omega arith)
    (lower_in bound x P zs (λ y less ys le'. by_head bound P step more limit y (omega arith) ys le') rec)) xs within

pub descend : (bound : ℕ) (P : List ℕ → Type 0) → Inductive bound P → (xs : List ℕ) → length xs ≤ bound → P xs
descend bound P step [] within = step [] within (λ ys le low. nothing_lower ys low)
descend zero P step (x ∷ xs) within = absurd (omega arith)
descend (suc bound) P step (x ∷ xs) within = by_head bound P step (λ Q inner ys le. descend bound Q inner ys le) (suc x) x (omega arith) xs (omega arith)
