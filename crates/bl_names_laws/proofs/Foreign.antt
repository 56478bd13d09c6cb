-- Lists of variables that have none in common, and branches that keep apart.
use Rattle.std.proofs.Common.{◌≡◌, ℕ, ◌<◌, ◌≤◌, Bool, true, false, not, ◌&&◌, ◌||◌, List, [], ◌∷◌, ◌++◌, map, refl, sym, ap, subst, ◌∙◌, append_assoc, ◌⊎◌, inl}
use Rattle.std.proofs.Common.{inr, arith}
use Rattle.std.specs.Prelude.{nat_eq, nat_le, nat_lt}
use Rattle.std.specs.List.{list_all, list_any}
use Rattle.std.proofs.lemmas.Bool.{eqb-true, leb-true, ltb-true}
use Rattle.std.proofs.lemmas.Bool.{and_from}
use Rattle.bl_tree.proofs.Basics.{and_first, and_regroup, and_second, either_of}
use Rattle.bl_tree.specs.Apart.{Naming, Roots, is_foreign, keep_apart, together}
use Rattle.bl_tree.specs.Reduce.{all_of, joined}
use Rattle.bl_names_laws.proofs.Only.{below}

-- ---- no variable in common

-- what passes one test, and what passes another that nothing of it passes
module _ (one other : ℕ → Bool) (never : (k : ℕ) → one k ≡ true → other k ≡ true → ⊥) where
  not_same : (k n : ℕ) → one k ≡ true → other n ≡ true → nat_eq k n ≡ false
  not_same k n is are =
      elim (nat_eq k n) as (λ same. nat_eq k n ≡ same → same ≡ false) [
        | true ↦ λ same. absurd (never k is (subst (λ m. other m ≡ true) (sym (eqb-true k n same)) are))
        | false ↦ λ same. refl
      ] refl

  not_among : (k : ℕ) (named : Roots) → one k ≡ true → list_all other named ≡ true → list_any (nat_eq k) named ≡ false
  not_among k [] is all = refl
  not_among k (n ∷ named) is all =
      λ i. not_same k n is (and_first (other n) (list_all other named) all) i || not_among k named is (and_second (other n) (list_all other named) all) i

  none_among : (declared named : Roots) → list_all one declared ≡ true → list_all other named ≡ true →
      list_any (λ k. list_any (nat_eq k) named) declared
      ≡ false
  none_among [] named all are = refl
  none_among (k ∷ declared) named all are =
      λ i. not_among k named (and_first (one k) (list_all one declared) all) are i || none_among declared named
      (and_second (one k) (list_all one declared) all) are i

  foreign : (declared named : Roots) → list_all one declared ≡ true → list_all other named ≡ true → is_foreign declared named ≡ true
  foreign declared named all are = ap not (none_among declared named all are)

-- ---- branches

-- from this position on
abbrev pub from : ℕ → ℕ → Bool
from n k = nat_le n k

-- from one position up to another
abbrev pub between : ℕ → ℕ → ℕ → Bool
between m n k = nat_le m k && nat_lt k n

-- outside the variables from one position up to another
abbrev pub outside : ℕ → ℕ → ℕ → Bool
outside m n k = nat_lt k m || nat_le n k

-- a branch that begins where this many variables are declared, of which these were before all branches
abbrev pub begins_at : ℕ → ℕ → Naming → Bool
begins_at start n naming = list_all (from n) naming.declared && list_all (outside start n) naming.named

never_outside : (start m n k : ℕ) → start ≤ m → between m n k ≡ true → outside start n k ≡ true → ⊥
never_outside start m n k most is are =
    by_parts (leb-true m k (and_first (nat_le m k) (nat_lt k n) is)) (ltb-true k n (and_second (nat_le m k) (nat_lt k n) is))
    (either_of (nat_lt k start) (nat_le n k) are)
  where
    by_parts : m ≤ k → k < n → (nat_lt k start ≡ true) ⊎ (nat_le n k ≡ true) → ⊥
    by_parts low high (inl is) = let less = ltb-true k start is in omega (arith)
    by_parts low high (inr is) = let more = leb-true n k is in omega (arith)

never_below : (n k : ℕ) → from n k ≡ true → below n k ≡ true → ⊥
never_below n k is are = let more = leb-true n k is in let less = ltb-true k n are in omega (arith)

-- a branch from m to n, and another that begins at n
apart_from : (start m n : ℕ) (one other : Naming) → start ≤ m → list_all (between m n) one.declared ≡ true → list_all (below n) one.named ≡ true
    → begins_at start n other ≡ true → keep_apart one other ≡ true
apart_from start m n one other most declared named later =
    and_from (is_foreign one.declared other.named) (is_foreign other.declared one.named)
    (foreign (between m n) (outside start n) (λ k. never_outside start m n k most) one.declared other.named declared
    (and_second (list_all (from n) other.declared) (list_all (outside start n) other.named) later))
    (foreign (from n) (below n) (never_below n) other.declared one.named
    (and_first (list_all (from n) other.declared) (list_all (outside start n) other.named) later) named)

pub apart_from_all : (start m n : ℕ) (one : Naming) (others : List Naming) → start ≤ m → list_all (between m n) one.declared ≡ true
    → list_all (below n) one.named ≡ true →
    list_all (begins_at start n) others ≡ true → list_all (keep_apart one) others ≡ true
apart_from_all start m n one [] most declared named later = refl
apart_from_all start m n one (other ∷ others) most declared named later =
    and_from (keep_apart one other) (list_all (keep_apart one) others)
    (apart_from start m n one other most declared named (and_first (begins_at start n other) (list_all (begins_at start n) others) later))
    (apart_from_all start m n one others most declared named (and_second (begins_at start n other) (list_all (begins_at start n) others) later))

-- ---- parts one after another

-- two parts
abbrev pub pair : Naming → Naming → Naming
pair one other = record { declared = one.declared ++ other.declared; named = one.named ++ other.named; apart = one.apart && other.apart }

joined_append : (of : Naming → Roots) (xs ys : List Naming) → joined (map of (xs ++ ys)) ≡ joined (map of xs) ++ joined (map of ys)
joined_append of [] ys = refl
joined_append of (x ∷ xs) ys = ap (λ l. of x ++ l) (joined_append of xs ys) ∙ sym (append_assoc (of x) (joined (map of xs)) (joined (map of ys)))

all_append : (xs ys : List Naming) → all_of (map (λ n. n.apart) (xs ++ ys)) ≡ (all_of (map (λ n. n.apart) xs) && all_of (map (λ n. n.apart) ys))
all_append [] ys = refl
all_append (x ∷ xs) ys = ap (λ b. x.apart && b) (all_append xs ys) ∙ and_regroup x.apart (all_of (map (λ n. n.apart) xs)) (all_of (map (λ n. n.apart) ys))

pub together_append : (xs ys : List Naming) → together (xs ++ ys) ≡ pair (together xs) (together ys)
together_append xs ys = λ i. record {
  declared = joined_append (λ n. n.declared) xs ys i;
  named = joined_append (λ n. n.named) xs ys i;
  apart = all_append xs ys i;
}

-- ---- weaker tests

pub all_weaker : (test other : ℕ → Bool) → ((k : ℕ) → test k ≡ true → other k ≡ true) → (ks : Roots) → list_all test ks ≡ true →
    list_all other ks ≡ true
all_weaker test other weaker [] all = refl
all_weaker test other weaker (k ∷ ks) all =
    and_from (other k) (list_all other ks) (weaker k (and_first (test k) (list_all test ks) all))
    (all_weaker test other weaker ks (and_second (test k) (list_all test ks) all))
