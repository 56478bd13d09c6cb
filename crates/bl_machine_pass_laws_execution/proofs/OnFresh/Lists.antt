-- Lists of variables and of values.
use Rattle.std.proofs.Common.{◌≡◌, ◌⊎◌, inl, inr, ℕ, zero, suc, ◌+◌, ◌<◌, ◌≤◌, Bool, true, false, ◌&&◌}
use Rattle.std.proofs.Common.{◌||◌, ◌++◌, List, [], ◌∷◌, length, map}
use Rattle.std.proofs.Common.{drop, Some, refl, sym, ap, ◌∙◌, subst, arith, eqb-true, eq-eqb}
use Rattle.std.specs.Prelude.{nat_eq, option_map, slice_get, slice_set}
use Rattle.std.specs.List.{list_all, list_any, range_with_len}
use Rattle.std.proofs.lemmas.Bool.{and_from, or_left, or_right}
use Rattle.bl_tree.proofs.Basics.{and_first, and_second, either_of, get_past}
use Rattle.bl_machine_prevs.specs.Declared.{are_known}
use Rattle.bl_machine_pass_laws_execution.specs.Fresh.Asks.{IsAmongVariables}

-- ---- tests

-- ---- among

pub none_among : (x : ℕ) → IsAmongVariables [] x → ⊥
none_among x at = absurd cc

pub among_by : (k x : ℕ) (xs : List ℕ) → IsAmongVariables (k ∷ xs) x → (x ≡ k) ⊎ IsAmongVariables xs x
among_by k x xs at = by_part (either_of (nat_eq x k) (list_any (nat_eq x) xs) at)
  where
    by_part : (nat_eq x k ≡ true) ⊎ IsAmongVariables xs x → (x ≡ k) ⊎ IsAmongVariables xs x
    by_part (inl e) = inl (eqb-true x k e)
    by_part (inr more) = inr more

pub among_first : (k : ℕ) (xs : List ℕ) → IsAmongVariables (k ∷ xs) k
among_first k xs = or_left (nat_eq k k) (list_any (nat_eq k) xs) (eq-eqb k k refl)

pub among_more : (k x : ℕ) (xs : List ℕ) → IsAmongVariables xs x → IsAmongVariables (k ∷ xs) x
among_more k x xs at = or_right (nat_eq x k) (list_any (nat_eq x) xs) at

pub among_left : (x : ℕ) (xs ys : List ℕ) → IsAmongVariables xs x → IsAmongVariables (xs ++ ys) x
among_left x [] ys at = absurd (none_among x at)
among_left x (k ∷ xs) ys at = by_part (among_left x xs ys) (among_by k x xs at)
  where
    by_part : (IsAmongVariables xs x → IsAmongVariables (xs ++ ys) x) → (x ≡ k) ⊎ IsAmongVariables xs x → IsAmongVariables (k ∷ (xs ++ ys)) x
    by_part again (inl is) = subst (λ y. IsAmongVariables (k ∷ (xs ++ ys)) y) (sym is) (among_first k (xs ++ ys))
    by_part again (inr more) = among_more k x (xs ++ ys) (again more)

pub among_right : (x : ℕ) (xs ys : List ℕ) → IsAmongVariables ys x → IsAmongVariables (xs ++ ys) x
among_right x [] ys at = at
among_right x (k ∷ xs) ys at = among_more k x (xs ++ ys) (among_right x xs ys at)

pub among_parts : (x : ℕ) (xs ys : List ℕ) → IsAmongVariables (xs ++ ys) x → IsAmongVariables xs x ⊎ IsAmongVariables ys x
among_parts x [] ys at = inr at
among_parts x (k ∷ xs) ys at = by_part (among_parts x xs ys) (among_by k x (xs ++ ys) at)
  where
    by_more : IsAmongVariables xs x ⊎ IsAmongVariables ys x → IsAmongVariables (k ∷ xs) x ⊎ IsAmongVariables ys x
    by_more (inl h) = inl (among_more k x xs h)
    by_more (inr h) = inr h

    by_part : (IsAmongVariables (xs ++ ys) x → IsAmongVariables xs x ⊎ IsAmongVariables ys x) → (x ≡ k) ⊎ IsAmongVariables (xs ++ ys) x → IsAmongVariables (k ∷ xs) x ⊎ IsAmongVariables ys x
    by_part again (inl is) = inl (subst (λ y. IsAmongVariables (k ∷ xs) y) (sym is) (among_first k xs))
    by_part again (inr more) = by_more (again more)

pub among_joined : (xs ys zs : List ℕ) → ((x : ℕ) → IsAmongVariables xs x → IsAmongVariables zs x) → ((x : ℕ) → IsAmongVariables ys x → IsAmongVariables zs x) → (x : ℕ) →
    IsAmongVariables (xs ++ ys) x → IsAmongVariables zs x
among_joined xs ys zs one other x at = by_part (among_parts x xs ys at)
  where
    by_part : IsAmongVariables xs x ⊎ IsAmongVariables ys x → IsAmongVariables zs x
    by_part (inl h) = one x h
    by_part (inr h) = other x h

pub is_among : (x : ℕ) (xs : List ℕ) → IsAmongVariables xs x ⊎ (IsAmongVariables xs x → ⊥)
is_among x xs = by_test (list_any (nat_eq x) xs) refl
  where
    by_test : (b : Bool) → list_any (nat_eq x) xs ≡ b → IsAmongVariables xs x ⊎ (IsAmongVariables xs x → ⊥)
    by_test true e = inl e
    by_test false e = inr (λ at. absurd cc)

-- ---- known variables

pub known_so : (known ks : List ℕ) → are_known known ks ≡ true → (x : ℕ) → IsAmongVariables ks x → IsAmongVariables known x
known_so known [] all x at = absurd (none_among x at)
known_so known (k ∷ ks) all x at =
    by_part (known_so known ks (and_second (list_any (nat_eq k) known) (list_all (λ k. list_any (nat_eq k) known) ks) all) x) (among_by k x ks at)
  where
    by_part : (IsAmongVariables ks x → IsAmongVariables known x) → (x ≡ k) ⊎ IsAmongVariables ks x → IsAmongVariables known x
    by_part again (inl is) =
        subst (λ y. IsAmongVariables known y) (sym is) (and_first (list_any (nat_eq k) known) (list_all (λ k. list_any (nat_eq k) known) ks) all)
    by_part again (inr more) = again more

pub known_more : (known wider ks : List ℕ) → ((x : ℕ) → IsAmongVariables known x → IsAmongVariables wider x) → are_known known ks ≡ true →
    are_known wider ks ≡ true
known_more known wider [] less all = refl
known_more known wider (k ∷ ks) less all =
    and_from (list_any (nat_eq k) wider) (list_all (λ k. list_any (nat_eq k) wider) ks)
    (less k (and_first (list_any (nat_eq k) known) (list_all (λ k. list_any (nat_eq k) known) ks) all))
    (known_more known wider ks less (and_second (list_any (nat_eq k) known) (list_all (λ k. list_any (nat_eq k) known) ks) all))

-- ---- ranges

pub range_so : (a n x : ℕ) → IsAmongVariables (range_with_len a n) x → (a ≤ x) × (x < a + n)
range_so a zero x at = absurd (none_among x at)
range_so a (suc n) x at = by_part (range_so (a + 1) n x) (among_by a x (range_with_len (a + 1) n) at)
  where
    by_part : (IsAmongVariables (range_with_len (a + 1) n) x → (a + 1 ≤ x) × (x < (a + 1) + n)) → (x ≡ a) ⊎ IsAmongVariables (range_with_len (a + 1) n) x →
        (a ≤ x) × (x < a + suc n)
    by_part again (inl is) = (omega (arith, is), omega (arith, is))
    by_part again (inr more) = let rest = again more in let one = rest.0 in let two = rest.1 in (omega (arith, one), omega (arith, two))

later_by : (x a : ℕ) → (x ≡ a → ⊥) → a ≤ x → a + 1 ≤ x
later_by zero zero differs least = absurd (differs refl)
later_by zero (suc a) differs least = absurd (omega (arith, least))
later_by (suc x) zero differs least = omega arith
later_by (suc x) (suc a) differs least = let more = later_by x a (λ is. differs (ap suc is)) (omega (arith, least)) in omega (arith, more)

pub in_range : (a n x : ℕ) → a ≤ x → x < a + n → IsAmongVariables (range_with_len a n) x
in_range a zero x least below = absurd (omega (arith, least, below))
in_range a (suc n) x least below = by_test (in_range (a + 1) n x) (nat_eq x a) refl
  where
    by_test : (a + 1 ≤ x → x < (a + 1) + n → IsAmongVariables (range_with_len (a + 1) n) x) → (b : Bool) → nat_eq x a ≡ b →
        IsAmongVariables (range_with_len a (suc n)) x
    by_test again true e = or_left (nat_eq x a) (list_any (nat_eq x) (range_with_len (a + 1) n)) e
    by_test again false e =
        among_more a x (range_with_len (a + 1) n)
        (again (later_by x a (λ is. absurd (cc (e, eq-eqb x a is))) least) (omega (arith, below)))

-- what stands at a position of a range
pub range_at : (a n k : ℕ) → k < n → slice_get (range_with_len a n) k ≡ Some (a + k)
range_at a zero k below = absurd (omega (arith, below))
range_at a (suc n) zero below = ap Some (omega arith)
range_at a (suc n) (suc k) below = range_at (a + 1) n k (omega (arith, below)) ∙ ap Some (omega arith)

-- ---- values

pub get_mapped : {A B : Type 0} (f : A → B) (xs : List A) (k : ℕ) → slice_get (map f xs) k ≡ option_map f (slice_get xs k)
get_mapped f [] k = refl
get_mapped f (x ∷ xs) zero = refl
get_mapped f (x ∷ xs) (suc k) = get_mapped f xs k

pub get_set : {A : Type 0} (xs : List A) (k : ℕ) (v : A) → k < length xs → slice_get (slice_set xs k v) k ≡ Some v
get_set [] k v below = absurd (omega (arith, below))
get_set (x ∷ xs) zero v below = refl
get_set (x ∷ xs) (suc k) v below = get_set xs k v (omega (arith, below))

pub get_other : {A : Type 0} (xs : List A) (k j : ℕ) (v : A) → (j ≡ k → ⊥) → slice_get (slice_set xs k v) j ≡ slice_get xs j
get_other [] k j v other = refl
get_other (x ∷ xs) zero zero v other = absurd (other refl)
get_other (x ∷ xs) zero (suc j) v other = refl
get_other (x ∷ xs) (suc k) zero v other = refl
get_other (x ∷ xs) (suc k) (suc j) v other = get_other xs k j v (λ is. other (ap suc is))

pub set_length : {A : Type 0} (xs : List A) (k : ℕ) (v : A) → length (slice_set xs k v) ≡ length xs
set_length [] k v = refl
set_length (x ∷ xs) zero v = refl
set_length (x ∷ xs) (suc k) v = ap suc (set_length xs k v)

-- values before a list that lose so many of its first ones
pub behind_front : {A : Type 0} (front xs : List A) (x : ℕ) → length front ≤ x →
    slice_get (front ++ drop (length front) xs) x ≡ slice_get xs x
behind_front [] xs x past = refl
behind_front (y ∷ front) [] zero past = absurd (omega (arith, past))
behind_front (y ∷ front) [] (suc x) past = get_past (front ++ []) x (long front x (omega (arith, past)))
  where
    long : {A : Type 0} (front : List A) (x : ℕ) → length front ≤ x → length (front ++ []) ≤ x
    long [] x past = omega arith
    long (y ∷ front) zero past = absurd (omega (arith, past))
    long (y ∷ front) (suc x) past = let rest = long front x (omega (arith, past)) in omega (arith, rest)
behind_front (y ∷ front) (z ∷ xs) zero past = absurd (omega (arith, past))
behind_front (y ∷ front) (z ∷ xs) (suc x) past = behind_front front xs x (omega (arith, past))

pub front_length : {A : Type 0} (front xs : List A) → length front ≤ length xs → length (front ++ drop (length front) xs) ≡ length xs
front_length [] xs less = refl
front_length (y ∷ front) [] less = absurd (omega (arith, less))
front_length (y ∷ front) (z ∷ xs) less = ap suc (front_length front xs (omega (arith, less)))
