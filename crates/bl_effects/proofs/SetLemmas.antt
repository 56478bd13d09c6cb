-- A set of static paths is what its members make it: the one ascending list of them.
use Rattle.std.proofs.Common.{◌≡◌, IsTrue, get_or, ℕ, zero, suc, Bool, true, false, cond, ◌&&◌, ◌||◌, List, [], ◌∷◌, ◌⊎◌, inl, inr, ⊎_elim, refl, sym, ap, ◌∙◌}
use Rattle.std.proofs.Common.{subst, arith, nat_cmp, is_lt, is_eq, Ordering, Less, Equal, Greater}
use Rattle.std.specs.Cmp.{nat_eq_equiv, tied_itself, eq_by_cmp_equiv}
use Rattle.std.specs.Cmp.Lexicographic.{slice_cmp}
use Rattle.std.specs.FinMap.{IsAntisymmetric, nat_cmp-IsAntisymmetric, slice_cmp-IsAntisymmetric}
use Rattle.std.specs.List.{AllByRecursion, AllPairs, Contains, dedup}
use Rattle.std.specs.List.Sorted.{IsPermutation, IsSorted, IsStrictlySortedBy}
use Rattle.std.specs.Ordering.{ordering_reverse, ordering_then, eq_by_cmp}
use Rattle.std.proofs.lemmas.Bool.Decides.{nat_tests}
use Rattle.std.proofs.lemmas.Cmp.{same_from_slice_cmp}
use Rattle.std.proofs.lemmas.List.Elements.{Contains-get_or}
use Rattle.std.proofs.lemmas.List.Kept.{AllPairs-cons, Contains-dedup, Contains-from_dedup, IsStrictlySortedBy-dedup}
use Rattle.std.proofs.lemmas.List.Sorted.{Contains-permutation, IsPermutation-sym}
use Rattle.bl_tree.specs.declared.static_path.Static.{Static}
use Rattle.bl_tree.specs.Order.{static_cmp, static_cmp_total}
use Rattle.bl_tree.specs.Static.{fields_precede, is_front, overlaps, placed, precedes, set_of}

-- ---- the order

then_equal : (r s : Ordering) → ordering_then r s ≡ Equal → (r ≡ Equal) × (s ≡ Equal)
then_equal Less s is = absurd (cc)
then_equal Equal s is = (refl, is)
then_equal Greater s is = absurd (cc)

-- static paths that tie are one
pub static_cmp_tells : IsAntisymmetric static_cmp
static_cmp_tells a b is =
    let both = then_equal (nat_cmp a.root b.root) (slice_cmp nat_cmp a.fields b.fields) is in
    let roots = nat_cmp-IsAntisymmetric a.root b.root both.0 in
    let fields = slice_cmp-IsAntisymmetric nat_cmp-IsAntisymmetric a.fields b.fields both.1 in
    λ i. record { root = roots i; fields = fields i }

fields_less : (xs ys : List ℕ) → is_lt (slice_cmp nat_cmp xs ys) ≡ fields_precede xs ys
fields_less xs ys =
    same_from_slice_cmp nat_cmp is_lt fields_precede refl (λ _ _. refl) (λ _ _. refl)
    (λ x y xs ys o h. grind (arith, nat_tests)) xs ys (slice_cmp nat_cmp xs ys) refl

tests_agree : (less equal fields : Bool) (s : Ordering) → is_lt s ≡ fields →
    (less || (equal && fields)) ≡ is_lt (ordering_then (cond less Less (cond equal Equal Greater)) s)
tests_agree true equal fields s is = refl
tests_agree false true fields s is = sym is
tests_agree false false fields s is = refl

precedes_less : (a b : Static) → precedes a b ≡ is_lt (static_cmp a b)
precedes_less a b = tests_agree _ _ (fields_precede a.fields b.fields) (slice_cmp nat_cmp a.fields b.fields) (fields_less a.fields b.fields)

abbrev by_order : {A : Type 0} → Ordering → A → A → A → A
by_order Less x y z = x
by_order Equal x y z = y
by_order Greater x y z = z

two_tests : {A : Type 0} (o : Ordering) (x y z : A) → cond (is_lt o) x (cond (is_lt (ordering_reverse o)) z y) ≡ by_order o x y z
two_tests Less x y z = refl
two_tests Equal x y z = refl
two_tests Greater x y z = refl

-- where a static path is placed, by its order with the first
placed_by : (a b : Static) (rest : List Static) → placed a (b ∷ rest) ≡ by_order (static_cmp a b) (a ∷ b ∷ rest) (b ∷ rest) (b ∷ placed a rest)
placed_by a b rest =
    ap (λ test. cond test (a ∷ b ∷ rest) (cond (precedes b a) (b ∷ placed a rest) (b ∷ rest))) (precedes_less a b)
    ∙ ap (λ test. cond (is_lt (static_cmp a b)) (a ∷ b ∷ rest) (cond test (b ∷ placed a rest) (b ∷ rest)))
    (precedes_less b a ∙ ap is_lt (static_cmp_total.antisymm b a))
    ∙ two_tests (static_cmp a b) (a ∷ b ∷ rest) (b ∷ rest) (b ∷ placed a rest)

-- ---- members

abbrev pub In : Static → List Static → Type 0
In x [] = ⊥
In x (y ∷ ys) = (x ≡ y) ⊎ In x ys

in_placed : (x a : Static) (xs : List Static) → In x (placed a xs) → (x ≡ a) ⊎ In x xs
in_placed x a [] h = h
in_placed x a (b ∷ rest) h =
    elim (static_cmp a b) as (λ o. In x (by_order o (a ∷ b ∷ rest) (b ∷ rest) (b ∷ placed a rest)) → (x ≡ a) ⊎ In x (b ∷ rest)) [
      | Less ↦ λ h. h
      | Equal ↦ λ h. inr h
      | Greater ↦ λ h. ⊎_elim (λ is. inr (inl is)) (λ later. ⊎_elim (λ is. inl is) (λ old. inr (inr old)) (in_placed x a rest later)) h
    ] (subst (In x) (placed_by a b rest) h)

placed_in : (x a : Static) (xs : List Static) → (x ≡ a) ⊎ In x xs → In x (placed a xs)
placed_in x a [] h = h
placed_in x a (b ∷ rest) h =
    subst (In x) (sym (placed_by a b rest)) (elim (static_cmp a b)
    as (λ o. static_cmp a b ≡ o → (x ≡ a) ⊎ In x (b ∷ rest) → In x (by_order o (a ∷ b ∷ rest) (b ∷ rest) (b ∷ placed a rest))) [
      | Less ↦ λ is h. h
      | Equal ↦ λ is h. ⊎_elim (λ same. inl (same ∙ static_cmp_tells a b is)) (λ old. old) h
      | Greater ↦ λ is h. ⊎_elim (λ same. inr (placed_in x a rest (inl same)))
          (λ old. ⊎_elim (λ same. inl same) (λ later. inr (placed_in x a rest (inr later))) old) h
    ] refl h)

pub in_set : (x : Static) (xs : List Static) → In x (set_of xs) → In x xs
in_set x [] h = h
in_set x (a ∷ xs) h = ⊎_elim (λ is. inl is) (λ old. inr (in_set x xs old)) (in_placed x a (set_of xs) h)

pub set_in : (x : Static) (xs : List Static) → In x xs → In x (set_of xs)
set_in x [] h = h
set_in x (a ∷ xs) h = placed_in x a (set_of xs) (⊎_elim (λ is. inl is) (λ old. inr (set_in x xs old)) h)

-- ---- ascending lists

abbrev Above : Static → List Static → Type 0
Above a xs = (y : Static) → In y xs → static_cmp a y ≡ Less

abbrev pub Ascending : List Static → Type 0
Ascending [] = Unit {0}
Ascending (a ∷ rest) = Above a rest × Ascending rest

turned : (a b : Static) → static_cmp a b ≡ Greater → static_cmp b a ≡ Less
turned a b is = static_cmp_total.antisymm b a ∙ ap ordering_reverse is

ascending_placed : (a : Static) (xs : List Static) → Ascending xs → Ascending (placed a xs)
ascending_placed a [] h = ((λ y none. absurd none), tt)
ascending_placed a (b ∷ rest) h =
    subst Ascending (sym (placed_by a b rest)) (elim (static_cmp a b)
    as (λ o. static_cmp a b ≡ o → Ascending (by_order o (a ∷ b ∷ rest) (b ∷ rest) (b ∷ placed a rest))) [
      | Less ↦ λ is. ((λ y there. ⊎_elim (λ same. ap (static_cmp a) same ∙ is) (λ later. static_cmp_total.trans a b y is (h.0 y later)) there), h)
      | Equal ↦ λ is. h
      | Greater ↦ λ is. (
        (λ y there. ⊎_elim (λ same. ap (static_cmp b) same ∙ turned a b is) (λ old. h.0 y old)
            (in_placed y a rest there)),
        ascending_placed a rest h.1,
      )
    ] refl)

pub ascending_set : (xs : List Static) → Ascending (set_of xs)
ascending_set [] = tt
ascending_set (a ∷ xs) = ascending_placed a (set_of xs) (ascending_set xs)

not_both : (a b : Static) → static_cmp a b ≡ Less → static_cmp b a ≡ Less → ⊥
not_both a b one other = let turn : static_cmp a b ≡ Greater = static_cmp_total.antisymm a b ∙ ap ordering_reverse other in cc

not_itself : (a b : Static) → static_cmp a b ≡ Less → b ≡ a → ⊥
not_itself a b less same = let tied : static_cmp a b ≡ Equal = ap (static_cmp a) same ∙ tied_itself static_cmp_total a in cc

-- two ascending lists with the same members are one
pub one_ascending : (xs ys : List Static) → Ascending xs → Ascending ys → ((x : Static) → In x xs → In x ys) →
    ((x : Static) → In x ys → In x xs) → xs ≡ ys
one_ascending [] [] up_xs up_ys there back = refl
one_ascending [] (y ∷ ys) up_xs up_ys there back = absurd (back y (inl refl))
one_ascending (x ∷ xs) [] up_xs up_ys there back = absurd (there x (inl refl))
one_ascending (x ∷ xs) (y ∷ ys) up_xs up_ys there back =
    let first : x ≡ y =
    ⊎_elim (λ is. is) (λ later. ⊎_elim (λ is. sym is) (λ other. absurd (not_both x y (up_xs.0 y other) (up_ys.0 x later)))
    (back y (inl refl))) (there x (inl refl)) in
    let rest = one_ascending xs ys up_xs.1 up_ys.1
    (λ z in_xs. ⊎_elim (λ is. absurd (not_itself x z (up_xs.0 z in_xs) (is ∙ sym first))) (λ later. later) (there z (inr in_xs)))
    (λ z in_ys. ⊎_elim (λ is. absurd (not_itself y z (up_ys.0 z in_ys) (is ∙ first))) (λ later. later) (back z (inr in_ys))) in
    λ i. first i ∷ rest i

-- ---- what a sort and a removal of repetitions leave

pub contains_in : (x : Static) (xs : List Static) → Contains xs x → In x xs
contains_in x [] h = absurd (let below = h.1 in omega arith)
contains_in x (y ∷ xs) (zero, below, is) = inl (sym is)
contains_in x (y ∷ xs) (suc k, below, is) = inr (contains_in x xs (k, omega arith, is))

pub in_contains : (x : Static) (xs : List Static) → In x xs → Contains xs x
in_contains x [] h = absurd h
in_contains x (y ∷ xs) h = ⊎_elim (λ is. (zero, omega arith, sym is))
    (λ later. let there = in_contains x xs later in let below = there.1 in (suc there.0, omega arith, there.2)) h

in_recursion : (P : Static → Type 0) (xs : List Static) → AllByRecursion P xs → (y : Static) → In y xs → P y
in_recursion P [] all y h = absurd h
in_recursion P (x ∷ xs) all y h = ⊎_elim (λ is. subst P (sym is) all.0) (λ later. in_recursion P xs all.1 y later) h

ascending_from : (xs : List Static) → IsStrictlySortedBy static_cmp xs → Ascending xs
unfolding IsStrictlySortedBy
ascending_from [] h = tt
ascending_from (x ∷ xs) h = (in_recursion (λ y. static_cmp x y ≡ Less) xs h.0, ascending_from xs h.1)

tied_is : (x y : Static) → eq_by_cmp static_cmp x y ≡ true → x ≡ y
tied_is x y is = static_cmp_tells x y (equal (static_cmp x y) is)
  where
    equal : (o : Ordering) → is_eq o ≡ true → o ≡ Equal
    equal Less is = absurd (cc)
    equal Equal is = refl
    equal Greater is = absurd (cc)

-- a sorted list without repetitions is the set of what was sorted
pub sorted_is_set : (xs sorted : List Static) → IsPermutation xs sorted → IsSorted static_cmp sorted → dedup (eq_by_cmp static_cmp) sorted ≡ set_of xs
sorted_is_set xs sorted moved up =
    one_ascending (dedup (eq_by_cmp static_cmp) sorted) (set_of xs)
    (ascending_from _ (IsStrictlySortedBy-dedup static_cmp_total (λ x y. refl) sorted up)) (ascending_set xs)
    (λ x kept. set_in x xs (contains_in x xs (Contains-permutation sorted xs x (IsPermutation-sym xs sorted moved)
    (Contains-from_dedup (eq_by_cmp static_cmp) sorted x (in_contains x _ kept)))))
    (λ x there. contains_in x _ (Contains-dedup (eq_by_cmp_equiv static_cmp_total) tied_is sorted x
    (Contains-permutation xs sorted x moved (in_contains x xs (in_set x xs there)))))

-- ---- what a set has, and its order

pub set_members : (xs : List Static) (x : Static) → (Contains (set_of xs) x → Contains xs x) × (Contains xs x → Contains (set_of xs) x)
set_members xs x = ((λ there. in_contains x xs (in_set x xs (contains_in x _ there))), (λ there. in_contains x _ (set_in x xs (contains_in x xs there))))

ascending_pairs : (xs : List Static) → Ascending xs → AllPairs (λ a b. IsTrue (precedes a b)) xs
ascending_pairs [] h = λ i j d before within. absurd (omega arith)
ascending_pairs (x ∷ xs) h =
    AllPairs-cons (λ a b. IsTrue (precedes a b)) x xs
    (λ k d within. precedes_less x (get_or xs k d) ∙ ap is_lt
    (h.0 (get_or xs k d) (contains_in (get_or xs k d) xs (Contains-get_or xs k d within)))) (ascending_pairs xs h.1)

pub set_ascends : (xs : List Static) → AllPairs (λ a b. IsTrue (precedes a b)) (set_of xs)
set_ascends xs = ascending_pairs (set_of xs) (ascending_set xs)

and_swap : (a b : Bool) → (a || b) ≡ (b || a)
and_swap true true = refl
and_swap true false = refl
and_swap false true = refl
and_swap false false = refl

pub overlaps_symm : (a b : Static) → overlaps a b ≡ overlaps b a
overlaps_symm a b = λ i. nat_eq_equiv.symm a.root b.root i && and_swap (is_front a.fields b.fields) (is_front b.fields a.fields) i

pub overlaps_itself : (a : Static) → overlaps a a ≡ true
overlaps_itself a = (λ i. nat_eq_equiv.refl a.root i && (front a.fields i || is_front a.fields a.fields))
  where
    front : (xs : List ℕ) → is_front xs xs ≡ true
    front [] = refl
    front (x ∷ xs) = λ i. nat_eq_equiv.refl x i && front xs i
