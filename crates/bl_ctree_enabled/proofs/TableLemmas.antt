-- What tables note of branches, and what that tells of those that may write what is read.
use Rattle.std.proofs.Common.{◌≡◌, ◌≢◌, ℕ, zero, suc, ◌+◌, ◌<◌, ◌≤◌, Bool, true, false, not, cond, ◌&&◌, ◌||◌, List, [], ◌∷◌, ◌++◌, filter, take, drop, length}
use Rattle.std.proofs.Common.{refl, sym, ap, ◌∙◌, arith, nat_cmp, nat_eq, is_eq, eq-eqb, eqb→eq, Ordering, Less, Equal, Greater}
use Rattle.std.specs.Prelude.{Some, slice_get, slice_set}
use Rattle.std.specs.BTreeMap.{is_at}
use Rattle.std.specs.BTreeMap.Range.{range_contains}
use Rattle.std.specs.Cmp.{unsigned_tied}
use Rattle.std.specs.List.{list_any}
use Rattle.std.specs.Ordering.{is_le, ordering_then}
use Rattle.std.specs.declared.ops.Bound.TheVariants.{Included, Excluded}
use Rattle.std.proofs.lemmas.Cmp.{by_ranked, nat_cmp_total, ranked, tied_itself}
use Rattle.std.proofs.lemmas.Bool.{and_parts}
use Rattle.bl_tree.proofs.Basics.{drop_none, or_true, same_number, same_some, within_at}
use Rattle.bl_tree.specs.Static.{is_front, overlaps}
use Rattle.bl_ctree.specs.Store.{Location, overlap}
use Rattle.bl_ctree_enabled.specs.declared.table.Table.{Table}
use Rattle.bl_ctree_enabled.specs.Listing.{list_at, touches}
use Rattle.bl_ctree_enabled.specs.Spots.{Spot, is_free_of, meets_one, taken}
use Rattle.bl_ctree_enabled.specs.inner.Asked.{is_hit, is_taken}
use Rattle.bl_ctree_enabled.specs.inner.Tables.{AllNoted, Grows, Key, Noted, is_noted, key_cmp, near, reads_in}
use Rattle.bl_ctree_enabled.proofs.BranchLemmas.{any_or, not_or}
use Rattle.bl_ctree_enabled.proofs.ListLemmas.{list_get, set_other}
use Rattle.bl_ctree_counts.proofs.Sums.{set_here}

-- ---- keys

both_equal : (r s : Ordering) → is_eq (ordering_then r s) ≡ (is_eq r && is_eq s)
both_equal Less s = refl
both_equal Equal s = refl
both_equal Greater s = refl

pub unequal : (m n : ℕ) → m ≢ n → nat_eq m n ≡ false
unequal m n other = by (nat_eq m n) refl
  where
    by : (b : Bool) → nat_eq m n ≡ b → b ≡ false
    by true is = absurd (other (same_number m n is))
    by false is = refl

tied : (m n : ℕ) → is_eq (nat_cmp m n) ≡ true → m ≡ n
tied m n is = same_number m n (sym (unsigned_tied m n) ∙ is)

key_same : (q k : Key) → is_at (key_cmp q) k ≡ true → q ≡ k
key_same q k is =
    let front = ordering_then (nat_cmp q.0 k.0) (nat_cmp q.1 k.1) in
    let first = and_parts (is_eq front) (is_eq (nat_cmp q.2 k.2)) (sym (both_equal front (nat_cmp q.2 k.2)) ∙ is) in
    let second = and_parts (is_eq (nat_cmp q.0 k.0)) (is_eq (nat_cmp q.1 k.1)) (sym (both_equal (nat_cmp q.0 k.0) (nat_cmp q.1 k.1)) ∙ first.0) in
    λ i. (tied q.0 k.0 second.0 i, tied q.1 k.1 second.1 i, tied q.2 k.2 first.1 i)

-- keys of one variable are in the order of their branches
key_at : (i r m n : ℕ) → key_cmp (i, r, m) (i, r, n) ≡ nat_cmp m n
key_at i r m n =
    ap (λ o. ordering_then (ordering_then o (nat_cmp r r)) (nat_cmp m n)) (tied_itself nat_cmp_total i)
    ∙ ap (λ o. ordering_then o (nat_cmp m n)) (tied_itself nat_cmp_total r)

from_zero : (j : ℕ) → is_le (nat_cmp 0 j) ≡ true
from_zero j =
    by_ranked (0 < j) (0 ≡ j) (j < 0) (nat_cmp 0 j) (ranked 0 j (nat_cmp 0 j) refl) (λ is below. ap is_le is) (λ is same. ap is_le is)
    (λ is above. absurd (omega (arith, above)))

not_past : (n j : ℕ) → j < n → is_le (nat_cmp n j) ≡ false
not_past n j within =
    by_ranked (n < j) (n ≡ j) (j < n) (nat_cmp n j) (ranked n j (nat_cmp n j) refl) (λ is below. absurd (omega (arith, below, within)))
    (λ is same. absurd (omega (arith, same, within))) (λ is above. ap is_le is)

in_range : (i r j n : ℕ) → j < n → range_contains key_cmp (Included (i, r, 0)) (Excluded (i, r, n)) (i, r, j) ≡ true
in_range i r j n within =
    λ k. (ap is_le (key_at i r 0 j) ∙ from_zero j) k && not ((ap is_le (key_at i r n j) ∙ not_past n j within) k)

kept_in : (f p : Key → Bool) (q : Key) (ks : List Key) → list_any (is_at (key_cmp q)) ks ≡ true → p q ≡ true → f q ≡ true →
    list_any f (filter p ks) ≡ true
kept_in f p q [] has inside hits = absurd cc
kept_in f p q (k ∷ ks) has inside hits = by (kept_in f p q ks) (is_at (key_cmp q) k) refl
  where
    later : (b : Bool) → list_any f (filter p ks) ≡ true → list_any f (cond b (k ∷ filter p ks) (filter p ks)) ≡ true
    later true rest = ap (λ b. f k || b) rest ∙ or_true (f k)
    later false rest = rest

    by : (list_any (is_at (key_cmp q)) ks ≡ true → p q ≡ true → f q ≡ true → list_any f (filter p ks) ≡ true) →
        (b : Bool) → is_at (key_cmp q) k ≡ b
        → list_any f (cond (p k) (k ∷ filter p ks) (filter p ks)) ≡ true
    by rest true here =
        let same = key_same q k here in
        ap (λ b. list_any f (cond b (k ∷ filter p ks) (filter p ks))) (ap p (sym same) ∙ inside)
        ∙ ap (λ b. b || list_any f (filter p ks)) (ap f (sym same) ∙ hits)
    by rest false there = later (p k) (rest (sym (ap (λ b. b || list_any (is_at (key_cmp q)) ks) there) ∙ has) inside hits)

-- a branch that is noted is found among the first ones
pub near_hits : (table : Table) (at : Location) (many j : ℕ) (f : Key → Bool) → is_noted table j at ≡ true → j < many →
    f (at.instance, at.path.root, j) ≡ true → list_any f (near table at many) ≡ true
near_hits table at many j f noted within hits =
    kept_in f (range_contains key_cmp (Included (at.instance, at.path.root, 0)) (Excluded (at.instance, at.path.root, many)))
    (at.instance, at.path.root, j) table.by_variable.keys noted (in_range at.instance at.path.root j many within) hits

-- ---- what is noted

-- a key that was there still is
pub still_noted : (is_new new old : Bool) → new ≡ cond is_new true old → old ≡ true → new ≡ true
still_noted true new old is was = is
still_noted false new old is was = is ∙ was

-- homes that overlap are parts of one variable
pub noted_both : (table : Table) (k : ℕ) (a b : Location) → overlap a b ≡ true → is_noted table k a ≡ is_noted table k b
noted_both table k a b is =
    let both = and_parts (nat_eq a.instance b.instance) (overlaps a.path b.path) is in
    let roots = and_parts (nat_eq a.path.root b.path.root) (is_front a.path.fields b.path.fields || is_front b.path.fields a.path.fields) both.1 in
    λ i. list_any (is_at (key_cmp (same_number a.instance b.instance both.0 i, same_number a.path.root b.path.root roots.0 i, k))) table.by_variable.keys

meets_noted : (table : Table) (k : ℕ) (at : Location) (homes : List Location) → Noted table k homes → list_any (overlap at) homes ≡ true →
    is_noted table k at ≡ true
meets_noted table k at [] noted meets = absurd cc
meets_noted table k at (home ∷ homes) noted meets = by (meets_noted table k at homes (λ m. noted (suc m))) (overlap at home) refl
  where
    by : (list_any (overlap at) homes ≡ true → is_noted table k at ≡ true) → (b : Bool) → overlap at home ≡ b → is_noted table k at ≡ true
    by rest true is = noted_both table k at home is ∙ noted 0 home refl
    by rest false is = rest (sym (ap (λ b. b || list_any (overlap at) homes) is) ∙ meets)

-- a branch that reads what overlaps the home
pub touches_noted : (table : Table) (k : ℕ) (home : Location) (reads : List Location) → Noted table k reads → touches (home ∷ []) reads ≡ true →
    is_noted table k home ≡ true
touches_noted table k home [] noted meets = absurd cc
touches_noted table k home (at ∷ reads) noted meets = by (touches_noted table k home reads (λ m. noted (suc m))) (overlap at home) refl
  where
    by : (touches (home ∷ []) reads ≡ true → is_noted table k home ≡ true) → (b : Bool) → overlap at home ≡ b → is_noted table k home ≡ true
    by rest true is = sym (noted_both table k at home is) ∙ noted 0 at refl
    by rest false is = rest (sym (ap (λ b. (b || false) || touches (home ∷ []) reads) is) ∙ meets)

pub noted-append : (table : Table) (k : ℕ) (xs ys : List Location) → Noted table k xs → Noted table k ys → Noted table k (xs ++ ys)
noted-append table k [] ys first second m at is = second m at is
noted-append table k (x ∷ xs) ys first second zero at is = first zero at is
noted-append table k (x ∷ xs) ys first second (suc m) at is = noted-append table k xs ys (λ m. first (suc m)) second m at is

-- one more home
pub noted_more : (old new : Table) (k : ℕ) (all : List Location) (count next : ℕ) (x : Location) → next ≡ suc count → slice_get all count ≡ Some x
    → Grows old new → is_noted new k x ≡ true
    → ((m : ℕ) (at : Location) → m < count → slice_get all m ≡ Some at → is_noted old k at ≡ true)
    → (m : ℕ) (at : Location) → m < next → slice_get all m ≡ Some at → is_noted new k at ≡ true
noted_more old new k all count next x is_next here grows noted before m at within is =
    by_ranked (m < count) (m ≡ count) (count < m) (nat_cmp m count) (ranked m count (nat_cmp m count) refl)
    (λ _ less. grows k at (before m at less is))
    (λ _ same. ap (is_noted new k) (same_some at x (sym is ∙ ap (slice_get all) same ∙ here)) ∙ noted)
    (λ _ above. absurd (omega (arith, above, within, is_next)))

-- the homes of one more branch
pub branch_noted : (old new : Table) (all : List (List Location)) (count next : ℕ) (x : List Location) → next ≡ suc count →
    slice_get all count ≡ Some x → Grows old new → Noted new count x
    → ((j : ℕ) (homes : List Location) → j < count → slice_get all j ≡ Some homes → Noted old j homes)
    → (j : ℕ) (homes : List Location) → j < next → slice_get all j ≡ Some homes → Noted new j homes
branch_noted old new all count next x is_next here grows noted before j homes within is m at at_m =
    by_ranked (j < count) (j ≡ count) (count < j) (nat_cmp j count) (ranked j count (nat_cmp j count) refl)
    (λ _ less. grows j at (before j homes less is m at at_m))
    (λ _ same.
    let homes_same : homes ≡ x = same_some homes x (sym is ∙ ap (slice_get all) same ∙ here) in
    ap (λ n. is_noted new n at) same ∙ noted m at (ap (λ xs. slice_get xs m) (sym homes_same) ∙ at_m))
    (λ _ above. absurd (omega (arith, above, within, is_next)))

-- behind the last
pub noted_end : (table : Table) (k : ℕ) (all : List Location) (count : ℕ) → length all ≤ count
    → ((m : ℕ) (at : Location) → m < count → slice_get all m ≡ Some at → is_noted table k at ≡ true) → Noted table k all
noted_end table k all count past noted m at is = noted m at (omega (arith, past, within_at all m at is)) is

pub branches_end : (table : Table) (all : List (List Location)) (count : ℕ) → length all ≤ count
    → ((j : ℕ) (homes : List Location) → j < count → slice_get all j ≡ Some homes → Noted table j homes) → AllNoted table all
branches_end table all count past noted j homes is = noted j homes (omega (arith, past, within_at all j homes is)) is

-- what one more point reads
pub reads_more : (old new : Table) (k : ℕ) (all : List Spot) (count next : ℕ) (x : Spot) → next ≡ suc count → slice_get all count ≡ Some x
    → Grows old new → Noted new k x.reads
    → ((m : ℕ) (spot : Spot) → m < count → slice_get all m ≡ Some spot → Noted old k spot.reads)
    → (m : ℕ) (spot : Spot) → m < next → slice_get all m ≡ Some spot → Noted new k spot.reads
reads_more old new k all count next x is_next here grows noted before m spot within is n at at_n =
    by_ranked (m < count) (m ≡ count) (count < m) (nat_cmp m count) (ranked m count (nat_cmp m count) refl)
    (λ _ less. grows k at (before m spot less is n at at_n))
    (λ _ same.
    let spot_same : spot ≡ x = same_some spot x (sym is ∙ ap (slice_get all) same ∙ here) in
    noted n at (ap (λ (s : Spot). slice_get s.reads n) (sym spot_same) ∙ at_n))
    (λ _ above. absurd (omega (arith, above, within, is_next)))

each_noted : (table : Table) (k : ℕ) (spots : List Spot) → ((m : ℕ) (spot : Spot) → slice_get spots m ≡ Some spot → Noted table k spot.reads) →
    Noted table k (reads_in spots)
each_noted table k [] noted m at is = absurd cc
each_noted table k (spot ∷ spots) noted m at is =
    noted-append table k spot.reads (reads_in spots) (noted 0 spot refl) (each_noted table k spots (λ m. noted (suc m))) m at is

pub reads_end : (table : Table) (k : ℕ) (all : List Spot) (count : ℕ) → length all ≤ count
    → ((m : ℕ) (spot : Spot) → m < count → slice_get all m ≡ Some spot → Noted table k spot.reads) → Noted table k (reads_in all)
reads_end table k all count past noted =
    each_noted table k all (λ m spot is. noted m spot (omega (arith, past, within_at all m spot is)) is)

pub all_grow : (old new : Table) (all : List (List Location)) → Grows old new → AllNoted old all → AllNoted new all
all_grow old new all grows noted k homes is m at at_m = grows k at (noted k homes is m at at_m)

-- a branch has other homes
pub all_set : (table : Table) (all : List (List Location)) (k : ℕ) (x : List Location) → AllNoted table all → Noted table k x →
    AllNoted table (slice_set all k x)
all_set table all k x noted new j homes is m at at_m =
    by_ranked (j < k) (j ≡ k) (k < j) (nat_cmp j k) (ranked j k (nat_cmp j k) refl)
    (λ _ below. noted j homes (sym (set_other all k j x (λ same. omega (arith, below, same))) ∙ is) m at at_m)
    (λ _ same.
    let homes_same : x ≡ homes = set_here all k x homes (ap (slice_get (slice_set all k x)) (sym same) ∙ is) in
    ap (λ n. is_noted table n at) same ∙ new m at (ap (λ xs. slice_get xs m) homes_same ∙ at_m))
    (λ _ above. noted j homes (sym (set_other all k j x (λ same. omega (arith, above, same))) ∙ is) m at at_m)

-- ---- one branch beside the others

any_at : (at : Location) (all : List (List Location)) (j : ℕ) → list_any (overlap at) (list_at all j) ≡ true → meets_one all at ≡ true
any_at at [] j is = absurd cc
any_at at (homes ∷ all) zero is = ap (λ b. b || meets_one all at) is
any_at at (homes ∷ all) (suc j) is = ap (λ b. list_any (overlap at) homes || b) (any_at at all j is) ∙ or_true (list_any (overlap at) homes)

none_at : (at : Location) (all : List (List Location)) → ((j : ℕ) → list_any (overlap at) (list_at all j) ≡ false) → meets_one all at ≡ false
none_at at [] none = refl
none_at at (homes ∷ all) none = λ i. none 0 i || none_at at all (λ j. none (suc j)) i

found : (all : List (List Location)) (k j : ℕ) (at : Location) → j ≢ k → list_any (overlap at) (list_at all j) ≡ true →
    (meets_one (take k all) at || meets_one (drop (suc k) all) at) ≡ true
found [] k j at other is = absurd cc
found (homes ∷ all) zero zero at other is = absurd (other refl)
found (homes ∷ all) zero (suc j) at other is = ap (λ all. meets_one all at) (drop_none all) ∙ any_at at all j is
found (homes ∷ all) (suc k) zero at other is =
    ap (λ b. (b || meets_one (take k all) at) || meets_one (drop (suc k) all) at) is
found (homes ∷ all) (suc k) (suc j) at other is =
    or_assoc (list_any (overlap at) homes) (meets_one (take k all) at) (meets_one (drop (suc k) all) at)
    ∙ ap (λ b. list_any (overlap at) homes || b) (found all k j at (λ same. other (ap suc same)) is) ∙ or_true (list_any (overlap at) homes)
  where
    or_assoc : (a b c : Bool) → ((a || b) || c) ≡ (a || (b || c))
    or_assoc true b c = refl
    or_assoc false b c = refl

none_found : (all : List (List Location)) (k : ℕ) (at : Location) → ((j : ℕ) → j ≢ k → list_any (overlap at) (list_at all j) ≡ false) →
    (meets_one (take k all) at || meets_one (drop (suc k) all) at) ≡ false
none_found [] zero at none = refl
none_found [] (suc k) at none = refl
none_found (homes ∷ all) zero at none =
    ap (λ all. meets_one all at) (drop_none all) ∙ none_at at all (λ j. none (suc j) (λ same. omega (arith, same)))
none_found (homes ∷ all) (suc k) at none =
    let first : list_any (overlap at) homes ≡ false = none 0 (λ same. omega (arith, same)) in
    ap (λ b. (b || meets_one (take k all) at) || meets_one (drop (suc k) all) at) first
    ∙ none_found all k at (λ j other. none (suc j) (λ same. other (omega (arith, same))))

within_all : (at : Location) (all : List (List Location)) (j : ℕ) → list_any (overlap at) (list_at all j) ≡ true → j < length all
within_all at [] j is = absurd cc
within_all at (homes ∷ all) zero is = omega arith
within_all at (homes ∷ all) (suc j) is = let rest = within_all at all j is in omega (arith, rest)

hit_found : (all : List (List Location)) (k : ℕ) (at : Location) (keys : List Key) → list_any (is_hit all k at) keys ≡ true →
    (meets_one (take k all) at || meets_one (drop (suc k) all) at) ≡ true
hit_found all k at [] is = absurd cc
hit_found all k at (key ∷ keys) is = by (hit_found all k at keys) (nat_eq key.2 k) refl (list_any (overlap at) (list_at all key.2)) refl
  where
    by : (list_any (is_hit all k at) keys ≡ true → (meets_one (take k all) at || meets_one (drop (suc k) all) at) ≡ true)
        → (b : Bool) → nat_eq key.2 k ≡ b → (c : Bool) → list_any (overlap at) (list_at all key.2) ≡ c
        → (meets_one (take k all) at || meets_one (drop (suc k) all) at) ≡ true
    by rest true same c meets =
        rest (sym (ap (λ b. (not b && list_any (overlap at) (list_at all key.2)) || list_any (is_hit all k at) keys) same) ∙ is)
    by rest false other true meets =
        found all k key.2 at (λ same. let e : true ≡ false = sym (eq-eqb key.2 k same) ∙ other in absurd cc) meets
    by rest false other false meets = rest (sym (λ i. (not (other i) && meets i) || list_any (is_hit all k at) keys) ∙ is)

-- those that are noted tell whether another branch may write what overlaps the home
pub near_taken : (table : Table) (all : List (List Location)) (k : ℕ) (at : Location) → AllNoted table all →
    list_any (is_hit all k at) (near table at (length all)) ≡ is_taken all k at
near_taken table all k at noted =
    by (list_any (is_hit all k at) (near table at (length all))) refl
    ∙ (let next : suc k ≡ k + 1 = omega arith in ap (λ n. meets_one (take k all) at || meets_one (drop n all) at) next)
  where
    none : list_any (is_hit all k at) (near table at (length all)) ≡ false → (j : ℕ) → j ≢ k → list_any (overlap at) (list_at all j) ≡ false
    none is j other = one (list_any (overlap at) (list_at all j)) refl
      where
        one : (b : Bool) → list_any (overlap at) (list_at all j) ≡ b → b ≡ false
        one false meets = refl
        one true meets =
            let within = within_all at all j meets in
            let here = meets_noted table j at (list_at all j) (noted j (list_at all j) (list_get all j within)) meets in
            let hits : is_hit all k at (at.instance, at.path.root, j) ≡ true = (λ i. not (unequal j k other i) && meets i) in
            let e : true ≡ false = sym (near_hits table at (length all) j (is_hit all k at) here within hits) ∙ is in
            absurd cc

    by : (b : Bool) → list_any (is_hit all k at) (near table at (length all)) ≡ b →
        b ≡ (meets_one (take k all) at || meets_one (drop (suc k) all) at)
    by true is = sym (hit_found all k at (near table at (length all)) is)
    by false is = sym (none_found all k at (none is))

-- a point is free where nothing that it reads is taken
pub free_taken : (all : List (List Location)) (k : ℕ) (spot : Spot) → not (list_any (is_taken all k) spot.reads) ≡ is_free_of all k spot
free_taken all k spot =
    ap not (any_or (meets_one (take k all)) (meets_one (drop (k + 1) all)) spot.reads) ∙ not_or (taken (take k all) spot.reads)
    (taken (drop (k + 1) all) spot.reads)
