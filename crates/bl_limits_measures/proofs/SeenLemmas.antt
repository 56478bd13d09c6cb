-- The places of `run` statements that were seen, and the first `run` statement of each place.
use Rattle.std.proofs.Common.{◌≡◌, ℕ, Bool, true, false, not, ◌&&◌, ◌||◌, cond, List, [], ◌∷◌, ◌++◌, filter, refl, sym, ap, ◌∙◌, append-nil, nat_cmp}
use Rattle.std.proofs.Common.{is_eq, Ordering, Less, Equal, Greater, eqb→eq}
use Rattle.std.specs.BTreeMap.{is_at}
use Rattle.std.specs.BTreeSet.{BTreeSet}
use Rattle.std.specs.Cmp.{unsigned_tied}
use Rattle.std.specs.List.{list_any}
use Rattle.std.specs.Ordering.{ordering_then}
use Rattle.bl_tree.proofs.Basics.{any_push, cond_or}
use Rattle.bl_tree.specs.declared.place.Place.{Place}
use Rattle.bl_tree.specs.Rules.{same_place}
use Rattle.bl_limits_measures.specs.declared.runs.PlacedRun.{PlacedRun}
use Rattle.bl_limits_measures.specs.Runs.{one_a_place}
use Rattle.bl_limits_measures.specs.inner.Seen.{SeesRuns, has_place, key_cmp, place_key, starts_at}
use Rattle.bl_tree.proofs.FirstLemmas.{same_true}

-- ---- keys

both_equal : (r s : Ordering) → is_eq (ordering_then r s) ≡ (is_eq r && is_eq s)
both_equal Less s = refl
both_equal Equal s = refl
both_equal Greater s = refl

-- a place is that of a key where the key ties
same_place_key : (a b : Place) → is_at (key_cmp (place_key a)) (place_key b) ≡ same_place a b
same_place_key a b = both_equal (nat_cmp a.start b.start) (nat_cmp a.end b.end) ∙ (λ i. unsigned_tied a.start b.start i && unsigned_tied a.end b.end i)

-- ---- what was seen

-- the set with one more place
pub place_added : (old new : BTreeSet (ℕ × ℕ)) (place q : Place) →
    has_place new q ≡ cond (is_at (key_cmp (place_key place)) (place_key q)) true (has_place old q)
    → has_place new q ≡ (same_place place q || has_place old q)
place_added old new place q is = is ∙ ap (λ b. cond b true (has_place old q)) (same_place_key place q) ∙ cond_or (same_place place q) (has_place old q)

-- a place that was there tells nothing new
pub sees_still : (old new : BTreeSet (ℕ × ℕ)) (place : Place) (runs : List PlacedRun) → has_place old place ≡ true →
    ((q : Place) → has_place new q ≡ (same_place place q || has_place old q))
    → SeesRuns old runs → SeesRuns new runs
sees_still old new place runs there grown sees q = grown q ∙ step (same_place place q) refl ∙ sees q
  where
    step : (b : Bool) → same_place place q ≡ b → (b || has_place old q) ≡ has_place old q
    step true is = sym (ap (has_place old) (sym (same_true place q is)) ∙ there)
    step false is = refl

-- one more `run` statement of a place that was added
pub sees_more : (old new : BTreeSet (ℕ × ℕ)) (run : PlacedRun) (runs made : List PlacedRun) →
    ((q : Place) → has_place new q ≡ (same_place run.place q || has_place old q))
    → made ≡ runs ++ run ∷ [] → SeesRuns old runs → SeesRuns new made
sees_more old new run runs made grown is sees q =
    grown q ∙ ap (λ b. same_place run.place q || b) (sees q) ∙ sym (ap (list_any (starts_at q)) is ∙ any_push (starts_at q) runs run)

-- ---- answers of the set

pub was_there : (there fresh : Bool) → fresh ≡ not there → fresh ≡ false → there ≡ true
was_there true fresh is old = refl
was_there false fresh is old = absurd cc

pub was_new : (there fresh : Bool) → fresh ≡ not there → fresh ≡ true → there ≡ false
was_new true fresh is new = absurd cc
was_new false fresh is new = refl

-- a test of what was seen decides
pub seen_decides : {A : Type 0} (seen : BTreeSet (ℕ × ℕ)) (place : Place) (runs : List PlacedRun) (b : Bool) (x y : A) →
    has_place seen place ≡ b → SeesRuns seen runs
    → cond b x y ≡ cond (list_any (starts_at place) runs) x y
seen_decides seen place runs b x y is sees = ap (λ b. cond b x y) (sym is ∙ sees place)

-- ---- one of each place

abbrev others : PlacedRun → List PlacedRun → List PlacedRun
others r xs = filter (λ other. not (same_place r.place other.place)) xs

kept_one : (b : Bool) (o : PlacedRun) (x : Place) (rest : List PlacedRun) → b ≡ true → starts_at x o ≡ false
    → list_any (starts_at x) (cond (not b) (o ∷ rest) rest) ≡ (starts_at x o || list_any (starts_at x) rest)
kept_one true o x rest is differs = sym (ap (λ b. b || list_any (starts_at x) rest) differs)
kept_one false o x rest is differs = absurd cc

other_place : (r o : PlacedRun) (x : Place) → same_place r.place x ≡ false → same_place r.place o.place ≡ true → starts_at x o ≡ false
other_place r o x differs is = sym (ap (λ p. same_place p x) (same_true r.place o.place is)) ∙ differs

any_step : (r o : PlacedRun) (x : Place) (ys : List PlacedRun) → same_place r.place x ≡ false →
    list_any (starts_at x) (others r ys) ≡ list_any (starts_at x) ys → (b : Bool) → same_place r.place o.place ≡ b
    → list_any (starts_at x) (cond (not b) (o ∷ others r ys) (others r ys)) ≡ (starts_at x o || list_any (starts_at x) ys)
any_step r o x ys differs rest true is = kept_one true o x (others r ys) refl (other_place r o x differs is) ∙ ap (λ b. starts_at x o || b) rest
any_step r o x ys differs rest false is = ap (λ b. starts_at x o || b) rest

any_others : (r : PlacedRun) (x : Place) (ys : List PlacedRun) → same_place r.place x ≡ false → list_any (starts_at x) (others r ys) ≡ list_any (starts_at x) ys
any_others r x [] differs = refl
any_others r x (o ∷ ys) differs = any_step r o x ys differs (any_others r x ys differs) (same_place r.place o.place) refl

others-append : (r : PlacedRun) (xs ys : List PlacedRun) → others r (xs ++ ys) ≡ others r xs ++ others r ys
others-append r [] ys = refl
others-append r (x ∷ xs) ys = step (not (same_place r.place x.place)) (others-append r xs ys)
  where
    step : (b : Bool) → others r (xs ++ ys) ≡ others r xs ++ others r ys →
        cond b (x ∷ others r (xs ++ ys)) (others r (xs ++ ys)) ≡ cond b (x ∷ others r xs) (others r xs) ++ others r ys
    step true e = ap (λ rest. x ∷ rest) e
    step false e = e

one_case : (r x : PlacedRun) (ys : List PlacedRun) (b same : Bool) → list_any (starts_at x.place) ys ≡ b → same_place r.place x.place ≡ same
    → r ∷ others r (cond b ys (ys ++ x ∷ []))
    ≡ cond (same || list_any (starts_at x.place) (others r ys)) (r ∷ others r ys) (r ∷ others r ys ++ x ∷ [])
one_case r x ys true true is same = refl
one_case r x ys false true is same =
    ap (λ rest. r ∷ rest) (others-append r ys (x ∷ []) ∙ ap (λ b. others r ys ++ cond (not b) (x ∷ []) []) same ∙ append-nil (others r ys))
one_case r x ys true false is same =
    sym (ap (λ b. cond b (r ∷ others r ys) (r ∷ others r ys ++ x ∷ [])) (any_others r x.place ys same ∙ is))
one_case r x ys false false is same =
    ap (λ rest. r ∷ rest) (others-append r ys (x ∷ []) ∙ ap (λ b. others r ys ++ cond (not b) (x ∷ []) []) same)
    ∙ sym (ap (λ b. cond b (r ∷ others r ys) (r ∷ others r ys ++ x ∷ [])) (any_others r x.place ys same ∙ is))

-- one more `run` statement: it counts where none of its place is there
pub one_more : (xs : List PlacedRun) (x : PlacedRun)
    → one_a_place (xs ++ x ∷ []) ≡ cond (list_any (starts_at x.place) (one_a_place xs)) (one_a_place xs) (one_a_place xs ++ x ∷ [])
one_more [] x = refl
one_more (r ∷ xs) x =
    ap (λ rest. r ∷ others r rest) (one_more xs x)
    ∙ one_case r x (one_a_place xs) (list_any (starts_at x.place) (one_a_place xs)) (same_place r.place x.place) refl refl
