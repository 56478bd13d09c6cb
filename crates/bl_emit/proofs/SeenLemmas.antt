-- The places of `run` statements that were seen, and the first `run` statement of each place.
use Rattle.std.proofs.Common.{◌≡◌, ℕ, Bool, true, false, not, ◌&&◌, ◌||◌, cond, List, [], ◌∷◌, ◌++◌, filter, map, refl, sym, ap, ◌∙◌, append-nil}
use Rattle.std.proofs.Common.{eqb→eq}
use Rattle.std.specs.BTreeMap.{is_at}
use Rattle.std.specs.BTreeSet.{BTreeSet}
use Rattle.std.specs.List.{list_any}
use Rattle.std.proofs.lemmas.List.{map-append}
use Rattle.bl_tree.proofs.Basics.{any_push, cond_or}
use Rattle.bl_tree.specs.declared.place.Place.{Place}
use Rattle.bl_tree.specs.Rules.{same_place}
use Rattle.bl_machine_transitions.specs.Runs.{key_cmp, key_of}
use Rattle.bl_emit_spec.specs.Activities.{RunAt, one_a_place}
use Rattle.bl_emit.specs.declared.runs.RunAt.{RunAt as Kept}
use Rattle.bl_emit.specs.Kept.{run_in}
use Rattle.bl_emit.specs.inner.Seen.{SeesRuns, has_run_place, run_stands_at}
use Rattle.bl_tree.proofs.FirstLemmas.{same_true}
use Rattle.bl_machine_transitions.proofs.RunLemmas.{same_place_key}

-- ---- what was seen

-- the set with one more place
pub place_added : (old new : BTreeSet (ℕ × ℕ)) (place q : Place) →
    has_run_place new q ≡ cond (is_at (key_cmp (key_of place)) (key_of q)) true (has_run_place old q)
    → has_run_place new q ≡ (same_place place q || has_run_place old q)
place_added old new place q is = is ∙ ap (λ b. cond b true (has_run_place old q)) (same_place_key place q) ∙ cond_or (same_place place q) (has_run_place old q)

-- a place that was there tells nothing new
pub sees_still : (old new : BTreeSet (ℕ × ℕ)) (place : Place) (runs : List Kept) → has_run_place old place ≡ true →
    ((q : Place) → has_run_place new q ≡ (same_place place q || has_run_place old q))
    → SeesRuns old runs → SeesRuns new runs
sees_still old new place runs there grown sees q = grown q ∙ step (same_place place q) refl ∙ sees q
  where
    step : (b : Bool) → same_place place q ≡ b → (b || has_run_place old q) ≡ has_run_place old q
    step true is = sym (ap (has_run_place old) (sym (same_true place q is)) ∙ there)
    step false is = refl

-- one more `run` statement of a place that was added
pub sees_more : (old new : BTreeSet (ℕ × ℕ)) (run : Kept) (runs made : List Kept) →
    ((q : Place) → has_run_place new q ≡ (same_place run.place q || has_run_place old q))
    → made ≡ runs ++ run ∷ [] → SeesRuns old runs → SeesRuns new made
sees_more old new run runs made grown is sees q =
    grown q ∙ ap (λ b. same_place run.place q || b) (sees q) ∙ sym (ap (list_any (run_stands_at q)) is ∙ any_push (run_stands_at q) runs run)

-- ---- answers of the set

pub was_there : (there fresh : Bool) → fresh ≡ not there → fresh ≡ false → there ≡ true
was_there true fresh is old = refl
was_there false fresh is old = absurd cc

pub was_new : (there fresh : Bool) → fresh ≡ not there → fresh ≡ true → there ≡ false
was_new true fresh is new = absurd cc
was_new false fresh is new = refl

-- a test of what was seen decides
pub seen_decides : {A : Type 0} (seen : BTreeSet (ℕ × ℕ)) (place : Place) (runs : List Kept) (b : Bool) (x y : A) →
    has_run_place seen place ≡ b → SeesRuns seen runs
    → cond b x y ≡ cond (list_any (run_stands_at place) runs) x y
seen_decides seen place runs b x y is sees = ap (λ b. cond b x y) (sym is ∙ sees place)

-- ---- one of each place

-- whether a `run` stands at the place
abbrev starts_in : Place → RunAt → Bool
starts_in place run = same_place run.place place

abbrev others : RunAt → List RunAt → List RunAt
others r xs = filter (λ other. not (same_place r.place other.place)) xs

kept_one : (b : Bool) (o : RunAt) (x : Place) (rest : List RunAt) → b ≡ true → starts_in x o ≡ false
    → list_any (starts_in x) (cond (not b) (o ∷ rest) rest) ≡ (starts_in x o || list_any (starts_in x) rest)
kept_one true o x rest is differs = sym (ap (λ b. b || list_any (starts_in x) rest) differs)
kept_one false o x rest is differs = absurd cc

other_place : (r o : RunAt) (x : Place) → same_place r.place x ≡ false → same_place r.place o.place ≡ true → starts_in x o ≡ false
other_place r o x differs is = sym (ap (λ p. same_place p x) (same_true r.place o.place is)) ∙ differs

any_step : (r o : RunAt) (x : Place) (ys : List RunAt) → same_place r.place x ≡ false →
    list_any (starts_in x) (others r ys) ≡ list_any (starts_in x) ys → (b : Bool) → same_place r.place o.place ≡ b
    → list_any (starts_in x) (cond (not b) (o ∷ others r ys) (others r ys)) ≡ (starts_in x o || list_any (starts_in x) ys)
any_step r o x ys differs rest true is = kept_one true o x (others r ys) refl (other_place r o x differs is) ∙ ap (λ b. starts_in x o || b) rest
any_step r o x ys differs rest false is = ap (λ b. starts_in x o || b) rest

any_others : (r : RunAt) (x : Place) (ys : List RunAt) → same_place r.place x ≡ false → list_any (starts_in x) (others r ys) ≡ list_any (starts_in x) ys
any_others r x [] differs = refl
any_others r x (o ∷ ys) differs = any_step r o x ys differs (any_others r x ys differs) (same_place r.place o.place) refl

others-append : (r : RunAt) (xs ys : List RunAt) → others r (xs ++ ys) ≡ others r xs ++ others r ys
others-append r [] ys = refl
others-append r (x ∷ xs) ys = step (not (same_place r.place x.place)) (others-append r xs ys)
  where
    step : (b : Bool) → others r (xs ++ ys) ≡ others r xs ++ others r ys →
        cond b (x ∷ others r (xs ++ ys)) (others r (xs ++ ys)) ≡ cond b (x ∷ others r xs) (others r xs) ++ others r ys
    step true e = ap (λ rest. x ∷ rest) e
    step false e = e

one_case : (r x : RunAt) (ys : List RunAt) (b same : Bool) → list_any (starts_in x.place) ys ≡ b → same_place r.place x.place ≡ same
    → r ∷ others r (cond b ys (ys ++ x ∷ []))
    ≡ cond (same || list_any (starts_in x.place) (others r ys)) (r ∷ others r ys) (r ∷ others r ys ++ x ∷ [])
one_case r x ys true true is same = refl
one_case r x ys false true is same =
    ap (λ rest. r ∷ rest) (others-append r ys (x ∷ []) ∙ ap (λ b. others r ys ++ cond (not b) (x ∷ []) []) same ∙ append-nil (others r ys))
one_case r x ys true false is same =
    sym (ap (λ b. cond b (r ∷ others r ys) (r ∷ others r ys ++ x ∷ [])) (any_others r x.place ys same ∙ is))
one_case r x ys false false is same =
    ap (λ rest. r ∷ rest) (others-append r ys (x ∷ []) ∙ ap (λ b. others r ys ++ cond (not b) (x ∷ []) []) same)
    ∙ sym (ap (λ b. cond b (r ∷ others r ys) (r ∷ others r ys ++ x ∷ [])) (any_others r x.place ys same ∙ is))

-- one more `run` statement: it counts where none of its place is there
pub one_more : (xs : List RunAt) (x : RunAt)
    → one_a_place (xs ++ x ∷ []) ≡ cond (list_any (starts_in x.place) (one_a_place xs)) (one_a_place xs) (one_a_place xs ++ x ∷ [])
one_more [] x = refl
one_more (r ∷ xs) x =
    ap (λ rest. r ∷ others r rest) (one_more xs x)
    ∙ one_case r x (one_a_place xs) (list_any (starts_in x.place) (one_a_place xs)) (same_place r.place x.place) refl refl

-- ---- `run`s as the code has them

kept_any : (place : Place) (kept : List Kept) → list_any (run_stands_at place) kept ≡ list_any (starts_in place) (map run_in kept)
kept_any place [] = refl
kept_any place (run ∷ kept) = ap (λ b. same_place run.place place || b) (kept_any place kept)

kept_case : (b : Bool) (kept : List Kept) (run : Kept) →
    map run_in (cond b kept (kept ++ run ∷ [])) ≡ cond b (map run_in kept) (map run_in kept ++ run_in run ∷ [])
kept_case true kept run = refl
kept_case false kept run = map-append run_in kept (run ∷ [])

-- one `run` more is kept where none of its place is
pub kept_more : (kept new yielded : List Kept) (run : Kept) → new ≡ cond (list_any (run_stands_at run.place) kept) kept (kept ++ run ∷ []) →
    map run_in kept ≡ one_a_place (map run_in yielded) → map run_in new ≡ one_a_place (map run_in (yielded ++ run ∷ []))
kept_more kept new yielded run grows so_far =
    ap (map run_in) grows
    ∙ (kept_case (list_any (run_stands_at run.place) kept) kept run
    ∙ (ap (λ b. cond b (map run_in kept) (map run_in kept ++ run_in run ∷ [])) (kept_any run.place kept)
    ∙ (ap (λ found. cond (list_any (starts_in run.place) found) found (found ++ run_in run ∷ [])) so_far
    ∙ (sym (one_more (map run_in yielded) (run_in run)) ∙ ap one_a_place (sym (map-append run_in yielded (run ∷ [])))))))
