-- What is noted of branches tells what those beside one of them may still write.
use Rattle.std.proofs.Common.{◌≡◌, ◌≢◌, ℕ, zero, suc, ◌+◌, ◌<◌, ◌≤◌, Bool, true, false, not, cond, ◌&&◌, ◌||◌, List, [], ◌∷◌, ◌++◌, map, filter, take, drop}
use Rattle.std.proofs.Common.{refl, sym, ap, ◌∙◌, arith, append_assoc, nat_eq, eq-eqb}
use Rattle.std.specs.List.{list_any}
use Rattle.std.proofs.lemmas.List.Elements.{filter-append}
use Rattle.std.proofs.lemmas.List.Folds.{list_any-append}
use Rattle.std.proofs.lemmas.Bool.{and_parts}
use Rattle.bl_tree.proofs.Basics.{and_false, drop_none, map_append, or_regroup, same_number}
use Rattle.bl_tree.specs.Static.{is_front, overlaps}
use Rattle.bl_ctree.specs.Instances.{Setting}
use Rattle.bl_ctree.specs.Nodes.{Seen}
use Rattle.bl_ctree.specs.Store.{Location, overlap}
use Rattle.bl_ctree_store.specs.declared.home.Home.{Home}
use Rattle.bl_ctree_store.specs.Seen.{location_of}
use Rattle.bl_ctree_run.specs.declared.writers.Write.{Write as WriteNode}
use Rattle.bl_ctree_enabled.specs.Spots.{Spot, homes_seen, is_free_of, meets_one, taken}
use Rattle.bl_ctree_run.specs.inner.Writers.{Write, all_writes, is_beside, is_free, is_met, of_variable, same_variable, writes_by}
use Rattle.bl_ctree_run.specs.inner.Writers.{writes_from, writes_kept}
use Rattle.bl_ctree_enabled.proofs.BranchLemmas.{any_or, any_same, not_or}
use Rattle.bl_ctree_enabled.proofs.TableLemmas.{unequal}

-- ---- as it is kept

abbrev Entries : Type 0
Entries = List ((ℕ × ℕ) × List WriteNode)

by-append : (k : ℕ) (xs ys : List Location) → writes_by k (xs ++ ys) ≡ writes_by k xs ++ writes_by k ys
by-append k [] ys = refl
by-append k (x ∷ xs) ys = ap (λ rest. record { branch = k; home = x } ∷ rest) (by-append k xs ys)

near-append : (at : Location) (xs ys : List Write) → of_variable at (xs ++ ys) ≡ of_variable at xs ++ of_variable at ys
near-append at xs ys = filter-append (λ write. same_variable write.home at) xs ys

-- one more home of a branch
pub noted_more : (at : Location) (k : ℕ) (done : List Home) (home : Home) (old between new : List Write)
    → between ≡ old ++ of_variable at (writes_by k (map location_of done)) → new ≡ between ++ of_variable at (writes_by k (location_of home ∷ []))
    → new ≡ old ++ of_variable at (writes_by k (map location_of (done ++ home ∷ [])))
noted_more at k done home old between new is_between is_new =
    let front = writes_by k (map location_of done) in
    let one = writes_by k (location_of home ∷ []) in
    is_new ∙ ap (λ xs. xs ++ of_variable at one) is_between ∙ append_assoc old (of_variable at front) (of_variable at one)
    ∙ ap (λ xs. old ++ xs) (sym (near-append at front one))
    ∙ ap (λ xs. old ++ of_variable at xs) (sym (by-append k (map location_of done) (location_of home ∷ [])))
    ∙ ap (λ xs. old ++ of_variable at (writes_by k xs)) (sym (map_append location_of done (home ∷ [])))

-- one more branch
pub branch_noted : (at : Location) (w : Setting) (i : ℕ) (all : List Seen) (k next : ℕ) (b : Seen) (old new whole : List Write) →
    next ≡ suc k → drop k all ≡ b ∷ drop (suc k) all
    → new ≡ old ++ of_variable at (writes_by k (homes_seen w i b))
    → old ++ of_variable at (writes_from k (map (homes_seen w i) (drop k all))) ≡ whole
    → new ++ of_variable at (writes_from next (map (homes_seen w i) (drop next all))) ≡ whole
branch_noted at w i all k next b old new whole is_next here is_new before =
    let one = writes_by k (homes_seen w i b) in
    let rest = writes_from (suc k) (map (homes_seen w i) (drop (suc k) all)) in
    ap (λ n. new ++ of_variable at (writes_from n (map (homes_seen w i) (drop n all)))) is_next
    ∙ ap (λ new. new ++ of_variable at rest) is_new
    ∙ append_assoc old (of_variable at one) (of_variable at rest)
    ∙ ap (λ xs. old ++ xs) (sym (near-append at one rest))
    ∙ ap (λ all. old ++ of_variable at (writes_from k (map (homes_seen w i) all))) (sym here)
    ∙ before

-- ---- what is met

flip : (m n : ℕ) → nat_eq m n ≡ true → nat_eq n m ≡ true
flip m n is = eq-eqb n m (sym (same_number m n is))

overlap_same : (home at : Location) → overlap at home ≡ true → same_variable home at ≡ true
overlap_same home at is =
    let both = and_parts (nat_eq at.instance home.instance) (overlaps at.path home.path) is in
    let roots = and_parts (nat_eq at.path.root home.path.root) (is_front at.path.fields home.path.fields || is_front home.path.fields at.path.fields) both.1 in
    λ i. flip at.instance home.instance both.0 i && flip at.path.root home.path.root roots.0 i

apart : (home at : Location) → same_variable home at ≡ false → (b : Bool) → overlap at home ≡ b → b ≡ false
apart home at is true met = let same = overlap_same home at met in absurd cc
apart home at is false met = refl

and_or : (a b c : Bool) → ((a && b) || (a && c)) ≡ (a && (b || c))
and_or true b c = refl
and_or false b c = refl

-- writes to other variables don't count
all_near : (k : ℕ) (at : Location) (writes : List Write) → list_any (is_beside k at) (of_variable at writes) ≡ list_any (is_beside k at) writes
all_near k at [] = refl
all_near k at (write ∷ writes) = by (same_variable write.home at) refl (all_near k at writes)
  where
    by : (b : Bool) → same_variable write.home at ≡ b → list_any (is_beside k at) (of_variable at writes) ≡ list_any (is_beside k at) writes
        → list_any (is_beside k at) (cond b (write ∷ of_variable at writes) (of_variable at writes))
        ≡ (is_beside k at write || list_any (is_beside k at) writes)
    by true same rest = ap (λ b. is_beside k at write || b) rest
    by false same rest =
        rest
        ∙ sym (ap (λ b. (not (nat_eq write.branch k) && b) || list_any (is_beside k at) writes) (apart write.home at same (overlap at write.home) refl)
        ∙ ap (λ b. b || list_any (is_beside k at) writes) (and_false (not (nat_eq write.branch k))))

any_by : (k j : ℕ) (at : Location) (homes : List Location) →
    list_any (is_beside k at) (writes_by j homes) ≡ (not (nat_eq j k) && list_any (overlap at) homes)
any_by k j at [] = sym (and_false (not (nat_eq j k)))
any_by k j at (home ∷ homes) =
    ap (λ b. (not (nat_eq j k) && overlap at home) || b) (any_by k j at homes) ∙ and_or (not (nat_eq j k)) (overlap at home) (list_any (overlap at) homes)

-- another branch, and those behind it
any_other : (k j : ℕ) (at : Location) (homes : List Location) (rest : List Write) → j ≢ k
    → list_any (is_beside k at) (writes_by j homes ++ rest) ≡ (list_any (overlap at) homes || list_any (is_beside k at) rest)
any_other k j at homes rest other =
    list_any-append (is_beside k at) (writes_by j homes) rest
    ∙ ap (λ b. b || list_any (is_beside k at) rest) (any_by k j at homes ∙ ap (λ b. not b && list_any (overlap at) homes) (unequal j k other))

-- the branch itself, and those behind it
any_self : (k j : ℕ) (at : Location) (homes : List Location) (rest : List Write) → j ≡ k →
    list_any (is_beside k at) (writes_by j homes ++ rest) ≡ list_any (is_beside k at) rest
any_self k j at homes rest same =
    list_any-append (is_beside k at) (writes_by j homes) rest
    ∙ ap (λ b. b || list_any (is_beside k at) rest) (any_by k j at homes ∙ ap (λ b. not b && list_any (overlap at) homes) (eq-eqb j k same))

all_others : (k j : ℕ) (at : Location) (all : List (List Location)) → k < j → list_any (is_beside k at) (writes_from j all) ≡ meets_one all at
all_others k j at [] behind = refl
all_others k j at (homes ∷ all) behind =
    any_other k j at homes (writes_from (suc j) all) (λ same. omega arith)
    ∙ ap (λ b. list_any (overlap at) homes || b) (all_others k (suc j) at all (omega arith))

-- those in front of the branch, and those behind it
met_from : (k j : ℕ) (at : Location) (all : List (List Location))
    → list_any (is_beside (j + k) at) (writes_from j all) ≡ (meets_one (take k all) at || meets_one (drop (suc k) all) at)
met_from zero j at [] = refl
met_from (suc k) j at [] = refl
met_from zero j at (homes ∷ all) =
    let same : j ≡ j + 0 = omega arith in
    any_self (j + 0) j at homes (writes_from (suc j) all) same
    ∙ all_others (j + 0) (suc j) at all (omega arith)
    ∙ ap (λ all. meets_one all at) (sym (drop_none all))
met_from (suc k) j at (homes ∷ all) =
    let same : j + suc k ≡ suc j + k = omega arith in
    any_other (j + suc k) j at homes (writes_from (suc j) all) (λ same. omega arith)
    ∙ ap (λ n. list_any (overlap at) homes || list_any (is_beside n at) (writes_from (suc j) all)) same
    ∙ ap (λ b. list_any (overlap at) homes || b) (met_from k (suc j) at all)
    ∙ or_regroup (list_any (overlap at) homes) (meets_one (take k all) at) (meets_one (drop (suc k) all) at)

met_beside : (entries : Entries) (all : List (List Location)) (k : ℕ) (at : Location) → writes_kept entries at ≡ of_variable at (all_writes all)
    → is_met entries k at ≡ (meets_one (take k all) at || meets_one (drop (k + 1) all) at)
met_beside entries all k at is =
    let start : k ≡ 0 + k = omega arith in
    let next : suc k ≡ k + 1 = omega arith in
    ap (list_any (is_beside k at)) is ∙ all_near k at (all_writes all) ∙ ap (λ n. list_any (is_beside n at) (all_writes all)) start
    ∙ met_from k 0 at all ∙ ap (λ n. meets_one (take k all) at || meets_one (drop n all) at) next

-- a point is free by what is kept where it is free by what the branches may write
free_same : (entries : Entries) (all : List (List Location)) (k : ℕ) (spot : Spot) →
    ((at : Location) → writes_kept entries at ≡ of_variable at (all_writes all))
    → is_free entries k spot ≡ is_free_of all k spot
free_same entries all k spot is =
    ap not (any_same (is_met entries k) (λ at. meets_one (take k all) at || meets_one (drop (k + 1) all) at) spot.reads
    (λ at. met_beside entries all k at (is at))
    ∙ any_or (meets_one (take k all)) (meets_one (drop (k + 1) all)) spot.reads)
    ∙ not_or (taken (take k all) spot.reads) (taken (drop (k + 1) all) spot.reads)

filter_same : {A : Type 0} (f g : A → Bool) (xs : List A) → ((x : A) → f x ≡ g x) → filter f xs ≡ filter g xs
filter_same f g [] same = refl
filter_same f g (x ∷ xs) same = λ i. cond (same x i) (x ∷ filter_same f g xs same i) (filter_same f g xs same i)

-- the free points
pub all_free : (entries : Entries) (all : List (List Location)) (k : ℕ) (spots : List Spot) →
    ((at : Location) → writes_kept entries at ≡ of_variable at (all_writes all))
    → filter (is_free entries k) spots ≡ filter (is_free_of all k) spots
all_free entries all k spots is = filter_same (is_free entries k) (is_free_of all k) spots (λ spot. free_same entries all k spot is)
