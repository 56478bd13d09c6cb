-- The instances below `run` statements.
use Rattle.std.proofs.Common.{◌≡◌, ℕ, zero, suc, ◌+◌, ◌<◌, ◌≤◌, ◌^◌, Bool, true, false, not, ◌||◌, cond, List, [], ◌∷◌, ◌++◌, length, map, filter, drop, get_or}
use Rattle.std.proofs.Common.{Option, Some, None, refl, sym, ap, ◌∙◌, subst, arith, append-nil, length-append}
use Rattle.std.specs.Prelude.{All, IfSome, option_map, slice_get, unwrap_or}
use Rattle.std.specs.List.{list_any}
use Rattle.std.proofs.lemmas.List.Elements.{All-append, All-cons, All-nil}
use Rattle.bl_tree.proofs.Basics.{drop_next, map_length}
use Rattle.bl_tree.specs.declared.place.Place.{Place}
use Rattle.bl_tree.specs.declared.tree.Unit.{Unit as UnitDef}
use Rattle.bl_tree.specs.Rules.{same_place}
use Rattle.bl_ctree.specs.declared.instance.Instance.{Instance}
use Rattle.bl_ctree.specs.declared.instance.Origin.{Origin}
use Rattle.bl_ctree.specs.declared.instance.Run.{Run}
use Rattle.bl_ctree.specs.Instances.{called_from, expanded, instances_below, one_a_place, origin_under, runs_of}
use Rattle.bl_ctree_store.specs.inner.Expansion.{Shifts, starts_at}
use Rattle.bl_tree.proofs.FirstLemmas.{same_true}

-- ---- one of each place

abbrev others : Run → List Run → List Run
others r xs = filter (λ other. not (same_place r.place other.place)) xs

kept_one : (b : Bool) (o : Run) (x : Place) (rest : List Run) → b ≡ true → starts_at x o ≡ false
    → list_any (starts_at x) (cond (not b) (o ∷ rest) rest) ≡ (starts_at x o || list_any (starts_at x) rest)
kept_one true o x rest is differs = sym (ap (λ b. b || list_any (starts_at x) rest) differs)
kept_one false o x rest is differs = absurd cc

other_place : (r o : Run) (x : Place) → same_place r.place x ≡ false → same_place r.place o.place ≡ true → starts_at x o ≡ false
other_place r o x differs is = sym (ap (λ p. same_place p x) (same_true r.place o.place is)) ∙ differs

any_step : (r o : Run) (x : Place) (ys : List Run) → same_place r.place x ≡ false →
    list_any (starts_at x) (others r ys) ≡ list_any (starts_at x) ys → (b : Bool) → same_place r.place o.place ≡ b
    → list_any (starts_at x) (cond (not b) (o ∷ others r ys) (others r ys)) ≡ (starts_at x o || list_any (starts_at x) ys)
any_step r o x ys differs rest true is = kept_one true o x (others r ys) refl (other_place r o x differs is) ∙ ap (λ b. starts_at x o || b) rest
any_step r o x ys differs rest false is = ap (λ b. starts_at x o || b) rest

any_others : (r : Run) (x : Place) (ys : List Run) → same_place r.place x ≡ false → list_any (starts_at x) (others r ys) ≡ list_any (starts_at x) ys
any_others r x [] differs = refl
any_others r x (o ∷ ys) differs = any_step r o x ys differs (any_others r x ys differs) (same_place r.place o.place) refl

others-append : (r : Run) (xs ys : List Run) → others r (xs ++ ys) ≡ others r xs ++ others r ys
others-append r [] ys = refl
others-append r (x ∷ xs) ys = step (not (same_place r.place x.place)) (others-append r xs ys)
  where
    step : (b : Bool) → others r (xs ++ ys) ≡ others r xs ++ others r ys →
        cond b (x ∷ others r (xs ++ ys)) (others r (xs ++ ys)) ≡ cond b (x ∷ others r xs) (others r xs) ++ others r ys
    step true e = ap (λ rest. x ∷ rest) e
    step false e = e

one_case : (r x : Run) (ys : List Run) (b same : Bool) → list_any (starts_at x.place) ys ≡ b → same_place r.place x.place ≡ same
    → r ∷ others r (cond b ys (ys ++ x ∷ []))
    ≡ cond (same || list_any (starts_at x.place) (others r ys)) (r ∷ others r ys) (r ∷ others r ys ++ x ∷ [])
one_case r x ys true true is same = refl
one_case r x ys false true is same =
    ap (λ rest. r ∷ rest) (others-append r ys (x ∷ []) ∙ ap (λ b. others r ys ++ cond (not b) (x ∷ []) []) same ∙ append-nil (others r ys))
one_case r x ys true false is same =
    sym (ap (λ b. cond b (r ∷ others r ys) (r ∷ others r ys ++ x ∷ [])) (any_others r x.place ys same ∙ is))
one_case r x ys false false is same =
    ap (λ rest. r ∷ rest) (others-append r ys (x ∷ []) ∙ ap (λ b. others r ys ++ cond (not b) (x ∷ []) []) same)
    ∙ sym (ap (λ b. cond b (r ∷ others r ys) (r ∷ others r ys ++ x ∷ [])) (any_others r x.place ys same ∙ is))

-- one more `run` statement: it counts where none of its place is there
pub one_more : (xs : List Run) (x : Run)
    → one_a_place (xs ++ x ∷ []) ≡ cond (list_any (starts_at x.place) (one_a_place xs)) (one_a_place xs) (one_a_place xs ++ x ∷ [])
one_more [] x = refl
one_more (r ∷ xs) x =
    ap (λ rest. r ∷ others r rest) (one_more xs x)
    ∙ one_case r x (one_a_place xs) (list_any (starts_at x.place) (one_a_place xs)) (same_place r.place x.place) refl refl

-- ---- numbers

all_map : {A B : Type 0} (P : B → Type 0) (f : A → B) (xs : List A) → All (λ x. P (f x)) xs → All P (map f xs)
all_map P f [] all = All-nil P
all_map P f (x ∷ xs) all = All-cons P (f x) (map f xs) (all 0 x (omega arith)) (all_map P f xs (λ k d below. all (suc k) d (omega arith)))

abbrev pub Shallow : ℕ → Instance → Type 0
Shallow n x = x.depth < n

abbrev pub CallerBelow : ℕ → Option Origin → Type 0
CallerBelow n origin = IfSome origin (λ o. o.caller < n)

below_shallow : (alone : ℕ → List Instance) (longest n : ℕ) (runs : List Run) → ((k : ℕ) → All (Shallow longest) (alone k)) →
    All (Shallow (suc longest)) (instances_below alone n runs)
below_shallow alone longest n [] each = All-nil (Shallow (suc longest))
below_shallow alone longest n (run ∷ rest) each =
    All-append (Shallow (suc longest)) (map (called_from n run) (alone run.unit))
    (instances_below alone (n + length (map (called_from n run) (alone run.unit))) rest)
    (all_map (Shallow (suc longest)) (called_from n run) (alone run.unit)
    (λ k d below. let h : (get_or (alone run.unit) k d).depth < longest = each run.unit k d below in omega arith))
    (below_shallow alone longest (n + length (map (called_from n run) (alone run.unit))) rest each)

shallow_at : (units : List UnitDef) (longest k : ℕ) (found : Option UnitDef) → ((j : ℕ) → All (Shallow longest) (expanded units longest j))
    → All (Shallow (suc longest)) (unwrap_or (option_map
    (λ unit. record { unit = k; depth = 0; origin = None } ∷ instances_below (expanded units longest) 1 (runs_of unit)) found) [])
shallow_at units longest k None each = All-nil (Shallow (suc longest))
shallow_at units longest k (Some unit) each =
    All-cons (Shallow (suc longest)) (record { unit = k; depth = 0; origin = None }) (instances_below (expanded units longest) 1 (runs_of unit)) (omega arith)
    (below_shallow (expanded units longest) longest 1 (runs_of unit) each)

-- an instance is less deep than the longest chain
pub shallow : (units : List UnitDef) (longest k : ℕ) → All (Shallow longest) (expanded units longest k)
shallow units zero k = All-nil (Shallow zero)
shallow units (suc longest) k = shallow_at units longest k (slice_get units k) (λ j. shallow units longest j)

under_below : (n m : ℕ) (run : Run) (inner : ℕ) (origin : Option Origin) → 0 < m → n + inner ≤ m → CallerBelow inner origin →
    CallerBelow m (origin_under n run origin)
under_below n m run inner None some fits below = some
under_below n m run inner (Some o) some fits below = omega arith

below_callers : (alone : ℕ → List Instance) (n m : ℕ) (runs : List Run) → 0 < m → n + length (instances_below alone n runs) ≤ m
    → ((k : ℕ) → All (λ x. CallerBelow (length (alone k)) x.origin) (alone k)) → All (λ x. CallerBelow m x.origin) (instances_below alone n runs)
below_callers alone n m [] some fits each = All-nil (λ x. CallerBelow m x.origin)
below_callers alone n m (run ∷ rest) some fits each =
    let inner = map (called_from n run) (alone run.unit) in
    let later = instances_below alone (n + length inner) rest in
    let long : length (inner ++ later) ≡ length inner + length later = length-append inner later in
    let same : length inner ≡ length (alone run.unit) = map_length (called_from n run) (alone run.unit) in
    All-append (λ x. CallerBelow m x.origin) inner later
    (all_map (λ x. CallerBelow m x.origin) (called_from n run) (alone run.unit)
    (λ k d below. under_below n m run (length (alone run.unit)) (get_or (alone run.unit) k d).origin some (omega arith) (each run.unit k d below)))
    (below_callers alone (n + length inner) m rest some (omega arith) each)

callers_at : (units : List UnitDef) (longest k : ℕ) (found : Option UnitDef) (all : List Instance) →
    ((j : ℕ) → All (λ x. CallerBelow (length (expanded units longest j)) x.origin) (expanded units longest j))
    → all ≡ unwrap_or (option_map (λ unit. record { unit = k; depth = 0; origin = None }
    ∷ instances_below (expanded units longest) 1 (runs_of unit)) found) []
    → All (λ x. CallerBelow (length all) x.origin) (unwrap_or
    (option_map (λ unit. record { unit = k; depth = 0; origin = None } ∷ instances_below (expanded units longest) 1 (runs_of unit)) found) [])
callers_at units longest k None all each is = All-nil (λ x. CallerBelow (length all) x.origin)
callers_at units longest k (Some unit) all each is =
    let first : Instance = record { unit = k; depth = 0; origin = None } in
    let below = instances_below (expanded units longest) 1 (runs_of unit) in
    let long : length all ≡ suc (length below) = ap length is in
    All-cons (λ x. CallerBelow (length all) x.origin) first below tt
    (below_callers (expanded units longest) 1 (length all) (runs_of unit) (omega arith) (omega arith) each)

-- the number of a caller is that of an instance
pub callers : (units : List UnitDef) (longest k : ℕ) → All (λ x. CallerBelow (length (expanded units longest k)) x.origin) (expanded units longest k)
callers units zero k = All-nil (λ x. CallerBelow 0 x.origin)
callers units (suc longest) k = callers_at units longest k (slice_get units k) (expanded units (suc longest) k) (λ j. callers units longest j) refl

-- ---- one `run` statement after another

shift_fits : (n : ℕ) (inner : ℕ) (origin : Option Origin) → n + inner < 2 ^ 32 → CallerBelow inner origin → Shifts n origin
shift_fits n inner None fits below = tt
shift_fits n inner (Some o) fits below = omega arith

-- the callers of instances that are told from number n on
pub shifts : (units : List UnitDef) (longest k n : ℕ) (alone : List Instance) → alone ≡ expanded units longest k →
    n + length (expanded units longest k) < 2 ^ 32
    → All (λ x. Shifts n x.origin) alone
shifts units longest k n alone is fits =
    subst (λ (xs : List Instance). All (λ x. Shifts n x.origin) xs) (sym is)
    (λ j d below. shift_fits n (length (expanded units longest k)) (get_or (expanded units longest k) j d).origin fits (callers units longest k j d below))

-- and their depths
pub deepens : (units : List UnitDef) (longest k : ℕ) (alone : List Instance) → alone ≡ expanded units longest k → longest < 2 ^ 32 →
    All (λ x. x.depth + 1 < 2 ^ 32) alone
deepens units longest k alone is short =
    subst (λ (xs : List Instance). All (λ x. x.depth + 1 < 2 ^ 32) xs) (sym is)
    (λ j d below. let h : (get_or (expanded units longest k) j d).depth < longest = shallow units longest k j d below in omega arith)

-- the instances so far and those of the next `run` statement are no more than all
run_fits : (units : List UnitDef) (longest : ℕ) (all whole : List Instance) (left rest : List Run) (run : Run)
    → all ++ instances_below (expanded units longest) (length all) left ≡ whole → left ≡ run ∷ rest →
    length all + length (expanded units longest run.unit) ≤ length whole
run_fits units longest all whole left rest run below is =
    let inner = map (called_from (length all) run) (expanded units longest run.unit) in
    let later = instances_below (expanded units longest) (length all + length inner) rest in
    let split : all ++ (inner ++ later) ≡ whole = ap (λ left. all ++ instances_below (expanded units longest) (length all) left) (sym is) ∙ below in
    let long : length all + length (inner ++ later) ≡ length whole = sym (length-append all (inner ++ later)) ∙ ap length split in
    let parts : length (inner ++ later) ≡ length inner + length later = length-append inner later in
    let same : length inner ≡ length (expanded units longest run.unit) = map_length (called_from (length all) run) (expanded units longest run.unit) in
    omega arith

pub run_room : (units : List UnitDef) (longest : ℕ) (all : List Instance) (items runs : List Run) (entry : Instance) (k : ℕ) (run : Run)
    → all ++ instances_below (expanded units longest) (length all) (drop k items) ≡ entry
    ∷ instances_below (expanded units longest) 1 items → items ≡ runs
    → length (instances_below (expanded units longest) 1 runs) + 1 < 2 ^ 32 → k < length items → run ≡ get_or items k run
    → length all + length (expanded units longest run.unit) < 2 ^ 32
run_room units longest all items runs entry k run below same few within is =
    let fits : length all + length (expanded units longest run.unit) ≤ suc (length (instances_below (expanded units longest) 1 items)) =
    run_fits units longest all (entry ∷ instances_below (expanded units longest) 1 items) (drop k items)
    (drop (k + 1) items) run below (drop_next items k run within is) in
    let as_many : length (instances_below (expanded units longest) 1 items) ≡ length (instances_below (expanded units longest) 1 runs) =
    ap (λ runs. length (instances_below (expanded units longest) 1 runs)) same in
    omega arith
