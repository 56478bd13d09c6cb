-- The number of instances is how many the list of them has.
use Rattle.std.proofs.Common.{◌≡◌, ℕ, zero, suc, ◌+◌, ◌<◌, ◌≤◌, Bool, true, false, not, cond, ◌⊎◌, ⊎_elim, List, [], ◌∷◌, ◌++◌, map, length, get_or, Some, None}
use Rattle.std.proofs.Common.{ap, refl, sym, ◌∙◌, arith}
use Rattle.std.specs.Prelude.{All, Option, filter, option_map, slice_get, unwrap_or}
use Rattle.std.proofs.lemmas.List.{length-append, length-map, map-append}
use Rattle.std.proofs.lemmas.List.Elements.{All-head, All-tail}
use Rattle.std.proofs.lemmas.Option.{none-some, slice_get_cases}
use Rattle.bl_tree.specs.declared.place.Place.{Place}
use Rattle.bl_tree.specs.declared.tree.Arm.{Arm, fold_out-Arm, out-Arm}
use Rattle.bl_tree.specs.declared.tree.Branch.{Branch, fold_out-Branch, out-Branch}
use Rattle.bl_tree.specs.declared.tree.Stmt.{Stmt, fold-roll-Stmt}
use Rattle.bl_tree.specs.declared.tree.StmtKind.{StmtKind, fold-StmtKind, fold-roll-StmtKind, map-StmtKind}
use Rattle.bl_tree.specs.declared.tree.StmtKind.TheOpen.{StmtKind-F}
use Rattle.bl_tree.specs.declared.tree.Unit.{Unit as UnitDef}
use Rattle.bl_tree.specs.Reduce.{joined, total}
use Rattle.bl_tree.proofs.StmtInduction.{Each, EachArm, EachBranch, induct, stmt}
use Rattle.bl_tree.specs.Rules.{same_place}
use Rattle.bl_ctree.specs.declared.instance.Instance.{Instance}
use Rattle.bl_ctree.specs.declared.instance.Run.{Run}
use Rattle.bl_ctree.specs.Instances.{arm_runs, branch_runs, called_from, expanded, instances_below, kind_runs, one_a_place, runs_in, runs_in_arm}
use Rattle.bl_ctree.specs.Instances.{runs_in_branch, runs_of, stmt_layer_runs}
use Rattle.bl_limits_measures.specs.declared.runs.PlacedRun.{PlacedRun}
use Rattle.bl_limits_measures.specs.Runs as placed
use Rattle.bl_limits_measures.specs.Runs.{activities_by_place, activities_run}
use Rattle.bl_limits_measures.proofs.RunLemmas.{placed_all}
use Rattle.bl_limits_measures.specs.Laws.{InstancesAdd, MissingIsNothing}
use Rattle.bl_limits_measures.specs.Units.{instances_at}
use Rattle.bl_limits_measures.specs.Uses.{UsesEarlier, UsesEarlierOnly}
use Rattle.bl_limits_measures_laws.specs.Laws.{InstancesAreCounted}
use Rattle.bl_limits_measures.proofs.RunLemmas.{shown}

-- ---- `run` statements with their places and activities

-- a `run` statement without its outputs
abbrev pub placed_run : Run → PlacedRun
placed_run run = record { place = run.place; unit = run.unit }

abbrev pub placed_runs : List Run → List PlacedRun
placed_runs runs = map placed_run runs

abbrev found_of_kind : StmtKind → Place → List Run
found_of_kind = fold-StmtKind (Place → List Run) (List Run) (List Run) (List Run) kind_runs arm_runs branch_runs stmt_layer_runs

abbrev found_parts : StmtKind-F StmtKind Arm Branch Stmt → StmtKind-F (Place → List Run) (List Run) (List Run) (List Run)
found_parts = map-StmtKind StmtKind Arm Branch Stmt (Place → List Run) (List Run) (List Run) (List Run) found_of_kind runs_in_arm runs_in_branch runs_in

found_at : (place : Place) (layer : StmtKind-F StmtKind Arm Branch Stmt) → runs_in (stmt place layer) ≡ kind_runs (found_parts layer) place
found_at place layer = rw (fold-roll-Stmt, fold-roll-StmtKind) refl

abbrev named_of_kind : StmtKind → Place → List PlacedRun
named_of_kind = fold-StmtKind (Place → List PlacedRun) (List PlacedRun) (List PlacedRun) (List PlacedRun) placed.kind_runs placed.arm_runs placed.branch_runs placed.stmt_layer_runs

abbrev named_parts : StmtKind-F StmtKind Arm Branch Stmt → StmtKind-F (Place → List PlacedRun) (List PlacedRun) (List PlacedRun) (List PlacedRun)
named_parts = map-StmtKind StmtKind Arm Branch Stmt (Place → List PlacedRun) (List PlacedRun) (List PlacedRun)
    (List PlacedRun) named_of_kind placed.runs_in_arm placed.runs_in_branch placed.runs_in

named_at : (place : Place) (layer : StmtKind-F StmtKind Arm Branch Stmt) → placed.runs_in (stmt place layer) ≡ placed.kind_runs (named_parts layer) place
named_at place layer = rw (fold-roll-Stmt, fold-roll-StmtKind) refl

abbrev Agrees : Stmt → Type 0
Agrees s = placed_runs (runs_in s) ≡ placed.runs_in s

-- parts one after another
in_order : {A : Type 0} (f : A → List Run) (g : A → List PlacedRun) (xs : List A) → All (λ x. placed_runs (f x) ≡ g x) xs →
    placed_runs (joined (map f xs)) ≡ joined (map g xs)
in_order f g [] all = refl
in_order f g (x ∷ xs) all =
    map-append placed_run (f x) (joined (map f xs))
    ∙ (λ i. All-head (λ x. placed_runs (f x) ≡ g x) x xs all i ++ in_order f g xs (All-tail (λ x. placed_runs (f x) ≡ g x) x xs all) i)

block : (body : List Stmt) → Each Agrees body → placed_runs (joined (map runs_in body)) ≡ joined (map placed.runs_in body)
block body each = in_order runs_in placed.runs_in body each

in_arm : (arm : Arm) → Each Agrees (out-Arm arm).body → placed_runs (runs_in_arm arm) ≡ placed.runs_in_arm arm
in_arm arm each =
    ap placed_runs (fold_out-Arm (Place → List Run) (List Run) (List Run) (List Run) kind_runs arm_runs branch_runs stmt_layer_runs arm)
    ∙ block (out-Arm arm).body each
    ∙ sym (fold_out-Arm (Place → List PlacedRun) (List PlacedRun) (List PlacedRun) (List PlacedRun) placed.kind_runs placed.arm_runs placed.branch_runs placed.stmt_layer_runs arm)

in_branch : (branch : Branch) → Each Agrees (out-Branch branch).body → placed_runs (runs_in_branch branch) ≡ placed.runs_in_branch branch
in_branch branch each =
    ap placed_runs (fold_out-Branch (Place → List Run) (List Run) (List Run) (List Run) kind_runs arm_runs branch_runs stmt_layer_runs branch)
    ∙ block (out-Branch branch).body each
    ∙ sym (fold_out-Branch (Place → List PlacedRun) (List PlacedRun) (List PlacedRun) (List PlacedRun) placed.kind_runs placed.arm_runs placed.branch_runs placed.stmt_layer_runs branch)

arms_agree : (arms : List Arm) → EachArm Agrees arms → placed_runs (joined (map runs_in_arm arms)) ≡ joined (map placed.runs_in_arm arms)
arms_agree arms each = in_order runs_in_arm placed.runs_in_arm arms
    (shown (λ arm. Each Agrees (out-Arm arm).body) (λ arm. placed_runs (runs_in_arm arm) ≡ placed.runs_in_arm arm) in_arm arms each)

branches_agree : (branches : List Branch) → EachBranch Agrees branches →
    placed_runs (joined (map runs_in_branch branches)) ≡ joined (map placed.runs_in_branch branches)
branches_agree branches each =
    in_order runs_in_branch placed.runs_in_branch branches
    (shown (λ branch. Each Agrees (out-Branch branch).body)
    (λ branch. placed_runs (runs_in_branch branch) ≡ placed.runs_in_branch branch) in_branch branches each)

same : (place : Place) (layer : StmtKind-F StmtKind Arm Branch Stmt) →
    placed_runs (kind_runs (found_parts layer) place) ≡ placed.kind_runs (named_parts layer) place → Agrees (stmt place layer)
same place layer is = ap placed_runs (found_at place layer) ∙ is ∙ sym (named_at place layer)

agree : (s : Stmt) → Agrees s
agree = induct Agrees (record {
  declare = λ place k initial. same place (StmtKind-F.Declare k initial) refl;
  assign = λ place path e. same place (StmtKind-F.Assign path e) refl;
  call = λ place f inputs outputs. same place (StmtKind-F.Call f inputs outputs) refl;
  await = λ place e. same place (StmtKind-F.Await e) refl;
  run = λ place target a inputs outputs. same place (StmtKind-F.Run target a inputs outputs) refl;
  branching = λ place arms other in_arms in_other. same place (StmtKind-F.If arms other)
      (map-append placed_run (joined (map runs_in_arm arms)) (joined (map runs_in other))
      ∙ (λ i. arms_agree arms in_arms i ++ block other in_other i));
  cobegin = λ place branches each. same place (StmtKind-F.Cobegin branches) (branches_agree branches each);
  guarded = λ place guard e body each. same place (StmtKind-F.When guard e body) (block body each);
  repeat = λ place body each. same place (StmtKind-F.Repeat body) (block body each);
  until = λ place body e each. same place (StmtKind-F.Until body e) (block body each);
  while = λ place e body each. same place (StmtKind-F.While e body) (block body each);
  returns = λ place e. same place (StmtKind-F.Return e) refl;
})

pub all_agree : (body : List Stmt) → placed_runs (joined (map runs_in body)) ≡ joined (map placed.runs_in body)
all_agree body = block body (λ k d within. agree (get_or body k d))

-- ---- one for each place

filtered : (place : Place) (b : Bool) (run : Run) (rest : List Run) →
    placed_runs (cond b (run ∷ rest) rest) ≡ cond b (placed_run run ∷ placed_runs rest) (placed_runs rest)
filtered place true run rest = refl
filtered place false run rest = refl

filter_placed : (place : Place) (runs : List Run) → placed_runs (filter (λ (other : Run). not (same_place place other.place)) runs)
    ≡ filter (λ (other : PlacedRun). not (same_place place other.place)) (placed_runs runs)
filter_placed place [] = refl
filter_placed place (run ∷ rest) =
    filtered place (not (same_place place run.place)) run (filter (λ (other : Run). not (same_place place other.place)) rest)
    ∙ ap (λ more. cond (not (same_place place run.place)) (placed_run run ∷ more) more) (filter_placed place rest)

once_placed : (runs : List Run) → placed_runs (one_a_place runs) ≡ placed.one_a_place (placed_runs runs)
once_placed [] = refl
once_placed (run ∷ rest) =
    ap (λ more. placed_run run ∷ more) (filter_placed run.place (one_a_place rest)
    ∙ ap (filter (λ (other : PlacedRun). not (same_place run.place other.place))) (once_placed rest))

-- the activities of the `run` statements of which one counts at each place
abbrev pub units_of : List Run → List ℕ
units_of runs = map (λ (run : Run). run.unit) runs

pub units_placed : (runs : List Run) → units_of runs ≡ placed.units_of (placed_runs runs)
units_placed [] = refl
units_placed (run ∷ rest) = ap (λ units. run.unit ∷ units) (units_placed rest)

-- all `run` statements of a unit run its activities
pub all_named : (unit : UnitDef) → units_of (joined (map runs_in unit.body)) ≡ activities_run unit
all_named unit = units_placed (joined (map runs_in unit.body)) ∙ ap placed.units_of (all_agree unit.body)

-- the `run` statements of which one counts at each place run the activities by place
pub named : (unit : UnitDef) → units_of (runs_of unit) ≡ activities_by_place unit
named unit =
    units_placed (runs_of unit)
    ∙ ap placed.units_of (once_placed (joined (map runs_in unit.body)) ∙ ap placed.one_a_place (all_agree unit.body))

-- ---- instances

below_long : (alone : ℕ → List Instance) (n : ℕ) (runs : List Run) →
    length (instances_below alone n runs) ≡ total (map (λ k. length (alone k)) (units_of runs))
below_long alone n [] = refl
below_long alone n (run ∷ rest) =
    let inner = map (called_from n run) (alone run.unit) in
    let first = length-map (alone run.unit) (called_from n run) in
    let more = below_long alone (n + length inner) rest in
    let both = length-append inner (instances_below alone (n + length inner) rest) in
    omega arith

one_more : (a b : ℕ) → a ≡ b → suc a ≡ 1 + b
one_more a b is = omega arith

-- what is known of each of them
each_is : (f g : ℕ → ℕ) (xs : List ℕ) → All (λ x. f x ≡ g x) xs → total (map f xs) ≡ total (map g xs)
each_is f g [] all = refl
each_is f g (x ∷ xs) all = λ i. All-head (λ x. f x ≡ g x) x xs all i + each_is f g xs (All-tail (λ x. f x ≡ g x) x xs all) i

module _ (adds : InstancesAdd) (none : MissingIsNothing) (units : List UnitDef) (earlier : UsesEarlier units) where
  -- a unit's own instance, and those below it
  abbrev opened : ℕ → ℕ → UnitDef → List Instance
  opened n k unit = record { unit = k; depth = 0; origin = None } ∷ instances_below (expanded units n) 1 (runs_of unit)

  opened_at : (n k : ℕ) (found : Option UnitDef) → slice_get units k ≡ found → expanded units (suc n) k ≡ unwrap_or (option_map (opened n k) found) []
  opened_at n k found is = ap (λ (found : Option UnitDef). unwrap_or (option_map (opened n k) found) []) is

  none_there : (n k : ℕ) → slice_get units k ≡ None → length (expanded units (suc n) k) ≡ 0
  none_there n k is = ap length (opened_at n k None is)

  -- a unit with what it expands to
  expanded_at : (n k : ℕ) (unit : UnitDef) → slice_get units k ≡ Some unit
      → length (expanded units (suc n) k) ≡ 1 + total (map (λ j. length (expanded units n j)) (units_of (runs_of unit)))
  expanded_at n k unit is =
      ap length (opened_at n k (Some unit) is) ∙ one_more (length (instances_below (expanded units n) 1 (runs_of unit)))
      (total (map (λ j. length (expanded units n j)) (units_of (runs_of unit)))) (below_long (expanded units n) 1 (runs_of unit))

  missing : (k : ℕ) → slice_get units k ≡ None → instances_at units k ≡ 0
  missing k is =
      ⊎_elim
      (λ (found : (unit : UnitDef) × (k < length units) × (slice_get units k ≡ Some unit) × (get_or units k unit ≡ unit)). absurd
      (none-some found.0 (sym is ∙ found.2)))
      (λ (past : (length units ≤ k) × (slice_get units k ≡ None)). (none [] units k past.0).0)
      (slice_get_cases units k).1

  count : (n k : ℕ) (found : Option UnitDef) → k < n → slice_get units k ≡ found → length (expanded units n k) ≡ instances_at units k
  count zero k found below is = absurd (omega arith)
  count (suc n) k None below is = none_there n k is ∙ sym (missing k is)
  count (suc n) k (Some unit) below is =
      let its : UsesEarlierOnly k unit = earlier k unit is in
      let each : All (λ j. length (expanded units n j) ≡ instances_at units j) (activities_by_place unit) =
      shown (λ j. j < k) (λ j. length (expanded units n j) ≡ instances_at units j)
      (λ j before. count n j (slice_get units j) (omega arith) refl) (activities_by_place unit) (placed_all (λ j. j < k) unit its.runs) in
      expanded_at n k unit is
      ∙ ap (λ runs. 1 + total (map (λ j. length (expanded units n j)) runs)) (named unit)
      ∙ ap (λ n. 1 + n) (each_is (λ j. length (expanded units n j)) (instances_at units) (activities_by_place unit) each)
      ∙ sym (adds units k unit earlier is)

-- the list of instances has as many as the number says
pub counted : InstancesAdd → MissingIsNothing → InstancesAreCounted
counted adds none units k earlier = count adds none units earlier (k + 1) k (slice_get units k) (omega arith) refl
