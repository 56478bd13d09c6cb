-- The passes of a tick have all its steps, so that no list of steps of one tick is longer than what the passed statements come to.
use Rattle.std.proofs.Common.{◌≡◌, ℕ, zero, suc, ◌+◌, ◌*◌, ◌<◌, ◌≤◌, Bool, true, false, List, [], ◌∷◌, map, take, length, Option, Some, None, refl, sym, ap}
use Rattle.std.proofs.Common.{◌∙◌, subst, arith}
use Rattle.std.specs.Prelude.{ℤ, option_and_then, option_map, slice_get, unwrap_or}
use Rattle.std.proofs.lemmas.List.{length-append, length-map}
use Rattle.std.proofs.Math.Nat.{mul_assoc}
use Rattle.bl_tree.specs.declared.tree.StructDef.{StructDef}
use Rattle.bl_tree.specs.declared.tree.Unit.{Unit as UnitDef}
use Rattle.bl_tree.specs.Program.{IsWellTyped, is_entry, units_stand_after}
use Rattle.bl_tree.specs.Reduce.{joined, total}
use Rattle.bl_tree.specs.Typing.{site_of}
use Rattle.bl_tree.proofs.FirstLemmas.{In, in_contains}
use Rattle.bl_effects.specs.Rules.{Passes}
use Rattle.bl_graph_nodes.specs.Nodes.{nodes_in}
use Rattle.bl_graph_nodes.specs.Plain.{Block, plain_body}
use Rattle.bl_graph_nodes.specs.Steps.{Gives, Here, StepLabel, head_of, leaf_of}
use Rattle.bl_graph.specs.Laws.{StaysWithin}
use Rattle.bl_ctree.specs.declared.instance.Instance.{Instance}
use Rattle.bl_ctree.specs.Control as control
use Rattle.bl_ctree.specs.Instances.{Setting, expanded, instances_below, runs_in, runs_of, setting_of, unit_at, unit_of}
use Rattle.bl_ctree.specs.Laws.{ReachedIsResidual, WokenTreeIsResidual}
use Rattle.bl_ctree.specs.Means.{entry_items}
use Rattle.bl_ctree.specs.Measure.{instance_steps, passes, step_statements_of, steps}
use Rattle.bl_ctree.specs.Positions.{body_items}
use Rattle.bl_ctree.specs.Reaches.{Reaches, ReachesInside}
use Rattle.bl_ctree.specs.Store.{Store, woken_store}
use Rattle.bl_ctree.specs.Ticks as ticks
use Rattle.bl_ctree_laws.specs.Bridge.{plain_items, plain_tree}
use Rattle.bl_ctree_laws.specs.Ends.{PlainTreeEnd, PlainTreeSteps, Rests, none, step, traps}
use Rattle.bl_ctree_laws.specs.Laws.{StatementsArePlain, WakingIsPlain}
use Rattle.bl_ctree_laws.specs.Residual.{PlainResidual}
use Rattle.bl_ctree_laws.specs.ResidualLaws.{StepsKeepPlainResidual}
use Rattle.bl_ctree_laws.specs.Pending.{Deed}
use Rattle.bl_ctree_laws.specs.Runs.{ListsArePlain, PlainList, ReachedInsideIsPlainResidual, entry_block, plain_end}
use Rattle.bl_ctree_laws.specs.Shrinks.{MayIsCould, Paces}
use Rattle.bl_ctree_laws.specs.Steps.{Anyway, Moves}
use Rattle.bl_ctree_laws.specs.Trees.{Call, Tree, woken}
use Rattle.bl_ctree_laws_confluence.specs.Apart.Forks.{EachForkIn}
use Rattle.bl_ctree_laws_confluence.specs.Apart.Running.{AcceptedRunsApart, RunApart}
use Rattle.bl_ctree_laws_confluence.specs.Deeds.Orderly.{AcceptedIsOrderly}
use Rattle.bl_ctree_laws_confluence.specs.Deeds.Origins.{InstancesHaveCallers}
use Rattle.bl_ctree_laws_confluence.proofs.OnApart.Members.{in_map}
use Rattle.bl_ctree_laws_traces.specs.Progress.Accepted.{AcceptedTreesFitGraphs, ProgramsAreCallable}
use Rattle.bl_ctree_laws_traces.specs.Progress.Laws.{StepsKeepFitsGraph}
use Rattle.bl_ctree_laws_traces.specs.Progress.FitsGraph.{FitsGraph}
use Rattle.bl_ctree_laws_traces.specs.Progress.Places.{AllCallable, whole}
use Rattle.bl_ctree_laws_traces.specs.Progress.Reached.{TreeFitsGraphNow}
use Rattle.bl_ctree_laws_traces.proofs.OnProgress.Acting.{region}
use Rattle.bl_ctree_laws_traces.specs.Bounded.Bounds.{AcceptedIsBounded}
use Rattle.bl_ctree_laws_traces.specs.Bounded.Differ.{LabelsDiffer, TicksDiffer}
use Rattle.bl_ctree_laws_traces.specs.Bounded.TickPasses.{Pass, StepsAreSixEach, TickStepsAreFew, TicksHavePasses, pass_of, statements_at, step_in}
use Rattle.bl_ctree_laws_traces.specs.Bounded.TickPasses.{unit_of_pass}
use Rattle.bl_ctree_laws_traces.proofs.OnBounded.Callees.{CallsAreRuns, callees_are_named, calls_earlier, one_unit_each, typed_at}
use Rattle.bl_ctree_laws_traces.proofs.OnBounded.Calls.{CalleesAreNamed, calls_in}
use Rattle.bl_ctree_laws_traces.proofs.OnBounded.Counting.{few_whole}
use Rattle.bl_ctree_laws_traces.proofs.OnBounded.Listed.{CallsEarlier, PassFound, body_passes, ends_in, listed, node_at, node_listed, own_of, own_steps}
use Rattle.bl_ctree_laws_traces.proofs.OnBounded.Listed.{pass_found, step_again, step_of, tick_passes}
use Rattle.bl_ctree_laws_traces.proofs.OnBounded.Lists.{EachOf, among_joined, each_more, joined_long, pigeons, totals_less}
use Rattle.bl_ctree_laws_traces.proofs.OnBounded.Passing.{whole_sum}
use Rattle.bl_ctree_laws_traces.proofs.OnBounded.Standing.{InnerTree, Stood, runs_in_tree, steps_stood, woken_stood}
use Rattle.bl_ctree_laws_traces.proofs.OnBounded.Statements.{FewIn, body_few}
use Rattle.bl_ctree_laws_traces.proofs.OnBounded.Tied.{left_tied}

-- ---- the steps of a tick belong to its passes

-- the pass of the step is in the list, and the step is one of it
record HasPass (units : List UnitDef) (entry : ℕ) (old : List InnerTree) (n : StepLabel) : Type 0 where
  among : In (pass_of entry n) (tick_passes units (suc entry) entry old)
  in_pass : PassFound units entry n

-- what steps of a tick keep, where these `run`s stood when it began
record GoesOn (w : Setting) (body : Block) (stood : Bool) (old : List InnerTree) (c : Tree) : Type 0 where
  live : FitsGraph w 0 c (whole stood body)
  left : PlainResidual w true 0 body c
  stands : Stood old c

module _ (could : MayIsCould) (kept : StepsKeepFitsGraph) (left_kept : StepsKeepPlainResidual) (within : (body : Block) → StaysWithin body) (w : Setting)
    (earlier : CallsEarlier w.units) (named : CalleesAreNamed w)
    (apart : (i : ℕ) (unit : UnitDef) → unit_at w i ≡ Some unit → EachForkIn RunApart (plain_body unit.body)) (pace : Paces w) (call : AllCallable w)
    (entry : ℕ) (unit : UnitDef) (found : slice_get w.units entry ≡ Some unit) (is : unit_at w 0 ≡ Some unit) (stood : Bool)
    (old : List InnerTree) where
  abbrev Goes : Tree → Type 0
  Goes c = GoesOn w (plain_body unit.body) stood old c

  abbrev Has : StepLabel → Type 0
  Has n = HasPass w.units entry old n

  carried : {c : Tree} {d : Bool} {a : Deed} {n : StepLabel} {c' : Tree} → Moves Anyway w 0 c d a n c' → Goes c → Goes c'
  carried {c} {d} {a} {n} {c'} move goes = record {
    live = kept w 0 stood (plain_body unit.body) c d a n c' pace call goes.live move;
    left = left_kept w true 0 (plain_body unit.body) c d a n c' goes.left move;
    stands = steps_stood move old goes.stands;
  }

  one_found : {c : Tree} {d : Bool} {a : Deed} {n : StepLabel} {c' : Tree} → Moves Anyway w 0 c d a n c' → Goes c → Has n
  one_found {n = n} move goes =
      let tied = left_tied w named apart unit is goes.left (apart 0 unit is) (λ t at. at) in
      let node = node_listed within stood (plain_body unit.body) (head_of n) (region move (whole stood (plain_body unit.body)) goes.live) in
      let opened : tick_passes w.units (suc entry) entry old ≡ body_passes (λ u. tick_passes w.units entry u [])
      (λ (r : InnerTree). tick_passes w.units entry r.call.unit (runs_in_tree r.tree)) entry (plain_body unit.body) old =
      ap (λ found. unwrap_or (option_map (λ (unit : UnitDef). body_passes (λ u. tick_passes w.units entry u [])
      (λ (r : InnerTree). tick_passes w.units entry r.call.unit (runs_in_tree r.tree)) entry (plain_body unit.body) old) found) []) found in
      record {
        among = subst (In (pass_of entry n)) (sym opened)
            (listed w earlier move entry (plain_body unit.body) old entry tied goes.stands (λ s inside. earlier entry unit s found inside));
        in_pass = pass_found w.units entry unit n found (step_of within w move (whole stood (plain_body unit.body)) (plain_body unit.body) goes.live tied node);
      }

  all_found : {c : Tree} {store : Store} {list : List StepLabel} {end : PlainTreeEnd} → PlainTreeSteps w c store list end → Goes c → EachOf Has list
  all_found none goes = tt
  all_found (traps {c = c} {n = n} t) goes = (one_found (could w 0 c t.answer t.deed n t.after t.moves) goes, tt)
  all_found (step {c = c} {n = n} {c' = c'} s more) goes =
      let move = could w 0 c s.answer s.deed n c' s.moves in (one_found move goes, all_found more (carried move goes))

  last_found : {c : Tree} {store : Store} {list : List StepLabel} {after : Tree} {later : Store} → PlainTreeSteps w c store list (Rests after later) →
      Goes c → {d : Bool} {a : Deed} {n : StepLabel} {c' : Tree} → Moves Anyway w 0 after d a n c' → Has n
  last_found none goes move = one_found move goes
  last_found (step {c = c} {n = n} {c' = c'} s more) goes move = last_found more (carried (could w 0 c s.answer s.deed n c' s.moves) goes) move

-- ---- the steps of passes

-- the steps of a pass through the unit with a number
abbrev steps_at : List UnitDef → ℕ → List StepLabel
steps_at units k = unwrap_or (option_map (λ (unit : UnitDef). own_steps (plain_body unit.body)) (slice_get units k)) []

abbrev pass_steps : List UnitDef → Pass → List StepLabel
pass_steps units pass = map (step_in pass) (steps_at units (unit_of_pass pass))

abbrev all_steps : List UnitDef → List Pass → List StepLabel
all_steps units all = joined (map (pass_steps units) all)

-- a step of a pass in the list is one of its steps
step_listed : (units : List UnitDef) (entry : ℕ) (all : List Pass) (n : StepLabel) → In (pass_of entry n) all → PassFound units entry n →
    In n (all_steps units all)
step_listed units entry all n at has =
    let pass : Pass = pass_of entry n in
    let own : In (own_of n) (steps_at units (unit_of_pass pass)) =
    subst (λ found. In (own_of n) (unwrap_or (option_map (λ (unit : UnitDef). own_steps (plain_body unit.body)) found) [])) (sym has.found) has.own in
    subst (λ n. In n (all_steps units all)) (step_again entry n)
    (among_joined (pass_steps units) pass (step_in pass (own_of n)) all at
    (in_map (step_in pass) (own_of n) (steps_at units (unit_of_pass pass)) own))

ends_long : (calls : List Call) →
    length (joined (map (λ (s : Call). Gives (node_at false s) ∷ Gives (node_at true s) ∷ []) calls)) ≡ 2 * length calls
ends_long [] = refl
ends_long (s ∷ calls) = let more = ends_long calls in omega arith

five_each : {A : Type 0} (f : A → ℕ) (xs : List A) → total (map (λ x. 5 * f x) xs) ≡ 5 * total (map f xs)
five_each f [] = omega arith
five_each f (x ∷ xs) = let more = five_each f xs in omega arith

module _ (structs : List StructDef) (units : List UnitDef) (entry : ℕ) (stand : units_stand_after structs [] units ≡ true) where
  few_at : (k : ℕ) (unit : UnitDef) → slice_get units k ≡ Some unit → FewIn (plain_body unit.body) (joined (map runs_in unit.body)) (step_statements_of unit)
  few_at k unit there = body_few (site_of structs (take k units) unit) unit.body (typed_at structs [] units k unit stand there)

  calls_are_runs : CallsAreRuns units
  calls_are_runs k unit there = (few_at k unit there).are

  own_few : (k : ℕ) → length (steps_at units k) ≤ 5 * statements_at (setting_of structs units entry) k
  own_few k = by_found (slice_get units k) refl
    where
      by_found : (found : Option UnitDef) → slice_get units k ≡ found →
          length (unwrap_or (option_map (λ (unit : UnitDef). own_steps (plain_body unit.body)) found) [])
          ≤ 5 * unwrap_or (option_map step_statements_of found) 0
      by_found None is = omega arith
      by_found (Some unit) is =
          let few = (few_at k unit is).few in
          let nodes = length-map (nodes_in (plain_body unit.body)) Here in
          let ends = ends_long (calls_in (plain_body unit.body)) in
          let both = length-append (map Here (nodes_in (plain_body unit.body))) (ends_in (plain_body unit.body)) in
          omega (arith, few, nodes, ends, both)

  -- passes have at most five steps for each statement
  steps_few : (all : List Pass) → length (all_steps units all)
      ≤ 5 * total (map (λ pass. statements_at (setting_of structs units entry) (unit_of_pass pass)) all)
  steps_few all =
      let w : Setting = setting_of structs units entry in
      let long = joined_long (pass_steps units) all in
      let less = totals_less (λ pass. length (pass_steps units pass)) (λ pass. 5 * statements_at w (unit_of_pass pass)) all (λ pass at.
      let same = length-map (steps_at units (unit_of_pass pass)) (step_in pass) in
      let few = own_few (unit_of_pass pass) in
      omega (arith, same, few)) in
      let five = five_each (λ pass. statements_at w (unit_of_pass pass)) all in
      omega (arith, long, less, five)

-- ---- programs

pub entry_found : (units : List UnitDef) (entry : ℕ) (found : Option UnitDef) → slice_get units entry ≡ found → is_entry found ≡ true →
    (unit : UnitDef) × (slice_get units entry ≡ Some unit)
entry_found units entry None there is = absurd cc
entry_found units entry (Some unit) there is = (unit, there)

pub root_there : (units : List UnitDef) (longest k : ℕ) (unit : UnitDef) → zero < longest → slice_get units k ≡ Some unit →
    slice_get (expanded units longest k) 0 ≡ Some (record { unit = k; depth = 0; origin = None })
root_there units zero k unit less is = absurd (omega arith)
root_there units (suc longest) k unit less is =
    ap (λ found. slice_get (unwrap_or (option_map (λ unit. record { unit = k; depth = 0; origin = None }
    ∷ instances_below (expanded units longest) 1 (runs_of unit)) found) []) 0) is

pub entry_at : (structs : List StructDef) (units : List UnitDef) (entry : ℕ) (unit : UnitDef) → slice_get units entry ≡ Some unit →
    unit_at (setting_of structs units entry) 0 ≡ Some unit
entry_at structs units entry unit there =
    ap (option_and_then (unit_of (setting_of structs units entry))) (root_there units (entry + 1) entry unit (omega arith) there) ∙ there

pub entry_is : StatementsArePlain → (w : Setting) (unit : UnitDef) → unit_at w 0 ≡ Some unit → entry_block w ≡ plain_body unit.body
entry_is plain w unit is =
    ap (λ found. plain_items (unwrap_or (option_map (λ unit. body_items unit.body) found) [])) is ∙ sym (plain.blocks unit.body [])

six_more : (h more ps pmore : ℕ) → h ≡ 6 * ps → more ≡ 6 * pmore → h + more ≡ 6 * (ps + pmore)
six_more h more ps pmore one other = omega arith

pub steps_are_six_each : StepsAreSixEach
steps_are_six_each structs units entry = six (setting_of structs units entry).instances
  where
    six : (xs : List Instance) → total (map (instance_steps (setting_of structs units entry)) xs)
        ≡ 6 * total (map (λ (x : Instance). passes (setting_of structs units entry) x.depth x * statements_at (setting_of structs units entry) x.unit) xs)
    six [] = omega arith
    six (x ∷ xs) =
        let w : Setting = setting_of structs units entry in
        six_more (instance_steps w x) (total (map (instance_steps w) xs)) (passes w x.depth x * statements_at w x.unit)
        (total (map (λ (x : Instance). passes w x.depth x * statements_at w x.unit) xs))
        (mul_assoc 6 (passes w x.depth x) (statements_at w x.unit)) (six xs)

module _ (between : ReachedIsResidual) (statements : StatementsArePlain) (waking : WakingIsPlain)
    (left_inside : ReachedInsideIsPlainResidual) (left_kept : StepsKeepPlainResidual) (could : MayIsCould) (kept : StepsKeepFitsGraph)
    (live_inside : AcceptedTreesFitGraphs) (orderly : AcceptedIsOrderly) (callable : ProgramsAreCallable) (callers : InstancesHaveCallers)
    (runs_apart : AcceptedRunsApart) (within : (body : Block) → StaysWithin body) where
  module _ (structs : List StructDef) (units : List UnitDef) (entry : ℕ) (keeps : IsWellTyped structs units entry) (passed : Passes units) where
    abbrev W : Setting
    W = setting_of structs units entry

    are : CallsAreRuns units
    are = calls_are_runs structs units entry keeps.units_stand

    earlier : CallsEarlier units
    earlier = calls_earlier structs units keeps.units_stand are

    named : CalleesAreNamed W
    named = callees_are_named callers structs units entry (one_unit_each structs units entry keeps) are

    apart : (i : ℕ) (unit : UnitDef) → unit_at W i ≡ Some unit → EachForkIn RunApart (plain_body unit.body)
    apart i unit is = runs_apart structs units entry i unit keeps passed is

    pace : Paces W
    pace = (orderly structs units entry keeps passed).paces

    call : AllCallable W
    call = callable structs units entry keeps

    module _ (rows : List (List ℤ)) (c : control.Control) (store : Store) (reached : Reaches W rows c store) where
      -- the tree with which the tick begins, and its `run`s
      abbrev C : Tree
      C = plain_tree (control.woken c)

      abbrev old : List InnerTree
      old = runs_in_tree C

      -- the unit of the entry, and what holds of the tree
      record Begins : Type 0 where
        unit : UnitDef
        found : slice_get units entry ≡ Some unit
        is : unit_at W 0 ≡ Some unit
        stood : Bool
        goes : GoesOn W (plain_body unit.body) stood old C

      begins : Begins
      begins =
          let found = entry_found units entry (slice_get units entry) refl keeps.entry_stands in
          let unit : UnitDef = found.0 in
          let is : unit_at W 0 ≡ Some unit = entry_at structs units entry unit found.1 in
          let body : entry_block W ≡ plain_body unit.body = entry_is statements W unit is in
          let begun : ReachesInside W rows [] [] (ticks.Rests (control.woken c) (woken_store [] store)) =
          record { tree = c; store = store; before = reached; steps = ticks.none } in
          let now : TreeFitsGraphNow W (entry_block W) C =
          (live_inside structs units entry keeps passed).inside rows [] [] (control.woken c) (woken_store [] store) begun in
          record {
            unit = unit;
            found = found.1;
            is = is;
            stood = now.stood;
            goes = record {
              live = subst (λ b. FitsGraph W 0 C (whole now.stood b)) body now.lives;
              left = subst (λ b. PlainResidual W true 0 b C) body (left_inside W rows [] [] (control.woken c) (woken_store [] store) begun);
              stands = subst (λ t. Stood (runs_in_tree t) t) (sym (waking W c (between W rows c store reached)))
                  (woken_stood (plain_tree c) (runs_in_tree (woken (plain_tree c))) (λ r at. at));
            };
          }

      abbrev all : List Pass
      all = tick_passes units (suc entry) entry old

      -- the passes are few
      all_few : (weight : ℕ → ℕ) → total (map (λ pass. weight (unit_of_pass pass)) all)
          ≤ total (map (λ (x : Instance). passes W x.depth x * weight x.unit) W.instances)
      all_few weight =
          let b = begins in
          let tied = left_tied W named apart b.unit b.is b.goes.left (apart 0 b.unit b.is) (λ t at. at) in
          let few = few_whole structs units are (one_unit_each structs units entry keeps) weight W refl (suc entry) entry b.unit C b.found tied in
          let one : entry + 1 ≡ suc entry = omega arith in
          let same : whole_sum structs units weight (expanded units (entry + 1) entry) ≡ whole_sum structs units weight (expanded units (suc entry) entry) =
          ap (λ n. whole_sum structs units weight (expanded units n entry)) one in
          omega (arith, few, same)

  pub ticks_have_passes : TicksHavePasses
  ticks_have_passes structs units entry keeps passed rows c store reached =
      let w : Setting = setting_of structs units entry in
      let b = begins structs units entry keeps passed rows c store reached in
      let old : List InnerTree = runs_in_tree (plain_tree (control.woken c)) in
      record {
        all = tick_passes units (suc entry) entry old;
        each = λ first labels after later steps d a n c' move.
            let has = last_found could kept left_kept within w (earlier structs units entry keeps passed) (named structs units entry keeps passed)
            (apart structs units entry keeps passed) (pace structs units entry keeps passed) (call structs units entry keeps passed) entry b.unit b.found
            b.is b.stood old steps b.goes move in
            record {
              is_there = in_contains (pass_of entry n) (tick_passes units (suc entry) entry old) has.among;
              unit = has.in_pass.unit;
              found = has.in_pass.found;
              node = in_contains (leaf_of n) (nodes_in (plain_body has.in_pass.unit.body)) has.in_pass.node;
            };
        few = all_few structs units entry keeps passed rows c store reached;
      }

  pub tick_steps_are_few : TicksDiffer → TickStepsAreFew
  tick_steps_are_few differ structs units entry keeps passed numbered rows c store reached first labels end steps =
      let w : Setting = setting_of structs units entry in
      let b = begins structs units entry keeps passed rows c store reached in
      let old : List InnerTree = runs_in_tree (plain_tree (control.woken c)) in
      let all : List Pass = tick_passes units (suc entry) entry old in
      let found = all_found could kept left_kept within w (earlier structs units entry keeps passed) (named structs units entry keeps passed)
      (apart structs units entry keeps passed) (pace structs units entry keeps passed) (call structs units entry keeps passed) entry b.unit b.found
      b.is b.stood old steps b.goes in
      let among : EachOf (λ n. In n (all_steps units all)) labels =
      each_more (HasPass units entry old) (λ n. In n (all_steps units all)) (λ n has. step_listed units entry all n has.among has.in_pass) labels found in
      let different : LabelsDiffer labels =
      differ w b.unit b.stood (plain_tree (control.woken c)) first labels end (pace structs units entry keeps passed)
      (call structs units entry keeps passed) numbered b.is b.goes.live steps in
      let fewer = pigeons labels (all_steps units all) different among in
      let few = steps_few structs units entry keeps.units_stand all in
      let all_are = all_few structs units entry keeps passed rows c store reached (statements_at w) in
      omega (arith, fewer, few, all_are)

pub accepted_is_bounded : ReachedIsResidual → WokenTreeIsResidual → ListsArePlain → StepsAreSixEach → TickStepsAreFew → AcceptedIsBounded
accepted_is_bounded between woken_left lists six few structs units entry keeps passed numbered rows row actions end r =
    let w : Setting = setting_of structs units entry in
    let plain : PlainList w (control.woken r.tree) (woken_store row r.store) actions end =
    lists w true (entry_items w) (control.woken r.tree) (woken_store row r.store) actions end
    (woken_left w r.tree (between w rows r.tree r.store r.before)) r.steps in
    let fewer = few structs units entry keeps passed numbered rows r.tree r.store r.before (woken_store row r.store) plain.labels (plain_end end)
    plain.steps in
    let long = plain.as_many in
    let all = six structs units entry in
    omega (arith, fewer, long, all)
