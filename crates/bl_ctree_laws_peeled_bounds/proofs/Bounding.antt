-- No tick of a program has more steps than six for each statement that the program with activities peeled passes.
use Rattle.std.proofs.Common.{◌≡◌, ℕ, ℤ, ◌+◌, ◌*◌, ◌<◌, ◌≤◌, true, List, [], ◌∷◌, ◌++◌, take, length, Option, Some, None, refl, ap, ◌∙◌, subst}
use Rattle.std.proofs.Common.{arith}
use Rattle.std.specs.Prelude.{option_and_then, slice_get}
use Rattle.bl_tree.specs.declared.tree.StructDef.{StructDef}
use Rattle.bl_tree.specs.declared.tree.Unit.{Unit as UnitDef}
use Rattle.bl_tree.specs.Program.{IsWellTyped}
use Rattle.bl_tree.specs.Typing.{site_of}
use Rattle.bl_tree.proofs.FirstLemmas.{In, contains_in}
use Rattle.bl_effects.specs.Rules.{Passes}
use Rattle.bl_graph_nodes.specs.Nodes.{Node}
use Rattle.bl_graph_nodes.specs.Plain.{Plain, plain_body}
use Rattle.bl_graph_nodes.specs.Steps.{StepLabel}
use Rattle.bl_graph.specs.Edges.{EdgeAll}
use Rattle.bl_graph.specs.Laws.{BranchesPart, InstantsPass}
use Rattle.bl_ctree.specs.declared.instance.Instance.{Instance}
use Rattle.bl_ctree.specs.declared.instance.Origin.{Origin}
use Rattle.bl_ctree.specs.Control as control
use Rattle.bl_ctree.specs.Control.{Control}
use Rattle.bl_ctree.specs.Instances.{Setting, instances_of, setting_of, unit_at, unit_of}
use Rattle.bl_ctree.specs.Laws.{ReachedInsideIsResidual, ReachedIsResidual, StepsFollow, StepsKeepResidual, WokenTreeIsResidual}
use Rattle.bl_ctree.specs.Means.{entry_items}
use Rattle.bl_ctree.specs.Measure.{steps}
use Rattle.bl_ctree.specs.Reaches.{Bounded, Reaches, ReachesInside}
use Rattle.bl_ctree.specs.Store.{Store, woken_store}
use Rattle.bl_ctree.specs.Ticks as ticks
use Rattle.bl_ctree_laws.specs.Bridge.{plain_tree}
use Rattle.bl_ctree_laws.specs.Ends.{PlainTreeEnd, PlainTreeStep, PlainTreeSteps, Rests, none, step}
use Rattle.bl_ctree_laws.specs.Fitted.{Fitted, ReachedIsArmed}
use Rattle.bl_ctree_laws.specs.Laws.{AnswersArePlain, PlainStepsAreSteps, StatementsArePlain, StepsArePlain, WakingIsPlain}
use Rattle.bl_ctree_laws.specs.Residual.{PlainResidual}
use Rattle.bl_ctree_laws.specs.ResidualLaws.{StepsKeepPlainResidual}
use Rattle.bl_ctree_laws.specs.Runs.{ListsArePlain, PlainList, ReachedInsideIsPlainResidual, entry_block, plain_end}
use Rattle.bl_ctree_laws.specs.Shrinks.{EndsShrink, MayIsCould}
use Rattle.bl_ctree_laws.specs.Trees.{Tree}
use Rattle.bl_ctree_laws_confluence.specs.Deeds.Orderly.{AcceptedIsOrderly}
use Rattle.bl_ctree_laws_confluence.specs.Deeds.Origins.{HasCaller, InstancesHaveCallers}
use Rattle.bl_ctree_laws_traces.specs.Bounded.Differ.{AllNumbered}
use Rattle.bl_ctree_laws_traces.specs.Bounded.TickPasses.{StepsAreSixEach, TickPasses, TickStepsAreFew, TicksHavePasses, pass_of, passed_statements}
use Rattle.bl_ctree_laws_traces.specs.Progress.Accepted.{AcceptedTreesFitGraphs, ProgramsAreCallable}
use Rattle.bl_ctree_laws_traces.specs.Progress.FitsGraph.{FitsGraph}
use Rattle.bl_ctree_laws_traces.specs.Progress.Laws.{StepsKeepFitsGraph}
use Rattle.bl_ctree_laws_traces.specs.Progress.Places.{whole}
use Rattle.bl_ctree_laws_traces.specs.Progress.Reached.{TreeFitsGraphNow}
use Rattle.bl_ctree_laws_traces.proofs.OnBounded.Callees.{CallsAreRuns, one_unit_each, typed_at}
use Rattle.bl_ctree_laws_traces.proofs.OnBounded.Statements.{body_few}
use Rattle.bl_peel.specs.Units.{UnitsPeel}
use Rattle.bl_ctree_laws_peeled.proofs.Heads.{FallsIn}
use Rattle.bl_ctree_laws_peeled.specs.Lines.{Related}
use Rattle.bl_ctree_laws_peeled.specs.Runs.{SameRuns}
use Rattle.bl_ctree_laws_peeled.specs.Settings.{SameProgram}
use Rattle.bl_ctree_laws_peeled.proofs.Programs.{first_same, row_same, same_program}
use Rattle.bl_ctree_laws_peeled.proofs.Running.{ReachToo, reach_too, woken_related}
use Rattle.bl_ctree_laws_peeled_bounds.specs.Bounds.{PeeledIsBounded}
use Rattle.bl_ctree_laws_peeled_bounds.proofs.Beginning.{falls_moves}
use Rattle.bl_ctree_laws_peeled_bounds.proofs.Heads.{heads_few, heads_by_number, listed_program}
use Rattle.bl_ctree_laws_peeled_bounds.proofs.Listing.{tick_marks, found_in, found_listed, marks_long}
use Rattle.bl_ctree_laws_peeled_bounds.proofs.Marking.{MarkedSteps, marked_steps}
use Rattle.bl_ctree_laws_peeled_bounds.proofs.Numbers.{CalleesNumbered, callees_numbered, left_numbered, unit_number_at, unit_number_of}
use Rattle.bl_ctree_laws_peeled_bounds.proofs.Pigeons.{pigeons}
use Rattle.bl_ctree_laws_peeled_bounds.proofs.Turns.{MayFall, LoopAt}
use Rattle.bl_ctree_laws_traces.proofs.OnBounded.Bounding.{entry_found, root_there, entry_is}

-- one more step at the end
steps_then : {w : Setting} {c t : Tree} {first store : Store} {labels : List StepLabel} {n : StepLabel} {t' : Tree} {store' : Store} →
    PlainTreeSteps w c first labels (Rests t store) → PlainTreeStep w t store n t' store' → PlainTreeSteps w c first (labels ++ n ∷ []) (Rests t' store')
steps_then none last = step last none
steps_then (step one more) last = step one (steps_then more last)

-- a tree of a tick: the steps that led to it, and that its `run`s name the numbers of their instances' units
record Stands (w : Setting) (unit : UnitDef) (c : Tree) (first : Store) (t : Tree) (store : Store) : Type 0 where
  labels : List StepLabel
  steps : PlainTreeSteps w c first labels (Rests t store)
  left : PlainResidual w true 0 (plain_body unit.body) t

stands_then : StepsKeepPlainResidual → MayIsCould → {w : Setting} {unit : UnitDef} {c : Tree} {first : Store} {t : Tree} {store : Store} {n : StepLabel}
    {t' : Tree} {store' : Store} → PlainTreeStep w t store n t' store' → Stands w unit c first t store → Stands w unit c first t' store'
stands_then left_kept could {w} {unit} {t = t} {n = n} {t'} one stands = record {
  labels = stands.labels ++ n ∷ [];
  steps = steps_then stands.steps one;
  left = left_kept w true 0 (plain_body unit.body) t one.answer one.deed n t' stands.left (could w 0 t one.answer one.deed n t' one.moves);
}

-- ---- the entry

-- the laws of all programs that the bound rests on
pub record TickLaws : Type 0 where
  pub pass : InstantsPass
  pub part : BranchesPart
  pub could : MayIsCould
  pub shrink : EndsShrink
  pub stays : StepsKeepFitsGraph
  pub left_kept : StepsKeepPlainResidual
  pub left_inside : ReachedInsideIsPlainResidual
  pub lists : ListsArePlain
  pub kept : StepsKeepResidual
  pub begun : WokenTreeIsResidual
  pub between : ReachedIsResidual
  pub inside : ReachedInsideIsResidual
  pub follow : StepsFollow
  pub answers : AnswersArePlain
  pub statements : StatementsArePlain
  pub sound : StepsArePlain
  pub complete : PlainStepsAreSteps
  pub armed : ReachedIsArmed
  pub waking : WakingIsPlain
  pub fit : AcceptedTreesFitGraphs
  pub orderly : AcceptedIsOrderly
  pub callable : ProgramsAreCallable
  pub callers : InstancesHaveCallers
  pub have : TicksHavePasses
  pub few : TickStepsAreFew
  pub six : StepsAreSixEach

module _ (laws : TickLaws) (structs : List StructDef) (units peeled_units : List UnitDef) (peels : UnitsPeel units peeled_units) (entry : ℕ)
    (keeps : IsWellTyped structs peeled_units entry) (rules : Passes peeled_units) (numbered : AllNumbered (setting_of structs peeled_units entry)) where
  abbrev w : Setting
  w = setting_of structs units entry

  abbrev w' : Setting
  w' = setting_of structs peeled_units entry

  abbrev heads : ℕ → List LoopAt
  heads = heads_by_number structs units peeled_units peels

  abbrev H : ℕ → Node → Plain → Type 0
  H i = MayFall (heads (unit_number_at w' i))

  program : SameProgram H w w'
  program = listed_program structs units peeled_units peels entry numbered

  are : CallsAreRuns peeled_units
  are k unit there = (body_few (site_of structs (take k peeled_units) unit) unit.body (typed_at structs [] peeled_units k unit keeps.units_stand there)).are

  numbers : CalleesNumbered w'
  numbers = callees_numbered laws.callers structs peeled_units entry (one_unit_each structs peeled_units entry keeps) are

  entry_number : (unit : UnitDef) → unit_at w' 0 ≡ Some unit → unit_number_at w' 0 ≡ entry
  entry_number unit is = by_found (slice_get (instances_of peeled_units entry) 0) refl is
    where
      by_origin : (instance : Instance) (o : Option Origin) → HasCaller peeled_units entry (instances_of peeled_units entry) 0 instance o →
          instance.unit ≡ entry
      by_origin instance None first = first.2
      by_origin instance (Some origin) called = absurd (omega (arith, called.earlier))

      by_found : (found : Option Instance) → slice_get (instances_of peeled_units entry) 0 ≡ found → option_and_then (unit_of w') found ≡ Some unit →
          unit_number_of found ≡ entry
      by_found None there is = absurd cc
      by_found (Some instance) there is = by_origin instance instance.origin (laws.callers peeled_units entry 0 instance there)

  -- ---- a tick

  module _ (rows : List (List ℤ)) (row : List ℤ) (store : Store) (tree : Control) (reached : Reaches w' rows tree store) (unit : UnitDef)
      (is : unit_at w' 0 ≡ Some unit) where
    -- the tree with which the tick of the second program begins
    abbrev begins : Tree
    begins = plain_tree (control.woken tree)

    tick_passes : TickPasses w' entry begins
    tick_passes = laws.have structs peeled_units entry keeps rules rows tree store reached

    at_once : ReachesInside w' rows row [] (ticks.Rests (control.woken tree) (woken_store row store))
    at_once = record { tree = tree; store = store; before = reached; steps = ticks.none }

    now : TreeFitsGraphNow w' (entry_block w') begins
    now = (laws.fit structs peeled_units entry keeps rules).inside rows row [] (control.woken tree) (woken_store row store) at_once

    body : entry_block w' ≡ plain_body unit.body
    body = entry_is laws.statements w' unit is

    live : FitsGraph w' 0 begins (whole now.stood (plain_body unit.body))
    live = subst (λ b. FitsGraph w' 0 begins (whole now.stood b)) body now.lives

    left : PlainResidual w' true 0 (plain_body unit.body) begins
    left = subst (λ b. PlainResidual w' true 0 b begins) body (laws.left_inside w' rows row [] (control.woken tree) (woken_store row store) at_once)

    abbrev Holds : Tree → Store → Type 0
    Holds = Stands w' unit begins (woken_store row store)

    -- a head that falls away is one of those of a pass
    kept : (c t : Tree) (there : Store) (m : StepLabel) (s : Plain) → FallsIn H 0 c t m s → FitsGraph w' 0 t (whole now.stood (plain_body unit.body)) →
        Holds t there → In (record { label = m; loop = s }) (tick_marks heads tick_passes.all)
    kept c t there m s falls fits stands =
        let one = falls_moves laws.part w' falls (whole now.stood (plain_body unit.body)) fits in
        let pass = tick_passes.each (woken_store row store) stands.labels t there stands.steps one.answer one.deed m one.after one.moves in
        let runs = left_numbered w' numbers unit is stands.left (λ t at. at) in
        found_listed heads tick_passes.all entry m s (found_in heads w' falls runs entry (entry_number unit is))
        (contains_in (pass_of entry m) tick_passes.all pass.is_there)

    tick_marked : (c : Tree) (labels : List StepLabel) (end : PlainTreeEnd) → PlainTreeSteps w c (woken_store row store) labels end → Related H 0 c begins →
        MarkedSteps w' (EdgeAll (plain_body unit.body)) (λ x. In x (tick_marks heads tick_passes.all)) c begins (woken_store row store) labels
    tick_marked c labels end steps inner =
        marked_steps laws.pass laws.part laws.could laws.shrink laws.stays (λ i n s may. may.turns) program
        (laws.orderly structs peeled_units entry keeps rules).paces
        (laws.callable structs peeled_units entry keeps) numbered unit is now.stood Holds
        (λ t there n t' later one stands. stands_then laws.left_kept laws.could one stands) (λ x. In x (tick_marks heads tick_passes.all)) kept steps inner
        live (record { labels = []; steps = none; left = left })

    -- a list of steps of the tick is no longer than six for each statement passed
    tick_few : (c : Tree) (labels : List StepLabel) (end : PlainTreeEnd) → PlainTreeSteps w c (woken_store row store) labels end → Related H 0 c begins →
        length labels ≤ 6 * passed_statements w'
    tick_few c labels end steps inner =
        let all = tick_marked c labels end steps inner in
        let own = laws.few structs peeled_units entry keeps rules numbered rows tree store reached (woken_store row store) all.own all.end all.steps in
        let fewer = pigeons all.marks (tick_marks heads tick_passes.all) all.differ all.kept in
        let long = marks_long heads tick_passes.all in
        let less = tick_passes.few (λ k. length (heads k)) in
        let more = heads_few structs units peeled_units peels entry numbered keeps.units_stand in
        let many = all.as_many in
        omega (arith, own, fewer, long, less, more, many)

  -- ---- runs

  bounded : Fitted w → Bounded (steps structs peeled_units entry) structs units entry
  bounded typed rows row actions end r =
      let found = entry_found peeled_units entry (slice_get peeled_units entry) refl keeps.entry_stands in
      let is : unit_at w' 0 ≡ Some found.0 =
      ap (option_and_then (unit_of w')) (root_there peeled_units (entry + 1) entry found.0 (omega arith) found.1) ∙ found.1 in
      let same : SameRuns w w' = record {
        program = same_program structs units peeled_units peels entry;
        first = first_same structs units peeled_units peels entry;
        rows = row_same structs units peeled_units peels entry;
        source_typed = typed;
        typed = (laws.orderly structs peeled_units entry keeps rules).fitted;
      } in
      let past : ReachToo H w' rows r.store (plain_tree r.tree) =
      reach_too laws.kept laws.begun laws.between laws.inside laws.follow laws.answers laws.statements laws.sound laws.complete laws.armed laws.waking
      program same r.before in
      let inner = woken_related laws.kept laws.begun laws.between laws.inside laws.follow laws.answers laws.statements laws.sound laws.complete laws.armed
      laws.waking program same r.before past.reached past.inner in
      let plain : PlainList w (control.woken r.tree) (woken_store row r.store) actions end =
      laws.lists w true (entry_items w) (control.woken r.tree) (woken_store row r.store) actions end
      (laws.begun w r.tree (laws.between w rows r.tree r.store r.before)) r.steps in
      let less = tick_few rows row r.store past.tree past.reached found.0 is (plain_tree (control.woken r.tree)) plain.labels (plain_end end) plain.steps
      inner in
      let most = laws.six structs peeled_units entry in
      let many = plain.as_many in
      omega (arith, less, most, many)

pub peeled_is_bounded : TickLaws → PeeledIsBounded
peeled_is_bounded laws structs units peeled_units entry peels typed keeps rules numbered =
    bounded laws structs units peeled_units peels entry keeps rules numbered typed
