-- Runs of passes are runs that the meaning allows, and there is one over all rows.
use Rattle.std.proofs.Common.{◌≡◌, ◌⊎◌, inl, inr, ℕ, Bool, true, false, List, [], ◌∷◌, ◌++◌, Some, refl, sym, ap, ◌∙◌, subst}
use Rattle.std.specs.Prelude.{ℤ}
use Rattle.bl_tree.proofs.Basics.{true_false_any}
use Rattle.bl_tree.specs.declared.row.Last.{Last}
use Rattle.bl_tree.specs.declared.row.Last.TheVariants.{Open, Ended as HasEnded, Trap as HasTrapped}
use Rattle.bl_tree.specs.declared.row.Trace.{Trace}
use Rattle.bl_tree.specs.declared.tree.StructDef.{StructDef}
use Rattle.bl_tree.specs.declared.tree.Unit.{Unit as UnitDef}
use Rattle.bl_tree.specs.Program.{IsWellTyped}
use Rattle.bl_effects.specs.Rules.{Passes}
use Rattle.bl_graph_nodes.specs.Nodes.{Node}
use Rattle.bl_ctree.specs.Control as control
use Rattle.bl_ctree.specs.Control.{Control}
use Rattle.bl_ctree.specs.Instances.{Setting, setting_of}
use Rattle.bl_ctree.specs.Laws.{ReachedInsideIsResidual, ReachedIsResidual, StepsFollow}
use Rattle.bl_ctree.specs.Residual.{Residual}
use Rattle.bl_ctree.specs.Means as means
use Rattle.bl_ctree.specs.Means.{Allows, ShownTrace, entry_items, shown_trace}
use Rattle.bl_ctree.specs.Reaches.{Reaches, ReachesInside, after_tick, at_first}
use Rattle.bl_ctree.specs.Steps as located
use Rattle.bl_ctree.specs.Store.{Store, first_store, outputs_row, woken_store}
use Rattle.bl_ctree.specs.Ticks as ticks
use Rattle.bl_ctree.specs.Ticks.{Ended, Paused, Rests, Tick, Trapped, outcome_at, resting_outcome}
use Rattle.bl_ctree_laws.specs.Bridge.{deed_of, plain_tree}
use Rattle.bl_ctree_laws.specs.Fitted.{ReachedIsArmed}
use Rattle.bl_ctree_laws.specs.Laws.{AnswersArePlain, PlainStepsAreSteps, StepsArePlain, WakingIsPlain}
use Rattle.bl_ctree_laws.specs.Shrinks.{MayIsCould, MovingIsUnsettled}
use Rattle.bl_ctree_laws.specs.Trees.{Tree, is_nil, is_settled, woken}
use Rattle.bl_ctree_laws_confluence.specs.Deeds.Orderly.{AcceptedIsOrderly}
use Rattle.bl_ctree_laws_confluence.specs.Independent.Accepted.{AcceptedTracesAreOne}
use Rattle.bl_ctree_laws_traces.specs.Ready.Never.{ReachedLowestMayAct}
use Rattle.bl_ctree_laws_traces.specs.Ready.Ordered.{UnitsAreOrdered}
use Rattle.bl_ctree_laws_traces.proofs.OnTraces.Allowed.{trace_with}
use Rattle.bl_machine_laws.specs.Passes.Low.{LowTrap}
use Rattle.bl_machine_laws.specs.Passes.Orders.{Orders}
use Rattle.bl_machine_laws.specs.Passes.Pass.{WholePass}
use Rattle.bl_machine_laws.specs.Passes.Ticks.{TickPasses, TickTraps, TicksArePasses}
use Rattle.bl_machine_laws.proofs.OnPasses.Steadying.{pass_settles}
use Rattle.bl_machine_laws.proofs.OnPasses.Ticking.{locate, trap_there}
use Rattle.bl_machine_laws.specs.Traces.Positions.{MachinesGiveOrders}
use Rattle.bl_machine_laws.specs.Traces.Runs as runs
use Rattle.bl_machine_laws.specs.Traces.Runs.{MachinesHaveOneTrace, PassRun, RunsAreMeant, no_row, row_before}

-- ---- traces

some_last : (x y : Last) → Some x ≡ Some y → x ≡ y
some_last x y e = cc

traces_same : (a b : Trace) → shown_trace a ≡ shown_trace b → a ≡ b
traces_same a b e =
    let rows : a.rows ≡ b.rows = ap (λ (s : ShownTrace). s.rows) e in
    let last : a.last ≡ b.last = some_last a.last b.last (ap (λ (s : ShownTrace). s.last) e) in
    ap (λ rows. trace_with rows a.last) rows ∙ ap (λ last. trace_with b.rows last) last

-- ---- runs

module _ (lowest : ReachedLowestMayAct) (complete : PlainStepsAreSteps) (sound : StepsArePlain) (could : MayIsCould) (moving : MovingIsUnsettled)
    (answers : AnswersArePlain) (inside : ReachedInsideIsResidual) (between : ReachedIsResidual) (armed : ReachedIsArmed) (follow : StepsFollow)
    (waking : WakingIsPlain) (orderly : AcceptedIsOrderly) (have : TicksArePasses) (structs : List StructDef) (units : List UnitDef) (entry : ℕ)
    (rank : ℕ → Node → ℕ) (keeps : IsWellTyped structs units entry) (passes : Passes units) (orders : Orders (setting_of structs units entry) rank) where
  abbrev W : Setting
  W = setting_of structs units entry

  -- where nothing is left to do nothing may act
  still : (c : Control) → Residual W true 0 (entry_items W) c → is_settled (plain_tree c) ≡ true → located.IsStill W c
  still c is_left settled d a c' move =
      let plain = sound W true 0 (entry_items W) c d a c' is_left move in
      true_false_any (is_settled (plain_tree c)) settled
      (moving W 0 (plain_tree c) d (deed_of a) plain.label (plain_tree c')
      (could W 0 (plain_tree c) d (deed_of a) plain.label (plain_tree c') plain.moves))

  begins : (before : List (List ℤ)) (row : List ℤ) (c : Control) (store : Store) → Reaches W before c store →
      ReachesInside W before row [] (Rests (control.woken c) (woken_store row store))
  begins before row c store reached = record { tree = c; store = store; before = reached; steps = ticks.none }

  -- the tick that a pass makes
  record PassTick (row : List ℤ) (c : Control) (store : Store) (tree : Tree) (left : Store) : Type 0 where
    after : Control
    is : plain_tree after ≡ tree
    tick : Tick W row c store (Rests after left)
    settled : control.is_settled after ≡ true

  pass_tick : (before : List (List ℤ)) (row : List ℤ) (c : Control) (store : Store) → Reaches W before c store → (t : Tree) → plain_tree c ≡ t →
      (pass : WholePass W rank 0 0 (woken t) (woken_store row store)) → PassTick row c store pass.tree pass.left
  pass_tick before row c store reached t eq pass =
      let same : plain_tree (control.woken c) ≡ woken t = waking W c (between W before c store reached) ∙ ap woken eq in
      let all = locate lowest complete inside armed follow structs units entry rank keeps passes orders (orderly structs units entry keeps passes).fitted
      before row (control.woken c) (woken_store row store) [] (begins before row c store reached) same pass.steps in
      let is_left : Residual W true 0 (entry_items W) all.after = inside W before row all.taken all.after pass.left all.reaches in
      let settled : is_settled (plain_tree all.after) ≡ true = ap is_settled all.is ∙ pass_settles pass.passes in
      record {
        after = all.after;
        is = all.is;
        tick = record { actions = all.actions; maximal = record { steps = all.steps; over = still all.after is_left settled } };
        settled = sym (answers.settled W true 0 (entry_items W) all.after is_left) ∙ settled;
      }

  -- and the one that a trap ends
  trap_tick : (before : List (List ℤ)) (row : List ℤ) (c : Control) (store : Store) → Reaches W before c store → (t : Tree) → plain_tree c ≡ t →
      LowTrap W rank 0 (woken t) (woken_store row store) → Tick W row c store Trapped
  trap_tick before row c store reached t eq trap =
      let one = trap_there lowest complete inside armed follow structs units entry rank keeps passes orders
      (orderly structs units entry keeps passes).fitted before row c store (begins before row c store reached)
      (waking W c (between W before c store reached)) (subst (λ (t : Tree). LowTrap W rank 0 (woken t) (woken_store row store)) (sym eq) trap) in
      record { actions = one.actions; maximal = one.maximal }

  nil_after : (after : Control) (tree : Tree) (b : Bool) → plain_tree after ≡ tree → is_nil tree ≡ b → control.is_nil after ≡ b
  nil_after after tree b is e = sym (answers.ended after) ∙ ap is_nil is ∙ e

  ended : (after : Control) (left : Store) → control.is_nil after ≡ true → outcome_at (Rests after left) ≡ Ended
  ended after left e = ap (λ nil. resting_outcome nil (control.is_settled after)) e

  paused : (after : Control) (left : Store) → control.is_nil after ≡ false → control.is_settled after ≡ true → outcome_at (Rests after left)
      ≡ Paused
  paused after left e settled =
      ap (λ nil. resting_outcome nil (control.is_settled after)) e ∙ ap (λ settled. resting_outcome false settled) settled

  goes_on : (row : List ℤ) (rows : List (List ℤ)) (c : Control) (store : Store) (after : Control) (left : Store) (rest : ShownTrace) →
      Tick W row c store (Rests after left) → outcome_at (Rests after left) ≡ Paused → Allows W rows after left rest →
      Allows W (row ∷ rows) c store (means.row_then (outputs_row W left) rest)
  goes_on row rows c store after left rest tick waits more = means.goes_on tick waits more

  -- what a run of passes shows is allowed
  allowed : {rows : List (List ℤ)} {t : Tree} {store : Store} {trace : Trace} → PassRun W rank rows t store trace →
      (before : List (List ℤ)) (c : Control) →
      plain_tree c ≡ t → Reaches W before c store → Allows W rows c store (shown_trace trace)
  allowed runs.stays_open before c eq reached = means.stays_open
  allowed (runs.traps {row = row} {c = t} {store = store} trap) before c eq reached =
      means.traps (trap_tick before row c store reached t eq trap)
  allowed (runs.ends {row = row} {c = t} {store = store} pass nil) before c eq reached =
      let one = pass_tick before row c store reached t eq pass in
      means.ends one.tick (ended one.after pass.left (nil_after one.after pass.tree true one.is nil))
  allowed (runs.goes_on {row = row} {rows = rows} {c = t} {store = store} {rest = rest} pass nil more) before c eq reached =
      let one = pass_tick before row c store reached t eq pass in
      let waits = paused one.after pass.left (nil_after one.after pass.tree false one.is nil) one.settled in
      goes_on row rows c store one.after pass.left (shown_trace rest) one.tick waits
      (allowed more (before ++ row ∷ []) one.after one.is (after_tick reached one.tick waits refl))

  -- and there is such a run
  record Made (rows : List (List ℤ)) (c : Control) (store : Store) : Type 0 where
    trace : Trace
    made : PassRun W rank rows (plain_tree c) store trace

  abbrev FromAll : List (List ℤ) → Type 0
  FromAll rows = (before : List (List ℤ)) (c : Control) (store : Store) → Reaches W before c store → Made rows c store

  by_end : (rows : List (List ℤ)) → FromAll rows → (before : List (List ℤ)) (row : List ℤ) (c : Control) (store : Store) →
      Reaches W before c store →
      (one : TickPasses W rank row c store) (nil : Bool) → is_nil one.pass.tree ≡ nil → Made (row ∷ rows) c store
  by_end rows further before row c store reached one true e =
      record { trace = row_before (outputs_row W one.pass.left) (no_row HasEnded); made = runs.ends one.pass e }
  by_end rows further before row c store reached one false e =
      let waits = paused one.after one.pass.left (nil_after one.after one.pass.tree false one.is e) one.settled in
      let more = further (before ++ row ∷ []) one.after one.pass.left
      (after_tick reached (record { actions = one.actions; maximal = one.maximal }) waits refl) in
      record {
        trace = row_before (outputs_row W one.pass.left) more.trace;
        made = runs.goes_on one.pass e (subst (λ (t : Tree). PassRun W rank rows t one.pass.left more.trace) one.is more.made);
      }

  by_tick : (rows : List (List ℤ)) → FromAll rows → (before : List (List ℤ)) (row : List ℤ) (c : Control) (store : Store) →
      Reaches W before c store →
      TickPasses W rank row c store ⊎ TickTraps W rank row c store → Made (row ∷ rows) c store
  by_tick rows further before row c store reached (inl one) = by_end rows further before row c store reached one (is_nil one.pass.tree) refl
  by_tick rows further before row c store reached (inr trap) = record { trace = no_row HasTrapped; made = runs.traps trap.trap }

  made : (rows : List (List ℤ)) → FromAll rows
  made [] before c store reached = record { trace = no_row Open; made = runs.stays_open }
  made (row ∷ rows) before c store reached =
      by_tick rows (made rows) before row c store reached (have structs units entry rank keeps passes orders before row c store reached)

  pub meant : (rows : List (List ℤ)) (trace : Trace) → runs.RunsByPasses structs units entry rank rows trace → means.Means structs units entry rows (shown_trace trace)
  meant rows trace run = allowed run [] (control.Idle (entry_items W)) refl at_first

  pub one_run : AcceptedTracesAreOne → (rows : List (List ℤ)) → runs.OneRun structs units entry rank rows
  one_run at_most rows =
      let one = made rows [] (control.Idle (entry_items W)) (first_store W) at_first in
      let allows = meant rows one.trace one.made in
      record {
        trace = one.trace;
        runs = one.made;
        means = allows;
        only = λ shows other. at_most structs units entry rows shows (shown_trace one.trace) keeps passes other allows;
        same = λ other run. traces_same other one.trace
            (at_most structs units entry rows (shown_trace other) (shown_trace one.trace) keeps passes (meant rows other run) allows);
      }

pub runs_are_meant : ReachedLowestMayAct → PlainStepsAreSteps → StepsArePlain → MayIsCould → MovingIsUnsettled → AnswersArePlain →
    ReachedInsideIsResidual → ReachedIsResidual → ReachedIsArmed → StepsFollow → WakingIsPlain → AcceptedIsOrderly → TicksArePasses → AcceptedTracesAreOne →
    RunsAreMeant
runs_are_meant lowest complete sound could moving answers inside between armed follow waking orderly have at_most = record {
  meant = λ structs units entry rank keeps passes orders rows trace run.
      meant lowest complete sound could moving answers inside between armed follow waking orderly have structs units entry rank keeps passes orders
      rows trace run;
  one = λ structs units entry rank keeps passes orders rows.
      one_run lowest complete sound could moving answers inside between armed follow waking orderly have structs units entry rank keeps passes orders
      at_most rows;
}

-- ---- machines

pub machines_have_one_trace : UnitsAreOrdered → MachinesGiveOrders → RunsAreMeant → MachinesHaveOneTrace
machines_have_one_trace ordered give run = record {
  positions = λ accepted machine keeps is are.
      give.positions accepted.program.structs accepted.program.units accepted.program.entry machine keeps is.passes
      (ordered accepted.program.units is.no_walks) are;
  traces = λ accepted machine rank keeps is are go_by rows.
      run.one accepted.program.structs accepted.program.units accepted.program.entry rank keeps is.passes
      (give.orders accepted.program.structs accepted.program.units accepted.program.entry machine rank keeps is.passes are go_by) rows;
}
