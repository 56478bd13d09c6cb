-- Runs of passes by rules, tick by tick beside runs of passes.
use Rattle.std.proofs.Common.{◌≡◌, ℕ, Bool, true, false, List, [], ◌∷◌, Option, Some, refl, sym, ap, ◌∙◌, subst, arith}
use Rattle.std.specs.Prelude.{ℤ, length, option_map, unwrap_or}
use Rattle.bl_tree.proofs.Basics.{same_some}
use Rattle.bl_tree.specs.declared.row.Last.TheVariants.{Open, Ended as HasEnded, Trap as HasTrapped}
use Rattle.bl_tree.specs.declared.row.Trace.{Trace}
use Rattle.bl_tree.specs.declared.tree.StructDef.{StructDef}
use Rattle.bl_tree.specs.declared.tree.Unit.{Unit as UnitDef}
use Rattle.bl_tree.specs.Program.{IsWellTyped}
use Rattle.bl_effects.specs.Rules.{Passes}
use Rattle.bl_graph_nodes.specs.Nodes.{Node}
use Rattle.bl_graph_nodes.specs.Plain.{Block, plain_body}
use Rattle.bl_machine_prevs.specs.Declared.{FromText}
use Rattle.bl_ctree.specs.Instances.{Setting, setting_of, unit_at}
use Rattle.bl_ctree.specs.Positions.{body_items}
use Rattle.bl_ctree.specs.Store.{Store, first_store, outputs_row, view_at, woken_store}
use Rattle.bl_ctree_laws.specs.Bridge.{plain_items}
use Rattle.bl_ctree_laws.specs.Laws.{StatementsArePlain}
use Rattle.bl_ctree_laws.specs.Runs.{entry_block}
use Rattle.bl_ctree_laws.specs.Trees.{Tree, Idle, do_block, is_nil, woken}
use Rattle.bl_ctree_laws_traces.specs.Progress.Accepted.{ProgramsAreCallable}
use Rattle.bl_ctree_laws_traces.specs.Progress.Laws.{BodiesFitGraph, WakingKeepsFitsGraph}
use Rattle.bl_machine.specs.Uses.{Slots}
use Rattle.bl_machine_laws.specs.Passes.Follows.{Fails, Follows}
use Rattle.bl_machine_laws.specs.Passes.Pass.{InstancesHavePasses, PassOrTrap, WholePass, comes_to_end, is_cut}
use Rattle.bl_machine_laws.proofs.OnPasses.Steadying.{woken_steady}
use Rattle.bl_machine_laws.specs.Traces.Runs as passes_run
use Rattle.bl_machine_laws.specs.Traces.Runs.{PassRun, RunsAreMeant, no_row, row_before}
use Rattle.bl_machine_pass.specs.Registers.{Registers, with_at}
use Rattle.bl_machine_pass_laws_execution.specs.Frames.{Frames}
use Rattle.bl_machine_pass_laws_execution.specs.Fresh.Asks.{InputsFit}
use Rattle.bl_machine_pass_laws_execution.specs.Fresh.Fresh.{Framed, Fresh}
use Rattle.bl_machine_pass_laws_execution.specs.Fresh.Laws.{StoresAreFresh}
use Rattle.bl_machine_pass_laws_execution.specs.Executes.{ClearsInside, PassTraps, begun_registers, resumed_registers}
use Rattle.bl_machine_pass_laws_execution.specs.Performs.{AllInContext}
use Rattle.bl_machine_pass_laws_execution.specs.Machines.{MachinesGiveContexts, slots_at}
use Rattle.bl_machine_pass_laws_execution.specs.Ticks.{Resting, TickExecuted, TicksExecute}
use Rattle.bl_machine_pass_laws_execution.specs.Runs as rules_run
use Rattle.bl_machine_pass_laws_execution.specs.Runs.{RowsFit, RuleRun, RunByRules, RunsGoByRules, TickStarts}

module _ (plain : StatementsArePlain) (begin_live : BodiesFitGraph) (callable : ProgramsAreCallable) (wake_live : WakingKeepsFitsGraph)
    (have : InstancesHavePasses) (meant : RunsAreMeant) (stores : StoresAreFresh) (ticks : TicksExecute) (structs : List StructDef)
    (units : List UnitDef) (entry : ℕ) (rank : ℕ → Node → ℕ) (slots : ℕ → Slots) (clear : ℕ → Frames → Frames) (unit : UnitDef)
    (keeps : IsWellTyped structs units entry) (passes : Passes units) (text : FromText units)
    (given : AllInContext (setting_of structs units entry) rank slots) (clears : ClearsInside (setting_of structs units entry) clear)
    (is : unit_at (setting_of structs units entry) 0 ≡ Some unit) where
  abbrev W : Setting
  W = setting_of structs units entry

  -- a tree between ticks with frames from which the next tick can be made by rules
  record Ready (c : Tree) (frames : Frames) : Type 0 where
    start : Registers
    starts : TickStarts rank unit frames start
    pass : (store : Store) → PassOrTrap W rank 0 0 (woken c) store
    made : (store : Store) (c' : Tree) (left : Store) → Framed W store → ((j : ℕ) → Fresh W store j) →
        Follows W rank 0 0 (woken c) store c' left → TickExecuted W rank slots clear 0 unit frames store start c' left
    cut : (store : Store) → Framed W store → ((j : ℕ) → Fresh W store j) → Fails W rank 0 0 (woken c) store →
        PassTraps W rank slots clear 0 0 frames store (view_at W store 0).now start

  first_ready : (frames : Frames) → frames 0 0 ≡ 0 → Ready (Idle (plain_body unit.body)) frames
  first_ready frames zero = record {
    start = begun_registers rank 0 unit;
    starts = rules_run.begins zero;
    pass = λ store.
        have structs units entry rank 0 0 unit false (do_block (plain_body unit.body)) store (given 0 unit is).paces
        (callable structs units entry keeps) (given 0 unit is).orders is (begin_live W 0 unit (callable structs units entry keeps) is)
        (woken_steady (Idle (plain_body unit.body))) (λ n h. omega arith);
    made = λ store c' left framed fresh follow.
        ticks.begins structs units entry rank slots clear 0 unit frames store c' left keeps passes text given clears is framed follow;
    cut = λ store framed fresh fail.
        ticks.begun_fails structs units entry rank slots clear 0 unit frames store keeps passes text given clears is framed fail;
  }

  later_ready : (c : Tree) (frames : Frames) → Resting W slots 0 unit frames c → Ready c frames
  later_ready c frames resting = record {
    start = resumed_registers frames 0;
    starts = rules_run.goes_on (λ zero. ticks.counts structs units entry rank slots 0 unit frames c given is resting zero);
    pass = λ store.
        have structs units entry rank 0 0 unit true (woken c) store (given 0 unit is).paces (callable structs units entry keeps)
        (given 0 unit is).orders is
        (wake_live W 0 resting.rested.stood (plain_body unit.body) c resting.rested.settled resting.rested.lives)
        (woken_steady c) (λ n h. omega arith);
    made = λ store c' left framed fresh follow.
        ticks.resumes structs units entry rank slots clear 0 unit frames c store c' left keeps passes text given clears is framed fresh resting
        follow;
    cut = λ store framed fresh fail.
        ticks.resumed_fails structs units entry rank slots clear 0 unit frames c store keeps passes text given clears is framed fresh resting fail;
  }

  -- a run of passes and one by rules that show the same
  record Both (rows : List (List ℤ)) (c : Tree) (frames : Frames) (store : Store) : Type 0 where
    trace : Trace
    passed : PassRun W rank rows c store trace
    ruled : RuleRun W rank slots clear unit rows frames store trace

  abbrev FromAll : List (List ℤ) → Type 0
  FromAll rows = (c : Tree) (frames : Frames) (store : Store) → Ready c frames → Framed W store → Both rows c frames store

  by_end : (row : List ℤ) (rows : List (List ℤ)) → FromAll rows → (c : Tree) (frames : Frames) (store : Store) (start : Registers) →
      TickStarts rank unit frames start → (pass : WholePass W rank 0 0 (woken c) (woken_store row store)) →
      TickExecuted W rank slots clear 0 unit frames (woken_store row store) start pass.tree pass.left → (nil : Bool) →
      is_nil pass.tree ≡ nil → Both (row ∷ rows) c frames store
  by_end row rows further c frames store start starts pass tick true e = record {
    trace = row_before (outputs_row W pass.left) (no_row HasEnded);
    passed = passes_run.ends pass e;
    ruled = rules_run.ends starts tick.executes (tick.over ∙ e);
  }
  by_end row rows further c frames store start starts pass tick false e =
      let next = with_at 0 tick.registers.counters tick.inner in
      let more = further pass.tree next pass.left (later_ready pass.tree next (tick.rests e)) tick.framed in
      record {
        trace = row_before (outputs_row W pass.left) more.trace;
        passed = passes_run.goes_on pass e more.passed;
        ruled = rules_run.lasts starts tick.executes (tick.over ∙ e)
            (λ zero. ticks.counts structs units entry rank slots 0 unit next pass.tree given is (tick.rests e) zero) more.ruled;
      }

  by_pass : (row : List ℤ) (rows : List (List ℤ)) → FromAll rows → (c : Tree) (frames : Frames) (store : Store) → Ready c frames →
      Framed W (woken_store row store) → ((j : ℕ) → Fresh W (woken_store row store) j) →
      PassOrTrap W rank 0 0 (woken c) (woken_store row store) → Both (row ∷ rows) c frames store
  by_pass row rows further c frames store ready framed fresh (comes_to_end pass) =
      by_end row rows further c frames store ready.start ready.starts pass
      (ready.made (woken_store row store) pass.tree pass.left framed fresh pass.follows) (is_nil pass.tree) refl
  by_pass row rows further c frames store ready framed fresh (is_cut trap fail) = record {
    trace = no_row HasTrapped;
    passed = passes_run.traps trap;
    ruled = rules_run.traps ready.starts (ready.cut (woken_store row store) framed fresh fail);
  }

  -- the row fits the unit that the entry has
  fits : (row : List ℤ) → InputsFit (length row) unit → (other : UnitDef) → unit_at W 0 ≡ Some other → InputsFit (length row) other
  fits row fit other there = subst (λ (u : UnitDef). InputsFit (length row) u) (same_some unit other (sym is ∙ there)) fit

  both : (rows : List (List ℤ)) → RowsFit unit rows → FromAll rows
  both [] fit c frames store ready framed =
      record { trace = no_row Open; passed = passes_run.stays_open; ruled = rules_run.stays_open }
  both (row ∷ rows) fit c frames store ready framed =
      by_pass row rows (both rows fit.1) c frames store ready (stores.woken W row store (fits row fit.0) framed)
      (stores.fresh W row store (λ other there. (fits row fit.0 other there).0)) (ready.pass (woken_store row store))

  block_is : plain_body unit.body ≡ entry_block W
  block_is =
      plain.blocks unit.body []
      ∙ sym (ap (λ (found : Option UnitDef). plain_items (unwrap_or (option_map (λ it. body_items it.body) found) [])) is)

  pub by_rules : (rows : List (List ℤ)) (frames : Frames) → RowsFit unit rows → frames 0 0 ≡ 0 →
      RunByRules structs units entry rank slots clear unit rows frames
  by_rules rows frames fit zero =
      let all = both rows fit (Idle (plain_body unit.body)) frames (first_store W) (first_ready frames zero) (stores.first W) in
      let one = meant.one structs units entry rank keeps passes (given 0 unit is).orders rows in
      let same : all.trace ≡ one.trace =
      one.same all.trace (subst (λ (b : Block). PassRun W rank rows (Idle b) (first_store W) all.trace) block_is all.passed) in
      record {
        one = one;
        run = subst (λ (t : Trace). RuleRun W rank slots clear unit rows frames (first_store W) t) same all.ruled;
      }

pub runs_go_by_rules : StatementsArePlain → BodiesFitGraph → ProgramsAreCallable → WakingKeepsFitsGraph → InstancesHavePasses → RunsAreMeant →
    StoresAreFresh → MachinesGiveContexts → TicksExecute → RunsGoByRules
runs_go_by_rules plain begin_live callable wake_live have meant stores machines ticks = record {
  runs = λ structs units entry rank slots clear unit rows frames keeps passes text given clears is fit zero.
      by_rules plain begin_live callable wake_live have meant stores ticks structs units entry rank slots clear unit keeps passes text given clears
      is rows frames fit zero;
  machines = λ accepted machine rank clear unit rows frames keeps is_accepted are go_by text clears is fit zero.
      by_rules plain begin_live callable wake_live have meant stores ticks accepted.program.structs accepted.program.units accepted.program.entry rank
      (slots_at (setting_of accepted.program.structs accepted.program.units accepted.program.entry) machine) clear unit keeps is_accepted.passes text
      (λ i other there. machines.each accepted.program.structs accepted.program.units accepted.program.entry machine rank i other keeps
      is_accepted.passes are go_by there)
      clears is rows frames fit zero;
}
