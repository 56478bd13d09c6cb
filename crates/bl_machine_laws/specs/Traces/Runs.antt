-- RunsByPasses each tick of which is one pass, and the traces that they show.
use Rattle.std.specs.Prelude.{◌≡◌, ℕ, ℤ, true, false, List, [], ◌∷◌}
use Rattle.bl_tree.specs.declared.row.Last.{Last}
use Rattle.bl_tree.specs.declared.row.Last.TheVariants.{Open, Ended as HasEnded, Trap as HasTrapped}
use Rattle.bl_tree.specs.declared.row.Trace.{Trace}
use Rattle.bl_tree.specs.declared.tree.StructDef.{StructDef}
use Rattle.bl_tree.specs.declared.tree.Unit.{Unit as UnitDef}
use Rattle.bl_tree.specs.Program.{IsWellTyped}
use Rattle.bl_effects.specs.Rules.{Passes}
use Rattle.bl_graph_nodes.specs.Nodes.{Node}
use Rattle.bl_cause.specs.Accepted.{AcceptedProgram, IsAccepted}
use Rattle.bl_ctree.specs.Instances.{Setting, setting_of}
use Rattle.bl_ctree.specs.Means.{Means, ShownTrace, shown_trace}
use Rattle.bl_ctree.specs.Store.{Store, first_store, outputs_row, woken_store}
use Rattle.bl_ctree_laws.specs.Runs.{entry_block}
use Rattle.bl_ctree_laws.specs.Trees.{Tree, Idle, is_nil, woken}
use Rattle.bl_machine.specs.declared.machine.Activity.{Activity}
use Rattle.bl_machine.specs.Machines.{AreActivitiesOf}
use Rattle.bl_machine_laws.specs.Passes.Low.{LowTrap}
use Rattle.bl_machine_laws.specs.Passes.Orders.{Orders}
use Rattle.bl_machine_laws.specs.Passes.Pass.{WholePass}
use Rattle.bl_machine_laws.specs.Traces.Positions.{GoBy, HasPositions}

-- ---- runs

-- no row, and how the run stands
abbrev pub no_row : Last → Trace
no_row last = record { rows = []; last = last }

-- a trace with one more row in front
abbrev pub row_before : List ℤ → Trace → Trace
row_before row rest = record { rows = row ∷ rest.rows; last = rest.last }

-- PassRun w rank rows c store trace: from a tree and a store between ticks, a run over the rows has the trace, and each tick is one pass by these numbers. It
-- stops at the end of the rows, of the program, or at a trap
pub data PassRun (w : Setting) (rank : ℕ → Node → ℕ) : List (List ℤ) → Tree → Store → Trace → Type 0 where
  stays_open : {c : Tree} {store : Store} → PassRun w rank [] c store (no_row Open)
  traps : {row : List ℤ} {rows : List (List ℤ)} {c : Tree} {store : Store} →
      LowTrap w rank 0 (woken c) (woken_store row store) → PassRun w rank (row ∷ rows) c store (no_row HasTrapped)
  ends : {row : List ℤ} {rows : List (List ℤ)} {c : Tree} {store : Store} →
      (pass : WholePass w rank 0 0 (woken c) (woken_store row store)) → is_nil pass.tree ≡ true →
      PassRun w rank (row ∷ rows) c store (row_before (outputs_row w pass.left) (no_row HasEnded))
  goes_on : {row : List ℤ} {rows : List (List ℤ)} {c : Tree} {store : Store} {rest : Trace} →
      (pass : WholePass w rank 0 0 (woken c) (woken_store row store)) → is_nil pass.tree ≡ false → PassRun w rank rows pass.tree pass.left rest →
      PassRun w rank (row ∷ rows) c store (row_before (outputs_row w pass.left) rest)

-- a run of a whole program, from its first tree and store, whose ticks are passes by these numbers
abbrev pub RunsByPasses : List StructDef → List UnitDef → ℕ → (ℕ → Node → ℕ) → List (List ℤ) → Trace → Type 0
RunsByPasses structs units entry rank rows trace =
    let w = setting_of structs units entry in PassRun w rank rows (Idle (entry_block w)) (first_store w) trace

-- ---- traces

-- a run of passes over the rows exists. All such runs have one trace, which is the only one that the semantics allows
pub record OneRun (structs : List StructDef) (units : List UnitDef) (entry : ℕ) (rank : ℕ → Node → ℕ) (rows : List (List ℤ)) : Type 0 where
  pub trace : Trace
  pub runs : RunsByPasses structs units entry rank rows trace
  pub means : Means structs units entry rows (shown_trace trace)
  pub only : (shows : ShownTrace) → Means structs units entry rows shows → shows ≡ shown_trace trace
  pub same : (other : Trace) → RunsByPasses structs units entry rank rows other → other ≡ trace

-- each run of passes has a trace that the semantics allows, and there is one over all rows. The program passes the rules, and numbers rise along all edges and
-- differ between nodes
pub record RunsAreMeant : Type 0 where
  pub meant : (structs : List StructDef) (units : List UnitDef) (entry : ℕ) (rank : ℕ → Node → ℕ) → IsWellTyped structs units entry → Passes units →
      Orders (setting_of structs units entry) rank → (rows : List (List ℤ)) (trace : Trace) → RunsByPasses structs units entry rank rows trace →
      Means structs units entry rows (shown_trace trace)
  pub one : (structs : List StructDef) (units : List UnitDef) (entry : ℕ) (rank : ℕ → Node → ℕ) → IsWellTyped structs units entry → Passes units →
      Orders (setting_of structs units entry) rank → (rows : List (List ℤ)) → OneRun structs units entry rank rows

-- the machine of each accepted program has exactly one run of passes over all rows. Its trace is the one that the semantics allows, for any numbers that fit
-- the machine, and such numbers exist
pub record MachinesHaveOneTrace : Type 0 where
  pub positions : (accepted : AcceptedProgram) (machine : List Activity) →
      let program = accepted.program in
      IsWellTyped program.structs program.units program.entry → IsAccepted accepted → AreActivitiesOf program.units machine →
      HasPositions (setting_of program.structs program.units program.entry) machine
  pub traces : (accepted : AcceptedProgram) (machine : List Activity) (rank : ℕ → Node → ℕ) →
      let program = accepted.program in
      IsWellTyped program.structs program.units program.entry → IsAccepted accepted → AreActivitiesOf program.units machine →
      GoBy (setting_of program.structs program.units program.entry) machine rank →
      (rows : List (List ℤ)) → OneRun program.structs program.units program.entry rank rows
