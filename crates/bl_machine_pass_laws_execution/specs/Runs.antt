-- Runs each tick of which is one pass by rules, from frames and a store.
use Rattle.std.specs.Prelude.{◌≡◌, ℕ, ℤ, true, false, List, [], ◌∷◌, length, Some, ⊤}
use Rattle.bl_tree.specs.declared.row.Last.TheVariants.{Open, Ended as HasEnded, Trap as HasTrapped}
use Rattle.bl_tree.specs.declared.row.Trace.{Trace}
use Rattle.bl_tree.specs.declared.tree.StructDef.{StructDef}
use Rattle.bl_tree.specs.declared.tree.Unit.{Unit as UnitDef}
use Rattle.bl_tree.specs.Program.{IsWellTyped}
use Rattle.bl_effects.specs.Rules.{Passes}
use Rattle.bl_graph_nodes.specs.Nodes.{Node}
use Rattle.bl_machine_prevs.specs.Declared.{FromText}
use Rattle.bl_cause.specs.Accepted.{AcceptedProgram, IsAccepted}
use Rattle.bl_ctree.specs.Instances.{Setting, setting_of, unit_at}
use Rattle.bl_ctree.specs.Store.{Store, first_store, outputs_row, view_at, woken_store}
use Rattle.bl_machine.specs.declared.machine.Activity.{Activity}
use Rattle.bl_machine.specs.Machines.{AreActivitiesOf}
use Rattle.bl_machine.specs.Uses.{Slots}
use Rattle.bl_machine_laws.specs.Traces.Positions.{GoBy}
use Rattle.bl_machine_laws.specs.Traces.Runs.{OneRun, no_row, row_before}
use Rattle.bl_machine_pass.specs.Registers.{Registers, with_at}
use Rattle.bl_machine_pass_laws_execution.specs.Frames.{Frames}
use Rattle.bl_machine_pass_laws_execution.specs.Fresh.Asks.{InputsFit}
use Rattle.bl_machine_pass_laws_execution.specs.Executes.{ClearsInside, Executes, PassTraps, begun_registers, resumed_registers}
use Rattle.bl_machine_pass_laws_execution.specs.Performs.{AllInContext}
use Rattle.bl_machine_pass_laws_execution.specs.Machines.{slots_at}

-- ---- runs

-- each row has no more inputs than the entry's unit has parameters
abbrev pub RowsFit : UnitDef → List (List ℤ) → Type 0
RowsFit unit [] = ⊤
RowsFit unit (row ∷ rows) = InputsFit (length row) unit × RowsFit unit rows

-- the registers with which a tick of the entry begins: where its first counter holds 0 its body begins, else it goes on
pub data TickStarts (rank : ℕ → Node → ℕ) (unit : UnitDef) (frames : Frames) : Registers → Type 0 where
  begins : frames 0 0 ≡ 0 → TickStarts rank unit frames (begun_registers rank 0 unit)
  goes_on : (frames 0 0 ≡ 0 → ⊥) → TickStarts rank unit frames (resumed_registers frames 0)

-- RuleRun w rank slots clear unit rows frames store trace: from frames and a store between ticks, a run over the rows has the trace. Each tick is one pass by
-- rules over the entry, which leaves its counters in the frames, the first of them not 0 while the body hasn't ended. It stops at the end of the rows, of the
-- program, or at a trap
pub data RuleRun (w : Setting) (rank : ℕ → Node → ℕ) (slots : ℕ → Slots) (clear : ℕ → Frames → Frames) (unit : UnitDef) :
    List (List ℤ) → Frames → Store → Trace → Type 0 where
  stays_open : {frames : Frames} {store : Store} → RuleRun w rank slots clear unit [] frames store (no_row Open)
  traps : {row : List ℤ} {rows : List (List ℤ)} {frames : Frames} {store : Store} {r : Registers} → TickStarts rank unit frames r →
      PassTraps w rank slots clear 0 0 frames (woken_store row store) (view_at w (woken_store row store) 0).now r →
      RuleRun w rank slots clear unit (row ∷ rows) frames store (no_row HasTrapped)
  ends : {row : List ℤ} {rows : List (List ℤ)} {frames : Frames} {store : Store} {r : Registers} {inner : Frames} {left : Store}
      {r' : Registers} → TickStarts rank unit frames r →
      Executes w rank slots clear 0 0 frames (woken_store row store) (view_at w (woken_store row store) 0).now r inner left r' →
      r'.over ≡ true → RuleRun w rank slots clear unit (row ∷ rows) frames store (row_before (outputs_row w left) (no_row HasEnded))
  lasts : {row : List ℤ} {rows : List (List ℤ)} {frames : Frames} {store : Store} {r : Registers} {inner : Frames} {left : Store}
      {r' : Registers} {rest : Trace} → TickStarts rank unit frames r →
      Executes w rank slots clear 0 0 frames (woken_store row store) (view_at w (woken_store row store) 0).now r inner left r' →
      r'.over ≡ false → (r'.counters 0 ≡ 0 → ⊥) → RuleRun w rank slots clear unit rows (with_at 0 r'.counters inner) left rest →
      RuleRun w rank slots clear unit (row ∷ rows) frames store (row_before (outputs_row w left) rest)

-- ---- traces

-- a run by rules over the rows has the one trace that the semantics of the program allows
pub record RunByRules (structs : List StructDef) (units : List UnitDef) (entry : ℕ) (rank : ℕ → Node → ℕ) (slots : ℕ → Slots)
    (clear : ℕ → Frames → Frames) (unit : UnitDef) (rows : List (List ℤ)) (frames : Frames) : Type 0 where
  pub one : OneRun structs units entry rank rows
  pub run : let w = setting_of structs units entry in RuleRun w rank slots clear unit rows frames (first_store w) one.trace

-- a run by rules with the one trace of a program exists, from frames in which the first counter of the entry holds 0
pub record RunsGoByRules : Type 0 where
  -- the run exists in a program that is made of a source text and passes the rules, with numbers that tell nodes and resting places
  pub runs : (structs : List StructDef) (units : List UnitDef) (entry : ℕ) (rank : ℕ → Node → ℕ) (slots : ℕ → Slots)
      (clear : ℕ → Frames → Frames) (unit : UnitDef) (rows : List (List ℤ)) (frames : Frames) →
      let w = setting_of structs units entry in
      IsWellTyped structs units entry → Passes units → FromText units → AllInContext w rank slots → ClearsInside w clear →
      unit_at w 0 ≡ Some unit → RowsFit unit rows → frames 0 0 ≡ 0 →
      RunByRules structs units entry rank slots clear unit rows frames
  -- the run exists and has that trace, with the numbers of the machine of an accepted program
  pub machines : (accepted : AcceptedProgram) (machine : List Activity) (rank : ℕ → Node → ℕ) (clear : ℕ → Frames →
      Frames) (unit : UnitDef)
      (rows : List (List ℤ)) (frames : Frames) →
      let program = accepted.program in
      let w = setting_of program.structs program.units program.entry in
      IsWellTyped program.structs program.units program.entry → IsAccepted accepted → AreActivitiesOf program.units machine → GoBy w machine rank →
      FromText program.units → ClearsInside w clear → unit_at w 0 ≡ Some unit → RowsFit unit rows → frames 0 0 ≡ 0 →
      RunByRules program.structs program.units program.entry rank (slots_at w machine) clear unit rows frames
