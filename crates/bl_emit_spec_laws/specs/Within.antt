-- Passes by rules leave each counter within the values that it may have.
use Rattle.std.specs.Prelude.{◌≡◌, ℕ, Bool, List, Some}
use Rattle.bl_tree.specs.declared.tree.StructDef.{StructDef}
use Rattle.bl_tree.specs.declared.tree.Unit.{Unit as UnitDef}
use Rattle.bl_tree.specs.declared.value.Value.{Value}
use Rattle.bl_graph_nodes.specs.Nodes.{Node}
use Rattle.bl_ctree.specs.Instances.{setting_of, unit_at}
use Rattle.bl_ctree.specs.Store.{Store}
use Rattle.bl_machine.specs.declared.machine.Activity.{Activity as InMachine}
use Rattle.bl_machine_pass.specs.Registers.{Registers, after_rule}
use Rattle.bl_machine_pass.specs.Transitions.{Transition}
use Rattle.bl_machine_pass_laws_execution.specs.Executes.{Executes, HasRule, Performs, begun_registers, resumed_registers}
use Rattle.bl_machine_pass_laws_execution.specs.Frames.{Frames}
use Rattle.bl_emit_spec_laws.specs.Calls.Built.{Activities, activity_at, cleared, rank_by, slots_by}
use Rattle.bl_emit_spec_laws.specs.Calls.Calls.{FramesWithin}
use Rattle.bl_emit_spec_laws.specs.Calls.Laws.{CompilationContext}
use Rattle.bl_emit_spec_laws.specs.Registers.Laws.{RegistersWithin}

-- no counter of an instance comes to hold more than its greatest value
pub record PassesStayWithin (structs : List StructDef) (units : List UnitDef) (entry : ℕ) (machine : List InMachine) (activities : Activities) :
    Type 0 where
  -- changes after a node's turn keep registers within their greatest values
  pub changes : (i : ℕ) (unit : UnitDef) (rule : Transition) (answer : Bool) (r : Registers) → let w = setting_of structs units entry in
      CompilationContext structs units entry machine activities → unit_at w i ≡ Some unit → HasRule (slots_by w activities) i unit rule →
      RegistersWithin (activity_at w activities i).sizes r →
      RegistersWithin (activity_at w activities i).sizes (after_rule (rank_by w activities i) rule answer r)
  -- the deed of a node keeps frames within their greatest values
  pub performs : (i : ℕ) (n : Node) (frames : Frames) (store : Store) (answer : Bool) (frames' : Frames) (left : Store) →
      let w = setting_of structs units entry in
      CompilationContext structs units entry machine activities → FramesWithin w activities frames →
      Performs w (rank_by w activities) (slots_by w activities) (cleared w) i n frames store answer frames' left → FramesWithin w activities frames'
  -- a pass keeps frames and registers within their greatest values
  pub executes : (i k : ℕ) (frames : Frames) (store : Store) (copies : List Value) (r : Registers) (frames' : Frames) (left : Store) (r' : Registers) →
      let w = setting_of structs units entry in
      CompilationContext structs units entry machine activities → FramesWithin w activities frames → RegistersWithin (activity_at w activities i).sizes r →
      Executes w (rank_by w activities) (slots_by w activities) (cleared w) i k frames store copies r frames' left r' →
      FramesWithin w activities frames' × RegistersWithin (activity_at w activities i).sizes r'
  -- registers and frames hold no more than the greatest values as a pass begins
  pub begun : (i : ℕ) (unit : UnitDef) → let w = setting_of structs units entry in
      RegistersWithin (activity_at w activities i).sizes (begun_registers (rank_by w activities) i unit)
  pub resumed : (i : ℕ) (frames : Frames) → let w = setting_of structs units entry in
      FramesWithin w activities frames → RegistersWithin (activity_at w activities i).sizes (resumed_registers frames i)
  pub cleared_within : (i : ℕ) (frames : Frames) → let w = setting_of structs units entry in
      FramesWithin w activities frames → FramesWithin w activities (cleared w i frames)

-- counters stay within their greatest values, in each program
abbrev pub AllStayWithin : Type 0
AllStayWithin =
    (structs : List StructDef) (units : List UnitDef) (entry : ℕ) (machine : List InMachine) (activities : Activities) →
    PassesStayWithin structs units entry machine activities
