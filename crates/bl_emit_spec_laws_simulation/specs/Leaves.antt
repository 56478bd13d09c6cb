-- What the call that a `run` makes leaves.
use Rattle.std.specs.Prelude.{ℕ, List}
use Rattle.bl_tree.specs.declared.tree.StructDef.{StructDef}
use Rattle.bl_tree.specs.declared.tree.Unit.{Unit as UnitDef}
use Rattle.bl_machine.specs.declared.machine.Activity.{Activity as InMachine}
use Rattle.bl_emit_spec_laws.specs.Calls.Built.{Activities}
use Rattle.bl_emit_spec_laws_nodes.specs.Calling.{RunsLeave}

-- the call of each `run` leaves what a pass by rules of the called instance leaves, in each program
abbrev pub AllRunsLeave : Type 0
AllRunsLeave =
    (structs : List StructDef) (units : List UnitDef) (entry : ℕ) (machine : List InMachine) (activities : Activities) →
    RunsLeave structs units entry machine activities
