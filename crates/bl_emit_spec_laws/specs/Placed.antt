-- Where the blocks of an activity's C function stand.
use Rattle.std.specs.Prelude.{ℕ, List}
use Rattle.bl_tree.specs.declared.tree.StructDef.{StructDef}
use Rattle.bl_tree.specs.declared.tree.Unit.{Unit as UnitDef}
use Rattle.bl_machine.specs.declared.machine.Activity.{Activity as InMachine}
use Rattle.bl_emit_spec_laws.specs.Calls.Built.{Activities}
use Rattle.bl_emit_spec_laws.specs.Passes.{BlocksPlaced}

-- blocks stand in the order of their nodes' numbers, in each program
abbrev pub BlocksArePlaced : Type 0
BlocksArePlaced =
    (structs : List StructDef) (units : List UnitDef) (entry : ℕ) (machine : List InMachine) (activities : Activities) →
    BlocksPlaced structs units entry machine activities
