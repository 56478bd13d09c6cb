-- Turns of compiled programs leave typed stores typed.
use Rattle.std.specs.Prelude.{ℕ, List}
use Rattle.bl_tree.specs.declared.tree.StructDef.{StructDef}
use Rattle.bl_tree.specs.declared.tree.Unit.{Unit as UnitDef}
use Rattle.bl_machine.specs.declared.machine.Activity.{Activity as InMachine}
use Rattle.bl_emit_spec_laws.specs.Calls.Built.{Activities}
use Rattle.bl_emit_spec_laws.specs.Passes.{TurnsFit}

-- turns keep stores and copies typed, in each program
abbrev pub AllTurnsFit : Type 0
AllTurnsFit =
    (structs : List StructDef) (units : List UnitDef) (entry : ℕ) (machine : List InMachine) (activities : Activities) →
    TurnsFit structs units entry machine activities
