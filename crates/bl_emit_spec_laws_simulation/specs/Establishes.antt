-- What the call that a `run` makes is given.
use Rattle.std.specs.Prelude.{ℕ, List}
use Rattle.bl_tree.specs.declared.tree.StructDef.{StructDef}
use Rattle.bl_tree.specs.declared.tree.Unit.{Unit as UnitDef}
use Rattle.bl_machine.specs.declared.machine.Activity.{Activity as InMachine}
use Rattle.bl_emit_spec_laws.specs.Calls.Built.{Activities}
use Rattle.bl_emit_spec_laws_nodes.specs.Calling.{RunsEstablish, RunsStand}

-- the call of each `run` establishes what a pass of the callee begins with, if all that arguments name under a `prev` is copied
abbrev pub AllRunsEstablish : List StructDef → List UnitDef → ℕ → Type 0
AllRunsEstablish structs units entry =
    (machine : List InMachine) (activities : Activities) → RunsStand units → RunsEstablish structs units entry machine activities
