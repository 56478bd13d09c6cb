-- The C functions of all activities of a program.
use Rattle.std.specs.Prelude.{ℕ, List}
use Rattle.bl_tree.specs.declared.tree.StructDef.{StructDef}
use Rattle.bl_tree.specs.declared.tree.Unit.{Unit as UnitDef}
use Rattle.bl_limits.specs.Rules.{Passes as KeepsLimits}
use Rattle.bl_machine.specs.declared.machine.Activity.{Activity as InMachine}
use Rattle.bl_emit_spec_laws.specs.Calls.Built.{Activities}
use Rattle.bl_emit_spec_laws.specs.Calls.Laws.{ActivitiesSimulate, CompilationContext}

-- the C functions of all activities simulate the passes of their instances, in each compiled program in which rules Frames and Cells hold
abbrev pub CompiledSimulate : List StructDef → List UnitDef → ℕ → Type 0
CompiledSimulate structs units entry =
    (machine : List InMachine) (activities : Activities) → KeepsLimits structs units entry →
    CompilationContext structs units entry machine activities → ActivitiesSimulate structs units entry machine activities
