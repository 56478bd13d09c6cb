-- What an instance of a program that is compiled sees after its acts, and once a target of a `run` has its result.
use Rattle.std.specs.Prelude.{ℕ, List}
use Rattle.bl_tree.specs.declared.tree.StructDef.{StructDef}
use Rattle.bl_tree.specs.declared.tree.Unit.{Unit as UnitDef}
use Rattle.bl_ctree.specs.Instances.{setting_of}
use Rattle.bl_machine.specs.declared.machine.Activity.{Activity as InMachine}
use Rattle.bl_emit_spec_laws_nodes.specs.Calling.{TargetsSeen}
use Rattle.bl_emit_spec_laws.specs.Calls.Built.{Activities}
use Rattle.bl_emit_spec_laws.specs.Calls.Laws.{CompilationContext}
use Rattle.bl_emit_spec_laws_nodes.specs.Views.{OwnSeen}

-- an instance sees the values that its act leaves, in each compiled program
abbrev pub OwnIsSeen : Type 0
OwnIsSeen =
    (structs : List StructDef) (units : List UnitDef) (entry : ℕ) (machine : List InMachine) (activities : Activities) →
    CompilationContext structs units entry machine activities → OwnSeen (setting_of structs units entry)

-- an instance sees the result of a `run` in its target, and all else as before, and so do its callees
abbrev pub TargetsAreSeen : Type 0
TargetsAreSeen =
    (structs : List StructDef) (units : List UnitDef) (entry : ℕ) (machine : List InMachine) (activities : Activities) →
    CompilationContext structs units entry machine activities → TargetsSeen (setting_of structs units entry) activities
