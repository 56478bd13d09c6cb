-- What the lists of rules tell of a program's C is what the rules of its nodes do.
use Rattle.std.specs.Prelude.{◌≡◌, Bool, List}
use Rattle.bl_tree.specs.declared.program.Program.{Program}
use Rattle.bl_tree.specs.declared.tree.StructDef.{StructDef}
use Rattle.bl_tree.specs.declared.tree.Unit.{Unit as UnitDef}
use Rattle.bl_machine.specs.declared.machine.Activity.{Activity as InMachine}
use Rattle.bl_emit_spec.specs.Programs.{activity_of, parts_of_activity, written}
use Rattle.bl_emit.specs.Programs.{parts_told, told_of, written_told}

-- the structs and the function of an activity
abbrev pub ActivitiesAreComputed : Type 0
ActivitiesAreComputed =
    (structs : List StructDef) (earlier : List UnitDef) (remember : List Bool) (unit : UnitDef) (one : InMachine) →
    parts_told (told_of structs earlier remember unit one) ≡ parts_of_activity (activity_of structs earlier remember unit one)

-- the file of a program
abbrev pub WrittenIsComputed : Type 0
WrittenIsComputed = (program : Program) (machine : List InMachine) → written_told program machine ≡ written program machine
