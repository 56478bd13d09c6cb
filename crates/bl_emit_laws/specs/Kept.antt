-- What stands in the C file of an accepted program.
use Rattle.std.specs.Prelude.{◌≡◌, ℕ, List, ◌++◌, Some, slice_get}
use Rattle.bl_tree.specs.declared.c.CFunc.{CFunc}
use Rattle.bl_tree.specs.declared.c.CStruct.{CStruct}
use Rattle.bl_tree.specs.declared.program.Program.{Program}
use Rattle.bl_tree.specs.declared.tree.StructDef.{StructDef}
use Rattle.bl_tree.specs.declared.tree.Unit.{Unit as UnitDef}
use Rattle.bl_tree.specs.Program.{IsWellTyped}
use Rattle.bl_effects.specs.Rules.{Passes}
use Rattle.bl_ctext_semantics.specs.Parts.{Parts, parts_from}
use Rattle.bl_machine.specs.declared.machine.Activity.{Activity as InMachine}
use Rattle.bl_machine.specs.Machines.{AreActivitiesOf}
use Rattle.bl_emit_structs.specs.Structs.{structs_of}
use Rattle.bl_emit_spec.specs.Activities.{remembers_any}
use Rattle.bl_emit_spec.specs.Lent.{lent_unit}
use Rattle.bl_emit_spec.specs.Programs.{needed_units, parts_needed, written, written_of}
use Rattle.bl_emit_spec_laws.specs.Calls.Built.{Activities}
use Rattle.bl_emit_spec_laws.specs.Calls.Laws.{CompilationContext}
use Rattle.bl_emit_spec_laws_files.specs.Files.{NoneOfInterface, file_with}
use Rattle.bl_emit_spec_laws_files.specs.States.States.{FramesDeclared, RunsFound}
use Rattle.bl_emit_spec_laws.specs.Tables.Tables.{activities_of, functions_of_all, kept_where}

-- ---- the file

-- the file that is written of a program with its machine
abbrev pub written_file : Program → List InMachine → Parts
written_file program machine = parts_from (written program machine).structs (written program machine).funcs

-- the file that is written of a program's units with a machine, whose entry has the ports of a unit
abbrev pub shown_file : Program → UnitDef → List InMachine → Parts
shown_file program ports machine = parts_from (written_of program ports machine).structs (written_of program ports machine).funcs

-- the activities of a program, as their C is made
abbrev pub activities_in : Program → List InMachine → Activities
activities_in program machine = activities_of program.structs program.units machine

-- the file's structs but those of the interface: those of types, and those of needed units
abbrev pub structs_before : Program → List InMachine → List CStruct
structs_before program machine =
    structs_of program.structs program.units ++ (parts_needed program.structs program.units program.entry machine).structs

-- the file's functions but those of the interface: those of needed units
abbrev pub functions_before : Program → List InMachine → List CFunc
functions_before program machine =
    kept_where (needed_units program.units program.entry) (functions_of_all program.structs program.units (activities_in program machine))

-- ---- laws

-- the file declares the structs in which its program is kept from tick to tick
abbrev pub FramesAreDeclared : Program → Type 0
FramesAreDeclared program =
    (machine : List InMachine) (unit : UnitDef) → IsWellTyped program.structs program.units program.entry → Passes program.units →
    AreActivitiesOf program.units machine → slice_get program.units program.entry ≡ Some (lent_unit unit) →
    FramesDeclared program.structs program.units program.entry (activities_in program machine) unit (shown_file program unit machine)

-- each `run` of a compiled program calls the unit that its node names
abbrev pub RunsAreFound : Type 0
RunsAreFound =
    (structs : List StructDef) (units : List UnitDef) (entry : ℕ) (machine : List InMachine) (activities : Activities) →
    CompilationContext structs units entry machine activities → RunsFound structs units entry

-- the file is that of its structs and functions with those of the interface behind them, which have other names
pub record FileEnds (program : Program) (machine : List InMachine) (unit : UnitDef) : Type 0 where
  pub none : NoneOfInterface (structs_before program machine) (functions_before program machine)
  pub is : shown_file program unit machine
      ≡ file_with program.structs unit (remembers_any (activities_in program machine program.entry)) (structs_before program machine)
      (functions_before program machine)

-- the file of each typed program with this entry ends with the structs and functions of the interface
abbrev pub FilesEnd : Program → Type 0
FilesEnd program =
    (machine : List InMachine) (unit : UnitDef) → IsWellTyped program.structs program.units program.entry → AreActivitiesOf program.units machine →
    slice_get program.units program.entry ≡ Some (lent_unit unit) → FileEnds program machine unit
