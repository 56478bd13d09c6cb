-- The structs of the C file of an accepted program are well formed.
use Rattle.std.specs.Prelude.{◌≡◌, ◌⊎◌, ℕ, true, false, List, [], ◌++◌, Contains, Some, slice_get, unwrap_or}
use Rattle.bl_tree.specs.declared.c.CStruct.{CStruct}
use Rattle.bl_tree.specs.declared.c.CType.TheVariants.{Struct as OfStruct}
use Rattle.bl_tree.specs.declared.program.Program.{Program}
use Rattle.bl_tree.specs.declared.text.Text.{Text}
use Rattle.bl_tree.specs.declared.tree.StructDef.{StructDef}
use Rattle.bl_tree.specs.declared.tree.Unit.{Unit as UnitDef}
use Rattle.bl_tree.specs.Program.{IsWellTyped}
use Rattle.bl_tree.specs.Words.{are_distinct}
use Rattle.bl_ctext_semantics.specs.Faults.{struct_faults_after, struct_table}
use Rattle.bl_ctext_semantics.specs.Tables.{no_entries}
use Rattle.bl_limits.specs.Rules.{Passes}
use Rattle.bl_machine.specs.declared.machine.Activity.{Activity as InMachine}
use Rattle.bl_machine.specs.Machines.{AreActivitiesOf}
use Rattle.bl_emit_structs.specs.Structs.{each_once, structs_for}
use Rattle.bl_emit_acts_laws_wellformed.specs.Formed.Declared.{AreDeclared}
use Rattle.bl_emit_structs_laws_wellformed.specs.Names.{are_known, is_known, names_of}
use Rattle.bl_emit_functions.specs.Functions.{memory_name}
use Rattle.bl_emit_spec.specs.Names.{frame_name}
use Rattle.bl_emit_spec.specs.Lent.{lent_unit}
use Rattle.bl_emit_spec.specs.Programs.{ProgramParts, interface_structs, needed_units, parts_from, written_of}
use Rattle.bl_emit_spec_laws_wellformed_bodies.specs.Structs.Parts.{IsPart}

-- what is written of a program's units with a machine
abbrev pub program_parts : List StructDef → List UnitDef → ℕ → List InMachine → ProgramParts
program_parts structs units entry machine = parts_from structs [] [] units (needed_units units entry) machine

-- the names of the structs of a program's types
abbrev pub type_names : List StructDef → List UnitDef → List Text
type_names structs units = names_of (each_once [] (structs_for structs units))

-- the structs of the units that the entry needs
pub record PartsStand (structs : List StructDef) (units : List UnitDef) (entry : ℕ) (parts : ProgramParts) : Type 0 where
  -- each struct uses only structs before it and structs of types
  pub known : are_known (type_names structs units) parts.structs ≡ true
  -- each struct is for what a unit remembers, or for where it rests
  pub each : (s : CStruct) → Contains parts.structs s → IsPart structs units memory_name s ⊎ IsPart structs units frame_name s
  -- no two structs have one name
  pub differ : are_distinct (names_of parts.structs) ≡ true
  -- the structs of the entry are among them
  pub frame : (unit : UnitDef) → slice_get units entry ≡ Some unit →
      is_known (type_names structs units ++ names_of parts.structs) (OfStruct (frame_name unit.name)) ≡ true
  pub memory : (unit : UnitDef) → slice_get units entry ≡ Some unit → slice_get parts.remember entry ≡ Some true →
      is_known (type_names structs units ++ names_of parts.structs) (OfStruct (memory_name unit.name)) ≡ true

-- the structs of units stand, in a typed program with a machine of it, where rule Cells holds
abbrev pub PartsAreSound : List StructDef → List UnitDef → ℕ → Type 0
PartsAreSound structs units entry =
    (machine : List InMachine) → IsWellTyped structs units entry → Passes structs units entry → AreActivitiesOf units machine →
    PartsStand structs units entry (program_parts structs units entry machine)

-- ---- the whole file

-- the structs of a file, some of which are those of needed units and those of the interface
pub record FileStructs (structs : List StructDef) (units : List UnitDef) (file of_units last : List CStruct) : Type 0 where
  -- no clause fails in the structs
  pub sound : struct_faults_after no_entries no_entries file ≡ []
  -- the structs are declared that the program's types need, that units have, and that the interface has
  pub types : AreDeclared (struct_table file) (structs_for structs units)
  pub parts : AreDeclared (struct_table file) of_units
  pub interface : AreDeclared (struct_table file) last

-- the file written of a typed program with a machine of it, whose entry has the inputs of a unit lent, declares its structs, where rules Frames and Cells hold
abbrev pub FilesDeclare : Program → Type 0
FilesDeclare program =
    (machine : List InMachine) (unit : UnitDef) → IsWellTyped program.structs program.units program.entry →
    Passes program.structs program.units program.entry → AreActivitiesOf program.units machine →
    slice_get program.units program.entry ≡ Some (lent_unit unit) →
    let parts = program_parts program.structs program.units program.entry machine in
    FileStructs program.structs program.units (written_of program unit machine).structs parts.structs
    (interface_structs program.structs unit (unwrap_or (slice_get parts.remember program.entry) false))
