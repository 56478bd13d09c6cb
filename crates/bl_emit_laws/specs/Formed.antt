-- The C file of a program with its machine, as a text: no clause fails in it.
use Rattle.std.specs.Prelude.{◌≡◌, false, List, [], Some, slice_get, unwrap_or}
use Rattle.bl_tree.specs.declared.c.CMember.{CMember}
use Rattle.bl_tree.specs.declared.program.Program.{Program}
use Rattle.bl_tree.specs.declared.tree.Unit.{Unit as UnitDef}
use Rattle.bl_tree.specs.Program.{IsWellTyped}
use Rattle.bl_limits.specs.Rules.{Passes}
use Rattle.bl_ctext_semantics.specs.Faults.{WellFormed, struct_faults_after, struct_table}
use Rattle.bl_ctext_semantics.specs.Parts.{parts_from as file_from}
use Rattle.bl_ctext_semantics.specs.Tables.{Table, no_entries}
use Rattle.bl_machine.specs.declared.machine.Activity.{Activity as InMachine}
use Rattle.bl_emit_structs.specs.Structs.{structs_for}
use Rattle.bl_emit_acts_laws_wellformed.specs.Formed.Declared.{AreDeclared}
use Rattle.bl_emit_spec.specs.Lent.{lent_unit}
use Rattle.bl_emit_spec.specs.Programs.{ProgramParts, interface_structs, needed_units, parts_from, written_of}
use Rattle.bl_emit_spec_laws_wellformed_bodies.specs.Lists.{AllConditions}

-- what is made of the units that the entry of a program needs
abbrev pub parts_for_entry : Program → List InMachine → ProgramParts
parts_for_entry program machine = parts_from program.structs [] [] program.units (needed_units program.units program.entry) machine

-- the structs of that file by name
abbrev pub table_of : Program → UnitDef → List InMachine → Table (Table CMember)
table_of program unit machine = struct_table (written_of program unit machine).structs

-- nothing fails in the structs of the file of a program whose entry has the ports of this unit, and each that its functions need is declared
pub record StructsSound (program : Program) (machine : List InMachine) (unit : UnitDef) : Type 0 where
  pub formed : struct_faults_after no_entries no_entries (written_of program unit machine).structs ≡ []
  pub types : AreDeclared (table_of program unit machine) (structs_for program.structs program.units)
  pub parts : AreDeclared (table_of program unit machine) (parts_for_entry program machine).structs
  pub interface : AreDeclared (table_of program unit machine)
      (interface_structs program.structs unit (unwrap_or (slice_get (parts_for_entry program machine).remember program.entry) false))

-- no clause fails in a file whose structs are sound and whose needed units meet their conditions, where rules Frames and Cells hold and the entry has the
-- inputs of a unit lent
abbrev pub FilesWellFormed : Program → Type 0
FilesWellFormed program =
    (machine : List InMachine) (unit : UnitDef) → IsWellTyped program.structs program.units program.entry →
    Passes program.structs program.units program.entry → slice_get program.units program.entry ≡ Some (lent_unit unit) →
    AllConditions program.structs program.units [] [] program.units (needed_units program.units program.entry) machine →
    StructsSound program machine unit → WellFormed (file_from (written_of program unit machine).structs (written_of program unit machine).funcs)
