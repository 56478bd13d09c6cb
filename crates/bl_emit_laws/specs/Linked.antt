-- What holds of the C functions of the file that is written of a program.
use Rattle.std.specs.Prelude.{◌≡◌, ℕ, true, List, Some, codes, slice_get}
use Rattle.bl_tree.specs.declared.program.Program.{Program}
use Rattle.bl_tree.specs.declared.tree.StructDef.{StructDef}
use Rattle.bl_tree.specs.declared.tree.Unit.{Unit as UnitDef}
use Rattle.bl_tree.specs.Program.{IsWellTyped}
use Rattle.bl_ctext_semantics.specs.Meaning.{ArgumentValue, Meaning, function_c}
use Rattle.bl_ctext_semantics.specs.Memory.{Memory}
use Rattle.bl_ctext_semantics.specs.Parts.{Parts}
use Rattle.bl_ctext_semantics.specs.Tables.{Table, no_entries}
use Rattle.bl_ctext_semantics.specs.Trace.{call_from_outside}
use Rattle.bl_ctree.specs.Instances.{setting_of}
use Rattle.bl_machine.specs.declared.machine.Activity.{Activity as InMachine}
use Rattle.bl_machine.specs.Machines.{AreActivitiesOf}
use Rattle.bl_emit_acts.specs.Types.{unit_name}
use Rattle.bl_emit_functions_laws_simulation.specs.Units.{NoneOverlaps, known_after}
use Rattle.bl_emit_spec.specs.Activities.{remembers_any}
use Rattle.bl_emit_spec.specs.Lent.{lent_unit}
use Rattle.bl_emit_spec.specs.Programs.{init_function, needed_units, tick_function, written_of}
use Rattle.bl_emit_spec_laws.specs.Calls.Built.{Activities, AreBuilt}
use Rattle.bl_emit_spec_laws.specs.Calls.Calls.{ActivitySimulates}
use Rattle.bl_emit_spec_laws.specs.Calls.Laws.{ActivitiesSimulate, CompilationContext}
use Rattle.bl_emit_spec_laws.specs.Tables.Tables.{activities_of, functions_of_all, kept_where, table_of_all}

-- the table that the C functions of the units that the entry needs make
abbrev pub table_of_needed : List StructDef → List UnitDef → ℕ → Activities → Table Meaning
table_of_needed structs units entry activities =
    known_after no_entries (kept_where (needed_units units entry) (functions_of_all structs units activities))

-- the table of needed functions has, for each needed unit, the function that the table of all units has
abbrev pub NeededAreKnown : List StructDef → List UnitDef → ℕ → Type 0
NeededAreKnown structs units entry =
    (machine : List InMachine) (activities : Activities) (k : ℕ) (unit : UnitDef) → IsWellTyped structs units entry →
    AreBuilt structs units machine activities → slice_get units k ≡ Some unit → slice_get (needed_units units entry) k ≡ Some true →
    table_of_needed structs units entry activities (unit_name unit.name) ≡ table_of_all structs units activities (unit_name unit.name)

-- the functions of needed activities simulate the passes of their instances, over the table of needed functions alone
abbrev pub NeededSimulate : List StructDef → List UnitDef → ℕ → Type 0
NeededSimulate structs units entry =
    (machine : List InMachine) (activities : Activities) (u depth : ℕ) → CompilationContext structs units entry machine activities → NoneOverlaps units →
    ActivitiesSimulate structs units entry machine activities → slice_get (needed_units units entry) u ≡ Some true →
    ActivitySimulates (setting_of structs units entry) activities u (table_of_needed structs units entry activities) depth

-- the file has the functions that are written of the program with its machine, whose entry has the inputs of this unit lent
pub record IsWritten (program : Program) (machine : List InMachine) (unit : UnitDef) (file : Parts) : Type 0 where
  pub well_typed : IsWellTyped program.structs program.units program.entry
  pub agrees : AreActivitiesOf program.units machine
  pub there : slice_get program.units program.entry ≡ Some (lent_unit unit)
  pub funcs : file.funcs ≡ (written_of program unit machine).funcs

-- the start and the tick of the file run over this table of functions
pub record Enters (file : Parts) (known : Table Meaning) (unit : UnitDef) (activities : Activities) (entry : ℕ) : Type 0 where
  pub init : (passed : List ArgumentValue) (memory : Memory) →
      call_from_outside file (codes "bl_init") passed memory ≡ function_c known init_function 0 passed memory
  pub tick : (passed : List ArgumentValue) (memory : Memory) →
      call_from_outside file (codes "bl_tick") passed memory ≡ function_c known (tick_function unit (remembers_any (activities entry))) 0 passed memory

-- the start and the tick of a file do what the needed functions do, in each file written of a program
abbrev pub FilesEnter : Type 0
FilesEnter =
    (program : Program) (machine : List InMachine) (unit : UnitDef) (file : Parts) → IsWritten program machine unit file →
    Enters file
    (table_of_needed program.structs program.units program.entry (activities_of program.structs program.units machine)) unit
    (activities_of program.structs program.units machine) program.entry
