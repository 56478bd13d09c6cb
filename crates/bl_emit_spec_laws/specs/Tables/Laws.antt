-- What holds of the C functions of all units of a program.
use Rattle.std.specs.Prelude.{◌≡◌, ℕ, true, false, List, [], ◌∷◌, ◌++◌, Some, slice_get, unwrap_or}
use Rattle.bl_tree.specs.declared.program.Program.{Program}
use Rattle.bl_tree.specs.declared.tree.StructDef.{StructDef}
use Rattle.bl_tree.specs.declared.tree.Unit.{Unit as UnitDef}
use Rattle.bl_tree.specs.Program.{IsWellTyped}
use Rattle.bl_tree.specs.Typing.{is_activity}
use Rattle.bl_machine.specs.declared.machine.Activity.{Activity as InMachine}
use Rattle.bl_machine.specs.Machines.{AreActivitiesOf}
use Rattle.bl_emit_spec.specs.Activities.{remembers_any}
use Rattle.bl_emit_spec.specs.Lent.{lent_unit}
use Rattle.bl_emit_spec.specs.Programs.{init_function, needed_units, parts_from, tick_function, written_as}
use Rattle.bl_emit_spec_laws.specs.Calls.Built.{Activities, AreBuilt}
use Rattle.bl_emit_spec_laws.specs.Calls.Laws.{AllKnownUpTo}
use Rattle.bl_emit_spec_laws.specs.Tables.Tables.{activities_of, functions_of_all, kept_where, table_of_all, table_up_to}

-- the activities of a machine are built as it says
abbrev pub ActivitiesBuilt : Type 0
ActivitiesBuilt =
    (structs : List StructDef) (units : List UnitDef) (machine : List InMachine) → AreActivitiesOf units machine →
    AreBuilt structs units machine (activities_of structs units machine)

-- the table of the C functions of all units knows every unit's function, and that of the units before a position knows theirs
abbrev pub TablesKnowAll : Type 0
TablesKnowAll =
    (structs : List StructDef) (units : List UnitDef) (entry : ℕ) (machine : List InMachine) (activities : Activities) (k : ℕ) →
    IsWellTyped structs units entry → AreBuilt structs units machine activities →
    AllKnownUpTo structs units activities k (table_up_to structs units activities k)
    × AllKnownUpTo structs units activities k (table_of_all structs units activities)

-- the functions of the file that is written of a program whose entry has the ports of this unit: those of the units that the entry needs, and two more; the
-- entry remembers what it does among all units
pub record WrittenAs (program : Program) (machine : List InMachine) (unit : UnitDef) : Type 0 where
  pub remembers : unwrap_or (slice_get (parts_from program.structs [] [] program.units (needed_units program.units program.entry) machine).remember
      program.entry) false ≡ remembers_any (activities_of program.structs program.units machine program.entry)
  pub funcs : (written_as program.structs program.units program.entry unit machine).funcs
      ≡ kept_where (needed_units program.units program.entry)
      (functions_of_all program.structs program.units (activities_of program.structs program.units machine))
      ++ (init_function
      ∷ tick_function unit (remembers_any (activities_of program.structs program.units machine program.entry)) ∷ [])

-- the file written of a program with its machine, whose entry is an activity with the inputs of a unit lent, has those functions
abbrev pub WrittenIsKept : Type 0
WrittenIsKept =
    (program : Program) (machine : List InMachine) (unit : UnitDef) → AreActivitiesOf program.units machine →
    slice_get program.units program.entry ≡ Some (lent_unit unit) → is_activity unit.kind ≡ true → WrittenAs program machine unit
