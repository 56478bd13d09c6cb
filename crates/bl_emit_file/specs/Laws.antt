-- What is known of a program for which no rule fails, and what the C that is written of it shows.
use Rattle.std.specs.Prelude.{◌≡◌, true, List}
use Rattle.bl_tree.specs.declared.program.Program.{Program}
use Rattle.bl_tree.specs.Program.{IsWellTyped}
use Rattle.bl_effects.specs.Rules.{Passes}
use Rattle.bl_limits.specs.Rules.{Passes as KeepsLimits}
use Rattle.bl_machine_prevs.specs.Declared.{FromText}
use Rattle.bl_machine.specs.declared.machine.Activity.{Activity as InMachine}
use Rattle.bl_machine.specs.Machines.{AreActivitiesOf}
use Rattle.bl_ctext.specs.Spellable.{is_spellable}
use Rattle.bl_emit_laws.specs.Kept.{written_file}
use Rattle.bl_emit_spec.specs.Programs.{written}
use Rattle.bl_emit_spec_laws_simulation.specs.Compiled.{AreCountable}
use Rattle.bl_emit_file.specs.Merged.{AreMerged}
use Rattle.bl_emit_file.specs.Shows.{ShowsProgram}

-- the program is made of a text, and no rule fails for it. Its machine has merged blocks, and 64 bits count the variables and statements of
-- its units
pub record Known (program : Program) (machine : List InMachine) : Type 0 where
  pub well_typed : IsWellTyped program.structs program.units program.entry
  pub passes : Passes program.units
  pub limits : KeepsLimits program.structs program.units program.entry
  pub text : FromText program.units
  pub agrees : AreActivitiesOf program.units machine
  pub merged : AreMerged program.units machine
  pub countable : AreCountable program.units

-- the file written of a program that passes the rules shows the trace that its semantics allows
abbrev pub ProgramsShow : Program → Type 0
ProgramsShow program =
    (machine : List InMachine) → Known program machine →
    ShowsProgram program.structs program.units program.entry (written_file program machine)

-- the written file of a machine of the program has a spelling
abbrev pub ProgramsHaveSpelling : Program → Type 0
ProgramsHaveSpelling program =
    (machine : List InMachine) → Known program machine →
    is_spellable (written program machine).structs (written program machine).funcs ≡ true
