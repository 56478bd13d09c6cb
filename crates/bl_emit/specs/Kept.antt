-- Runs and parts as the code has them.
use Rattle.bl_emit_spec.specs.Activities.{RunAt}
use Rattle.bl_emit_spec.specs.Programs.{ProgramParts, Written}
use Rattle.bl_emit.specs.declared.runs.RunAt.{RunAt as Kept}
use Rattle.bl_emit.specs.declared.activity.Parts.{Parts as KeptParts}
use Rattle.bl_emit.specs.declared.activity.ActivityInput.{ActivityInput as KeptTold}
use Rattle.bl_emit.specs.Activities.{ActivityInput}
use Rattle.bl_machine_transitions.specs.Told.{rule_in}
use Rattle.std.specs.Prelude.{map}
use Rattle.bl_emit.specs.declared.program.Written.{Written as KeptFile}

-- a `run`
abbrev pub run_in : Kept → RunAt
run_in run = record { place = run.place; number = run.number; unit = run.unit }

-- parts of units
abbrev pub parts_in : KeptParts → ProgramParts
parts_in parts = record { structs = parts.structs; funcs = parts.funcs; remember = parts.remember }

-- a file
abbrev pub written_in : KeptFile → Written
written_in made = record { structs = made.structs; funcs = made.funcs }

-- what C of an activity is made of
abbrev pub told_in : KeptTold → ActivityInput
told_in told = record {
  structs = told.structs.now;
  earlier = told.earlier.now;
  unit = told.unit.now;
  blocks = told.blocks.now;
  rules = map rule_in told.rules.now;
  sizes = told.sizes.now;
  remember = told.remember.now;
}
