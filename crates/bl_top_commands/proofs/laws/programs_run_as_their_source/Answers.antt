use Rattle.bl_top_commands.proofs.Courses.{runs_as_program}
use Rattle.bl_top_commands.proofs.laws.programs_run_as_their_source.Goals as goal

pub returns : goal.returns
returns c = runs_as_program
