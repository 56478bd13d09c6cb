use Rattle.bl_top_commands.proofs.Cuts.{reads_nothing}
use Rattle.bl_top_commands.proofs.laws.kept_files_are_within_limits.Goals as goal

pub returns : goal.returns
returns c = reads_nothing
