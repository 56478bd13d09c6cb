use Rattle.bl_top_commands.proofs.Streams.{streams_from}
use Rattle.bl_top_commands.proofs.laws.faults_count_from_before.Goals as goal

pub returns : goal.returns
returns c = streams_from
