use Rattle.bl_rows_stream_laws.proofs.Silences.{runs-silent}
use Rattle.bl_rows_stream_laws.proofs.silent_runs.Goals as goal

pub returns : goal.returns
returns c = runs-silent
