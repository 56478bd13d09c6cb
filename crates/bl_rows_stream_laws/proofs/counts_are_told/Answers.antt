use Rattle.bl_rows_stream_laws.proofs.Counting.{counts-told}
use Rattle.bl_rows_stream_laws.proofs.counts_are_told.Goals as goal

pub returns : goal.returns
returns c = counts-told
