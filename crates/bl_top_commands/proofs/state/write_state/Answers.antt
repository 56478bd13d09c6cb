-- What stands on `out` at each end.
use Rattle.bl_top_commands.proofs.Ends.{wrote_nothing}
use Rattle.bl_top_commands.proofs.Saves.{state_written}
use Rattle.bl_top_commands.proofs.state.write_state.Goals as goal
use Rattle.bl_rows_stream.proofs.Takings.{kept-same}

pub returns-in-Ok-clause-writes : goal.returns-in-Ok-clause-writes
returns-in-Ok-clause-writes g c = state_written _ _ _ _ _ _ c.in-Ok.ensures c.deref.ensures.value c.write_result.ensures.writes

pub returns-in-Err-clause-writes : goal.returns-in-Err-clause-writes
returns-in-Err-clause-writes g c = wrote_nothing _ _ _ c.plain.ensures (kept-same _)
