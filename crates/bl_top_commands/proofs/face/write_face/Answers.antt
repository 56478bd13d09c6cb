-- What stands on `out` at each end.
use Rattle.std.proofs.Common.{◌∙◌}
use Rattle.bl_top_commands.proofs.Ends.{writes_as, wrote_nothing}
use Rattle.bl_top_commands.proofs.face.write_face.Goals as goal
use Rattle.bl_rows_stream.proofs.Takings.{kept-same}

pub returns-in-Err-clause-writes : goal.returns-in-Err-clause-writes
returns-in-Err-clause-writes g c = wrote_nothing _ _ _ c.plain.ensures (kept-same _)

pub returns-in-Ok-clause-writes : goal.returns-in-Ok-clause-writes
returns-in-Ok-clause-writes g c = writes_as _ _ _ _ (λ text is. is ∙ c.deref.ensures.value ∙ c.in-Ok.ensures) c.write_result.ensures.writes
