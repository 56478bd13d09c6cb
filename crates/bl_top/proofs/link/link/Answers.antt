-- How the command ends.
use Rattle.bl_top.proofs.Ends.{link_stops, link_writes}
use Rattle.bl_top.proofs.link.link.Goals as goal
use Rattle.bl_rows_stream.proofs.Takings.{kept-same}

pub returns-in-Ok-clause-ends : goal.returns-in-Ok-clause-ends
returns-in-Ok-clause-ends g c = λ notes.
    link_writes _ _ c.in-Ok.accepted.program _ _ c.in-Ok.ensures.program c.write_c.ensures.writes c.write_c.ensures.line

pub returns-in-Err-clause-ends : goal.returns-in-Err-clause-ends
returns-in-Err-clause-ends g c = λ notes. link_stops _ _ _ _ (c.in-Err.ensures.stopped _ notes) (kept-same _)
