use Rattle.bl_emit_laws.proofs.OnShows.{written_shows}
use Rattle.bl_emit_laws.proofs.shows.written_shows.Goals as goal

pub returns : goal.returns
returns c program =
    written_shows program (c.frames_are_declared.ensures program) c.runs_are_found.ensures (c.files_end.ensures program) (c.needed_closed.ensures program)
    (c.needed_simulate.ensures program) c.states_are_kept.ensures c.files_stand.ensures c.files_show.ensures
