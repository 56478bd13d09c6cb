-- How a run ends whose state is to be saved.
use Rattle.std.proofs.Common.{◌∙◌, sym}
use Rattle.bl_top_commands.proofs.Saves.{open_ready, saves_ended, saves_open, saves_stopped, silently}
use Rattle.bl_top_commands.proofs.state.save_over.Goals as goal
use Rattle.bl_rows_stream.proofs.Takings.{kept-same}

pub write_state-requires : goal.write_state-requires
write_state-requires g c =
    open_ready _ _ _ _ _ _ (silently c.silent_runs.ensures _ c.requires.stands _ _ _ _ c.run_silently.ensures.no_write
    c.run_silently.ensures.reported) c.in-Done.is (sym c.live.ensures ∙ c.if-live.true) c.requires.ready

pub returns-then-live-clause-saves : goal.returns-then-live-clause-saves
returns-then-live-clause-saves g c =
    saves_open _ _ _ _ _ _ _ _ (silently c.silent_runs.ensures _ c.requires.stands _ _ _ _ c.run_silently.ensures.no_write
    c.run_silently.ensures.reported) c.in-Done.is (sym c.live.ensures ∙ c.if-live.true) _ _ c.write_state.ensures.writes c.write_state.ensures.line

pub returns-in-Done-clause-saves : goal.returns-in-Done-clause-saves
returns-in-Done-clause-saves g c =
    saves_ended _ _ _ _ _ _ _ _ (silently c.silent_runs.ensures _ c.requires.stands _ _ _ _ c.run_silently.ensures.no_write
    c.run_silently.ensures.reported) c.in-Done.is (sym c.live.ensures ∙ c.if-live.false) _ _ c.plain.ensures (kept-same _)

pub returns-clause-saves : goal.returns-clause-saves
returns-clause-saves g c =
    saves_stopped _ _ _ _ _ _ _ _ c.end_of.result (silently c.silent_runs.ensures _ c.requires.stands _ _ _ _
    c.run_silently.ensures.no_write c.run_silently.ensures.reported) c.in_default.not-Done c.end_of.ensures c.run_silently.ensures.read_fault (kept-same _)
