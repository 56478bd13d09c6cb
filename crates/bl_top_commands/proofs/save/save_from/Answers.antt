-- How the command ends, and what is left of its files.
use Rattle.std.proofs.Common.{[], ◌∷◌}
use Rattle.bl_tree.proofs.Basics.{at_most_then}
use Rattle.bl_top_commands.specs.Reads.{rows_file, state_file, text_file}
use Rattle.bl_top_commands.proofs.Cuts.{reads_first, reads_three, reads_two}
use Rattle.bl_top_commands.proofs.Saves.{from_stopped, from_text_stopped, from_went, save_goes, stands_from, stands_ready}
use Rattle.bl_top_commands.proofs.save.save_from.Goals as goal
use Rattle.bl_rows_stream.proofs.Takings.{kept-same}

pub returns-in-Err-clause-ends : goal.returns-in-Err-clause-ends
returns-in-Err-clause-ends g c = λ notes. from_text_stopped _ _ _ _ _ _ c.in-Err.ensures.stopped (kept-same _)

pub returns-in-Err-clause-reads : goal.returns-in-Err-clause-reads
returns-in-Err-clause-reads g c =
    reads_first (text_file c.args.text.now) (state_file c.args.state.now ∷ (rows_file c.args.rows.now ∷ [])) (g.F.Files.left c.args.files.now)
    (g.F.Files.left c.runner_of.new.files) c.runner_of.ensures.further c.runner_of.ensures.others

pub returns-in-Ok-restore_from-clause-ends : goal.returns-in-Ok-restore_from-clause-ends
returns-in-Ok-restore_from-clause-ends g c = λ notes.
    from_went _ _ _ _ c.in-Ok.runner.parts c.in-Ok.ensures.loads (g.F.Files.left c.runner_of.new.files) c.in-Ok.ensures.behind _
    c.in-Ok-restore_from.ensures.stands (g.F.Files.left c.restore_from.new.files) c.in-Ok-restore_from.ensures.behind _ _
    (save_goes _ _ _ c.in-Ok-restore_from.ensures.stands _ _ _ _ _ _ _ _
    (at_most_then _ _ _ (c.runner_of.ensures.file_counts _) (c.restore_from.ensures.file_counts _)) c.save_over.ensures.saves)

pub returns-in-Ok-restore_from-clause-reads : goal.returns-in-Ok-restore_from-clause-reads
returns-in-Ok-restore_from-clause-reads g c =
    reads_three (text_file c.args.text.now) (state_file c.args.state.now) (rows_file c.args.rows.now) (g.F.Files.left c.args.files.now)
    (g.F.Files.left c.runner_of.new.files) (g.F.Files.left c.restore_from.new.files) (g.F.Files.left c.save_over.new.files)
    c.runner_of.ensures.further c.runner_of.ensures.others c.restore_from.ensures.further c.restore_from.ensures.others
    c.save_over.ensures.reads c.save_over.ensures.others

pub returns-in-Err-restore_from-clause-ends : goal.returns-in-Err-restore_from-clause-ends
returns-in-Err-restore_from-clause-ends g c = λ notes.
    from_stopped _ _ _ _ c.in-Ok.runner.parts c.in-Ok.ensures.loads (g.F.Files.left c.runner_of.new.files) c.in-Ok.ensures.behind _
    (c.runner_of.ensures.file_counts _) _ _ c.in-Err-restore_from.ensures.stopped (kept-same _)

pub returns-in-Err-restore_from-clause-reads : goal.returns-in-Err-restore_from-clause-reads
returns-in-Err-restore_from-clause-reads g c =
    reads_two (text_file c.args.text.now) (state_file c.args.state.now) (rows_file c.args.rows.now ∷ []) (g.F.Files.left c.args.files.now)
    (g.F.Files.left c.runner_of.new.files) (g.F.Files.left c.restore_from.new.files)
    c.runner_of.ensures.further c.runner_of.ensures.others c.restore_from.ensures.further c.restore_from.ensures.others

pub save_over-requires-clause-stands : goal.save_over-requires-clause-stands
save_over-requires-clause-stands g c = stands_from _ _ _ c.in-Ok-restore_from.ensures.stands

pub save_over-requires-clause-ready : goal.save_over-requires-clause-ready
save_over-requires-clause-ready g c = stands_ready _ _ _ c.in-Ok-restore_from.ensures.stands
