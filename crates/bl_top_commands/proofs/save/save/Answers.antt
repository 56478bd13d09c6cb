-- How the command ends, and what is left of its files.
use Rattle.std.proofs.Common.{[], ◌∷◌, ◌∙◌, sym}
use Rattle.bl_top_commands.specs.Reads.{rows_file, text_file}
use Rattle.bl_top_commands.proofs.Cuts.{reads_both, reads_first}
use Rattle.bl_top_commands.proofs.Saves.{loaded_cells, loaded_from, loaded_starts, save_ran, save_stopped, save_trapped}
use Rattle.bl_top_commands.proofs.save.save.Goals as goal
use Rattle.bl_rows_stream.proofs.Takings.{kept-same}

pub returns-in-Err-clause-ends : goal.returns-in-Err-clause-ends
returns-in-Err-clause-ends g c = λ notes. save_stopped _ _ _ _ _ c.in-Err.ensures.stopped (kept-same _)

pub returns-in-Err-clause-reads : goal.returns-in-Err-clause-reads
returns-in-Err-clause-reads g c =
    reads_first (text_file c.args.text.now) (rows_file c.args.rows.now ∷ []) (g.F.Files.left c.args.files.now) (g.F.Files.left c.runner_of.new.files)
    c.runner_of.ensures.further c.runner_of.ensures.others

pub returns-then-not-ready-clause-ends : goal.returns-then-not-ready-clause-ends
returns-then-not-ready-clause-ends g c = λ notes.
    save_trapped _ _ _ _ c.in-Ok.ensures.loads (loaded_starts _ _ c.in-Ok.ensures.fresh (sym c.ready.ensures.shown ∙ c.if-not-ready.true)) _ _ c.plain.ensures
    (kept-same _)

pub returns-then-not-ready-clause-reads : goal.returns-then-not-ready-clause-reads
returns-then-not-ready-clause-reads g c =
    reads_first (text_file c.args.text.now) (rows_file c.args.rows.now ∷ []) (g.F.Files.left c.args.files.now) (g.F.Files.left c.runner_of.new.files)
    c.runner_of.ensures.further c.runner_of.ensures.others

pub save_over-requires-clause-stands : goal.save_over-requires-clause-stands
save_over-requires-clause-stands g c = loaded_from _ c.in-Ok.ensures.fresh (sym c.ready.ensures.shown ∙ c.if-not-ready.false)

pub save_over-requires-clause-ready : goal.save_over-requires-clause-ready
save_over-requires-clause-ready g c = sym c.ready.ensures.start ∙ c.if-not-ready.false

pub returns-clause-ends : goal.returns-clause-ends
returns-clause-ends g c = λ notes.
    save_ran _ _ _ c.in-Ok.runner.parts c.in-Ok.ensures.loads (loaded_starts _ _ c.in-Ok.ensures.fresh (sym c.ready.ensures.shown ∙ c.if-not-ready.false))
    c.in-Ok.runner.cells (loaded_cells _ c.in-Ok.ensures.fresh) (g.F.Files.left c.runner_of.new.files) c.in-Ok.ensures.behind _
    (c.runner_of.ensures.file_counts _) _ _ c.save_over.ensures.saves

pub returns-clause-reads : goal.returns-clause-reads
returns-clause-reads g c =
    reads_both (text_file c.args.text.now) (rows_file c.args.rows.now) (g.F.Files.left c.args.files.now) (g.F.Files.left c.runner_of.new.files)
    (g.F.Files.left c.save_over.new.files) c.runner_of.ensures.further c.runner_of.ensures.others
    c.save_over.ensures.reads c.save_over.ensures.others
