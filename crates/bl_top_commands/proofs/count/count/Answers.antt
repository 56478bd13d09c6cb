-- How the command ends, and what is left of its files.
use Rattle.std.proofs.Common.{[], ◌∷◌}
use Rattle.bl_top_commands.specs.Reads.{rows_file, text_file}
use Rattle.bl_rows_stream_laws.specs.Counts.{counts_by}
use Rattle.bl_top_commands.proofs.Cuts.{reads_both, reads_first}
use Rattle.bl_top_commands.proofs.Execs.{text_ran, text_stopped}
use Rattle.bl_top_commands.proofs.count.count.Goals as goal
use Rattle.bl_rows_stream.proofs.Takings.{kept-same}

pub returns-in-Ok-clause-ends : goal.returns-in-Ok-clause-ends
returns-in-Ok-clause-ends g c = λ notes.
    text_ran _ _ _ counts_by c.in-Ok.runner.parts (g.F.Files.left c.runner_of.new.files) _ _ _ c.in-Ok.ensures.loads c.in-Ok.ensures.behind
    (c.runner_of.ensures.file_counts _) c.count_over.ensures.streams c.count_over.ensures.in_step

pub returns-in-Ok-clause-reads : goal.returns-in-Ok-clause-reads
returns-in-Ok-clause-reads g c =
    reads_both (text_file c.args.text.now) (rows_file c.args.rows.now) (g.F.Files.left c.args.files.now) (g.F.Files.left c.runner_of.new.files)
    (g.F.Files.left c.count_over.new.files) c.runner_of.ensures.further c.runner_of.ensures.others
    c.count_over.ensures.reads c.count_over.ensures.others

pub returns-in-Err-clause-ends : goal.returns-in-Err-clause-ends
returns-in-Err-clause-ends g c = λ notes. text_stopped _ _ _ _ _ _ c.in-Err.ensures.stopped (kept-same _)

pub returns-in-Err-clause-reads : goal.returns-in-Err-clause-reads
returns-in-Err-clause-reads g c =
    reads_first (text_file c.args.text.now) (rows_file c.args.rows.now ∷ []) (g.F.Files.left c.args.files.now) (g.F.Files.left c.runner_of.new.files)
    c.runner_of.ensures.further c.runner_of.ensures.others
