-- How the command ends, and what is left of its files.
use Rattle.std.proofs.Common.{[], ◌∷◌}
use Rattle.bl_top_commands.specs.Reads.{rows_file, source_file}
use Rattle.bl_rows_stream.specs.Streams.{course_of}
use Rattle.bl_top.proofs.Cuts.{reads_first}
use Rattle.bl_top.proofs.Ends.{run_ran, run_stops}
use Rattle.bl_top.proofs.Programs.{is_of_small_tree}
use Rattle.bl_top.proofs.run.run.Goals as goal
use Rattle.bl_rows_stream.proofs.Takings.{kept-same}
use Rattle.bl_top_commands.proofs.Cuts.{reads_both}
use Rattle.bl_top_commands.proofs.Fronts.{stops_short}

pub runner_of-requires : goal.runner_of-requires
runner_of-requires g c = is_of_small_tree c.programs_of_texts_are_small.ensures.accepted _ c.in-Ok.accepted.program c.in-Ok.ensures.program

pub returns-in-Err-clause-ends : goal.returns-in-Err-clause-ends
returns-in-Err-clause-ends g c = λ notes. run_stops _ _ _ _ _ c.in-Err.ensures.stopped (kept-same _)

pub returns-in-Err-clause-reads : goal.returns-in-Err-clause-reads
returns-in-Err-clause-reads g c =
    reads_first c.kept_files_are_within_limits.ensures (source_file c.args.source.now) (rows_file c.args.rows.now ∷ [])
    (g.F.Files.left c.args.files.now) (g.F.Files.left c.accepted_of.new.files) c.accepted_of.ensures.further c.accepted_of.ensures.others

pub returns-in-Ok-runner_of-clause-ends : goal.returns-in-Ok-runner_of-clause-ends
returns-in-Ok-runner_of-clause-ends g c = λ notes.
    run_ran c.programs_run_as_their_source.ensures c.faults_count_from_before.ensures _ _ _ c.in-Ok.accepted.program (course_of c.in-Ok-runner_of.runner.parts)
    (g.F.Files.left c.accepted_of.new.files) _ _ _
    c.in-Ok.ensures.program c.in-Ok-runner_of.ensures.course
    c.in-Ok.ensures.behind (c.accepted_of.ensures.file_counts _) c.run_over.ensures.streams c.run_over.ensures.in_step

pub returns-in-Ok-runner_of-clause-reads : goal.returns-in-Ok-runner_of-clause-reads
returns-in-Ok-runner_of-clause-reads g c =
    reads_both (source_file c.args.source.now) (rows_file c.args.rows.now) (g.F.Files.left c.args.files.now) (g.F.Files.left c.accepted_of.new.files)
    (g.F.Files.left c.run_over.new.files) c.accepted_of.ensures.further c.accepted_of.ensures.others
    c.run_over.ensures.reads c.run_over.ensures.others

pub returns-clause-ends : goal.returns-clause-ends
returns-clause-ends g c = λ notes. run_stops _ _ _ _ _ (stops_short _ _ _ _ c.plain.ensures) (kept-same _)

pub returns-clause-reads : goal.returns-clause-reads
returns-clause-reads g c =
    reads_first c.kept_files_are_within_limits.ensures (source_file c.args.source.now) (rows_file c.args.rows.now ∷ [])
    (g.F.Files.left c.args.files.now) (g.F.Files.left c.accepted_of.new.files) c.accepted_of.ensures.further c.accepted_of.ensures.others
