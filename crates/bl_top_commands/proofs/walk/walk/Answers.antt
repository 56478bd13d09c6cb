-- How the command ends, and what is left of its files.
use Rattle.std.proofs.Common.{[], ◌∷◌, refl, ap, ◌∙◌}
use Rattle.bl_top_commands.specs.declared.outcome.Outcome.{Outcome}
use Rattle.bl_top_commands.specs.Reads.{rows_file, source_file}
use Rattle.bl_top_commands.proofs.Cuts.{reads_both, reads_first}
use Rattle.bl_top_commands.proofs.Walks.{walk_ran, walk_refused, walk_stopped}
use Rattle.bl_top_commands.proofs.walk.walk.Goals as goal
use Rattle.bl_rows_stream.proofs.Takings.{kept-same}

pub returns-in-Err-clause-ends : goal.returns-in-Err-clause-ends
returns-in-Err-clause-ends g c = λ notes.
    walk_stopped _ _ _ _ c.alone.result c.in-Err.outcome c.alone.ensures.outcome c.alone.ensures.lines c.in-Err.ensures.stopped (kept-same _)

pub returns-in-Err-clause-reads : goal.returns-in-Err-clause-reads
returns-in-Err-clause-reads g c =
    reads_first (source_file c.args.source.now) (rows_file c.args.rows.now ∷ []) (g.F.Files.left c.args.files.now) (g.F.Files.left c.accepted_of.new.files)
    c.accepted_of.ensures.further c.accepted_of.ensures.others

pub returns-in-Ok-walk_file-clause-ends : goal.returns-in-Ok-walk_file-clause-ends
returns-in-Ok-walk_file-clause-ends g c = λ notes.
    let is = c.in-Ok.ensures.program in
    walk_ran _ _ _ _ c.in-Ok.accepted.program c.in-Ok.accepted.peeled.program.units c.is_accepted.ensures.is_peeled.units is
    (c.accepted_trees_have_one_trace.ensures c.in-Ok.accepted.program c.in-Ok.accepted.peeled.program.units
    c.is_accepted.ensures.of_tree c.is_accepted.ensures.is_peeled.units)
    c.rows_of_bytes_fit.ensures c.rows_of_lines_fit.ensures (g.F.Files.left c.accepted_of.new.files) c.in-Ok.ensures.behind
    c.closed_runs_stay_closed.ensures c.fronts_show_fronts.ensures c.walks_are_allowed.ensures.means _ (c.accepted_of.ensures.file_counts _)
    _ _ _ c.in-Ok-walk_file.ensures.walk c.in-Ok-walk_file.ensures.read_fault c.write_walk.result c.write_walk.ensures.writes

pub returns-in-Ok-walk_file-clause-reads : goal.returns-in-Ok-walk_file-clause-reads
returns-in-Ok-walk_file-clause-reads g c =
    reads_both (source_file c.args.source.now) (rows_file c.args.rows.now) (g.F.Files.left c.args.files.now) (g.F.Files.left c.accepted_of.new.files)
    (g.F.Files.left c.walk_file.new.files) c.accepted_of.ensures.further c.accepted_of.ensures.others
    c.walk_file.ensures.reads c.walk_file.ensures.others

pub returns-clause-ends : goal.returns-clause-ends
returns-clause-ends g c = λ notes.
    let is = c.in-Ok.ensures.program in
    walk_refused _ _ _ _ c.in-Ok.accepted.program c.in-Ok.accepted.peeled.program.units c.is_accepted.ensures.is_peeled.units is
    (c.accepted_trees_have_one_trace.ensures c.in-Ok.accepted.program c.in-Ok.accepted.peeled.program.units
    c.is_accepted.ensures.of_tree c.is_accepted.ensures.is_peeled.units)
    c.rows_of_bytes_fit.ensures c.rows_of_lines_fit.ensures (g.F.Files.left c.accepted_of.new.files) c.in-Ok.ensures.behind c.alone-in-Err-walk_file.result
    c.in-Ok.accepted.program.well_typed.entry_stands refl
    (ap (λ (o : Outcome). o.status) c.alone-in-Err-walk_file.ensures.outcome ∙ c.plain.ensures) c.alone-in-Err-walk_file.ensures.told

pub returns-clause-reads : goal.returns-clause-reads
returns-clause-reads g c =
    reads_both (source_file c.args.source.now) (rows_file c.args.rows.now) (g.F.Files.left c.args.files.now) (g.F.Files.left c.accepted_of.new.files)
    (g.F.Files.left c.walk_file.new.files) c.accepted_of.ensures.further c.accepted_of.ensures.others
    c.walk_file.ensures.reads c.walk_file.ensures.others
