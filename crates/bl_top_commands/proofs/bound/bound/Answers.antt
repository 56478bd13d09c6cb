-- How the command ends, and what is left of its file.
use Rattle.std.proofs.Common.{[], subst, sym}
use Rattle.bl_top_commands.specs.inner.Texts.{HasBounds}
use Rattle.bl_top_commands.specs.Reads.{text_file}
use Rattle.bl_top_commands.proofs.Cuts.{reads_first}
use Rattle.bl_top_commands.proofs.Execs.{bound_stops, bound_told}
use Rattle.bl_top_commands.proofs.bound.bound.Goals as goal
use Rattle.bl_rows_stream.proofs.Takings.{kept-same}

pub returns-in-Ok-clause-ends : goal.returns-in-Ok-clause-ends
returns-in-Ok-clause-ends g c = λ notes.
    bound_told _ _ _ _ _ (subst (HasBounds _) (sym c.deref.ensures.value) c.in-Ok.ensures.bounds) c.write_result.ensures.writes c.write_result.ensures.line

pub returns-in-Ok-clause-reads : goal.returns-in-Ok-clause-reads
returns-in-Ok-clause-reads g c =
    reads_first (text_file c.args.text.now) [] (g.F.Files.left c.args.files.now) (g.F.Files.left c.bounds_of.new.files)
    c.bounds_of.ensures.further c.bounds_of.ensures.others

pub returns-in-Err-clause-ends : goal.returns-in-Err-clause-ends
returns-in-Err-clause-ends g c = λ notes. bound_stops _ _ _ _ c.in-Err.ensures.stopped (kept-same _)

pub returns-in-Err-clause-reads : goal.returns-in-Err-clause-reads
returns-in-Err-clause-reads g c =
    reads_first (text_file c.args.text.now) [] (g.F.Files.left c.args.files.now) (g.F.Files.left c.bounds_of.new.files)
    c.bounds_of.ensures.further c.bounds_of.ensures.others
