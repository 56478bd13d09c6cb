-- How the command ends, and what is left of its file.
use Rattle.std.proofs.Common.{[]}
use Rattle.bl_top_commands.specs.Reads.{source_file}
use Rattle.bl_top_commands.proofs.Cuts.{reads_first}
use Rattle.bl_top_commands.proofs.Ends.{check_accepted, check_stopped}
use Rattle.bl_top_commands.proofs.check.check.Goals as goal
use Rattle.bl_rows_stream.proofs.Takings.{kept-same}

pub returns-in-Ok-clause-ends : goal.returns-in-Ok-clause-ends
returns-in-Ok-clause-ends g c = λ notes.
    check_accepted _ _ c.in-Ok.field-0.program _ _ c.in-Ok.ensures.program c.say_accepted.ensures.writes c.say_accepted.ensures.line

pub returns-in-Ok-clause-reads : goal.returns-in-Ok-clause-reads
returns-in-Ok-clause-reads g c =
    reads_first (source_file c.args.source.now) [] (g.F.Files.left c.args.files.now) (g.F.Files.left c.accepted_of.new.files)
    c.accepted_of.ensures.further c.accepted_of.ensures.others

pub returns-clause-ends : goal.returns-clause-ends
returns-clause-ends g c = λ notes. check_stopped _ _ _ _ c.in-Err.ensures.stopped (kept-same _)

pub returns-clause-reads : goal.returns-clause-reads
returns-clause-reads g c =
    reads_first (source_file c.args.source.now) [] (g.F.Files.left c.args.files.now) (g.F.Files.left c.accepted_of.new.files)
    c.accepted_of.ensures.further c.accepted_of.ensures.others
