-- How the command ends, and what is left of its file.
use Rattle.bl_top_commands.specs.Reads.{source_file}
use Rattle.bl_top.proofs.Cuts.{reads_one}
use Rattle.bl_top.proofs.Ends.{build_stopped, build_written}
use Rattle.bl_top.proofs.Programs.{is_of_small_tree}
use Rattle.bl_top.proofs.build.build.Goals as goal
use Rattle.bl_rows_stream.proofs.Takings.{kept-same}

pub write_c-requires : goal.write_c-requires
write_c-requires g c = is_of_small_tree c.programs_of_texts_are_small.ensures.accepted _ c.in-Ok.accepted.program c.in-Ok.ensures.program

pub returns-in-Ok-clause-ends : goal.returns-in-Ok-clause-ends
returns-in-Ok-clause-ends g c = λ notes.
    build_written _ _ c.in-Ok.accepted.program _ _ c.in-Ok.ensures.program
    c.write_c.ensures.writes c.write_c.ensures.line

pub returns-in-Ok-clause-reads : goal.returns-in-Ok-clause-reads
returns-in-Ok-clause-reads g c =
    reads_one (source_file c.args.source.now) (g.F.Files.left c.args.files.now) (g.F.Files.left c.accepted_of.new.files)
    c.accepted_of.ensures.further c.accepted_of.ensures.others

pub returns-in-Err-clause-ends : goal.returns-in-Err-clause-ends
returns-in-Err-clause-ends g c = λ notes. build_stopped _ _ _ _ c.in-Err.ensures.stopped (kept-same _)

pub returns-in-Err-clause-reads : goal.returns-in-Err-clause-reads
returns-in-Err-clause-reads g c =
    reads_one (source_file c.args.source.now) (g.F.Files.left c.args.files.now) (g.F.Files.left c.accepted_of.new.files)
    c.accepted_of.ensures.further c.accepted_of.ensures.others
