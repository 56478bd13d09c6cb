-- How the command ends, and what is left of its file.
use Rattle.std.proofs.Common.{◌∙◌, ap, refl}
use Rattle.bl_top_commands.specs.declared.outcome.Outcome.{Outcome}
use Rattle.bl_top_commands.specs.Reads.{source_file}
use Rattle.bl_top.proofs.Cuts.{reads_one}
use Rattle.bl_top.proofs.Driven.{drive_drove, drive_short, drive_stopped}
use Rattle.bl_top.proofs.Programs.{is_of_small_tree}
use Rattle.bl_top.proofs.drive.drive.Goals as goal
use Rattle.bl_rows_stream.proofs.Takings.{kept-same}

pub report_of-requires : goal.report_of-requires
report_of-requires g c = is_of_small_tree c.programs_of_texts_are_small.ensures.accepted _ c.in-Ok.accepted.program c.in-Ok.ensures.program

pub returns-in-Err-clause-ends : goal.returns-in-Err-clause-ends
returns-in-Err-clause-ends g c = λ notes.
    drive_stopped _ _ _ _ _ c.alone.result c.in-Err.outcome c.alone.ensures.outcome c.alone.ensures.lines c.in-Err.ensures.stopped
    (kept-same _) refl

pub returns-in-Err-clause-reads : goal.returns-in-Err-clause-reads
returns-in-Err-clause-reads g c =
    reads_one (source_file c.args.source.now) (g.F.Files.left c.args.files.now) (g.F.Files.left c.accepted_of.new.files)
    c.accepted_of.ensures.further c.accepted_of.ensures.others

pub returns-in-Ok-report_of-clause-ends : goal.returns-in-Ok-report_of-clause-ends
returns-in-Ok-report_of-clause-ends g c = λ notes.
    drive_drove _ _ _ _ _ c.in-Ok.accepted.program c.in-Ok-report_of.report c.write_report.result
    c.in-Ok.ensures.program c.in-Ok-report_of.ensures.report c.write_report.ensures.writes

pub returns-in-Ok-report_of-clause-reads : goal.returns-in-Ok-report_of-clause-reads
returns-in-Ok-report_of-clause-reads g c =
    reads_one (source_file c.args.source.now) (g.F.Files.left c.args.files.now) (g.F.Files.left c.accepted_of.new.files)
    c.accepted_of.ensures.further c.accepted_of.ensures.others

pub returns-clause-ends : goal.returns-clause-ends
returns-clause-ends g c = λ notes.
    drive_short _ _ _ _ _ c.in-Ok.accepted.program c.alone-in-Err-report_of.result
    c.in-Ok.ensures.program c.in-Err-report_of.ensures.left
    (ap (λ (o : Outcome). o.status) c.alone-in-Err-report_of.ensures.outcome ∙ c.plain.ensures) c.alone-in-Err-report_of.ensures.told
    (kept-same _)

pub returns-clause-reads : goal.returns-clause-reads
returns-clause-reads g c =
    reads_one (source_file c.args.source.now) (g.F.Files.left c.args.files.now) (g.F.Files.left c.accepted_of.new.files)
    c.accepted_of.ensures.further c.accepted_of.ensures.others
