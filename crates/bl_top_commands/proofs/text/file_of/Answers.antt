-- Why a job stops at its text, and its file.
use Rattle.std.proofs.Common.{Err, ap, subst}
use Rattle.bl_top_commands.specs.Exec.{Rejects}
use Rattle.bl_top_commands.specs.inner.Outcomes.{line_in}
use Rattle.bl_top_commands.specs.inner.Texts.{IsFileIn}
use Rattle.bl_top_commands.specs.Reads.{text_limit}
use Rattle.bl_top_commands.proofs.Cuts.{further_from_up_to, left_behind}
use Rattle.bl_top_commands.proofs.Execs.{file_of_source, stops_rejected, stops_unread, stops_wanting}
use Rattle.bl_top_commands.proofs.text.file_of.Goals as goal

pub returns-in-Err-Failed-clause-stopped : goal.returns-in-Err-Failed-clause-stopped
returns-in-Err-Failed-clause-stopped g c = stops_unread _ _ _ _ c.plain.ensures (c.in-Err-Failed.ensures.failed (ap Err c.in-Err-Failed.field-0-is))

pub returns-in-Err-NoMemory-clause-stopped : goal.returns-in-Err-NoMemory-clause-stopped
returns-in-Err-NoMemory-clause-stopped g c = stops_wanting _ _ _ _ c.plain-in-Err-NoMemory.ensures

pub returns-in-Ok-file_in-clause-file : goal.returns-in-Ok-file_in-clause-file
returns-in-Ok-file_in-clause-file g c =
    file_of_source _ c.in-Ok.bytes.items _ c.in-Ok-file_in.file c.in-Ok.ensures.front
    (subst (λ text. IsFileIn text c.in-Ok-file_in.file) c.deref.ensures.value c.in-Ok-file_in.ensures.file)

pub returns-in-Ok-file_in-clause-further : goal.returns-in-Ok-file_in-clause-further
returns-in-Ok-file_in-clause-further g c =
    further_from_up_to text_limit (g.F.Files.left c.args.files.now c.args.text.now) c.in-Ok.bytes.items
    (g.F.Files.left c.read_up_to.new.files c.args.text.now) c.in-Ok.ensures.front

pub returns-clause-stopped : goal.returns-clause-stopped
returns-clause-stopped g c =
    stops_rejected _ _ c.in-Ok.bytes.items _ _ _ c.in-Ok.ensures.front
    (subst (λ text. Rejects text c.in-Err.outcome.status (line_in c.in-Err.outcome)) c.deref.ensures.value c.in-Err.ensures.rejected)

pub returns-clause-further : goal.returns-clause-further
returns-clause-further g c =
    further_from_up_to text_limit (g.F.Files.left c.args.files.now c.args.text.now) c.in-Ok.bytes.items
    (g.F.Files.left c.read_up_to.new.files c.args.text.now) c.in-Ok.ensures.front

pub returns-in-Ok-file_in-clause-behind : goal.returns-in-Ok-file_in-clause-behind
returns-in-Ok-file_in-clause-behind g c = left_behind _ _ _ _ c.in-Ok.bytes.items c.in-Ok.ensures.front c.read_up_to.ensures.others
