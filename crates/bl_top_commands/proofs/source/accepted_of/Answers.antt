-- Why a job stops at its source, and what is left of it.
use Rattle.std.proofs.Common.{Err, ap, subst}
use Rattle.bl_top_commands.specs.Reads.{source_limit}
use Rattle.bl_rules.specs.Accepted.{HasProgram}
use Rattle.bl_rules.specs.Rules.{Fails}
use Rattle.bl_tree.specs.Rules.{IsCause}
use Rattle.bl_top_commands.proofs.Cuts.{further_from_up_to}
use Rattle.bl_top_commands.proofs.Fronts.{is_program, stops_refused, stops_short, stops_unread}
use Rattle.bl_top_commands.proofs.source.accepted_of.Goals as goal

pub returns-in-Err-Failed-clause-stopped : goal.returns-in-Err-Failed-clause-stopped
returns-in-Err-Failed-clause-stopped g c = stops_unread _ _ _ _ c.plain.ensures (c.in-Err-Failed.ensures.failed (ap Err c.in-Err-Failed.field-0-is))

pub returns-in-Err-NoMemory-clause-stopped : goal.returns-in-Err-NoMemory-clause-stopped
returns-in-Err-NoMemory-clause-stopped g c = stops_short _ _ _ _ c.plain-in-Err-NoMemory.ensures

pub returns-clause-stopped : goal.returns-clause-stopped
returns-clause-stopped g c =
    stops_refused _ c.in-Ok.bytes.items _ _ c.in-Err.refusal _ c.in-Ok.ensures.front
    (subst (λ text. IsCause (Fails text) c.in-Err.refusal) c.deref.ensures.value c.in-Err.ensures.cause) c.refused.ensures

pub returns-clause-further : goal.returns-clause-further
returns-clause-further g c =
    further_from_up_to source_limit (g.F.Files.left c.args.files.now c.args.source.now) c.in-Ok.bytes.items
    (g.F.Files.left c.read_up_to.new.files c.args.source.now) c.in-Ok.ensures.front

pub returns-in-Ok-accept-clause-program : goal.returns-in-Ok-accept-clause-program
returns-in-Ok-accept-clause-program g c =
    is_program _ c.in-Ok.bytes.items _ c.in-Ok-accept.accepted.program c.in-Ok.ensures.front
    (subst (λ text. HasProgram text c.in-Ok-accept.accepted.program) c.deref.ensures.value c.in-Ok-accept.ensures.program)

pub returns-in-Ok-accept-clause-further : goal.returns-in-Ok-accept-clause-further
returns-in-Ok-accept-clause-further g c =
    further_from_up_to source_limit (g.F.Files.left c.args.files.now c.args.source.now) c.in-Ok.bytes.items
    (g.F.Files.left c.read_up_to.new.files c.args.source.now) c.in-Ok.ensures.front
