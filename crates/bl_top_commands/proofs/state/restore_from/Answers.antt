-- Why a job stops at its saved state, and where the runner stands.
use Rattle.std.proofs.Common.{Err, ap, subst}
use Rattle.bl_top_commands.specs.Reads.{state_limit}
use Rattle.bl_save.specs.States.{HasRestored, IsFaultOf}
use Rattle.bl_top_commands.proofs.Cuts.{further_from_up_to, left_behind}
use Rattle.bl_top_commands.proofs.Saves.{stands_at, state_faulty, state_unread, state_wanting}
use Rattle.bl_top_commands.proofs.state.restore_from.Goals as goal

pub returns-in-Err-Failed-clause-stopped : goal.returns-in-Err-Failed-clause-stopped
returns-in-Err-Failed-clause-stopped g c = state_unread _ _ _ _ _ c.plain.ensures (c.in-Err-Failed.ensures.failed (ap Err c.in-Err-Failed.field-0-is))

pub returns-in-Err-NoMemory-clause-stopped : goal.returns-in-Err-NoMemory-clause-stopped
returns-in-Err-NoMemory-clause-stopped g c = state_wanting _ _ _ _ _ c.plain-in-Err-NoMemory.ensures

pub returns-in-Ok-restore-clause-stands : goal.returns-in-Ok-restore-clause-stands
returns-in-Ok-restore-clause-stands g c =
    stands_at _ _ c.in-Ok.bytes.items _ _ c.requires.fresh c.in-Ok.ensures.front
    (subst (λ bytes. HasRestored c.args.runner.now bytes c.restore.new.runner) c.deref.ensures.value c.in-Ok-restore.ensures.restored)

pub returns-in-Ok-restore-clause-behind : goal.returns-in-Ok-restore-clause-behind
returns-in-Ok-restore-clause-behind g c = left_behind _ _ _ _ c.in-Ok.bytes.items c.in-Ok.ensures.front c.read_up_to.ensures.others

pub returns-clause-stopped : goal.returns-clause-stopped
returns-clause-stopped g c =
    state_faulty _ _ _ c.in-Ok.bytes.items _ c.in-Err.fault c.end_at_state.result c.in-Ok.ensures.front
    (subst (λ bytes. IsFaultOf c.args.runner.now.parts bytes c.in-Err.fault) c.deref.ensures.value c.in-Err.ensures.bad)
    c.end_at_state.ensures

pub returns-in-Ok-restore-clause-further : goal.returns-in-Ok-restore-clause-further
returns-in-Ok-restore-clause-further g c =
    further_from_up_to state_limit (g.F.Files.left c.args.files.now c.args.state.now) c.in-Ok.bytes.items
    (g.F.Files.left c.read_up_to.new.files c.args.state.now) c.in-Ok.ensures.front

pub returns-clause-further : goal.returns-clause-further
returns-clause-further g c =
    further_from_up_to state_limit (g.F.Files.left c.args.files.now c.args.state.now) c.in-Ok.bytes.items
    (g.F.Files.left c.read_up_to.new.files c.args.state.now) c.in-Ok.ensures.front
