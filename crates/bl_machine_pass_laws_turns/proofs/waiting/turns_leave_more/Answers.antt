use Rattle.bl_machine_pass_laws_turns.proofs.OnWaiting.Keeping.{turns_leave_more}
use Rattle.bl_machine_pass_laws_turns.proofs.waiting.turns_leave_more.Goals as goal

pub returns : goal.returns
returns c = turns_leave_more c.waits_in_part.ensures (λ body. c.graphs_stay_within.ensures body) c.turns_lead_on.ensures c.turns_wait.ensures
