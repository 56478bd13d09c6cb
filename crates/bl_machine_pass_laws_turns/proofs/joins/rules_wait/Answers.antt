use Rattle.bl_machine_pass_laws_turns.proofs.OnJoins.Joining.{rules_wait}
use Rattle.bl_machine_pass_laws_turns.proofs.joins.rules_wait.Goals as goal

pub returns : goal.returns
returns c = rules_wait c.counters_linger.ensures
