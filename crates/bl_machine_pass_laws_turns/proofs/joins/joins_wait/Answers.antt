use Rattle.bl_machine_pass_laws_turns.proofs.OnJoins.Joining.{joins_wait}
use Rattle.bl_machine_pass_laws_turns.proofs.joins.joins_wait.Goals as goal

pub returns : goal.returns
returns c = joins_wait c.counters_linger.ensures
