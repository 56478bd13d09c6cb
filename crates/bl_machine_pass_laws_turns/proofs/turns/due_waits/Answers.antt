use Rattle.bl_machine_pass_laws_turns.proofs.OnTurns.{due_waits}
use Rattle.bl_machine_pass_laws_turns.proofs.turns.due_waits.Goals as goal

pub returns : goal.returns
returns c = due_waits c.trees_stay_placed.ensures c.joins_wait.ensures
