use Rattle.bl_machine_pass_laws_turns.proofs.OnTurns.{numbers_pass}
use Rattle.bl_machine_pass_laws_turns.proofs.turns.numbers_pass.Goals as goal

pub returns : goal.returns
returns c = numbers_pass
