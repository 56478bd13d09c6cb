use Rattle.bl_machine_pass_laws_turns.proofs.OnWaiting.Dozing.{stays_dozing}
use Rattle.bl_machine_pass_laws_turns.proofs.waiting.trees_stay_dozing.Goals as goal

pub returns : goal.returns
returns c = stays_dozing
