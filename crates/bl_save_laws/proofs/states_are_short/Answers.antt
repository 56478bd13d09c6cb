use Rattle.bl_save_laws.proofs.Lengths.{short-states}
use Rattle.bl_save_laws.proofs.states_are_short.Goals as goal

pub returns : goal.returns
returns c = short-states
