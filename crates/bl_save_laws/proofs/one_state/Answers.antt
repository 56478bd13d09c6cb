use Rattle.bl_save_laws.proofs.StateLaws.{one-state}
use Rattle.bl_save_laws.proofs.one_state.Goals as goal

pub returns : goal.returns
returns c = one-state
