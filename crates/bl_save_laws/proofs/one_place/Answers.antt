use Rattle.bl_save_laws.proofs.StateLaws.{one-place}
use Rattle.bl_save_laws.proofs.one_place.Goals as goal

pub returns : goal.returns
returns c = one-place
