use Rattle.bl_emit_spec_laws_wellformed.proofs.OnNumbers.Whole.{follow}
use Rattle.bl_emit_spec_laws_wellformed.proofs.numbers.numbers_follow.Goals as goal

pub returns : goal.returns
returns c = follow
