use Rattle.bl_ctree_laws.proofs.Less.{may_is_could, moving_is_unsettled}
use Rattle.bl_ctree_laws.proofs.shrinking.acting_is_open.Goals as goal

pub returns : goal.returns
returns c = record { could = may_is_could; unsettled = moving_is_unsettled }
