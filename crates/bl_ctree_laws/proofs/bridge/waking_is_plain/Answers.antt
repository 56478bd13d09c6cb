use Rattle.bl_ctree_laws.proofs.Waking.{waking_is_plain}
use Rattle.bl_ctree_laws.proofs.bridge.waking_is_plain.Goals as goal

pub returns : goal.returns
returns c = waking_is_plain
