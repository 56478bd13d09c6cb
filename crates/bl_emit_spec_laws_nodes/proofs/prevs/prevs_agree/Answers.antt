use Rattle.bl_emit_spec_laws_nodes.proofs.OnPrevs.Acting.{prevs_tell}
use Rattle.bl_emit_spec_laws_nodes.proofs.prevs.prevs_agree.Goals as goal

pub returns : goal.returns
returns c = prevs_tell
