use Rattle.bl_ctree_pending.proofs.WriteLemmas.{writes_over}
use Rattle.bl_ctree_pending.proofs.laws.paths_tell_what_may_be_written.Goals as goal

pub returns : goal.returns
returns c = writes_over
