use Rattle.bl_ctree_laws.proofs.Less.{ends_shrink, meets_shrink, writes_shrink}
use Rattle.bl_ctree_laws.proofs.shrinking.steps_shrink.Goals as goal

pub returns : goal.returns
returns c = record { ends = ends_shrink; writes = writes_shrink; meets = meets_shrink }
