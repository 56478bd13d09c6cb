use Rattle.bl_ctree_pending.proofs.SurfaceLemmas.{surface_ends}
use Rattle.bl_ctree_pending.proofs.writes.surface.Goals as goal

pub returns-clause-ends : goal.returns-clause-ends
returns-clause-ends c = surface_ends c.args.s.now c.statement.result c.statement.ensures.ends
