use Rattle.bl_emit_spec_laws_nodes.proofs.OnPoints.Choices.{guards_choose}
use Rattle.bl_emit_spec_laws_nodes.proofs.points.guards_choose.Goals as goal

pub returns : goal.returns
returns c = guards_choose c.guards_show.ensures
