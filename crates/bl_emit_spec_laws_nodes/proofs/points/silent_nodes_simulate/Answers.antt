use Rattle.bl_emit_spec_laws_nodes.proofs.OnPoints.Silent.{silent_comes}
use Rattle.bl_emit_spec_laws_nodes.proofs.points.silent_nodes_simulate.Goals as goal

pub returns : goal.returns
returns c = silent_comes c.changes_stand.ensures
