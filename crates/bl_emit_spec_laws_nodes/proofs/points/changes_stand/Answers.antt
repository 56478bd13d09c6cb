use Rattle.bl_emit_spec_laws_nodes.proofs.OnPoints.Changes.{all_stand}
use Rattle.bl_emit_spec_laws_nodes.proofs.points.changes_stand.Goals as goal

pub returns : goal.returns
returns c = all_stand c.changes_simulate.ensures c.registers_apart.ensures
