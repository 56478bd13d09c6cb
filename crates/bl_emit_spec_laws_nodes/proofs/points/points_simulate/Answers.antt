use Rattle.bl_emit_spec_laws_nodes.proofs.OnPoints.Points.{points_simulate}
use Rattle.bl_emit_spec_laws_nodes.proofs.points.points_simulate.Goals as goal

pub returns : goal.returns
returns c program =
    points_simulate c.silent_nodes_simulate.ensures c.guards_choose.ensures program.structs program.units program.entry
    (c.test_nodes_simulate.ensures program) (c.act_nodes_simulate.ensures program) (c.return_nodes_simulate.ensures program) (c.returns_end.ensures program)
