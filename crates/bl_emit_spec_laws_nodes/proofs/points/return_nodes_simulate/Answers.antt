use Rattle.bl_emit_spec_laws_nodes.proofs.OnPoints.ReturnBlocks.{return_nodes_simulate}
use Rattle.bl_emit_spec_laws_nodes.proofs.points.return_nodes_simulate.Goals as goal

pub returns : goal.returns
returns c program =
    return_nodes_simulate c.changes_stand.ensures c.frames_apart.ensures program.structs program.units
    program.entry (c.expressions_simulate.ensures program)
