use Rattle.bl_emit_spec_laws_nodes.proofs.OnPoints.ActBlocks.{act_nodes_simulate}
use Rattle.bl_emit_spec_laws_nodes.proofs.points.act_nodes_simulate.Goals as goal

pub returns : goal.returns
returns c program =
    act_nodes_simulate c.changes_stand.ensures c.frames_apart.ensures c.registers_apart.ensures program.structs
    program.units program.entry (c.acts_simulate.ensures program)
