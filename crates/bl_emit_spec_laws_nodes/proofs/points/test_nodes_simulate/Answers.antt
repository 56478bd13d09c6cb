use Rattle.bl_emit_spec_laws_nodes.proofs.OnPoints.Tests.{tests_come_so}
use Rattle.bl_emit_spec_laws_nodes.proofs.points.test_nodes_simulate.Goals as goal

pub returns : goal.returns
returns c program =
    tests_come_so c.changes_stand.ensures c.frames_apart.ensures program.structs program.units
    program.entry (c.expressions_simulate.ensures program)
