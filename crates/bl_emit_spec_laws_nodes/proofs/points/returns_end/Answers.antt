use Rattle.bl_emit_spec_laws_nodes.proofs.OnPoints.Bodies.{bodies_end}
use Rattle.bl_emit_spec_laws_nodes.proofs.points.returns_end.Goals as goal

pub returns : goal.returns
returns c program = bodies_end program.structs program.units program.entry
