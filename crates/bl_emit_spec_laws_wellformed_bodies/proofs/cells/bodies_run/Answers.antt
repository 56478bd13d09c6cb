use Rattle.bl_emit_spec_laws_wellformed_bodies.proofs.OnCells.Running.{bodies}
use Rattle.bl_emit_spec_laws_wellformed_bodies.proofs.cells.bodies_run.Goals as goal

pub returns : goal.returns
returns c program = bodies c.trees_stay_placed.ensures.nodes program.structs program.units program.entry
