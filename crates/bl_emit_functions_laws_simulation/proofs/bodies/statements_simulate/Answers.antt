use Rattle.bl_emit_functions_laws_simulation.proofs.OnBodies.Whole.{come}
use Rattle.bl_emit_functions_laws_simulation.proofs.bodies.statements_simulate.Goals as goal

pub returns : goal.returns
returns c program =
    come program.structs program.units program.entry (c.expressions_simulate.ensures program) (c.acts_simulate.ensures program)
    c.frames_apart.ensures
