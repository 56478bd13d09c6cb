use Rattle.bl_emit_spec_laws_wellformed_bodies.proofs.OnBodies.Whole.{bodies}
use Rattle.bl_emit_spec_laws_wellformed_bodies.proofs.bodies.activity_bodies_well_formed.Goals as goal

pub returns : goal.returns
returns c program =
    bodies program.structs program.units program.entry (c.acts_well_formed.ensures program) c.locals_differ.ensures
    c.frame_differs.ensures c.memory_differs.ensures
