use Rattle.bl_emit_spec_laws_wellformed_bodies.proofs.OnSigned.Head.{formed}
use Rattle.bl_emit_spec_laws_wellformed_bodies.proofs.signed.activities_well_formed.Goals as goal

pub returns : goal.returns
returns c program =
    formed program.structs program.units program.entry (c.activity_bodies_well_formed.ensures program) c.locals_differ.ensures
    c.none_loops.ensures
