use Rattle.bl_emit_spec_laws_wellformed_bodies.proofs.OnStructs.Whole.{files_declare}
use Rattle.bl_emit_spec_laws_wellformed_bodies.proofs.structs.files_declare.Goals as goal

pub returns : goal.returns
returns c program =
    files_declare program (c.names_differ.ensures program) (c.members_differ.ensures program) (c.uses_earlier.ensures program) (c.types_apart.ensures program)
    (c.structs_there.ensures program) (c.parts_stand.ensures program)
