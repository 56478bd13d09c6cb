use Rattle.bl_emit_structs_laws_wellformed.proofs.OnFormed.Whole as whole
use Rattle.bl_emit_structs_laws_wellformed.proofs.formed.structs_well_formed.Goals as goal

pub returns : goal.returns
returns c program =
    whole.structs_well_formed program.structs program.units program.entry (c.members_differ.ensures program) (c.uses_earlier.ensures program)
    (c.types_declared.ensures program) (c.types_apart.ensures program)
