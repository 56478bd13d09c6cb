use Rattle.bl_emit_spec_laws_wellformed.proofs.OnSpelled.Whole.{memories}
use Rattle.bl_emit_spec_laws_wellformed.proofs.spelled.remembered_spelled.Goals as goal

pub returns : goal.returns
returns c program =
    memories program.structs program.units program.entry (c.members_spelled.ensures program)
