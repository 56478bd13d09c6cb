use Rattle.bl_emit_laws.proofs.OnSpelled.{programs_spelled}
use Rattle.bl_emit_laws.proofs.spelled.programs_spelled.Goals as goal

pub returns : goal.returns
returns c program =
    programs_spelled program c.activities_count.ensures (c.machines_spell.ensures program) (c.needed_small.ensures program) (c.needed_numbered.ensures program)
    (c.files_spelled.ensures program)
