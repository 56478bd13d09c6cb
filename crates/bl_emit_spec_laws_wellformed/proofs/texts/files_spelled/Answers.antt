use Rattle.bl_emit_spec_laws_wellformed.proofs.OnTexts.Files.{files}
use Rattle.bl_emit_spec_laws_wellformed.proofs.texts.files_spelled.Goals as goal

pub returns : goal.returns
returns c program =
    files program (c.functions_fit.ensures program) (c.memories_spelled.ensures program) (c.structs_spelled.ensures program) (c.types_spelled.ensures program)
    (c.activities_fit.ensures program) (c.frames_spelled.ensures program) (c.remembered_spelled.ensures program)
