use Rattle.bl_emit_spec_laws_files.proofs.OnBegins.Standing.{functions_stand_all}
use Rattle.bl_emit_spec_laws_files.proofs.begins.functions_stand.Goals as goal

pub returns : goal.returns
returns c program =
    functions_stand_all program.structs program.units program.entry c.accepted_programs_are_orderly.ensures
    (c.hands_over.ensures program)
