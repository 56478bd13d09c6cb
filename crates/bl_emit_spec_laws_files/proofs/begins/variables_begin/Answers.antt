use Rattle.bl_emit_spec_laws_files.proofs.OnBegins.Variables.{variables_begin_all}
use Rattle.bl_emit_spec_laws_files.proofs.begins.variables_begin.Goals as goal

pub returns : goal.returns
returns c program =
    variables_begin_all program.structs program.units program.entry c.accepted_programs_are_orderly.ensures
    (c.hands_over.ensures program) c.calls_keep.ensures
