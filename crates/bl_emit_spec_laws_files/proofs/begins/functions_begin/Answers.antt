use Rattle.bl_emit_spec_laws_files.proofs.OnBegins.Begins.{functions_begin_all}
use Rattle.bl_emit_spec_laws_files.proofs.begins.functions_begin.Goals as goal

pub returns : goal.returns
returns c program =
    functions_begin_all program.structs program.units program.entry c.accepted_programs_are_orderly.ensures
    (c.hands_over.ensures program) c.calls_keep.ensures c.registers_apart.ensures c.guards_show.ensures c.frames_apart.ensures c.copies_begin.ensures
    c.entries_are_own.ensures
