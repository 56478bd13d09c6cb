use Rattle.bl_emit_spec_laws_files.proofs.OnBegins.Standing.{pointers_follow}
use Rattle.bl_emit_spec_laws_files.proofs.begins.pointers_follow.Goals as goal

pub returns : goal.returns
returns c program =
    pointers_follow program.structs program.units program.entry c.accepted_programs_are_orderly.ensures
    (c.hands_over.ensures program)
