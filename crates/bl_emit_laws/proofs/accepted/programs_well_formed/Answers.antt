use Rattle.bl_emit_laws.proofs.OnAccepted.{formed}
use Rattle.bl_emit_laws.proofs.accepted.programs_well_formed.Goals as goal

pub returns : goal.returns
returns c program = formed program (c.all_form.ensures program) (c.files_declare.ensures program) (c.files_formed.ensures program)
