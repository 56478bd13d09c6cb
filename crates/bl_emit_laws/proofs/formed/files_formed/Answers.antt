use Rattle.bl_emit_laws.proofs.OnFormed.Whole.{files}
use Rattle.bl_emit_laws.proofs.formed.files_formed.Goals as goal

pub returns : goal.returns
returns c program = files program (c.needed_closed.ensures program) (c.parts_well_formed.ensures program)
