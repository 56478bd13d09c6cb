use Rattle.bl_emit_file.proofs.Whole.{spelled_program}
use Rattle.bl_emit_file.proofs.laws.programs_have_spelling.Goals as goal

pub returns : goal.returns
returns c program machine known = spelled_program program machine known c.programs_spelled.ensures
