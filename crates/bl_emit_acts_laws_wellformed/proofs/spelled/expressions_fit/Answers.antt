use Rattle.bl_emit_acts_laws_wellformed.proofs.OnSpelled.Whole.{expressions}
use Rattle.bl_emit_acts_laws_wellformed.proofs.spelled.expressions_fit.Goals as goal

pub returns : goal.returns
returns c program = expressions program.structs program.units program.entry
