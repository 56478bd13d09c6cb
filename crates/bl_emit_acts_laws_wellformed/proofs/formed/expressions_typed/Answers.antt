use Rattle.bl_emit_acts_laws_wellformed.proofs.OnFormed.Whole.{expressions}
use Rattle.bl_emit_acts_laws_wellformed.proofs.formed.expressions_typed.Goals as goal

pub returns : goal.returns
returns c program = expressions program.structs program.units program.entry
