use Rattle.bl_emit_functions_laws_wellformed.proofs.OnNumbered.Whole.{counted}
use Rattle.bl_emit_functions_laws_wellformed.proofs.numbered.units_counted.Goals as goal

pub returns : goal.returns
returns c program = counted program.structs program.units program.entry
