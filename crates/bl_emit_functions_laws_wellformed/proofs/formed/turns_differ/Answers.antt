use Rattle.bl_emit_functions_laws_wellformed.proofs.OnFormed.Counters.{turns}
use Rattle.bl_emit_functions_laws_wellformed.proofs.formed.turns_differ.Goals as goal

pub returns : goal.returns
returns c program = turns program.structs program.units
