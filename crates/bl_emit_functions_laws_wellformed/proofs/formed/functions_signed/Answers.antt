use Rattle.bl_emit_functions_laws_wellformed.proofs.OnFormed.Whole.{signed}
use Rattle.bl_emit_functions_laws_wellformed.proofs.formed.functions_signed.Goals as goal

pub returns : goal.returns
returns c = signed
