use Rattle.bl_simplify_laws.proofs.OnFiles.{functions-chain}
use Rattle.bl_simplify_laws.proofs.files.same_functions.Goals as goal

pub returns : goal.returns
returns c = functions-chain
