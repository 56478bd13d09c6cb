use Rattle.bl_emit_structs_laws_wellformed.proofs.OnNames.Needed.{all_declared}
use Rattle.bl_emit_structs_laws_wellformed.proofs.names.types_declared.Goals as goal

pub returns : goal.returns
returns c program = all_declared program.structs program.units program.entry
