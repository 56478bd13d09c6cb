use Rattle.bl_emit_structs_laws_wellformed.proofs.OnNames.Named.{named_apart}
use Rattle.bl_emit_structs_laws_wellformed.proofs.names.types_apart.Goals as goal

pub returns : goal.returns
returns c program = named_apart program.structs program.units program.entry
