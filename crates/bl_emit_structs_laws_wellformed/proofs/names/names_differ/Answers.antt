use Rattle.std.proofs.Common.{[]}
use Rattle.bl_emit_structs.specs.Structs.{structs_for}
use Rattle.bl_emit_structs_laws_wellformed.proofs.OnNames.Once.{once_distinct}
use Rattle.bl_emit_structs_laws_wellformed.proofs.names.names_differ.Goals as goal

pub returns : goal.returns
returns c program = once_distinct [] (structs_for program.structs program.units)
