use Rattle.bl_emit_structs_laws_wellformed.proofs.OnNames.Members.{members_apart}
use Rattle.bl_emit_structs_laws_wellformed.proofs.names.members_differ.Goals as goal

pub returns : goal.returns
returns c program = members_apart program.structs program.units program.entry
