use Rattle.bl_emit_spec_laws_wellformed.proofs.OnNodes.Whole.{stand}
use Rattle.bl_emit_spec_laws_wellformed.proofs.nodes.nodes_stand.Goals as goal

pub returns : goal.returns
returns c program = stand program.structs program.units program.entry
