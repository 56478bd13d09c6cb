use Rattle.bl_emit_spec_laws_nodes.proofs.OnFitting.Whole.{nodes_apart}
use Rattle.bl_emit_spec_laws_nodes.proofs.fitting.nodes_apart.Goals as goal

pub returns : goal.returns
returns c program = nodes_apart program.structs program.units program.entry
