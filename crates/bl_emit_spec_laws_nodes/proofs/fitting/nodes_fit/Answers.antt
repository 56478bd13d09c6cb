use Rattle.bl_emit_spec_laws_nodes.proofs.OnFitting.Whole.{nodes_fit}
use Rattle.bl_emit_spec_laws_nodes.proofs.fitting.nodes_fit.Goals as goal

pub returns : goal.returns
returns c program = nodes_fit program.structs program.units program.entry
