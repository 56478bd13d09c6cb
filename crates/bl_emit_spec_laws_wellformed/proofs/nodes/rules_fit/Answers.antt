use Rattle.bl_emit_spec_laws_wellformed.proofs.OnNodes.Whole.{fit}
use Rattle.bl_emit_spec_laws_wellformed.proofs.nodes.rules_fit.Goals as goal

pub returns : goal.returns
returns c program = fit program.structs program.units program.entry (c.nodes_stand.ensures program)
