use Rattle.bl_emit_spec_laws_wellformed.proofs.OnCosts.Whole.{cost}
use Rattle.bl_emit_spec_laws_wellformed.proofs.costs.bodies_cost.Goals as goal

pub returns : goal.returns
returns c program = cost program.structs program.units program.entry
