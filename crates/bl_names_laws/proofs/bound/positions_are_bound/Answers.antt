use Rattle.bl_names_laws.proofs.ItemLeads.{uses_are_bound}
use Rattle.bl_names_laws.proofs.bound.positions_are_bound.Goals as goal

pub returns : goal.returns
returns c = uses_are_bound
