use Rattle.bl_limits_measures.proofs.LawLemmas.{cells_add, instances_add}
use Rattle.bl_limits_measures.proofs.laws.units_add_up.Goals as goal

pub returns-clause-instances : goal.returns-clause-instances
returns-clause-instances c = instances_add

pub returns-clause-cells : goal.returns-clause-cells
returns-clause-cells c = cells_add
