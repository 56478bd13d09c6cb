use Rattle.bl_ctree_laws_confluence.proofs.OnDeeds.Nesting.{programs_nest}
use Rattle.bl_ctree_laws_confluence.proofs.deeds.instances_nest.Goals as goal

pub returns : goal.returns
returns c = programs_nest
