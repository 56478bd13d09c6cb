use Rattle.bl_ctree_laws_confluence.proofs.OnApart.Calls.{deeds_stay_inside_so}
use Rattle.bl_ctree_laws_confluence.proofs.apart.deeds_stay_inside.Goals as goal

pub returns : goal.returns
returns c = deeds_stay_inside_so
