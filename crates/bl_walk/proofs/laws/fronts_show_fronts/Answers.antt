use Rattle.bl_walk.proofs.Walking.{fronts_show}
use Rattle.bl_walk.proofs.laws.fronts_show_fronts.Goals as goal

pub returns : goal.returns
returns c = fronts_show
