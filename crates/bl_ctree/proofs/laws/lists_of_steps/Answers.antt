use Rattle.bl_ctree.proofs.Listing.{points_act}
use Rattle.bl_ctree.proofs.Stepping.{fronts_are_steps, steps_follow, maximal_is_steps}
use Rattle.bl_ctree.proofs.laws.lists_of_steps.Goals as goal

pub returns : goal.returns
returns c = record { acting = points_act; fronts = fronts_are_steps; follow = steps_follow; maximal = maximal_is_steps }
