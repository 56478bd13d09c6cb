use Rattle.bl_ctree.proofs.Listing.{points_move, moves_are_listed, steps_are_listed, still_is_unlisted}
use Rattle.bl_ctree.proofs.laws.points_are_steps.Goals as goal

pub returns : goal.returns
returns c = record { sound = points_move; complete = moves_are_listed; steps = steps_are_listed; still = still_is_unlisted }
