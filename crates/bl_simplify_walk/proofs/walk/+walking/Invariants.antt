use Rattle.std.proofs.Common.{◌+◌, ◌*◌}
use Rattle.bl_simplify_walk.proofs.walk.+walking.Given as goal

abbrev pub decreases-walked : goal.decreases-walked
decreases-walked l = 8 * l.fuel

abbrev pub decreases-branch_walked : goal.decreases-branch_walked
decreases-branch_walked l = 8 * l.fuel + 1

abbrev pub decreases-stmt_walked : goal.decreases-stmt_walked
decreases-stmt_walked l = 8 * l.fuel + 1

abbrev pub decreases-split : goal.decreases-split
decreases-split l = 8 * l.fuel + 2

abbrev pub decreases-kept : goal.decreases-kept
decreases-kept l = 8 * l.fuel + 2

abbrev pub decreases-part : goal.decreases-part
decreases-part l = 8 * l.fuel + 3

abbrev pub decreases-gained : goal.decreases-gained
decreases-gained l = 8 * l.fuel + 3

abbrev pub decreases-best_part : goal.decreases-best_part
decreases-best_part l = 8 * l.fuel + 4

abbrev pub decreases-plan : goal.decreases-plan
decreases-plan l = 8 * l.fuel + 5

abbrev pub decreases-branched : goal.decreases-branched
decreases-branched l = 8 * l.fuel + 6

abbrev pub decreases-first_walked : goal.decreases-first_walked
decreases-first_walked l = 8 * l.fuel + 7
