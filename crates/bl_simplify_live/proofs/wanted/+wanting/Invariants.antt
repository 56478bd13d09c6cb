use Rattle.std.proofs.Common.{◌+◌, ◌*◌}
use Rattle.bl_simplify_live.proofs.wanted.+wanting.Given as goal

abbrev pub decreases-of_last : goal.decreases-of_last
decreases-of_last l = 3 * l.fuel

abbrev pub decreases-of_if : goal.decreases-of_if
decreases-of_if l = 3 * l.fuel + 1

abbrev pub decreases-of_loop : goal.decreases-of_loop
decreases-of_loop l = 3 * l.fuel + 1

abbrev pub decreases-of_one : goal.decreases-of_one
decreases-of_one l = 3 * l.fuel + 2
