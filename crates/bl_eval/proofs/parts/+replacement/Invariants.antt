use Rattle.std.proofs.Common.{◌+◌, ◌*◌, length}
use Rattle.bl_eval.proofs.parts.+replacement.Given as goal

abbrev pub decreases-with_part : goal.decreases-with_part
decreases-with_part l = 2 * length l.positions.now

abbrev pub decreases-put : goal.decreases-put
decreases-put l = 2 * length l.rest.now + 1
