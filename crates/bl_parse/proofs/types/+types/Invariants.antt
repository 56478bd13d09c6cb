use Rattle.std.proofs.Common.{◌+◌, ◌-◌, ◌*◌, length}
use Rattle.bl_parse.proofs.types.+types.Given as goal

abbrev pub decreases-read_type : goal.decreases-read_type
decreases-read_type l = 2 * (length l.source.now.tokens.now - l.at.now) + 1

abbrev pub decreases-array : goal.decreases-array
decreases-array l = 2 * (length l.source.now.tokens.now - l.at.now)
