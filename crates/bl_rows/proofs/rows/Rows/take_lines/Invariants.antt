use Rattle.std.proofs.Common.{length}
use Rattle.bl_rows.proofs.Scans.{Midst}
use Rattle.bl_rows.proofs.rows.Rows.take_lines.Given as goal

abbrev pub decreases-lines : goal.decreases-lines
decreases-lines l = length l.rest

abbrev pub invariant-lines : goal.invariant-lines
invariant-lines l = Midst l.fn.self l.fn.piece l.fn.into.items l.into.items l.self l.rest
