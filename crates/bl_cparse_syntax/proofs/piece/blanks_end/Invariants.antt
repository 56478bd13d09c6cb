use Rattle.std.proofs.Common.{◌≡◌, ◌-◌, ◌≤◌, length, drop}
use Rattle.bl_cparse_syntax.specs.Pieces.{pieces}
use Rattle.bl_cparse_syntax.proofs.piece.blanks_end.Given as goal

abbrev pub invariant-loop-end : goal.invariant-loop-end
invariant-loop-end l = record { inside : l.end ≤ length l.text; same : pieces (drop l.end l.text) ≡ pieces (drop l.at l.text) }

abbrev pub decreases-loop-end : goal.decreases-loop-end
decreases-loop-end l = length l.text - l.end
