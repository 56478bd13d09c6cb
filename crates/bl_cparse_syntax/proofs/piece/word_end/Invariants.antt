use Rattle.std.proofs.Common.{◌≡◌, ◌-◌, ◌<◌, ◌≤◌, true, length}
use Rattle.std.specs.Prelude.{slice_range}
use Rattle.bl_ctext.specs.Token.{is_word}
use Rattle.bl_cparse_syntax.proofs.piece.word_end.Given as goal

abbrev pub invariant-loop-end : goal.invariant-loop-end
invariant-loop-end l = record { beyond : l.start < l.end; inside : l.end ≤ length l.text; word : is_word (slice_range l.text l.start l.end) ≡ true }

abbrev pub decreases-loop-end : goal.decreases-loop-end
decreases-loop-end l = length l.text - l.end
