use Rattle.std.proofs.Common.{ℕ, ◌+◌, ◌-◌, ◌<◌, ◌≤◌, length}
use Rattle.bl_lex.specs.Pieces.{ClosesComment}
use Rattle.bl_lex.proofs.piece.comment_end.Given as goal

abbrev pub invariant-loop-star : goal.invariant-loop-star
invariant-loop-star l = record {
  after : l.at + 2 ≤ l.star;
  inside : l.star ≤ length l.text;
  not_closed : (i : ℕ) → l.at + 2 ≤ i →
      i < l.star → ¬ ClosesComment l.text i;
}

abbrev pub decreases-loop-star : goal.decreases-loop-star
decreases-loop-star l = length l.text - l.star
