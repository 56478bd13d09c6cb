use Rattle.std.proofs.Common.{◌≡◌, ℕ, ◌-◌, ◌<◌, ◌≤◌, true, length, get_or}
use Rattle.bl_lex.specs.Spelling.{is_word_byte}
use Rattle.bl_lex.proofs.piece.word_end.Given as goal

abbrev pub invariant-loop-end : goal.invariant-loop-end
invariant-loop-end l = record {
  after : l.at < l.end;
  inside : l.end ≤ length l.text;
  each : (i : ℕ) → l.at ≤ i → i < l.end →
      is_word_byte (get_or l.text i 0) ≡ true;
}

abbrev pub decreases-loop-end : goal.decreases-loop-end
decreases-loop-end l = length l.text - l.end
