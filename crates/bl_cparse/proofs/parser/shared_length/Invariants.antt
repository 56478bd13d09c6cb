use Rattle.std.proofs.Common.{◌≡◌, ℕ, ◌-◌, ◌<◌, ◌≤◌, length, get_or}
use Rattle.bl_cparse.proofs.parser.shared_length.Given as goal

abbrev pub invariant-loop-shared : goal.invariant-loop-shared
invariant-loop-shared l = record {
  text : l.shared ≤ length l.text;
  other : l.shared ≤ length l.other;
  same : (k : ℕ) → k < l.shared → get_or l.text k 0 ≡ get_or l.other k 0;
}

abbrev pub decreases-loop-shared : goal.decreases-loop-shared
decreases-loop-shared l = length l.text - l.shared
