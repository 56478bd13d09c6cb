use Rattle.std.proofs.Common.{◌≡◌, take}
use Rattle.bl_link_files.proofs.turns.judged_in_turn.Given as goal

abbrev pub invariant-loop-k : goal.invariant-loop-k
invariant-loop-k l = record {
  count : l.judged.count ≡ l.count;
  texts : l.judged.texts ≡ take l.k l.texts;
}
