use Rattle.std.proofs.Common.{◌≡◌, ℕ, drop, map}
use Rattle.bl_emit_acts.specs.Sites.{site_in}
use Rattle.bl_machine_transitions.specs.Told.{rule_in}
use Rattle.bl_emit_tables.specs.Words.{kept_word, word_told}
use Rattle.bl_emit_tables.proofs.words.words_of.Given as goal

abbrev pub invariant-loop-k : goal.invariant-loop-k
invariant-loop-k l = (k : ℕ) → kept_word l.words k ≡ word_told (site_in l.site) (map rule_in (drop l.k l.rules)) k
