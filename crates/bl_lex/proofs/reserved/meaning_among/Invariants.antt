use Rattle.std.proofs.Common.{◌≢◌, ℕ, ◌<◌, get_or}
use Rattle.bl_lex.specs.declared.reserved.Reserved.{Reserved}
use Rattle.bl_lex.proofs.reserved.meaning_among.Given as goal

abbrev pub invariant-loop-entry : goal.invariant-loop-entry
invariant-loop-entry l = (k : ℕ) (d : Reserved) → k < l.entry-index → (get_or l.entries k d).text.now ≢ l.word
