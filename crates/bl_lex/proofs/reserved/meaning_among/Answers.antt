use Rattle.std.proofs.Common.{sym}
use Rattle.bl_lex.proofs.ReservedWords.{absent-push, absent-here}
use Rattle.bl_lex.proofs.reserved.meaning_among.Goals as goal

pub loop-entry-preserved : goal.loop-entry-preserved
loop-entry-preserved c = absent-push _ _ _ c.loop-entry.invariant (absent-here _ _ _ _ _ c.loop-entry-test.true c.as_bytes.ensures.value (sym c.if-eq.ensures))
