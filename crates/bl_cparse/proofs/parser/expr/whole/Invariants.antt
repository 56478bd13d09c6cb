use Rattle.std.proofs.Common.{◌≡◌, ◌+◌, ◌*◌, List, ◌++◌, IsTrue, length}
use Rattle.bl_cparse_syntax.specs.Grammar.{Wanted}
use Rattle.bl_cparse_syntax.specs.Expects.{Expects}
use Rattle.bl_cparse.specs.inner.Partial.{partial_tokens, spells_partial, work_left}
use Rattle.bl_cparse.specs.inner.Awaiting.{partial_wanted}
use Rattle.bl_cparse.proofs.parser.expr.whole.Given as goal

abbrev pub invariant-loop-r : goal.invariant-loop-r
invariant-loop-r l = record {
  read : (partial_tokens l.fn.partial ++ l.fn.r ≡ partial_tokens l.partial ++ l.r) × IsTrue (spells_partial l.partial);
  follows : (rest : List Wanted) → Expects (partial_wanted l.fn.partial ++ rest) l.fn.r → Expects (partial_wanted l.partial ++ rest) l.r;
}

abbrev pub decreases-loop-r : goal.decreases-loop-r
decreases-loop-r l = 2 * length l.r + work_left l.partial.next
