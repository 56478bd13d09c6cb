use Rattle.std.proofs.Common.{rules}
use Rattle.bl_tree.specs.declared.c.CStmtKind.{the_lemmas}
use Rattle.bl_ctext_semantics.proofs.CallLemmas.{most-append, most-next}
use Rattle.bl_ctext_semantics.specs.Calls.{calls_in_stmt}
use Rattle.bl_ctext_semantics.specs.inner.Maps.{text_at}
use Rattle.bl_ctext_semantics.proofs.check.calls.+calling_statements.Goals as goal

pub most_in_block-loop-stmt-preserved : goal.most_in_block-loop-stmt-preserved
most_in_block-loop-stmt-preserved t c =
    rw (c.max-greatest.ensures, c.most_in_stmt.ensures)
    (most-next (text_at c.args.numbers.now) calls_in_stmt c.args.block.now c.loop-stmt.stmt-index c.stmt-item.result c.loop-stmt.greatest _
    c.loop-stmt-test.true c.stmt-item.is c.loop-stmt.invariant)

pub most_in_stmt-returns-in-Set : goal.most_in_stmt-returns-in-Set
most_in_stmt-returns-in-Set t c = search (rules, the_lemmas, most-append)

pub most_in_stmt-returns-in-If-default-default-Some : goal.most_in_stmt-returns-in-If-default-default-Some
most_in_stmt-returns-in-If-default-default-Some t c = search (rules, the_lemmas, most-append)

pub most_in_stmt-returns-in-If-default-default-None : goal.most_in_stmt-returns-in-If-default-default-None
most_in_stmt-returns-in-If-default-default-None t c = search (rules, the_lemmas, most-append)
