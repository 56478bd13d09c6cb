use Rattle.std.proofs.Common.{◌≡◌, ◌+◌, rules, subst, drop, map}
use Rattle.bl_tree.proofs.Basics.{drop_next}
use Rattle.bl_tree.specs.declared.c.CStmtKind.{the_lemmas}
use Rattle.bl_ctext_semantics.proofs.FirstLemmas.{first_place-append, fault-next}
use Rattle.bl_ctext_semantics.specs.inner.Checked.{context_of}
use Rattle.bl_ctext_semantics.specs.Faults.{block_faults, earlier_of, faults_in_stmt, first_place}
use Rattle.bl_ctext_semantics.proofs.check.stmt.+statements.Goals as goal

pub judge_block-loop-stmt-preserved : goal.judge_block-loop-stmt-preserved
judge_block-loop-stmt-preserved t c =
    let ctx = context_of c.args.context.now in
    let step = drop_next c.args.block.now c.loop-stmt.stmt-index c.stmt-item.result c.loop-stmt-test.true c.stmt-item.is in
    let whole = subst (λ xs. earlier_of c.loop-stmt.first (first_place (block_faults (map faults_in_stmt xs) ctx c.args.looped))
    ≡ first_place (block_faults (map faults_in_stmt c.args.block.now) ctx c.args.looped)) step c.loop-stmt.invariant in
    rw (c.earlier-first.ensures, c.judge_stmt.ensures)
    (fault-next (faults_in_stmt c.stmt-item.result ctx c.args.looped)
    (map (λ faults. faults ctx c.args.looped) (map faults_in_stmt (drop (c.loop-stmt.stmt-index + 1) c.args.block.now))) c.loop-stmt.first _ whole)

pub judge_stmt-returns-in-If-default-default-Some : goal.judge_stmt-returns-in-If-default-default-Some
judge_stmt-returns-in-If-default-default-Some t c = search (rules, the_lemmas, first_place-append)

pub judge_stmt-returns-in-If-default-default-None : goal.judge_stmt-returns-in-If-default-default-None
judge_stmt-returns-in-If-default-default-None t c = search (rules, the_lemmas, first_place-append)

pub judge_stmt-returns-in-Loop : goal.judge_stmt-returns-in-Loop
judge_stmt-returns-in-Loop t c = search (rules, the_lemmas, first_place-append)
