use Rattle.bl_tree.proofs.Basics.{drop_next}
use Rattle.bl_names_scopes.specs.Marks.{expr_marks, marks_of_part}
use Rattle.bl_names_scopes.proofs.WalkLemmas.{judged-next, then_is, two_out}
use Rattle.bl_names_scopes.proofs.expr.+expressions.Goals as goal

pub expr-returns-in-Two : goal.expr-returns-in-Two
expr-returns-in-Two t c =
    then_is c.args.judge.now c.expr.new.judge c.expr-in-Two.new.judge (expr_marks c.deref.result.now) (expr_marks c.deref-in-Two.result.now)
    (expr_marks c.args.e.now) c.expr.ensures c.expr-in-Two.ensures
    (two_out c.args.e.now c.in-Two.field-0 c.in-Two.a c.in-Two.b c.deref.result.now c.deref-in-Two.result.now c.in-Two.is c.deref.ensures
    c.deref-in-Two.ensures)

pub exprs-loop-e-preserved : goal.exprs-loop-e-preserved
exprs-loop-e-preserved t c =
    rw c.expr.ensures
    (judged-next expr_marks _ _ c.e-item.result c.loop-e.judge _ (drop_next c.args.all.now c.loop-e.e-index c.e-item.result c.loop-e-test.true c.e-item.is)
    c.loop-e.invariant)

pub parts-loop-one-preserved : goal.parts-loop-one-preserved
parts-loop-one-preserved t c =
    rw c.part.ensures
    (judged-next marks_of_part _ _ c.one-item.result c.loop-one.judge _
    (drop_next c.args.all.now c.loop-one.one-index c.one-item.result c.loop-one-test.true c.one-item.is) c.loop-one.invariant)
