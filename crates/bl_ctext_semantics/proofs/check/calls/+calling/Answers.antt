use Rattle.std.proofs.Common.{rules}
use Rattle.bl_tree.specs.declared.c.CExpr.{the_lemmas}
use Rattle.bl_ctext_semantics.proofs.CallLemmas.{most-append, most-next}
use Rattle.bl_ctext_semantics.specs.Calls.{calls_in_arg, calls_in_step}
use Rattle.bl_ctext_semantics.specs.inner.Maps.{text_at}
use Rattle.bl_ctext_semantics.proofs.check.calls.+calling.Goals as goal

pub most_in_args-loop-arg-preserved : goal.most_in_args-loop-arg-preserved
most_in_args-loop-arg-preserved t c =
    rw (c.max-greatest.ensures, c.most_in_arg.ensures)
    (most-next (text_at c.args.numbers.now) calls_in_arg c.args.args.now c.loop-arg.arg-index c.arg-item.result c.loop-arg.greatest _ c.loop-arg-test.true
    c.arg-item.is c.loop-arg.invariant)

pub most_in_expr-returns-in-Two : goal.most_in_expr-returns-in-Two
most_in_expr-returns-in-Two t c = search (rules, the_lemmas, most-append)

pub most_in_steps-loop-step-preserved : goal.most_in_steps-loop-step-preserved
most_in_steps-loop-step-preserved t c =
    rw (c.max-greatest.ensures, c.most_in_step.ensures)
    (most-next (text_at c.args.numbers.now) calls_in_step c.args.steps.now c.loop-step.step-index c.step-item.result c.loop-step.greatest _
    c.loop-step-test.true c.step-item.is c.loop-step.invariant)
