use Rattle.std.proofs.Common.{rules}
use Rattle.bl_tree.specs.declared.c.CExpr.{the_lemmas}
use Rattle.bl_ctext_semantics.specs.Calls.{calls_in_arg, calls_in_step}
use Rattle.bl_bound.specs.inner.Capped.{costs_in}
use Rattle.bl_bound.proofs.CapLemmas.{calls-done, calls-next, cap-calls}
use Rattle.bl_bound.proofs.calls.+calling.Goals as goal

pub in_args-loop-arg-preserved : goal.in_args-loop-arg-preserved
in_args-loop-arg-preserved t c =
    calls-next (costs_in c.args.known.now) calls_in_arg c.args.args.now c.loop-arg.arg-index c.arg-item.result _ _ _ _ c.loop-arg-test.true
    c.arg-item.is c.in_arg.ensures c.plus-cost.ensures c.loop-arg.invariant

pub in_steps-loop-step-preserved : goal.in_steps-loop-step-preserved
in_steps-loop-step-preserved t c =
    calls-next (costs_in c.args.known.now) calls_in_step c.args.steps.now c.loop-step.step-index c.step-item.result _ _ _ _ c.loop-step-test.true
    c.step-item.is c.in_step.ensures c.plus-cost.ensures c.loop-step.invariant

pub in_args-returns : goal.in_args-returns
in_args-returns t c =
    calls-done (costs_in c.args.known.now) calls_in_arg c.args.args.now c.loop-arg.arg-index c.loop-arg.cost _ c.loop-arg-test.false
    c.loop-arg.invariant

pub in_steps-returns : goal.in_steps-returns
in_steps-returns t c =
    calls-done (costs_in c.args.known.now) calls_in_step c.args.steps.now c.loop-step.step-index c.loop-step.cost _ c.loop-step-test.false
    c.loop-step.invariant

pub in_expr-returns-in-Two : goal.in_expr-returns-in-Two
in_expr-returns-in-Two t c = search (rules, the_lemmas, cap-calls)
