use Rattle.std.proofs.Common.{◌≡◌, ◌+◌, ◌∷◌, rules, ap, ◌∙◌, ◌&&◌, drop, map, option_map}
use Rattle.bl_tree.proofs.Basics.{drop_next}
use Rattle.bl_tree.specs.declared.c.CExpr.{the_lemmas}
use Rattle.bl_ctext_semantics.proofs.FirstLemmas.{first_place-append}
use Rattle.bl_ctext_semantics.proofs.ArgLemmas.{fit-next, handed-next, first-next, fit-done, type-next, place-next}
use Rattle.bl_ctext_semantics.specs.inner.Checked.{context_of, judged_args, signature_for, type_of, fits_nth}
use Rattle.bl_ctext_semantics.specs.Faults.{judged_arg, judged_step}
use Rattle.bl_ctext_semantics.proofs.check.expr.+judging.Goals as goal

pub judge_expr-returns-in-Not-clause-first : goal.judge_expr-returns-in-Not-clause-first
judge_expr-returns-in-Not-clause-first t c = search (rules, the_lemmas, first_place-append)

pub judge_expr-returns-in-Two-clause-first : goal.judge_expr-returns-in-Two-clause-first
judge_expr-returns-in-Two-clause-first t c = search (rules, the_lemmas, first_place-append)

pub judge_expr-returns-in-Call-clause-first : goal.judge_expr-returns-in-Call-clause-first
judge_expr-returns-in-Call-clause-first t c = search (rules, the_lemmas, first_place-append)

pub judge_index-returns-clause-first : goal.judge_index-returns-clause-first
judge_index-returns-clause-first t c = search (rules, the_lemmas, first_place-append)

pub judge_step-returns-in-Some-clause-first : goal.judge_step-returns-in-Some-clause-first
judge_step-returns-in-Some-clause-first t c = search (rules, the_lemmas, first_place-append)

pub judge_call-returns-clause-first : goal.judge_call-returns-clause-first
judge_call-returns-clause-first t c = search (rules, the_lemmas, first_place-append)

pub judge_args-loop-k-preserved : goal.judge_args-loop-k-preserved
judge_args-loop-k-preserved t c =
    let a = judged_arg c.index-args-k.result (context_of c.args.context.now) c.args.at in
    let rest = judged_args (drop (c.loop-k.k + 1) c.args.args.now) (context_of c.args.context.now) c.args.at in
    let all = judged_args (drop c.loop-k.k c.args.args.now) (context_of c.args.context.now) c.args.at in
    let step : all ≡ a ∷ rest =
    ap (λ xs. judged_args xs (context_of c.args.context.now) c.args.at)
    (drop_next c.args.args.now c.loop-k.k c.index-args-k.result c.loop-k-test.true c.index-args-k.is) in
    let fits : c.fits_at.result ≡ fits_nth (option_map signature_for c.args.callee.now) c.loop-k.k a.address a.ty =
    c.fits_at.ensures ∙ ap (λ b. fits_nth (option_map signature_for c.args.callee.now) c.loop-k.k b (option_map type_of c.judge_arg-arg.result.ty))
    c.judge_arg-arg.ensures.address
    ∙ ap (λ ty. fits_nth (option_map signature_for c.args.callee.now) c.loop-k.k a.address ty) c.judge_arg-arg.ensures.ty in
    let handed : c.both.result ≡ (a.address && a.through) =
    c.both.ensures ∙ ap (λ b. b && c.judge_arg-arg.result.through) c.judge_arg-arg.ensures.address
    ∙ ap (λ b. a.address && b) c.judge_arg-arg.ensures.through in (
      rw (c.both-fit.ensures, fits) (fit-next _ c.loop-k.k a rest all c.loop-k.fit _ step c.loop-k.invariant.0),
      rw (c.either-handed.ensures, handed) (handed-next a rest all c.loop-k.handed _ step c.loop-k.invariant.1),
      rw (c.earlier-first.ensures, c.judge_arg-arg.ensures.first) (first-next a rest all c.loop-k.first _ step c.loop-k.invariant.2),
    )

pub judge_args-returns-clause-fit : goal.judge_args-returns-clause-fit
judge_args-returns-clause-fit t c =
    rw (c.both-2.ensures, c.wants_at_most.ensures)
    (fit-done _ c.args.args.now c.loop-k.k (context_of c.args.context.now) c.args.at c.loop-k.fit _ c.loop-k-test.false c.loop-k.auto.k-end
    c.loop-k.invariant.0)

pub judge_steps-loop-step-preserved : goal.judge_steps-loop-step-preserved
judge_steps-loop-step-preserved t c =
    let all = map judged_step (drop c.loop-step.step-index c.args.steps.now) in
    let rest = map judged_step (drop (c.loop-step.step-index + 1) c.args.steps.now) in
    let step : all ≡ judged_step c.step-item.result ∷ rest =
    ap (map judged_step) (drop_next c.args.steps.now c.loop-step.step-index c.step-item.result c.loop-step-test.true c.step-item.is) in (
      type-next all rest (judged_step c.step-item.result) (context_of c.args.context.now) c.args.at (option_map type_of c.loop-step.ty) _ _ step
          c.judge_step-next.ensures.ty c.loop-step.invariant.0,
      rw (c.earlier-first.ensures, c.judge_step-next.ensures.first)
          (place-next all rest (judged_step c.step-item.result) (context_of c.args.context.now) c.args.at (option_map type_of c.loop-step.ty) _
          c.loop-step.first _ step c.judge_step-next.ensures.ty c.loop-step.invariant.1),
    )
