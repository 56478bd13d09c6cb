use Rattle.std.proofs.Common.{◌≡◌, ◌&&◌, ◌||◌, not, map, rules, ap, sym, ◌∙◌}
use Rattle.std.specs.List.{list_all}
use Rattle.bl_tree.specs.declared.c.CExpr.{the_lemmas}
use Rattle.bl_tree.specs.declared.c.CIndex.{CIndex}
use Rattle.bl_simplify_laws.specs.Tables.{calls_stand_in_call, calls_stand_in_expr, calls_stand_in_place, first_apart, has_name}
use Rattle.bl_simplify_calls.specs.Checks.{arg_check, step_check}
use Rattle.bl_simplify_calls.proofs.Standing.{all_next, both_told, mapped_done, of_boxed}
use Rattle.bl_simplify_calls.proofs.exprs.+standing.Goals as goal

pub in_args-loop-arg-preserved : goal.in_args-loop-arg-preserved
in_args-loop-arg-preserved t c = λ names has.
    all_next (λ a. (arg_check names a).stands) c.args.args.now c.loop-arg.arg-index c.arg-item.result c.loop-arg.stand _ _ c.loop-arg-test.true
    c.arg-item.is (c.in_arg-stand.ensures names has) (c.loop-arg.invariant names has)

pub in_steps-loop-step-preserved : goal.in_steps-loop-step-preserved
in_steps-loop-step-preserved t c = λ names has.
    all_next (λ s. (step_check names s).stands) c.args.steps.now c.loop-step.step-index c.step-item.result c.loop-step.stand _ _ c.loop-step-test.true
    c.step-item.is (c.in_step-stand.ensures names has) (c.loop-step.invariant names has)

pub in_args-returns : goal.in_args-returns
in_args-returns t c = λ names has.
    mapped_done (arg_check names) (λ a. a.stands) c.args.args.now c.loop-arg.arg-index c.loop-arg.stand c.loop-arg-test.false
    (c.loop-arg.invariant names has)

pub in_steps-returns : goal.in_steps-returns
in_steps-returns t c = λ names has.
    mapped_done (step_check names) (λ s. s.stands) c.args.steps.now c.loop-step.step-index c.loop-step.stand c.loop-step-test.false
    (c.loop-step.invariant names has)

pub in_place-returns : goal.in_place-returns
in_place-returns t c = λ names has.
    let is : (calls_stand_in_place names c.args.place.now).stands ≡ list_all (λ s. s.stands) (map (step_check names) c.deref.result.now)
    = search (rules, the_lemmas) in
    c.in_steps.ensures names has ∙ sym is

pub in_call-returns : goal.in_call-returns
in_call-returns t c = λ names has.
    let args = c.args.call.now.args in
    let is : calls_stand_in_call names c.args.call.now
    ≡ (list_all (λ a. a.stands) (map (arg_check names) args) && (not (has_name names c.args.call.now.name) || first_apart (map (arg_check names) args)))
    = search (rules, the_lemmas) in
    both_told _ _ _ _ _ (c.in_args.ensures names has ∙ ap (λ l. list_all (λ a. a.stands) (map (arg_check names) l)) c.deref.ensures)
    (c.fits_frame.ensures names has) is

pub in_expr-returns-in-Literal : goal.in_expr-returns-in-Literal
in_expr-returns-in-Literal t c = λ names has. search (rules, the_lemmas)

pub in_expr-returns-in-Read : goal.in_expr-returns-in-Read
in_expr-returns-in-Read t c = λ names has.
    let is : calls_stand_in_expr names c.args.e.now ≡ (calls_stand_in_place names c.in-Read.place).stands = search (rules, the_lemmas) in
    c.in_place.ensures names has ∙ sym is

pub in_expr-returns-in-Call : goal.in_expr-returns-in-Call
in_expr-returns-in-Call t c = λ names has.
    let is : calls_stand_in_expr names c.args.e.now ≡ calls_stand_in_call names c.in-Call.call = search (rules, the_lemmas) in
    c.in_call.ensures names has ∙ sym is

pub in_expr-returns-in-Not : goal.in_expr-returns-in-Not
in_expr-returns-in-Not t c = λ names has.
    let is : calls_stand_in_expr names c.args.e.now ≡ calls_stand_in_expr names c.in-Not.operand = search (rules, the_lemmas) in
    of_boxed names _ _ _ (c.in_expr.ensures names has) c.deref.ensures ∙ sym is

pub in_expr-returns-in-Two : goal.in_expr-returns-in-Two
in_expr-returns-in-Two t c = λ names has.
    let is : calls_stand_in_expr names c.args.e.now ≡ (calls_stand_in_expr names c.in-Two.left && calls_stand_in_expr names c.in-Two.right)
    = search (rules, the_lemmas) in
    both_told _ _ _ _ _ (of_boxed names _ _ _ (c.in_expr-in-Two.ensures names has) c.deref-in-Two.ensures)
    (of_boxed names _ _ _ (c.in_expr-in-Two-2.ensures names has) c.deref-in-Two-2.ensures) is

pub in_step-returns-in-Some : goal.in_step-returns-in-Some
in_step-returns-in-Some t c = λ names has.
    let is : (step_check names c.args.step.now).stands ≡ calls_stand_in_expr names c.in-Some.index.at = search (rules, the_lemmas) in
    c.in_expr.ensures names has ∙ (ap (λ (i : CIndex). calls_stand_in_expr names i.at) c.deref.ensures ∙ sym is)

pub in_step-returns-in-None : goal.in_step-returns-in-None
in_step-returns-in-None t c = λ names has. search (rules, the_lemmas)

pub in_arg-returns-in-Value : goal.in_arg-returns-in-Value
in_arg-returns-in-Value t c = λ names has.
    let is : (arg_check names c.args.arg.now).stands ≡ calls_stand_in_expr names c.in-Value.value = search (rules, the_lemmas) in
    c.in_expr.ensures names has ∙ sym is

pub in_arg-returns-in-Address : goal.in_arg-returns-in-Address
in_arg-returns-in-Address t c = λ names has.
    let is : (arg_check names c.args.arg.now).stands ≡ (calls_stand_in_place names c.in-Address.place).stands = search (rules, the_lemmas) in
    c.in_place.ensures names has ∙ sym is
