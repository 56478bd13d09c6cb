use Rattle.std.proofs.Common.{◌≡◌, ◌&&◌, not, map, rules, ap, sym, ◌∙◌}
use Rattle.std.specs.List.{list_all}
use Rattle.bl_tree.specs.declared.c.CExpr.{the_lemmas}
use Rattle.bl_tree.specs.declared.c.CIndex.{CIndex}
use Rattle.bl_simplify_laws.specs.Tables.{has_name}
use Rattle.bl_simplify_laws_frames.specs.Reached.{is_plain_expr, plain_call, plain_place}
use Rattle.bl_simplify_frames.specs.Plain.{plain_arg, plain_step}
use Rattle.bl_simplify_calls.proofs.Standing.{all_next, both_told, mapped_done}
use Rattle.bl_simplify_frames.proofs.OnKept.{of_boxed}
use Rattle.bl_simplify_frames.proofs.plain.+asking.Goals as goal

pub are_plain_args-loop-arg-preserved : goal.are_plain_args-loop-arg-preserved
are_plain_args-loop-arg-preserved t c = λ names has.
    all_next (λ a. (plain_arg names a).plain) c.args.args.now c.loop-arg.arg-index c.arg-item.result c.loop-arg.plain _ _ c.loop-arg-test.true
    c.arg-item.is (c.is_plain_arg-plain.ensures names has) (c.loop-arg.invariant names has)

pub are_plain_steps-loop-step-preserved : goal.are_plain_steps-loop-step-preserved
are_plain_steps-loop-step-preserved t c = λ names has.
    all_next (λ s. (plain_step names s).plain) c.args.steps.now c.loop-step.step-index c.step-item.result c.loop-step.plain _ _ c.loop-step-test.true
    c.step-item.is (c.is_plain_step-plain.ensures names has) (c.loop-step.invariant names has)

pub are_plain_args-returns : goal.are_plain_args-returns
are_plain_args-returns t c = λ names has.
    mapped_done (plain_arg names) (λ a. a.plain) c.args.args.now c.loop-arg.arg-index c.loop-arg.plain c.loop-arg-test.false
    (c.loop-arg.invariant names has)

pub are_plain_steps-returns : goal.are_plain_steps-returns
are_plain_steps-returns t c = λ names has.
    mapped_done (plain_step names) (λ s. s.plain) c.args.steps.now c.loop-step.step-index c.loop-step.plain c.loop-step-test.false
    (c.loop-step.invariant names has)

pub is_plain_place-returns : goal.is_plain_place-returns
is_plain_place-returns t c = λ names has.
    let is : (plain_place names c.args.place.now).plain ≡ list_all (λ s. s.plain) (map (plain_step names) c.deref.result.now)
    = search (rules, the_lemmas) in
    c.are_plain_steps.ensures names has ∙ sym is

pub is_plain_call-returns : goal.is_plain_call-returns
is_plain_call-returns t c = λ names has.
    let is : (plain_call names c.args.call.now).plain ≡ list_all (λ a. a.plain) (map (plain_arg names) c.args.call.now.args) = search (rules, the_lemmas) in
    c.are_plain_args.ensures names has ∙ (ap (λ l. list_all (λ a. a.plain) (map (plain_arg names) l)) c.deref.ensures ∙ sym is)

pub is_plain_expr-returns-in-Literal : goal.is_plain_expr-returns-in-Literal
is_plain_expr-returns-in-Literal t c = λ names has. search (rules, the_lemmas)

pub is_plain_expr-returns-in-Read : goal.is_plain_expr-returns-in-Read
is_plain_expr-returns-in-Read t c = λ names has.
    let is : is_plain_expr names c.args.e.now ≡ (plain_place names c.in-Read.place).plain = search (rules, the_lemmas) in
    c.is_plain_place.ensures names has ∙ sym is

pub is_plain_expr-returns-in-Call : goal.is_plain_expr-returns-in-Call
is_plain_expr-returns-in-Call t c = λ names has.
    let call = c.in-Call.call in
    let is : is_plain_expr names c.args.e.now ≡ ((plain_call names call).plain && not (has_name names call.name)) = search (rules, the_lemmas) in
    both_told _ _ _ _ _ (c.is_plain_call.ensures names has) (c.is_of_none.ensures names has) is

pub is_plain_expr-returns-in-Not : goal.is_plain_expr-returns-in-Not
is_plain_expr-returns-in-Not t c = λ names has.
    let is : is_plain_expr names c.args.e.now ≡ is_plain_expr names c.in-Not.operand = search (rules, the_lemmas) in
    of_boxed names _ _ _ (c.is_plain_expr.ensures names has) c.deref.ensures ∙ sym is

pub is_plain_expr-returns-in-Two : goal.is_plain_expr-returns-in-Two
is_plain_expr-returns-in-Two t c = λ names has.
    let is : is_plain_expr names c.args.e.now ≡ (is_plain_expr names c.in-Two.left && is_plain_expr names c.in-Two.right)
    = search (rules, the_lemmas) in
    both_told _ _ _ _ _ (of_boxed names _ _ _ (c.is_plain_expr-in-Two.ensures names has) c.deref-in-Two.ensures)
    (of_boxed names _ _ _ (c.is_plain_expr-in-Two-2.ensures names has) c.deref-in-Two-2.ensures) is

pub is_plain_step-returns-in-Some : goal.is_plain_step-returns-in-Some
is_plain_step-returns-in-Some t c = λ names has.
    let is : (plain_step names c.args.step.now).plain ≡ is_plain_expr names c.in-Some.index.at = search (rules, the_lemmas) in
    c.is_plain_expr.ensures names has ∙ (ap (λ (i : CIndex). is_plain_expr names i.at) c.deref.ensures ∙ sym is)

pub is_plain_step-returns-in-None : goal.is_plain_step-returns-in-None
is_plain_step-returns-in-None t c = λ names has. search (rules, the_lemmas)

pub is_plain_arg-returns-in-Value : goal.is_plain_arg-returns-in-Value
is_plain_arg-returns-in-Value t c = λ names has.
    let is : (plain_arg names c.args.arg.now).plain ≡ is_plain_expr names c.in-Value.value = search (rules, the_lemmas) in
    c.is_plain_expr.ensures names has ∙ sym is

pub is_plain_arg-returns-in-Address : goal.is_plain_arg-returns-in-Address
is_plain_arg-returns-in-Address t c = λ names has.
    let is : (plain_arg names c.args.arg.now).plain ≡ (plain_place names c.in-Address.place).plain = search (rules, the_lemmas) in
    c.is_plain_place.ensures names has ∙ sym is
