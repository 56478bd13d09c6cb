use Rattle.std.proofs.Common.{◌≡◌, ◌∙◌, ◌++◌, ◌+◌, ap, sym, refl, Bor, map, drop, length, Option, nat_eq}
use Rattle.std.proofs.lemmas.List.{length-map}
use Rattle.std.specs.Prelude.{option_and_then, option_map, slice_get}
use Rattle.bl_tree.proofs.Basics.{drop_next}
use Rattle.bl_tree.specs.declared.tree.Ty.{Ty}
use Rattle.bl_names_tree.specs.declared.expr.NamedExpr.{out-NamedExpr}
use Rattle.bl_types.specs.Expressions.{all_failures, all_made, but_first, call_form, cast_formed, first_type, fitted, fitting, in_context, judged, misnamed}
use Rattle.bl_types.specs.Expressions.{one_formed, params_of, step_of, stepped, to_element, two_formed}
use Rattle.bl_types.specs.Failures.{noted}
use Rattle.bl_types.proofs.GatherLemmas.{made_none, made_one}
use Rattle.bl_types.proofs.JudgedLemmas.{cast_judged, fitted-length, in_context_is, index_judged, one_judged, two_judged}
use Rattle.bl_types.proofs.NoteLemmas.{next_noted, noted-append, then_noted, then_noted_ok}
use Rattle.bl_types.proofs.expr.+expressions.Goals as goal
use Rattle.bl_types.proofs.expr.+expressions.Goals.{arguments-in-Some+in_ok-push, arguments-in_default, steps-in-Some+in_ok-push, steps-in_default}

pub judge-returns-in_ok-a-in-One-clause-notes : goal.judge-returns-in_ok-a-in-One-clause-notes
judge-returns-in_ok-a-in-One-clause-notes t c =
    let env = c.args.env.now in
    let e = c.args.e.now in
    then_noted_ok c.of_one.result c.args.notes.now c.judge.new.notes c.of_one.new.notes (judged env c.deref.result.now).failures
    (one_formed (out-NamedExpr e).place c.in-One.op c.in_ok-a-in-One.a).failures (judged env e).failures c.in_ok-a-in-One.ensures.notes
    (one_judged env e c.in-One.op c.in-One.a c.deref.result.now c.in_ok-a-in-One.a c.in-One.is c.deref.ensures
    c.in_ok-a-in-One.ensures.form) c.of_one.ensures.notes

pub judge-returns-in_ok-a-in-Cast-clause-notes : goal.judge-returns-in_ok-a-in-Cast-clause-notes
judge-returns-in_ok-a-in-Cast-clause-notes t c =
    let env = c.args.env.now in
    let e = c.args.e.now in
    then_noted_ok c.of_cast.result c.args.notes.now c.judge-in-Cast.new.notes c.of_cast.new.notes (judged env c.deref-in-Cast.result.now).failures
    (cast_formed (out-NamedExpr e).place c.in-Cast.target c.in_ok-a-in-Cast.a).failures (judged env e).failures c.in_ok-a-in-Cast.ensures.notes
    (cast_judged env e c.in-Cast.target c.in-Cast.a c.deref-in-Cast.result.now c.in_ok-a-in-Cast.a c.in-Cast.is
    c.deref-in-Cast.ensures c.in_ok-a-in-Cast.ensures.form) c.of_cast.ensures.notes

pub judge-returns-in_ok-b-in-Two-clause-notes : goal.judge-returns-in_ok-b-in-Two-clause-notes
judge-returns-in_ok-b-in-Two-clause-notes t c =
    let env = c.args.env.now in
    let e = c.args.e.now in
    let first = (judged env c.deref-in-Two.result.now).failures in
    let second = (judged env c.deref-in-Two-2.result.now).failures in
    then_noted_ok c.of_two.result c.args.notes.now c.judge-in-Two-2.new.notes c.of_two.new.notes (first ++ second)
    (two_formed (out-NamedExpr e).place c.in-Two.op c.in_ok-a-in-Two.a c.in_ok-b-in-Two.b).failures (judged env e).failures
    (c.in_ok-b-in-Two.ensures.notes ∙ ap (λ n. noted n second) c.in_ok-a-in-Two.ensures.notes ∙ sym (noted-append c.args.notes.now first second))
    (two_judged env e c.in-Two.op c.in-Two.a c.in-Two.b c.deref-in-Two.result.now c.deref-in-Two-2.result.now c.in_ok-a-in-Two.a c.in_ok-b-in-Two.b c.in-Two.is
    c.deref-in-Two.ensures c.deref-in-Two-2.ensures c.in_ok-a-in-Two.ensures.form c.in_ok-b-in-Two.ensures.form)
    c.of_two.ensures.notes

pub in_context-returns-clause-notes : goal.in_context-returns-clause-notes
in_context-returns-clause-notes t c =
    let env = c.args.env.now in
    let e = c.args.e.now in
    let wanted : Option Ty = option_map {T = Bor Ty} {U = Ty} (λ ty. ty.now) c.args.wanted in
    then_noted_ok c.fitted.result c.args.notes.now c.judge.new.notes c.fitted.new.notes (judged env e).failures
    (fitting wanted (out-NamedExpr e).place c.in_ok-form.form).failures (in_context wanted (judged env e)).failures c.in_ok-form.ensures.notes
    (in_context_is env wanted e c.in_ok-form.form c.in_ok-form.ensures.form) c.fitted.ensures.notes

pub step-returns-in_ok-form-in-Index-clause-notes : goal.step-returns-in_ok-form-in-Index-clause-notes
step-returns-in_ok-form-in-Index-clause-notes t c =
    let env = c.args.env.now in
    let e = c.in-Index.e in
    then_noted_ok c.to_element.result c.args.notes.now c.judge.new.notes c.to_element.new.notes (judged env e).failures
    (to_element (out-NamedExpr e).place c.in_ok-form-in-Index.form c.args.ty).failures
    (step_of env c.args.part.now c.args.ty).failures c.in_ok-form-in-Index.ensures.notes
    (index_judged env c.args.part.now e c.args.ty c.in_ok-form-in-Index.form c.in-Index.is c.in_ok-form-in-Index.ensures.form) c.to_element.ensures.notes

pub call-returns-clause-form : goal.call-returns-clause-form
call-returns-clause-form t c =
    let env = c.args.env.now in
    let inputs = map (judged env) c.args.inputs.now in
    let callee = c.element-callee.ensures ∙ ap (λ units. slice_get units c.args.f) c.deref.ensures in
    let params = c.inputs_of.ensures ∙ ap params_of callee in
    let made = c.in_ok-made.ensures.made ∙ ap (λ params. all_made (fitted inputs params)) params in
    let count = sym (fitted-length inputs (params_of (slice_get env.units c.args.f)) ∙ length-map c.args.inputs.now (judged env)) in
    c.call_form.ensures
    ∙ (λ i. call_form c.args.at c.args.f (made i) (nat_eq ((c.len.ensures ∙ ap (λ l. length l) made) i) (count i))
    ((c.result_of.ensures ∙ ap (option_and_then (λ unit. unit.result)) callee) i))

pub call-returns-clause-notes : goal.call-returns-clause-notes
call-returns-clause-notes t c =
    let env = c.args.env.now in
    let inputs = map (judged env) c.args.inputs.now in
    let callee = c.element-callee.ensures ∙ ap (λ units. slice_get units c.args.f) c.deref.ensures in
    let params = c.inputs_of.ensures ∙ ap params_of callee in
    let all = fitted inputs (params_of (slice_get env.units c.args.f)) in
    let count = sym (fitted-length inputs (params_of (slice_get env.units c.args.f)) ∙ length-map c.args.inputs.now (judged env)) in
    then_noted c.args.notes.now c.arguments.new.notes c.misnamed.new.notes (all_failures all) (misnamed c.args.name (length all) (slice_get env.units c.args.f))
    (all_failures all ++ misnamed c.args.name (length all) (slice_get env.units c.args.f))
    (c.in_ok-made.ensures.notes ∙ ap (λ params. noted c.args.notes.now (all_failures (fitted inputs params))) params) refl
    (c.misnamed.ensures ∙ (λ i. noted c.arguments.new.notes (misnamed c.args.name (count i) (callee i))))

pub arguments-loop-e-preserved : goal.arguments-loop-e-preserved
arguments-loop-e-preserved t c =
    let env = c.args.env.now in
    let e = c.e-item.result in
    let rest = map (judged env) (drop (c.loop-e.e-index + 1) c.args.all.now) in
    let step = drop_next c.args.all.now c.loop-e.e-index e c.loop-e-test.true c.e-item.is in
    let argument = in_context (first_type c.loop-e.params.now) (judged env e) in
    let given = in_context (option_map {T = Bor Ty} {U = Ty} (λ ty. ty.now) c.first_type.result) (judged env e) in
    let same : given ≡ argument = ap (λ wanted. in_context wanted (judged env e)) c.first_type.ensures in
    let made = sym (ap (λ l. c.loop-e.made ++ all_made (fitted (map (judged env) l) c.loop-e.params.now)) step) ∙ c.loop-e.invariant.0 in
    let noted_all = sym (ap (λ l. noted c.loop-e.notes (all_failures (fitted (map (judged env) l) c.loop-e.params.now))) step) ∙ c.loop-e.invariant.1 in (
      (λ i. c.match-branch-2.made ++ all_made (fitted rest (c.but_first-params.ensures i)))
          ∙ elim c.match-branch-2.branch [
            | arguments-in-Some+in_ok-push w ↦
                made_one c.loop-e.made c.match-branch-2.made (all_made (fitted rest (but_first c.loop-e.params.now))) _ argument.made w.in-Some.argument
                (sym (c.in_ok-argument.ensures.made ∙ ap (λ s. s.made) same) ∙ w.in-Some.is) (w.made-is ∙ w.in_ok-push.ensures.ok) made
            | arguments-in_default w ↦
                made_none c.loop-e.made c.match-branch-2.made (all_made (fitted rest (but_first c.loop-e.params.now))) _ argument.made
                (sym (c.in_ok-argument.ensures.made ∙ ap (λ s. s.made) same) ∙ w.in_default.is) w.made-is made
          ],
      (λ i. noted c.in_context.new.notes (all_failures (fitted rest (c.but_first-params.ensures i))))
          ∙ next_noted c.loop-e.notes c.in_context.new.notes _ argument.failures given.failures
          (all_failures (fitted rest (but_first c.loop-e.params.now))) c.in_ok-argument.ensures.notes
          (ap (λ s. s.failures) same) noted_all,
    )

pub steps-loop-part-preserved : goal.steps-loop-part-preserved
steps-loop-part-preserved t c =
    let env = c.args.env.now in
    let part = c.part-item.result in
    let rest = map (step_of env) (drop (c.loop-part.part-index + 1) c.args.all.now) in
    let step = drop_next c.args.all.now c.loop-part.part-index part c.loop-part-test.true c.part-item.is in
    let first = step_of env part c.loop-part.ty in
    let made = sym (ap (λ l. c.loop-part.parts ++ (stepped (map (step_of env) l) c.loop-part.ty).parts) step) ∙ c.loop-part.invariant.1.0 in
    let noted_all = sym (ap (λ l. noted c.loop-part.notes (stepped (map (step_of env) l) c.loop-part.ty).failures) step) ∙ c.loop-part.invariant.1.1 in (
      ap (λ ty. (stepped rest ty).ty) c.in_ok-next.ensures.ty
          ∙ sym (ap (λ l. (stepped (map (step_of env) l) c.loop-part.ty).ty) step) ∙ c.loop-part.invariant.0,
      (
        (λ i. c.match-made.parts ++ (stepped rest (c.in_ok-next.ensures.ty i)).parts)
            ∙ elim c.match-made.branch [
              | steps-in-Some+in_ok-push w ↦
                  made_one c.loop-part.parts c.match-made.parts (stepped rest first.ty).parts _ first.part w.in-Some.made
                  (sym c.in_ok-next.ensures.part ∙ w.in-Some.is) (w.parts-is ∙ w.in_ok-push.ensures.ok) made
              | steps-in_default w ↦
                  made_none c.loop-part.parts c.match-made.parts (stepped rest first.ty).parts _ first.part
                  (sym c.in_ok-next.ensures.part ∙ w.in_default.is) w.parts-is made
            ],
        (λ i. noted c.step.new.notes (stepped rest (c.in_ok-next.ensures.ty i)).failures)
            ∙ next_noted c.loop-part.notes c.step.new.notes _ first.failures first.failures
            (stepped rest first.ty).failures c.in_ok-next.ensures.notes refl noted_all,
      ),
    )
