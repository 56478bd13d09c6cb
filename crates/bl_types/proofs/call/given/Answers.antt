use Rattle.std.proofs.Common.{◌∙◌, ◌++◌, ◌&&◌, ap, length, map, nat_eq, refl, sym}
use Rattle.std.proofs.lemmas.List.{length-map}
use Rattle.std.specs.Prelude.{slice_get}
use Rattle.bl_types.specs.Expressions.{all_failures, all_made, fitted, judged, params_of}
use Rattle.bl_types.specs.Failures.{noted}
use Rattle.bl_types.specs.Statements.{all_lent, counted, outputs_wanted, paths_failures, paths_made}
use Rattle.bl_types.proofs.CallLemmas.{all_lent-length}
use Rattle.bl_types.proofs.JudgedLemmas.{fitted-length}
use Rattle.bl_types.proofs.NoteLemmas.{then_noted}
use Rattle.bl_types.proofs.call.given.Goals as goal

pub returns-clause-complete : goal.returns-clause-complete
returns-clause-complete c =
    let env = c.args.env.now in
    let inputs = map (judged env) c.args.inputs.now in
    let callee = c.element-callee.ensures ∙ ap (λ units. slice_get units c.args.f) c.deref.ensures in
    let params = c.inputs_of.ensures ∙ ap params_of callee in
    let wanted = c.outputs_of.ensures ∙ ap outputs_wanted callee in
    let made = c.in_ok-made.ensures.made ∙ ap (λ params. all_made (fitted inputs params)) params in
    let lent = c.in_ok-lent.ensures.made ∙ ap (λ params. paths_made (all_lent env c.args.outputs.now params)) wanted in
    let count = sym (fitted-length inputs (params_of (slice_get env.units c.args.f)) ∙ length-map c.args.inputs.now (judged env)) in
    let other = sym (all_lent-length env c.args.outputs.now (outputs_wanted (slice_get env.units c.args.f))) in
    λ i. nat_eq ((c.len.ensures ∙ ap (λ l. length l) made) i) (count i) && nat_eq ((c.len-2.ensures ∙ ap (λ l. length l) lent) i) (other i)

pub returns-clause-notes : goal.returns-clause-notes
returns-clause-notes c =
    let env = c.args.env.now in
    let inputs = map (judged env) c.args.inputs.now in
    let callee = c.element-callee.ensures ∙ ap (λ units. slice_get units c.args.f) c.deref.ensures in
    let params = c.inputs_of.ensures ∙ ap params_of callee in
    let wanted = c.outputs_of.ensures ∙ ap outputs_wanted callee in
    let first = fitted inputs (params_of (slice_get env.units c.args.f)) in
    let second = all_lent env c.args.outputs.now (outputs_wanted (slice_get env.units c.args.f)) in
    let count = sym (fitted-length inputs (params_of (slice_get env.units c.args.f)) ∙ length-map c.args.inputs.now (judged env)) in
    let other = sym (all_lent-length env c.args.outputs.now (outputs_wanted (slice_get env.units c.args.f))) in
    let last = counted c.args.at (length first) (length second) (slice_get env.units c.args.f) in
    then_noted c.args.notes.now c.arguments.new.notes c.counted.new.notes (all_failures first) (paths_failures second ++ last)
    (all_failures first ++ (paths_failures second ++ last))
    (c.in_ok-made.ensures.notes ∙ ap (λ params. noted c.args.notes.now (all_failures (fitted inputs params))) params) refl
    (then_noted c.arguments.new.notes c.all_lent.new.notes c.counted.new.notes (paths_failures second) last (paths_failures second ++ last)
    (c.in_ok-lent.ensures.notes ∙ ap (λ params. noted c.arguments.new.notes (paths_failures (all_lent env c.args.outputs.now params))) wanted) refl
    (c.counted.ensures ∙ (λ i. noted c.all_lent.new.notes (counted c.args.at (count i) (other i) (callee i)))))
