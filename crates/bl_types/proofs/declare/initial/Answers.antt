use Rattle.std.proofs.Common.{◌∙◌, Some, ap, sym}
use Rattle.bl_types.specs.Declarations.{initial}
use Rattle.bl_types.specs.Expressions.{in_context, judged}
use Rattle.bl_types.specs.Failures.{noted}
use Rattle.bl_types.specs.Written.{bad_lengths, written_type}
use Rattle.bl_types.proofs.NoteLemmas.{then_noted}
use Rattle.bl_types.proofs.declare.initial.Goals as goal

pub returns-in_ok-value-in-Some-clause-value : goal.returns-in_ok-value-in-Some-clause-value
returns-in_ok-value-in-Some-clause-value c =
    let env = c.args.env.now in
    let e = c.args.e.now in
    let ty = c.in_ok-ty-in-Some.ensures.ty ∙ ap (λ constants. written_type constants c.in-Some.written) c.deref.ensures in
    c.in_ok-value-in-Some.ensures.made ∙ ap (λ ty. (in_context (Some ty) (judged env e)).made) ty
    ∙ ap (λ written. (initial env written e).valued.value) (sym c.in-Some.is)

pub returns-in_ok-value-in-Some-clause-notes : goal.returns-in_ok-value-in-Some-clause-notes
returns-in_ok-value-in-Some-clause-notes c =
    let env = c.args.env.now in
    let e = c.args.e.now in
    let written = c.in-Some.written in
    let ty = c.in_ok-ty-in-Some.ensures.ty ∙ ap (λ constants. written_type constants written) c.deref.ensures in
    then_noted c.args.notes.now c.typed.new.notes c.in_context.new.notes (bad_lengths env.constants written)
    (in_context (Some (written_type env.constants written)) (judged env e)).failures
    (initial env c.args.written.now e).failures
    (c.in_ok-ty-in-Some.ensures.notes ∙ ap (λ constants. noted c.args.notes.now (bad_lengths constants written)) c.deref.ensures)
    (ap (λ written. (initial env written e).failures) c.in-Some.is)
    (c.in_ok-value-in-Some.ensures.notes ∙ ap (λ ty. noted c.typed.new.notes (in_context (Some ty) (judged env e)).failures) ty)
