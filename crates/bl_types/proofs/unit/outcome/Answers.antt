use Rattle.std.proofs.Common.{◌∙◌, ap}
use Rattle.std.specs.Prelude.{is_some}
use Rattle.bl_tree.specs.declared.rule.Rule.TheVariants as rule
use Rattle.bl_tree.specs.Types.{scalar_in}
use Rattle.bl_types.specs.Failures.{noted, unless}
use Rattle.bl_types.specs.Units.{result_of}
use Rattle.bl_types.specs.Written.{bad_lengths, written_type}
use Rattle.bl_types.proofs.NoteLemmas.{then_noted}
use Rattle.bl_types.proofs.unit.outcome.Goals as goal

pub returns-clause-notes : goal.returns-clause-notes
returns-clause-notes c =
    let env = c.args.env.now in
    let written = c.in-Some.written in
    let ty = c.in_ok-ty.ensures.ty ∙ ap (λ constants. written_type constants written) c.deref.ensures in
    then_noted c.args.notes.now c.typed.new.notes c.scalar_outcome.new.notes (bad_lengths env.constants written)
    (unless (is_some (scalar_in (written_type env.constants written))) rule.Type c.args.name)
    (result_of env c.args.name c.args.written.now).failures
    (c.in_ok-ty.ensures.notes ∙ ap (λ constants. noted c.args.notes.now (bad_lengths constants written)) c.deref.ensures)
    (ap (λ written. (result_of env c.args.name written).failures) c.in-Some.is)
    (c.scalar_outcome.ensures.notes ∙ ap (λ ty. noted c.typed.new.notes (unless (is_some (scalar_in ty)) rule.Type c.args.name)) ty)
