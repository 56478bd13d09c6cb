-- The first rule that fails for the text is told with its number.
use Rattle.std.proofs.Common.{◌++◌, ◌∷◌, [], subst, sym}
use Rattle.bl_link.specs.Files.{FailsAtFile, NextStops}
use Rattle.bl_module.specs.declared.fault.PartFault.{PartFault}
use Rattle.bl_link_files.proofs.turns.with_text.Goals as goal

pub returns-in-Err-Rule-clause-fault : goal.returns-in-Err-Rule-clause-fault
returns-in-Err-Rule-clause-fault c = (
  c.requires.number,
  subst (λ number. FailsAtFile c.args.judged.count (c.args.judged.texts ++ c.args.text.now ∷ []) number c.in-Err-Rule.rule c.in-Err-Rule.place
      c.in-Err-Rule.also) (sym c.requires.number)
      (subst (λ (told : PartFault). NextStops c.args.judged.count c.args.judged.texts c.args.text.now told) c.in-Err-Rule.field-0-is
      c.in-Err-Rule.ensures.fault),
)
