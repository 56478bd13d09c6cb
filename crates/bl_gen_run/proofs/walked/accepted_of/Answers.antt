-- What is judged is the text of so many stages.
use Rattle.std.proofs.Common.{◌∙◌, subst}
use Rattle.bl_rules.specs.Accepted.{HasProgram}
use Rattle.bl_rules.specs.Rules.{Fails}
use Rattle.bl_tree.specs.Rules.{IsCause}
use Rattle.bl_gen_run.proofs.walked.accepted_of.Goals as goal

pub returns-in-Ok-accept-clause-program : goal.returns-in-Ok-accept-clause-program
returns-in-Ok-accept-clause-program c =
    subst (λ text. HasProgram text c.in-Ok-accept.accepted.program) (c.deref.ensures.value ∙ c.in-Ok.ensures.1) c.in-Ok-accept.ensures.program

pub returns-clause-unrun : goal.returns-clause-unrun
returns-clause-unrun c =
    (c.in-Ok.ensures.0, subst (λ text. IsCause (Fails text) c.in-Err.refusal) (c.deref.ensures.value ∙ c.in-Ok.ensures.1) c.in-Err.ensures.cause)
