use Rattle.std.proofs.Common.{◌∙◌, ap}
use Rattle.bl_types.specs.Programs.{known_of}
use Rattle.bl_types.proofs.CauseLemmas.{cause, passes}
use Rattle.bl_types.proofs.program.judge_behind.Goals as goal

pub returns-in-Ok-known-clause-known : goal.returns-in-Ok-known-clause-known
returns-in-Ok-known-clause-known c =
    c.in-Ok-known.ensures ∙ (λ i. known_of (c.in-Ok.ensures.state i).env (c.in-Ok.ensures.globals i))

pub returns-in-Ok-known-clause-passes : goal.returns-in-Ok-known-clause-passes
returns-in-Ok-known-clause-passes c =
    passes c.args.last c.args.env c.args.named.now c.in-Ok.walked.state.notes (ap (λ s. s.notes) c.in-Ok.ensures.state) c.in-None.is

pub returns-in-Some-clause-cause : goal.returns-in-Some-clause-cause
returns-in-Some-clause-cause c =
    cause c.args.last c.args.env c.args.named.now c.in-Ok.walked.state.notes c.in-Some.failure c.refusal.result
    (ap (λ s. s.notes) c.in-Ok.ensures.state) c.in-Some.is c.refusal.ensures
