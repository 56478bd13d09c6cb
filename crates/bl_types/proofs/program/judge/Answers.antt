use Rattle.std.proofs.Common.{◌∙◌, ap, subst, true}
use Rattle.bl_types.specs.Programs.{known_behind, with_entry}
use Rattle.bl_types.specs.Rules.{IsCauseBehind, PassesBehind}
use Rattle.bl_types.proofs.program.judge.Goals as goal

pub returns-in-Err-clause-cause : goal.returns-in-Err-clause-cause
returns-in-Err-clause-cause c =
    subst (λ env. IsCauseBehind true env c.args.named.now c.in-Err.refusal) c.new-env.ensures c.in-Err.ensures.cause

pub returns-in-Ok-typed-clause-typed : goal.returns-in-Ok-typed-clause-typed
returns-in-Ok-typed-clause-typed c =
    let known = c.in-Ok.ensures.known ∙ ap (λ env. known_behind env c.args.named.now) c.new-env.ensures in
    c.in-Ok-typed.ensures ∙ (λ i. with_entry (known i) (c.deref.ensures i))

pub returns-in-Ok-typed-clause-passes : goal.returns-in-Ok-typed-clause-passes
returns-in-Ok-typed-clause-passes c =
    subst (λ env. PassesBehind true env c.args.named.now) c.new-env.ensures c.in-Ok.ensures.passes
