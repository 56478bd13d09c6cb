use Rattle.bl_tree.specs.declared.rule.Rule.TheVariants.{Cycle}
use Rattle.bl_cause.specs.Fails.{FailsCycle, TellsFirst}
use Rattle.bl_cause_trees.specs.inner.Judging.{IsCauseInBody}
use Rattle.bl_cause_trees.proofs.Judged.{cycle_in_body, twice_in_body}
use Rattle.bl_cause_trees.proofs.Results.{if_err}
use Rattle.bl_cause_trees.proofs.body.by_rules.Goals as goal

pub returns-in-Ok-clause-cause : goal.returns-in-Ok-clause-cause
returns-in-Ok-clause-cause c = λ body own.
    if_err c.behind_twice.result (TellsFirst Cycle (FailsCycle c.args.graph)) (IsCauseInBody body)
    (cycle_in_body body c.args.graph own c.in-Ok.ensures.passes) c.behind_twice.ensures.refused

pub returns-in-Err-clause-cause : goal.returns-in-Err-clause-cause
returns-in-Err-clause-cause c = λ body own. twice_in_body body c.args.graph own c.in-Err.refusal c.in-Err.ensures.refused
