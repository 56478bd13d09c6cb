use Rattle.std.proofs.Common.{subst}
use Rattle.bl_tree.specs.Rules.{IsCause}
use Rattle.bl_cause_trees.specs.inner.Judging.{AreKept}
use Rattle.bl_cause_trees.specs.Rules.{Fails}
use Rattle.bl_cause_trees.proofs.KeptUnits.{kept_passes}
use Rattle.bl_cause_trees.proofs.program.check.Goals as goal

pub returns-in-Err-clause-cause : goal.returns-in-Err-clause-cause
returns-in-Err-clause-cause c = subst (λ it. IsCause (Fails it) c.in-Err.refusal) c.deref.ensures c.in-Err.ensures.cause

pub schedule_of-requires-clause-kept : goal.schedule_of-requires-clause-kept
schedule_of-requires-clause-kept c = subst (λ it. AreKept it c.in-Ok.kept) c.deref.ensures c.in-Ok.ensures.kept

pub returns-in-Ok-schedule_of-clause-passes : goal.returns-in-Ok-schedule_of-clause-passes
returns-in-Ok-schedule_of-clause-passes c =
    kept_passes c.args.program.now.units c.in-Ok.kept (subst (λ it. AreKept it c.in-Ok.kept) c.deref.ensures c.in-Ok.ensures.kept)
