use Rattle.std.proofs.Common.{subst}
use Rattle.std.specs.Prelude.{IfErr, IfOk}
use Rattle.bl_tree.specs.Rules.{IsCause}
use Rattle.bl_cause_trees.specs.inner.Judging.{AreKept}
use Rattle.bl_cause_trees.specs.Rules.{Fails}
use Rattle.bl_cause_trees.proofs.units.with_unit.Goals as goal

pub returns-in-Ok-clause-kept : goal.returns-in-Ok-clause-kept
returns-in-Ok-clause-kept c = λ units are. c.behind_kept.ensures.kept units (subst (λ it. IfOk it (AreKept units)) c.in-Ok.is are)

pub returns-in-Ok-clause-cause : goal.returns-in-Ok-clause-cause
returns-in-Ok-clause-cause c = λ units are cause. c.behind_kept.ensures.cause units (subst (λ it. IfOk it (AreKept units)) c.in-Ok.is are)

pub returns-in-Err-clause-kept : goal.returns-in-Err-clause-kept
returns-in-Err-clause-kept c = λ units are. tt

pub returns-in-Err-clause-cause : goal.returns-in-Err-clause-cause
returns-in-Err-clause-cause c = λ units are cause.
    c.behind_refused.ensures units (subst (λ it. IfErr it (IsCause (Fails units))) c.in-Err.is cause)
