use Rattle.std.proofs.Common.{IfErr, OnOk, subst}
use Rattle.bl_tree.specs.Rules.{IsCause}
use Rattle.bl_effects.specs.Rules.{Fails, Passes}
use Rattle.bl_conflict.proofs.check.Goals as goal

pub returns-clause-passes : goal.returns-clause-passes
returns-clause-passes c = subst (λ units. OnOk c.check_units.result (Passes units)) c.deref.ensures c.check_units.ensures.passes

pub returns-clause-cause : goal.returns-clause-cause
returns-clause-cause c = subst (λ units. IfErr c.check_units.result (IsCause (Fails units))) c.deref.ensures c.check_units.ensures.cause
