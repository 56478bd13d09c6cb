use Rattle.std.proofs.Common.{sym, ◌∙◌}
use Rattle.bl_limits.proofs.Causes.{nesting_cause, nesting_passes}
use Rattle.bl_limits.proofs.check_nesting.Goals as goal

pub returns-in-Ok-None-clause-passes : goal.returns-in-Ok-None-clause-passes
returns-in-Ok-None-clause-passes c =
    nesting_passes c.args.from c.args.structs.now c.args.units.now (sym c.in-Ok-None.ensures ∙ c.in-Ok-None.field-0-is)

pub returns-in-Ok-Some-clause-cause : goal.returns-in-Ok-Some-clause-cause
returns-in-Ok-Some-clause-cause c =
    nesting_cause c.args.from c.args.structs.now c.args.units.now c.in-Ok-Some.failure c.refusal.result
    (sym c.in-Ok-Some.ensures ∙ c.in-Ok-Some.field-0-is) c.refusal.ensures
