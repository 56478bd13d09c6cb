use Rattle.std.proofs.Common.{sym, ◌∙◌}
use Rattle.bl_limits.proofs.Causes.{cause, passes}
use Rattle.bl_limits.proofs.check_parts.Goals as goal

pub returns-in-Ok-None-clause-passes : goal.returns-in-Ok-None-clause-passes
returns-in-Ok-None-clause-passes c =
    passes c.args.structs.now c.args.units.now c.args.entry (sym c.in-Ok-None.ensures ∙ c.in-Ok-None.field-0-is)

pub returns-in-Ok-Some-clause-cause : goal.returns-in-Ok-Some-clause-cause
returns-in-Ok-Some-clause-cause c =
    cause c.args.structs.now c.args.units.now c.args.entry c.in-Ok-Some.failure c.refusal.result
    (sym c.in-Ok-Some.ensures ∙ c.in-Ok-Some.field-0-is) c.refusal.ensures
