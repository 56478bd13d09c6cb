-- The first rule that fails of a typed program, judge by judge.
use Rattle.std.specs.Prelude.{unwrap_or}
use Rattle.bl_rules.proofs.Causes.{graphs_cause, peeled_limits_cause, units_cause}
use Rattle.bl_rules.proofs.judge.accept_program.Goals as goal

pub returns-in-Err-clause-cause : goal.returns-in-Err-clause-cause
returns-in-Err-clause-cause c =
    units_cause c.args.program.structs c.args.program.units c.args.program.entry c.in-Err.refusal c.in-Err.ensures.cause

pub returns-in-Err-check-clause-cause : goal.returns-in-Err-check-clause-cause
returns-in-Err-check-clause-cause c =
    graphs_cause c.args.program.structs c.args.program.units c.args.program.entry c.in-Err-check.refusal c.in-Ok.ensures.passes
    c.in-Err-check.ensures.cause

pub returns-in-Err-check_limits-clause-cause : goal.returns-in-Err-check_limits-clause-cause
returns-in-Err-check_limits-clause-cause c =
    peeled_limits_cause c.units_are_peeled_in_one_way.ensures.one c.args.program (unwrap_or c.in-Ok-check.scheduled.peeled c.args.program)
    c.in-Ok-check.ensures.peeled c.in-Err-check_limits.refusal c.in-Ok.ensures.passes c.in-Ok-check.ensures.passes c.in-Err-check_limits.ensures.cause
