use Rattle.std.proofs.Common.{subst}
use Rattle.bl_types.specs.Rules.{Passes}
use Rattle.bl_types_program.proofs.Causes.{names_cause, types_cause}
use Rattle.bl_types_program.proofs.Made.{kept, ordered, shallow}
use Rattle.bl_types_program.proofs.program.check.Goals as goal

pub returns-in-Err-clause-cause : goal.returns-in-Err-clause-cause
returns-in-Err-clause-cause c = names_cause c.args.raw.now c.in-Err.refusal c.in-Err.ensures.cause

pub program_of-requires : goal.program_of-requires
program_of-requires c =
    kept c.args.raw.now c.in-Ok.named c.in-Ok-judge.typed c.in-Ok.ensures.named c.in-Ok-judge.ensures.typed
    (c.what_is_typed_keeps.ensures.keeps c.args.raw.now.items c.args.raw.now.bytes c.requires.keeps c.in-Ok.ensures.passes
    (subst Passes c.in-Ok.ensures.named c.in-Ok-judge.ensures.passes))

pub returns-in-Ok-judge-clause-types : goal.returns-in-Ok-judge-clause-types
returns-in-Ok-judge-clause-types c = subst Passes c.in-Ok.ensures.named c.in-Ok-judge.ensures.passes

pub returns-in-Ok-judge-clause-shallow : goal.returns-in-Ok-judge-clause-shallow
returns-in-Ok-judge-clause-shallow c =
    shallow c.args.raw.now c.in-Ok.named c.in-Ok-judge.typed c.program_of.result.units c.in-Ok.ensures.named c.in-Ok-judge.ensures.typed
    c.program_of.ensures.units
    (c.what_is_typed_keeps.ensures.shallow c.args.raw.now.items c.args.raw.now.bytes c.requires.keeps c.in-Ok.ensures.passes
    (subst Passes c.in-Ok.ensures.named c.in-Ok-judge.ensures.passes))

pub returns-in-Ok-judge-clause-ordered : goal.returns-in-Ok-judge-clause-ordered
returns-in-Ok-judge-clause-ordered c =
    ordered c.args.raw.now c.in-Ok.named c.in-Ok-judge.typed c.program_of.result.units c.in-Ok.ensures.named c.in-Ok-judge.ensures.typed
    c.program_of.ensures.units
    (c.statements_begin_in_order.ensures c.args.raw.now.items c.args.raw.now.bytes c.requires.keeps c.in-Ok.ensures.passes
    (subst Passes c.in-Ok.ensures.named c.in-Ok-judge.ensures.passes))

pub returns-clause-cause : goal.returns-clause-cause
returns-clause-cause c =
    types_cause c.args.raw.now c.in-Ok.named c.in-Err-judge.refusal c.in-Ok.ensures.named c.in-Ok.ensures.passes c.in-Err-judge.ensures.cause
