use Rattle.bl_eval.specs.Standing.{got_value}
use Rattle.bl_eval.proofs.StandingLemmas.{value_is}
use Rattle.bl_eval.proofs.values.value.Goals as goal

pub returns : goal.returns
returns c =
    value_is c.args.program.now.structs c.deref-2.result.now c.args.program.now.units c.deref-3.result.now c.deref.result.now
    c.in-Some.unit.now c.deref-4.result.now
    c.args.now.now.unit c.args.e.now c.args.now.now.list c.args.before.now.list c.deref-5.result.now c.deref-6.result.now
    c.in_ok-evaluate.field-0 (got_value c.what_is.result)
    c.deref-2.ensures c.deref-3.ensures c.deref.ensures c.deref-4.ensures c.deref-5.ensures c.deref-6.ensures c.in-Some.ensures
    c.in_ok-evaluate.ensures c.what_is.ensures
