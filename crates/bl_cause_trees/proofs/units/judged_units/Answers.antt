use Rattle.std.proofs.Common.{subst, sym, take}
use Rattle.std.specs.Prelude.{IfErr, IfOk}
use Rattle.bl_tree.specs.Rules.{IsCause}
use Rattle.bl_cause.proofs.PairLemmas.{front_more, whole_front}
use Rattle.bl_cause_trees.specs.inner.Judging.{AreKept}
use Rattle.bl_cause_trees.specs.Rules.{Fails}
use Rattle.bl_cause_trees.proofs.units.judged_units.Goals as goal

pub loop-unit-preserved : goal.loop-unit-preserved
loop-unit-preserved c =
    let units = take c.loop-unit.unit-index c.args.units.now in
    let more = sym (front_more c.args.units.now c.loop-unit.unit-index c.unit-item.result c.loop-unit-test.true c.unit-item.is) in (
      subst (λ it. IfOk c.with_unit-so_far.result (AreKept it)) more (c.with_unit-so_far.ensures.kept units c.loop-unit.invariant.0),
      subst (λ it. IfErr c.with_unit-so_far.result (IsCause (Fails it))) more
          (c.with_unit-so_far.ensures.cause units c.loop-unit.invariant.0 c.loop-unit.invariant.1),
    )

pub returns-clause-kept : goal.returns-clause-kept
returns-clause-kept c =
    subst (λ it. IfOk c.loop-unit.so_far (AreKept it)) (whole_front c.args.units.now c.loop-unit.unit-index c.loop-unit-test.false)
    c.loop-unit.invariant.0

pub returns-clause-cause : goal.returns-clause-cause
returns-clause-cause c =
    subst (λ it. IfErr c.loop-unit.so_far (IsCause (Fails it))) (whole_front c.args.units.now c.loop-unit.unit-index c.loop-unit-test.false)
    c.loop-unit.invariant.1
