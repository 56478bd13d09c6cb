use Rattle.std.proofs.Common.{[], subst, sym, take_all, true}
use Rattle.bl_graph.specs.Accesses.{flows}
use Rattle.bl_cause.specs.inner.Limits.{Rise}
use Rattle.bl_cause.proofs.LimitLemmas.{Rising, rising_none, rising_step}
use Rattle.bl_cause.proofs.rising.data_rises.Goals as goal

pub loop-access-init : goal.loop-access-init
loop-access-init c =
    subst (λ limits. Rising [] c.args.lows.now c.args.highs.now limits true) (sym c.new-limits.ensures) (rising_none c.args.lows.now c.args.highs.now)

pub loop-access-preserved : goal.loop-access-preserved
loop-access-preserved c =
    rising_step c.args.accesses.now c.args.lows.now c.args.highs.now c.loop-access.limits c.deref.result.now c.deref-in-loop-access.result.now c.push.new.self
    c.loop-access.yes c.is_above-yes.result c.loop-access.access-index c.limit_with-limit.result _ c.loop-access-test.true c.deref.ensures c.deref-in-loop-access.ensures
    c.limit_with-limit.ensures c.is_above-yes.ensures c.in_ok-push.ensures.ok c.loop-access.invariant

pub returns : goal.returns
returns c is =
    subst (λ accesses. Rise (flows accesses) c.args.lows.now c.args.highs.now)
    (take_all c.loop-access.access-index c.args.accesses.now c.loop-access-test.false) (c.loop-access.invariant.rise is)
