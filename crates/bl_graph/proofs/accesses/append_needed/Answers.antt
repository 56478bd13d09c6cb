use Rattle.std.proofs.Common.{[], subst, sym}
use Rattle.bl_graph.proofs.NeededLemmas.{Moving, moving_none, moving_step}
use Rattle.bl_graph.proofs.accesses.append_needed.Goals as goal

pub loop-k-init : goal.loop-k-init
loop-k-init c =
    subst (λ positions. Moving c.args.first c.args.into.now c.args.into.now [] positions c.args.needed.now) (sym c.new-positions.ensures)
    (moving_none c.args.first c.args.into.now c.args.needed.now)

pub loop-k-preserved : goal.loop-k-preserved
loop-k-preserved c =
    moving_step c.args.first c.args.into.now c.loop-k.into c.append_one.new.into c.args.from.now c.loop-k.positions c.deref.result.now c.push.new.self
    c.args.needed.now c.loop-k.k c.in_ok-own.own _ _ c.loop-k-test.true c.requires.size c.requires.needed c.deref.ensures c.in_ok-own.ensures.own
    c.in_ok-own.ensures.more c.in_ok-push.ensures.ok c.loop-k.invariant
