use Rattle.std.proofs.Common.{refl, rules}
use Rattle.bl_machine_transitions.proofs.Ranking.{ranks_end, ranks_start, ranks_step}
use Rattle.bl_machine_transitions.proofs.ranks.ranks.Goals as goal

pub returns : goal.returns
returns c =
    ranks_end c.args.order.now c.loop-step.ranks.items c.in_ok-count.count c.loop-step.step c.in_ok-count.ensures c.loop-step-test.false
    c.loop-step.invariant.1

pub loop-step-init : goal.loop-step-init
loop-step-init c =
    ranks_start c.args.order.now c.in_ok-ranks.ranks.items c.in_ok-count.count _ c.in_ok-count.ensures refl c.in_ok-ranks.ensures

pub loop-step-preserved : goal.loop-step-preserved
loop-step-preserved c =
    ranks_step c.args.order.now c.loop-step.ranks.items c.in_ok-count.count c.loop-step.step _ c.in_ok-count.ensures c.loop-step-test.true refl
    (search rules) c.loop-step.invariant
