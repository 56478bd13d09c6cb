use Rattle.bl_machine_transitions.specs.inner.Joined.{layout_in}
use Rattle.bl_machine_transitions.proofs.Loops.{rests_of_arm, rests_of_arms_end, rests_of_end, rests_of_next}
use Rattle.bl_machine_transitions.proofs.rests.+resting.Goals as goal

pub in_block-loop-s-preserved : goal.in_block-loop-s-preserved
in_block-loop-s-preserved t c =
    rests_of_next (layout_in c.args.t.now) c.args.body.now c.loop-s.s-index c.s-item.result c.loop-s.at c.in_ok-next.next _ c.loop-s.into
    c.in_statement.new.into _ c.loop-s-test.true c.s-item.is c.in_ok-next.ensures.next c.in_ok-next.ensures.rests c.loop-s.invariant

pub in_arms-loop-arm-preserved : goal.in_arms-loop-arm-preserved
in_arms-loop-arm-preserved t c other =
    rests_of_arm (layout_in c.args.t.now) c.args.arms.now c.loop-arm.arm-index c.arm-item.result c.deref.result.now other c.loop-arm.at
    c.in_ok-next.next _ c.loop-arm.into c.in_block.new.into _ c.loop-arm-test.true c.arm-item.is c.deref.ensures c.in_ok-next.ensures.next
    c.in_ok-next.ensures.rests (c.loop-arm.invariant other)

pub in_block-returns : goal.in_block-returns
in_block-returns t c =
    let known = rests_of_end (layout_in c.args.t.now) c.args.body.now c.loop-s.s-index c.loop-s.at _ c.loop-s.into _ c.loop-s-test.false
    c.loop-s.invariant in record { next = known.0; rests = known.1 }

pub in_arms-returns : goal.in_arms-returns
in_arms-returns t c other =
    rests_of_arms_end (layout_in c.args.t.now) c.args.arms.now c.loop-arm.arm-index c.loop-arm.at _ other c.loop-arm.into _ c.loop-arm-test.false
    (c.loop-arm.invariant other)
