use Rattle.std.proofs.Common.{ap, map, refl, sym, ◌∙◌}
use Rattle.bl_machine_transitions.specs.inner.Joined.{or_size}
use Rattle.bl_machine_transitions.specs.inner.Parts.{arm_part, chain, part, part_of_block}
use Rattle.bl_machine_transitions.proofs.Loops.{arm_end, arm_next, fork_end, fork_next, none_beside, none_or, none_then, part_some_if, size_end, size_next}
use Rattle.bl_machine_transitions.proofs.size.+measuring.Goals as goal

pub of_block-loop-s-init : goal.of_block-loop-s-init
of_block-loop-s-init t c = none_then _

pub of_block-loop-s-preserved : goal.of_block-loop-s-preserved
of_block-loop-s-preserved t c =
    size_next c.args.body.now c.loop-s.s-index c.s-item.result c.loop-s.all c.in_ok-size.size c.in_ok-next.next _ c.loop-s-test.true c.s-item.is
    c.in_ok-size.ensures c.in_ok-next.ensures c.loop-s.invariant

pub of_block-returns : goal.of_block-returns
of_block-returns t c = size_end c.args.body.now c.loop-s.s-index c.loop-s.all _ c.loop-s-test.false c.loop-s.invariant

pub of_arms-loop-arm-init : goal.of_arms-loop-arm-init
of_arms-loop-arm-init t c other = none_or _

pub of_arms-loop-arm-preserved : goal.of_arms-loop-arm-preserved
of_arms-loop-arm-preserved t c other =
    arm_next c.args.arms.now c.loop-arm.arm-index c.arm-item.result other c.deref.result.now c.loop-arm.all c.in_ok-inner.inner c.in_ok-size.size
    c.in_ok-next.next _ c.loop-arm-test.true c.arm-item.is c.deref.ensures c.in_ok-inner.ensures c.in_ok-size.ensures c.in_ok-next.ensures
    (c.loop-arm.invariant other)

pub of_arms-returns : goal.of_arms-returns
of_arms-returns t c other = arm_end c.args.arms.now c.loop-arm.arm-index other c.loop-arm.all _ c.loop-arm-test.false (c.loop-arm.invariant other)

pub of_branches-loop-each-init : goal.of_branches-loop-each-init
of_branches-loop-each-init t c = none_beside _

pub of_branches-loop-each-preserved : goal.of_branches-loop-each-preserved
of_branches-loop-each-preserved t c =
    fork_next c.args.branches.now c.loop-each.each-index c.each-item.result _ c.deref.result.now c.in_ok-size.size c.loop-each.all c.in_ok-one.one
    c.in_ok-next.next _ c.loop-each-test.true c.each-item.is refl c.deref.ensures c.in_ok-size.ensures c.in_ok-one.ensures c.in_ok-next.ensures
    c.loop-each.invariant

pub of_branches-returns : goal.of_branches-returns
of_branches-returns t c = fork_end c.args.branches.now c.loop-each.each-index c.loop-each.all _ c.loop-each-test.false c.loop-each.invariant

pub of_statement-returns-in_ok-size-in-If : goal.of_statement-returns-in_ok-size-in-If
of_statement-returns-in_ok-size-in-If t c =
    c.in_ok-size-in-If.ensures
    ∙ ap (or_size c.in_ok-some-in-If.some)
    (c.in_ok-rest-in-If.ensures ∙ ap (λ body. (part_of_block (map part body)).size) c.deref-else-is_empty.ensures)
    ∙ c.in_ok-some-in-If.ensures (part_of_block (map part c.in-If.other))
    ∙ ap (λ arms. (chain (map arm_part arms) (part_of_block (map part c.in-If.other))).size) c.deref.ensures
    ∙ sym (ap (λ a. a.size)
    (part_some_if c.args.s.now c.in-If.arms c.in-If.other c.is_empty.result c.in-If.is c.if-is_empty.false c.is_empty.ensures))
