use Rattle.std.proofs.Common.{map}
use Rattle.bl_machine_transitions.specs.Told.{rule_in}
use Rattle.bl_machine_transitions.specs.inner.Joined.{layout_in}
use Rattle.bl_machine_transitions.proofs.Loops.{each_of_end, each_of_next, left_next, rules_of_arm, rules_of_arms_end, rules_of_end, rules_of_next}
use Rattle.bl_machine_transitions.proofs.walk.+listing.Goals as goal

pub in_block-loop-s-preserved : goal.in_block-loop-s-preserved
in_block-loop-s-preserved t c = (
  left_next c.args.body.now c.loop-s.s-index c.s-item.result c.loop-s.left c.loop-s-test.true c.s-item.is c.loop-s.invariant.0,
  rules_of_next (layout_in c.args.t.now) c.args.body.now c.loop-s.s-index c.s-item.result c.in_ok-size.size c.loop-s.node c.loop-s.place
      c.in_ok-node.node c.in_ok-place.place c.loop-s.left c.args.next c.entered-enters.result (map rule_in c.loop-s.into)
      (map rule_in c.in_statement.new.into) _ c.loop-s-test.true c.s-item.is c.in_ok-size.ensures c.in_ok-node.ensures c.in_ok-place.ensures
      c.entered-enters.ensures c.in_ok-in_statement.ensures c.loop-s.invariant.0 c.loop-s.invariant.1,
)

pub in_block-returns : goal.in_block-returns
in_block-returns t c =
    rules_of_end (layout_in c.args.t.now) c.args.body.now c.loop-s.s-index c.loop-s.node c.loop-s.place c.args.next (map rule_in c.loop-s.into) _
    c.loop-s-test.false c.loop-s.invariant.1

pub in_arms-loop-arm-preserved : goal.in_arms-loop-arm-preserved
in_arms-loop-arm-preserved t c = (
  left_next c.args.arms.now c.loop-arm.arm-index c.arm-item.result c.loop-arm.left c.loop-arm-test.true c.arm-item.is c.loop-arm.invariant.0,
  λ other bare.
      rules_of_arm (layout_in c.args.t.now) c.args.arms.now c.loop-arm.arm-index c.arm-item.result c.as_slice-body.result.now other c.in_ok-size.size
      c.loop-arm.node c.loop-arm.place c.in_ok-inner.inner c.in_ok-node.node c.in_ok-place.place c.loop-arm.left c.is_bare-empty.result
      c.args.bare c.args.next c.entered-on_true.result c.entered-on_false.result (map rule_in c.loop-arm.into) (map rule_in c.put_tested.new.into)
      (map rule_in c.in_block.new.into) _ c.loop-arm-test.true c.arm-item.is c.as_slice-body.ensures c.in_ok-size.ensures c.in_ok-inner.ensures
      c.in_ok-node.ensures c.in_ok-place.ensures c.is_bare-empty.ensures bare c.entered-on_true.ensures c.entered-on_false.ensures
      c.in_ok-put_tested.ensures c.in_ok-in_block.ensures c.loop-arm.invariant.0 (c.loop-arm.invariant.1 other bare),
)

pub in_arms-returns : goal.in_arms-returns
in_arms-returns t c other bare =
    rules_of_arms_end (layout_in c.args.t.now) c.args.arms.now c.loop-arm.arm-index c.loop-arm.node c.loop-arm.place other c.args.next
    (map rule_in c.loop-arm.into) _ c.loop-arm-test.false (c.loop-arm.invariant.1 other bare)

pub in_branches-loop-branch-preserved : goal.in_branches-loop-branch-preserved
in_branches-loop-branch-preserved t c =
    each_of_next (layout_in c.args.t.now) c.args.branches.now c.loop-branch.branch-index c.branch-item.result c.as_slice-body.result.now
    c.in_ok-size.size c.loop-branch.node c.loop-branch.place c.in_ok-inner.inner c.in_ok-node.node c.in_ok-wide.wide c.in_ok-place.place c.slot.result
    (map rule_in c.loop-branch.into) (map rule_in c.in_block.new.into) _ c.loop-branch-test.true c.branch-item.is c.as_slice-body.ensures
    c.in_ok-size.ensures c.in_ok-inner.ensures c.in_ok-node.ensures c.in_ok-wide.ensures c.in_ok-place.ensures c.slot.ensures
    c.in_ok-in_block.ensures
    c.loop-branch.invariant

pub in_branches-returns : goal.in_branches-returns
in_branches-returns t c =
    each_of_end (layout_in c.args.t.now) c.args.branches.now c.loop-branch.branch-index c.loop-branch.node c.loop-branch.place
    (map rule_in c.loop-branch.into) _ c.loop-branch-test.false c.loop-branch.invariant
