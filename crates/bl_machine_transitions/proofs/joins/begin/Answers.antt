use Rattle.bl_machine_transitions.specs.inner.Joined.{layout_in}
use Rattle.bl_machine_transitions.proofs.Loops.{begins_of_end, begins_of_next}
use Rattle.bl_machine_transitions.proofs.joins.begin.Goals as goal

pub loop-branch-preserved : goal.loop-branch-preserved
loop-branch-preserved c =
    begins_of_next (layout_in c.args.t.now) c.args.branches.now c.loop-branch.branch-index c.branch-item.result c.as_slice-body.result.now
    c.in_ok-size.size c.loop-branch.node c.loop-branch.place c.in_ok-node.node c.in_ok-wide.wide c.in_ok-place.place c.is_bare-empty.result
    c.slot.result c.entered-enters.result c.loop-branch.into c.push.new.self _ c.loop-branch-test.true c.branch-item.is c.as_slice-body.ensures
    c.in_ok-size.ensures
    c.is_bare-empty.ensures c.slot.ensures c.entered-enters.ensures c.in_ok-node.ensures c.in_ok-wide.ensures c.in_ok-place.ensures
    c.in_ok-push.ensures.ok
    c.loop-branch.invariant

pub returns : goal.returns
returns c =
    begins_of_end (layout_in c.args.t.now) c.args.branches.now c.loop-branch.branch-index c.loop-branch.node c.loop-branch.place c.loop-branch.into _
    c.loop-branch-test.false c.loop-branch.invariant
