use Rattle.std.proofs.Common.{refl}
use Rattle.bl_machine_transitions.specs.inner.Joined.{layout_in}
use Rattle.bl_machine_transitions.proofs.Loops.{ends_of_end, ends_of_next}
use Rattle.bl_machine_transitions.proofs.joins.ends.Goals as goal

pub loop-branch-preserved : goal.loop-branch-preserved
loop-branch-preserved c =
    ends_of_next (layout_in c.args.t.now) c.args.branches.now c.loop-branch.branch-index c.branch-item.result c.as_slice-body.result.now
    c.in_ok-size.size c.args.strong _ c.loop-branch.at c.in_ok-wide.wide c.in_ok-at.at c.slot-slot.result c.loop-branch.slots c.put_unless.new.slots _
    c.loop-branch-test.true c.branch-item.is c.as_slice-body.ensures c.in_ok-size.ensures refl c.in_ok-wide.ensures c.in_ok-at.ensures
    c.slot-slot.ensures c.in_ok-put_unless.ensures c.loop-branch.invariant

pub returns : goal.returns
returns c =
    ends_of_end (layout_in c.args.t.now) c.args.branches.now c.loop-branch.branch-index c.loop-branch.at c.args.strong c.loop-branch.slots _
    c.loop-branch-test.false c.loop-branch.invariant
