use Rattle.bl_ctree.specs.Nodes.{items_then}
use Rattle.bl_ctree_pending.proofs.WriteLemmas.{goes_on_ends, goes_on_writes, stops_ends, stops_writes}
use Rattle.bl_ctree_pending.proofs.writes.items.Goals as goal

pub returns-then-branch-clause-ends : goal.returns-then-branch-clause-ends
returns-then-branch-clause-ends c =
    goes_on_ends c.args.rest.now.block c.args.rest.now.next _ c.left_in.result.now c.left_in.ensures
    (items_then c.args.rest.now.then) c.in_ok-block.field-0 c.in_ok-block.ensures.ends
    c.following.result c.if-branch.true c.following.ensures.ends

pub returns-then-branch-clause-writes : goal.returns-then-branch-clause-writes
returns-then-branch-clause-writes c =
    goes_on_writes c.args.rest.now.block c.args.rest.now.next _ c.left_in.result.now c.left_in.ensures
    (items_then c.args.rest.now.then) c.in_ok-block.field-0 c.in_ok-block.ensures.ends
    c.following.result c.args.into.now c.block.new.into c.following.new.into c.if-branch.true c.in_ok-block.ensures.writes c.following.ensures.writes

pub returns-else-branch-clause-ends : goal.returns-else-branch-clause-ends
returns-else-branch-clause-ends c =
    stops_ends c.args.rest.now.block c.args.rest.now.next _ c.left_in.result.now c.left_in.ensures
    (items_then c.args.rest.now.then) c.in_ok-block.field-0 c.in_ok-block.ensures.ends
    c.if-branch.false

pub returns-else-branch-clause-writes : goal.returns-else-branch-clause-writes
returns-else-branch-clause-writes c =
    stops_writes c.args.rest.now.block c.args.rest.now.next _ c.left_in.result.now c.left_in.ensures
    (items_then c.args.rest.now.then) c.in_ok-block.field-0 c.in_ok-block.ensures.ends
    c.args.into.now c.block.new.into c.if-branch.false c.in_ok-block.ensures.writes
