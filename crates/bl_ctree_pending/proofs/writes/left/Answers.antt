use Rattle.bl_ctree_pending.proofs.SurfaceLemmas.{left_ends, left_writes}
use Rattle.bl_ctree_pending.proofs.writes.left.Goals as goal

pub returns-clause-ends : goal.returns-clause-ends
returns-clause-ends c =
    left_ends c.args.left.now.position c.args.left.now.passed c.args.left.now.arm.now c.args.left.now.arms.now
    c.args.left.now.other.now c.deref.result.now c.deref.ensures
    c.in_ok-first.first c.in_ok-some.some c.in_ok-rest.rest c.in_ok-first.ensures.ends c.in_ok-some.ensures.ends c.in_ok-rest.ensures.ends

pub returns-clause-writes : goal.returns-clause-writes
returns-clause-writes c =
    left_writes c.args.left.now.position c.args.left.now.passed c.args.left.now.arm.now c.args.left.now.arms.now
    c.args.left.now.other.now c.deref.result.now c.deref.ensures
    c.args.into.now c.block.new.into c.arms.new.into c.block-2.new.into c.in_ok-first.ensures.writes c.in_ok-some.ensures.writes c.in_ok-rest.ensures.writes
