use Rattle.std.proofs.Common.{take_all}
use Rattle.bl_cause.proofs.BeforeLemmas.{control_all, control_more}
use Rattle.bl_cause.proofs.numbers.are_control.Goals as goal

pub loop-edge-preserved : goal.loop-edge-preserved
loop-edge-preserved c =
    control_more c.args.edges.now c.loop-edge.edge-index _ c.loop-edge.yes c.loop-edge-test.true c.loop-edge.invariant

pub returns : goal.returns
returns c is edge there =
    control_all c.args.edges.now (take_all c.loop-edge.edge-index c.args.edges.now c.loop-edge-test.false) (c.loop-edge.invariant is) edge there
