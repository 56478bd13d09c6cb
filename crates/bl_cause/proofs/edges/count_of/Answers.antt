use Rattle.bl_cause.proofs.RowLemmas.{within_more}
use Rattle.bl_cause.proofs.edges.count_of.Goals as goal

pub loop-edge-preserved : goal.loop-edge-preserved
loop-edge-preserved c = record {
  few = c.widened-count.ensures.few;
  ends = within_more c.args.edges.now c.loop-edge.count c.widened-count.result c.loop-edge.edge-index _ c.loop-edge-test.true c.loop-edge.invariant.ends
      c.widened-count.ensures.grows c.widened-count.ensures.from c.widened-count.ensures.to;
}
