use Rattle.bl_block.proofs.Merging.{each_more}
use Rattle.bl_block.proofs.machines.all.Goals as goal

pub loop-at-preserved : goal.loop-at-preserved
loop-at-preserved c =
    each_more c.args.activities.now c.args.graphs.now c.loop-at.made c.push.new.self c.loop-at.at c.index-activities-at.result
    c.index-graphs-at.result c.in_ok-merged.field-0 c.loop-at-test.true c.requires c.index-activities-at.is c.index-graphs-at.is
    c.in_ok-push.ensures.ok c.in_ok-merged.ensures c.loop-at.invariant
