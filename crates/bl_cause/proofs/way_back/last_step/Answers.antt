use Rattle.bl_cause.proofs.StepLemmas.{blank, no_end_more}
use Rattle.bl_cause.proofs.way_back.last_step.Goals as goal

pub loop-k-preserved : goal.loop-k-preserved
loop-k-preserved c = no_end_more c.args.node c.args.steps.now c.loop-k.k blank c.loop-k-test.true c.loop-k.invariant c.if-step-node.false
