use Rattle.bl_ctree_laws_peeled.proofs.Waking.{idle_is_related, waking_is_related}
use Rattle.bl_ctree_laws_peeled.proofs.steps.waking_is_related.Goals as goal

pub returns : goal.returns
returns c = record { begins = idle_is_related; wakes = waking_is_related }
