use Rattle.bl_ctree_laws_traces.proofs.OnBounded.Bounding.{steps_are_six_each}
use Rattle.bl_ctree_laws_traces.proofs.bounded.steps_are_six_each.Goals as goal

pub returns : goal.returns
returns c = steps_are_six_each
