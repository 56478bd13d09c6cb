use Rattle.bl_ctree_laws_examples.proofs.OnTrees.Commuting.{paces}
use Rattle.bl_ctree_laws_examples.specs.Trees.Reset.{both, program, to_check, to_wake}
use Rattle.bl_ctree_laws_examples.proofs.trees.all_steps_commute_there.Goals as goal

pub returns : goal.returns
returns c d e a b n m after after' one other =
    c.steps_commute.ensures program 0 (both to_check to_wake) d e a b n m after after' paces one other
