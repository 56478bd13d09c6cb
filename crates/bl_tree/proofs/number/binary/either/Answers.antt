use Rattle.bl_tree.proofs.NumberLemmas.{either_is}
use Rattle.bl_tree.proofs.number.binary.either.Goals as goal

pub returns : goal.returns
returns c = either_is _ _ _ c.requires.bits c.requires.left c.requires.right
