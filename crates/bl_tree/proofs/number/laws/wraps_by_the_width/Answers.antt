use Rattle.bl_tree.proofs.NumberLemmas.{bits-wrap}
use Rattle.bl_tree.proofs.number.laws.wraps_by_the_width.Goals as goal

pub returns : goal.returns
returns c = bits-wrap _ _
