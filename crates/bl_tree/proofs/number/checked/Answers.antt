use Rattle.std.proofs.lemmas.Int.{to_z-of_z}
use Rattle.bl_tree.proofs.NumberLemmas.{checked_of-in_range}
use Rattle.bl_tree.proofs.number.checked.Goals as goal

pub returns-clause-in_range : goal.returns-clause-in_range
returns-clause-in_range c =
    let left = c.ranges.a in
    let right = c.ranges.b in
    let same = simp to_z-of_z at c.value.ensures in
    rw same (checked_of-in_range _ _ _ _ c.requires.takes c.requires.left c.requires.right)
