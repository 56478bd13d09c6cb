use Rattle.std.proofs.lemmas.Int.{to_z-of_z}
use Rattle.bl_tree.proofs.NumberLemmas.{int_product_fits}
use Rattle.bl_tree.proofs.number.sums.product.Goals as goal

pub returns-in-Int : goal.returns-in-Int
returns-in-Int c =
    let left = c.ranges.a in
    let right = c.ranges.b in
    let fits = int_product_fits _ _ _ _ c.in-Int.is c.requires.left c.requires.right in
    simp to_z-of_z at c.signed.ensures
