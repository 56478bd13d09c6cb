use Rattle.std.proofs.Common.{rules, ◌-ℤ◌, FitsSigned}
use Rattle.std.proofs.lemmas.Int.{to_z-of_z}
use Rattle.std.specs.Int.{w128}
use Rattle.bl_tree.proofs.number.sums.difference.Goals as goal

pub returns : goal.returns
returns c =
    let left = c.ranges.a in
    let right = c.ranges.b in
    let fits : FitsSigned w128 (c.args.a -ℤ c.args.b) = search rules in
    simp to_z-of_z at c.signed.ensures
