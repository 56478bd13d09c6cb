use Rattle.std.proofs.Common.{rules, neg_ℤ, FitsSigned}
use Rattle.std.proofs.lemmas.Int.{to_z-of_z}
use Rattle.std.specs.Int.{w128}
use Rattle.bl_tree.proofs.NumberLemmas.{zero-minus}
use Rattle.bl_tree.proofs.number.sums.negation.Goals as goal

pub returns : goal.returns
returns c =
    let range = c.ranges.a in
    let fits : FitsSigned w128 (neg_ℤ c.args.a) = search rules in
    simp (to_z-of_z, zero-minus) at c.signed.ensures
