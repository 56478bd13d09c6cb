use Rattle.std.proofs.lemmas.Int.{rem_is}
use Rattle.bl_tree.proofs.NumberLemmas.{quotient_fits, divided}
use Rattle.bl_tree.proofs.number.quotients.remainder.Goals as goal

pub returns : goal.returns
returns c =
    let left = c.ranges.a in
    let right = c.ranges.b in
    let fits = quotient_fits _ _ c.args.b c.requires.left in
    rw (divided _ _ c.if-b-eq0.false) (rw rem_is at c.signed.ensures)
