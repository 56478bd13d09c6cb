use Rattle.std.proofs.Common.{◌<◌, arith}
use Rattle.bl_cause.proofs.BeforeLemmas.{fits_more}
use Rattle.bl_cause.proofs.numbers.all_fit.Goals as goal

pub loop-k-preserved : goal.loop-k-preserved
loop-k-preserved c =
    fits_more c.args.nodes.now c.args.at c.args.numbers.now c.loop-k.k c.place_of.result c.loop-k.yes c.fits-yes.result c.place_of.ensures c.fits-yes.ensures
    c.loop-k.invariant

pub returns : goal.returns
returns c is k lt = let below : k < c.loop-k.k = omega arith in c.loop-k.invariant is k below
