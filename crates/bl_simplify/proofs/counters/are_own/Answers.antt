use Rattle.std.proofs.Common.{sym}
use Rattle.bl_ctext_places.specs.Lists.{path_of}
use Rattle.bl_simplify.proofs.OnCounters.{own_done, own_next}
use Rattle.bl_simplify.proofs.counters.are_own.Goals as goal

pub loop-place-preserved : goal.loop-place-preserved
loop-place-preserved c =
    own_next (λ p. path_of p.now) c.args.places.now c.loop-place.place-index c.place-item.result c.loop-place.own c.is_own.result c.names_counter.result
    c.loop-place-test.true c.place-item.is (sym c.names_counter.ensures) c.is_own.ensures c.loop-place.invariant

pub returns : goal.returns
returns c = own_done (λ p. path_of p.now) c.args.places.now c.loop-place.place-index c.loop-place.own c.loop-place-test.false c.loop-place.invariant
