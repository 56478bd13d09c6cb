use Rattle.bl_ctext_places.specs.Counters.{names_counter}
use Rattle.bl_ctext_places.specs.Lists.{path_of}
use Rattle.bl_simplify.proofs.OnCounters.{any_mapped_done, any_next}
use Rattle.bl_simplify.proofs.counters.name_some.Goals as goal

pub loop-place-preserved : goal.loop-place-preserved
loop-place-preserved c =
    any_next (λ p. names_counter (path_of p.now)) c.args.places.now c.loop-place.place-index c.place-item.result c.loop-place.some
    c.names_counter-some.result _ c.loop-place-test.true c.place-item.is c.names_counter-some.ensures c.loop-place.invariant

pub returns : goal.returns
returns c =
    any_mapped_done (λ p. path_of p.now) names_counter c.args.places.now c.loop-place.place-index c.loop-place.some c.loop-place-test.false c.loop-place.invariant
