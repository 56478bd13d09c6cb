use Rattle.std.proofs.Common.{◌≡◌, true, drop, map}
use Rattle.bl_ctext_places.specs.Lists.{path_of}
use Rattle.bl_simplify.specs.Counters.{AreOwn}
use Rattle.bl_simplify.proofs.counters.are_own.Given as goal

abbrev pub invariant-loop-place : goal.invariant-loop-place
invariant-loop-place l =
    l.own ≡ true → AreOwn (map (λ p. path_of p.now) (drop l.place-index l.places)) → AreOwn (map (λ p. path_of p.now) l.places)
