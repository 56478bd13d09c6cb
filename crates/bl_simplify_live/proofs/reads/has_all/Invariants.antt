use Rattle.std.proofs.Common.{◌≡◌, true, drop, map}
use Rattle.bl_ctext_places.specs.Lists.{path_names, path_of}
use Rattle.bl_ctext_semantics.specs.inner.Maps.{text_at}
use Rattle.bl_simplify_live.specs.Reads.{HasAll}
use Rattle.bl_simplify_live.proofs.reads.has_all.Given as goal

abbrev pub invariant-loop-place : goal.invariant-loop-place
invariant-loop-place l =
    l.all ≡ true → HasAll (text_at l.names) (path_names (map (λ p. path_of p.now) (drop l.place-index l.places))) →
    HasAll (text_at l.names) (path_names (map (λ p. path_of p.now) l.places))
