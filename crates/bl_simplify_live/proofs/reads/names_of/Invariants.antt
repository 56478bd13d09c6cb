use Rattle.std.proofs.Common.{◌≡◌, take, map}
use Rattle.bl_ctext_places.specs.Lists.{path_names, path_of}
use Rattle.bl_ctext_places.specs.Names.{HasNames}
use Rattle.bl_ctext_semantics.specs.inner.Maps.{text_at}
use Rattle.bl_simplify_live.proofs.reads.names_of.Given as goal

abbrev pub invariant-loop-place : goal.invariant-loop-place
invariant-loop-place l = HasNames (text_at l.names) (path_names (map (λ p. path_of p.now) (take l.place-index l.places)))
