use Rattle.std.proofs.Common.{◌≡◌, ◌||◌, drop}
use Rattle.std.specs.List.{list_any}
use Rattle.bl_ctext_places.specs.Counters.{names_counter}
use Rattle.bl_ctext_places.specs.Lists.{path_of}
use Rattle.bl_simplify.proofs.counters.name_some.Given as goal

abbrev pub invariant-loop-place : goal.invariant-loop-place
invariant-loop-place l =
    (l.some || list_any (λ p. names_counter (path_of p.now)) (drop l.place-index l.places)) ≡ list_any (λ p. names_counter (path_of p.now)) l.places
