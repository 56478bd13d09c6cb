use Rattle.std.proofs.Common.{◌≡◌, ◌++◌, drop, map}
use Rattle.bl_tree.specs.Reduce.{joined}
use Rattle.bl_ctext_places.specs.Lists.{inside_step, path_of}
use Rattle.bl_ctext_places.specs.Places.{places_in_arg}
use Rattle.bl_ctext_places.proofs.exprs.+listing.Given as goal

abbrev pub invariant-in_call-loop-arg : goal.invariant-in_call-loop-arg
invariant-in_call-loop-arg l =
    map (λ p. path_of p.now) l.found.items ++ joined (map places_in_arg (drop l.arg-index l.arg-items))
    ≡ map (λ p. path_of p.now) l.initial.found.items ++ joined (map places_in_arg l.arg-items)

abbrev pub invariant-in_indices-loop-step : goal.invariant-in_indices-loop-step
invariant-in_indices-loop-step l =
    map (λ p. path_of p.now) l.found.items ++ joined (map inside_step (drop l.step-index l.steps))
    ≡ map (λ p. path_of p.now) l.initial.found.items ++ joined (map inside_step l.steps)
