use Rattle.std.proofs.Common.{◌≡◌, drop, is_some, map}
use Rattle.std.specs.List.{list_all}
use Rattle.bl_simplify_facts.specs.inner.Told.{step_is}
use Rattle.bl_simplify_facts.proofs.spots.are_steady.Given as goal

abbrev pub invariant-loop-step : goal.invariant-loop-step
invariant-loop-step l = list_all (λ member. is_some member) (map step_is (drop l.step-index l.steps)) ≡ list_all (λ member. is_some member) (map step_is l.steps)
