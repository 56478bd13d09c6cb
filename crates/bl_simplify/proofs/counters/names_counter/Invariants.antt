use Rattle.std.proofs.Common.{◌≡◌, ◌||◌, drop}
use Rattle.std.specs.List.{list_any}
use Rattle.bl_ctext_places.specs.Counters.{is_counter_name}
use Rattle.bl_simplify.proofs.OnCounters.{member_of}
use Rattle.bl_simplify.proofs.counters.names_counter.Given as goal

abbrev pub invariant-loop-step : goal.invariant-loop-step
invariant-loop-step l =
    (l.names || list_any (λ s. is_counter_name (member_of s)) (drop l.step-index l.step-items)) ≡ list_any (λ s. is_counter_name (member_of s)) l.step-items
