use Rattle.std.proofs.Common.{◌≡◌, drop, option_map}
use Rattle.bl_simplify_laws.specs.Known.{fact_in as fact_in_known}
use Rattle.bl_simplify_facts.specs.Entries.{valuation}
use Rattle.bl_simplify_facts.specs.inner.Told.{spot_named}
use Rattle.bl_simplify_facts.proofs.spots.fact_in.Given as goal

abbrev pub invariant-loop-entry : goal.invariant-loop-entry
invariant-loop-entry l =
    fact_in_known (spot_named l.through l.name (option_map (λ t. t.now) l.first)) (valuation (drop l.entry-index l.known))
    ≡ fact_in_known (spot_named l.through l.name (option_map (λ t. t.now) l.first)) (valuation l.known)
