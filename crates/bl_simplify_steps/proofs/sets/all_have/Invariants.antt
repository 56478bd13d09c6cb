use Rattle.std.proofs.Common.{◌≡◌, drop, option_and_then}
use Rattle.std.specs.List.{list_all}
use Rattle.bl_simplify_laws.specs.Known.{fact_in, place_is, told}
use Rattle.bl_simplify_laws.specs.Steps.{same_whole}
use Rattle.bl_simplify_facts.specs.Entries.{facts_of}
use Rattle.bl_simplify_steps.proofs.sets.all_have.Given as goal

abbrev pub invariant-loop-case : goal.invariant-loop-case
invariant-loop-case l =
    list_all (λ known. same_whole ((told l.value).fact known) (option_and_then (λ spot. fact_in spot known) (place_is l.at).spot))
    (facts_of (drop l.case-index l.cases))
    ≡ list_all (λ known. same_whole ((told l.value).fact known) (option_and_then (λ spot. fact_in spot known) (place_is l.at).spot)) (facts_of l.cases)
