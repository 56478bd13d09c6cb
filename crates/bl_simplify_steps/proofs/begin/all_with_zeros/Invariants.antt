use Rattle.std.proofs.Common.{◌≡◌, ◌++◌, drop, map}
use Rattle.bl_simplify_facts.specs.Entries.{facts_of, valuation}
use Rattle.bl_simplify_steps.proofs.begin.all_with_zeros.Given as goal

abbrev pub invariant-loop-case : goal.invariant-loop-case
invariant-loop-case l =
    facts_of l.all ++ map (λ known. known ++ valuation l.none) (facts_of (drop l.case-index l.cases))
    ≡ map (λ known. known ++ valuation l.none) (facts_of l.cases)
