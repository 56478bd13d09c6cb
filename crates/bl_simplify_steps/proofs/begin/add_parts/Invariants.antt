use Rattle.std.proofs.Common.{◌≡◌, ◌∷◌, ◌++◌, drop, map}
use Rattle.bl_simplify_facts.specs.Entries.{facts_of, valuation}
use Rattle.bl_simplify_steps.proofs.begin.add_parts.Given as goal

abbrev pub invariant-loop-part : goal.invariant-loop-part
invariant-loop-part l =
    facts_of l.all ++ map (λ fact. (l.counter, fact) ∷ valuation l.case) (drop l.part-index l.parts)
    ≡ facts_of l.fn.all ++ map (λ fact. (l.counter, fact) ∷ valuation l.case) l.parts
