use Rattle.std.proofs.Common.{◌≡◌, ◌++◌, drop, map}
use Rattle.bl_simplify_laws.specs.Steps.{without_spots}
use Rattle.bl_simplify_facts.specs.Entries.{facts_of}
use Rattle.bl_simplify_steps.proofs.forget.all_without.Given as goal

abbrev pub invariant-loop-case : goal.invariant-loop-case
invariant-loop-case l =
    facts_of l.left ++ map (without_spots l.gone) (facts_of (drop l.case-index l.cases)) ≡ map (without_spots l.gone) (facts_of l.cases)
