use Rattle.std.proofs.Common.{◌≡◌, ◌++◌, drop, map}
use Rattle.bl_simplify_laws.specs.Steps.{after_set}
use Rattle.bl_simplify_facts.specs.Entries.{facts_of}
use Rattle.bl_simplify_steps.proofs.sets.all_set.Given as goal

abbrev pub invariant-loop-case : goal.invariant-loop-case
invariant-loop-case l =
    facts_of l.left ++ map (after_set l.at l.value) (facts_of (drop l.case-index l.cases)) ≡ map (after_set l.at l.value) (facts_of l.cases)
