use Rattle.std.proofs.Common.{◌≡◌, ◌++◌, drop}
use Rattle.bl_simplify_laws.specs.Known.{filtered}
use Rattle.bl_simplify_facts.specs.Entries.{facts_of}
use Rattle.bl_simplify_facts.proofs.decide.cases_left.Given as goal

abbrev pub invariant-loop-case : goal.invariant-loop-case
invariant-loop-case l =
    facts_of l.left ++ filtered (facts_of (drop l.case-index l.cases)) l.condition l.truth ≡ filtered (facts_of l.cases) l.condition l.truth
