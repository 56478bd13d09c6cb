use Rattle.std.proofs.Common.{◌≡◌, drop}
use Rattle.bl_simplify_laws.specs.Conditions.{same_tests}
use Rattle.bl_simplify_facts.specs.Entries.{facts_of}
use Rattle.bl_simplify_steps.proofs.exchange.have_one_truth.Given as goal

abbrev pub invariant-loop-case : goal.invariant-loop-case
invariant-loop-case l = same_tests (facts_of (drop l.case-index l.cases)) l.one l.other ≡ same_tests (facts_of l.cases) l.one l.other
