use Rattle.std.proofs.Common.{◌++◌, drop}
use Rattle.bl_simplify_facts.specs.Entries.{facts_of}
use Rattle.bl_simplify_steps.specs.inner.Looser.{Looser}
use Rattle.bl_simplify_steps.proofs.cases.together.Given as goal

abbrev pub invariant-loop-case : goal.invariant-loop-case
invariant-loop-case l = Looser (facts_of l.fn.cases ++ facts_of l.others) (facts_of l.all ++ facts_of (drop l.case-index l.others))
