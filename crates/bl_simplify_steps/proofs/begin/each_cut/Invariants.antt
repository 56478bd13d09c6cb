use Rattle.std.proofs.Common.{◌≡◌, ◌++◌, drop}
use Rattle.bl_simplify_facts.specs.Entries.{facts_of}
use Rattle.bl_simplify_steps.specs.inner.Begin.{parted}
use Rattle.bl_simplify_steps.proofs.begin.each_cut.Given as goal

abbrev pub invariant-loop-case : goal.invariant-loop-case
invariant-loop-case l = facts_of l.all ++ parted l.counter l.parts (facts_of (drop l.case-index l.cases)) ≡ parted l.counter l.parts (facts_of l.cases)
