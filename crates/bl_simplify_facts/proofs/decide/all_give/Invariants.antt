use Rattle.std.proofs.Common.{◌≡◌, drop}
use Rattle.bl_simplify_laws.specs.Known.{all_decide}
use Rattle.bl_simplify_facts.specs.Entries.{facts_of}
use Rattle.bl_simplify_facts.proofs.decide.all_give.Given as goal

abbrev pub invariant-loop-case : goal.invariant-loop-case
invariant-loop-case l = all_decide (facts_of (drop l.case-index l.cases)) l.condition l.truth ≡ all_decide (facts_of l.cases) l.condition l.truth
