use Rattle.std.proofs.Common.{drop}
use Rattle.bl_simplify_laws.specs.Rules.{AfterBlock, Facts}
use Rattle.bl_simplify_facts.specs.Entries.{facts_of}
use Rattle.bl_simplify_walk.proofs.needed.cases_after_all.Given as goal

abbrev pub invariant-loop-stmt : goal.invariant-loop-stmt
invariant-loop-stmt l =
    (exits : Facts) → AfterBlock (facts_of l.left) (drop l.stmt-index l.block) exits → AfterBlock (facts_of l.fn.cases) l.block exits
