use Rattle.std.proofs.Common.{drop}
use Rattle.bl_simplify_laws.specs.Rules.{AfterBlock, Facts}
use Rattle.bl_simplify_facts.specs.Entries.{facts_of}
use Rattle.bl_simplify_steps.proofs.steps.+stepping.Given as goal

abbrev pub invariant-cases_after_block-loop-stmt : goal.invariant-cases_after_block-loop-stmt
invariant-cases_after_block-loop-stmt l =
    (exits : Facts) → AfterBlock (facts_of l.left) (drop l.stmt-index l.block) exits → AfterBlock (facts_of l.fn.cases) l.block exits
