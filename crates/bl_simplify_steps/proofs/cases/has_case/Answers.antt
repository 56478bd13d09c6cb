use Rattle.std.proofs.Common.{rules}
use Rattle.bl_simplify_steps.proofs.LooserLemmas.{is-there}
use Rattle.bl_simplify_steps.proofs.cases.has_case.Goals as goal

pub returns-then-is_same_case : goal.returns-then-is_same_case
returns-then-is_same_case c = λ _.
    is-there c.args.cases.now c.loop-case.case-index c.case-item.result c.args.asked.now c.loop-case-test.true c.case-item.is (search rules)
