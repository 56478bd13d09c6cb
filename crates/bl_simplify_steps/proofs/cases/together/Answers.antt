use Rattle.std.proofs.Common.{rules}
use Rattle.bl_simplify_facts.specs.Entries.{facts_of}
use Rattle.bl_simplify_steps.proofs.LooserLemmas.{case-next}
use Rattle.bl_simplify_steps.proofs.cases.together.Goals as goal

pub loop-case-preserved : goal.loop-case-preserved
loop-case-preserved c =
    case-next _ (facts_of c.loop-case.all) (facts_of c.add_case.new.cases) c.args.others.now c.loop-case.case-index c.case-item.result
    c.loop-case-test.true c.case-item.is (search rules) c.loop-case.invariant
