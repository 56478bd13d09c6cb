use Rattle.bl_simplify_facts.specs.Entries.{valuation}
use Rattle.bl_simplify_steps.proofs.ForgetLemmas.{entries-done, entry-next}
use Rattle.bl_simplify_steps.proofs.forget.add_without.Goals as goal

pub loop-entry-preserved : goal.loop-entry-preserved
loop-entry-preserved c =
    entry-next c.args.gone.now c.args.case.now c.loop-entry.entry-index c.entry-item.result (valuation c.loop-entry.left)
    (valuation c.add_if_apart.new.left) _ c.loop-entry-test.true c.entry-item.is c.in_ok-add_if_apart.ensures c.loop-entry.invariant

pub returns : goal.returns
returns c =
    entries-done c.args.gone.now c.args.case.now c.loop-entry.entry-index (valuation c.loop-entry.left) _ c.loop-entry-test.false
    c.loop-entry.invariant
