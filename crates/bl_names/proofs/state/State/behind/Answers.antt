use Rattle.bl_names.proofs.HeadingLemmas.{behind_next}
use Rattle.bl_names.proofs.state.State.behind.Goals as goal

pub loop-heading-preserved : goal.loop-heading-preserved
loop-heading-preserved c =
    behind_next c.args.headings.now c.loop-heading.heading-index c.heading-item.result c.loop-heading.state c.add_heading.new.self _
    c.loop-heading-test.true c.heading-item.is c.in_ok-add_heading.ensures c.loop-heading.invariant
