use Rattle.std.proofs.Common.{get_or, slice_index}
use Rattle.bl_limits_measures.proofs.Numbers.{greatest_step}
use Rattle.std.proofs.lemmas.List.{get_or_default}
use Rattle.bl_limits_measures.proofs.tables.greatest_at.Goals as goal

pub loop-position-preserved : goal.loop-position-preserved
loop-position-preserved c =
    let at = get_or c.args.positions.now c.loop-position.position-index 0 in
    greatest_step (slice_index c.args.known.now) c.args.positions.now c.loop-position.position-index at c.loop-position.most
    c.at.result c.max-most.result c.loop-position-test.true
    (get_or_default c.args.positions.now c.loop-position.position-index 0 at c.loop-position-test.true) c.at.ensures
    c.max-most.ensures c.loop-position.invariant
