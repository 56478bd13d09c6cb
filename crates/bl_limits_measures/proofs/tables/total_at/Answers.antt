use Rattle.std.proofs.Common.{get_or, slice_index}
use Rattle.std.proofs.lemmas.List.{get_or_default}
use Rattle.bl_limits_measures.proofs.Numbers.{sum_step}
use Rattle.bl_limits_measures.proofs.tables.total_at.Goals as goal

pub loop-position-preserved : goal.loop-position-preserved
loop-position-preserved c =
    let at = get_or c.args.positions.now c.loop-position.position-index 0 in
    sum_step (slice_index c.args.known.now) c.args.positions.now c.loop-position.position-index at c.loop-position.sum c.at.result
    c.saturating_add-sum.result c.loop-position-test.true
    (get_or_default c.args.positions.now c.loop-position.position-index 0 at c.loop-position-test.true) c.at.ensures
    c.saturating_add-sum.ensures c.loop-position.invariant
