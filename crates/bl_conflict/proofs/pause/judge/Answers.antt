use Rattle.std.proofs.Common.{◌∙◌}
use Rattle.std.proofs.lemmas.Bool.{not-false, not-true}
use Rattle.bl_conflict.proofs.PauseLemmas.{pause_none, pause_some}
use Rattle.bl_conflict.proofs.pause.judge.Goals as goal

pub returns-then-not-block : goal.returns-then-not-block
returns-then-not-block c =
    pause_none c.args.unit.now c.deref.result.now c.block.result.instant c.args.best c.block.ensures.instant c.deref.ensures
    (not-true c.block.result.instant c.if-not-block.true)

pub returns : goal.returns
returns c =
    c.lesser.ensures
    ∙ pause_some c.args.unit.now c.deref.result.now c.is_activity.result c.block.result.instant c.args.best
    c.is_activity.ensures c.if-not-is_activity.false c.block.ensures.instant c.deref.ensures (not-false c.block.result.instant c.if-not-block.false)
