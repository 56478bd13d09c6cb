use Rattle.std.proofs.Common.{◌∙◌}
use Rattle.bl_plant_drive.proofs.Lists.{read-again}
use Rattle.bl_plant_drive.proofs.Naming.{widths-all, widths-more}
use Rattle.bl_plant_drive.proofs.names.widths.Goals as goal

pub loop-k-preserved : goal.loop-k-preserved
loop-k-preserved g c =
    c.saturating_add-sum.ensures
    ∙ widths-more _ _ c.args.names.now c.loop-k.k _ c.loop-k.sum c.from.result c.loop-k-test.true
    (read-again c.args.names.now c.loop-k.k (record { number = 0 }) c.loop-k-test.true) c.loop-k.invariant (c.from.ensures ∙ c.width_named.ensures)

pub returns : goal.returns
returns g c = widths-all _ _ c.args.names.now c.loop-k.k c.loop-k.sum c.loop-k-test.false c.loop-k.invariant
