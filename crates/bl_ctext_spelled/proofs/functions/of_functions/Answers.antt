use Rattle.bl_ctext.specs.Spellable.{spells_func}
use Rattle.bl_ctext.specs.inner.Depths.{func_depth}
use Rattle.bl_ctext_spelled.proofs.Depths.{parts_done, parts_next}
use Rattle.bl_ctext_spelled.proofs.functions.of_functions.Goals as goal

pub loop-function-preserved : goal.loop-function-preserved
loop-function-preserved c =
    parts_next spells_func func_depth c.args.functions.now c.loop-function.function-index c.function-item.result _ _ _ _ _ c.loop-function-test.true
    c.function-item.is c.of_function.ensures c.deeper-depth.ensures c.loop-function.invariant

pub returns : goal.returns
returns c =
    parts_done spells_func func_depth c.args.functions.now c.loop-function.function-index c.loop-function.depth c.loop-function-test.false
    c.loop-function.invariant
