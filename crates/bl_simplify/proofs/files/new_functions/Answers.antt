use Rattle.bl_simplify_frames.specs.Told.{as_frames}
use Rattle.bl_simplify.proofs.OnFiles.{new_next}
use Rattle.bl_simplify.proofs.files.new_functions.Goals as goal

pub loop-function-preserved : goal.loop-function-preserved
loop-function-preserved c =
    new_next (as_frames c.args.frames.now) c.args.functions.now c.loop-function.function-index c.function-item.result c.loop-function.new _ _ c.loop-function-test.true
    c.function-item.is c.loop-function.invariant c.in_ok-new_function.ensures c.in_ok-push.ensures.ok
