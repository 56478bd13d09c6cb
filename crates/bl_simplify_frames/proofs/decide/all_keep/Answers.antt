use Rattle.bl_ctext_semantics.specs.inner.Maps.{text_at}
use Rattle.bl_simplify_laws_frames.specs.Reached.{KeepsFrames}
use Rattle.bl_simplify_frames.specs.Decided.{KeepsWhereNamed}
use Rattle.bl_simplify_frames.specs.Told.{as_frames}
use Rattle.bl_simplify_frames.proofs.OnDecided.{all-done, all-next}
use Rattle.bl_simplify_frames.proofs.decide.all_keep.Goals as goal

pub loop-function-preserved : goal.loop-function-preserved
loop-function-preserved c =
    all-next (KeepsWhereNamed (text_at c.in_ok-framed.framed) (as_frames c.args.frames.now)) c.args.functions.now c.loop-function.function-index
    c.function-item.result c.loop-function.all c.in_ok-here.here c.loop-function-test.true c.function-item.is c.in_ok-here.ensures c.loop-function.invariant

pub returns : goal.returns
returns c =
    all-done (text_at c.in_ok-framed.framed) (as_frames c.args.frames.now) c.args.functions.now c.loop-function.function-index c.loop-function.all
    c.loop-function-test.false c.in_ok-framed.ensures c.loop-function.invariant
