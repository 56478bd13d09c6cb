use Rattle.std.proofs.Common.{rules}
use Rattle.std.proofs.lemmas.Result.{IfOk-weaker}
use Rattle.bl_ctext_semantics.specs.inner.Maps.{text_at}
use Rattle.bl_simplify_laws_frames.specs.Reached.{framed_names}
use Rattle.bl_simplify_frames.specs.Told.{as_frame, as_frames}
use Rattle.bl_simplify_frames.proofs.OnDecided.{kept-of}
use Rattle.bl_simplify_frames.proofs.decide.keeps_with.Goals as goal

pub returns : goal.returns
returns c =
    let frames = as_frames c.args.frames.now in
    IfOk-weaker c.leaves_reached.result _ _
    (λ leaves left. λ is. kept-of (text_at c.args.framed.now) frames (as_frame c.args.frame.now) c.args.function.now c.stands.result c.block_keeps.result
    c.takes_own.result c.requires (search rules) (search rules) (search rules) (λ has. c.stands.ensures (framed_names frames) has)
    (λ has. search rules) (λ has. c.takes_own.ensures (framed_names frames) has) (left is)) c.leaves_reached.ensures
