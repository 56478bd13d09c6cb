use Rattle.std.proofs.Common.{◌∙◌}
use Rattle.bl_simplify_laws.specs.Spots.{lent_by, spots_apart}
use Rattle.bl_simplify_laws_frames.specs.Reached.{all_apart, frame_spot}
use Rattle.bl_simplify_frames.specs.Told.{as_frame}
use Rattle.bl_simplify_calls.proofs.Standing.{all_done, all_next}
use Rattle.bl_simplify_frames.proofs.OnPlaces.{all_joined}
use Rattle.bl_simplify_frames.proofs.keeps.lead_apart.Goals as goal

pub loop-arg-preserved : goal.loop-arg-preserved
loop-arg-preserved c =
    all_next (λ a. all_apart (lent_by a) (frame_spot (as_frame c.args.frame.now) c.args.part.now.member)) c.args.args.now c.loop-arg.arg-index
    c.arg-item.result c.loop-arg.apart _ _ c.loop-arg-test.true c.arg-item.is c.leads_apart-apart.ensures c.loop-arg.invariant

pub returns : goal.returns
returns c =
    let spot = frame_spot (as_frame c.args.frame.now) c.args.part.now.member in
    all_done (λ a. all_apart (lent_by a) spot) c.args.args.now c.loop-arg.arg-index c.loop-arg.apart _ c.loop-arg-test.false c.loop-arg.invariant
    ∙ all_joined lent_by (λ s. spots_apart s spot) c.args.args.now
