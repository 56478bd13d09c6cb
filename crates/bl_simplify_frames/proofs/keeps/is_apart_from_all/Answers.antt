use Rattle.bl_tree.specs.declared.text.Text.{Text}
use Rattle.std.proofs.Common.{◌≡◌, ◌||◌, map, rules, ap, ◌∙◌}
use Rattle.std.specs.List.{list_all}
use Rattle.bl_simplify_laws.specs.Spots.{lent_in, spot_of_place, spots_apart}
use Rattle.bl_simplify_laws_frames.specs.Reached.{all_apart, covers, frame_spot, is_called_with, plain_call, plain_place}
use Rattle.bl_simplify_frames.specs.Told.{as_frame, part_of}
use Rattle.bl_simplify_calls.proofs.Standing.{all_next}
use Rattle.bl_simplify_frames.proofs.OnLists.{all_mapped}
use Rattle.bl_simplify_frames.proofs.keeps.is_apart_from_all.Goals as goal

pub loop-part-preserved : goal.loop-part-preserved
loop-part-preserved c =
    all_next (λ part. spots_apart (spot_of_place c.args.place.now) (frame_spot (as_frame c.args.frame.now) (part_of part).0)) _ c.loop-part.part-index c.part-item.result
    c.loop-part.apart _ _ c.loop-part-test.true c.part-item.is c.is_apart-apart.ensures (c.loop-part.invariant)

pub returns : goal.returns
returns c =
    let same : c.as_slice-part-items.result.now ≡ c.args.frame.now.parts = search rules in
    all_mapped part_of (λ (part : Text × Text). spots_apart (spot_of_place c.args.place.now) (frame_spot (as_frame c.args.frame.now) part.0)) _ c.loop-part.part-index c.loop-part.apart c.loop-part-test.false
    (c.loop-part.invariant)
    ∙ ap (λ items. list_all (λ (part : Text × Text). spots_apart (spot_of_place c.args.place.now) (frame_spot (as_frame c.args.frame.now) part.0)) (map part_of items)) same
