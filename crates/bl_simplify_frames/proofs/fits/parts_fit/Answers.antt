use Rattle.bl_tree.specs.declared.text.Text.{Text}
use Rattle.std.proofs.Common.{◌≡◌, ◌||◌, map, rules, ap, ◌∙◌}
use Rattle.std.specs.List.{list_all}
use Rattle.bl_simplify_laws_frames.specs.Reached.{frame_for, is_struct_type, member_type}
use Rattle.bl_simplify_frames.specs.Told.{as_frames, part_of}
use Rattle.bl_simplify_calls.proofs.Standing.{all_next}
use Rattle.bl_simplify_frames.proofs.OnLists.{all_mapped}
use Rattle.bl_simplify_frames.proofs.fits.parts_fit.Goals as goal

pub loop-part-preserved : goal.loop-part-preserved
loop-part-preserved c =
    all_next (λ part. is_struct_type (frame_for (as_frames c.args.frames.now) (part_of part).1).struct (member_type c.args.structs.now c.args.frame.now.of (part_of part).0)) _ c.loop-part.part-index c.part-item.result
    c.loop-part.fit _ _ c.loop-part-test.true c.part-item.is c.part_fits-fit.ensures (c.loop-part.invariant)

pub returns : goal.returns
returns c =
    let same : c.as_slice-part-items.result.now ≡ c.args.frame.now.parts = search rules in
    all_mapped part_of (λ (part : Text × Text). is_struct_type (frame_for (as_frames c.args.frames.now) part.1).struct (member_type c.args.structs.now c.args.frame.now.of part.0)) _ c.loop-part.part-index c.loop-part.fit c.loop-part-test.false
    (c.loop-part.invariant)
    ∙ ap (λ items. list_all (λ (part : Text × Text). is_struct_type (frame_for (as_frames c.args.frames.now) part.1).struct (member_type c.args.structs.now c.args.frame.now.of part.0)) (map part_of items)) same
