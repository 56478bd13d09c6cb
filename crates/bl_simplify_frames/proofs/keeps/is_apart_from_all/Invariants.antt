use Rattle.std.proofs.Common.{◌≡◌, ◌&&◌, ◌||◌, List, drop}
use Rattle.std.specs.List.{list_all}
use Rattle.bl_tree.specs.declared.text.Text.{Text}
use Rattle.bl_simplify_laws.specs.Spots.{lent_in, spot_of_place, spots_apart}
use Rattle.bl_simplify_laws_frames.specs.Reached.{all_apart, covers, frame_spot, is_called_with, plain_call, plain_place}
use Rattle.bl_simplify_frames.specs.Told.{as_frame, part_of}
use Rattle.bl_simplify_frames.proofs.keeps.is_apart_from_all.Given as goal

abbrev pub invariant-loop-part : goal.invariant-loop-part
invariant-loop-part l =
    (l.apart && list_all (λ part. spots_apart (spot_of_place l.place) (frame_spot (as_frame l.frame) (part_of part).0)) (drop l.part-index l.part-items))
    ≡ list_all (λ part. spots_apart (spot_of_place l.place) (frame_spot (as_frame l.frame) (part_of part).0)) l.part-items
