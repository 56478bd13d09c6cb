use Rattle.std.proofs.Common.{◌≡◌, ◌&&◌, ◌||◌, List, drop}
use Rattle.std.specs.List.{list_any}
use Rattle.bl_tree.specs.declared.text.Text.{Text}
use Rattle.bl_simplify_laws.specs.Spots.{lent_in, spot_of_place, spots_apart}
use Rattle.bl_simplify_laws_frames.specs.Reached.{all_apart, covers, frame_spot, is_called_with, plain_call, plain_place}
use Rattle.bl_simplify_frames.specs.Told.{as_frame, part_of}
use Rattle.bl_simplify_frames.proofs.keeps.is_with_some.Given as goal

abbrev pub invariant-loop-part : goal.invariant-loop-part
invariant-loop-part l =
    (names : List Text) → (l.some || list_any (λ part. is_called_with (as_frame l.frame) (plain_call names l.call) (part_of part)) (drop l.part-index l.part-items))
    ≡ list_any (λ part. is_called_with (as_frame l.frame) (plain_call names l.call) (part_of part)) l.part-items
