use Rattle.std.proofs.Common.{◌≡◌, ◌&&◌, ◌||◌, List, drop}
use Rattle.std.specs.List.{list_all}
use Rattle.bl_tree.specs.declared.text.Text.{Text}
use Rattle.bl_simplify_laws_frames.specs.Reached.{frame_for, is_struct_type, member_type}
use Rattle.bl_simplify_frames.specs.Told.{as_frames, part_of}
use Rattle.bl_simplify_frames.proofs.fits.parts_fit.Given as goal

abbrev pub invariant-loop-part : goal.invariant-loop-part
invariant-loop-part l =
    (l.fit && list_all (λ part. is_struct_type (frame_for (as_frames l.frames) (part_of part).1).struct (member_type l.structs l.frame.of (part_of part).0)) (drop l.part-index l.part-items))
    ≡ list_all (λ part. is_struct_type (frame_for (as_frames l.frames) (part_of part).1).struct (member_type l.structs l.frame.of (part_of part).0)) l.part-items
