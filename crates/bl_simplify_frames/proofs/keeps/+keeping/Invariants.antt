use Rattle.std.proofs.Common.{◌≡◌, ◌&&◌, List, drop}
use Rattle.std.specs.List.{list_all}
use Rattle.bl_ctext_places.specs.Names.{HasNames}
use Rattle.bl_ctext_semantics.specs.inner.Maps.{text_at}
use Rattle.bl_simplify_laws_frames.specs.Reached.{Frame, framed_names, keeps_frames}
use Rattle.bl_simplify_frames.specs.Told.{as_frame}
use Rattle.bl_simplify_frames.proofs.keeps.+keeping.Given as goal

abbrev pub invariant-block_keeps-loop-stmt : goal.invariant-block_keeps-loop-stmt
invariant-block_keeps-loop-stmt l =
    (frames : List Frame) → HasNames (text_at l.framed) (framed_names frames) →
    (l.kept && list_all (keeps_frames frames (as_frame l.frame)) (drop l.stmt-index l.block)) ≡ list_all (keeps_frames frames (as_frame l.frame)) l.block
