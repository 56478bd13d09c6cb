use Rattle.std.proofs.Common.{◌≡◌, ◌&&◌, drop}
use Rattle.std.specs.List.{list_all}
use Rattle.bl_simplify_laws.specs.Spots.{lent_by}
use Rattle.bl_simplify_laws_frames.specs.Reached.{all_apart, frame_spot}
use Rattle.bl_simplify_frames.specs.Told.{as_frame}
use Rattle.bl_simplify_frames.proofs.keeps.lead_apart.Given as goal

abbrev pub invariant-loop-arg : goal.invariant-loop-arg
invariant-loop-arg l =
    (l.apart && list_all (λ a. all_apart (lent_by a) (frame_spot (as_frame l.frame) l.part.member)) (drop l.arg-index l.args))
    ≡ list_all (λ a. all_apart (lent_by a) (frame_spot (as_frame l.frame) l.part.member)) l.args
