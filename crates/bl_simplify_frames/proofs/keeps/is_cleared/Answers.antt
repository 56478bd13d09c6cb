use Rattle.std.proofs.Common.{sym, ◌∙◌}
use Rattle.bl_simplify_laws_frames.specs.Reached.{frame_spot, plain_place}
use Rattle.bl_simplify_frames.specs.Told.{as_frame}
use Rattle.bl_simplify_frames.proofs.OnPlaces.{covers_told, either}
use Rattle.bl_simplify_frames.proofs.keeps.is_cleared.Goals as goal

pub returns : goal.returns
returns c = λ names.
    let frame = as_frame c.args.frame.now in
    either _ _ _ _ c.is_apart.ensures
    (either _ _ _ _ (c.is_member.ensures names) (c.is_whole.ensures names)
    ∙ covers_told frame (plain_place names c.args.place.now).exact (frame_spot frame c.args.part.now.member))
