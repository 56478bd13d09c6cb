use Rattle.bl_simplify_frames.proofs.OnPlaces.{both}
use Rattle.bl_simplify_frames.proofs.keeps.set_keeps.Goals as goal

pub returns : goal.returns
returns c = λ names has.
    both _ _ _ _ (c.is_plain_place.ensures names has) (both _ _ _ _ (c.is_plain_expr.ensures names has) c.is_apart_from_all.ensures)
