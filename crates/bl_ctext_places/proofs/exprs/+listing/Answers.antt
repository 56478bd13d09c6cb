use Rattle.std.proofs.Common.{◌∷◌, map, ap, sym, ◌∙◌}
use Rattle.bl_tree.specs.Reduce.{joined}
use Rattle.bl_ctext_places.specs.Lists.{inside_step, path_of}
use Rattle.bl_ctext_places.proofs.Joining.{place_is, place_listed}
use Rattle.bl_ctext_places.proofs.exprs.+listing.Goals as goal

pub in_place-returns : goal.in_place-returns
in_place-returns t c =
    place_listed _ _ _ _ _ _ _ c.in_ok-add.ensures
    (place_is c.args.place.now ∙ ap (λ steps. path_of c.args.place.now ∷ joined (map inside_step steps)) (sym c.deref.ensures)) c.in_indices.ensures
