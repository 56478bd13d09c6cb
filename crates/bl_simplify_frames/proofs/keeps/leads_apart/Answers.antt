use Rattle.std.proofs.Common.{◌≡◌, [], ◌∷◌, rules, ap, sym, ◌∙◌}
use Rattle.bl_tree.specs.declared.c.CExpr.{the_lemmas}
use Rattle.bl_simplify_laws.specs.Spots.{lent_by, spot_of_place}
use Rattle.bl_simplify_laws_frames.specs.Reached.{all_apart, frame_spot}
use Rattle.bl_simplify_frames.specs.Told.{as_frame}
use Rattle.bl_simplify_frames.proofs.OnPlaces.{one_apart}
use Rattle.bl_simplify_frames.proofs.keeps.leads_apart.Goals as goal

pub returns-in-Address : goal.returns-in-Address
returns-in-Address c =
    let spot = frame_spot (as_frame c.args.frame.now) c.args.part.now.member in
    let is : lent_by c.args.arg.now ≡ spot_of_place c.in-Address.place ∷ [] = search (rules, the_lemmas) in
    c.is_apart.ensures ∙ (one_apart (spot_of_place c.in-Address.place) spot ∙ ap (λ l. all_apart l spot) (sym is))
