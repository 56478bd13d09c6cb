use Rattle.std.proofs.Common.{◌≡◌, map, rules, ap, sym, ◌∙◌}
use Rattle.bl_tree.specs.declared.c.CExpr.{the_lemmas}
use Rattle.bl_tree.specs.declared.c.CPlace.{out-CPlace}
use Rattle.bl_simplify_laws.specs.Known.{spot_told}
use Rattle.bl_simplify_laws_frames.specs.Reached.{is_spot, plain_place, whole_frame}
use Rattle.bl_simplify_frames.specs.Plain.{is_none_told, plain_step}
use Rattle.bl_simplify_frames.specs.Told.{as_frame}
use Rattle.bl_simplify_frames.proofs.OnPlaces.{both, whole_told}
use Rattle.bl_simplify_frames.proofs.keeps.is_whole.Goals as goal

pub returns : goal.returns
returns c = λ names.
    let place = out-CPlace c.args.place.now in
    let frame = as_frame c.args.frame.now in
    let is : (plain_place names c.args.place.now).exact ≡ spot_told place.through place.name (map (λ s. s.member) (map (plain_step names) place.steps))
    = search (rules, the_lemmas) in
    let step : c.are_none.result ≡ is_none_told (map (λ s. s.member) (map (plain_step names) place.steps)) = c.are_none.ensures names ∙ search rules in
    both _ _ _ _ c.is_within.ensures step
    ∙ (sym (whole_told frame place.through place.name (map (λ s. s.member) (map (plain_step names) place.steps)))
    ∙ ap (λ exact. is_spot exact (whole_frame frame)) (sym is))
