use Rattle.std.proofs.Common.{ap, sym, ◌∙◌, map, nat_eq}
use Rattle.std.specs.List.{position_from}
use Rattle.bl_plant.specs.Plants.{PlantView}
use Rattle.bl_plant_drive.proofs.Finding.{at-place, get-around, is-found, place-within, set-around}
use Rattle.bl_plant_drive.proofs.tell.tell_named.Goals as goal

pub unreachable-requires : goal.unreachable-requires
unreachable-requires g c =
    is-found _ c.args.name.number c.requires
    (sym c.in_default.is ∙ c.place_of.ensures
    ∙ ap (position_from (λ (q : PlantView). nat_eq q.name c.args.name.number) 0) (ap (map _) c.deref.ensures.value))

pub tell_at-requires : goal.tell_at-requires
tell_at-requires g c =
    place-within _ c.args.plants.now.items c.args.name.number c.in-Some.at c.requires
    (sym c.in-Some.is ∙ c.place_of.ensures
    ∙ ap (position_from (λ (q : PlantView). nat_eq q.name c.args.name.number) 0) (ap (map _) c.deref.ensures.value))

pub returns : goal.returns
returns g c = λ before p after around.
    let is = sym c.in-Some.is ∙ c.place_of.ensures
    ∙ ap (position_from (λ (q : PlantView). nat_eq q.name c.args.name.number) 0) (ap (map _) c.deref.ensures.value) in
    let at = at-place _ c.args.name.number before p after c.in-Some.at around is in
    let told = c.tell_at.ensures p (get-around _ c.args.name.number before p after c.in-Some.at around at) in
    (told.0, told.1, set-around _ _ c.args.name.number before p told.0 after c.in-Some.at around at told.2)
