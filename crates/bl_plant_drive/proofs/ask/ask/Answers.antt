use Rattle.std.proofs.Common.{◌<◌, ap, sym, ◌∙◌, map, nat_eq, refl, length, subst, pos, le_refl}
use Rattle.std.proofs.lemmas.List.{length-replicate}
use Rattle.std.specs.List.{position_from, remove, slice_get}
use Rattle.bl_plant.specs.Plants.{PlantView}
use Rattle.bl_plant_drive.specs.inner.Stands.{failed, finished, gave, short}
use Rattle.bl_plant_drive.proofs.Finding.{at-place, err-short, get-around, is-found, kept-within, place-within, remove-around, set-around}
use Rattle.bl_plant_drive.proofs.ask.ask.Goals as goal

pub unreachable-requires : goal.unreachable-requires
unreachable-requires g c =
    is-found _ c.args.seat.now.name.number c.requires
    (sym c.in_default.is ∙ c.place_of.ensures
    ∙ ap (position_from (λ (q : PlantView). nat_eq q.name c.args.seat.now.name.number) 0) (ap (map _) c.deref.ensures.value))

pub width_at-requires : goal.width_at-requires
width_at-requires g c =
    subst (λ xs. c.in-Some.at < length xs) (sym c.deref-2.ensures.value)
    (place-within _ c.args.plants.now.items c.args.seat.now.name.number c.in-Some.at c.requires
    (sym c.in-Some.is ∙ c.place_of.ensures
    ∙ ap (position_from (λ (q : PlantView). nat_eq q.name c.args.seat.now.name.number) 0) (ap (map _) c.deref.ensures.value)))

pub give_at-requires-clause-within : goal.give_at-requires-clause-within
give_at-requires-clause-within g c =
    place-within _ c.args.plants.now.items c.args.seat.now.name.number c.in-Some.at c.requires
    (sym c.in-Some.is ∙ c.place_of.ensures
    ∙ ap (position_from (λ (q : PlantView). nat_eq q.name c.args.seat.now.name.number) 0) (ap (map _) c.deref.ensures.value))

pub returns-in_err-row : goal.returns-in_err-row
returns-in_err-row g c = λ before p after around.
    short p (err-short c.from_residual.result c.from_residual.ensures.1)
    (record { name = refl; width = refl; rule = refl; faults = le_refl p.faults }) refl around.list refl refl

pub drop_at-requires : goal.drop_at-requires
drop_at-requires g c =
    let r = c.requires in
    let is = sym c.in-Some.is ∙ c.place_of.ensures
    ∙ ap (position_from (λ (q : PlantView). nat_eq q.name c.args.seat.now.name.number) 0) (ap (map _) c.deref.ensures.value) in
    let at = at-place _ c.args.seat.now.name.number r.before r.plant r.after c.in-Some.at r.around is in
    let told = c.in-Finished.ensures.gives r.plant (get-around _ c.args.seat.now.name.number r.before r.plant r.after c.in-Some.at r.around at) in
    kept-within _ c.args.plants.now.items c.give_at.new.plants.items c.in-Some.at told.0
    (place-within _ c.args.plants.now.items c.args.seat.now.name.number c.in-Some.at c.requires is) told.2

pub returns-in-Gave : goal.returns-in-Gave
returns-in-Gave g c = λ before p after around.
    let is = sym c.in-Some.is ∙ c.place_of.ensures
    ∙ ap (position_from (λ (q : PlantView). nat_eq q.name c.args.seat.now.name.number) 0) (ap (map _) c.deref.ensures.value) in
    let at = at-place _ c.args.seat.now.name.number before p after c.in-Some.at around is in
    let got = get-around _ c.args.seat.now.name.number before p after c.in-Some.at around at in
    let told = c.in-Gave.ensures.gives p got in
    gave told.0 c.give_at.new.into refl told.1
    (c.in-Gave.ensures.length ∙ ap length c.in_ok-row.ensures ∙ length-replicate c.width_at.result (pos 0)
    ∙ c.width_at.ensures p (ap (λ z. slice_get z c.in-Some.at) (ap (map _) c.deref-2.ensures.value) ∙ got))
    (set-around _ _ c.args.seat.now.name.number before p told.0 after c.in-Some.at around at told.2) refl refl

pub returns-in_ok-push-in-Finished : goal.returns-in_ok-push-in-Finished
returns-in_ok-push-in-Finished g c = λ before p after around.
    let is = sym c.in-Some.is ∙ c.place_of.ensures
    ∙ ap (position_from (λ (q : PlantView). nat_eq q.name c.args.seat.now.name.number) 0) (ap (map _) c.deref.ensures.value) in
    let at = at-place _ c.args.seat.now.name.number before p after c.in-Some.at around is in
    let told = c.in-Finished.ensures.gives p (get-around _ c.args.seat.now.name.number before p after c.in-Some.at around at) in
    finished told.0 c.give_at.new.into refl told.1
    (remove-around before told.0 after _ c.in-Some.at at
    (c.drop_at.ensures ∙ ap (λ z. remove z c.in-Some.at) (set-around _ _ c.args.seat.now.name.number before p told.0 after c.in-Some.at around at told.2)))
    refl c.in_ok-push-in-Finished.ensures.ok

pub returns-in_err-push-in-Finished : goal.returns-in_err-push-in-Finished
returns-in_err-push-in-Finished g c = λ before p after around.
    let is = sym c.in-Some.is ∙ c.place_of.ensures
    ∙ ap (position_from (λ (q : PlantView). nat_eq q.name c.args.seat.now.name.number) 0) (ap (map _) c.deref.ensures.value) in
    let at = at-place _ c.args.seat.now.name.number before p after c.in-Some.at around is in
    let told = c.in-Finished.ensures.gives p (get-around _ c.args.seat.now.name.number before p after c.in-Some.at around at) in
    short told.0 (err-short c.from_residual-in_err-push-in-Finished.result c.from_residual-in_err-push-in-Finished.ensures.1) told.1.same told.1.answered.0
    (set-around _ _ c.args.seat.now.name.number before p told.0 after c.in-Some.at around at told.2) refl c.in_err-push-in-Finished.ensures.err

pub returns-in-Failed : goal.returns-in-Failed
returns-in-Failed g c = λ before p after around.
    let is = sym c.in-Some.is ∙ c.place_of.ensures
    ∙ ap (position_from (λ (q : PlantView). nat_eq q.name c.args.seat.now.name.number) 0) (ap (map _) c.deref.ensures.value) in
    let at = at-place _ c.args.seat.now.name.number before p after c.in-Some.at around is in
    let told = c.in-Failed.ensures.gives p (get-around _ c.args.seat.now.name.number before p after c.in-Some.at around at) in
    failed told.0 c.give_at.new.into refl told.1
    (set-around _ _ c.args.seat.now.name.number before p told.0 after c.in-Some.at around at told.2) refl refl

pub returns-in-NoMemory : goal.returns-in-NoMemory
returns-in-NoMemory g c = λ before p after around.
    let is = sym c.in-Some.is ∙ c.place_of.ensures
    ∙ ap (position_from (λ (q : PlantView). nat_eq q.name c.args.seat.now.name.number) 0) (ap (map _) c.deref.ensures.value) in
    let at = at-place _ c.args.seat.now.name.number before p after c.in-Some.at around is in
    let told = c.in-NoMemory.ensures.gives p (get-around _ c.args.seat.now.name.number before p after c.in-Some.at around at) in
    short told.0 refl told.1.same told.1.answered (set-around _ _ c.args.seat.now.name.number before p told.0 after c.in-Some.at around at told.2)
    refl refl
