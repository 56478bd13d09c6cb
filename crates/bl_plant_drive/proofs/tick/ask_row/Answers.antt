use Rattle.std.proofs.Common.{ap, length, ◌∙◌}
use Rattle.bl_plant_drive.specs.inner.Round.{seat_numbers}
use Rattle.bl_plant_drive.proofs.Ranges.{wide-kept}
use Rattle.bl_plant_drive.proofs.Ticking.{row-failed, row-short}
use Rattle.bl_plant_drive.proofs.tick.ask_row.Goals as goal

pub returns-in_err-ask_all : goal.returns-in_err-ask_all
returns-in_err-ask_all g c = λ s ticks stands.
    row-failed s c.args.inputs.now _ _ _ _ c.from_residual.result c.from_residual.ensures.1 (c.in_err-ask_all.ensures s ticks stands)

pub row_of-requires : goal.row_of-requires
row_of-requires g c =
    let given = c.requires.stands in
    ap (λ xs. length (seat_numbers xs)) c.deref.ensures.value
    ∙ wide-kept given.0 0 _ _ _ _ _ _ _ given.2 (c.in_ok-ask_all.ensures given.0 given.1 given.2).stands ∙ c.requires.wide

pub returns-in_err-row : goal.returns-in_err-row
returns-in_err-row g c = λ s ticks stands.
    row-short s c.args.inputs.now _ _ _ c.from_residual-in_err-row.result c.from_residual-in_err-row.ensures.1 (c.in_ok-ask_all.ensures s ticks stands)

pub returns : goal.returns
returns g c = λ s ticks stands. (c.in_ok-ask_all.ensures s ticks stands, c.in_ok-row.ensures ∙ ap seat_numbers c.deref.ensures.value)
