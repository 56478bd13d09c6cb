use Rattle.std.proofs.Common.{ap, sym, ◌∙◌}
use Rattle.bl_plant_drive.proofs.Rounds.{asked-seat, next, over-next, seat-is, there-next}
use Rattle.bl_plant_drive.proofs.round.ask_next.Goals as goal

pub returns-then-index-clause-asked : goal.returns-then-index-clause-asked
returns-then-index-clause-asked g c = λ s ticks stands.
    let n = next s c.args.k _ _ _ stands c.requires.within in
    over-next s c.args.k _ _ _ n
    (sym (ap (λ x. x.finished) (seat-is s c.args.k _ _ _ n c.index.result.now c.index.ensures)) ∙ c.if-index.true)

pub ask-requires : goal.ask-requires
ask-requires g c =
    let given = c.requires.stands in
    let n = next given.0 c.args.k _ _ _ given.2 c.requires.within in
    there-next given.0 c.args.k _ _ _ n c.index_mut.result.now c.index_mut.ensures.value
    (sym (ap (λ x. x.finished) (seat-is given.0 c.args.k _ _ _ n c.index.result.now c.index.ensures)) ∙ c.if-index.false)

pub returns-clause-asked : goal.returns-clause-asked
returns-clause-asked g c = λ s ticks stands.
    let n = next s c.args.k _ _ _ stands c.requires.within in
    asked-seat s c.args.k c.args.ticks _ _ _ c.index_mut.result.now c.ask.new.seat _ _ n c.ask.result ticks c.index_mut.ensures.value
    (sym (ap (λ x. x.finished) (seat-is s c.args.k _ _ _ n c.index.result.now c.index.ensures)) ∙ c.if-index.false)
    c.ask.ensures
