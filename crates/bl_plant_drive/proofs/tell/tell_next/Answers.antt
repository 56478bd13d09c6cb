use Rattle.std.proofs.Common.{get_or}
use Rattle.bl_plant_drive.proofs.Lists.{read-again}
use Rattle.bl_plant_drive.proofs.Telling.{deaf-next, heard-next, next-told, told-there}
use Rattle.bl_plant_drive.proofs.tell.tell_next.Goals as goal

pub returns-then-seats-k : goal.returns-then-seats-k
returns-then-seats-k g c = λ h row t.
    deaf-next h c.args.k _ _ (next-told h c.args.k _ _ t c.requires.within) (get_or c.args.seats.now c.args.k c.index-seats-k.result)
    (read-again c.args.seats.now c.args.k c.index-seats-k.result c.requires.within) c.if-seats-k.true

pub tell_named-requires : goal.tell_named-requires
tell_named-requires g c =
    let given = c.requires.stands in
    told-there given.0 c.args.k _ _ (next-told given.0 c.args.k _ _ given.2 c.requires.within)
    (get_or c.args.seats.now c.args.k c.index-seats-k.result) (get_or c.args.seats.now c.args.k c.index-seats-k-2.result)
    (read-again c.args.seats.now c.args.k c.index-seats-k.result c.requires.within)
    (read-again c.args.seats.now c.args.k c.index-seats-k-2.result c.requires.within) c.if-seats-k.false

pub returns : goal.returns
returns g c = λ h row t.
    heard-next h c.args.k _ _ _ c.args.outs.now (next-told h c.args.k _ _ t c.requires.within)
    (get_or c.args.seats.now c.args.k c.index-seats-k.result) (get_or c.args.seats.now c.args.k c.index-seats-k-2.result) c.tell_named.result row
    (read-again c.args.seats.now c.args.k c.index-seats-k.result c.requires.within)
    (read-again c.args.seats.now c.args.k c.index-seats-k-2.result c.requires.within) c.if-seats-k.false c.tell_named.ensures
