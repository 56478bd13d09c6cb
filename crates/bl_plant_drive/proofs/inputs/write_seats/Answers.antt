use Rattle.std.proofs.Common.{◌+◌, ◌∙◌, ap, arith, get_or}
use Rattle.bl_plant_drive.proofs.Filling.{filled-long, filled-more, filled-within}
use Rattle.bl_plant_drive.proofs.Lists.{read-again, read-same}
use Rattle.bl_plant_drive.proofs.inputs.write_seats.Goals as goal

pub write_at-requires-clause-wide : goal.write_at-requires-clause-wide
write_at-requires-clause-wide c =
    filled-within c.loop-k.k c.loop-k.first c.args.seats.now c.args.into.now c.loop-k.into
    (get_or c.args.seats.now c.loop-k.k c.index-seats-k.result) c.loop-k-test.true
    (read-again c.args.seats.now c.loop-k.k c.index-seats-k.result c.loop-k-test.true) c.loop-k.invariant.first c.requires.wide c.loop-k.invariant.row

pub overflow_add-first : goal.overflow_add-first
overflow_add-first c =
    let few = c.requires.few in
    let columns = c.len-first.ensures in
    let long = filled-long c.loop-k.k c.args.seats.now c.args.into.now c.loop-k.into c.index-seats-k-in-loop-k.result c.loop-k-test.true c.requires.wide
    c.loop-k.invariant.row in
    let most =
    filled-within c.loop-k.k c.loop-k.first c.args.seats.now c.args.into.now c.loop-k.into
    (get_or c.args.seats.now c.loop-k.k c.index-seats-k-in-loop-k.result) c.loop-k-test.true
    (read-again c.args.seats.now c.loop-k.k c.index-seats-k-in-loop-k.result c.loop-k-test.true) c.loop-k.invariant.first c.requires.wide
    c.loop-k.invariant.row in
    omega (arith, few, columns, long, most)

pub loop-k-preserved : goal.loop-k-preserved
loop-k-preserved c =
    let more =
    filled-more c.loop-k.k c.loop-k.first c.args.seats.now c.args.into.now c.loop-k.into
    (get_or c.args.seats.now c.loop-k.k c.index-seats-k.result) (get_or c.args.seats.now c.loop-k.k c.index-seats-k-in-loop-k.result)
    c.loop-k-test.true (read-again c.args.seats.now c.loop-k.k c.index-seats-k.result c.loop-k-test.true)
    (read-same c.args.seats.now c.loop-k.k c.index-seats-k-in-loop-k.result c.index-seats-k.result c.loop-k-test.true) c.loop-k.invariant.first
    c.loop-k.invariant.row in
    record {
      first = ap (λ n. c.loop-k.first + n) c.len-first.ensures ∙ more.1;
      row = c.write_at.ensures ∙ more.0;
    }
