use Rattle.std.proofs.Common.{◌+◌, ◌<◌, ap, arith, length, sym, ◌∙◌}
use Rattle.bl_plant_drive.specs.declared.seat.Seat.{Seat}
use Rattle.bl_plant_drive.specs.inner.Round.{seat_numbers}
use Rattle.bl_plant_drive.proofs.Ends.{asked-passed, tested-passed}
use Rattle.bl_plant_drive.proofs.Going.{one-more, round-on, round-within, same-seat}
use Rattle.bl_plant_drive.proofs.Ranges.{front-kept, wide-kept}
use Rattle.bl_plant_drive.proofs.round.ask_all.Goals as goal

pub returns-in_err-ask_next : goal.returns-in_err-ask_next
returns-in_err-ask_next g c = λ s ticks stands.
    asked-passed s c.args.inputs.now c.loop-k.k _ _ _ _ c.from_residual.result c.from_residual.ensures.1
    (c.in_err-ask_next.ensures.asked s ticks (c.loop-k.invariant.on s ticks stands))
    (front-kept c.args.inputs.now c.loop-k.k _ _ c.in_err-ask_next.ensures.front c.loop-k.invariant.front)

pub test_ranges-requires-clause-wide : goal.test_ranges-requires-clause-wide
test_ranges-requires-clause-wide g c =
    let s = c.requires.stands in
    let before = c.loop-k.invariant.on s.0 s.1 s.2 in
    let test = c.loop-k-test.true in
    let end = c.len-k-end.ensures in
    let long = c.in_ok-ask_next.ensures.long in
    let same = c.loop-k.invariant.long in
    let low : c.loop-k.k < length c.ask_next.new.seats.items = omega (arith, test, end, long, same) in
    round-within c.args.inputs.now c.loop-k.k c.loop-k.first _ c.ask_next.new.seats.items c.index.result.now c.in_ok-ask_next.ensures.front
    c.loop-k.invariant.first low c.index.ensures
    (wide-kept s.0 c.loop-k.k _ _ _ _ _ _ _ before (c.in_ok-ask_next.ensures.asked s.0 s.1 before) ∙ c.loop-k.invariant.wide)

pub returns-in_err-test_ranges : goal.returns-in_err-test_ranges
returns-in_err-test_ranges g c = λ s ticks stands.
    let test = c.loop-k-test.true in
    let end = c.len-k-end.ensures in
    let long = c.in_ok-ask_next.ensures.long in
    let same = c.loop-k.invariant.long in
    let low : c.loop-k.k < length c.ask_next.new.seats.items = omega (arith, test, end, long, same) in
    tested-passed s c.args.inputs.now c.loop-k.k c.loop-k.first _ c.ask_next.new.seats.items _ c.index.result.now _
    c.from_residual-in_err-test_ranges.result c.from_residual-in_err-test_ranges.ensures.1
    (c.in_ok-ask_next.ensures.asked s ticks (c.loop-k.invariant.on s ticks stands))
    (front-kept c.args.inputs.now c.loop-k.k _ c.ask_next.new.seats.items c.in_ok-ask_next.ensures.front c.loop-k.invariant.front) low
    c.index.ensures (c.loop-k.invariant.first ∙ ap (λ z. length (seat_numbers z)) (sym c.in_ok-ask_next.ensures.front))
    c.in_err-test_ranges.ensures

pub overflow_add-first : goal.overflow_add-first
overflow_add-first g c =
    let s = c.requires.stands in
    let before = c.loop-k.invariant.on s.0 s.1 s.2 in
    let test = c.loop-k-test.true in
    let end = c.len-k-end.ensures in
    let long = c.in_ok-ask_next.ensures.long in
    let same = c.loop-k.invariant.long in
    let few = c.requires.few in
    let columns = c.len-first.ensures in
    let low : c.loop-k.k < length c.ask_next.new.seats.items = omega (arith, test, end, long, same) in
    let most =
    round-within c.args.inputs.now c.loop-k.k c.loop-k.first _ c.ask_next.new.seats.items c.index-in-loop-k.result.now
    c.in_ok-ask_next.ensures.front c.loop-k.invariant.first low c.index-in-loop-k.ensures
    (wide-kept s.0 c.loop-k.k _ _ _ _ _ _ _ before (c.in_ok-ask_next.ensures.asked s.0 s.1 before) ∙ c.loop-k.invariant.wide) in
    omega (arith, few, columns, most)

pub loop-k-preserved : goal.loop-k-preserved
loop-k-preserved g c =
    let s = c.requires.stands in
    let before = c.loop-k.invariant.on s.0 s.1 s.2 in
    let test = c.loop-k-test.true in
    let end = c.len-k-end.ensures in
    let long = c.in_ok-ask_next.ensures.long in
    let same = c.loop-k.invariant.long in
    let low : c.loop-k.k < length c.ask_next.new.seats.items = omega (arith, test, end, long, same) in
    let on =
    round-on c.args.inputs.now c.loop-k.k c.loop-k.first _ c.ask_next.new.seats.items c.index.result.now c.in_ok-ask_next.ensures.front
    c.loop-k.invariant.front c.loop-k.invariant.first low c.index.ensures c.in_ok-test_ranges.ensures in
    record {
      on = λ t ticks stands.
          one-more t c.loop-k.k _ _ _
          (c.in_ok-ask_next.ensures.asked t ticks (c.loop-k.invariant.on t ticks stands));
      first =
          ap (λ n. c.loop-k.first + n)
          (c.len-first.ensures
          ∙ ap (λ (x : Seat). length x.columns)
          (same-seat c.ask_next.new.seats.items c.loop-k.k c.index.result.now c.index-in-loop-k.result.now low c.index.ensures
          c.index-in-loop-k.ensures))
          ∙ on.1;
      front = on.0;
      wide = wide-kept s.0 c.loop-k.k _ _ _ _ _ _ _ before (c.in_ok-ask_next.ensures.asked s.0 s.1 before) ∙ c.loop-k.invariant.wide;
      long = long ∙ same;
    }
