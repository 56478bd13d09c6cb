use Rattle.std.proofs.Common.{◌≡◌, ◌+◌, ◌<◌, length, get_or, arith, subst, sym}
use Rattle.std.proofs.lemmas.List.Elements.{All-get_or}
use Rattle.std.proofs.lemmas.Grind.{get_or_default_zero}
use Rattle.bl_machine.proofs.SlotLemmas.{Numbering, numbering_goes_on}
use Rattle.bl_machine.proofs.slots.numbered.Goals as goal

pub loop-counter-preserved : goal.loop-counter-preserved
loop-counter-preserved c =
    let counters = c.args.counters.now in
    let i = c.loop-counter.counter-index in
    let counter = get_or counters i 0 in
    let last = c.loop-counter.last.items in
    let below : counter < c.args.width = All-get_or (λ counter. counter < c.args.width) counters i 0 c.loop-counter-test.true c.requires in
    let many : length last ≡ c.args.width = c.loop-counter.invariant.one_each in
    let held : counter < length last = omega arith in
    let same : get_or last counter c.index.result.now ≡ get_or last counter 0 = get_or_default_zero last counter c.index.result.now held in
    let adds : c.in_ok-value.value ≡ get_or last counter 0 + 1 = omega arith in
    subst (Numbering c.args.width counters (i + 1) _) (sym c.in_ok-push.ensures.ok)
    (numbering_goes_on c.args.width i counter c.in_ok-value.value counters last c.loop-counter.slots c.requires c.loop-counter-test.true
    (sym (get_or_default_zero counters i counter c.loop-counter-test.true)) adds c.loop-counter.invariant)
