use Rattle.std.proofs.Common.{◌≡◌, subst, [], length, get_or, arith, rules}
use Rattle.std.proofs.lemmas.Grind.{common_steps}
use Rattle.bl_cause.specs.inner.Numbers.{FallBefore}
use Rattle.bl_cause.proofs.RowLemmas.{row_read}
use Rattle.bl_cause.proofs.NumberLemmas.{Lowering, fall_done, lowering_less, lowering_next, taken_within}
use Rattle.bl_cause.proofs.numbering.lower.Goals as goal

pub loop-node-smaller : goal.loop-node-smaller
loop-node-smaller c =
    let lt = taken_within (length c.args.numbers.now) c.loop-node.lowered.items c.pop.new.self.items c.in-Some.node c.in-Some.ensures.items
    c.loop-node.invariant.nodes in
    let is : c.deref-in-Some.result.now ≡ get_or c.args.rows.now c.in-Some.node [] =
    row_read c.args.rows.now c.in-Some.node c.deref-in-Some.result.now c.index-rows-node.result c.index-rows-node.is c.deref-in-Some.ensures
    (omega (arith, lt, c.requires.rows.0)) in
    lowering_less c.args.rows.now c.args.numbers.now c.loop-node.numbers c.loop-node.lowered.items c.pop.new.self.items c.in-Some.node
    c.deref-in-Some.result.now (record { numbers = c.lower_along.new.numbers; nodes = c.lower_along.new.lowered.items }) c.requires.rows
    c.in-Some.ensures.items is lt
    c.loop-node.invariant.length_stays c.in_ok-lower_along.ensures

pub loop-node-preserved : goal.loop-node-preserved
loop-node-preserved c =
    let lt = taken_within (length c.args.numbers.now) c.loop-node.lowered.items c.pop.new.self.items c.in-Some.node c.in-Some.ensures.items
    c.loop-node.invariant.nodes in
    let is : c.deref-in-Some.result.now ≡ get_or c.args.rows.now c.in-Some.node [] =
    row_read c.args.rows.now c.in-Some.node c.deref-in-Some.result.now c.index-rows-node.result c.index-rows-node.is c.deref-in-Some.ensures
    (omega (arith, lt, c.requires.rows.0)) in
    let next : Lowering c.args.rows.now c.args.numbers.now (record { numbers = c.lower_along.new.numbers; nodes = c.lower_along.new.lowered.items }) =
    lowering_next c.args.rows.now c.args.numbers.now c.loop-node.numbers c.loop-node.lowered.items c.pop.new.self.items c.in-Some.node
    c.deref-in-Some.result.now (record { numbers = c.lower_along.new.numbers; nodes = c.lower_along.new.lowered.items }) c.requires.rows
    c.in-Some.ensures.items is lt
    c.in_ok-lower_along.ensures
    (record { length_stays = c.loop-node.invariant.length_stays; nodes = c.loop-node.invariant.nodes; fall = c.loop-node.invariant.fall }) in
    record { length_stays = next.length_stays; nodes = next.nodes; fall = next.fall }

pub returns-clause-fall : goal.returns-clause-fall
returns-clause-fall c = λ edges rows keep.
    let none : c.loop-node.lowered.items ≡ [] = first_of (search rules, grind (arith, common_steps)) in
    fall_done edges c.loop-node.numbers (subst (λ nodes. FallBefore edges c.loop-node.numbers nodes []) none (c.loop-node.invariant.fall edges rows keep))
