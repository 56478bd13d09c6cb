use Rattle.std.proofs.Common.{sym, subst, arith}
use Rattle.bl_cause.specs.inner.Lists.{RowsWithin}
use Rattle.bl_cause.specs.inner.Orders.{state_of}
use Rattle.bl_cause.proofs.OrderLemmas.{Searched, entered_going, searched_first, searched_next}
use Rattle.bl_cause.proofs.finishing.from_all.Goals as goal

pub loop-node-init : goal.loop-node-init
loop-node-init c = subst (Searched c.args.rows.now 0) (sym c.in_ok-search.ensures) (searched_first c.args.rows.now)

pub enter-requires : goal.enter-requires
enter-requires c = let e = c.loop-node.invariant.length_stays in let lt = c.loop-node-test.true in omega (arith, e, lt)

pub finish-requires : goal.finish-requires
finish-requires c =
    let going = entered_going c.args.rows.now c.loop-node.node (state_of c.loop-node.search) (state_of c.enter.new.self) c.loop-node-test.true
    c.in_ok-enter.ensures c.loop-node.invariant in
    record {
      rows = subst (λ n. RowsWithin n c.args.rows.now) (sym going.0) c.requires.rows;
      frames = going.1;
      order = going.2;
    }

pub loop-node-preserved : goal.loop-node-preserved
loop-node-preserved c =
    searched_next c.args.rows.now c.loop-node.node (state_of c.loop-node.search) (state_of c.enter.new.self) (state_of c.finish.new.self) c.loop-node-test.true
    c.in_ok-enter.ensures c.in_ok-finish.ensures.length c.in_ok-finish.ensures.empty c.in_ok-finish.ensures.order c.in_ok-finish.ensures.seen
    c.in_ok-finish.ensures.keeps c.loop-node.invariant
