use Rattle.std.proofs.Common.{◌≡◌, ◌<◌, ap, sym, subst, ◌∙◌, [], length, get_or, arith}
use Rattle.bl_cause.proofs.RowLemmas.{row_read}
use Rattle.bl_cause.proofs.StepLemmas.{blank, closed_done, node_within, under_first, under_less, under_next, under_row}
use Rattle.bl_cause.proofs.way_back.steps_from.Goals as goal

pub loop-at-init : goal.loop-at-init
loop-at-init c =
    under_first c.args.rows.now c.args.first c.in_ok-reached.reached c.requires.ends c.in_ok-reached.ensures.seen c.in_ok-reached.ensures.steps

pub bounds-rows-node : goal.bounds-rows-node
bounds-rows-node c =
    let lt : c.loop-at.at < length c.loop-at.reached.steps = omega (arith, c.loop-at-test.true, c.len.ensures) in
    subst (λ steps. (get_or steps c.loop-at.at blank).edge.to < length c.args.rows.now) (sym c.deref.ensures)
    (node_within c.args.rows.now c.args.first c.loop-at.reached c.loop-at.at lt c.loop-at.invariant)

pub spread-requires : goal.spread-requires
spread-requires c =
    let lt : c.loop-at.at < length c.loop-at.reached.steps = omega (arith, c.loop-at-test.true, c.len.ensures) in
    let there = node_within c.args.rows.now c.args.first c.loop-at.reached c.loop-at.at lt c.loop-at.invariant in
    let is : c.deref-in-loop-at.result.now ≡ get_or c.args.rows.now (get_or c.loop-at.reached.steps c.loop-at.at blank).edge.to [] =
    row_read c.args.rows.now (get_or c.loop-at.reached.steps c.loop-at.at blank).edge.to c.deref-in-loop-at.result.now c.index-rows-node.result
    (c.index-rows-node.is ∙ ap (λ steps. get_or c.args.rows.now (get_or steps c.loop-at.at blank).edge.to c.index-rows-node.result) c.deref.ensures)
    c.deref-in-loop-at.ensures there in
    record {
      row = under_row c.args.rows.now c.args.first c.loop-at.reached c.loop-at.at c.deref-in-loop-at.result.now c.requires.rows lt is
          c.loop-at.invariant;
    }

pub loop-at-smaller : goal.loop-at-smaller
loop-at-smaller c =
    let lt : c.loop-at.at < length c.loop-at.reached.steps = omega (arith, c.loop-at-test.true, c.len.ensures) in
    let there = node_within c.args.rows.now c.args.first c.loop-at.reached c.loop-at.at lt c.loop-at.invariant in
    let is : c.deref-in-loop-at.result.now ≡ get_or c.args.rows.now (get_or c.loop-at.reached.steps c.loop-at.at blank).edge.to [] =
    row_read c.args.rows.now (get_or c.loop-at.reached.steps c.loop-at.at blank).edge.to c.deref-in-loop-at.result.now c.index-rows-node.result
    (c.index-rows-node.is ∙ ap (λ steps. get_or c.args.rows.now (get_or steps c.loop-at.at blank).edge.to c.index-rows-node.result) c.deref.ensures)
    c.deref-in-loop-at.ensures there in
    under_less c.args.rows.now c.args.first c.loop-at.reached c.loop-at.at c.deref-in-loop-at.result.now c.spread.new.self c.requires.rows lt is
    c.in_ok-spread.ensures c.loop-at.invariant

pub loop-at-preserved : goal.loop-at-preserved
loop-at-preserved c =
    let lt : c.loop-at.at < length c.loop-at.reached.steps = omega (arith, c.loop-at-test.true, c.len.ensures) in
    let there = node_within c.args.rows.now c.args.first c.loop-at.reached c.loop-at.at lt c.loop-at.invariant in
    let is : c.deref-in-loop-at.result.now ≡ get_or c.args.rows.now (get_or c.loop-at.reached.steps c.loop-at.at blank).edge.to [] =
    row_read c.args.rows.now (get_or c.loop-at.reached.steps c.loop-at.at blank).edge.to c.deref-in-loop-at.result.now c.index-rows-node.result
    (c.index-rows-node.is ∙ ap (λ steps. get_or c.args.rows.now (get_or steps c.loop-at.at blank).edge.to c.index-rows-node.result) c.deref.ensures)
    c.deref-in-loop-at.ensures there in
    under_next c.args.rows.now c.args.first c.loop-at.reached c.loop-at.at c.deref-in-loop-at.result.now c.spread.new.self c.requires.rows lt is
    c.in_ok-spread.ensures c.loop-at.invariant

pub returns-clause-earlier : goal.returns-clause-earlier
returns-clause-earlier c = c.loop-at.invariant.earlier

pub returns-clause-tree : goal.returns-clause-tree
returns-clause-tree c = c.loop-at.invariant.tree

pub returns-clause-closed : goal.returns-clause-closed
returns-clause-closed c = λ edges rows.
    closed_done edges c.loop-at.reached.seen c.loop-at.reached.steps c.loop-at.at (omega (arith, c.loop-at-test.false, c.len.ensures)) c.loop-at.invariant.sees
    (c.loop-at.invariant.leaves edges rows)
