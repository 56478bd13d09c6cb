use Rattle.std.proofs.Common.{List, subst, sym, ◌∙◌}
use Rattle.bl_tree.specs.declared.graph.Edge.{Edge}
use Rattle.bl_cause.specs.Walks.{ClosedWalk}
use Rattle.bl_cause.proofs.RankLemmas.{ranks_made, rise_lent, rise_seen}
use Rattle.bl_cause.proofs.order.finished_order.Goals as goal

pub returns-then-is_closed-clause-none : goal.returns-then-is_closed-clause-none
returns-then-is_closed-clause-none c = c.in_ok-is_closed.ensures c.if-is_closed.true

pub returns-then-rises-clause-some : goal.returns-then-rises-clause-some
returns-then-rises-clause-some c =
    rise_seen c.args.graph.now.edges c.as_slice-edges.result.now c.in_ok-ranks.ranks c.deref-2.result.now c.deref-3.result.now
    (c.as_slice-edges.ensures ∙ c.in_ok-all.ensures ∙ c.kept.ensures) c.deref-2.ensures c.deref-3.ensures (c.rises.ensures.rise c.if-rises.true)

pub returns-clause-none : goal.returns-clause-none
returns-clause-none c = λ none.
    let free : (walk : List Edge) → ClosedWalk c.as_slice-edges.result.now walk → ⊥ =
    subst (λ (edges : List Edge). (walk : List Edge) → ClosedWalk edges walk → ⊥)
    (sym (c.as_slice-edges.ensures ∙ c.in_ok-all.ensures ∙ c.kept.ensures)) none in
    c.rises.ensures.fall c.if-rises.false
    (rise_lent c.as_slice-edges.result.now c.in_ok-ranks.ranks c.deref-2.result.now c.deref-3.result.now c.deref-2.ensures c.deref-3.ensures
    (ranks_made c.as_slice-edges.result.now c.count_of-count.result c.in_ok-order.order.items c.deref.result.now c.in_ok-ranks.ranks
    c.in_ok-ranks.ensures c.deref.ensures.value c.count_of-count.ensures.ends free c.in_ok-order.ensures.sorted c.in_ok-order.ensures.nodes
    c.in_ok-order.ensures.all))
