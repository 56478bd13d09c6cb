use Rattle.std.proofs.Common.{◌≡◌, ◌<◌, ap, sym, subst, ◌∙◌, length, reverse, arith}
use Rattle.std.specs.Prelude.{All}
use Rattle.std.proofs.lemmas.List.{length-reverse}
use Rattle.bl_cause.specs.inner.Lists.{In}
use Rattle.bl_cause.specs.inner.Orders.{Sorted, state_of}
use Rattle.bl_cause.proofs.OrderLemmas.{Done, all_reverse, order_done}
use Rattle.bl_cause.proofs.RowLemmas.{lent_within}
use Rattle.bl_cause.proofs.finishing.sorted.Goals as goal

pub from_all-requires : goal.from_all-requires
from_all-requires c = record {
  rows = lent_within c.args.edges.now c.args.count c.in_ok-rows.rows c.deref.result.now c.requires.ends c.in_ok-rows.ensures c.deref.ensures;
  few = (let e = ap length c.deref.ensures in let f = c.in_ok-rows.ensures.one_each in let g = c.requires.few in omega (arith, e, f, g));
}

pub returns : goal.returns
returns c =
    let done : Done c.args.edges.now c.args.count c.in_ok-search.search.order =
    order_done c.args.edges.now c.args.count c.in_ok-rows.rows c.deref.result.now (state_of c.in_ok-search.search) c.in_ok-rows.ensures c.deref.ensures
    c.in_ok-search.ensures.length c.in_ok-search.ensures.empty c.in_ok-search.ensures.seen c.in_ok-search.ensures.keeps in
    let turned : c.reverse.new.self.items ≡ reverse c.in_ok-search.search.order = c.reverse.ensures.items ∙ ap reverse c.into_vec-order.ensures in
    let size : length c.deref.result.now ≡ c.args.count = ap length c.deref.ensures ∙ c.in_ok-rows.ensures.one_each in
    record {
      nodes = subst (λ order. All (λ node. node < c.args.count) order) (sym turned)
          (all_reverse c.args.count c.in_ok-search.search.order (subst (λ n. All (λ node.
          node < n) c.in_ok-search.search.order) size c.in_ok-search.ensures.nodes));
      all = λ node lt. subst (In node) (sym turned) (done.all node lt);
      length = (let e = ap length turned in let f = length-reverse c.in_ok-search.search.order in let g = done.few in omega (arith, e, f, g));
      sorted = subst (Sorted c.args.edges.now) (sym turned) done.sorted;
    }
