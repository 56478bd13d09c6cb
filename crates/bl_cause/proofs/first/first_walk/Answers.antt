use Rattle.std.proofs.Common.{◌≡◌, ◌∙◌, ◌&&◌, ap, length, nat_eq, sym, subst}
use Rattle.std.specs.Prelude.{slice_index}
use Rattle.bl_cause.specs.declared.first.Found.{Found}
use Rattle.bl_cause.specs.Fails.{BeginsWalk, IsFirst, Never}
use Rattle.bl_cause.specs.inner.Found.{FirstBegins, NoneBegins}
use Rattle.bl_cause.specs.inner.Lists.{Candidates, Within, edges_from, level_edges, same_kind}
use Rattle.bl_cause.proofs.FirstLemmas.{candidates_first, ok_none, ok_some}
use Rattle.bl_cause.proofs.RowLemmas.{filter_within, lent_within, rows_view}
use Rattle.bl_cause.proofs.first.first_walk.Goals as goal

pub first_of-requires : goal.first_of-requires
first_of-requires c =
    let size : length c.deref-3.result.now ≡ c.count_of-count.result = ap length c.deref-3.ensures ∙ c.in_ok-rows.ensures.one_each in
    record {
      rows = lent_within c.args.edges.now c.count_of-count.result c.in_ok-rows.rows c.deref-3.result.now c.count_of-count.ensures.ends
          c.in_ok-rows.ensures c.deref-3.ensures;
      left = subst (λ n. Within n c.in_ok-left.left.items) (sym size)
          (subst (Within c.count_of-count.result) (sym c.in_ok-left.ensures)
          (filter_within (λ edge. same_kind edge.by_data c.args.by_data
          && nat_eq (slice_index c.deref-2.result.now edge.from) (slice_index c.deref-2.result.now edge.to))
          c.count_of-count.result c.args.edges.now c.count_of-count.ensures.ends));
    }

pub returns-clause-none : goal.returns-clause-none
returns-clause-none c =
    let candidates : Candidates c.args.edges.now c.args.by_data c.in_ok-left.left.items =
    subst (Candidates c.args.edges.now c.args.by_data)
    (sym (c.in_ok-left.ensures ∙ ap (λ numbers. level_edges numbers c.args.by_data c.args.edges.now) c.deref-2.ensures))
    (candidates_first c.args.edges.now c.in_ok-numbers.numbers c.args.by_data c.in_ok-numbers.ensures.fall) in
    let rows = rows_view (edges_from c.args.edges.now) c.count_of-count.result c.in_ok-rows.rows c.deref-3.result.now c.in_ok-rows.ensures c.deref-3.ensures in
    ok_none c.first_of.result
    (NoneBegins c.args.nodes.now c.deref-3.result.now c.in_ok-left.left.items)
    (Never (BeginsWalk c.args.nodes.now c.args.edges.now c.args.by_data))
    (λ f. f c.args.edges.now rows c.args.by_data candidates) c.first_of.ensures.none

pub returns-clause-some : goal.returns-clause-some
returns-clause-some c =
    let candidates : Candidates c.args.edges.now c.args.by_data c.in_ok-left.left.items =
    subst (Candidates c.args.edges.now c.args.by_data)
    (sym (c.in_ok-left.ensures ∙ ap (λ numbers. level_edges numbers c.args.by_data c.args.edges.now) c.deref-2.ensures))
    (candidates_first c.args.edges.now c.in_ok-numbers.numbers c.args.by_data c.in_ok-numbers.ensures.fall) in
    let rows = rows_view (edges_from c.args.edges.now) c.count_of-count.result c.in_ok-rows.rows c.deref-3.result.now c.in_ok-rows.ensures c.deref-3.ensures in
    ok_some c.first_of.result
    (λ (walk : Found). FirstBegins c.args.nodes.now c.deref-3.result.now c.in_ok-left.left.items walk.at walk.also)
    (λ (walk : Found). IsFirst (BeginsWalk c.args.nodes.now c.args.edges.now c.args.by_data) walk.at walk.also)
    (λ walk f. f c.args.edges.now rows c.args.by_data candidates) c.first_of.ensures.some
