use Rattle.std.proofs.Common.{◌≡◌, ◌&&◌, ◌++◌, ◌∷◌, ◌∙◌, List, ap, map, subst, sym, true}
use Rattle.std.proofs.lemmas.Bool.{and_parts}
use Rattle.bl_tree.specs.declared.graph.Edge.{Edge}
use Rattle.bl_tree.specs.declared.graph.Node.{Node}
use Rattle.bl_tree.specs.Graph.{JoinsNodes}
use Rattle.bl_graph.specs.Accesses.{flows}
use Rattle.bl_cause.specs.Fails.{BeginsWalk, IsFirst, place_at, places_of}
use Rattle.bl_cause.specs.Walks.{ClosedWalk}
use Rattle.bl_cause.specs.inner.Before.{NoneBefore}
use Rattle.bl_cause.specs.inner.Walked.{edge_of}
use Rattle.bl_cause.proofs.BeforeLemmas.{first_of_walk}
use Rattle.bl_cause.proofs.walks.checked.Goals as goal

pub none_before-requires : goal.none_before-requires
none_before-requires c =
    subst (λ (edges : List Edge). JoinsNodes c.deref-4.result.now edges) (sym c.kept-kept.ensures)
    (subst (λ (nodes : List Node). JoinsNodes nodes c.args.graph.now.edges) (sym c.deref-4.ensures) c.args.graph.now.joins_nodes)

pub returns-then-holds : goal.returns-then-holds
returns-then-holds c =
    let graph = c.args.graph.now in
    let all = and_parts (c.args.guess.now.first.edge.by_data && c.is_closed.result) c.in_ok-none.none c.if-holds.true in
    let both = and_parts c.args.guess.now.first.edge.by_data c.is_closed.result all.0 in
    let edge : Edge = c.args.guess.now.first.edge in
    let rest : List Edge = map edge_of c.args.guess.now.rest in
    let closed : ClosedWalk graph.edges (edge ∷ rest) =
    subst (λ (edges : List Edge). ClosedWalk edges (edge ∷ rest)) c.kept-kept.ensures
    (subst (λ walk. ClosedWalk (c.kept-kept.result.control.now ++ flows c.kept-kept.result.accesses.now) (edge ∷ map edge_of walk)) c.deref-5.ensures
    (c.is_closed.ensures both.1)) in
    let none : NoneBefore graph.nodes graph.edges c.place_of-at.result =
    subst (λ (edges : List Edge). NoneBefore graph.nodes edges c.place_of-at.result) c.kept-kept.ensures
    (subst (λ (nodes : List Node). NoneBefore nodes (c.kept-kept.result.control.now ++ flows c.kept-kept.result.accesses.now) c.place_of-at.result)
    c.deref-4.ensures (c.in_ok-none.ensures all.1)) in
    let here : c.place_of-at.result ≡ place_at graph.nodes edge.from =
    c.place_of-at.ensures ∙ ap (λ (nodes : List Node). place_at nodes edge.from) c.deref.ensures in
    subst (IsFirst (BeginsWalk graph.nodes graph.edges true) c.place_of-at.result)
    (sym (c.in_ok-also.ensures ∙ ap (λ (nodes : List Node). places_of nodes c.deref-then-holds-3.result.now) c.deref-then-holds-2.ensures
    ∙ ap (places_of graph.nodes) (c.deref-then-holds-3.ensures ∙ c.in_ok-rest.ensures ∙ ap (map edge_of) c.deref-then-holds.ensures)))
    (first_of_walk graph.nodes graph.edges edge rest c.place_of-at.result both.0 closed here none)
