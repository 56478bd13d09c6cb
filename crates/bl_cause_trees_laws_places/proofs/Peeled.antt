-- The peeled units of units whose places are mapped.
use Rattle.std.proofs.Common.{◌≡◌, ℕ, ◌<◌, ◌≤◌, List, length, map, refl, ap, sym, subst, ◌∙◌}
use Rattle.bl_graph.specs.declared.tick_graph.Graph.{Graph}
use Rattle.bl_tree.specs.declared.graph.Node.{Node}
use Rattle.bl_tree.specs.declared.place.Place.{Place}
use Rattle.bl_tree.specs.declared.tree.Stmt.{Stmt}
use Rattle.bl_tree.specs.declared.tree.Unit.{Unit as UnitDef}
use Rattle.bl_tree_laws_places.specs.Laws.{BringsBack}
use Rattle.bl_tree_laws_places.specs.Placed.{placed_stmt, placed_unit, placed_var}
use Rattle.bl_cause.specs.Activities.{IsGraphOf}
use Rattle.bl_cause.specs.Walks.{ClosedWalk}
use Rattle.bl_cause_trees.specs.Peeled.{HasWalk, IsPeeledUnit, clean, of_function, too_large, with_turns}
use Rattle.bl_graph_laws_places.specs.Laws.{IsMovedGraph}
use Rattle.bl_graph_laws_places.specs.Placed.{placed_nodes}
use Rattle.bl_graph_laws_places.proofs.GraphsMoved.{tick_graphs_move}
use Rattle.bl_peel.specs.Count.{statement_count}
use Rattle.bl_peel.specs.Peeled.{peeled}
use Rattle.bl_peel_laws_places.proofs.Counts.{counts_stay}
use Rattle.bl_peel_laws_places.proofs.Peeling.{peeled_moves}
use Rattle.bl_cause_trees_laws_places.proofs.Walks.{joins_moved, joins_to}

-- a graph of a unit, of which a graph has the edges, with its nodes at mapped places
pub record Source (f : Place → Place) (unit : UnitDef) (graph : Graph) : Type 0 where
  pub source : Graph
  pub of_unit : IsGraphOf unit source
  pub nodes : graph.nodes ≡ placed_nodes f source.nodes
  pub edges : graph.edges ≡ source.edges

-- the graph with its nodes at mapped places
abbrev pub moved_graph : (Place → Place) → Graph → Graph
moved_graph f graph = record {
  nodes = placed_nodes f graph.nodes;
  edges = graph.edges;
  joins_nodes = joins_to f graph.nodes graph.edges graph.joins_nodes;
}

module _ (f g : Place → Place) (back : BringsBack g f) (unit : UnitDef) where
  -- ---- graphs

  pub graph_from : (graph : Graph) → IsGraphOf (placed_unit f unit) graph → Source f unit graph
  graph_from graph own =
      let moved : IsMovedGraph f unit.body graph.nodes graph.edges = (tick_graphs_move f g back unit.body graph.nodes graph.edges).0 own in
      record {
        source = record {
          nodes = moved.sources;
          edges = graph.edges;
          joins_nodes = joins_moved f moved.sources graph.nodes graph.edges moved.moved graph.joins_nodes;
        };
        of_unit = moved.graph;
        nodes = moved.moved;
        edges = refl;
      }

  pub graph_to : (graph : Graph) → IsGraphOf unit graph → IsGraphOf (placed_unit f unit) (moved_graph f graph)
  graph_to graph own =
      (tick_graphs_move f g back unit.body (placed_nodes f graph.nodes) graph.edges).1
      (record { sources = graph.nodes; graph = own; moved = refl })

  -- ---- closed walks

  walk_from : HasWalk (placed_unit f unit) → HasWalk unit
  walk_from has = let source = graph_from has.graph has.of_unit in record {
    graph = source.source;
    of_unit = source.of_unit;
    walk = has.walk;
    closed = subst (λ edges. ClosedWalk edges has.walk) source.edges has.closed;
  }

  walk_to : HasWalk unit → HasWalk (placed_unit f unit)
  walk_to has = record { graph = moved_graph f has.graph; of_unit = graph_to has.graph has.of_unit; walk = has.walk; closed = has.closed }

  -- ---- peeled units

  count_is : statement_count (peeled (map (placed_stmt f) unit.body)) ≡ statement_count (peeled unit.body)
  count_is = ap statement_count (peeled_moves f unit.body) ∙ counts_stay f (peeled unit.body)

  -- the unit with its body peeled, with its places mapped
  peeled_is : record (placed_unit f unit) { body = peeled (map (placed_stmt f) unit.body) }
      ≡ placed_unit f (record unit { body = peeled unit.body })
  peeled_is = ap (λ (body : List Stmt). record (placed_unit f unit) { body = body }) (peeled_moves f unit.body)

  -- a peeled unit of the unit, whose image with mapped places is one of the unit's image
  pub record PeeledSource (peeled_unit : UnitDef) : Type 0 where
    pub source : UnitDef
    pub is_peeled : IsPeeledUnit unit source
    pub is : peeled_unit ≡ placed_unit f source

  pub peeled_from : {peeled_unit : UnitDef} → IsPeeledUnit (placed_unit f unit) peeled_unit → PeeledSource peeled_unit
  peeled_from (of_function function) = record { source = unit; is_peeled = of_function function; is = refl }
  peeled_from (clean none) = record { source = unit; is_peeled = clean (λ has. none (walk_to has)); is = refl }
  peeled_from (too_large more) = record {
    source = unit;
    is_peeled = too_large (subst (λ n. 10_000 < n) count_is more);
    is = refl;
  }
  peeled_from (with_turns activity has fits) = record {
    source = record unit { body = peeled unit.body };
    is_peeled = with_turns activity (walk_from has) (subst (λ n. n ≤ 10_000) count_is fits);
    is = peeled_is;
  }

  pub peeled_to : {peeled_unit : UnitDef} → IsPeeledUnit unit peeled_unit → IsPeeledUnit (placed_unit f unit) (placed_unit f peeled_unit)
  peeled_to (of_function function) = of_function function
  peeled_to (clean none) = clean (λ has. none (walk_from has))
  peeled_to (too_large more) = too_large (subst (λ n. 10_000 < n) (sym count_is) more)
  peeled_to (with_turns activity has fits) =
      subst (IsPeeledUnit (placed_unit f unit)) peeled_is (with_turns activity (walk_to has) (subst (λ n. n ≤ 10_000) (sym count_is) fits))
