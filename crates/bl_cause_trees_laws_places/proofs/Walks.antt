-- Walks in a tick graph whose nodes are at mapped places.
use Rattle.std.proofs.Common.{◌≡◌, ℕ, ◌<◌, Bool, true, false, ◌&&◌, List, [], ◌∷◌, length, map, refl, ap, ap₂, sym, subst, ◌∙◌}
use Rattle.std.specs.Prelude.{Contains, IsTrue, nat_lt, slice_index_or}
use Rattle.std.specs.List.{list_all}
use Rattle.std.proofs.lemmas.List.{get_or-map, length-map}
use Rattle.bl_tree.specs.declared.graph.Edge.{Edge}
use Rattle.bl_tree.specs.declared.graph.Node.{Node}
use Rattle.bl_tree.specs.declared.graph.NodeKind.TheVariants.{Act}
use Rattle.bl_tree.specs.declared.place.Place.{Place}
use Rattle.bl_tree.specs.Graph.{JoinsNodes}
use Rattle.bl_cause.specs.Fails.{BeginsWalk, place_at, places_of}
use Rattle.bl_cause.specs.Walks.{ClosedWalk, EdgeWalk}
use Rattle.bl_graph_laws_places.specs.Placed.{placed_graph_node, placed_nodes}

-- both ends of each edge are positions of nodes, also where the nodes are at other places
pub joins_moved : (f : Place → Place) (sources nodes : List Node) (edges : List Edge) → nodes ≡ placed_nodes f sources → JoinsNodes nodes edges →
    JoinsNodes sources edges
joins_moved f sources nodes edges is joins = record {
  ends = subst (λ n. IsTrue (list_all (λ edge. nat_lt edge.from n && nat_lt edge.to n) edges))
      (ap length is ∙ length-map sources (placed_graph_node f)) joins.ends;
}

pub joins_to : (f : Place → Place) (sources : List Node) (edges : List Edge) → JoinsNodes sources edges → JoinsNodes (placed_nodes f sources) edges
joins_to f sources edges joins = record {
  ends = subst (λ n. IsTrue (list_all (λ edge. nat_lt edge.from n && nat_lt edge.to n) edges)) (sym (length-map sources (placed_graph_node f)))
      joins.ends;
}

-- each edge of a list begins at a position of a list of nodes
abbrev pub Begins : List Node → List Edge → Type 0
Begins nodes edges = (edge : Edge) → Contains edges edge → edge.from < length nodes

module _ (f : Place → Place) (sources : List Node) where
  place_moves : (k : ℕ) → k < length sources → place_at (placed_nodes f sources) k ≡ f (place_at sources k)
  place_moves k less =
      ap (λ (n : Node). n.place)
      (get_or-map (placed_graph_node f) sources k (record { place = record { start = 0; end = 0 }; kind = Act })
      (record { place = record { start = 0; end = 0 }; kind = Act }) less)

  module _ (edges : List Edge) (within : Begins sources edges) where
    walk_moves : (first last : ℕ) (walk : List Edge) → EdgeWalk edges first walk last →
        places_of (placed_nodes f sources) walk ≡ map f (places_of sources walk)
    walk_moves first last [] h = refl
    walk_moves first last (edge ∷ walk) h =
        ap₂ (λ x xs. x ∷ xs) (place_moves edge.from (within edge h.0)) (walk_moves edge.to last walk h.2)

    -- a walk that begins at a place, by the image of that place
    pub record Moved (by_data : Bool) (at : Place) (also : List Place) : Type 0 where
      pub source : Place
      pub further : List Place
      pub begins : BeginsWalk sources edges by_data source further
      pub is_at : at ≡ f source
      pub is_also : also ≡ map f further

    pub begins_from : (by_data : Bool) (at : Place) (also : List Place) → BeginsWalk (placed_nodes f sources) edges by_data at also →
        Moved by_data at also
    begins_from by_data at also h = record {
      source = place_at sources h.edge.from;
      further = places_of sources h.rest;
      begins = record { edge = h.edge; rest = h.rest; kind = h.kind; closed = h.closed; at_place = refl; further = refl };
      is_at = h.at_place ∙ place_moves h.edge.from (within h.edge h.closed.0);
      is_also = h.further ∙ walk_moves h.edge.to h.edge.from h.rest h.closed.1;
    }

    pub begins_to : (by_data : Bool) (at : Place) (also : List Place) → Moved by_data at also →
        BeginsWalk (placed_nodes f sources) edges by_data at also
    begins_to by_data at also h = let walk = h.begins in record {
      edge = walk.edge;
      rest = walk.rest;
      kind = walk.kind;
      closed = walk.closed;
      at_place = h.is_at ∙ ap f walk.at_place ∙ sym (place_moves walk.edge.from (within walk.edge walk.closed.0));
      further = h.is_also ∙ ap (map f) walk.further ∙ sym (walk_moves walk.edge.to walk.edge.from walk.rest walk.closed.1);
    }
