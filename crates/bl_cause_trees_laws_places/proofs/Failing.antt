-- The rules Twice and Cycle fail at the images of places, where places are mapped.
use Rattle.std.proofs.Common.{◌≡◌, ⊎_elim, Bool, true, false, ◌&&◌, ◌<◌, List, [], ◌∷◌, length, map, refl, ap, sym, subst, ◌∙◌}
use Rattle.std.specs.Prelude.{◌↔◌, Contains, IsTrue, nat_lt}
use Rattle.std.specs.List.{list_all}
use Rattle.std.proofs.lemmas.Bool.{ltb-true}
use Rattle.bl_tree.proofs.Basics.{contains_mapped, contains_none, first_or_further}
use Rattle.bl_tree.specs.declared.graph.Edge.{Edge}
use Rattle.bl_graph.specs.declared.tick_graph.Graph.{Graph}
use Rattle.bl_tree.specs.declared.place.Place.{Place}
use Rattle.bl_tree.specs.declared.rule.Rule.TheVariants as rule
use Rattle.bl_tree.specs.declared.tree.Unit.{Unit as UnitDef}
use Rattle.bl_tree.specs.Typing.{is_activity}
use Rattle.bl_tree_laws_places.specs.Laws.{BringsBack, FailsMoved}
use Rattle.bl_tree_laws_places.specs.Placed.{placed_unit, placed_units}
use Rattle.bl_tree_laws_places.proofs.Lists.{from_map}
use Rattle.bl_cause.specs.Activities.{IsGraphOf}
use Rattle.bl_cause.specs.Fails.{BeginsWalk, FailsCycle, FailsTwice}
use Rattle.bl_cause.specs.Walks.{controls}
use Rattle.bl_cause.proofs.WalkLemmas.{control_is}
use Rattle.bl_cause_trees.specs.Rules.{Fails, FailsInPeeled}
use Rattle.bl_cause_trees.specs.Peeled.{IsPeeledUnit}
use Rattle.bl_cause_trees_laws_places.specs.Laws.{FailuresMove, PassingStays}
use Rattle.bl_cause_trees_laws_places.proofs.Peeled.{graph_from, graph_to, moved_graph, peeled_from, peeled_to}
use Rattle.bl_cause_trees_laws_places.proofs.Walks.{Begins, begins_from, begins_to}

-- what holds of all elements holds of each
all_at : {X : Type 0} (test : X → Bool) (xs : List X) → list_all test xs ≡ true → (x : X) → Contains xs x → test x ≡ true
all_at test [] all x there = absurd (contains_none x there)
all_at test (y ∷ xs) all x there =
    ⊎_elim (λ is. ap test (sym is) ∙ and_first (test y) (list_all test xs) all)
    (λ behind. all_at test xs (and_second (test y) (list_all test xs) all) x behind) (first_or_further y xs x there)
  where
    and_first : (a b : Bool) → (a && b) ≡ true → a ≡ true
    and_first true b e = refl
    and_first false b e = absurd cc

    and_second : (a b : Bool) → (a && b) ≡ true → b ≡ true
    and_second true b e = e
    and_second false b e = absurd cc

-- the edges of a graph begin at positions of its nodes
graph_begins : (graph : Graph) → Begins graph.nodes graph.edges
graph_begins graph edge there =
    let both = all_at (λ e. nat_lt e.from (length graph.nodes) && nat_lt e.to (length graph.nodes)) graph.edges graph.joins_nodes.ends edge there in
    ltb-true edge.from (length graph.nodes) (first_of (nat_lt edge.from (length graph.nodes)) (nat_lt edge.to (length graph.nodes)) both)
  where
    first_of : (a b : Bool) → (a && b) ≡ true → a ≡ true
    first_of true b e = refl
    first_of false b e = absurd cc

-- a failure of a graph, by the image of its places
record Seen (f : Place → Place) (FailsIn : Graph → Place → List Place → Type 0) (graph : Graph) (at : Place) (also : List Place) : Type 0 where
  source : Place
  further : List Place
  fails : FailsIn graph source further
  is_at : at ≡ f source
  is_also : also ≡ map f further

-- a kind of failure goes along with the places of nodes
record Follows (f : Place → Place) (FailsIn : Graph → Place → List Place → Type 0) : Type 0 where
  to_source : (graph : Graph) (at : Place) (also : List Place) → FailsIn (moved_graph f graph) at also → Seen f FailsIn graph at also
  from_source : (graph : Graph) (at : Place) (also : List Place) → Seen f FailsIn graph at also → FailsIn (moved_graph f graph) at also
  same : (one other : Graph) → one.nodes ≡ other.nodes → one.edges ≡ other.edges → (at : Place) (also : List Place) → FailsIn one at also →
      FailsIn other at also

module _ (f : Place → Place) where
  begins_same : (choose : List Edge → List Edge) (by_data : Bool) (one other : Graph) → one.nodes ≡ other.nodes → one.edges ≡ other.edges →
      (at : Place) (also : List Place) → BeginsWalk one.nodes (choose one.edges) by_data at also →
      BeginsWalk other.nodes (choose other.edges) by_data at also
  begins_same choose by_data one other nodes edges at also h =
      subst (λ es. BeginsWalk other.nodes (choose es) by_data at also) edges
      (subst (λ ns. BeginsWalk ns (choose one.edges) by_data at also) nodes h)

  module _ (choose : List Edge → List Edge) (by_data : Bool) (chosen : (edges : List Edge) (edge : Edge) → Contains (choose edges) edge → Contains edges edge)
    where
      abbrev Begin : Graph → Place → List Place → Type 0
      Begin graph = BeginsWalk graph.nodes (choose graph.edges) by_data

      within : (graph : Graph) → Begins graph.nodes (choose graph.edges)
      within graph edge there = graph_begins graph edge (chosen graph.edges edge there)

      begin_from : (graph : Graph) (at : Place) (also : List Place) → Begin (moved_graph f graph) at also → Seen f Begin graph at also
      begin_from graph at also h =
          let moved = begins_from f graph.nodes (choose graph.edges) (within graph) by_data at also h in
          record { source = moved.source; further = moved.further; fails = moved.begins; is_at = moved.is_at; is_also = moved.is_also }

      begin_to : (graph : Graph) (at : Place) (also : List Place) → Seen f Begin graph at also → Begin (moved_graph f graph) at also
      begin_to graph at also h =
          begins_to f graph.nodes (choose graph.edges) (within graph) by_data at also
          (record { source = h.source; further = h.further; begins = h.fails; is_at = h.is_at; is_also = h.is_also })

  twice_follows : Follows f FailsTwice
  twice_follows = record {
    to_source = λ graph at also h. begin_from controls false control_is graph at also h;
    from_source = λ graph at also h. begin_to controls false control_is graph at also h;
    same = λ one other nodes edges at also h. begins_same controls false one other nodes edges at also h;
  }

  cycle_follows : Follows f FailsCycle
  cycle_follows = record {
    to_source = λ graph at also h. begin_from (λ edges. edges) true (λ edges edge there. there) graph at also h;
    from_source = λ graph at also h. begin_to (λ edges. edges) true (λ edges edge there. there) graph at also h;
    same = λ one other nodes edges at also h. begins_same (λ edges. edges) true one other nodes edges at also h;
  }

module _ (f g : Place → Place) (back : BringsBack g f) (units : List UnitDef) (FailsIn : Graph → Place → List Place → Type 0)
    (follows : Follows f FailsIn) where
  -- a failure of units, by the images of its places
  record InSource (at : Place) (also : List Place) : Type 0 where
    source : Place
    further : List Place
    fails : FailsInPeeled FailsIn units source further
    is_at : at ≡ f source
    is_also : also ≡ map f further

  fails_from : (at : Place) (also : List Place) → FailsInPeeled FailsIn (placed_units f units) at also → InSource at also
  fails_from at also h =
      let unit = from_map (placed_unit f) units h.unit h.is_there in
      let peeled_unit = peeled_from f g back unit.source (subst (λ (u : UnitDef). IsPeeledUnit u h.peeled_unit) unit.is h.is_peeled) in
      let graph = graph_from f g back peeled_unit.source h.graph (subst (λ (u : UnitDef). IsGraphOf u h.graph) peeled_unit.is h.of_peeled) in
      let seen = follows.to_source graph.source at also
      (follows.same h.graph (moved_graph f graph.source) graph.nodes graph.edges at also h.fails) in
      record {
        source = seen.source;
        further = seen.further;
        fails = record {
          unit = unit.source;
          is_there = unit.is_there;
          activity = subst (λ (u : UnitDef). IsTrue (is_activity u.kind)) unit.is h.activity;
          peeled_unit = peeled_unit.source;
          is_peeled = peeled_unit.is_peeled;
          graph = graph.source;
          of_peeled = graph.of_unit;
          fails = seen.fails;
        };
        is_at = seen.is_at;
        is_also = seen.is_also;
      }

  fails_to : (at : Place) (also : List Place) → InSource at also → FailsInPeeled FailsIn (placed_units f units) at also
  fails_to at also h = let fails = h.fails in record {
    unit = placed_unit f fails.unit;
    is_there = contains_mapped (placed_unit f) units fails.unit fails.is_there;
    activity = fails.activity;
    peeled_unit = placed_unit f fails.peeled_unit;
    is_peeled = peeled_to f g back fails.unit fails.is_peeled;
    graph = moved_graph f fails.graph;
    of_peeled = graph_to f g back fails.peeled_unit fails.graph fails.of_peeled;
    fails = follows.from_source fails.graph at also
        (record { source = h.source; further = h.further; fails = fails.fails; is_at = h.is_at; is_also = h.is_also });
  }

-- ---- the laws

module _ (f g : Place → Place) (back : BringsBack g f) (units : List UnitDef) where
  twice_from : (at : Place) (also : List Place) → Fails (placed_units f units) rule.Twice at also → FailsMoved f (Fails units) rule.Twice at also
  twice_from at also h = let seen = fails_from f g back units FailsTwice (twice_follows f) at also h in
      record { source = seen.source; further = seen.further; fails = seen.fails; is_at = seen.is_at; is_also = seen.is_also }

  twice_to : (at : Place) (also : List Place) → FailsMoved f (Fails units) rule.Twice at also → Fails (placed_units f units) rule.Twice at also
  twice_to at also h =
      fails_to f g back units FailsTwice (twice_follows f) at also
      (record { source = h.source; further = h.further; fails = h.fails; is_at = h.is_at; is_also = h.is_also })

  cycle_from : (at : Place) (also : List Place) → Fails (placed_units f units) rule.Cycle at also → FailsMoved f (Fails units) rule.Cycle at also
  cycle_from at also h = let seen = fails_from f g back units FailsCycle (cycle_follows f) at also h in
      record { source = seen.source; further = seen.further; fails = seen.fails; is_at = seen.is_at; is_also = seen.is_also }

  cycle_to : (at : Place) (also : List Place) → FailsMoved f (Fails units) rule.Cycle at also → Fails (placed_units f units) rule.Cycle at also
  cycle_to at also h =
      fails_to f g back units FailsCycle (cycle_follows f) at also
      (record { source = h.source; further = h.further; fails = h.fails; is_at = h.is_at; is_also = h.is_also })

pub failures_move : FailuresMove
failures_move f g back units rule.Twice at also = (twice_from f g back units at also, twice_to f g back units at also)
failures_move f g back units rule.Cycle at also = (cycle_from f g back units at also, cycle_to f g back units at also)
failures_move f g back units _ at also = (λ h. absurd h, λ h. absurd h.fails)

pub passing_stays : PassingStays
passing_stays f g back units = (
  λ passes r at also fails.
      passes r (f at) (map f also)
      ((failures_move f g back units r (f at) (map f also)).1
      (record { source = at; further = also; fails = fails; is_at = refl; is_also = refl })),
  λ passes r at also fails.
      let moved = (failures_move f g back units r at also).0 fails in passes r moved.source moved.further moved.fails,
)
