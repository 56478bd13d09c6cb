-- Two tick graphs of one body have the same edges, so the rules fail for both alike.
use Rattle.std.proofs.Common.{◌≡◌, ℕ, Bool, true, false, not, List, [], ◌∷◌, sym, subst, ◌∙◌}
use Rattle.std.specs.Prelude.{Contains}
use Rattle.bl_tree.specs.declared.graph.Edge.{Edge}
use Rattle.bl_graph.specs.declared.tick_graph.Graph.{Graph}
use Rattle.bl_tree.specs.declared.graph.Node.{Node}
use Rattle.bl_tree.specs.declared.place.Place.{Place}
use Rattle.bl_tree.specs.declared.rule.Refusal.{Refusal}
use Rattle.bl_tree.specs.declared.rule.Refusal.TheVariants as refusal
use Rattle.bl_tree.specs.declared.rule.Rule.{Rule}
use Rattle.bl_tree.specs.declared.rule.Rule.TheVariants as rule
use Rattle.bl_tree.specs.declared.tree.Unit.{Unit as UnitDef}
use Rattle.bl_tree.proofs.FirstLemmas.{alike_first, alike_passes}
use Rattle.bl_tree.specs.Rules.{IsCause, Passes}
use Rattle.bl_tree.specs.Typing.{is_activity}
use Rattle.bl_graph.specs.Graph.{IsTickGraph, edge_between}
use Rattle.bl_graph_nodes.specs.Plain.{Block}
use Rattle.bl_cause.specs.Activities.{AreGraphs, IsGraphOf, activities}
use Rattle.bl_cause.specs.Fails.{BeginsWalk, FailsCycle, FailsTwice}
use Rattle.bl_cause.specs.inner.Graphs.{AnyFails, GraphsFail}
use Rattle.bl_cause.specs.Rules.{Fails, FailsInActivity}
use Rattle.bl_cause.specs.Walks.{ClosedWalk, EdgeWalk, controls}
use Rattle.bl_cause.proofs.ListLemmas.{filter_keeps, filter_there, filter_true}
use Rattle.bl_cause.proofs.PairLemmas.{each_first, each_second}

-- ---- edges

module _ (body : Block) (nodes others : List Node) (edges further : List Edge) (one : IsTickGraph body nodes edges)
    (two : IsTickGraph body others further) where
  -- the nodes are the same
  same_nodes : nodes ≡ others
  same_nodes = one.in_order ∙ sym two.in_order

  -- each edge of the one is an edge of the other
  edge_in : (from to : ℕ) (by_data : Bool) → Contains edges (edge_between from to by_data) → Contains further (edge_between from to by_data)
  edge_in from to true h = (two.by_data from to).1 ((one.by_data from to).0 h)
  edge_in from to false h = (two.control from to).1 ((one.control from to).0 h)

  same_edges : (edge : Edge) → Contains edges edge → Contains further edge
  same_edges edge h = edge_in edge.from edge.to edge.by_data h

-- ---- walks

-- among more edges a walk stays one
module _ (edges further : List Edge) (more : (edge : Edge) → Contains edges edge → Contains further edge) where
  walk_among : (first last : ℕ) (walk : List Edge) → EdgeWalk edges first walk last → EdgeWalk further first walk last
  walk_among first last [] w = w
  walk_among first last (edge ∷ walk) w = (more edge w.0, w.1, walk_among edge.to last walk w.2)

  closed_among : (walk : List Edge) → ClosedWalk edges walk → ClosedWalk further walk
  closed_among [] w = w
  closed_among (edge ∷ walk) w = (more edge w.0, walk_among edge.to edge.from walk w.1)

  controls_among : (edge : Edge) → Contains (controls edges) edge → Contains (controls further) edge
  controls_among edge h =
      filter_keeps (λ it. not it.by_data) further edge (more edge (filter_there (λ it. not it.by_data) edges edge h))
      (filter_true (λ it. not it.by_data) edges edge h)

begins_among : (nodes others : List Node) (edges further : List Edge) (by_data : Bool) → nodes ≡ others →
    ((edge : Edge) → Contains edges edge → Contains further edge) → (at : Place) (also : List Place) → BeginsWalk nodes edges by_data at also →
    BeginsWalk others further by_data at also
begins_among nodes others edges further by_data same more at also begins =
    subst (λ it. BeginsWalk it further by_data at also) same (record {
      edge = begins.edge;
      rest = begins.rest;
      kind = begins.kind;
      closed = closed_among edges further more (begins.edge ∷ begins.rest) begins.closed;
      at_place = begins.at_place;
      further = begins.further;
    })

-- ---- the rules

module _ (unit : UnitDef) (graph other : Graph) (one : IsGraphOf unit graph) (two : IsGraphOf unit other) (at : Place) (also : List Place) where
  pub twice_alike : FailsTwice graph at also → FailsTwice other at also
  twice_alike fails =
      begins_among graph.nodes other.nodes (controls graph.edges) (controls other.edges) false
      (same_nodes _ graph.nodes other.nodes graph.edges other.edges one two)
      (controls_among graph.edges other.edges (same_edges _ graph.nodes other.nodes graph.edges other.edges one two)) at also fails

  pub cycle_alike : FailsCycle graph at also → FailsCycle other at also
  cycle_alike fails =
      begins_among graph.nodes other.nodes graph.edges other.edges true (same_nodes _ graph.nodes other.nodes graph.edges other.edges one two)
      (same_edges _ graph.nodes other.nodes graph.edges other.edges one two) at also fails

-- how graphs of one unit fail alike
abbrev Alike : (Graph → Place → List Place → Type 0) → Type 0
Alike FailsIn = (unit : UnitDef) (graph other : Graph) → IsGraphOf unit graph → IsGraphOf unit other → (at : Place) (also : List Place) →
    FailsIn graph at also → FailsIn other at also

module _ (units : List UnitDef) (graphs : List Graph) (are : AreGraphs units graphs) (FailsIn : Graph → Place → List Place → Type 0)
    (alike : Alike FailsIn)
    (at : Place) (also : List Place) where
  any_in : FailsInActivity FailsIn units at also → AnyFails FailsIn graphs at also
  any_in fails =
      let there = filter_keeps (λ it. is_activity it.kind) units fails.unit fails.is_there fails.activity in
      let own = each_first IsGraphOf (activities units) graphs fails.unit are there in
      record { graph = own.0; is_there = own.1; fails = alike fails.unit fails.graph own.0 fails.of_unit own.2 at also fails.fails }

  in_any : AnyFails FailsIn graphs at also → FailsInActivity FailsIn units at also
  in_any fails =
      let own = each_second IsGraphOf (activities units) graphs fails.graph are fails.is_there in
      record {
        unit = own.0;
        is_there = filter_there (λ it. is_activity it.kind) units own.0 own.1;
        activity = filter_true (λ it. is_activity it.kind) units own.0 own.1;
        graph = fails.graph;
        of_unit = own.2;
        fails = fails.fails;
      }

-- a rule fails for a program where it fails for one of these graphs, and nowhere else
pub program_fails : (units : List UnitDef) (graphs : List Graph) → AreGraphs units graphs → (r : Rule) (at : Place) (also : List Place) →
    GraphsFail graphs r at also → Fails units r at also
program_fails units graphs are rule.Twice at also fails = in_any units graphs are FailsTwice twice_alike at also fails
program_fails units graphs are rule.Cycle at also fails = in_any units graphs are FailsCycle cycle_alike at also fails
program_fails units graphs are _ at also fails = absurd fails

pub graphs_fail : (units : List UnitDef) (graphs : List Graph) → AreGraphs units graphs → (r : Rule) (at : Place) (also : List Place) →
    Fails units r at also → GraphsFail graphs r at also
graphs_fail units graphs are rule.Twice at also fails = any_in units graphs are FailsTwice twice_alike at also fails
graphs_fail units graphs are rule.Cycle at also fails = any_in units graphs are FailsCycle cycle_alike at also fails
graphs_fail units graphs are _ at also fails = absurd fails

-- ---- a program by its graphs

pub program_passes : (units : List UnitDef) (graphs : List Graph) → AreGraphs units graphs → Passes (GraphsFail graphs) → Passes (Fails units)
program_passes units graphs are = alike_passes (GraphsFail graphs) (Fails units) (program_fails units graphs are) (graphs_fail units graphs are)

pub program_cause : (units : List UnitDef) (graphs : List Graph) → AreGraphs units graphs → (told : Refusal) → IsCause (GraphsFail graphs) told →
    IsCause (Fails units) told
program_cause units graphs are (refusal.Rule r at also) first =
    alike_first (GraphsFail graphs) (Fails units) (program_fails units graphs are) (graphs_fail units graphs are) r at also first
program_cause units graphs are refusal.NoMemory first = tt
