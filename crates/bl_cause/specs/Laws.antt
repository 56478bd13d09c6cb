-- Laws of closed walks.
use Rattle.std.specs.Prelude.{false, ◌≡◌, ℕ, List, ◌∷◌, Contains, IsTrue, Some, slice_get}
use Rattle.bl_tree.specs.declared.graph.Edge.{Edge}
use Rattle.bl_graph.specs.declared.tick_graph.Graph.{Graph}
use Rattle.bl_tree.specs.declared.tree.Unit.{Unit as UnitDef}
use Rattle.bl_tree.specs.Typing.{is_activity}
use Rattle.bl_cause.specs.Activities.{AreGraphs, AreOrders, IsGraphOf, IsOrderOf, graph_position}
use Rattle.bl_cause.specs.declared.order.Order.{Order}
use Rattle.bl_cause.specs.Fails.{FailsCycle, FailsTwice, Never}
use Rattle.bl_cause.specs.Ranks.{Ranks}
use Rattle.bl_cause.specs.Walks.{ClosedWalk, controls}

-- numbers that rise along every edge leave no closed walk
abbrev pub RanksLeaveNoWalk : Type 0
RanksLeaveNoWalk = (edges : List Edge) (ranks : List ℕ) → Ranks edges ranks → (walk : List Edge) → ¬ ClosedWalk edges walk

-- a closed walk can begin with any of its edges
abbrev pub WalksTurn : Type 0
WalksTurn = (edges walk : List Edge) → ClosedWalk edges walk → (edge : Edge) → Contains walk edge →
    (rest : List Edge) × ClosedWalk edges (edge ∷ rest)

-- a closed walk of control edges is a closed walk none of whose edges is by data
abbrev pub ControlWalks : Type 0
ControlWalks =
    (edges walk : List Edge) →
    (ClosedWalk (controls edges) walk → ClosedWalk edges walk × ((edge : Edge) → Contains walk edge → edge.by_data ≡ false))
    × (ClosedWalk edges walk → ((edge : Edge) → Contains walk edge → edge.by_data ≡ false) → ClosedWalk (controls edges) walk)

-- a graph for which neither rule fails has no closed walk
abbrev pub RulesLeaveNoWalk : Type 0
RulesLeaveNoWalk = (graph : Graph) → Never (FailsTwice graph) → Never (FailsCycle graph) → (walk : List Edge) → ¬ ClosedWalk graph.edges walk

-- the unit at the position has this tick graph among those of the activities
pub record HasGraph (units : List UnitDef) (graphs : List Graph) (at : ℕ) (unit : UnitDef) : Type 0 where
  pub graph : Graph
  pub stands : slice_get graphs (graph_position units at) ≡ Some graph
  pub of_unit : IsGraphOf unit graph

-- each activity finds its tick graph by its position
abbrev pub GraphsAreFound : Type 0
GraphsAreFound = (units : List UnitDef) (graphs : List Graph) → AreGraphs units graphs → (at : ℕ) (unit : UnitDef) →
    slice_get units at ≡ Some unit →
    IsTrue (is_activity unit.kind) → HasGraph units graphs at unit

-- the graph has an order that stands at its position
pub record HasOrder (graph : Graph) (orders : List Order) (at : ℕ) : Type 0 where
  pub order : Order
  pub stands : slice_get orders at ≡ Some order
  pub of_graph : IsOrderOf graph order

-- each tick graph has an order at its position
abbrev pub OrdersAreFound : Type 0
OrdersAreFound = (graphs : List Graph) (orders : List Order) → AreOrders graphs orders → (at : ℕ) (graph : Graph) →
    slice_get graphs at ≡ Some graph →
    HasOrder graph orders at
