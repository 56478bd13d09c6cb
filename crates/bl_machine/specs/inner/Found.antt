-- Where the tick graph and the order of an activity stand.
use Rattle.std.specs.Prelude.{◌≡◌, ℕ, List, Some, slice_get}
use Rattle.bl_graph.specs.declared.tick_graph.Graph.{Graph}
use Rattle.bl_tree.specs.declared.tree.Unit.{Unit as UnitDef}
use Rattle.bl_cause.specs.Activities.{IsGraphOf, IsOrderOf}
use Rattle.bl_cause.specs.declared.order.Order.{Order}

-- the lists have a tick graph of the unit and an order of it at the position
pub record IsFound (unit : UnitDef) (graphs : List Graph) (orders : List Order) (at : ℕ) : Type 0 where
  pub graph : Graph
  pub has_graph : slice_get graphs at ≡ Some graph
  pub of_unit : IsGraphOf unit graph
  pub order : Order
  pub has_order : slice_get orders at ≡ Some order
  pub of_graph : IsOrderOf graph order
