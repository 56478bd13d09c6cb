-- The numbers that the orders of a program's tick graphs give to the nodes of its instances.
use Rattle.std.specs.Prelude.{ℕ, List, option_and_then, option_map, slice_get, slice_index, unwrap_or}
use Rattle.bl_cause.specs.Accepted.{AcceptedProgram, IsAccepted}
use Rattle.bl_cause.specs.Activities.{graph_position}
use Rattle.bl_cause.specs.declared.order.Order.{Order}
use Rattle.bl_ctree.specs.Instances.{Setting, setting_of}
use Rattle.bl_ctree_laws_traces.specs.Ready.Ranks.{Rising}
use Rattle.bl_graph_nodes.specs.Nodes.{Node, nodes_in}
use Rattle.bl_graph_nodes.specs.Plain.{plain_body}
use Rattle.bl_machine_pass.specs.Numbered.{position_where, same_node}
use Rattle.bl_tree.specs.declared.tree.Unit.{Unit as UnitDef}

-- the number of a node of a unit's body by an order of the unit's tick graph: that of the node's position in the body
abbrev pub number_in : UnitDef → Node → Order → ℕ
number_in unit n order = slice_index order.ranks (position_where (same_node n) (nodes_in (plain_body unit.body)))

-- the number of a node of the unit at the position, by the orders of the activities; 0 where there is no order
abbrev pub number_at : List UnitDef → List Order → Node → ℕ → ℕ
number_at units orders n at =
    unwrap_or (option_and_then (λ unit. option_map (number_in unit n) (slice_get orders (graph_position units at))) (slice_get units at)) 0

-- the number of a node of the instance, by the orders of the activities; 0 where there is no such instance
abbrev pub rank_by : Setting → List Order → ℕ → Node → ℕ
rank_by w orders i n = unwrap_or (option_map (λ instance. number_at w.units orders n instance.unit) (slice_get w.instances i)) 0

-- the numbers by the orders of an accepted program rise along each control edge and each data edge, in each instance
abbrev pub OrdersRise : Type 0
OrdersRise = (accepted : AcceptedProgram) → IsAccepted accepted →
    let w = setting_of accepted.program.structs accepted.program.units accepted.program.entry in Rising w (rank_by w accepted.orders)
