-- The tick graphs of a program's activities, and orders of their nodes.
use Rattle.std.specs.Prelude.{ℕ, List, [], ◌∷◌, filter, length, take, ⊤}
use Rattle.bl_graph.specs.declared.tick_graph.Graph.{Graph}
use Rattle.bl_tree.specs.declared.tree.Unit.{Unit as UnitDef}
use Rattle.bl_tree.specs.Typing.{is_activity}
use Rattle.bl_graph.specs.Graph.{IsTickGraph}
use Rattle.bl_graph_nodes.specs.Plain.{plain_body}
use Rattle.bl_cause.specs.declared.order.Order.{Order}
use Rattle.bl_cause.specs.Ranks.{Ranks}

-- the units that are activities, in their order
abbrev pub activities : List UnitDef → List UnitDef
activities units = filter (λ unit. is_activity unit.kind) units

-- where the tick graph of the unit at the position stands among those of the activities: behind those of the earlier ones
abbrev pub graph_position : List UnitDef → ℕ → ℕ
graph_position units at = length (activities (take at units))

-- two lists are equally long, and elements at one position are related
abbrev pub EachTwo : {A B : Type 0} → (A → B → Type 0) → List A → List B → Type 0
EachTwo R [] [] = ⊤
EachTwo R [] (y ∷ ys) = ⊥
EachTwo R (x ∷ xs) [] = ⊥
EachTwo R (x ∷ xs) (y ∷ ys) = R x y × EachTwo R xs ys

-- the graph is a tick graph of the unit's body
abbrev pub IsGraphOf : UnitDef → Graph → Type 0
IsGraphOf unit graph = IsTickGraph (plain_body unit.body) graph.nodes graph.edges

-- the graphs are tick graphs of the activities among the units, one for each, in their order
abbrev pub AreGraphs : List UnitDef → List Graph → Type 0
AreGraphs units graphs = EachTwo IsGraphOf (activities units) graphs

-- the numbers of the order rise along every edge of the graph
abbrev pub IsOrderOf : Graph → Order → Type 0
IsOrderOf graph order = Ranks graph.edges order.ranks

-- the orders are orders of the graphs, one for each, in their order
abbrev pub AreOrders : List Graph → List Order → Type 0
AreOrders graphs orders = EachTwo IsOrderOf graphs orders
