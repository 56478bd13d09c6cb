-- An order of the tick graph of each activity numbers the nodes of each instance.
use Rattle.std.specs.Prelude.{◌≡◌, ℕ, true, List, Contains, Some}
use Rattle.bl_tree.specs.declared.graph.Edge.{Edge as GraphEdge}
use Rattle.bl_tree.specs.declared.graph.Node.{Node as GraphNode}
use Rattle.bl_tree.specs.declared.tree.StructDef.{StructDef}
use Rattle.bl_tree.specs.declared.tree.Unit.{Unit as UnitDef}
use Rattle.bl_tree.specs.Program.{IsWellTyped}
use Rattle.bl_tree.specs.Typing.{is_activity}
use Rattle.bl_effects.specs.Rules.{Passes}
use Rattle.bl_graph_nodes.specs.Nodes.{Node}
use Rattle.bl_graph_nodes.specs.Plain.{Block, plain_body}
use Rattle.bl_graph.specs.Graph.{IsTickGraph}
use Rattle.bl_cause.specs.Ranks.{Ranks}
use Rattle.bl_cause.specs.Rules.{Passes as OwnGraphsPass}
use Rattle.bl_ctree.specs.Instances.{Setting, unit_at}
use Rattle.bl_ctree.specs.Reaches.{NeverStuck}
use Rattle.bl_ctree_laws_traces.specs.Ready.Ranks.{Rising}

-- the tick graph of a body, and numbers for its nodes that rise along every edge
pub record HasOrder (body : Block) : Type 0 where
  pub nodes : List GraphNode
  pub edges : List GraphEdge
  pub is_graph : IsTickGraph body nodes edges
  pub ranks : List ℕ
  pub rises : Ranks edges ranks

-- the body of each unit that has an instance has them
abbrev pub AllOrdered : Setting → Type 0
AllOrdered w = (i : ℕ) (unit : UnitDef) → unit_at w i ≡ Some unit → HasOrder (plain_body unit.body)

-- the tick graph of each activity of a program has an order
abbrev pub ActivitiesAreOrdered : List UnitDef → Type 0
ActivitiesAreOrdered units = (unit : UnitDef) → Contains units unit → is_activity unit.kind ≡ true → HasOrder (plain_body unit.body)

-- where neither Twice nor Cycle fails by the tick graphs of units themselves, the tick graph of each activity has an order
abbrev pub UnitsAreOrdered : Type 0
UnitsAreOrdered = (units : List UnitDef) → OwnGraphsPass units → ActivitiesAreOrdered units

-- numbers for the nodes of each instance that rise
pub record HasRanks (w : Setting) : Type 0 where
  pub rank : ℕ → Node → ℕ
  pub rising : Rising w rank

-- orders of tick graphs give numbers that rise along all edges
abbrev pub OrdersGiveRanks : Type 0
OrdersGiveRanks = (w : Setting) → AllOrdered w → HasRanks w

-- a program that passes the rules and whose tick graphs have orders is never stuck
abbrev pub OrderedNeverStuck : Type 0
OrderedNeverStuck =
    (structs : List StructDef) (units : List UnitDef) (entry : ℕ) → IsWellTyped structs units entry → Passes units → ActivitiesAreOrdered units →
    NeverStuck structs units entry
