-- Numbers by which one pass takes the nodes of each instance.
use Rattle.std.specs.Prelude.{◌≡◌, ℕ, Contains, Some}
use Rattle.bl_tree.specs.declared.tree.Unit.{Unit as UnitDef}
use Rattle.bl_graph_nodes.specs.Nodes.{Node, nodes_in}
use Rattle.bl_graph_nodes.specs.Plain.{plain_body}
use Rattle.bl_ctree.specs.Instances.{Setting, unit_at}
use Rattle.bl_ctree_laws_traces.specs.Ready.Ordered.{AllOrdered}
use Rattle.bl_ctree_laws_traces.specs.Ready.Ranks.{Rising}

-- the numbers rise along each edge of each tick graph, and no two nodes of a body have one number
pub record Orders (w : Setting) (rank : ℕ → Node → ℕ) : Type 0 where
  pub rising : Rising w rank
  pub apart : (i : ℕ) (unit : UnitDef) (n m : Node) → unit_at w i ≡ Some unit → Contains (nodes_in (plain_body unit.body)) n →
      Contains (nodes_in (plain_body unit.body)) m → rank i n ≡ rank i m → n ≡ m

-- numbers that are
pub record HasOrders (w : Setting) : Type 0 where
  pub rank : ℕ → Node → ℕ
  pub orders : Orders w rank

-- numbers exist that rise along all edges and differ between nodes, where the tick graph of each activity has an order
abbrev pub GraphsGiveOrders : Type 0
GraphsGiveOrders = (w : Setting) → AllOrdered w → HasOrders w
