-- What a tick graph keeps.
use Rattle.std.specs.Prelude.{◌&&◌, nat_lt, List, length, IsTrue}
use Rattle.std.specs.List.{list_all}
use Rattle.bl_tree.specs.declared.graph.Edge.{Edge}
use Rattle.bl_tree.specs.declared.graph.Node.{Node}

-- both ends of each edge are positions in the list of nodes
pub record JoinsNodes (nodes : List Node) (edges : List Edge) : Type 0 where
  pub ends : IsTrue (list_all (λ edge. nat_lt edge.from (length nodes) && nat_lt edge.to (length nodes)) edges)
