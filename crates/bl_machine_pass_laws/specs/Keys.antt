-- What tells the nodes of a body apart.
use Rattle.std.specs.Prelude.{◌≡◌, ℕ, List, Contains, Some, slice_get}
use Rattle.bl_tree.specs.declared.tree.Stmt.{Stmt}
use Rattle.bl_graph_nodes.specs.Nodes.{Node, label_of, nodes_in}
use Rattle.bl_graph_nodes.specs.Plain.{Position, plain_block}
use Rattle.bl_machine_pass.specs.Numbered.{sort}

-- label and sort distinguish the nodes of a body, and no node stands twice
pub record NodesHaveKeys : Type 0 where
  pub keys : (body : List Stmt) (at : Position) (n m : Node) → Contains (nodes_in (plain_block body at)) n →
      Contains (nodes_in (plain_block body at)) m → label_of n ≡ label_of m → sort n ≡ sort m → n ≡ m
  pub once : (body : List Stmt) (at : Position) (i j : ℕ) (n : Node) → slice_get (nodes_in (plain_block body at)) i ≡ Some n →
      slice_get (nodes_in (plain_block body at)) j ≡ Some n → i ≡ j
