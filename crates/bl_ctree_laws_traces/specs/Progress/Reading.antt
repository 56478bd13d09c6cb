-- What the deed of a step reads is what its node reads.
use Rattle.std.specs.Prelude.{◌≡◌, ℕ, Bool, Contains}
use Rattle.bl_tree.specs.declared.static_path.Static.{Static}
use Rattle.bl_graph_nodes.specs.Nodes.{Node, node_reads}
use Rattle.bl_graph_nodes.specs.Steps.{StepLabel, leaf_of}
use Rattle.bl_ctree.specs.Instances.{Setting}
use Rattle.bl_ctree.specs.Store.{Location, home}
use Rattle.bl_ctree_laws.specs.Pending.{Deed, deed_reads}
use Rattle.bl_ctree_laws.specs.Steps.{Anyway, Moves}
use Rattle.bl_ctree_laws.specs.Trees.{Tree}

-- the location is the home of a static path that the node reads in the instance
pub record IsRead (w : Setting) (i : ℕ) (n : Node) (at : Location) : Type 0 where
  pub path : Static
  pub reads : Contains (node_reads n) path
  pub is : at ≡ home w (record { instance = i; path = path })

-- what a deed reads is what the node that acts reads
abbrev pub DeedsReadAtNodes : Type 0
DeedsReadAtNodes =
    (w : Setting) (i : ℕ) (c : Tree) (d : Bool) (a : Deed) (n : StepLabel) (c' : Tree) (at : Location) → Moves Anyway w i c d a n c' →
    Contains (deed_reads w a) at → IsRead w a.instance (leaf_of n) at
