-- What keeps a step waiting writes what the step's nodes read, in the instance of each node of its label.
use Rattle.std.specs.Prelude.{◌≡◌, ℕ, Bool, Some, List}
use Rattle.bl_tree.specs.declared.tree.StructDef.{StructDef}
use Rattle.bl_tree.specs.declared.tree.Unit.{Unit as UnitDef}
use Rattle.bl_graph_nodes.specs.Nodes.{Node, place_of_node}
use Rattle.bl_graph_nodes.specs.Steps.{Gives, Here, Inside, StepLabel}
use Rattle.bl_graph.specs.DataEdges.{Touches}
use Rattle.bl_ctree.specs.Instances.{Setting, callee_of, setting_of}
use Rattle.bl_ctree_laws.specs.Pending.{Deed}
use Rattle.bl_ctree_laws.specs.Steps.{Anyway, Moves}
use Rattle.bl_ctree_laws.specs.Trees.{Tree}
use Rattle.bl_ctree_laws_confluence.specs.Deeds.Homes.{OutputsAreApart}
use Rattle.bl_ctree_laws_confluence.specs.Apart.Seen.{CallsMatchCallees}
use Rattle.bl_ctree_laws_traces.specs.Progress.Blocked.{WritesOver}

-- what writes, in the instance, over something that the deed reads writes a static path that overlaps one that the node reads
abbrev pub Touched : Setting → ℕ → Deed → Node → Type 0
Touched w i a n = (writer : Node) → WritesOver w i a writer → Touches writer n

-- TouchesAt w i a n: each node of the label n touches what may write over reads of the deed a in that node's instance
abbrev pub TouchesAt : Setting → ℕ → Deed → StepLabel → Type 0
TouchesAt w i a (Here n) = Touched w i a n
TouchesAt w i a (Gives n) = Touched w i a n
TouchesAt w i a (Inside n u step) =
    Touched w i a n × ((callee : ℕ) → callee_of w i (place_of_node n) ≡ Some callee → TouchesAt w callee a step)

-- each step that could be taken touches its label's nodes: only their own data edges can delay it from outside
abbrev pub WritersTouchOnTheWay : Type 0
WritersTouchOnTheWay =
    (structs : List StructDef) (units : List UnitDef) (entry i : ℕ) (c : Tree) (d : Bool) (a : Deed) (n : StepLabel) (c' : Tree) →
    let w = setting_of structs units entry in OutputsAreApart w → CallsMatchCallees w i c → Moves Anyway w i c d a n c' → TouchesAt w i a n
