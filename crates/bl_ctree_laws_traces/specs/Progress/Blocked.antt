-- What keeps a step that could be taken from acting: a writer in another branch, to which something else that could act leads.
use Rattle.std.specs.Prelude.{◌≡◌, ℕ, Bool, true, Some, ◌⊎◌}
use Rattle.std.specs.List.{list_any}
use Rattle.bl_tree.specs.declared.tree.Unit.{Unit as UnitDef}
use Rattle.bl_graph_nodes.specs.Nodes.{Node, node_writes, place_of_node}
use Rattle.bl_graph_nodes.specs.Plain.{Block, plain_body}
use Rattle.bl_graph_nodes.specs.Steps.{Gives, Here, Inside, StepLabel, head_of}
use Rattle.bl_graph.specs.DataEdges.{BesideAll}
use Rattle.bl_graph.specs.Edges.{EdgeAll}
use Rattle.bl_graph.specs.Walks.{Walk}
use Rattle.bl_ctree.specs.Instances.{Setting, callee_of, unit_at}
use Rattle.bl_ctree_laws.specs.Pending.{Deed, deed_reads, leads_over}
use Rattle.bl_ctree_laws.specs.Steps.{Anyway, Moves, Unmet}
use Rattle.bl_ctree_laws.specs.Trees.{Tree}
use Rattle.bl_ctree_laws_traces.specs.Progress.Laws.{Could}
use Rattle.bl_ctree_laws_traces.specs.Progress.FitsGraph.{FitsGraph}
use Rattle.bl_ctree_laws_traces.specs.Progress.Places.{whole}

-- the node writes a static path of the instance whose home overlaps one that the deed reads
abbrev pub WritesOver : Setting → ℕ → Deed → Node → Type 0
WritesOver w i a m = list_any (λ at. list_any (leads_over w i at) (node_writes m)) (deed_reads w a) ≡ true

-- edges lead from the node to a writer that stands in another branch than the node of the deed
pub record Writer (w : Setting) (i : ℕ) (a : Deed) (E L : Node → Node → Type 0) (from node : Node) : Type 0 where
  pub writer : Node
  pub walk : Walk E from writer
  pub beside : L writer node
  pub writes : WritesOver w i a writer

-- WaitsFor w n p i a E L: deed a with label n waits for a writer that a step labelled p leads to
abbrev pub WaitsFor : Setting → StepLabel → StepLabel → ℕ → Deed → (Node → Node → Type 0) → (Node → Node → Type 0) → Type 0
WaitsFor w (Here n) p i a E L = Writer w i a E L (head_of p) n
WaitsFor w (Gives n) p i a E L = Writer w i a E L (head_of p) n
WaitsFor w (Inside n u step) p i a E L = Writer w i a E L (head_of p) n
    ⊎ ((callee : ℕ) × (unit : UnitDef) × (q : StepLabel) × (callee_of w i (place_of_node n) ≡ Some callee) × (unit_at w callee ≡ Some unit)
    × (p ≡ Inside n u q) × WaitsFor w step q callee a (EdgeAll (plain_body unit.body)) (BesideAll (plain_body unit.body)))

-- a step of the tree for which the deed waits
pub record Blocked (w : Setting) (i : ℕ) (c : Tree) (a : Deed) (n : StepLabel) (E L : Node → Node → Type 0) : Type 0 where
  pub could : Could w i c
  pub waits : WaitsFor w n could.label i a E L

-- what could act in a tree that stands at its place may act, or it waits for a writer
abbrev pub ActsOrWaits : Type 0
ActsOrWaits =
    (w : Setting) (i : ℕ) (stood : Bool) (body : Block) (c : Tree) (d : Bool) (a : Deed) (n : StepLabel) (c' : Tree) →
    FitsGraph w i c (whole stood body) → Moves Anyway w i c d a n c' → Moves Unmet w i c d a n c' ⊎ Blocked w i c a n (EdgeAll body) (BesideAll body)
