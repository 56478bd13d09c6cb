-- Laws of tick graphs.
use Rattle.std.specs.Prelude.{◌≡◌, true, false, ◌⊎◌, List, map, Contains, ◌↔◌}
use Rattle.bl_tree.specs.declared.static_path.Static.{Static}
use Rattle.bl_tree.specs.declared.tree.Stmt.{Stmt}
use Rattle.bl_graph_nodes.specs.Nodes.{Node, are_instant, entry, is_instant, label_of, node_writes, nodes_in}
use Rattle.bl_graph_nodes.specs.Plain.{Block, Plain, Position, is_empty, plain_block}
use Rattle.bl_graph_nodes.specs.Writes.{surface_writes, surface_writes_in}
use Rattle.bl_graph.specs.DataEdges.{BesideAll, DataEdge}
use Rattle.bl_graph.specs.Edges.{Edge, EdgeAll, Entry, In, Out, OutAll, ResumeAll}
use Rattle.bl_graph.specs.Listed.{edges_in, flows_in, pair}
use Rattle.bl_graph.specs.Marks.{Marked, part_in}
use Rattle.bl_graph.specs.Walks.{Walk}

-- all nodes that a graph speaks of are nodes of the body
pub record StaysWithin (body : Block) : Type 0 where
  pub edges : (n m : Node) → EdgeAll body n m → Contains (nodes_in body) n × Contains (nodes_in body) m
  pub entries : (n : Node) → Entry body n → Contains (nodes_in body) n
  pub outs : (n : Node) → OutAll body n → Contains (nodes_in body) n
  pub resumes : (n : Node) → ResumeAll body n → Contains (nodes_in body) n
  pub surface : (n : Node) → In false body n → Contains (nodes_in body) n
  pub depth : (n : Node) → In true body n → Contains (nodes_in body) n
  pub beside : (n m : Node) → BesideAll body n m → Contains (nodes_in body) n × Contains (nodes_in body) m

-- a walk in the statement leads from its entry to a node that leads on
pub record WayThrough (s : Plain) : Type 0 where
  pub end : Node
  pub walk : Walk (Edge s) (entry s) end
  pub leads_on : Out s end

-- a walk in a non-empty block leads from its entry to a node that leads on
pub record WayThroughAll (body : Block) : Type 0 where
  pub end : Node
  pub is_reached : In false body end
  pub leads_on : OutAll body end

-- what may end in the tick in which it begins has a way through it
pub record InstantsPass : Type 0 where
  pub statements : (s : Plain) → is_instant s ≡ true → WayThrough s
  pub blocks : (body : Block) → are_instant body ≡ true → (is_empty body ≡ true) ⊎ WayThroughAll body

-- a walk in the statement leads from its entry to a node that writes the static path
pub record WayToWriter (s : Plain) (path : Static) : Type 0 where
  pub writer : Node
  pub walk : Walk (Edge s) (entry s) writer
  pub writes : Contains (node_writes writer) path

-- a node in the surface of the block writes it
pub record WriterIn (body : Block) (path : Static) : Type 0 where
  pub writer : Node
  pub is_reached : In false body writer
  pub writes : Contains (node_writes writer) path

-- what may be written before the next pause is written at a node that is reached from the entry
pub record WritersAreReached : Type 0 where
  pub statements : (s : Plain) (path : Static) → Contains (surface_writes s) path → WayToWriter s path
  pub blocks : (body : Block) (path : Static) → Contains (surface_writes_in body) path → WriterIn body path

-- nodes that stand in different branches of one `cobegin` have different labels: the positions of their statements differ
abbrev pub BranchesPart : Type 0
BranchesPart = (body : List Stmt) (at : Position) (n m : Node) → BesideAll (plain_block body at) n m → (label_of n).position ≡ (label_of m).position →
    ⊥

-- each node of a block is marked as reached iff it is
pub record MarksTellIn (body : Block) : Type 0 where
  pub in_order : map (λ m. m.node) (part_in body).nodes ≡ nodes_in body
  pub surface : (m : Marked) → Contains (part_in body).nodes m → (m.mark.surface ≡ true) ↔ In false body m.node
  pub depth : (m : Marked) → Contains (part_in body).nodes m → (m.mark.depth ≡ true) ↔ In true body m.node

-- the marks of a body tell its surface and its depth
abbrev pub MarksTell : Type 0
MarksTell = (body : List Stmt) (at : Position) → MarksTellIn (plain_block body at)

-- the listed edges of a body are its control edges
abbrev pub EdgesAreListed : Type 0
EdgesAreListed = (body : List Stmt) (at : Position) (n m : Node) →
    Contains (edges_in (plain_block body at)) (pair n m) ↔ EdgeAll (plain_block body at) n m

-- the listed flows of a body are its data edges
abbrev pub FlowsAreListed : Type 0
FlowsAreListed = (body : List Stmt) (at : Position) (n m : Node) →
    Contains (flows_in (plain_block body at)) (pair n m) ↔ DataEdge (plain_block body at) n m
