-- The nodes of an activity in the order in which one pass takes them, some of them joined into one block.
use Rattle.std.specs.Prelude.{◌≡◌, ◌⊎◌, ℕ, zero, suc, ◌<◌, Bool, true, false, List, [], ◌∷◌, ◌++◌, Contains, IsPermutation, Some, length, slice_get}
use Rattle.bl_tree.specs.Reduce.{joined}
use Rattle.bl_graph_nodes.specs.Nodes.{ActAt, DepthJoinAt, HeadAt, Node, SurfaceJoinAt, nodes_in}
use Rattle.bl_graph_nodes.specs.Plain.{Block}
use Rattle.bl_graph.specs.DataEdges.{DataEdge}
use Rattle.bl_graph.specs.Edges.{EdgeAll, Entry, ResumeAll}
use Rattle.bl_graph.specs.Graph.{EdgeBetween}

-- ---- nodes that could stand in one block

-- whether the node has one node after it and no choice: an act, or the head of a loop
abbrev pub goes_straight : Node → Bool
goes_straight (ActAt l s) = true
goes_straight (HeadAt l at) = true
goes_straight _ = false

-- whether the node is a join of a `cobegin`
abbrev pub is_join : Node → Bool
is_join (SurfaceJoinAt l at) = true
is_join (DepthJoinAt l at) = true
is_join _ = false

-- the two nodes could stand in one block: the second acts iff the first has. Joins depend on their branches, and resume nodes and the body's entry on how the
-- tick began
pub record CouldFollow (body : Block) (n m : Node) : Type 0 where
  pub straight : goes_straight n ≡ true
  pub leads : EdgeAll body n m
  pub nowhere_else : (k : Node) → EdgeAll body n k → (is_join k ≡ true) ⊎ (k ≡ m)
  pub no_join : is_join m ≡ false
  pub no_resume : ResumeAll body m → ⊥
  pub no_entry : Entry body m → ⊥
  pub alone : (k : Node) → EdgeAll body k m → k ≡ n

-- ---- an order of blocks

-- the numbers below `count`, in order
abbrev pub up_to : ℕ → List ℕ
up_to zero = []
up_to (suc count) = up_to count ++ count ∷ []

-- an edge leads from the first node to the second: a control edge or a data edge
abbrev pub EdgeLeads : Block → Node → Node → Type 0
EdgeLeads body n m = EdgeAll body n m ⊎ DataEdge body n m

-- blocks that list each node of the body once, by numbers: edges lead forward, and a block is a straight line of nodes
pub record Ordered (body : Block) (blocks : List (List ℕ)) : Type 0 where
  -- each node stands once
  pub all : IsPermutation (up_to (length (nodes_in body))) (joined blocks)
  -- each node stands before the nodes to which an edge leads from it
  pub rises : (p q i j : ℕ) → slice_get (joined blocks) p ≡ Some i → slice_get (joined blocks) q ≡ Some j →
      EdgeBetween (nodes_in body) (EdgeLeads body) i j → p < q
  -- no block is empty
  pub filled : (block : List ℕ) → Contains blocks block → 0 < length block
  -- each node but the first of a block could stand in one block with the node before it
  pub straight : (block : List ℕ) (k i j : ℕ) → Contains blocks block → slice_get block k ≡ Some i → slice_get block (suc k) ≡ Some j →
      EdgeBetween (nodes_in body) (CouldFollow body) i j
