-- What is made of statements and blocks, where numbers name nodes.
use Rattle.std.specs.Prelude.{◌≡◌, ℕ, ◌+◌, Bool, true, false, not, nat_eq, List, [], ◌∷◌, ◌++◌, map, length, Contains, Option, Some, ⊤}
use Rattle.bl_tree.specs.declared.graph.Edge.{Edge}
use Rattle.bl_tree.specs.declared.place.Place.{Place}
use Rattle.bl_tree.specs.declared.static_path.Static.{Static}
use Rattle.bl_tree.specs.declared.tree.Arm.{Arm}
use Rattle.bl_tree.specs.declared.tree.Branch.{Branch}
use Rattle.bl_tree.specs.declared.tree.Expr.{Expr}
use Rattle.bl_tree.specs.declared.tree.Stmt.{Stmt, roll-Stmt}
use Rattle.bl_tree.specs.declared.tree.StmtKind.{StmtKind}
use Rattle.bl_tree.specs.Static.{mentions, set_of}
use Rattle.bl_graph_nodes.specs.Laws.{plain_arm, plain_branch}
use Rattle.bl_graph_nodes.specs.Nodes.{DepthJoinAt, ForkAt, Node, SurfaceJoinAt, entry, node_reads, node_writes, nodes_in, nodes_in_each, nodes_of}
use Rattle.bl_graph_nodes.specs.Plain.{Block, Bodies, Body, Done, If, Label, Last, Plain, Position, Then, bodies_from, else_at, inside, is_empty, plain_block}
use Rattle.bl_graph_nodes.specs.Plain.{plain_stmt}
use Rattle.bl_graph.specs.declared.flow.Flow.{Flow}
use Rattle.bl_graph.specs.declared.flow.Span.{Span}
use Rattle.bl_graph.specs.declared.part.Branches.{Branches}
use Rattle.bl_graph.specs.declared.part.Links.{Links}
use Rattle.bl_graph.specs.declared.part.Out.{Out}
use Rattle.bl_graph.specs.declared.part.Part.{Part as Made}
use Rattle.bl_graph.specs.Graph.{graph_node}
use Rattle.bl_graph.specs.Listed.{Pair, across, edges_in, edges_in_each, edges_of, flows_in, flows_of, resumes_in, resumes_in_each, resumes_of, turn_of}
use Rattle.bl_graph.specs.Marks.{Marked, part_in, part_of, parts_of}
use Rattle.bl_graph.specs.inner.Flows.{FlowsAdded}
use Rattle.bl_graph.specs.inner.Parts.{shifted, side_by_side}

-- ---- names of numbers

-- an assignment of nodes to numbers
abbrev pub Naming : Type 0
Naming = ℕ → Option Node

-- consecutive numbers, from the first on, name the nodes of the list
abbrev pub Names : Naming → ℕ → List Node → Type 0
Names naming n [] = ⊤
Names naming n (x ∷ xs) = (naming n ≡ Some x) × Names naming (n + 1) xs

-- the number names the node at which a block begins
abbrev pub NamesEntry : Naming → ℕ → Block → Type 0
NamesEntry naming n Done = ⊤
NamesEntry naming n (Then s rest) = naming n ≡ Some (entry s)

-- two lists are equally long, and their elements at one position are related
abbrev pub Pairwise : {A B : Type 0} → (A → B → Type 0) → List A → List B → Type 0
Pairwise R [] [] = ⊤
Pairwise R [] (y ∷ ys) = ⊥
Pairwise R (x ∷ xs) [] = ⊥
Pairwise R (x ∷ xs) (y ∷ ys) = R x y × Pairwise R xs ys

-- the number names the node
abbrev pub IsNode : Naming → ℕ → Node → Type 0
IsNode naming k n = naming k ≡ Some n

-- the number names the marked node, with its mark
pub record IsOut (naming : Naming) (out : Out) (m : Marked) : Type 0 where
  pub names : naming out.node ≡ Some m.node
  pub mark : out.mark ≡ m.mark

-- the edge leads from the one node to the other, and is of the kind
pub record IsEdge (kind : Bool) (naming : Naming) (edge : Edge) (p : Pair) : Type 0 where
  pub first : naming edge.from ≡ Some p.from
  pub second : naming edge.to ≡ Some p.to
  pub of_kind : edge.by_data ≡ kind

-- a listed pair of nodes corresponds to the edge
pub record HasPair (kind : Bool) (naming : Naming) (pairs : List Pair) (edge : Edge) : Type 0 where
  pub pair : Pair
  pub is_there : Contains pairs pair
  pub leads : IsEdge kind naming edge pair

-- a listed edge corresponds to the pair of nodes
pub record HasEdge (kind : Bool) (naming : Naming) (edges : List Edge) (pair : Pair) : Type 0 where
  pub edge : Edge
  pub is_there : Contains edges edge
  pub leads : IsEdge kind naming edge pair

-- the appended edges correspond to the listed pairs of nodes
pub record Adds (kind : Bool) (naming : Naming) (pairs : List Pair) (before after : List Edge) : Type 0 where
  pub added : List Edge
  pub grows : after ≡ before ++ added
  pub there : (edge : Edge) → Contains added edge → HasPair kind naming pairs edge
  pub back : (pair : Pair) → Contains pairs pair → HasEdge kind naming added pair

-- ---- parts

-- what a part comes to: its nodes, those that lead on, those at which a tick may begin, its control edges and its data edges
pub record Whole : Type 0 where
  pub nodes : List Marked
  pub outs : List Marked
  pub resumes : List Node
  pub edges : List Pair
  pub flows : List Pair

-- the nodes, ends, resume nodes and edges of a statement
abbrev pub whole_of : Plain → Whole
whole_of p = record { nodes = (part_of p).nodes; outs = (part_of p).outs; resumes = resumes_of p; edges = edges_of p; flows = flows_of p }

-- the nodes, ends, resume nodes and edges of a block
abbrev pub whole_in : Block → Whole
whole_in body = record {
  nodes = (part_in body).nodes;
  outs = (part_in body).outs;
  resumes = resumes_in body;
  edges = edges_in body;
  flows = flows_in body;
}

-- the body of a loop, with the edges of a turn
abbrev pub turning : Block → Node → Node → Whole
turning body first last = record {
  nodes = (part_in body).nodes;
  outs = (part_in body).outs;
  resumes = resumes_in body;
  edges = edges_in body ++ turn_of body first last;
  flows = flows_in body;
}

-- a node as the code keeps it
abbrev pub flow_of : Marked → Flow
flow_of m = record { node = graph_node m.node; mark = m.mark; reads = node_reads m.node; writes = node_writes m.node }

-- the part was made, and its edges were appended
pub record Makes (naming : Naming) (whole : Whole) (made : Made) (before after : Links) : Type 0 where
  pub flows : made.flows ≡ map flow_of whole.nodes
  pub outs : Pairwise (IsOut naming) made.outs whole.outs
  pub resumes : Pairwise (IsNode naming) made.resumes whole.resumes
  pub control : Adds false naming whole.edges before.control after.control
  pub by_data : Adds true naming whole.flows before.by_data after.by_data

-- a statement was made, whose nodes are numbered from the first on
abbrev pub StatementMade : Stmt → ℕ → Made → Links → Links → Type 0
StatementMade s first made before after = (at : Position) (naming : Naming) → Names naming first (nodes_of (plain_stmt s at))
    → Makes naming (whole_of (plain_stmt s at)) made before after

-- a block was made, whose nodes are numbered from the first on
abbrev pub BlockMade : List Stmt → ℕ → Made → Links → Links → Type 0
BlockMade body first made before after = (at : Position) (naming : Naming) → Names naming first (nodes_in (plain_block body at))
    → Makes naming (whole_in (plain_block body at)) made before after

-- the body of a loop, from its first node and to its last
abbrev pub TurnMade : List Stmt → ℕ → ℕ → ℕ → Made → Links → Links → Type 0
TurnMade body begins first last made before after = (at : Position) (naming : Naming) (n m : Node) → Names naming begins (nodes_in (plain_block body at))
    → naming first ≡ Some n → naming last ≡ Some m → Makes naming (turning (plain_block body at) n m) made before after

-- part of a whole was made; making the rest of its block, numbered from here on, completes it
pub record Open (naming : Naming) (whole : Whole) (rest : Block) (next : ℕ) (made : Made) (before after : Links) : Type 0 where
  pub names : Names naming next (nodes_in rest)
  pub closes : (more : Made) (last : Links) → Makes naming (whole_in rest) more after last → Makes naming whole (side_by_side made more) before last

-- the condition of an `if` and its block were made
abbrev pub ChoiceMade : Place → List Static → List Stmt → Bool → ℕ → Made → Links → Links → Type 0
ChoiceMade place reads body more first made before after = (l : Label) (at : Position) (e : Expr) (rest : Block) (naming : Naming)
    → reads ≡ set_of (mentions e) → is_empty rest ≡ not more → ((n : ℕ) → Names naming n (nodes_in rest) → NamesEntry naming n rest)
    → Names naming first (nodes_of (If l place e (plain_block body at) rest))
    → Open naming (whole_of (If l place e (plain_block body at) rest)) rest (first + length made.flows) made before after

-- part of an `if` was made; making its `else` block completes it
pub record Closing (naming : Naming) (whole : Whole) (other : List Stmt) (next : ℕ) (made : Made) (before after : Links) : Type 0 where
  pub later : Label
  pub opens : Open naming whole (plain_block other (inside later later.passed)) next made before after

-- the further conditions of an `if` were made, whose nodes are numbered from the first on
abbrev pub ChainMade : List Arm → Bool → ℕ → Made → Made → Links → Links → Type 0
ChainMade arms bare first made result before after = (l : Label) (naming : Naming) (whole : Whole) (start : Links) (other : List Stmt)
    → bare ≡ nat_eq (length other) 0
    → Open naming whole (else_at l (map plain_arm arms) (plain_block other)) (first + length made.flows) made start before
    → Closing naming whole other (first + length result.flows) result start after

-- a statement by its place and its kind
abbrev pub kinded : Place → StmtKind → Stmt
kinded place what = roll-Stmt (record { place = place; what = what })

-- ---- branches

-- the data edges in branches, and those between them
abbrev pub flows_within : Bodies → List Pair
flows_within Last = []
flows_within (Body weak body rest) = flows_in body ++ flows_within rest

-- the data edges between nodes of different branches
abbrev pub flows_between : Bodies → List Pair
flows_between Last = []
flows_between (Body weak body rest) = across (part_in body).nodes (parts_of rest).nodes ++ flows_between rest

-- where branches begin and end among the nodes of all, from the number on
abbrev pub spans_of : ℕ → Bodies → List Span
spans_of n Last = []
spans_of n (Body weak body rest) =
    record { first = n; end = n + length (part_in body).nodes } ∷ spans_of (n + length (part_in body).nodes) rest

-- the branches were made, and their edges were appended but for data edges between them
pub record MakesEach (naming : Naming) (bodies : Bodies) (l : Label) (at : Place) (instant : Bool) (made : Branches) (before after : Links) : Type 0 where
  pub flows : made.flows ≡ map flow_of (parts_of bodies).nodes
  pub left : made.left ≡ (parts_of bodies).left
  pub resumes : Pairwise (IsNode naming) made.resumes (resumes_in_each bodies)
  pub spans : made.spans ≡ spans_of 0 bodies
  pub control : Adds false naming (edges_in_each bodies l at instant) before.control after.control
  pub by_data : Adds true naming (flows_within bodies) before.by_data after.by_data

-- the numbers of the fork and the joins name them, and the numbers after the joins name the branches' nodes
pub record NamesEach (naming : Naming) (bodies : Bodies) (l : Label) (at : Place) (instant : Bool) (first join : ℕ) : Type 0 where
  pub fork : naming first ≡ Some (ForkAt l at)
  pub surface : instant ≡ true → naming (first + 1) ≡ Some (SurfaceJoinAt l at)
  pub depth : naming join ≡ Some (DepthJoinAt l at)
  pub nodes : Names naming (join + 1) (nodes_in_each bodies)

-- the branches were made, numbered from the first on, with this join
abbrev pub BranchesMade : List Branch → ℕ → ℕ → Bool → Branches → Links → Links → Type 0
BranchesMade branches first join instant made before after = (l : Label) (at : Place) (naming : Naming)
    → NamesEach naming (bodies_from (map plain_branch branches) 0 l) l at instant first join
    → MakesEach naming (bodies_from (map plain_branch branches) 0 l) l at instant made before after

-- making one more branch extends any list of branches made before
abbrev pub BranchAdded : Branch → ℕ → ℕ → Bool → Branches → Branches → Links → Links → Type 0
BranchAdded branch first join instant made joined before after = (branches : List Branch) (start : Links)
    → BranchesMade branches first join instant made start before → BranchesMade (branches ++ branch ∷ []) first join instant joined start after

-- the data edges between branches, whose nodes are numbered from the first on, were appended
pub record Crossed (first : ℕ) (flows : List Flow) (spans : List Span) (before after : List Edge) : Type 0 where
  pub found : List Edge
  pub adds : FlowsAdded flows spans [] found
  pub grows : after ≡ before ++ map (shifted first) found
