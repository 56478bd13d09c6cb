-- Where a tree stands in the tick graph of its unit.
use Rattle.std.specs.Prelude.{◌≡◌, ℕ, Bool, true, Some, ⊤}
use Rattle.bl_tree.specs.declared.place.Place.{Place as Source}
use Rattle.bl_tree.specs.declared.tree.Unit.{Unit as UnitDef}
use Rattle.bl_graph_nodes.specs.Nodes.{CheckAt, DepthEndAt, Node, SurfaceEndAt, are_instant}
use Rattle.bl_graph_nodes.specs.Plain.{Block, Bodies, Plain, Act, Again, Await, Body as BodyOf, Cobegin, Done, If, Last, Repeat, Run as RunOf, Then, Until}
use Rattle.bl_graph_nodes.specs.Plain.{When, While, plain_body}
use Rattle.bl_graph.specs.DataEdges.{Beside, BesideAll}
use Rattle.bl_graph.specs.Edges.{Edge, EdgeAll, In, Out, OutAll, Resume, ResumeAll}
use Rattle.bl_graph.specs.Walks.{After}
use Rattle.bl_ctree.specs.Instances.{Setting, callee_of, unit_at}
use Rattle.bl_ctree_laws.specs.Trees.{Watch}

-- a place in a tick graph: what the nodes of a tree there may be and lead to
pub record Place : Type 1 where
  -- nodes in different branches of one `cobegin` of the unit, both in surfaces or both in depths
  pub links : Node → Node → Type 0
  -- the control edges of the innermost branch around the place
  pub edges : Node → Node → Type 0
  -- the nodes with an edge to what follows the tree
  pub out : Node → Type 0
  -- the nodes that may act in this tick
  pub now : Node → Type 0
  -- the nodes that may act in later ticks
  pub deep : Node → Type 0

-- ---- places made from others

-- what stands before something that begins at the node
abbrev pub ahead_of : Node → Place → Place
ahead_of next g = record { links = g.links; edges = g.edges; out = λ n. g.edges n next; now = g.now; deep = g.deep }

-- a branch of a `cobegin` that stood when the tick began, or has begun in it
abbrev pub in_branch : Bool → Block → Place → Place
in_branch stood body g = record { links = g.links; edges = EdgeAll body; out = OutAll body; now = In stood body; deep = In true body }

-- the nodes with an edge to each end that a `when` has
abbrev pub BothEnds : Watch → (Node → Node → Type 0) → Node → Type 0
BothEnds s E n = (are_instant s.body ≡ true → E n (SurfaceEndAt s.label s.place)) × E n (DepthEndAt s.label s.place)

-- the body of a `when`: in later ticks what follows its check acts
abbrev pub guarded : Watch → Place → Place
guarded s g = record {
  links = g.links;
  edges = g.edges;
  out = BothEnds s g.edges;
  now = g.now;
  deep = After g.edges (CheckAt s.label s.place s.test);
}

-- the place in the next tick
abbrev pub later_on : Place → Place
later_on g = record { links = g.links; edges = g.edges; out = g.out; now = g.deep; deep = g.deep }

-- the whole body of a unit, which stood when the tick began or has begun in it
abbrev pub whole : Bool → Block → Place
whole stood body = record { links = BesideAll body; edges = EdgeAll body; out = OutAll body; now = In stood body; deep = In true body }

-- ---- activities that are called

-- the `run` at the place begins an instance of a unit
pub record Calls (w : Setting) (i : ℕ) (at : Source) : Type 0 where
  pub callee : ℕ
  pub unit : UnitDef
  pub called : callee_of w i at ≡ Some callee
  pub is : unit_at w callee ≡ Some unit

abbrev mutual
  -- each `run` in the statement, in this instance, does
  pub Callable : Setting → ℕ → Plain → Type 0
  Callable w i (Act l s) = ⊤
  Callable w i (Await l at e) = ⊤
  Callable w i (RunOf l at target a inputs outputs) = Calls w i at
  Callable w i (If l at e body other) = CallableAll w i body × CallableAll w i other
  Callable w i (Cobegin l at bodies) = CallableEach w i bodies
  Callable w i (When l at guard e body) = CallableAll w i body
  Callable w i (Repeat l at body) = CallableAll w i body
  Callable w i (Until l at body e) = CallableAll w i body
  Callable w i (While l at e body) = CallableAll w i body
  Callable w i (Again l at body e) = CallableAll w i body

  -- each `run` in a block begins an instance of a unit
  pub CallableAll : Setting → ℕ → Block → Type 0
  CallableAll w i Done = ⊤
  CallableAll w i (Then s rest) = Callable w i s × CallableAll w i rest

  -- each `run` in branches begins an instance of a unit
  pub CallableEach : Setting → ℕ → Bodies → Type 0
  CallableEach w i Last = ⊤
  CallableEach w i (BodyOf weak body rest) = CallableAll w i body × CallableEach w i rest

-- each `run` in the body of a unit that has an instance begins an instance of a unit
abbrev pub AllCallable : Setting → Type 0
AllCallable w = (i : ℕ) (unit : UnitDef) → unit_at w i ≡ Some unit → CallableAll w i (plain_body unit.body)

-- ---- what fits

-- the graph of the statement is part of the graph at the place
pub record IsSubgraph (w : Setting) (i : ℕ) (s : Plain) (g : Place) : Type 0 where
  pub edges : (n m : Node) → Edge s n m → g.edges n m
  pub outs : (n : Node) → Out s n → g.out n
  pub resumes : (n : Node) → Resume s n → g.deep n
  pub beside : (n m : Node) → Beside s n m → g.links n m
  pub calls : Callable w i s

-- the graph of the block is
pub record AreSubgraphs (w : Setting) (i : ℕ) (body : Block) (g : Place) : Type 0 where
  pub edges : (n m : Node) → EdgeAll body n m → g.edges n m
  pub outs : (n : Node) → OutAll body n → g.out n
  pub resumes : (n : Node) → ResumeAll body n → g.deep n
  pub beside : (n m : Node) → BesideAll body n m → g.links n m
  pub calls : CallableAll w i body
