-- The control edges of a tick graph: the second node may act after the first in one tick. By recursion on plain statements
-- (docs/LANGUAGE.md, "Tick graphs").
use Rattle.std.specs.Prelude.{◌≡◌, Bool, true, false, ◌⊎◌}
use Rattle.bl_tree.specs.declared.place.Place.{Place}
use Rattle.bl_tree.specs.declared.tree.Guard.{Guard}
use Rattle.bl_tree.specs.declared.tree.Guard.TheVariants.{Abort, Reset}
use Rattle.bl_graph_nodes.specs.Nodes.{ActAt, CheckAt, DepthEndAt, DepthJoinAt, ForkAt, HeadAt, Node, ResumeAt, StartAt, SurfaceEndAt, SurfaceJoinAt, TestAt}
use Rattle.bl_graph_nodes.specs.Nodes.{are_instant, arguments_of, entry, is_instant}
use Rattle.bl_graph_nodes.specs.Plain.{Act, Again, Await, Block, Bodies, Body, Cobegin, Done, If, Label, Last, Plain, Repeat, Run, Then, Until, When, While}
use Rattle.bl_graph_nodes.specs.Plain.{is_empty}
use Rattle.bl_graph.specs.Walks.{Reached}

-- ---- where a block begins

-- the node at which a block begins, where something stands in it
abbrev pub Entry : Block → Node → Type 0
Entry Done n = ⊥
Entry (Then s rest) n = n ≡ entry s

-- what an edge to a block leads to: the block's entry or, where it is empty, what follows it
abbrev pub Into : Block → (Node → Type 0) → Node → Type 0
Into body F n = Entry body n ⊎ ((is_empty body ≡ true) × F n)

-- ---- the ends of constructs

-- a `when` ends in the tick in which it began, where its body may, or in a later one
abbrev pub BodyEnd : Label → Place → Block → Node → Type 0
BodyEnd l at body n = ((are_instant body ≡ true) × (n ≡ SurfaceEndAt l at)) ⊎ (n ≡ DepthEndAt l at)

-- the join of a `cobegin` that ends in the tick in which it began, where it may
abbrev pub SurfaceJoin : Bool → Label → Place → Node → Type 0
SurfaceJoin instant l at n = (instant ≡ true) × (n ≡ SurfaceJoinAt l at)

-- ---- what leads on

abbrev mutual
  -- the nodes with an edge to what follows a statement
  pub Out : Plain → Node → Type 0
  Out (Act l s) n = n ≡ ActAt l s
  Out (Await l at e) n = n ≡ TestAt l at e
  Out (Run l at target a inputs outputs) n = n ≡ ResumeAt l at (arguments_of target inputs outputs)
  Out (If l at e body other) n = OutAll body n ⊎ OutAll other n ⊎ (((is_empty body ≡ true) ⊎ (is_empty other ≡ true)) × (n ≡ TestAt l at e))
  Out (Cobegin l at bodies) n = SurfaceJoin (is_instant (Cobegin l at bodies)) l at n ⊎ (n ≡ DepthJoinAt l at)
  Out (When l at guard e body) n = BodyEnd l at body n
  Out (Repeat l at body) n = ⊥
  Out (Until l at body e) n = n ≡ TestAt l at e
  Out (While l at e body) n = n ≡ TestAt l at e
  Out (Again l at body e) n = n ≡ TestAt l at e

  -- the nodes with an edge to what follows a block in which something stands
  pub OutAll : Block → Node → Type 0
  OutAll Done n = ⊥
  OutAll (Then s rest) n = OutAll rest n ⊎ ((is_empty rest ≡ true) × Out s n)

-- ---- where what paused goes on

abbrev mutual
  -- the resume nodes of a statement: the nodes at which a tick may begin in it
  pub Resume : Plain → Node → Type 0
  Resume (Act l s) n = ⊥
  Resume (Await l at e) n = n ≡ TestAt l at e
  Resume (Run l at target a inputs outputs) n = n ≡ ResumeAt l at (arguments_of target inputs outputs)
  Resume (If l at e body other) n = ResumeAll body n ⊎ ResumeAll other n
  Resume (Cobegin l at bodies) n = ResumeEach bodies n
  Resume (When l at guard e body) n = n ≡ CheckAt l at e
  Resume (Repeat l at body) n = ResumeAll body n
  Resume (Until l at body e) n = ResumeAll body n
  Resume (While l at e body) n = ResumeAll body n
  Resume (Again l at body e) n = ResumeAll body n

  -- the resume nodes of a block
  pub ResumeAll : Block → Node → Type 0
  ResumeAll Done n = ⊥
  ResumeAll (Then s rest) n = Resume s n ⊎ ResumeAll rest n

  -- the resume nodes of branches
  pub ResumeEach : Bodies → Node → Type 0
  ResumeEach Last n = ⊥
  ResumeEach (Body weak body rest) n = ResumeAll body n ⊎ ResumeEach rest n

-- ---- edges

-- a node of a branch has an edge to the join: any node of a weak branch, an end of a strong one
abbrev pub Joins : Bool → (Node → Type 0) → (Node → Type 0) → Node → Type 0
Joins weak Part Ends n = Part n × ((weak ≡ true) ⊎ Ends n)

-- where its condition is true, an abort goes on to the end, and a reset to the body
abbrev pub Guarded : Guard → Label → Place → Block → Node → Type 0
Guarded Abort l at body n = n ≡ DepthEndAt l at
Guarded Reset l at body n = Into body (BodyEnd l at body) n

-- an edge of a loop: from its first node to the body, from the body to its last node
abbrev pub LoopEdge : Block → Node → Node → Node → Node → Type 0
LoopEdge body first last n m = ((n ≡ first) × Into body (λ k. k ≡ last) m) ⊎ (OutAll body n × (m ≡ last))

abbrev mutual
  -- the edges in a statement: between its own nodes, and from and to what stands in it
  pub Edge : Plain → Node → Node → Type 0
  Edge (Act l s) n m = ⊥
  Edge (Await l at e) n m = ⊥
  Edge (Run l at target a inputs outputs) n m = ⊥
  Edge (If l at e body other) n m = EdgeAll body n m ⊎ EdgeAll other n m ⊎ ((n ≡ TestAt l at e) × (Entry body m ⊎ Entry other m))
  Edge (Cobegin l at bodies) n m = EdgeEach bodies l at (is_instant (Cobegin l at bodies)) n m
  Edge (When l at guard e body) n m = EdgeAll body n m
      ⊎ ((n ≡ StartAt l at) × Into body (BodyEnd l at body) m)
      ⊎ ((n ≡ CheckAt l at e) × ResumeAll body m)
      ⊎ ((n ≡ CheckAt l at e) × Guarded guard l at body m)
      ⊎ (OutAll body n × BodyEnd l at body m)
  Edge (Repeat l at body) n m = EdgeAll body n m ⊎ LoopEdge body (HeadAt l at) (HeadAt l at) n m
  Edge (Until l at body e) n m = EdgeAll body n m ⊎ LoopEdge body (HeadAt l at) (TestAt l at e) n m ⊎ ((n ≡ TestAt l at e) × (m ≡ HeadAt l at))
  Edge (While l at e body) n m = EdgeAll body n m ⊎ LoopEdge body (TestAt l at e) (TestAt l at e) n m
  Edge (Again l at body e) n m = EdgeAll body n m ⊎ LoopEdge body (HeadAt l at) (TestAt l at e) n m ⊎ ((n ≡ TestAt l at e) × (m ≡ HeadAt l at))

  -- the edges in a block: those in its statements, and from each statement to the next
  pub EdgeAll : Block → Node → Node → Type 0
  EdgeAll Done n m = ⊥
  EdgeAll (Then s rest) n m = Edge s n m ⊎ EdgeAll rest n m ⊎ (Out s n × Entry rest m)

  -- the edges in the branches of a `cobegin`, from its fork and to its joins; an instant one has a surface join
  pub EdgeEach : Bodies → Label → Place → Bool → Node → Node → Type 0
  EdgeEach Last l at instant n m = ⊥
  EdgeEach (Body weak body rest) l at instant n m = EdgeAll body n m
      ⊎ ((n ≡ ForkAt l at) × Into body (SurfaceJoin instant l at) m)
      ⊎ (Joins weak (Reached (Entry body) (EdgeAll body)) (OutAll body) n × SurfaceJoin instant l at m)
      ⊎ (Joins weak (Reached (ResumeAll body) (EdgeAll body)) (OutAll body) n × (m ≡ DepthJoinAt l at))
      ⊎ EdgeEach rest l at instant n m

-- ---- surface and depth

-- the surface of a branch has the nodes of its first tick, its depth those of later ticks
abbrev pub In : Bool → Block → Node → Type 0
In false body = Reached (Entry body) (EdgeAll body)
In true body = Reached (ResumeAll body) (EdgeAll body)

-- a node stands in the surface, or in the depth, of one of the branches
abbrev pub InEach : Bool → Bodies → Node → Type 0
InEach deep Last n = ⊥
InEach deep (Body weak body rest) n = In deep body n ⊎ InEach deep rest n
