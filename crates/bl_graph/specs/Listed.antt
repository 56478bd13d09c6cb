-- The control edges and the data edges of a body as lists. What is in a surface or a depth is found by the marks of nodes.
use Rattle.std.specs.Prelude.{Bool, ◌&&◌, ◌||◌, List, [], ◌∷◌, ◌++◌, if◌then◌else◌}
use Rattle.bl_tree.specs.declared.place.Place.{Place}
use Rattle.bl_tree.specs.declared.tree.Guard.{Guard}
use Rattle.bl_tree.specs.declared.tree.Guard.TheVariants.{Abort, Reset}
use Rattle.bl_tree.specs.Static.{meets}
use Rattle.bl_graph_nodes.specs.Nodes.{CheckAt, DepthEndAt, DepthJoinAt, ForkAt, HeadAt, Node, ResumeAt, StartAt, SurfaceEndAt, SurfaceJoinAt, TestAt}
use Rattle.bl_graph_nodes.specs.Nodes.{are_instant, arguments_of, entry, is_instant, node_reads, node_writes, where_so}
use Rattle.bl_graph_nodes.specs.Plain.{Act, Again, Await, Block, Bodies, Body, Cobegin, Done, If, Label, Last, Plain, Repeat, Run, Then, Until, When, While}
use Rattle.bl_graph.specs.Marks.{Mark, Marked, part_in, part_of, parts_of}

-- an edge by its nodes
pub record Pair : Type 0 where
  pub from : Node
  pub to : Node

-- the edge from the first to the second
abbrev pub pair : Node → Node → Pair
pair from to = record { from = from; to = to }

-- the edges from a node to each node of a list
abbrev pub from_to : Node → List Node → List Pair
from_to from [] = []
from_to from (to ∷ rest) = pair from to ∷ from_to from rest

-- the edges from each node of a list to a node
abbrev pub each_to : List Marked → Node → List Pair
each_to [] to = []
each_to (m ∷ rest) to = pair m.node to ∷ each_to rest to

-- the edges from each node of the first list to each of the second
abbrev pub each_to_all : List Marked → List Node → List Pair
each_to_all ms [] = []
each_to_all ms (to ∷ rest) = each_to ms to ++ each_to_all ms rest

-- the edges to a node from each node of a list that is in the surface
abbrev pub surface_to : List Marked → Node → List Pair
surface_to [] to = []
surface_to (m ∷ rest) to = (if m.mark.surface then pair m.node to ∷ [] else []) ++ surface_to rest to

-- the edges to a node from each node of a list that is in the depth
abbrev pub depth_to : List Marked → Node → List Pair
depth_to [] to = []
depth_to (m ∷ rest) to = (if m.mark.depth then pair m.node to ∷ [] else []) ++ depth_to rest to

-- where an edge to a block leads: to its entry, or to what follows it
abbrev pub entry_of : Block → List Node → List Node
entry_of Done next = next
entry_of (Then s rest) next = entry s ∷ []

abbrev mutual
  -- the resume nodes of a statement
  pub resumes_of : Plain → List Node
  resumes_of (Act l s) = []
  resumes_of (Await l at e) = TestAt l at e ∷ []
  resumes_of (Run l at target a inputs outputs) = ResumeAt l at (arguments_of target inputs outputs) ∷ []
  resumes_of (If l at e body other) = resumes_in body ++ resumes_in other
  resumes_of (Cobegin l at bodies) = resumes_in_each bodies
  resumes_of (When l at guard e body) = CheckAt l at e ∷ []
  resumes_of (Repeat l at body) = resumes_in body
  resumes_of (Until l at body e) = resumes_in body
  resumes_of (While l at e body) = resumes_in body
  resumes_of (Again l at body e) = resumes_in body

  -- the resume nodes of a block, as a list
  pub resumes_in : Block → List Node
  resumes_in Done = []
  resumes_in (Then s rest) = resumes_of s ++ resumes_in rest

  -- the resume nodes of branches, as a list
  pub resumes_in_each : Bodies → List Node
  resumes_in_each Last = []
  resumes_in_each (Body weak body rest) = resumes_in body ++ resumes_in_each rest

-- the ends of a `when`
abbrev pub ends_of : Label → Place → Block → List Node
ends_of l at body = where_so (are_instant body) (SurfaceEndAt l at) ++ DepthEndAt l at ∷ []

-- where an edge of the condition leads where that is true: an abort to the end, a reset to the body
abbrev pub guard_to : Guard → Label → Place → Block → List Node
guard_to Abort l at body = DepthEndAt l at ∷ []
guard_to Reset l at body = entry_of body (ends_of l at body)

-- the edges of a loop from its first node to its body, and from the body to its last
abbrev pub turn_of : Block → Node → Node → List Pair
turn_of body first last = from_to first (entry_of body (last ∷ [])) ++ each_to (part_in body).outs last

-- the nodes of a branch from which its `cobegin` may end
abbrev pub leaving_of : Bool → Block → List Marked
leaving_of weak body = if weak then (part_in body).nodes else (part_in body).outs

abbrev mutual
  -- the edges in a statement
  pub edges_of : Plain → List Pair
  edges_of (Act l s) = []
  edges_of (Await l at e) = []
  edges_of (Run l at target a inputs outputs) = []
  edges_of (If l at e body other) =
      edges_in body ++ (edges_in other ++ (from_to (TestAt l at e) (entry_of body []) ++ from_to (TestAt l at e) (entry_of other [])))
  edges_of (Cobegin l at bodies) = edges_in_each bodies l at (is_instant (Cobegin l at bodies))
  edges_of (When l at guard e body) = edges_in body
      ++ (from_to (StartAt l at) (entry_of body (ends_of l at body))
      ++ (from_to (CheckAt l at e) (resumes_in body)
      ++ (from_to (CheckAt l at e) (guard_to guard l at body) ++ each_to_all (part_in body).outs (ends_of l at body))))
  edges_of (Repeat l at body) = edges_in body ++ turn_of body (HeadAt l at) (HeadAt l at)
  edges_of (Until l at body e) = edges_in body ++ (turn_of body (HeadAt l at) (TestAt l at e) ++ pair (TestAt l at e) (HeadAt l at) ∷ [])
  edges_of (While l at e body) = edges_in body ++ turn_of body (TestAt l at e) (TestAt l at e)
  edges_of (Again l at body e) = edges_in body ++ (turn_of body (HeadAt l at) (TestAt l at e) ++ pair (TestAt l at e) (HeadAt l at) ∷ [])

  -- the edges in the statements of a block, and from each statement to the next
  pub edges_in : Block → List Pair
  edges_in Done = []
  edges_in (Then s rest) = edges_of s ++ (edges_in rest ++ each_to_all (part_of s).outs (entry_of rest []))

  -- the edges in branches, from their fork and to their joins
  pub edges_in_each : Bodies → Label → Place → Bool → List Pair
  edges_in_each Last l at instant = []
  edges_in_each (Body weak body rest) l at instant = edges_in body
      ++ (from_to (ForkAt l at) (entry_of body (where_so instant (SurfaceJoinAt l at)))
      ++ ((if instant then surface_to (leaving_of weak body) (SurfaceJoinAt l at) else [])
      ++ (depth_to (leaving_of weak body) (DepthJoinAt l at) ++ edges_in_each rest l at instant)))

-- ---- data edges

-- whether two nodes are in both surfaces or in both depths of their branches
abbrev pub in_same_phase : Mark → Mark → Bool
in_same_phase a b = (a.surface && b.surface) || (a.depth && b.depth)

-- the data edge from the first node to the second, where the first writes what the second reads
abbrev pub touching : Node → Node → List Pair
touching from to = if meets (node_writes from) (node_reads to) then pair from to ∷ [] else []

-- the data edges between a node and those of other branches
abbrev pub between : Marked → List Marked → List Pair
between a [] = []
between a (b ∷ rest) = (if in_same_phase a.mark b.mark then touching a.node b.node ++ touching b.node a.node else []) ++ between a rest

-- the data edges between the nodes of a branch and those of other branches
abbrev pub across : List Marked → List Marked → List Pair
across [] others = []
across (a ∷ rest) others = between a others ++ across rest others

abbrev mutual
  -- the data edges in a statement
  pub flows_of : Plain → List Pair
  flows_of (Act l s) = []
  flows_of (Await l at e) = []
  flows_of (Run l at target a inputs outputs) = []
  flows_of (If l at e body other) = flows_in body ++ flows_in other
  flows_of (Cobegin l at bodies) = flows_in_each bodies
  flows_of (When l at guard e body) = flows_in body
  flows_of (Repeat l at body) = flows_in body
  flows_of (Until l at body e) = flows_in body
  flows_of (While l at e body) = flows_in body
  flows_of (Again l at body e) = flows_in body

  -- the data edges in a block
  pub flows_in : Block → List Pair
  flows_in Done = []
  flows_in (Then s rest) = flows_of s ++ flows_in rest

  -- the data edges in branches and between them
  pub flows_in_each : Bodies → List Pair
  flows_in_each Last = []
  flows_in_each (Body weak body rest) = flows_in body ++ (across (part_in body).nodes (parts_of rest).nodes ++ flows_in_each rest)
