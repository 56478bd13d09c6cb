-- The parts of a body by the numbers of nodes: what is made of them step by step.
use Rattle.std.specs.Prelude.{ℕ, ◌+◌, Bool, true, false, ◌||◌, List, [], ◌∷◌, ◌++◌, map, length, if◌then◌else◌}
use Rattle.bl_tree.specs.declared.graph.Edge.{Edge}
use Rattle.bl_tree.specs.declared.graph.NodeKind.{NodeKind}
use Rattle.bl_tree.specs.declared.graph.NodeKind.TheVariants as kind
use Rattle.bl_tree.specs.declared.place.Place.{Place}
use Rattle.bl_tree.specs.declared.static_path.Static.{Static}
use Rattle.bl_tree.specs.declared.tree.Guard.{Guard}
use Rattle.bl_tree.specs.declared.tree.Guard.TheVariants.{Abort, Reset}
use Rattle.bl_tree.specs.Reduce.{joined}
use Rattle.bl_graph.specs.declared.flow.Flow.{Flow}
use Rattle.bl_graph.specs.declared.part.Branches.{Branches}
use Rattle.bl_graph.specs.declared.part.Links.{Links}
use Rattle.bl_graph.specs.declared.part.Out.{Out}
use Rattle.bl_graph.specs.declared.part.Part.{Part}
use Rattle.bl_graph.specs.Graph.{edge_between}
use Rattle.bl_graph.specs.Marks.{Mark, again_by, begun_by, either, entered, inner, join_mark, last_end, leaving, resumed, unreached}

-- ---- marks

-- the ways in which some node of a list is reached
abbrev pub some_mark : List Out → Mark
some_mark [] = unreached
some_mark (out ∷ rest) = either out.mark (some_mark rest)

-- the ways in which some node of a list leaves its branch
abbrev pub leave_mark : List Out → Mark
leave_mark [] = unreached
leave_mark (out ∷ rest) = either (leaving out.mark) (leave_mark rest)

-- a node of a part in what is around it, and one that leads on
abbrev pub moved_flow : Mark → Flow → Flow
moved_flow entry flow = record { node = flow.node; mark = inner entry flow.mark; reads = flow.reads; writes = flow.writes }

-- a node that leads on from a part, with its mark in what is around it
abbrev pub moved_out : Mark → Out → Out
moved_out entry out = record { node = out.node; mark = inner entry out.mark }

-- ---- edges

-- the control edges from a node to each node of a list
abbrev pub links_from : ℕ → List ℕ → List Edge
links_from from to = map (λ k. edge_between from k false) to

-- the control edges from each node of a list to a node
abbrev pub links_each : List Out → ℕ → List Edge
links_each outs to = map (λ out. edge_between out.node to false) outs

-- the control edges from each node of the first list to each of the second
abbrev pub links_all : List Out → List ℕ → List Edge
links_all outs to = joined (map (links_each outs) to)

-- an edge, where the test is true
abbrev pub link_if : Bool → ℕ → ℕ → List Edge
link_if test from to = if test then edge_between from to false ∷ [] else []

-- the control edges to a node from each node of a list that is in the surface
abbrev pub surface_links : List Out → ℕ → List Edge
surface_links outs to = joined (map (λ out. link_if out.mark.surface out.node to) outs)

-- the control edges to a node from each node of a list that is in the depth
abbrev pub depth_links : List Out → ℕ → List Edge
depth_links outs to = joined (map (λ out. link_if out.mark.depth out.node to) outs)

-- where an edge to a block leads: to its first node or, where it is empty, to what follows it
abbrev pub into_block : Bool → ℕ → List ℕ → List ℕ
into_block empty first next = if empty then next else first ∷ []

-- a number, where the test is true
abbrev pub number_if : Bool → ℕ → List ℕ
number_if test number = if test then number ∷ [] else []

-- edges that were appended to the control edges
abbrev pub linked : Links → List Edge → Links
linked links edges = record { control = links.control ++ edges; by_data = links.by_data }

-- an edge between nodes that are counted from the first on
abbrev pub shifted : ℕ → Edge → Edge
shifted first edge = record { from = first + edge.from; to = first + edge.to; by_data = edge.by_data }

-- ---- nodes

-- the number after that of a first node, and of a second one where the statement may end at once
abbrev pub past : ℕ → Bool → ℕ
past first instant = if instant then first + 2 else first + 1

-- a node, and one that reads and writes nothing
abbrev pub node : Place → NodeKind → Mark → List Static → List Static → Flow
node place kind mark reads writes = record { node = record { place = place; kind = kind }; mark = mark; reads = reads; writes = writes }

-- a node that reads and writes nothing
abbrev pub bare : Place → NodeKind → Mark → Flow
bare place kind mark = node place kind mark [] []

-- a node that reads and writes nothing, where the test is true
abbrev pub bare_if : Bool → Place → NodeKind → Mark → List Flow
bare_if test place kind mark = if test then bare place kind mark ∷ [] else []

-- a node that leads on
abbrev pub out : ℕ → Mark → Out
out number mark = record { node = number; mark = mark }

-- a node that leads on, where the test is true
abbrev pub out_if : Bool → ℕ → Mark → List Out
out_if test number mark = if test then out number mark ∷ [] else []

-- the nodes of a list with consecutive numbers, from the first on
abbrev pub numbered : ℕ → List Flow → List Out
numbered n [] = []
numbered n (flow ∷ rest) = record { node = n; mark = flow.mark } ∷ numbered (n + 1) rest

-- ---- parts

-- a part without nodes
abbrev pub nothing : Part
nothing = record { flows = []; outs = []; resumes = [] }

-- two parts beside each other
abbrev pub side_by_side : Part → Part → Part
side_by_side a b = record { flows = a.flows ++ b.flows; outs = a.outs ++ b.outs; resumes = a.resumes ++ b.resumes }

-- whether nothing was made
abbrev pub is_nothing : List Flow → Bool
is_nothing [] = true
is_nothing (flow ∷ rest) = false

-- how what follows a part is entered
abbrev pub exit_of : Part → Mark
exit_of part = if is_nothing part.flows then entered else some_mark part.outs

-- a block, and a statement after it
abbrev pub followed : Part → Part → Part
followed part more = record {
  flows = part.flows ++ map (moved_flow (exit_of part)) more.flows;
  outs = map (moved_out (exit_of part)) more.outs;
  resumes = part.resumes ++ more.resumes;
}

-- the part of an act
abbrev pub act_part : Place → List Static → List Static → ℕ → Part
act_part at reads writes first = record { flows = node at kind.Act entered reads writes ∷ []; outs = out first entered ∷ []; resumes = [] }

-- an `await` and a `run`: the second node goes on
abbrev pub pause_part : Flow → Flow → ℕ → Part
pause_part begins goes_on next = record { flows = begins ∷ goes_on ∷ []; outs = out next resumed ∷ []; resumes = next ∷ [] }

-- a condition of an `if` before its block
abbrev pub choice_part : Place → List Static → Bool → ℕ → Part → Part
choice_part at reads leads_on first body = record {
  flows = node at kind.Test entered reads [] ∷ body.flows;
  outs = body.outs ++ out_if leads_on first entered;
  resumes = body.resumes;
}

-- how the ends of a `when` are reached from its body
abbrev pub ends_by : Guard → Bool → List Out → Mark
ends_by guard empty outs = if empty then begun_by guard else inner (begun_by guard) (some_mark outs)

-- a `when` around its body
abbrev pub guarded_part : Place → Guard → List Static → Bool → Bool → ℕ → ℕ → Part → Part
guarded_part at guard reads empty instant first check body = record {
  flows = bare at kind.Start entered ∷ (bare_if instant at kind.SurfaceEnd (ends_by guard empty body.outs)
      ++ node at kind.Check resumed reads [] ∷ bare at kind.DepthEnd (last_end guard (ends_by guard empty body.outs))
      ∷ map (moved_flow (begun_by guard)) body.flows);
  outs = out_if instant (first + 1) (ends_by guard empty body.outs) ++ out (check + 1) (last_end guard (ends_by guard empty body.outs)) ∷ [];
  resumes = check ∷ [];
}

-- how the body of a loop is entered, and how its end is reached
abbrev pub again_of : Part → Mark
again_of body = again_by (some_mark body.outs)

-- how the test after a loop's body is reached, where the body may be empty
abbrev pub turned : Bool → Part → Mark
turned empty body = record { surface = empty || (some_mark body.outs).surface; depth = (some_mark body.outs).depth }

-- an endless loop, one that tests after its body and one that tests before it
abbrev pub endless_part : Place → Part → Part
endless_part at body = record {
  flows = bare at kind.Head (again_of body) ∷ map (moved_flow (again_of body)) body.flows;
  outs = [];
  resumes = body.resumes;
}

-- a loop that tests after its body
abbrev pub until_part : Place → List Static → Bool → ℕ → Part → Part
until_part at reads empty test body = record {
  flows = bare at kind.Head (again_of body) ∷ node at kind.Test (turned empty body) reads [] ∷ map (moved_flow (again_of body)) body.flows;
  outs = out test (turned empty body) ∷ [];
  resumes = body.resumes;
}

-- a loop that tests before its body
abbrev pub while_part : Place → List Static → ℕ → Part → Part
while_part at reads test body = record {
  flows = node at kind.Test (again_of body) reads [] ∷ map (moved_flow (again_of body)) body.flows;
  outs = out test (again_of body) ∷ [];
  resumes = body.resumes;
}

-- the nodes of a branch from which its `cobegin` may end
abbrev pub leaving_outs : Bool → ℕ → Part → List Out
leaving_outs weak first body = if weak then numbered first body.flows else body.outs

-- a `cobegin` around its branches
abbrev pub cobegin_part : Place → Bool → ℕ → ℕ → Mark → List Flow → List ℕ → Part
cobegin_part at instant first join left flows resumes = record {
  flows = bare at kind.Fork entered ∷ (bare_if instant at kind.SurfaceJoin (join_mark left) ++ bare at kind.DepthJoin left ∷ flows);
  outs = out_if instant (first + 1) (join_mark left) ++ out join left ∷ [];
  resumes = resumes;
}

-- ---- branches

-- the edges of a branch: from the fork to it, and from it to the joins
abbrev pub branch_links : Bool → Bool → ℕ → ℕ → ℕ → List Out → List Edge
branch_links empty instant first join start leave =
    links_from first (into_block empty start (number_if instant (first + 1)))
    ++ ((if instant then surface_links leave (first + 1) else []) ++ depth_links leave join)

-- the branches so far, and one more
abbrev pub joined_branch : Branches → List Out → Part → Branches
joined_branch made leave body = record {
  flows = made.flows ++ body.flows;
  resumes = made.resumes ++ body.resumes;
  left = either made.left (leave_mark leave);
  spans = made.spans ++ record { first = length made.flows; end = length made.flows + length body.flows } ∷ [];
}

-- where an edge of the condition of a `when` leads where that is true
abbrev pub guarded_to : Guard → Bool → ℕ → List ℕ → List ℕ
guarded_to Abort empty check ends = (check + 1) ∷ []
guarded_to Reset empty check ends = into_block empty (check + 2) ends

-- the edges of a `when` but for those in its body, whose first node comes after the condition and the end
abbrev pub guarded_links : Guard → Bool → Bool → ℕ → ℕ → Part → List Edge
guarded_links guard empty instant first check body =
    let ends = number_if instant (first + 1) ++ (check + 1) ∷ [] in
    links_from first (into_block empty (check + 2) ends)
    ++ (links_from check body.resumes ++ (links_from check (guarded_to guard empty check ends) ++ links_all body.outs ends))
