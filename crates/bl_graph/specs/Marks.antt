-- Which nodes of a block are in its surface and which in its depth, found in one pass from the innermost statements outwards.
use Rattle.std.specs.Prelude.{Bool, true, false, not, ◌&&◌, ◌||◌, List, [], ◌∷◌, ◌++◌, if◌then◌else◌}
use Rattle.bl_tree.specs.declared.tree.Guard.{Guard}
use Rattle.bl_tree.specs.declared.tree.Guard.TheVariants.{Abort, Reset}
use Rattle.bl_graph_nodes.specs.Nodes.{ActAt, CheckAt, DepthEndAt, DepthJoinAt, EnterAt, ForkAt, HeadAt, Node, PauseAt, ResumeAt, StartAt, SurfaceEndAt}
use Rattle.bl_graph_nodes.specs.Nodes.{SurfaceJoinAt, TestAt, are_instant, arguments_of, is_instant}
use Rattle.bl_graph_nodes.specs.Plain.{Act, Again, Await, Block, Bodies, Body, Cobegin, Done, If, Last, Plain, Repeat, Run, Then, Until, When, While, is_empty}
-- a mark tells whether a node is reached from where a part begins, and whether from where it goes on in a later tick
pub use Rattle.bl_graph.specs.declared.flow.Mark.{Mark}

-- the mark of a node that is reached only from where the part begins
abbrev pub entered : Mark
entered = record { surface = true; depth = false }

-- the mark of a node that is reached only from where the part goes on in a later tick
abbrev pub resumed : Mark
resumed = record { surface = false; depth = true }

-- the mark of a node that isn't reached
abbrev pub unreached : Mark
unreached = record { surface = false; depth = false }

-- the ways in which a node is reached by either of two marks
abbrev pub either : Mark → Mark → Mark
either a b = record { surface = a.surface || b.surface; depth = a.depth || b.depth }

-- the mark of a node in what is around a part whose entry has a mark there
abbrev pub inner : Mark → Mark → Mark
inner entry mark = record { surface = entry.surface && mark.surface; depth = mark.depth || (entry.depth && mark.surface) }

-- where a node may leave a branch: from the branch's surface for the depth join where it is in the depth too
abbrev pub leaving : Mark → Mark
leaving mark = record { surface = mark.surface && mark.depth; depth = mark.depth }

-- ---- marked nodes

-- a node with its mark in the part that is looked at
pub record Marked : Type 0 where
  pub node : Node
  pub mark : Mark

-- the node with this mark
abbrev pub marked : Mark → Node → Marked
marked mark node = record { node = node; mark = mark }

-- the nodes of a part in what is around it
abbrev pub moved : Mark → List Marked → List Marked
moved entry [] = []
moved entry (m ∷ rest) = record { node = m.node; mark = inner entry m.mark } ∷ moved entry rest

-- the ways in which some node of a list is reached
abbrev pub some_of : List Marked → Mark
some_of [] = unreached
some_of (m ∷ rest) = either m.mark (some_of rest)

-- the ways in which some node of a list leaves its branch
abbrev pub leaves : List Marked → Mark
leaves [] = unreached
leaves (m ∷ rest) = either (leaving m.mark) (leaves rest)

-- a marked node, where the test is true
abbrev pub where_marked : Bool → Marked → List Marked
where_marked test m = if test then m ∷ [] else []

-- ---- parts

-- the nodes of a statement or a block, in their order, and those that lead on
pub record GraphPart : Type 0 where
  pub nodes : List Marked
  pub outs : List Marked

-- the nodes of branches, and how the depth join is reached from them
pub record BranchParts : Type 0 where
  pub nodes : List Marked
  pub left : Mark

-- how the body of a `when` is entered: a reset begins it anew in a later tick
abbrev pub begun_by : Guard → Mark
begun_by Abort = entered
begun_by Reset = record { surface = true; depth = true }

-- whether a guard is a reset
abbrev pub resets : Guard → Bool
resets Abort = false
resets Reset = true

-- how the body of a loop is entered: it is begun anew in a later tick where its end is reached there
abbrev pub again_by : Mark → Mark
again_by ends = record { surface = true; depth = ends.depth }

-- how the end of a turn is reached
abbrev pub turn_ends : Block → Mark → Mark
turn_ends body ends = record { surface = is_empty body || ends.surface; depth = ends.depth }

-- how the ends of a `when` are reached from its body
abbrev pub body_ends : Guard → Block → List Marked → Mark
body_ends guard body outs = if is_empty body then begun_by guard else some_of (moved (begun_by guard) outs)

-- how its depth end is reached: in a later tick an abort leads there too
abbrev pub last_end : Guard → Mark → Mark
last_end guard ends = record { surface = ends.surface; depth = ends.depth || not (resets guard) }

-- how the surface join is reached, where there is one
abbrev pub join_mark : Mark → Mark
join_mark left = record { surface = true; depth = left.surface }

abbrev mutual
  -- the nodes of a statement with their marks in it, and those that lead on
  pub part_of : Plain → GraphPart
  part_of (Act l s) = record { nodes = marked entered (ActAt l s) ∷ []; outs = marked entered (ActAt l s) ∷ [] }
  part_of (Await l at e) = record {
    nodes = marked entered (PauseAt l at) ∷ marked resumed (TestAt l at e) ∷ [];
    outs = marked resumed (TestAt l at e) ∷ [];
  }
  part_of (Run l at target a inputs outputs) = record {
    nodes = marked entered (EnterAt l at (arguments_of target inputs outputs)) ∷ marked resumed (ResumeAt l at (arguments_of target inputs outputs)) ∷ [];
    outs = marked resumed (ResumeAt l at (arguments_of target inputs outputs)) ∷ [];
  }
  part_of (If l at e body other) = record {
    nodes = marked entered (TestAt l at e) ∷ ((part_in body).nodes ++ (part_in other).nodes);
    outs = (part_in body).outs ++ (where_marked (is_empty body || is_empty other) (marked entered (TestAt l at e)) ++ (part_in other).outs);
  }
  part_of (Cobegin l at bodies) = record {
    nodes = marked entered (ForkAt l at) ∷ (where_marked (is_instant (Cobegin l at bodies)) (marked (join_mark (parts_of bodies).left) (SurfaceJoinAt l at))
        ++ marked (parts_of bodies).left (DepthJoinAt l at) ∷ (parts_of bodies).nodes);
    outs = where_marked (is_instant (Cobegin l at bodies)) (marked (join_mark (parts_of bodies).left) (SurfaceJoinAt l at))
        ++ marked (parts_of bodies).left (DepthJoinAt l at) ∷ [];
  }
  part_of (When l at guard e body) = record {
    nodes = marked entered (StartAt l at) ∷ (where_marked (are_instant body) (marked (body_ends guard body (part_in body).outs) (SurfaceEndAt l at))
        ++ marked resumed (CheckAt l at e) ∷ marked (last_end guard (body_ends guard body (part_in body).outs)) (DepthEndAt l at)
        ∷ moved (begun_by guard) (part_in body).nodes);
    outs = where_marked (are_instant body) (marked (body_ends guard body (part_in body).outs) (SurfaceEndAt l at))
        ++ marked (last_end guard (body_ends guard body (part_in body).outs)) (DepthEndAt l at) ∷ [];
  }
  part_of (Repeat l at body) = record {
    nodes = marked (again_by (some_of (part_in body).outs)) (HeadAt l at) ∷ moved (again_by (some_of (part_in body).outs)) (part_in body).nodes;
    outs = [];
  }
  part_of (Until l at body e) = record {
    nodes = marked (again_by (some_of (part_in body).outs)) (HeadAt l at) ∷ marked (turn_ends body (some_of (part_in body).outs)) (TestAt l at e)
        ∷ moved (again_by (some_of (part_in body).outs)) (part_in body).nodes;
    outs = marked (turn_ends body (some_of (part_in body).outs)) (TestAt l at e) ∷ [];
  }
  part_of (While l at e body) = record {
    nodes = marked (again_by (some_of (part_in body).outs)) (TestAt l at e) ∷ moved (again_by (some_of (part_in body).outs)) (part_in body).nodes;
    outs = marked (again_by (some_of (part_in body).outs)) (TestAt l at e) ∷ [];
  }
  part_of (Again l at body e) = record {
    nodes = marked (again_by (some_of (part_in body).outs)) (HeadAt l at) ∷ marked (again_by (some_of (part_in body).outs)) (TestAt l at e)
        ∷ moved (again_by (some_of (part_in body).outs)) (part_in body).nodes;
    outs = marked (again_by (some_of (part_in body).outs)) (TestAt l at e) ∷ [];
  }

  -- the marked nodes of a block: what follows a statement is reached as some node that leads on from it
  pub part_in : Block → GraphPart
  part_in Done = record { nodes = []; outs = [] }
  part_in (Then s rest) = record {
    nodes = (part_of s).nodes ++ moved (some_of (part_of s).outs) (part_in rest).nodes;
    outs = if is_empty rest then (part_of s).outs else moved (some_of (part_of s).outs) (part_in rest).outs;
  }

  -- the nodes of branches, each marked in its own branch; a weak branch may be left at any node
  pub parts_of : Bodies → BranchParts
  parts_of Last = record { nodes = []; left = unreached }
  parts_of (Body weak body rest) = record {
    nodes = (part_in body).nodes ++ (parts_of rest).nodes;
    left = either (leaves (if weak then (part_in body).nodes else (part_in body).outs)) (parts_of rest).left;
  }
