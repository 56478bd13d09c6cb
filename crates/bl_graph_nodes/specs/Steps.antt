-- The labels of steps: which node acts in a step of a tick, through all calls from the entry's body down.
use Rattle.std.specs.Prelude.{ℕ, Bool, true, false, [], ◌∷◌}
use Rattle.bl_tree.specs.declared.place.Place.{Place}
use Rattle.bl_graph_nodes.specs.Nodes.{Arguments, DepthEndAt, DepthJoinAt, EnterAt, Node, ResumeAt, SurfaceEndAt, SurfaceJoinAt}
use Rattle.bl_graph_nodes.specs.Plain.{Label}

-- ---- the node of what ends or goes on, by whether it stood when the tick began

-- the end of a `cobegin`
abbrev pub join_node : Bool → Label → Place → Node
join_node true l at = DepthJoinAt l at
join_node false l at = SurfaceJoinAt l at

-- the end of a `when`
abbrev pub end_node : Bool → Label → Place → Node
end_node true l at = DepthEndAt l at
end_node false l at = SurfaceEndAt l at

-- the node of a `run`: its resume node where it stood when the tick began, else its entry node
abbrev pub run_node : Bool → Label → Place → Arguments → Node
run_node true l at arguments = ResumeAt l at arguments
run_node false l at arguments = EnterAt l at arguments

-- ---- labels

-- what tells a step from the others of its tick
pub data StepLabel : Type 0 where
  -- the node acts; of a `run` it takes its inputs
  Here : Node → StepLabel
  -- the `run` with this node ends, which is a second step of the node
  Gives : Node → StepLabel
  -- a step of the activity with this number, which is called by the `run` with this node
  Inside : Node → ℕ → StepLabel → StepLabel

-- the outermost node of a step's label
abbrev pub head_of : StepLabel → Node
head_of (Here n) = n
head_of (Gives n) = n
head_of (Inside n unit step) = n

-- the node of a step's label that acts
abbrev pub leaf_of : StepLabel → Node
leaf_of (Here n) = n
leaf_of (Gives n) = n
leaf_of (Inside n unit step) = leaf_of step
