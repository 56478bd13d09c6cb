-- The nodes of the tick graph: what of a plain statement acts by itself. A node has its label and its statement's text, so
-- what it reads and writes is told by the node alone (docs/LANGUAGE.md, "Tick graphs").
use Rattle.std.specs.Prelude.{Bool, true, false, not, ◌&&◌, ◌||◌, List, [], ◌∷◌, ◌++◌, map, Option, if◌then◌else◌}
use Rattle.bl_tree.specs.declared.graph.NodeKind.{NodeKind}
use Rattle.bl_tree.specs.declared.graph.NodeKind.TheVariants as kind
use Rattle.bl_tree.specs.declared.place.Place.{Place}
use Rattle.bl_tree.specs.declared.static_path.Static.{Static}
use Rattle.bl_tree.specs.declared.tree.Expr.{Expr}
use Rattle.bl_tree.specs.declared.tree.Path.{Path}
use Rattle.bl_tree.specs.declared.tree.Stmt.{Stmt, out-Stmt}
use Rattle.bl_tree.specs.Effects.{argument_mentions, reads, target_mentions, target_static, writes}
use Rattle.bl_tree.specs.Static.{mentions, set_of, static_of}
use Rattle.bl_graph_nodes.specs.Plain.{Block, Bodies, Label, Plain, Act, Again, Await, Body, Cobegin, Done, If, Last, Repeat, Run, Then, Until, When, While}

-- the arguments of a `run`: its target, its inputs and its outputs
pub record Arguments : Type 0 where
  pub target : Option Path
  pub inputs : List Expr
  pub outputs : List Path

-- a node of a body: where something of a statement is done, with the statement's label and place
pub data Node : Type 0 where
  ActAt : Label → Stmt → Node
  -- a condition: of an `if` or an `elseif`, of an `await` that was woken, of a loop
  TestAt : Label → Place → Expr → Node
  PauseAt : Label → Place → Node
  -- a `run` that begins, and one that goes on or ends
  EnterAt : Label → Place → Arguments → Node
  ResumeAt : Label → Place → Arguments → Node
  HeadAt : Label → Place → Node
  -- the nodes of a `when`: its begin, its check in a later tick, and its ends in the first and in a later tick
  StartAt : Label → Place → Node
  CheckAt : Label → Place → Expr → Node
  SurfaceEndAt : Label → Place → Node
  DepthEndAt : Label → Place → Node
  -- a `cobegin`: where it begins, and its ends in the tick in which it began and in a later one
  ForkAt : Label → Place → Node
  SurfaceJoinAt : Label → Place → Node
  DepthJoinAt : Label → Place → Node

-- ---- what a node shows

-- the label of the statement that the node belongs to
abbrev pub label_of : Node → Label
label_of (ActAt l s) = l
label_of (TestAt l at e) = l
label_of (PauseAt l at) = l
label_of (EnterAt l at arguments) = l
label_of (ResumeAt l at arguments) = l
label_of (HeadAt l at) = l
label_of (StartAt l at) = l
label_of (CheckAt l at e) = l
label_of (SurfaceEndAt l at) = l
label_of (DepthEndAt l at) = l
label_of (ForkAt l at) = l
label_of (SurfaceJoinAt l at) = l
label_of (DepthJoinAt l at) = l

-- the place in the source that the node has
abbrev pub place_of_node : Node → Place
place_of_node (ActAt l s) = (out-Stmt s).place
place_of_node (TestAt l at e) = at
place_of_node (PauseAt l at) = at
place_of_node (EnterAt l at arguments) = at
place_of_node (ResumeAt l at arguments) = at
place_of_node (HeadAt l at) = at
place_of_node (StartAt l at) = at
place_of_node (CheckAt l at e) = at
place_of_node (SurfaceEndAt l at) = at
place_of_node (DepthEndAt l at) = at
place_of_node (ForkAt l at) = at
place_of_node (SurfaceJoinAt l at) = at
place_of_node (DepthJoinAt l at) = at

-- the kind of a node
abbrev pub kind_of_node : Node → NodeKind
kind_of_node (ActAt l s) = kind.Act
kind_of_node (TestAt l at e) = kind.Test
kind_of_node (PauseAt l at) = kind.Pause
kind_of_node (EnterAt l at arguments) = kind.Start
kind_of_node (ResumeAt l at arguments) = kind.Resume
kind_of_node (HeadAt l at) = kind.Head
kind_of_node (StartAt l at) = kind.Start
kind_of_node (CheckAt l at e) = kind.Check
kind_of_node (SurfaceEndAt l at) = kind.SurfaceEnd
kind_of_node (DepthEndAt l at) = kind.DepthEnd
kind_of_node (ForkAt l at) = kind.Fork
kind_of_node (SurfaceJoinAt l at) = kind.SurfaceJoin
kind_of_node (DepthJoinAt l at) = kind.DepthJoin

-- the static paths that a node reads, such as those of its condition, and of a `run`'s inputs, outputs and, at its end, target indices
abbrev pub node_reads : Node → List Static
node_reads (ActAt l s) = reads s
node_reads (TestAt l at e) = set_of (mentions e)
node_reads (CheckAt l at e) = set_of (mentions e)
node_reads (EnterAt l at arguments) = set_of (argument_mentions arguments.inputs arguments.outputs)
node_reads (ResumeAt l at arguments) = set_of (target_mentions arguments.target ++ argument_mentions arguments.inputs arguments.outputs)
node_reads _ = []

-- what a node writes: an act what its statement does, both nodes of a `run` its outputs, and where it ends its target too
abbrev pub node_writes : Node → List Static
node_writes (ActAt l s) = writes s
node_writes (EnterAt l at arguments) = set_of (map static_of arguments.outputs)
node_writes (ResumeAt l at arguments) = set_of (target_static arguments.target ++ map static_of arguments.outputs)
node_writes _ = []

-- ---- the nodes of plain statements

-- the arguments of a `run` with this target, these inputs and these outputs
abbrev pub arguments_of : Option Path → List Expr → List Path → Arguments
arguments_of target inputs outputs = record { target = target; inputs = inputs; outputs = outputs }

-- the node at which a statement begins
abbrev pub entry : Plain → Node
entry (Act l s) = ActAt l s
entry (Await l at e) = PauseAt l at
entry (Run l at target a inputs outputs) = EnterAt l at (arguments_of target inputs outputs)
entry (If l at e body other) = TestAt l at e
entry (Cobegin l at bodies) = ForkAt l at
entry (When l at guard e body) = StartAt l at
entry (Repeat l at body) = HeadAt l at
entry (Until l at body e) = HeadAt l at
entry (While l at e body) = TestAt l at e
entry (Again l at body e) = TestAt l at e

-- whether one of the branches is strong
abbrev pub some_strong : Bodies → Bool
some_strong Last = false
some_strong (Body weak body rest) = not weak || some_strong rest

abbrev mutual
  -- whether a statement may end in the tick in which it begins; the test after a turn may
  pub is_instant : Plain → Bool
  is_instant (Act l s) = true
  is_instant (Await l at e) = false
  is_instant (Run l at target a inputs outputs) = false
  is_instant (If l at e body other) = are_instant body || are_instant other
  is_instant (Cobegin l at bodies) = if some_strong bodies then strong_instant bodies else some_instant bodies
  is_instant (When l at guard e body) = are_instant body
  is_instant (Repeat l at body) = false
  is_instant (Until l at body e) = are_instant body
  is_instant (While l at e body) = true
  is_instant (Again l at body e) = true

  -- whether a block may: each of its statements may
  pub are_instant : Block → Bool
  are_instant Done = true
  are_instant (Then s rest) = is_instant s && are_instant rest

  -- whether all strong branches may
  pub strong_instant : Bodies → Bool
  strong_instant Last = true
  strong_instant (Body weak body rest) = (weak || are_instant body) && strong_instant rest

  -- whether some branch may end in the tick in which it begins
  pub some_instant : Bodies → Bool
  some_instant Last = false
  some_instant (Body weak body rest) = are_instant body || some_instant rest

-- the node, where the test is true
abbrev pub where_so : Bool → Node → List Node
where_so test node = if test then node ∷ [] else []

abbrev mutual
  -- the nodes of a statement and of all that stands in it; a surface end or join exists only where it may end at once
  pub nodes_of : Plain → List Node
  nodes_of (Act l s) = ActAt l s ∷ []
  nodes_of (Await l at e) = PauseAt l at ∷ TestAt l at e ∷ []
  nodes_of (Run l at target a inputs outputs) = EnterAt l at (arguments_of target inputs outputs) ∷ ResumeAt l at (arguments_of target inputs outputs) ∷ []
  nodes_of (If l at e body other) = TestAt l at e ∷ (nodes_in body ++ nodes_in other)
  nodes_of (Cobegin l at bodies) = ForkAt l at ∷ (where_so (is_instant (Cobegin l at bodies)) (SurfaceJoinAt l at)
      ++ DepthJoinAt l at ∷ nodes_in_each bodies)
  nodes_of (When l at guard e body) =
      StartAt l at ∷ (where_so (are_instant body) (SurfaceEndAt l at) ++ CheckAt l at e ∷ DepthEndAt l at ∷ nodes_in body)
  nodes_of (Repeat l at body) = HeadAt l at ∷ nodes_in body
  nodes_of (Until l at body e) = HeadAt l at ∷ TestAt l at e ∷ nodes_in body
  nodes_of (While l at e body) = TestAt l at e ∷ nodes_in body
  nodes_of (Again l at body e) = HeadAt l at ∷ TestAt l at e ∷ nodes_in body

  -- the nodes of a block
  pub nodes_in : Block → List Node
  nodes_in Done = []
  nodes_in (Then s rest) = nodes_of s ++ nodes_in rest

  -- the nodes of branches
  pub nodes_in_each : Bodies → List Node
  nodes_in_each Last = []
  nodes_in_each (Body weak body rest) = nodes_in body ++ nodes_in_each rest
