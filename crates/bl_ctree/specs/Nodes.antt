-- The control trees of the code as plain trees. The meaning of a program doesn't speak of them.
use Rattle.std.specs.Prelude.{Bool, List, [], ◌∷◌, ◌++◌, drop}
use Rattle.bl_ctree.specs.declared.node.Arms.{Arms}
use Rattle.bl_ctree.specs.declared.node.At.{At}
use Rattle.bl_ctree.specs.declared.node.Branch.{Branch as BranchNode, fold-Branch}
use Rattle.bl_ctree.specs.declared.node.Node.{Node, fold-Node}
use Rattle.bl_ctree.specs.declared.node.Node.TheOpen.{Node-F, Branch-F}
use Rattle.bl_ctree.specs.declared.node.Phase.{Phase as PhaseNode}
use Rattle.bl_ctree.specs.declared.node.Phase.TheVariants.{Check as AtCheck, Body as AtBody}
use Rattle.bl_ctree.specs.declared.node.Rest.{Rest}
use Rattle.bl_ctree.specs.declared.node.Then.{Then}
use Rattle.bl_ctree.specs.declared.node.Then.TheVariants.{Nothing, Loop, Until}
use Rattle.bl_ctree.specs.Control.{Control, Branches, Nil, Wait, Test, Idle, Do, Turn, Seq, Par, Guard, Run, no_branch, branch, Phase, Check, Body}
use Rattle.bl_ctree.specs.Positions.{Item, Begin, Again, Located, items_from, left_of_if}

-- the statement of a node at its position, of which no arm is passed
abbrev pub located : At → Located
located at = record { position = at.position; passed = 0; stmt = at.stmt.now }

-- what follows the last statement of a block: nothing, the loop again, or its test
abbrev pub items_then : Then → List Item
items_then Nothing = []
items_then (Loop at) = Begin (located at) ∷ []
items_then (Until at) = Again (located at) ∷ []

-- the items that are left
abbrev pub items_of : Rest → List Item
items_of rest = items_from rest.block rest.next (drop rest.next rest.body.now) ++ items_then rest.then

-- the residual `if` of its remaining arms
abbrev pub left_of_arms : Arms → Located
left_of_arms a = left_of_if a.position a.passed a.arm.now a.arms.now a.other.now

-- the phase of a Guard or a Run
abbrev pub phase_of : PhaseNode → Phase
phase_of AtCheck = Check
phase_of AtBody = Body

-- a branch: whether it is weak, and its tree
pub record Seen : Type 0 where
  pub weak : Bool
  pub tree : Control

-- a list of branches as branches of a control tree, in order
abbrev pub branches_of : List Seen → Branches
branches_of [] = no_branch
branches_of (b ∷ rest) = branch b.weak b.tree (branches_of rest)

-- the plain tree of a node, where those of its parts are given
abbrev pub node_control : Node-F Control Seen → Control
node_control (Node-F.Nil) = Nil
node_control (Node-F.Wait at) = Wait (located at)
node_control (Node-F.Test at) = Test (located at)
node_control (Node-F.Idle rest) = Idle (items_of rest)
node_control (Node-F.Do at) = Do (located at)
node_control (Node-F.Further arms) = Do (left_of_arms arms)
node_control (Node-F.Turn at) = Turn (located at)
node_control (Node-F.Seq inner rest) = Seq inner (items_of rest)
node_control (Node-F.Par at stood branches) = Par (located at) stood (branches_of branches)
node_control (Node-F.Guard at phase stood inner) = Guard (located at) (phase_of phase) stood inner
node_control (Node-F.Run at callee phase stood inner) = Run (located at) callee (phase_of phase) stood inner

-- a branch, where its plain tree is given
abbrev pub branch_seen : Branch-F Control Seen → Seen
branch_seen b = record { weak = b.weak; tree = b.tree }

-- the control tree of a node
abbrev pub control_of : Node → Control
control_of = fold-Node Control Seen node_control branch_seen

-- a branch with its plain tree
abbrev pub seen_of : BranchNode → Seen
seen_of = fold-Branch Control Seen node_control branch_seen
