-- What is left of the two branches that need each other, on the way through a tick.
use Rattle.std.specs.Prelude.{ℕ, [], ◌∷◌, false, None}
use Rattle.bl_graph_nodes.specs.Nodes.{ActAt, PauseAt}
use Rattle.bl_graph_nodes.specs.Plain.{Act, Await, Block, Done, Label, Then, label_at}
use Rattle.bl_graph_nodes.specs.Steps.{Here, StepLabel}
use Rattle.bl_tree.specs.declared.tree.Stmt.{Stmt, out-Stmt}
use Rattle.bl_ctree.specs.Actions.{Acts, Silent}
use Rattle.bl_ctree.specs.Instances.{Setting}
use Rattle.bl_ctree_laws.specs.Pending.{Deed, deed}
use Rattle.bl_ctree_laws.specs.Steps.{fork, pause}
use Rattle.bl_ctree_laws.specs.Trees.{Do, Par, Seq, Tree, Wait, beside, no_tree}
use Rattle.bl_ctree_laws_examples.specs.Trees.Made.{always, at}
use Rattle.bl_ctree_laws_examples.specs.Trees.TwoWay.{activity, branches, label_inside, left_loop, left_position, right_loop, right_position, sets_o, sets_x}
use Rattle.bl_ctree_laws_examples.specs.Trees.TwoWay.{sets_y}

-- the program, whose entry is its one instance
abbrev pub program : Setting
program = record { structs = []; units = activity ∷ []; instances = record { unit = 0; depth = 0; origin = None } ∷ [] }

-- what is left of the first branch where its pause is next, and then its loop
abbrev pub left_pause : Block
left_pause = Then (Await (label_inside left_position 2) (at 3) always) (Then left_loop Done)

-- the first branch where `x = i + 1` is next
abbrev pub before_x : Tree
before_x = Seq (Do (Act (label_inside left_position 0) sets_x)) (Then (Act (label_inside left_position 1) sets_o) left_pause)

-- the tree of the first loop where `o = y` is next
abbrev pub before_o : Tree
before_o = Seq (Do (Act (label_inside left_position 1) sets_o)) left_pause

-- the tree of the first loop where its pause is next
abbrev pub left_done : Tree
left_done = Seq (Do (Await (label_inside left_position 2) (at 3) always)) (Then left_loop Done)

-- the tree of the first loop where it pauses
abbrev pub left_paused : Tree
left_paused = Seq (Wait (pause (label_inside left_position 2) (at 3) always)) (Then left_loop Done)

-- what is left of the second branch where its pause is next
abbrev pub right_pause : Block
right_pause = Then (Await (label_inside right_position 1) (at 5) always) (Then right_loop Done)

-- the second branch where `y = x * 2` is next
abbrev pub before_y : Tree
before_y = Seq (Do (Act (label_inside right_position 0) sets_y)) right_pause

-- the tree of the second loop where its pause is next
abbrev pub right_done : Tree
right_done = Seq (Do (Await (label_inside right_position 1) (at 5) always)) (Then right_loop Done)

-- the tree of the second loop where it pauses
abbrev pub right_paused : Tree
right_paused = Seq (Wait (pause (label_inside right_position 1) (at 5) always)) (Then right_loop Done)

-- the two branches
abbrev pub both : Tree → Tree → Tree
both one other = Par (fork (label_at (2 ∷ [])) (at 9) branches) false (beside false one (beside false other no_tree))

-- `x = i + 1` is done
abbrev pub x_is_set : Deed
x_is_set = deed 0 (out-Stmt sets_x).place (Acts sets_x)

-- `o = y` is
abbrev pub o_is_set : Deed
o_is_set = deed 0 (out-Stmt sets_o).place (Acts sets_o)

-- `y = x * 2` is
abbrev pub y_is_set : Deed
y_is_set = deed 0 (out-Stmt sets_y).place (Acts sets_y)

-- a pause is reached
abbrev pub reaches_pause : ℕ → Deed
reaches_pause place = deed 0 (at place) Silent

-- the label of that step
abbrev pub pausing : Label → ℕ → StepLabel
pausing l place = Here (PauseAt l (at place))

-- the label of the step in which the statement with the number in the body of a loop acts
abbrev pub acting : Label → Stmt → StepLabel
acting l s = Here (ActAt l s)
