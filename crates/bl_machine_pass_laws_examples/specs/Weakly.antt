-- A weak branch: `cobegin weak repeat a = a + 1 await true end with await c end b = 1 await true`, where c is an input, and a and b are
-- outputs.
use Rattle.std.specs.Prelude.{Bool, false, true, List, [], ◌∷◌, ◌++◌}
use Rattle.bl_tree.specs.declared.scalar.Op.TheVariants.{Add}
use Rattle.bl_tree.specs.declared.tree.Stmt.{Stmt}
use Rattle.bl_graph_nodes.specs.Nodes.{ActAt, DepthJoinAt, ForkAt, HeadAt, Node, PauseAt, TestAt}
use Rattle.bl_graph_nodes.specs.Plain.{Act, Await, Block, Bodies, Body as BodyOf, Cobegin, Done, Label, Last, Plain, Repeat, Then, label_at}
use Rattle.bl_ctree_laws.specs.Steps.{fork, pause}
use Rattle.bl_ctree_laws.specs.Trees.{Par, Seq, Tree, Wait, beside, no_tree}
use Rattle.bl_machine_laws.specs.Numbers.Turns.{AnsweredDeed}
use Rattle.bl_ctree_laws_examples.specs.Trees.Made.{always, at, flag, number, set, two, value}
use Rattle.bl_machine_pass_laws_examples.specs.Worked.{act, asked, still}

-- `a = a + 1`
abbrev pub raises_a : Stmt
raises_a = set 3 1 (two Add (value 1) (number 1))

-- `b = 1`
abbrev pub sets_b : Stmt
sets_b = set 6 2 (number 1)

-- the label of the loop
abbrev pub loop_label : Label
loop_label = label_at (0 ∷ 0 ∷ 0 ∷ [])

-- the label of the act in the loop
abbrev pub raise_label : Label
raise_label = label_at (0 ∷ 0 ∷ 0 ∷ 0 ∷ 0 ∷ [])

-- the label of the pause in the loop
abbrev pub turn_label : Label
turn_label = label_at (0 ∷ 0 ∷ 0 ∷ 0 ∷ 1 ∷ [])

-- the label of the `await` of the strong branch
abbrev pub strong_label : Label
strong_label = label_at (0 ∷ 1 ∷ 0 ∷ [])

-- the label of the last pause
abbrev pub last_label : Label
last_label = label_at (2 ∷ [])

-- the loop
abbrev pub loop : Plain
loop = Repeat loop_label (at 2) (Then (Act raise_label raises_a) (Then (Await turn_label (at 4) always) Done))

-- the branches
abbrev pub branches : Bodies
branches = BodyOf true (Then loop Done) (BodyOf false (Then (Await strong_label (at 5) (flag 0)) Done) Last)

-- what follows the branches
abbrev pub rest : Block
rest = Then (Act (label_at (1 ∷ [])) sets_b) (Then (Await last_label (at 7) always) Done)

-- the body
abbrev pub body : Block
body = Then (Cobegin (label_at (0 ∷ [])) (at 1) branches) rest

-- the two branches between ticks; the argument says whether they stood when the last tick began
abbrev pub paused : Bool → Tree
paused stood =
    Seq (Par (fork (label_at (0 ∷ [])) (at 1) branches) stood
    (beside true (Seq (Wait (pause turn_label (at 4) always)) (Then loop Done)) (beside false (Wait (pause strong_label (at 5) (flag 0))) no_tree))) rest

-- the tree after a tick in which c is true
abbrev pub over : Tree
over = Wait (pause last_label (at 7) always)

-- the nodes in an order
abbrev pub order : List Node
order =
    ForkAt (label_at (0 ∷ [])) (at 1) ∷ TestAt turn_label (at 4) always ∷ HeadAt loop_label (at 2) ∷ ActAt raise_label raises_a
    ∷ PauseAt turn_label (at 4) ∷ PauseAt strong_label (at 5) ∷ TestAt strong_label (at 5) (flag 0)
    ∷ DepthJoinAt (label_at (0 ∷ [])) (at 1) ∷ TestAt last_label (at 7) always ∷ ActAt (label_at (1 ∷ [])) sets_b ∷ PauseAt last_label (at 7) ∷ []

-- a turn of the loop
abbrev pub loop_turn : List AnsweredDeed
loop_turn = still 0 2 ++ (act 0 raises_a ++ still 0 4)

-- the first tick
abbrev pub first_tick : List AnsweredDeed
first_tick = still 0 1 ++ (loop_turn ++ still 0 5)

-- a tick in which c is false
abbrev pub later_tick : List AnsweredDeed
later_tick = asked 0 4 always true ++ (loop_turn ++ asked 0 5 (flag 0) false)

-- a tick in which c is true: the weak branch has its turn before it is dropped
abbrev pub ends : List AnsweredDeed
ends = asked 0 4 always true ++ (loop_turn ++ (asked 0 5 (flag 0) true ++ (still 0 1 ++ (act 0 sets_b ++ still 0 7))))
