-- An activity that runs two others, as `bl_ctree_laws_examples` has it (`specs/Calls.antt` there): the plain statements of each, what is left of
-- them between ticks, and what is done in a tick.
use Rattle.std.specs.Prelude.{false, true, List, [], ◌∷◌, ◌++◌, None}
use Rattle.bl_tree.specs.declared.scalar.Op.TheVariants.{Add}
use Rattle.bl_tree.specs.declared.tree.Stmt.{Stmt}
use Rattle.bl_tree.specs.declared.tree.StmtKind.TheOpen.{StmtKind-F}
use Rattle.bl_graph_nodes.specs.Nodes.{ActAt, Arguments, DepthJoinAt, EnterAt, ForkAt, HeadAt, Node, PauseAt, ResumeAt, TestAt, arguments_of}
use Rattle.bl_graph_nodes.specs.Plain.{Act, Await, Block, Bodies, Body as BodyOf, Cobegin, Done, Label, Last, Plain, Repeat, Run as RunOf, Then, label_at}
use Rattle.bl_ctree.specs.Actions.{Copies, Gives}
use Rattle.bl_ctree.specs.Control.{Body}
use Rattle.bl_ctree.specs.Instances.{Setting}
use Rattle.bl_ctree_laws.specs.Pending.{deed}
use Rattle.bl_ctree_laws.specs.Steps.{call, fork, pause}
use Rattle.bl_ctree_laws.specs.Trees.{Par, Run, Seq, Tree, Wait, beside, no_tree}
use Rattle.bl_machine_laws.specs.Numbers.Turns.{AnsweredDeed, did}
use Rattle.bl_ctree_laws_examples.specs.Trees.Calls.{instances, units}
use Rattle.bl_ctree_laws_examples.specs.Trees.Made.{always, at, number, set, stmt, two, value, variable}
use Rattle.bl_machine_pass_laws_examples.specs.Worked.{act, asked, still}

-- the program
abbrev pub program : Setting
program = record { structs = []; units = units; instances = instances }

-- ---- the called activities

-- `x = i`, in A
abbrev pub sets_x : Stmt
sets_x = set 1 1 (value 0)

-- `x = x + 10`
abbrev pub raises_x : Stmt
raises_x = set 3 1 (two Add (value 1) (number 10))

-- `o = o + x`, in B
abbrev pub adds_x : Stmt
adds_x = set 4 1 (two Add (value 1) (value 0))

-- `o = o + 100`
abbrev pub raises_o : Stmt
raises_o = set 6 1 (two Add (value 1) (number 100))

-- the last act of a called activity
abbrev pub last : Stmt → Block
last s = Then (Act (label_at (2 ∷ [])) s) Done

-- the body of A
abbrev pub first_body : Block
first_body = Then (Act (label_at (0 ∷ [])) sets_x) (Then (Await (label_at (1 ∷ [])) (at 2) always) (last raises_x))

-- the body of B
abbrev pub second_body : Block
second_body = Then (Act (label_at (0 ∷ [])) adds_x) (Then (Await (label_at (1 ∷ [])) (at 5) always) (last raises_o))

-- what is left of A between ticks
abbrev pub first_paused : Tree
first_paused = Seq (Wait (pause (label_at (1 ∷ [])) (at 2) always)) (last raises_x)

-- what is left of B between ticks
abbrev pub second_paused : Tree
second_paused = Seq (Wait (pause (label_at (1 ∷ [])) (at 5) always)) (last raises_o)

-- ---- the caller

-- `var x: int32`
abbrev pub declares_x : Stmt
declares_x = stmt 10 (StmtKind-F.Declare 2 None)

-- the label of the loop
abbrev pub loop_label : Label
loop_label = label_at (1 ∷ [])

-- the label of the `cobegin` in the loop
abbrev pub fork_label : Label
fork_label = label_at (1 ∷ 0 ∷ 0 ∷ [])

-- the label of the call of A
abbrev pub first_label : Label
first_label = label_at (1 ∷ 0 ∷ 0 ∷ 0 ∷ 0 ∷ [])

-- the label of the call of B
abbrev pub second_label : Label
second_label = label_at (1 ∷ 0 ∷ 0 ∷ 1 ∷ 0 ∷ [])

-- the branches
abbrev pub branches : Bodies
branches =
    BodyOf false (Then (RunOf first_label (at 8) None 0 (value 0 ∷ []) (variable 2 ∷ [])) Done)
    (BodyOf false (Then (RunOf second_label (at 9) None 1 (value 2 ∷ []) (variable 1 ∷ [])) Done) Last)

-- the loop
abbrev pub loop : Plain
loop = Repeat loop_label (at 11) (Then (Cobegin fork_label (at 7) branches) Done)

-- the body
abbrev pub body : Block
body = Then (Act (label_at (0 ∷ [])) declares_x) (Then loop Done)

-- between ticks: both called activities have begun in the last tick
abbrev pub paused : Tree
paused =
    Seq (Par (fork fork_label (at 7) branches) false
    (beside false (Run (call first_label (at 8) None 0 (value 0 ∷ []) (variable 2 ∷ [])) 1 Body false first_paused)
    (beside false (Run (call second_label (at 9) None 1 (value 2 ∷ []) (variable 1 ∷ [])) 2 Body false second_paused) no_tree))) (Then loop Done)

-- ---- ticks

-- the arguments of the call of A
abbrev pub first_arguments : Arguments
first_arguments = arguments_of None (value 0 ∷ []) (variable 2 ∷ [])

-- the arguments of the call of B
abbrev pub second_arguments : Arguments
second_arguments = arguments_of None (value 2 ∷ []) (variable 1 ∷ [])

-- the nodes of the caller in an order
abbrev pub caller_order : List Node
caller_order =
    ActAt (label_at (0 ∷ [])) declares_x ∷ ResumeAt first_label (at 8) first_arguments ∷ ResumeAt second_label (at 9) second_arguments
    ∷ DepthJoinAt fork_label (at 7) ∷ HeadAt loop_label (at 11) ∷ ForkAt fork_label (at 7)
    ∷ EnterAt first_label (at 8) first_arguments ∷ EnterAt second_label (at 9) second_arguments ∷ []

-- the nodes of A in an order
abbrev pub first_order : List Node
first_order =
    ActAt (label_at (0 ∷ [])) sets_x ∷ PauseAt (label_at (1 ∷ [])) (at 2)
    ∷ TestAt (label_at (1 ∷ [])) (at 2) always ∷ ActAt (label_at (2 ∷ [])) raises_x ∷ []

-- the nodes of B in an order
abbrev pub second_order : List Node
second_order =
    ActAt (label_at (0 ∷ [])) adds_x ∷ PauseAt (label_at (1 ∷ [])) (at 5)
    ∷ TestAt (label_at (1 ∷ [])) (at 5) always ∷ ActAt (label_at (2 ∷ [])) raises_o ∷ []

-- the nodes in an order, by instances
abbrev pub orders : List (List Node)
orders = caller_order ∷ first_order ∷ second_order ∷ []

-- A's inputs are copied
abbrev pub copies_first : List AnsweredDeed
copies_first = did (deed 0 (at 8) (Copies 1 (value 0 ∷ []))) true

-- B's are
abbrev pub copies_second : List AnsweredDeed
copies_second = did (deed 0 (at 9) (Copies 2 (value 2 ∷ []))) true

-- A begins
abbrev pub first_begins : List AnsweredDeed
first_begins = copies_first ++ (act 1 sets_x ++ still 1 2)

-- B begins
abbrev pub second_begins : List AnsweredDeed
second_begins = copies_second ++ (act 2 adds_x ++ still 2 5)

-- A goes on to its end
abbrev pub first_ends : List AnsweredDeed
first_ends = copies_first ++ ((asked 1 2 always true ++ act 1 raises_x) ++ did (deed 0 (at 8) (Gives 1 None)) true)

-- B goes on to its end
abbrev pub second_ends : List AnsweredDeed
second_ends = copies_second ++ ((asked 2 5 always true ++ act 2 raises_o) ++ did (deed 0 (at 9) (Gives 2 None)) true)

-- a turn of the loop
abbrev pub loop_turn : List AnsweredDeed
loop_turn = still 0 11 ++ (still 0 7 ++ (first_begins ++ second_begins))

-- the first tick
abbrev pub first_tick : List AnsweredDeed
first_tick = act 0 declares_x ++ loop_turn

-- a later tick
abbrev pub later_tick : List AnsweredDeed
later_tick = first_ends ++ (second_ends ++ (still 0 7 ++ loop_turn))
