-- A body that is given up: `when c abort o = 1 repeat await true o = o + 1 end end o = 100 await false`, where c is an input and o an
-- output.
use Rattle.std.specs.Prelude.{true, false, List, [], ◌∷◌, ◌++◌}
use Rattle.bl_tree.specs.declared.scalar.Op.TheVariants.{Add}
use Rattle.bl_tree.specs.declared.tree.Guard.TheVariants.{Abort}
use Rattle.bl_tree.specs.declared.tree.Stmt.{Stmt}
use Rattle.bl_graph_nodes.specs.Nodes.{ActAt, CheckAt, DepthEndAt, HeadAt, Node, PauseAt, StartAt, TestAt}
use Rattle.bl_graph_nodes.specs.Plain.{Act, Await, Block, Done, Label, Plain, Repeat, Then, When, label_at}
use Rattle.bl_ctree.specs.Control.{Body}
use Rattle.bl_ctree_laws.specs.Steps.{pause, watch}
use Rattle.bl_ctree_laws.specs.Trees.{Guard, Seq, Tree, Wait}
use Rattle.bl_machine_laws.specs.Numbers.Turns.{AnsweredDeed}
use Rattle.bl_ctree_laws_examples.specs.Trees.Made.{always, at, flag, number, set, two, value}
use Rattle.bl_machine_pass_laws_examples.specs.Worked.{act, asked, never, still}

-- `o = 1`
abbrev pub begins_o : Stmt
begins_o = set 2 1 (number 1)

-- `o = o + 1`
abbrev pub raises_o : Stmt
raises_o = set 5 1 (two Add (value 1) (number 1))

-- `o = 100`
abbrev pub ends_o : Stmt
ends_o = set 6 1 (number 100)

-- the label of the `when`
abbrev pub guard_label : Label
guard_label = label_at (0 ∷ [])

-- the label of the loop in the `when`
abbrev pub loop_label : Label
loop_label = label_at (0 ∷ 0 ∷ 1 ∷ [])

-- the label of the pause in the loop
abbrev pub pause_label : Label
pause_label = label_at (0 ∷ 0 ∷ 1 ∷ 0 ∷ 0 ∷ [])

-- the label of the act after the pause
abbrev pub raise_label : Label
raise_label = label_at (0 ∷ 0 ∷ 1 ∷ 0 ∷ 1 ∷ [])

-- the label of the last pause
abbrev pub last_label : Label
last_label = label_at (2 ∷ [])

-- the loop
abbrev pub loop : Plain
loop = Repeat loop_label (at 3) (Then (Await pause_label (at 4) always) (Then (Act raise_label raises_o) Done))

-- the body of the `when`
abbrev pub when_body : Block
when_body = Then (Act (label_at (0 ∷ 0 ∷ 0 ∷ [])) begins_o) (Then loop Done)

-- what follows the `when`
abbrev pub rest : Block
rest = Then (Act (label_at (1 ∷ [])) ends_o) (Then (Await last_label (at 7) never) Done)

-- the body
abbrev pub body : Block
body = Then (When guard_label (at 1) Abort (flag 0) when_body) rest

-- the tree after the first tick
abbrev pub after_first_tick : Tree
after_first_tick = Seq (Guard (watch guard_label (at 1) Abort (flag 0) when_body) Body false
    (Seq (Wait (pause pause_label (at 4) always)) (Then (Act raise_label raises_o) (Then loop Done)))) rest

-- the tree after a tick in which c is true
abbrev pub over : Tree
over = Wait (pause last_label (at 7) never)

-- the nodes in an order
abbrev pub order : List Node
order =
    StartAt guard_label (at 1) ∷ ActAt (label_at (0 ∷ 0 ∷ 0 ∷ [])) begins_o ∷ CheckAt guard_label (at 1) (flag 0)
    ∷ TestAt pause_label (at 4) always ∷ ActAt raise_label raises_o ∷ HeadAt loop_label (at 3) ∷ PauseAt pause_label (at 4)
    ∷ DepthEndAt guard_label (at 1) ∷ TestAt last_label (at 7) never ∷ ActAt (label_at (1 ∷ [])) ends_o ∷ PauseAt last_label (at 7) ∷ []

-- the first tick
abbrev pub first_tick : List AnsweredDeed
first_tick = still 0 1 ++ (act 0 begins_o ++ (still 0 3 ++ still 0 4))

-- a tick in which c is true
abbrev pub aborts : List AnsweredDeed
aborts = asked 0 1 (flag 0) true ++ (act 0 ends_o ++ still 0 7)
