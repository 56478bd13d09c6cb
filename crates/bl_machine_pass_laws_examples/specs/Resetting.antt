-- A reset beside a loop, as `bl_ctree_laws_examples` has it (`specs/Reset.antt` there): what is left of it between ticks, and what is done in
-- a tick.
use Rattle.std.specs.Prelude.{Bool, false, true, List, [], ◌∷◌, ◌++◌}
use Rattle.bl_tree.specs.declared.tree.Guard.TheVariants.{Reset}
use Rattle.bl_graph_nodes.specs.Nodes.{ActAt, CheckAt, DepthEndAt, DepthJoinAt, ForkAt, HeadAt, Node, PauseAt, StartAt, TestAt}
use Rattle.bl_graph_nodes.specs.Plain.{Block, Cobegin, Done, Label, Then, label_at}
use Rattle.bl_tree.specs.declared.tree.Stmt.{Stmt}
use Rattle.bl_ctree.specs.Control.{Body}
use Rattle.bl_ctree_laws.specs.Steps.{fork, pause, watch}
use Rattle.bl_ctree_laws.specs.Trees.{Guard, Par, Seq, Tree, Wait, beside, no_tree}
use Rattle.bl_machine_laws.specs.Numbers.Turns.{AnsweredDeed}
use Rattle.bl_ctree_laws_examples.specs.Trees.Made.{always, at, flag, number, set}
use Rattle.bl_ctree_laws_examples.specs.Trees.Reset.{b, begins_a, branches, c, guard_label, guarded_body, raises_a, raises_b, rest_a, rest_b}
use Rattle.bl_machine_pass_laws_examples.specs.Worked.{act, asked, still}

-- the body
abbrev pub body : Block
body = Then (Cobegin (label_at (0 ∷ [])) (at 10) branches) Done

-- `b = 1`
abbrev pub begins_b : Stmt
begins_b = set 4 b (number 1)

-- the pause of the first branch
abbrev pub pause_a : Label
pause_a = label_at (0 ∷ 0 ∷ 0 ∷ 0 ∷ 1 ∷ 0 ∷ 0 ∷ [])

-- the pause of the second branch
abbrev pub pause_b : Label
pause_b = label_at (0 ∷ 1 ∷ 1 ∷ 0 ∷ 0 ∷ [])

-- the two branches between ticks; the argument says whether they stood when the last tick began
abbrev pub paused : Bool → Tree
paused stood =
    Par (fork (label_at (0 ∷ [])) (at 10) branches) stood
    (beside false (Guard (watch guard_label (at 9) Reset (flag c) guarded_body) Body stood (Seq (Wait (pause pause_a (at 2) always)) rest_a))
    (beside false (Seq (Wait (pause pause_b (at 5) always)) rest_b) no_tree))

-- the nodes in an order
abbrev pub order : List Node
order =
    ForkAt (label_at (0 ∷ [])) (at 10) ∷ StartAt guard_label (at 9) ∷ CheckAt guard_label (at 9) (flag c)
    ∷ ActAt (label_at (0 ∷ 0 ∷ 0 ∷ 0 ∷ 0 ∷ [])) begins_a
    ∷ TestAt pause_a (at 2) always ∷ ActAt (label_at (0 ∷ 0 ∷ 0 ∷ 0 ∷ 1 ∷ 0 ∷ 1 ∷ [])) raises_a
    ∷ HeadAt (label_at (0 ∷ 0 ∷ 0 ∷ 0 ∷ 1 ∷ [])) (at 7) ∷ PauseAt pause_a (at 2)
    ∷ ActAt (label_at (0 ∷ 1 ∷ 0 ∷ [])) begins_b
    ∷ TestAt pause_b (at 5) always ∷ ActAt (label_at (0 ∷ 1 ∷ 1 ∷ 0 ∷ 1 ∷ [])) raises_b
    ∷ HeadAt (label_at (0 ∷ 1 ∷ 1 ∷ [])) (at 8) ∷ PauseAt pause_b (at 5) ∷ DepthEndAt guard_label (at 9)
    ∷ DepthJoinAt (label_at (0 ∷ [])) (at 10) ∷ []

-- the first branch as its body begins
abbrev pub begins_first : List AnsweredDeed
begins_first = act 0 begins_a ++ (still 0 7 ++ still 0 2)

-- the second branch as it goes on
abbrev pub second_goes_on : List AnsweredDeed
second_goes_on = asked 0 5 always true ++ (act 0 raises_b ++ (still 0 8 ++ still 0 5))

-- the first tick
abbrev pub first_tick : List AnsweredDeed
first_tick = still 0 10 ++ (still 0 9 ++ (begins_first ++ (act 0 begins_b ++ (still 0 8 ++ still 0 5))))

-- a tick in which c is false
abbrev pub later_tick : List AnsweredDeed
later_tick = asked 0 9 (flag c) false ++ (asked 0 2 always true ++ (act 0 raises_a ++ (still 0 7 ++ (still 0 2 ++ second_goes_on))))

-- a tick in which c is true
abbrev pub resets : List AnsweredDeed
resets = asked 0 9 (flag c) true ++ (begins_first ++ second_goes_on)
