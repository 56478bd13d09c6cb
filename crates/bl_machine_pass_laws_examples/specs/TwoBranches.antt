-- Two branches that need each other in one tick, as `bl_ctree_laws_examples` has them (`specs/TwoWay.antt` there): what is left of them
-- between ticks, and what is done in a tick.
use Rattle.std.specs.Prelude.{false, true, List, [], ◌∷◌, ◌++◌}
use Rattle.bl_graph_nodes.specs.Nodes.{ActAt, DepthJoinAt, ForkAt, HeadAt, Node, PauseAt, TestAt}
use Rattle.bl_graph_nodes.specs.Plain.{label_at}
use Rattle.bl_ctree_laws.specs.Steps.{fork}
use Rattle.bl_ctree_laws.specs.Trees.{Par, Tree, beside, no_tree}
use Rattle.bl_machine_laws.specs.Numbers.Turns.{AnsweredDeed}
use Rattle.bl_ctree_laws_examples.specs.Trees.Made.{always, at}
use Rattle.bl_ctree_laws_examples.specs.Trees.TwoWay.{branches, declares, label_inside, left_position, right_position, sets_o, sets_x, sets_y, x, y}
use Rattle.bl_ctree_laws_examples.specs.Trees.TwoWayTrees.{both, left_paused, right_paused}
use Rattle.bl_machine_pass_laws_examples.specs.Worked.{act, asked, still}

-- the tree after the first tick
abbrev pub after_first_tick : Tree
after_first_tick = both left_paused right_paused

-- the tree after a later tick
abbrev pub later : Tree
later = Par (fork (label_at (2 ∷ [])) (at 9) branches) true (beside false left_paused (beside false right_paused no_tree))

-- the nodes in an order
abbrev pub order : List Node
order =
    ActAt (label_at (0 ∷ [])) (declares 8 x) ∷ ActAt (label_at (1 ∷ [])) (declares 10 y) ∷ ForkAt (label_at (2 ∷ [])) (at 9)
    ∷ TestAt (label_inside left_position 2) (at 3) always ∷ HeadAt (label_at left_position) (at 6)
    ∷ TestAt (label_inside right_position 1) (at 5) always ∷ HeadAt (label_at right_position) (at 7)
    ∷ ActAt (label_inside left_position 0) sets_x ∷ ActAt (label_inside right_position 0) sets_y ∷ ActAt (label_inside left_position 1) sets_o
    ∷ PauseAt (label_inside left_position 2) (at 3) ∷ PauseAt (label_inside right_position 1) (at 5) ∷ DepthJoinAt (label_at (2 ∷ [])) (at 9) ∷ []

-- what each tick ends with
abbrev pub tick_end : List AnsweredDeed
tick_end = act 0 sets_x ++ (act 0 sets_y ++ (act 0 sets_o ++ (still 0 3 ++ still 0 5)))

-- the first tick
abbrev pub first_tick : List AnsweredDeed
first_tick = act 0 (declares 8 x) ++ (act 0 (declares 10 y) ++ (still 0 9 ++ (still 0 6 ++ (still 0 7 ++ tick_end))))

-- a later tick
abbrev pub later_tick : List AnsweredDeed
later_tick = asked 0 3 always true ++ (still 0 6 ++ (asked 0 5 always true ++ (still 0 7 ++ tick_end)))
