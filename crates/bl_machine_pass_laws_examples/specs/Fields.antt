-- Two branches that need each other by the fields of one struct: `cobegin repeat s.a = i + 1 o = s.b await true end with repeat s.b = s.a * 2
-- await true end end`, where i is an input, o an output, and s a variable.
use Rattle.std.specs.Prelude.{ℕ, Bool, false, true, List, [], ◌∷◌, ◌++◌, None}
use Rattle.bl_tree.specs.declared.scalar.Op.TheVariants.{Add, Mul}
use Rattle.bl_tree.specs.declared.tree.Expr.{Expr}
use Rattle.bl_tree.specs.declared.tree.ExprKind.TheOpen.{ExprKind-F, Part-F}
use Rattle.bl_tree.specs.declared.tree.Part.{roll-Part}
use Rattle.bl_tree.specs.declared.tree.Path.{Path, roll-Path}
use Rattle.bl_tree.specs.declared.tree.Stmt.{Stmt}
use Rattle.bl_tree.specs.declared.tree.StmtKind.TheOpen.{StmtKind-F}
use Rattle.bl_graph_nodes.specs.Nodes.{ActAt, DepthJoinAt, ForkAt, HeadAt, Node, PauseAt, TestAt}
use Rattle.bl_graph_nodes.specs.Plain.{Act, Await, Block, Bodies, Body as BodyOf, Cobegin, Done, Label, Last, Plain, Position, Repeat, Then, label_at}
use Rattle.bl_ctree_laws.specs.Steps.{fork, pause}
use Rattle.bl_ctree_laws.specs.Trees.{Par, Seq, Tree, Wait, beside, no_tree}
use Rattle.bl_machine_laws.specs.Numbers.Turns.{AnsweredDeed}
use Rattle.bl_ctree_laws_examples.specs.Trees.Made.{always, at, expr, int32, number, stmt, two, value, variable}
use Rattle.bl_machine_pass_laws_examples.specs.Worked.{act, asked, still}

-- a field of s as a place
abbrev pub field : ℕ → Path
field k = roll-Path (record { place = at 0; root = 2; parts = roll-Part (Part-F.Field k) ∷ []; ty = int32 })

-- the value of a field of s
abbrev pub field_value : ℕ → Expr
field_value k = expr (ExprKind-F.Read (field k))

-- `var s: S`
abbrev pub declares_s : Stmt
declares_s = stmt 8 (StmtKind-F.Declare 2 None)

-- `s.a = i + 1`
abbrev pub sets_a : Stmt
sets_a = stmt 1 (StmtKind-F.Assign (field 0) (two Add (value 0) (number 1)))

-- `o = s.b`
abbrev pub sets_o : Stmt
sets_o = stmt 2 (StmtKind-F.Assign (variable 1) (field_value 1))

-- `s.b = s.a * 2`
abbrev pub sets_b : Stmt
sets_b = stmt 4 (StmtKind-F.Assign (field 1) (two Mul (field_value 0) (number 2)))

-- the position of the first loop
abbrev pub left_position : Position
left_position = 1 ∷ 0 ∷ 0 ∷ []

-- the position of the second loop
abbrev pub right_position : Position
right_position = 1 ∷ 1 ∷ 0 ∷ []

-- the statement with the number in the body of a loop
abbrev pub label_inside : Position → ℕ → Label
label_inside loop k = label_at (loop ++ 0 ∷ k ∷ [])

-- the first loop
abbrev pub left_loop : Plain
left_loop = Repeat (label_at left_position) (at 6)
    (Then (Act (label_inside left_position 0) sets_a) (Then (Act (label_inside left_position 1) sets_o)
    (Then (Await (label_inside left_position 2) (at 3) always) Done)))

-- the second
abbrev pub right_loop : Plain
right_loop = Repeat (label_at right_position) (at 7) (Then (Act (label_inside right_position 0) sets_b)
    (Then (Await (label_inside right_position 1) (at 5) always) Done))

-- the branches
abbrev pub branches : Bodies
branches = BodyOf false (Then left_loop Done) (BodyOf false (Then right_loop Done) Last)

-- the body
abbrev pub body : Block
body = Then (Act (label_at (0 ∷ [])) declares_s) (Then (Cobegin (label_at (1 ∷ [])) (at 9) branches) Done)

-- the two branches between ticks; the argument says whether they stood when the last tick began
abbrev pub paused : Bool → Tree
paused stood =
    Par (fork (label_at (1 ∷ [])) (at 9) branches) stood
    (beside false (Seq (Wait (pause (label_inside left_position 2) (at 3) always)) (Then left_loop Done))
    (beside false (Seq (Wait (pause (label_inside right_position 1) (at 5) always)) (Then right_loop Done)) no_tree))

-- the nodes in an order
abbrev pub order : List Node
order =
    ActAt (label_at (0 ∷ [])) declares_s ∷ ForkAt (label_at (1 ∷ [])) (at 9)
    ∷ TestAt (label_inside left_position 2) (at 3) always ∷ HeadAt (label_at left_position) (at 6)
    ∷ TestAt (label_inside right_position 1) (at 5) always ∷ HeadAt (label_at right_position) (at 7)
    ∷ ActAt (label_inside left_position 0) sets_a ∷ ActAt (label_inside right_position 0) sets_b ∷ ActAt (label_inside left_position 1) sets_o
    ∷ PauseAt (label_inside left_position 2) (at 3) ∷ PauseAt (label_inside right_position 1) (at 5) ∷ DepthJoinAt (label_at (1 ∷ [])) (at 9) ∷ []

-- what each tick ends with
abbrev pub tick_end : List AnsweredDeed
tick_end = act 0 sets_a ++ (act 0 sets_b ++ (act 0 sets_o ++ (still 0 3 ++ still 0 5)))

-- the first tick
abbrev pub first_tick : List AnsweredDeed
first_tick = act 0 declares_s ++ (still 0 9 ++ (still 0 6 ++ (still 0 7 ++ tick_end)))

-- a later tick
abbrev pub later_tick : List AnsweredDeed
later_tick = asked 0 3 always true ++ (still 0 6 ++ (asked 0 5 always true ++ (still 0 7 ++ tick_end)))
