-- Two branches that need each other in one tick: `cobegin repeat x = i + 1 o = y await true end with repeat y = x * 2 await true end
-- end`, where i is an input, o an output, and x and y are variables.
use Rattle.std.specs.Prelude.{List, [], ◌∷◌, ◌++◌, ℕ, false, None, codes}
use Rattle.bl_tree.specs.declared.scalar.Op.TheVariants.{Add, Mul}
use Rattle.bl_tree.specs.declared.tree.Role.TheVariants.{Input, Output, Variable}
use Rattle.bl_tree.specs.declared.tree.Stmt.{Stmt}
use Rattle.bl_tree.specs.declared.tree.StmtKind.TheOpen.{StmtKind-F}
use Rattle.bl_tree.specs.declared.tree.Unit.{Unit as UnitDef}
use Rattle.bl_tree.specs.declared.tree.UnitKind.TheVariants.{Activity}
use Rattle.bl_graph_nodes.specs.Plain.{Act, Await, Block, Bodies, Body, Cobegin, Done, Label, Last, Plain, Position, Repeat, Then, label_at}
use Rattle.bl_ctree_laws_examples.specs.Trees.Made.{always, at, await_true, named_variable, number, set, stmt, strong, two, value}

-- the input
abbrev pub i : ℕ
i = 0

-- the output
abbrev pub o : ℕ
o = 1

-- the variable that the first branch writes
abbrev pub x : ℕ
x = 2

-- the variable that the second branch writes
abbrev pub y : ℕ
y = 3

-- `x = i + 1`
abbrev pub sets_x : Stmt
sets_x = set 1 x (two Add (value i) (number 1))

-- `o = y`
abbrev pub sets_o : Stmt
sets_o = set 2 o (value y)

-- `y = x * 2`
abbrev pub sets_y : Stmt
sets_y = set 4 y (two Mul (value x) (number 2))

-- the first loop
abbrev pub left_repeat : Stmt
left_repeat = stmt 6 (StmtKind-F.Repeat (sets_x ∷ sets_o ∷ await_true 3 ∷ []))

-- the second loop
abbrev pub right_repeat : Stmt
right_repeat = stmt 7 (StmtKind-F.Repeat (sets_y ∷ await_true 5 ∷ []))

-- the two loops as strong branches of a `cobegin`
abbrev pub both_loops : Stmt
both_loops = stmt 9 (StmtKind-F.Cobegin (strong (left_repeat ∷ []) ∷ strong (right_repeat ∷ []) ∷ []))

-- `var x: int32`, or another variable
abbrev pub declares : ℕ → ℕ → Stmt
declares place k = stmt place (StmtKind-F.Declare k None)

-- the body of the activity
abbrev pub body : List Stmt
body = declares 8 x ∷ declares 10 y ∷ both_loops ∷ []

-- the activity
abbrev pub activity : UnitDef
activity = record {
  name = codes "M";
  place = at 0;
  kind = Activity;
  vars = named_variable (codes "i") Input ∷ named_variable (codes "o") Output ∷ named_variable (codes "x") Variable ∷ named_variable (codes "y") Variable ∷ [];
  inputs = 1;
  outputs = 1;
  result = None;
  body = body;
}

-- ---- the same as plain statements

-- the position of the first loop
abbrev pub left_position : Position
left_position = 2 ∷ 0 ∷ 0 ∷ []

-- the position of the second loop
abbrev pub right_position : Position
right_position = 2 ∷ 1 ∷ 0 ∷ []

-- the statement with the number in the body of a loop
abbrev pub label_inside : Position → ℕ → Label
label_inside loop k = label_at (loop ++ 0 ∷ k ∷ [])

-- the body of the first loop
abbrev pub left_turn : Block
left_turn = Then (Act (label_inside left_position 0) sets_x)
    (Then (Act (label_inside left_position 1) sets_o) (Then (Await (label_inside left_position 2) (at 3) always) Done))

-- the first loop
abbrev pub left_loop : Plain
left_loop = Repeat (label_at left_position) (at 6) left_turn

-- the body of the second
abbrev pub right_turn : Block
right_turn = Then (Act (label_inside right_position 0) sets_y) (Then (Await (label_inside right_position 1) (at 5) always) Done)

-- the second loop
abbrev pub right_loop : Plain
right_loop = Repeat (label_at right_position) (at 7) right_turn

-- the branches
abbrev pub branches : Bodies
branches = Body false (Then left_loop Done) (Body false (Then right_loop Done) Last)

-- the body
abbrev pub plain_statements : Block
plain_statements =
    Then (Act (label_at (0 ∷ [])) (declares 8 x)) (Then (Act (label_at (1 ∷ [])) (declares 10 y))
    (Then (Cobegin (label_at (2 ∷ [])) (at 9) branches) Done))
