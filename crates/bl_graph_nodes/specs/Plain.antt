-- Plain statements: the statements of a body with their labels. Two statements at different positions are two, also where
-- they are alike. They are plain data, over which relations can be defined by recursion.
use Rattle.std.specs.Prelude.{ℕ, suc, pos, Bool, true, false, List, [], ◌∷◌, ◌++◌, map, Option}
use Rattle.bl_tree.specs.declared.place.Place.{Place}
use Rattle.bl_tree.specs.declared.scalar.Scalar.TheVariants.{Bool as OfBool}
use Rattle.bl_tree.specs.declared.tree.Expr.{Expr, out-Expr, roll-Expr}
use Rattle.bl_tree.specs.declared.tree.ExprKind.{roll-ExprKind}
use Rattle.bl_tree.specs.declared.tree.ExprKind.TheOpen.{ExprKind-F}
use Rattle.bl_tree.specs.declared.tree.Guard.{Guard}
use Rattle.bl_tree.specs.declared.tree.Path.{Path}
use Rattle.bl_tree.specs.declared.tree.Stmt.{Stmt, fold-Stmt, roll-Stmt}
use Rattle.bl_tree.specs.declared.tree.StmtKind.{roll-StmtKind}
use Rattle.bl_tree.specs.declared.tree.StmtKind.TheOpen.{StmtKind-F, Arm-F, Branch-F, Stmt-F}

-- the number of a statement in its unit's body, then in turn the number of a block in it and that of a statement there
abbrev pub Position : Type 0
Position = List ℕ

-- what tells a statement from the others of its body: its position, and of an `if` how many conditions stand before its own
pub record Label : Type 0 where
  pub position : Position
  pub passed : ℕ

-- the label of a statement at the position
abbrev pub label_at : Position → Label
label_at position = record { position = position; passed = 0 }

mutual
  -- A plain statement with its label and place. An `elseif` stands in the `else` part, at the place of its condition.
  pub data Plain : Type 0 where
    -- an assignment, a declaration, a call or a `return`, as it is written
    Act : Label → Stmt → Plain
    Await : Label → Place → Expr → Plain
    -- the target, the activity, its inputs and its outputs
    Run : Label → Place → Option Path → ℕ → List Expr → List Path → Plain
    -- an `if` with one condition, its block, and the block executed otherwise
    If : Label → Place → Expr → Block → Block → Plain
    Cobegin : Label → Place → Bodies → Plain
    When : Label → Place → Guard → Expr → Block → Plain
    Repeat : Label → Place → Block → Plain
    -- `repeat .. until`
    Until : Label → Place → Block → Expr → Plain
    While : Label → Place → Expr → Block → Plain
    -- the test at the end of a turn of `repeat .. until`: no statement of a body, but what may be left of one
    Again : Label → Place → Block → Expr → Plain

  -- statements one after another
  pub data Block : Type 0 where
    Done : Block
    Then : Plain → Block → Block

  -- the branches of a `cobegin`: whether the first is weak, what stands in it, and the further ones
  pub data Bodies : Type 0 where
    Last : Bodies
    Body : Bool → Block → Bodies → Bodies

-- whether nothing stands in a block
abbrev pub is_empty : Block → Bool
is_empty Done = true
is_empty (Then s rest) = false

-- ---- the plain statements of a body

-- an arm of an `if`, whose block is still to be put at a position
pub record Arm : Type 0 where
  pub test : Expr
  pub body : Position → Block

-- a branch of a `cobegin`, whose block is still to be put at a position
pub record Branch : Type 0 where
  pub weak : Bool
  pub body : Position → Block

-- statements from the one with number k on, in the block at the position
abbrev pub block_from : List (Position → Plain) → ℕ → Position → Block
block_from [] k block = Done
block_from (s ∷ rest) k block = Then (s (block ++ k ∷ [])) (block_from rest (suc k) block)

-- the statements of the block at the position, from its first on
abbrev pub block_at : List (Position → Plain) → Position → Block
block_at body block = block_from body 0 block

-- the blocks of a statement are numbered: the arms of an `if` in order and then its `else`, the branches of a `cobegin`
abbrev pub inside : Label → ℕ → Position
inside at block = at.position ++ block ∷ []

-- the label with one condition more before its own
abbrev pub passed_one : Label → Label
passed_one at = record { position = at.position; passed = suc at.passed }

-- where the condition of an arm stands
abbrev pub place_of_test : Arm → Place
place_of_test arm = (out-Expr arm.test).place

-- what else: an `if` with the further arms, or the `else` part
abbrev pub else_at : Label → List Arm → (Position → Block) → Block
else_at at [] other = other (inside at at.passed)
else_at at (arm ∷ rest) other = Then (If at (place_of_test arm) arm.test (arm.body (inside at at.passed)) (else_at (passed_one at) rest other)) Done

-- a condition that is never true
abbrev pub never : Place → Expr
never place = roll-Expr (record { place = place; what = roll-ExprKind (ExprKind-F.Literal (pos 0) OfBool) })

-- no `if` of a program is without an arm; one would do its `else` part, whatever its condition
abbrev pub if_with : Label → Place → List Arm → (Position → Block) → Plain
if_with at place [] other = If at place (never place) (other (inside at 0)) (other (inside at 1))
if_with at place (arm ∷ rest) other = If at place arm.test (arm.body (inside at 0)) (else_at (passed_one at) rest other)

-- the branches from the one with number k on
abbrev pub bodies_from : List Branch → ℕ → Label → Bodies
bodies_from [] k at = Last
bodies_from (branch ∷ rest) k at = Body branch.weak (branch.body (inside at k)) (bodies_from rest (suc k) at)

-- the statement of an act at a place, as it is written
abbrev pub act_of : Place → StmtKind-F (Place → Position → Plain) Arm Branch (Position → Plain) → Stmt
act_of place (StmtKind-F.Declare k initial) = roll-Stmt (record { place = place; what = roll-StmtKind (StmtKind-F.Declare k initial) })
act_of place (StmtKind-F.Assign path e) = roll-Stmt (record { place = place; what = roll-StmtKind (StmtKind-F.Assign path e) })
act_of place (StmtKind-F.Call f inputs outputs) = roll-Stmt (record { place = place; what = roll-StmtKind (StmtKind-F.Call f inputs outputs) })
act_of place (StmtKind-F.Return e) = roll-Stmt (record { place = place; what = roll-StmtKind (StmtKind-F.Return e) })
act_of place _ = roll-Stmt (record { place = place; what = roll-StmtKind (StmtKind-F.Return Option.None) })

-- the plain statement of a kind of statement at a place, where its blocks are still to be put at a position
abbrev pub kind_plain : StmtKind-F (Place → Position → Plain) Arm Branch (Position → Plain) → Place → Position → Plain
kind_plain (StmtKind-F.Declare k initial) place at = Act (label_at at) (act_of place (StmtKind-F.Declare k initial))
kind_plain (StmtKind-F.Assign path e) place at = Act (label_at at) (act_of place (StmtKind-F.Assign path e))
kind_plain (StmtKind-F.Call f inputs outputs) place at = Act (label_at at) (act_of place (StmtKind-F.Call f inputs outputs))
kind_plain (StmtKind-F.Await e) place at = Await (label_at at) place e
kind_plain (StmtKind-F.Run target a inputs outputs) place at = Run (label_at at) place target a inputs outputs
kind_plain (StmtKind-F.If arms other) place at = if_with (label_at at) place arms (block_at other)
kind_plain (StmtKind-F.Cobegin branches) place at = Cobegin (label_at at) place (bodies_from branches 0 (label_at at))
kind_plain (StmtKind-F.When guard e body) place at = When (label_at at) place guard e (block_at body (inside (label_at at) 0))
kind_plain (StmtKind-F.Repeat body) place at = Repeat (label_at at) place (block_at body (inside (label_at at) 0))
kind_plain (StmtKind-F.Until body e) place at = Until (label_at at) place (block_at body (inside (label_at at) 0)) e
kind_plain (StmtKind-F.While e body) place at = While (label_at at) place e (block_at body (inside (label_at at) 0))
kind_plain (StmtKind-F.Return e) place at = Act (label_at at) (act_of place (StmtKind-F.Return e))

-- an arm, from its plain statements
abbrev pub arm_plain : Arm-F (Place → Position → Plain) Arm Branch (Position → Plain) → Arm
arm_plain arm = record { test = arm.test; body = block_at arm.body }

-- a branch, from its plain statements
abbrev pub branch_plain : Branch-F (Place → Position → Plain) Arm Branch (Position → Plain) → Branch
branch_plain branch = record { weak = branch.weak; body = block_at branch.body }

-- a statement at a position is its kind there, at its place
abbrev pub stmt_plain : Stmt-F (Place → Position → Plain) Arm Branch (Position → Plain) → Position → Plain
stmt_plain s at = s.what s.place at

-- the plain statement of a statement at a position
abbrev pub plain_stmt : Stmt → Position → Plain
plain_stmt = fold-Stmt (Place → Position → Plain) Arm Branch (Position → Plain) kind_plain arm_plain branch_plain stmt_plain

-- the plain statements of a block at a position
abbrev pub plain_block : List Stmt → Position → Block
plain_block body = block_at (map plain_stmt body)

-- the plain statements of a unit's body
abbrev pub plain_body : List Stmt → Block
plain_body body = plain_block body []
