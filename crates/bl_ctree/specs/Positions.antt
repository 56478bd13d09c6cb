-- Statements with their positions in a unit: two statements at different positions are two, also where they are alike.
use Rattle.std.specs.Prelude.{ℕ, suc, Bool, true, false, List, [], ◌∷◌, ◌++◌}
use Rattle.bl_tree.specs.declared.place.Place.{Place}
use Rattle.bl_tree.specs.declared.tree.Arm.{Arm, out-Arm}
use Rattle.bl_tree.specs.declared.tree.Branch.{Branch}
use Rattle.bl_tree.specs.declared.tree.Stmt.{Stmt, out-Stmt, roll-Stmt}
use Rattle.bl_tree.specs.declared.tree.StmtKind.{StmtKind, out-StmtKind, roll-StmtKind}
use Rattle.bl_tree.specs.declared.tree.StmtKind.TheOpen.{StmtKind-F}
use Rattle.bl_tree.specs.declared.tree.Expr.{out-Expr}

-- the number of a statement in its unit's body, then in turn the number of a block in it and that of a statement there
abbrev pub Position : Type 0
Position = List ℕ

-- a statement at its position. Of an `if` some arms may be passed: it is what is left then, an `if` with the further arms
pub record Located : Type 0 where
  pub position : Position
  pub passed : ℕ
  pub stmt : Stmt

-- what kind of statement it is, with its parts
abbrev pub stmt_kind : Stmt → StmtKind-F StmtKind Arm Branch Stmt
stmt_kind s = out-StmtKind (out-Stmt s).what

-- what kind of statement stands there, with its parts
abbrev pub kind_of : Located → StmtKind-F StmtKind Arm Branch Stmt
kind_of s = stmt_kind s.stmt

-- the place of the statement in the source
abbrev pub place_of : Located → Place
place_of s = (out-Stmt s.stmt).place

-- an item of a sequence: a statement that is to begin, or the test after a turn of a `repeat .. until`
pub data Item : Type 0 where
  Begin : Located → Item
  Again : Located → Item

-- whether no item is left
abbrev pub none_left : List Item → Bool
none_left [] = true
none_left (item ∷ rest) = false

-- the statements of a block at the position, from the one with number k on
abbrev pub items_from : Position → ℕ → List Stmt → List Item
items_from position k [] = []
items_from position k (s ∷ rest) = Begin (record { position = position ++ k ∷ []; passed = 0; stmt = s }) ∷ items_from position (suc k) rest

-- the statements of a unit's body
abbrev pub body_items : List Stmt → List Item
body_items body = items_from [] 0 body

-- the statements of the block with this number in a statement
abbrev pub block_items : Located → ℕ → List Stmt → List Item
block_items s block body = items_from (s.position ++ block ∷ []) 0 body

-- the residual `if` after some arms are passed, placed at its first arm's condition, which is the place of no statement
abbrev pub left_of_if : Position → ℕ → Arm → List Arm → List Stmt → Located
left_of_if position passed arm arms other =
    record {
      position = position;
      passed = passed;
      stmt =
          roll-Stmt (record { place = (out-Expr (out-Arm arm).test).place; what = roll-StmtKind (StmtKind-F.If (arm ∷ arms) other) });
    }

-- the `if` with its further arms
abbrev pub further : Located → Arm → List Arm → List Stmt → Located
further s arm arms other = left_of_if s.position (suc s.passed) arm arms other

-- whether it acts in one step: an assignment, a declaration, a call or a `return`
abbrev pub is_act : {A B C D : Type 0} → StmtKind-F A B C D → Bool
is_act (StmtKind-F.Declare k initial) = true
is_act (StmtKind-F.Assign path e) = true
is_act (StmtKind-F.Call f inputs outputs) = true
is_act (StmtKind-F.Return e) = true
is_act _ = false
