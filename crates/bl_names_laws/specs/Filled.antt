-- Which statements of a named tree have what the grammar wants: each `if` an arm, each `cobegin` a branch, and each
-- variable of a body a type or a value.
use Rattle.std.specs.Prelude.{Bool, true, false, not, ◌&&◌, ◌||◌, is_some, List, slice_get, Option, Some, None}
use Rattle.bl_tree.specs.Reduce.{all_of}
use Rattle.bl_tree.specs.Typing.{is_inhabited, is_fixed}
use Rattle.bl_names_tree.specs.declared.item.NamedVar.{NamedVar}
use Rattle.bl_names_tree.specs.declared.stmt.NamedStmt.{NamedStmt, fold-NamedStmt}
use Rattle.bl_names_tree.specs.declared.stmt.NamedStmtKind.TheOpen.{NamedStmtKind-F, NamedArm-F, NamedBranch-F, NamedStmt-F}

-- a `let` has a value, and a `var` a type or a value
abbrev pub is_told : NamedVar → Bool → Bool
is_told var has_value = has_value || (is_some var.ty && not (is_fixed var.role))

-- whether a declaration stands for a variable of the unit that has the type or value that it needs
abbrev pub declaration_filled : Option NamedVar → Bool → Bool
declaration_filled (Some var) has_value = is_told var has_value
declaration_filled None has_value = false

-- whether one layer of a statement has what the grammar wants, where all in its arms, branches and blocks does
abbrev pub kind_filled : List NamedVar → NamedStmtKind-F Bool Bool Bool Bool → Bool
kind_filled vars (NamedStmtKind-F.Declare k value) = declaration_filled (slice_get vars k) (is_some value)
kind_filled vars (NamedStmtKind-F.If arms other) = is_inhabited arms && (all_of arms && all_of other)
kind_filled vars (NamedStmtKind-F.Cobegin branches) = is_inhabited branches && all_of branches
kind_filled vars (NamedStmtKind-F.When guard e body) = all_of body
kind_filled vars (NamedStmtKind-F.Repeat body) = all_of body
kind_filled vars (NamedStmtKind-F.Until body e) = all_of body
kind_filled vars (NamedStmtKind-F.While e body) = all_of body
kind_filled vars _ = true

-- whether the block of an arm does
abbrev pub arm_filled : NamedArm-F Bool Bool Bool Bool → Bool
arm_filled arm = all_of arm.body

-- whether the block of a branch does
abbrev pub branch_filled : NamedBranch-F Bool Bool Bool Bool → Bool
branch_filled branch = all_of branch.body

-- a statement does where its kind does, wherever it stands
abbrev pub layer_filled : NamedStmt-F Bool Bool Bool Bool → Bool
layer_filled s = s.what

-- whether a statement of a unit with these variables has the parts that the grammar wants
abbrev pub is_filled : List NamedVar → NamedStmt → Bool
is_filled vars = fold-NamedStmt Bool Bool Bool Bool (kind_filled vars) arm_filled branch_filled layer_filled
