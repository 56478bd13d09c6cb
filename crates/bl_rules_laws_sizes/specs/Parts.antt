-- How many parts a raw tree has.
use Rattle.std.specs.Prelude.{ℕ, ◌+◌, List, length, map}
use Rattle.bl_tree.specs.Reduce.{total}
use Rattle.bl_parse_tree.specs.declared.item.RawItem.{RawItem}
use Rattle.bl_parse_tree.specs.declared.item.RawItem.TheVariants.{Struct, Constant, Unit as UnitItem}
use Rattle.bl_parse_tree.specs.declared.item.RawUnit.{RawUnit}
use Rattle.bl_parse_tree.specs.declared.stmt.RawStmt.{RawStmt, fold-RawStmt}
use Rattle.bl_parse_tree.specs.declared.stmt.RawStmtKind.TheOpen.{RawStmtKind-F, RawArm-F, RawBranch-F, RawStmt-F}

-- the parts of a statement, from those of its arms, branches and blocks: one for itself, and these
abbrev pub kind_parts : RawStmtKind-F ℕ ℕ ℕ ℕ → ℕ
kind_parts (RawStmtKind-F.Var name ty value) = 1
kind_parts (RawStmtKind-F.Let name ty value) = 1
kind_parts (RawStmtKind-F.Const constant) = 1
kind_parts (RawStmtKind-F.Assign target e) = 1
kind_parts (RawStmtKind-F.Call f inputs outputs) = 1
kind_parts (RawStmtKind-F.Await e) = 1
kind_parts (RawStmtKind-F.Run target a inputs outputs) = 1
kind_parts (RawStmtKind-F.If arms other) = 1 + (total arms + total other)
kind_parts (RawStmtKind-F.Cobegin branches) = 1 + total branches
kind_parts (RawStmtKind-F.When guard e body) = 1 + total body
kind_parts (RawStmtKind-F.Repeat body) = 1 + total body
kind_parts (RawStmtKind-F.Until body e) = 1 + total body
kind_parts (RawStmtKind-F.While e body) = 1 + total body
kind_parts (RawStmtKind-F.Return e) = 1

-- an arm counts one, and the parts of its block
abbrev pub arm_parts : RawArm-F ℕ ℕ ℕ ℕ → ℕ
arm_parts arm = 1 + total arm.body

-- a branch counts one, and the parts of its block
abbrev pub branch_parts : RawBranch-F ℕ ℕ ℕ ℕ → ℕ
branch_parts branch = 1 + total branch.body

-- a statement has the parts of its kind
abbrev pub stmt_layer_parts : RawStmt-F ℕ ℕ ℕ ℕ → ℕ
stmt_layer_parts s = s.what

-- a statement and the statements, arms and branches in it, each once
abbrev pub parts_of_stmt : RawStmt → ℕ
parts_of_stmt = fold-RawStmt ℕ ℕ ℕ ℕ kind_parts arm_parts branch_parts stmt_layer_parts

-- the statements, arms and branches of a block at any depth, each once
abbrev pub parts_of_block : List RawStmt → ℕ
parts_of_block body = total (map parts_of_stmt body)

-- the parameters of a unit, and the parts of its body
abbrev pub parts_of_unit : RawUnit → ℕ
parts_of_unit unit = length unit.inputs + length unit.outputs + parts_of_block unit.body

-- the parts of an item; only units have any
abbrev pub parts_of_item : RawItem → ℕ
parts_of_item (Struct def) = 0
parts_of_item (Constant constant) = 0
parts_of_item (UnitItem unit) = parts_of_unit unit

-- the parameters, statements, arms and branches of all units of a raw tree
abbrev pub parts_of_items : List RawItem → ℕ
parts_of_items items = total (map parts_of_item items)
