-- Where the statements of a tree and the conditions of its loops begin.
use Rattle.std.specs.Prelude.{ℕ, Bool, true, ◌&&◌, nat_lt, List, [], ◌∷◌, ◌++◌, map}
use Rattle.std.specs.List.{list_all}
use Rattle.bl_tree.specs.Reduce.{joined}
use Rattle.bl_parse_tree.specs.declared.expr.RawExpr.{RawExpr, out-RawExpr}
use Rattle.bl_parse_tree.specs.declared.item.RawItem.{RawItem}
use Rattle.bl_parse_tree.specs.declared.item.RawItem.TheVariants.{Struct, Constant, Unit as UnitItem}
use Rattle.bl_parse_tree.specs.declared.stmt.RawStmt.{RawStmt, fold-RawStmt}
use Rattle.bl_parse_tree.specs.declared.stmt.RawStmtKind.TheOpen.{RawStmtKind-F, RawArm-F, RawBranch-F, RawStmt-F}

-- where things begin in the source, in bytes, in source order
abbrev pub RawStartOffsets : Type 0
RawStartOffsets = List ℕ

-- where an expression begins
abbrev pub start_of : RawExpr → ℕ
start_of e = (out-RawExpr e).place.start

-- where the statements inside one layer of a statement and the conditions of its loops begin, from those of its arms, branches and blocks
abbrev pub stmt_kind_starts : RawStmtKind-F RawStartOffsets RawStartOffsets RawStartOffsets RawStartOffsets → RawStartOffsets
stmt_kind_starts (RawStmtKind-F.Var name ty value) = []
stmt_kind_starts (RawStmtKind-F.Let name ty value) = []
stmt_kind_starts (RawStmtKind-F.Const constant) = []
stmt_kind_starts (RawStmtKind-F.Assign target e) = []
stmt_kind_starts (RawStmtKind-F.Call f inputs outputs) = []
stmt_kind_starts (RawStmtKind-F.Await e) = []
stmt_kind_starts (RawStmtKind-F.Run target a inputs outputs) = []
stmt_kind_starts (RawStmtKind-F.If arms other) = joined arms ++ joined other
stmt_kind_starts (RawStmtKind-F.Cobegin branches) = joined branches
stmt_kind_starts (RawStmtKind-F.When guard e body) = joined body
stmt_kind_starts (RawStmtKind-F.Repeat body) = joined body
stmt_kind_starts (RawStmtKind-F.Until body e) = joined body ++ (start_of e ∷ [])
stmt_kind_starts (RawStmtKind-F.While e body) = start_of e ∷ joined body
stmt_kind_starts (RawStmtKind-F.Return e) = []

-- where the statements in an arm begin, and the conditions of loops there
abbrev pub arm_starts : RawArm-F RawStartOffsets RawStartOffsets RawStartOffsets RawStartOffsets → RawStartOffsets
arm_starts arm = joined arm.body

-- where the statements in a branch begin, and the conditions of loops there
abbrev pub branch_starts : RawBranch-F RawStartOffsets RawStartOffsets RawStartOffsets RawStartOffsets → RawStartOffsets
branch_starts branch = joined branch.body

-- where a statement begins, and then all that stands in it
abbrev pub stmt_layer_starts : RawStmt-F RawStartOffsets RawStartOffsets RawStartOffsets RawStartOffsets → RawStartOffsets
stmt_layer_starts s = s.place.start ∷ s.what

-- where a statement, those in it and the conditions of its loops begin, in source order
abbrev pub starts_of : RawStmt → RawStartOffsets
starts_of = fold-RawStmt RawStartOffsets RawStartOffsets RawStartOffsets RawStartOffsets stmt_kind_starts arm_starts branch_starts stmt_layer_starts

-- where the statements of an item begin, and the conditions of loops there; only units have any
abbrev pub item_starts : RawItem → RawStartOffsets
item_starts (Struct def) = []
item_starts (Constant constant) = []
item_starts (UnitItem unit) = joined (map starts_of unit.body)

-- where the statements and the conditions of loops of all items begin, in source order
abbrev pub all_starts : List RawItem → RawStartOffsets
all_starts items = joined (map item_starts items)

-- whether each number is less than all later ones
abbrev pub ascends : List ℕ → Bool
ascends [] = true
ascends (n ∷ rest) = list_all (nat_lt n) rest && ascends rest
