-- Where the statements of typed units and the conditions of their loops begin.
use Rattle.std.specs.Prelude.{ℕ, List, [], ◌∷◌, ◌++◌, map}
use Rattle.bl_tree.specs.declared.tree.Expr.{Expr, out-Expr}
use Rattle.bl_tree.specs.declared.tree.Unit.{Unit as UnitDef}
use Rattle.bl_tree.specs.declared.tree.Stmt.{Stmt, fold-Stmt}
use Rattle.bl_tree.specs.declared.tree.StmtKind.TheOpen.{StmtKind-F, Arm-F, Branch-F, Stmt-F}
use Rattle.bl_tree.specs.Reduce.{joined}

-- offsets in bytes at which the statements of a text and the conditions of its loops begin, in source order
abbrev pub StatementOffsets : Type 0
StatementOffsets = List ℕ

-- where an expression begins
abbrev pub start_of : Expr → ℕ
start_of e = (out-Expr e).place.start

-- where the statements in a kind of statement and the conditions of its loops begin
abbrev pub stmt_kind_starts : StmtKind-F StatementOffsets StatementOffsets StatementOffsets StatementOffsets → StatementOffsets
stmt_kind_starts (StmtKind-F.Declare k value) = []
stmt_kind_starts (StmtKind-F.Assign path e) = []
stmt_kind_starts (StmtKind-F.Call f inputs outputs) = []
stmt_kind_starts (StmtKind-F.Await e) = []
stmt_kind_starts (StmtKind-F.Run target a inputs outputs) = []
stmt_kind_starts (StmtKind-F.If arms other) = joined arms ++ joined other
stmt_kind_starts (StmtKind-F.Cobegin branches) = joined branches
stmt_kind_starts (StmtKind-F.When guard e body) = joined body
stmt_kind_starts (StmtKind-F.Repeat body) = joined body
stmt_kind_starts (StmtKind-F.Until body e) = joined body ++ (start_of e ∷ [])
stmt_kind_starts (StmtKind-F.While e body) = start_of e ∷ joined body
stmt_kind_starts (StmtKind-F.Return e) = []

-- where the statements in an arm and the conditions of its loops begin
abbrev pub arm_layer_starts : Arm-F StatementOffsets StatementOffsets StatementOffsets StatementOffsets → StatementOffsets
arm_layer_starts arm = joined arm.body

-- where the statements in a branch and the conditions of its loops begin
abbrev pub branch_layer_starts : Branch-F StatementOffsets StatementOffsets StatementOffsets StatementOffsets → StatementOffsets
branch_layer_starts branch = joined branch.body

-- where a statement begins, and then all that stands in it
abbrev pub stmt_layer_starts : Stmt-F StatementOffsets StatementOffsets StatementOffsets StatementOffsets → StatementOffsets
stmt_layer_starts s = s.place.start ∷ s.what

-- where a statement, those in it and the conditions of its loops begin, in source order
abbrev pub starts_of : Stmt → StatementOffsets
starts_of = fold-Stmt StatementOffsets StatementOffsets StatementOffsets StatementOffsets stmt_kind_starts arm_layer_starts branch_layer_starts stmt_layer_starts

-- where the statements of a unit and the conditions of its loops begin, in source order
abbrev pub unit_starts : UnitDef → StatementOffsets
unit_starts unit = joined (map starts_of unit.body)

-- where the statements and the conditions of loops of all units begin, in source order
abbrev pub all_starts : List UnitDef → StatementOffsets
all_starts units = joined (map unit_starts units)
