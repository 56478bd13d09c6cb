-- Where the statements of a named tree and the conditions of its loops begin.
use Rattle.std.specs.Prelude.{ℕ, List, [], ◌∷◌, ◌++◌, map}
use Rattle.bl_tree.specs.Reduce.{joined}
use Rattle.bl_names_tree.specs.declared.expr.NamedExpr.{NamedExpr, out-NamedExpr}
use Rattle.bl_names_tree.specs.declared.item.NamedUnit.{NamedUnit}
use Rattle.bl_names_tree.specs.declared.named.Named.{Named}
use Rattle.bl_names_tree.specs.declared.stmt.NamedStmt.{NamedStmt, fold-NamedStmt}
use Rattle.bl_names_tree.specs.declared.stmt.NamedStmtKind.TheOpen.{NamedStmtKind-F, NamedArm-F, NamedBranch-F, NamedStmt-F}

-- where things begin in the source, in bytes, in source order
abbrev pub NamedStartOffsets : Type 0
NamedStartOffsets = List ℕ

-- where an expression begins
abbrev pub start_of : NamedExpr → ℕ
start_of e = (out-NamedExpr e).place.start

-- where the statements inside one layer of a statement and the conditions of its loops begin, from those of its arms, branches and blocks
abbrev pub stmt_kind_starts : NamedStmtKind-F NamedStartOffsets NamedStartOffsets NamedStartOffsets NamedStartOffsets → NamedStartOffsets
stmt_kind_starts (NamedStmtKind-F.Declare k value) = []
stmt_kind_starts (NamedStmtKind-F.Const k) = []
stmt_kind_starts (NamedStmtKind-F.Assign target e) = []
stmt_kind_starts (NamedStmtKind-F.Call at f inputs outputs) = []
stmt_kind_starts (NamedStmtKind-F.Await e) = []
stmt_kind_starts (NamedStmtKind-F.Run target at a inputs outputs) = []
stmt_kind_starts (NamedStmtKind-F.If arms other) = joined arms ++ joined other
stmt_kind_starts (NamedStmtKind-F.Cobegin branches) = joined branches
stmt_kind_starts (NamedStmtKind-F.When guard e body) = joined body
stmt_kind_starts (NamedStmtKind-F.Repeat body) = joined body
stmt_kind_starts (NamedStmtKind-F.Until body e) = joined body ++ (start_of e ∷ [])
stmt_kind_starts (NamedStmtKind-F.While e body) = start_of e ∷ joined body
stmt_kind_starts (NamedStmtKind-F.Return e) = []

-- where the statements in an arm begin, and the conditions of loops there
abbrev pub arm_starts : NamedArm-F NamedStartOffsets NamedStartOffsets NamedStartOffsets NamedStartOffsets → NamedStartOffsets
arm_starts arm = joined arm.body

-- where the statements in a branch begin, and the conditions of loops there
abbrev pub branch_starts : NamedBranch-F NamedStartOffsets NamedStartOffsets NamedStartOffsets NamedStartOffsets → NamedStartOffsets
branch_starts branch = joined branch.body

-- where a statement begins, and then all that stands in it
abbrev pub stmt_layer_starts : NamedStmt-F NamedStartOffsets NamedStartOffsets NamedStartOffsets NamedStartOffsets → NamedStartOffsets
stmt_layer_starts s = s.place.start ∷ s.what

-- where a statement, those in it and the conditions of its loops begin, in source order
abbrev pub starts_of : NamedStmt → NamedStartOffsets
starts_of = fold-NamedStmt NamedStartOffsets NamedStartOffsets NamedStartOffsets NamedStartOffsets stmt_kind_starts arm_starts branch_starts stmt_layer_starts

-- where the statements of a unit and the conditions of its loops begin
abbrev pub unit_starts : NamedUnit → NamedStartOffsets
unit_starts unit = joined (map starts_of unit.body)

-- where the statements and the conditions of loops of all units begin, in source order
abbrev pub all_starts : Named → NamedStartOffsets
all_starts named = joined (map unit_starts named.units)
