-- Variables of one branch: what is declared in a branch of a `cobegin` is named in no other branch of it.
use Rattle.std.specs.Prelude.{Bool, List, [], ◌∷◌, ◌++◌, map, Option, Some, None}
use Rattle.bl_tree.specs.Apart.{Naming, Roots, and_naming, declares, naming, of_branches, together}
use Rattle.bl_tree.specs.Reduce.{joined}
use Rattle.bl_names_tree.specs.declared.expr.NamedExpr.{NamedExpr, fold-NamedExpr}
use Rattle.bl_names_tree.specs.declared.expr.NamedExprKind.TheOpen.{NamedExprKind-F, NamedPart-F, NamedExpr-F, NamedTarget-F}
use Rattle.bl_names_tree.specs.declared.expr.NamedTarget.{NamedTarget, fold-NamedTarget}
use Rattle.bl_names_tree.specs.declared.expr.Root.{Root}
use Rattle.bl_names_tree.specs.declared.expr.Root.TheVariants as root
use Rattle.bl_names_tree.specs.declared.stmt.NamedPath.{NamedPath}
use Rattle.bl_names_tree.specs.declared.stmt.NamedStmt.{NamedStmt, fold-NamedStmt}
use Rattle.bl_names_tree.specs.declared.stmt.NamedStmtKind.TheOpen.{NamedStmtKind-F, NamedArm-F, NamedBranch-F, NamedStmt-F}

-- a constant is no variable
abbrev pub roots_of : Root → Roots
roots_of (root.Variable k) = k ∷ []
roots_of (root.Constant k) = []

-- the variables that one layer of an expression names, from those of its operands
abbrev pub kind_roots : NamedExprKind-F Roots Roots Roots Roots → Roots
kind_roots (NamedExprKind-F.Number minus n) = []
kind_roots (NamedExprKind-F.Truth b) = []
kind_roots (NamedExprKind-F.Read target) = target
kind_roots (NamedExprKind-F.Prev k) = k ∷ []
kind_roots (NamedExprKind-F.One op a) = a
kind_roots (NamedExprKind-F.Two op a b) = a ++ b
kind_roots (NamedExprKind-F.Cast s a) = a
kind_roots (NamedExprKind-F.Call at f inputs) = joined inputs

-- the variables that a part of a target names: none for a field, those of its expression for an index
abbrev pub part_roots : NamedPart-F Roots Roots Roots Roots → Roots
part_roots (NamedPart-F.Field name) = []
part_roots (NamedPart-F.Index e) = e

-- an expression names what its kind names, wherever it stands
abbrev pub expr_layer_roots : NamedExpr-F Roots Roots Roots Roots → Roots
expr_layer_roots e = e.what

-- a target names its root, where that is a variable, and what its indices name
abbrev pub target_layer_roots : NamedTarget-F Roots Roots Roots Roots → Roots
target_layer_roots target = roots_of target.root ++ joined target.parts

-- the variables that an expression names
abbrev pub roots_in : NamedExpr → Roots
roots_in = fold-NamedExpr Roots Roots Roots Roots kind_roots part_roots expr_layer_roots target_layer_roots

-- the variables that a target names, its indices included
abbrev pub roots_in_target : NamedTarget → Roots
roots_in_target = fold-NamedTarget Roots Roots Roots Roots kind_roots part_roots expr_layer_roots target_layer_roots

-- a path names its root alone, as it has no indices
abbrev pub roots_in_path : NamedPath → Roots
roots_in_path path = path.root ∷ []

-- the variables that an expression names, where there is one
abbrev pub optional_roots : Option NamedExpr → Roots
optional_roots (Some e) = roots_in e
optional_roots None = []

-- the variable that takes the result of a `run`, where one does
abbrev pub taker_roots : Option NamedPath → Roots
taker_roots (Some path) = roots_in_path path
taker_roots None = []

-- the variables that the inputs and outputs of a call or `run` name
abbrev pub argument_roots : List NamedExpr → List NamedPath → Roots
argument_roots inputs outputs = joined (map roots_in inputs) ++ joined (map roots_in_path outputs)

-- the value of a constant names no variable that another branch declares: where it names one at all, rule Constant fails
abbrev pub stmt_kind_naming : NamedStmtKind-F Naming Naming Naming Naming → Naming
stmt_kind_naming (NamedStmtKind-F.Declare k value) = declares k (optional_roots value)
stmt_kind_naming (NamedStmtKind-F.Const k) = naming []
stmt_kind_naming (NamedStmtKind-F.Assign target e) = naming (roots_in_target target ++ roots_in e)
stmt_kind_naming (NamedStmtKind-F.Call at f inputs outputs) = naming (argument_roots inputs outputs)
stmt_kind_naming (NamedStmtKind-F.Await e) = naming (roots_in e)
stmt_kind_naming (NamedStmtKind-F.Run target at a inputs outputs) = naming (taker_roots target ++ argument_roots inputs outputs)
stmt_kind_naming (NamedStmtKind-F.If arms other) = together (arms ++ other)
stmt_kind_naming (NamedStmtKind-F.Cobegin branches) = of_branches branches
stmt_kind_naming (NamedStmtKind-F.When guard e body) = and_naming (roots_in e) body
stmt_kind_naming (NamedStmtKind-F.Repeat body) = together body
stmt_kind_naming (NamedStmtKind-F.Until body e) = and_naming (roots_in e) body
stmt_kind_naming (NamedStmtKind-F.While e body) = and_naming (roots_in e) body
stmt_kind_naming (NamedStmtKind-F.Return e) = naming (optional_roots e)

-- an arm of an `if` names what its condition and its block name
abbrev pub arm_naming : NamedArm-F Naming Naming Naming Naming → Naming
arm_naming arm = and_naming (roots_in arm.test) arm.body

-- a branch declares and names what its block does
abbrev pub branch_naming : NamedBranch-F Naming Naming Naming Naming → Naming
branch_naming branch = together branch.body

-- a statement declares and names what its kind does, wherever it stands
abbrev pub stmt_layer_naming : NamedStmt-F Naming Naming Naming Naming → Naming
stmt_layer_naming s = s.what

-- the variables that a statement declares, those that it names, and whether its branches keep apart
abbrev pub naming_of : NamedStmt → Naming
naming_of = fold-NamedStmt Naming Naming Naming Naming stmt_kind_naming arm_naming branch_naming stmt_layer_naming

-- whether the branches of every `cobegin` of the statement keep apart
abbrev pub is_apart : NamedStmt → Bool
is_apart s = (naming_of s).apart
