-- Where the variables that a named tree names are declared: before the place that names them, in its block or in one around it.
use Rattle.std.specs.Prelude.{Bool, [], ◌++◌, map}
use Rattle.bl_names_tree.specs.declared.item.NamedUnit.{NamedUnit}
use Rattle.bl_names_tree.specs.declared.stmt.NamedStmt.{NamedStmt, fold-NamedStmt}
use Rattle.bl_names_tree.specs.declared.stmt.NamedStmtKind.TheOpen.{NamedStmtKind-F, NamedArm-F, NamedBranch-F, NamedStmt-F}
use Rattle.bl_names_tree.specs.Placed.{parameters}
use Rattle.bl_names_laws.specs.Apart.{argument_roots, optional_roots, roots_in, roots_in_target, taker_roots}
use Rattle.bl_machine_prevs_laws.specs.Names.Scoped.{Scoped, block_and_condition, declaring, first_ones, naming, scoped_arms, scoped_block, scoped_branches}
use Rattle.bl_machine_prevs_laws.specs.Names.Scoped.{stand_in_turn}

-- the declared variables and scoping of one layer of a statement, from those of its arms, branches and blocks
abbrev pub stmt_kind_scoped : NamedStmtKind-F Scoped Scoped Scoped Scoped → Scoped
stmt_kind_scoped (NamedStmtKind-F.Declare k value) = declaring k (optional_roots value)
stmt_kind_scoped (NamedStmtKind-F.Const k) = naming []
stmt_kind_scoped (NamedStmtKind-F.Assign target e) = naming (roots_in_target target ++ roots_in e)
stmt_kind_scoped (NamedStmtKind-F.Call at f inputs outputs) = naming (argument_roots inputs outputs)
stmt_kind_scoped (NamedStmtKind-F.Await e) = naming (roots_in e)
stmt_kind_scoped (NamedStmtKind-F.Run target at a inputs outputs) = naming (taker_roots target ++ argument_roots inputs outputs)
stmt_kind_scoped (NamedStmtKind-F.If arms other) = scoped_arms arms other
stmt_kind_scoped (NamedStmtKind-F.Cobegin parts) = scoped_branches parts
stmt_kind_scoped (NamedStmtKind-F.When guard e body) = block_and_condition (roots_in e) body
stmt_kind_scoped (NamedStmtKind-F.Repeat body) = scoped_block body
stmt_kind_scoped (NamedStmtKind-F.Until body e) = block_and_condition (roots_in e) body
stmt_kind_scoped (NamedStmtKind-F.While e body) = block_and_condition (roots_in e) body
stmt_kind_scoped (NamedStmtKind-F.Return e) = naming (optional_roots e)

-- an arm of an `if`: its condition and its block
abbrev pub arm_scoped : NamedArm-F Scoped Scoped Scoped Scoped → Scoped
arm_scoped arm = block_and_condition (roots_in arm.test) arm.body

-- the scoping of a branch, which is that of its block
abbrev pub branch_scoped : NamedBranch-F Scoped Scoped Scoped Scoped → Scoped
branch_scoped branch = scoped_block branch.body

-- a statement declares and names what its kind does, wherever it stands
abbrev pub stmt_layer_scoped : NamedStmt-F Scoped Scoped Scoped Scoped → Scoped
stmt_layer_scoped s = s.what

-- what a statement declares for those that follow it in its block, and whether it names known variables alone
abbrev pub scoped_of : NamedStmt → Scoped
scoped_of = fold-NamedStmt Scoped Scoped Scoped Scoped stmt_kind_scoped arm_scoped branch_scoped stmt_layer_scoped

-- whether the body of a unit names only parameters, and variables that are declared before in the same block or in one around it
abbrev pub body_declared : NamedUnit → Bool
body_declared unit = stand_in_turn (map scoped_of unit.body) (first_ones (parameters unit))
