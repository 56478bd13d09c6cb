-- Where the variables that a typed unit names are declared: before the place that names them, in its block or in one around it.
use Rattle.std.specs.Prelude.{Bool, ◌+◌, ◌++◌, map}
use Rattle.bl_tree.specs.declared.tree.Stmt.{Stmt, fold-Stmt}
use Rattle.bl_tree.specs.declared.tree.StmtKind.TheOpen.{StmtKind-F, Arm-F, Branch-F, Stmt-F}
use Rattle.bl_tree.specs.declared.tree.Unit.{Unit as UnitDef}
use Rattle.bl_tree.specs.Apart.{argument_roots, optional_roots, roots_in, roots_in_path, target_roots}
use Rattle.bl_machine_prevs_laws.specs.Names.Scoped.{Scoped, block_and_condition, declaring, first_ones, naming, scoped_arms, scoped_block, scoped_branches}
use Rattle.bl_machine_prevs_laws.specs.Names.Scoped.{stand_in_turn}

-- the declared variables and scoping of one layer of a statement, from those of its arms, branches and blocks
abbrev pub stmt_kind_scoped : StmtKind-F Scoped Scoped Scoped Scoped → Scoped
stmt_kind_scoped (StmtKind-F.Declare k initial) = declaring k (optional_roots initial)
stmt_kind_scoped (StmtKind-F.Assign path e) = naming (roots_in_path path ++ roots_in e)
stmt_kind_scoped (StmtKind-F.Call f inputs outputs) = naming (argument_roots inputs outputs)
stmt_kind_scoped (StmtKind-F.Await e) = naming (roots_in e)
stmt_kind_scoped (StmtKind-F.Run target a inputs outputs) = naming (target_roots target ++ argument_roots inputs outputs)
stmt_kind_scoped (StmtKind-F.If arms other) = scoped_arms arms other
stmt_kind_scoped (StmtKind-F.Cobegin parts) = scoped_branches parts
stmt_kind_scoped (StmtKind-F.When guard e body) = block_and_condition (roots_in e) body
stmt_kind_scoped (StmtKind-F.Repeat body) = scoped_block body
stmt_kind_scoped (StmtKind-F.Until body e) = block_and_condition (roots_in e) body
stmt_kind_scoped (StmtKind-F.While e body) = block_and_condition (roots_in e) body
stmt_kind_scoped (StmtKind-F.Return e) = naming (optional_roots e)

-- an arm of an `if`: its condition and its block
abbrev pub arm_scoped : Arm-F Scoped Scoped Scoped Scoped → Scoped
arm_scoped arm = block_and_condition (roots_in arm.test) arm.body

-- the scoping of a branch, which is that of its block
abbrev pub branch_scoped : Branch-F Scoped Scoped Scoped Scoped → Scoped
branch_scoped branch = scoped_block branch.body

-- a statement declares and names what its kind does, wherever it stands
abbrev pub stmt_layer_scoped : Stmt-F Scoped Scoped Scoped Scoped → Scoped
stmt_layer_scoped s = s.what

-- what a statement declares for those that follow it in its block, and whether it names known variables alone
abbrev pub scoped_of : Stmt → Scoped
scoped_of = fold-Stmt Scoped Scoped Scoped Scoped stmt_kind_scoped arm_scoped branch_scoped stmt_layer_scoped

-- whether the body of a unit names only parameters, and variables that are declared before in the same block or in one around it
abbrev pub unit_declared : UnitDef → Bool
unit_declared unit = stand_in_turn (map scoped_of unit.body) (first_ones (unit.inputs + unit.outputs))
