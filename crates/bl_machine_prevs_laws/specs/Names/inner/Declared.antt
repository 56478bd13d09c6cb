-- Steps of `specs/Names/Declared.antt` that proofs name.
use Rattle.bl_names_tree.specs.declared.stmt.NamedArm.{NamedArm, fold-NamedArm}
use Rattle.bl_names_tree.specs.declared.stmt.NamedBranch.{NamedBranch, fold-NamedBranch}
use Rattle.bl_machine_prevs_laws.specs.Names.Declared.{arm_scoped, branch_scoped, stmt_kind_scoped, stmt_layer_scoped}
use Rattle.bl_machine_prevs_laws.specs.Names.Scoped.{Scoped}

-- what an arm names
abbrev pub scoped_of_arm : NamedArm → Scoped
scoped_of_arm = fold-NamedArm Scoped Scoped Scoped Scoped stmt_kind_scoped arm_scoped branch_scoped stmt_layer_scoped

-- what a branch names
abbrev pub scoped_of_branch : NamedBranch → Scoped
scoped_of_branch = fold-NamedBranch Scoped Scoped Scoped Scoped stmt_kind_scoped arm_scoped branch_scoped stmt_layer_scoped
