-- Steps of `specs/Types/Declared.antt` that proofs name.
use Rattle.bl_tree.specs.declared.tree.Arm.{Arm, fold-Arm}
use Rattle.bl_tree.specs.declared.tree.Branch.{Branch, fold-Branch}
use Rattle.bl_machine_prevs_laws.specs.Names.Scoped.{Scoped}
use Rattle.bl_machine_prevs_laws.specs.Types.Declared.{arm_scoped, branch_scoped, stmt_kind_scoped, stmt_layer_scoped}

-- what an arm names
abbrev pub scoped_of_arm : Arm → Scoped
scoped_of_arm = fold-Arm Scoped Scoped Scoped Scoped stmt_kind_scoped arm_scoped branch_scoped stmt_layer_scoped

-- what a branch names
abbrev pub scoped_of_branch : Branch → Scoped
scoped_of_branch = fold-Branch Scoped Scoped Scoped Scoped stmt_kind_scoped arm_scoped branch_scoped stmt_layer_scoped
