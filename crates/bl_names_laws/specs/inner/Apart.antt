-- Steps of `specs/Apart.antt` that proofs name.
use Rattle.bl_tree.specs.Apart.{Naming, Roots}
use Rattle.bl_names_tree.specs.declared.expr.NamedPart.{NamedPart, fold-NamedPart}
use Rattle.bl_names_tree.specs.declared.stmt.NamedArm.{NamedArm, fold-NamedArm}
use Rattle.bl_names_tree.specs.declared.stmt.NamedBranch.{NamedBranch, fold-NamedBranch}
use Rattle.bl_names_laws.specs.Apart.{arm_naming, branch_naming, expr_layer_roots, kind_roots, part_roots, stmt_kind_naming, stmt_layer_naming}
use Rattle.bl_names_laws.specs.Apart.{target_layer_roots}

-- the variables that a part of a target names
abbrev pub roots_in_step : NamedPart → Roots
roots_in_step = fold-NamedPart Roots Roots Roots Roots kind_roots part_roots expr_layer_roots target_layer_roots

-- the variables that an arm names, and those it declares
abbrev pub naming_of_arm : NamedArm → Naming
naming_of_arm = fold-NamedArm Naming Naming Naming Naming stmt_kind_naming arm_naming branch_naming stmt_layer_naming

-- the variables that a branch names, and those it declares
abbrev pub naming_of_branch : NamedBranch → Naming
naming_of_branch = fold-NamedBranch Naming Naming Naming Naming stmt_kind_naming arm_naming branch_naming stmt_layer_naming
