-- Steps of `specs/Depths.antt` that proofs name.
use Rattle.std.specs.Prelude.{ℕ}
use Rattle.bl_tree.specs.Depths.{Depth}
use Rattle.bl_names_tree.specs.declared.expr.NamedPart.{NamedPart, fold-NamedPart}
use Rattle.bl_names_tree.specs.declared.stmt.NamedArm.{NamedArm, fold-NamedArm}
use Rattle.bl_names_tree.specs.declared.stmt.NamedBranch.{NamedBranch, fold-NamedBranch}
use Rattle.bl_names_laws.specs.Depths.{arm_depth, branch_depth, expr_layer_depth, kind_depth, part_depth, stmt_kind_depth, stmt_layer_depth, target_layer_depth}

-- the nesting depth of a part of a target
abbrev pub step_depth : NamedPart → ℕ
step_depth = fold-NamedPart ℕ ℕ ℕ ℕ kind_depth part_depth expr_layer_depth target_layer_depth

-- the depths of the blocks of an arm and of the expressions in it
abbrev pub depth_of_arm : NamedArm → Depth
depth_of_arm = fold-NamedArm Depth Depth Depth Depth stmt_kind_depth arm_depth branch_depth stmt_layer_depth

-- the depths of the blocks of a branch and of the expressions in it
abbrev pub depth_of_branch : NamedBranch → Depth
depth_of_branch = fold-NamedBranch Depth Depth Depth Depth stmt_kind_depth arm_depth branch_depth stmt_layer_depth
