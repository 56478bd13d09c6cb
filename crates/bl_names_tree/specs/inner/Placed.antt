-- Steps of `specs/Placed.antt` that proofs name.
use Rattle.std.specs.Prelude.{Bool, List}
use Rattle.bl_names_tree.specs.declared.expr.NamedPart.{NamedPart, fold-NamedPart}
use Rattle.bl_names_tree.specs.declared.item.NamedConstant.{NamedConstant}
use Rattle.bl_names_tree.specs.declared.item.NamedVar.{NamedVar}
use Rattle.bl_names_tree.specs.declared.stmt.NamedArm.{NamedArm, fold-NamedArm}
use Rattle.bl_names_tree.specs.declared.stmt.NamedBranch.{NamedBranch, fold-NamedBranch}
use Rattle.bl_names_tree.specs.Placed.{DeclaredBefore, PlacedStep, arm_step, branch_step, expr_layer_placed, kind_placed, part_placed, stmt_kind_step, stmt_layer_step}
use Rattle.bl_names_tree.specs.Placed.{target_layer_placed}

-- whether what a part of a target names is declared earlier
abbrev pub step_placed : DeclaredBefore → NamedPart → Bool
step_placed earlier = fold-NamedPart Bool Bool Bool Bool (kind_placed earlier) part_placed expr_layer_placed (target_layer_placed earlier)

-- what the statements of an arm declare, and whether what they name is declared earlier
abbrev pub step_of_arm : List NamedVar → List NamedConstant → NamedArm → PlacedStep
step_of_arm vars constants = fold-NamedArm PlacedStep PlacedStep PlacedStep PlacedStep (stmt_kind_step vars constants) arm_step branch_step stmt_layer_step

-- what the statements of a branch declare, and whether what they name is declared earlier
abbrev pub step_of_branch : List NamedVar → List NamedConstant → NamedBranch → PlacedStep
step_of_branch vars constants = fold-NamedBranch PlacedStep PlacedStep PlacedStep PlacedStep (stmt_kind_step vars constants) arm_step branch_step stmt_layer_step
