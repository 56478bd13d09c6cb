-- What a statement comes to, and what it declares, by its kind.
use Rattle.std.proofs.Common.{◌≡◌, refl}
use Rattle.bl_tree.specs.declared.place.Place.{Place}
use Rattle.bl_tree.specs.declared.tree.Arm.{Arm}
use Rattle.bl_tree.specs.declared.tree.Branch.{Branch}
use Rattle.bl_tree.specs.declared.tree.Stmt.{Stmt}
use Rattle.bl_tree.specs.declared.tree.StmtKind.{StmtKind}
use Rattle.std.specs.Prelude.{List}
use Rattle.bl_names_tree.specs.declared.item.NamedConstant.{NamedConstant}
use Rattle.bl_names_tree.specs.declared.item.NamedVar.{NamedVar}
use Rattle.bl_names_tree.specs.declared.stmt.NamedArm.{NamedArm}
use Rattle.bl_names_tree.specs.declared.stmt.NamedBranch.{NamedBranch}
use Rattle.bl_names_tree.specs.declared.stmt.NamedStmt.{NamedStmt, fold-roll-NamedStmt}
use Rattle.bl_names_tree.specs.declared.stmt.NamedStmtKind.{NamedStmtKind, fold-NamedStmtKind, fold-roll-NamedStmtKind, map-NamedStmtKind}
use Rattle.bl_names_tree.specs.declared.stmt.NamedStmtKind.TheOpen.{NamedStmtKind-F}
use Rattle.bl_names_tree.specs.Placed.{PlacedStep, arm_step, branch_step, stmt_kind_step, stmt_layer_step, stmt_step}
use Rattle.bl_names_tree.specs.inner.Placed.{step_of_arm, step_of_branch}
use Rattle.bl_types.specs.Statements.{StatementJudgement, arm_walked, branch_walked, walked_arm, walked_branch, walked_kind, walked_layer, walked_stmt}
use Rattle.bl_types_laws.proofs.NamedStmtInduction.{stmt}

abbrev pub Layer : Type 0
Layer = NamedStmtKind-F NamedStmtKind NamedArm NamedBranch NamedStmt

module _ (constants : List NamedConstant) (vars : List NamedVar) where
  abbrev pub walked_by : Layer → Place → StatementJudgement StmtKind
  walked_by layer = walked_kind constants vars
      (map-NamedStmtKind NamedStmtKind NamedArm NamedBranch NamedStmt (Place → StatementJudgement StmtKind) (StatementJudgement Arm) (StatementJudgement Branch) (StatementJudgement Stmt)
      (fold-NamedStmtKind (Place → StatementJudgement StmtKind) (StatementJudgement Arm) (StatementJudgement Branch) (StatementJudgement Stmt) (walked_kind constants vars) walked_arm walked_branch walked_layer)
      (arm_walked constants vars) (branch_walked constants vars) (walked_stmt constants vars) layer)

  abbrev pub step_by : Layer → PlacedStep
  step_by layer = stmt_kind_step vars constants
      (map-NamedStmtKind NamedStmtKind NamedArm NamedBranch NamedStmt PlacedStep PlacedStep PlacedStep PlacedStep
      (fold-NamedStmtKind PlacedStep PlacedStep PlacedStep PlacedStep (stmt_kind_step vars constants) arm_step branch_step stmt_layer_step)
      (step_of_arm vars constants) (step_of_branch vars constants) (stmt_step vars constants) layer)

  pub walked_is : (place : Place) (layer : Layer) → walked_stmt constants vars (stmt place layer)
      ≡ walked_layer (record { place = place; what = walked_by layer })
  walked_is place layer = rw (fold-roll-NamedStmt, fold-roll-NamedStmtKind) refl

  pub step_is : (place : Place) (layer : Layer) → stmt_step vars constants (stmt place layer) ≡ step_by layer
  step_is place layer = rw (fold-roll-NamedStmt, fold-roll-NamedStmtKind) refl
