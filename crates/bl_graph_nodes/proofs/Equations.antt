-- A fold doesn't compute at a made value: each equation is by unfolding one level.
use Rattle.std.proofs.Common.{◌≡◌, List, [], ◌∷◌, map, refl, ap, ◌∙◌}
use Rattle.bl_tree.specs.declared.tree.Arm.{Arm, fold-Arm, fold_out-Arm}
use Rattle.bl_tree.specs.declared.tree.Branch.{Branch, fold-Branch, fold_out-Branch}
use Rattle.bl_tree.specs.declared.tree.Stmt.{Stmt, fold-roll-Stmt, out-Stmt, roll-Stmt, roll-out-Stmt}
use Rattle.bl_tree.specs.declared.tree.StmtKind.{fold-roll-StmtKind, out-StmtKind, roll-out-StmtKind}
use Rattle.bl_graph_nodes.specs.Laws.{PlainStatements, plain_arm, plain_branch, stmt}
use Rattle.bl_graph_nodes.specs.Plain.{Cobegin, If, Arm as PlainArm, Branch as PlainBranch, arm_plain, bodies_from, branch_plain, else_at, inside, kind_plain}
use Rattle.bl_graph_nodes.specs.Plain.{label_at, passed_one, plain_block, stmt_plain, Position, Plain}

abbrev folded_arm : Arm → PlainArm
folded_arm = fold-Arm _ PlainArm PlainBranch (Position → Plain) kind_plain arm_plain branch_plain stmt_plain

abbrev folded_branch : Branch → PlainBranch
folded_branch = fold-Branch _ PlainArm PlainBranch (Position → Plain) kind_plain arm_plain branch_plain stmt_plain

arms_are : (arms : List Arm) → map folded_arm arms ≡ map plain_arm arms
arms_are [] = refl
arms_are (arm ∷ rest) = λ i. fold_out-Arm _ _ _ _ kind_plain arm_plain branch_plain stmt_plain arm i ∷ arms_are rest i

branches_are : (branches : List Branch) → map folded_branch branches ≡ map plain_branch branches
branches_are [] = refl
branches_are (branch ∷ rest) = λ i. fold_out-Branch _ _ _ _ kind_plain arm_plain branch_plain stmt_plain branch i ∷ branches_are rest i

pub plain_statements : PlainStatements
plain_statements = record {
  declaration = λ place at k initial. rw (fold-roll-Stmt, fold-roll-StmtKind) refl;
  assignment = λ place at path e. rw (fold-roll-Stmt, fold-roll-StmtKind) refl;
  call = λ place at f inputs outputs. rw (fold-roll-Stmt, fold-roll-StmtKind) refl;
  returns = λ place at e. rw (fold-roll-Stmt, fold-roll-StmtKind) refl;
  pause = λ place at e. rw (fold-roll-Stmt, fold-roll-StmtKind) refl;
  run = λ place at target a inputs outputs. rw (fold-roll-Stmt, fold-roll-StmtKind) refl;
  guarded = λ place at guard e body. rw (fold-roll-Stmt, fold-roll-StmtKind) refl;
  endless = λ place at body. rw (fold-roll-Stmt, fold-roll-StmtKind) refl;
  until = λ place at body e. rw (fold-roll-Stmt, fold-roll-StmtKind) refl;
  while = λ place at e body. rw (fold-roll-Stmt, fold-roll-StmtKind) refl;
  branching = λ place at arm arms other. rw (fold-roll-Stmt, fold-roll-StmtKind)
      (ap (λ all. If (label_at at) place (folded_arm arm).test ((folded_arm arm).body (inside (label_at at) 0))
      (else_at (passed_one (label_at at)) all (plain_block other))) (arms_are arms)
      ∙ ap (λ made. If (label_at at) place made.test (made.body (inside (label_at at) 0))
      (else_at (passed_one (label_at at)) (map plain_arm arms) (plain_block other)))
      (fold_out-Arm _ _ _ _ kind_plain arm_plain branch_plain stmt_plain arm));
  parallel = λ place at branches. rw (fold-roll-Stmt, fold-roll-StmtKind)
      (ap (λ all. Cobegin (label_at at) place (bodies_from all 0 (label_at at))) (branches_are branches));
}

pub made_of_parts : (s : Stmt) → stmt (out-Stmt s).place (out-StmtKind (out-Stmt s).what) ≡ s
made_of_parts s = ap (λ kind. roll-Stmt (record { place = (out-Stmt s).place; what = kind })) (roll-out-StmtKind (out-Stmt s).what) ∙ roll-out-Stmt s
