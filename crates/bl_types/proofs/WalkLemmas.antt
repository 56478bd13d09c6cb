-- Statements by their parts, and lists of them one by one.
use Rattle.std.proofs.Common.{◌≡◌, List, [], ◌∷◌, ◌++◌, map, Option, sym, ap, ◌∙◌}
use Rattle.std.specs.List.{cons_option}
use Rattle.bl_tree.specs.declared.place.Place.{Place}
use Rattle.bl_tree.specs.declared.tree.Arm.{Arm}
use Rattle.bl_tree.specs.declared.tree.Branch.{Branch}
use Rattle.bl_tree.specs.declared.tree.Guard.{Guard}
use Rattle.bl_tree.specs.declared.tree.Stmt.{Stmt}
use Rattle.bl_tree.specs.declared.tree.StmtKind.{StmtKind}
use Rattle.bl_tree.specs.declared.tree.StmtKind.TheVariants as what
use Rattle.bl_names_tree.specs.declared.expr.NamedExpr.{NamedExpr}
use Rattle.bl_names_tree.specs.declared.item.NamedConstant.{NamedConstant}
use Rattle.bl_names_tree.specs.declared.item.NamedVar.{NamedVar}
use Rattle.bl_names_tree.specs.declared.stmt.NamedArm.{NamedArm, fold_out-NamedArm, out-NamedArm}
use Rattle.bl_names_tree.specs.declared.stmt.NamedBranch.{NamedBranch}
use Rattle.bl_names_tree.specs.declared.stmt.NamedStmt.{NamedStmt, out-NamedStmt}
use Rattle.bl_names_tree.specs.declared.stmt.NamedStmtKind.{NamedStmtKind, fold-NamedStmtKind, fold_out-NamedStmtKind, map-NamedStmtKind, out-NamedStmtKind}
use Rattle.bl_names_tree.specs.declared.stmt.NamedStmtKind.TheOpen.{NamedStmtKind-F}
use Rattle.bl_names_tree.specs.declared.stmt.NamedStmtKind.TheVariants.{If, Until, When, While, outs-If, outs-Until, outs-When, outs-While}
use Rattle.bl_types.specs.declared.environment.Environment.{Environment}
use Rattle.bl_types.specs.declared.environment.State.{State}
use Rattle.bl_types.specs.inner.States.{passed}
use Rattle.bl_types.specs.Statements.{StatementJudgement, Walked, arm_of, arm_walked, branch_walked, choice, condition, in_order, kind_walked, misplaced}
use Rattle.bl_types.specs.Statements.{under, until, walked_arm, walked_block, walked_branch, walked_kind, walked_layer, walked_stmt}
use Rattle.bl_types.proofs.GatherLemmas.{kept_one}
use Rattle.bl_types.proofs.StateLemmas.{passed-passed}

-- ---- one more part of a list

module _ {X A : Type 0} (walk : X → StatementJudgement A) (all rest : List X) (x : X) (old middle : State) (is : all ≡ x ∷ rest)
    (one : middle ≡ passed old (walk x old.env).env (walk x old.env).failures) where
  pub state_part : (found : State) → passed old (in_order (map walk all) old.env).env (in_order (map walk all) old.env).failures ≡ found
      → passed middle (in_order (map walk rest) middle.env).env (in_order (map walk rest) middle.env).failures ≡ found
  state_part found h =
      ap (λ state. passed state (in_order (map walk rest) state.env).env (in_order (map walk rest) state.env).failures) one
      ∙ passed-passed old (walk x old.env).env (in_order (map walk rest) (walk x old.env).env).env (walk x old.env).failures
      (in_order (map walk rest) (walk x old.env).env).failures
      ∙ sym (ap (λ l. passed old (in_order (map walk l) old.env).env (in_order (map walk l) old.env).failures) is) ∙ h

  pub made_part : (made grown found : List A) (given : Option A) → given ≡ (walk x old.env).made →
      grown ≡ made ++ cons_option given [] → made ++ (in_order (map walk all) old.env).made ≡ found
      → grown ++ (in_order (map walk rest) middle.env).made ≡ found
  made_part made grown found given same push h =
      ap (λ state. grown ++ (in_order (map walk rest) state.env).made) one
      ∙ kept_one made grown (in_order (map walk rest) (walk x old.env).env).made found given push
      (ap (λ o. made ++ cons_option o (in_order (map walk rest) (walk x old.env).env).made) same
      ∙ sym (ap (λ l. made ++ (in_order (map walk l) old.env).made) is) ∙ h)

-- ---- statements

module _ (constants : List NamedConstant) (vars : List NamedVar) where
  abbrev kind_of : NamedStmtKind → Place → StatementJudgement StmtKind
  kind_of = fold-NamedStmtKind (Place → StatementJudgement StmtKind) (StatementJudgement Arm) (StatementJudgement Branch) (StatementJudgement Stmt) (walked_kind constants vars) walked_arm walked_branch walked_layer

  abbrev parts : NamedStmtKind-F NamedStmtKind NamedArm NamedBranch NamedStmt → NamedStmtKind-F (Place → StatementJudgement StmtKind) (StatementJudgement Arm) (StatementJudgement Branch) (StatementJudgement Stmt)
  parts =
      map-NamedStmtKind NamedStmtKind NamedArm NamedBranch NamedStmt (Place → StatementJudgement StmtKind) (StatementJudgement Arm) (StatementJudgement Branch)
      (StatementJudgement Stmt) kind_of (arm_walked constants vars) (branch_walked constants vars)
      (walked_stmt constants vars)

  kind_is : (s : NamedStmt) (layer : NamedStmtKind-F NamedStmtKind NamedArm NamedBranch NamedStmt) (env : Environment) →
      out-NamedStmtKind (out-NamedStmt s).what ≡ layer
      → kind_walked constants vars s env ≡ walked_kind constants vars (parts layer) (out-NamedStmt s).place env
  kind_is s layer env is =
      ap (λ f. f (out-NamedStmt s).place env)
      (fold_out-NamedStmtKind (Place → StatementJudgement StmtKind) (StatementJudgement Arm) (StatementJudgement Branch) (StatementJudgement Stmt)
      (walked_kind constants vars) walked_arm walked_branch walked_layer (out-NamedStmt s).what)
      ∙ ap (λ layer. walked_kind constants vars (parts layer) (out-NamedStmt s).place env) is

  pub arm_is : (arm : NamedArm) (body : List NamedStmt) (env : Environment) → body ≡ (out-NamedArm arm).body
      → arm_walked constants vars arm env ≡ under [] (condition env (out-NamedArm arm).test) (walked_block constants vars body env) arm_of
  arm_is arm body env same =
      ap (λ f. f env) (fold_out-NamedArm (Place → StatementJudgement StmtKind) (StatementJudgement Arm) (StatementJudgement Branch) (StatementJudgement Stmt)
      (walked_kind constants vars) walked_arm walked_branch walked_layer arm)
      ∙ ap (λ body. under [] (condition env (out-NamedArm arm).test) (walked_block constants vars body env) arm_of) (sym same)

  abbrev of_choice : List NamedArm → List NamedStmt → Environment → Walked StmtKind
  of_choice arms other env = choice (in_order (map (arm_walked constants vars) arms) env)
      (walked_block constants vars other (in_order (map (arm_walked constants vars) arms) env).env)

  pub if_is : (s : NamedStmt) (arms made : List NamedArm) (other rest : List NamedStmt) (env : Environment) →
      (out-NamedStmt s).what ≡ If arms other → made ≡ arms → rest ≡ other
      → kind_walked constants vars s env ≡ of_choice made rest env
  if_is s arms made other rest env is same same_rest =
      kind_is s (NamedStmtKind-F.If arms other) env (ap out-NamedStmtKind is ∙ outs-If arms other) ∙ (λ i. of_choice (sym same i) (sym same_rest i) env)

  pub when_is : (s : NamedStmt) (guard : Guard) (e : NamedExpr) (body made : List NamedStmt) (env : Environment) →
      (out-NamedStmt s).what ≡ When guard e body → made ≡ body
      → kind_walked constants vars s env ≡ under (misplaced env.kind (out-NamedStmt s).place) (condition env e)
      (walked_block constants vars made env) (what.When guard)
  when_is s guard e body made env is same =
      kind_is s (NamedStmtKind-F.When guard e body) env (ap out-NamedStmtKind is ∙ outs-When guard e body)
      ∙ ap (λ body. under (misplaced env.kind (out-NamedStmt s).place) (condition env e) (walked_block constants vars body env) (what.When guard)) (sym same)

  pub while_is : (s : NamedStmt) (e : NamedExpr) (body made : List NamedStmt) (env : Environment) → (out-NamedStmt s).what ≡ While e body → made ≡ body
      → kind_walked constants vars s env ≡ under [] (condition env e) (walked_block constants vars made env) what.While
  while_is s e body made env is same =
      kind_is s (NamedStmtKind-F.While e body) env (ap out-NamedStmtKind is ∙ outs-While e body)
      ∙ ap (λ body. under [] (condition env e) (walked_block constants vars body env) what.While) (sym same)

  pub until_is : (s : NamedStmt) (body made : List NamedStmt) (e : NamedExpr) (env : Environment) → (out-NamedStmt s).what ≡ Until body e → made ≡ body
      → kind_walked constants vars s env ≡ until (walked_block constants vars made env) (condition (walked_block constants vars made env).env e)
  until_is s body made e env is same =
      kind_is s (NamedStmtKind-F.Until body e) env (ap out-NamedStmtKind is ∙ outs-Until body e)
      ∙ ap (λ body. until (walked_block constants vars body env) (condition (walked_block constants vars body env).env e)) (sym same)
