-- What a judge remembers after one part and then another.
use Rattle.std.proofs.Common.{◌≡◌, ◌+◌, ◌<◌, List, [], ◌∷◌, ◌++◌, map, refl, sym, ap, ◌∙◌}
use Rattle.std.specs.Prelude.{Result, Ok, Err, OnOk}
use Rattle.bl_tree.specs.declared.scalar.Op.{Op}
use Rattle.bl_tree.specs.declared.tree.Guard.{Guard}
use Rattle.bl_tree.specs.Reduce.{joined}
use Rattle.bl_parse_tree.specs.declared.expr.RawExpr.{RawExpr, fold_out-RawExpr, out-RawExpr}
use Rattle.bl_parse_tree.specs.declared.expr.RawExprKind.{RawExprKind, fold-RawExprKind, fold_out-RawExprKind, map-RawExprKind, out-RawExprKind}
use Rattle.bl_parse_tree.specs.declared.expr.RawExprKind.TheOpen.{RawExprKind-F}
use Rattle.bl_parse_tree.specs.declared.expr.RawExprKind.TheVariants.{Two, outs-Two}
use Rattle.bl_parse_tree.specs.declared.expr.RawPart.{RawPart}
use Rattle.bl_parse_tree.specs.declared.expr.RawTarget.{RawTarget}
use Rattle.bl_parse_tree.specs.declared.stmt.RawArm.{RawArm, fold_out-RawArm, out-RawArm}
use Rattle.bl_parse_tree.specs.declared.stmt.RawBranch.{RawBranch, fold_out-RawBranch, out-RawBranch}
use Rattle.bl_parse_tree.specs.declared.stmt.RawStmt.{RawStmt, fold_out-RawStmt, out-RawStmt}
use Rattle.bl_parse_tree.specs.declared.stmt.RawStmtKind.{RawStmtKind, fold-RawStmtKind, fold_out-RawStmtKind, map-RawStmtKind, out-RawStmtKind}
use Rattle.bl_parse_tree.specs.declared.stmt.RawStmtKind.TheOpen.{RawStmtKind-F}
use Rattle.bl_parse_tree.specs.declared.stmt.RawStmtKind.TheVariants.{Assign, If, Until, When, While, outs-Assign, outs-If, outs-Until, outs-When, outs-While}
use Rattle.bl_names_scopes.specs.declared.kind.Wanted.{Wanted}
use Rattle.bl_names_scopes.specs.declared.kind.Wanted.TheVariants as wanted
use Rattle.bl_names_scopes.specs.declared.judge.Judge.{Judge}
use Rattle.bl_names_scopes.specs.inner.Judged.{judged, judged_by}
use Rattle.bl_names_scopes.specs.Marks.{Marks, arm_layer_marks, branch_layer_marks, expr_layer_marks, expr_marks, in_scope, kind_marks, marks_of_arm}
use Rattle.bl_names_scopes.specs.Marks.{marks_of_branch, marks_of_part, part_marks, stmt_kind_marks, stmt_layer_marks, stmt_marks, target_layer_marks}
use Rattle.bl_names_scopes.specs.Marks.{target_marks}

pub judged-append : (judge : Judge) (first second : Marks) → judged_by judge (first ++ second) ≡ judged_by (judged_by judge first) second
judged-append judge [] second = refl
judged-append judge (mark ∷ first) second = judged-append (judged judge mark) first second

-- one more part
pub judged-next : {X : Type 0} (marks : X → Marks) (all rest : List X) (x : X) (judge found : Judge) → all ≡ x ∷ rest →
    judged_by judge (joined (map marks all)) ≡ found → judged_by (judged_by judge (marks x)) (joined (map marks rest)) ≡ found
judged-next marks all rest x judge found is h =
    sym (judged-append judge (marks x) (joined (map marks rest))) ∙ ap (λ l. judged_by judge (joined (map marks l))) (sym is) ∙ h

-- one part after another
pub then_is : (judge middle last : Judge) (first second whole : Marks) → middle ≡ judged_by judge first → last ≡ judged_by middle second
    → whole ≡ first ++ second → last ≡ judged_by judge whole
then_is judge middle last first second whole one two is =
    two ∙ ap (λ j. judged_by j second) one ∙ sym (judged-append judge first second) ∙ ap (judged_by judge) (sym is)

pub on_ok : {A E : Type 0} (P Q : Type 0) (r : Result A E) → (P → Q) → OnOk r P → OnOk r Q
on_ok P Q (Ok x) f h = f h
on_ok P Q (Err e) f h = h

-- ---- parts of the tree

abbrev marks_of_kind : RawExprKind → Marks
marks_of_kind = fold-RawExprKind Marks Marks Marks (Wanted → Marks) kind_marks part_marks expr_layer_marks target_layer_marks

abbrev expr_parts : RawExprKind-F RawExprKind RawPart RawExpr RawTarget → RawExprKind-F Marks Marks Marks (Wanted → Marks)
expr_parts = map-RawExprKind RawExprKind RawPart RawExpr RawTarget Marks Marks Marks (Wanted → Marks) marks_of_kind marks_of_part expr_marks target_marks

expr_at : (e : RawExpr) (layer : RawExprKind-F RawExprKind RawPart RawExpr RawTarget) → out-RawExprKind (out-RawExpr e).what ≡ layer
    → expr_marks e ≡ kind_marks (expr_parts layer)
expr_at e layer is =
    fold_out-RawExpr Marks Marks Marks (Wanted → Marks) kind_marks part_marks expr_layer_marks target_layer_marks e
    ∙ fold_out-RawExprKind Marks Marks Marks (Wanted → Marks) kind_marks part_marks expr_layer_marks target_layer_marks (out-RawExpr e).what
    ∙ ap (λ layer. kind_marks (expr_parts layer)) is

-- both operands
pub two_out : (e : RawExpr) (op : Op) (a b made_a made_b : RawExpr) → (out-RawExpr e).what ≡ Two op a b → made_a ≡ a → made_b ≡ b
    → expr_marks e ≡ expr_marks made_a ++ expr_marks made_b
two_out e op a b made_a made_b is same_a same_b =
    expr_at e (RawExprKind-F.Two op a b) (ap out-RawExprKind is ∙ outs-Two op a b) ∙ (λ i. expr_marks (sym same_a i) ++ expr_marks (sym same_b i))

pub arm_out : (arm : RawArm) → marks_of_arm arm ≡ expr_marks (out-RawArm arm).test ++ in_scope (joined (map stmt_marks (out-RawArm arm).body))
arm_out arm = fold_out-RawArm Marks Marks Marks Marks stmt_kind_marks arm_layer_marks branch_layer_marks stmt_layer_marks arm

pub branch_out : (branch : RawBranch) → marks_of_branch branch ≡ in_scope (joined (map stmt_marks (out-RawBranch branch).body))
branch_out branch = fold_out-RawBranch Marks Marks Marks Marks stmt_kind_marks arm_layer_marks branch_layer_marks stmt_layer_marks branch

abbrev marks_of_stmt_kind : RawStmtKind → Marks
marks_of_stmt_kind = fold-RawStmtKind Marks Marks Marks Marks stmt_kind_marks arm_layer_marks branch_layer_marks stmt_layer_marks

abbrev stmt_parts : RawStmtKind-F RawStmtKind RawArm RawBranch RawStmt → RawStmtKind-F Marks Marks Marks Marks
stmt_parts = map-RawStmtKind RawStmtKind RawArm RawBranch RawStmt Marks Marks Marks Marks marks_of_stmt_kind marks_of_arm marks_of_branch stmt_marks

stmt_at : (s : RawStmt) (layer : RawStmtKind-F RawStmtKind RawArm RawBranch RawStmt) → out-RawStmtKind (out-RawStmt s).what ≡ layer
    → stmt_marks s ≡ stmt_kind_marks (stmt_parts layer)
stmt_at s layer is =
    fold_out-RawStmt Marks Marks Marks Marks stmt_kind_marks arm_layer_marks branch_layer_marks stmt_layer_marks s
    ∙ fold_out-RawStmtKind Marks Marks Marks Marks stmt_kind_marks arm_layer_marks branch_layer_marks stmt_layer_marks (out-RawStmt s).what
    ∙ ap (λ layer. stmt_kind_marks (stmt_parts layer)) is

abbrev pub arms_marks : List RawArm → Marks
arms_marks arms = joined (map marks_of_arm arms)

abbrev pub body_marks : List RawStmt → Marks
body_marks body = in_scope (joined (map stmt_marks body))

-- the arms, and what is done where no test is true
pub if_out : (s : RawStmt) (arms made : List RawArm) (other rest : List RawStmt) → (out-RawStmt s).what ≡ If arms other → made ≡ arms → rest ≡ other
    → stmt_marks s ≡ arms_marks made ++ body_marks rest
if_out s arms made other rest is same same_rest =
    stmt_at s (RawStmtKind-F.If arms other) (ap out-RawStmtKind is ∙ outs-If arms other) ∙ (λ i. arms_marks (sym same i) ++ body_marks (sym same_rest i))

-- the body, and then the condition
pub until_out : (s : RawStmt) (body made : List RawStmt) (e : RawExpr) → (out-RawStmt s).what ≡ Until body e → made ≡ body
    → stmt_marks s ≡ body_marks made ++ expr_marks e
until_out s body made e is same =
    stmt_at s (RawStmtKind-F.Until body e) (ap out-RawStmtKind is ∙ outs-Until body e) ∙ (λ i. body_marks (sym same i) ++ expr_marks e)

-- the condition, and then the body
pub when_out : (s : RawStmt) (guard : Guard) (e : RawExpr) (body made : List RawStmt) → (out-RawStmt s).what ≡ When guard e body → made ≡ body
    → stmt_marks s ≡ expr_marks e ++ body_marks made
when_out s guard e body made is same =
    stmt_at s (RawStmtKind-F.When guard e body) (ap out-RawStmtKind is ∙ outs-When guard e body) ∙ (λ i. expr_marks e ++ body_marks (sym same i))

pub while_out : (s : RawStmt) (e : RawExpr) (body made : List RawStmt) → (out-RawStmt s).what ≡ While e body → made ≡ body
    → stmt_marks s ≡ expr_marks e ++ body_marks made
while_out s e body made is same =
    stmt_at s (RawStmtKind-F.While e body) (ap out-RawStmtKind is ∙ outs-While e body) ∙ (λ i. expr_marks e ++ body_marks (sym same i))

-- the target, and then the value
pub assign_out : (s : RawStmt) (target : RawTarget) (e : RawExpr) → (out-RawStmt s).what ≡ Assign target e
    → stmt_marks s ≡ target_marks target wanted.Variable ++ expr_marks e
assign_out s target e is =
    stmt_at s (RawStmtKind-F.Assign target e) (ap out-RawStmtKind is ∙ outs-Assign target e)

pub ruleset walks = (judged-append)
