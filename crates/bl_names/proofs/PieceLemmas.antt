-- What the parts of statements are, and what they do to names.
use Rattle.std.proofs.Common.{◌≡◌, Bool, List, [], ◌∷◌, ◌++◌, map, refl, sym, ap, ◌∙◌}
use Rattle.std.specs.Prelude.{All}
use Rattle.std.proofs.lemmas.List.Elements.{All-head, All-tail}
use Rattle.bl_tree.specs.declared.place.Place.{Place}
use Rattle.bl_tree.specs.declared.tree.Role.{Role}
use Rattle.bl_tree.specs.Reduce.{joined}
use Rattle.bl_names_tree.specs.declared.stmt.NamedArm.{NamedArm}
use Rattle.bl_names_tree.specs.declared.stmt.NamedBranch.{NamedBranch}
use Rattle.bl_names_tree.specs.declared.stmt.NamedStmt.{NamedStmt}
use Rattle.bl_names_tree.specs.declared.stmt.NamedStmtKind.{NamedStmtKind}
use Rattle.bl_names_scopes.specs.Marks.{Marks, arm_layer_marks, branch_layer_marks, expr_marks, in_scope, marks_of_arm, marks_of_branch, param_marks}
use Rattle.bl_names_scopes.specs.Marks.{stmt_kind_marks, stmt_layer_marks, stmt_marks}
use Rattle.bl_parse_tree.specs.declared.expr.RawExpr.{RawExpr}
use Rattle.bl_parse_tree.specs.declared.item.RawParam.{RawParam}
use Rattle.bl_parse_tree.specs.declared.stmt.RawArm.{RawArm, fold-roll-RawArm, roll-RawArm}
use Rattle.bl_parse_tree.specs.declared.stmt.RawBranch.{RawBranch, fold-roll-RawBranch, roll-RawBranch}
use Rattle.bl_parse_tree.specs.declared.stmt.RawStmt.{RawStmt, fold-roll-RawStmt}
use Rattle.bl_parse_tree.specs.declared.stmt.RawStmtKind.{RawStmtKind, fold-RawStmtKind, fold-roll-RawStmtKind, fold_out-RawStmtKind, map-RawStmtKind, out-RawStmtKind}
use Rattle.bl_parse_tree.specs.declared.stmt.RawStmtKind.TheOpen.{RawStmtKind-F}
use Rattle.bl_names.specs.Named.{Piece, arm_piece, branch_piece, kind_piece, marks_of_all, param_piece, piece_of_arm, piece_of_branch, piece_of_kind}
use Rattle.bl_names.specs.Named.{stmt_layer_piece, stmt_piece}
use Rattle.bl_names.proofs.RawStmtInduction.{Cases, induct, stmt}

abbrev pub parts : RawStmtKind-F RawStmtKind RawArm RawBranch RawStmt
    → RawStmtKind-F (Piece NamedStmtKind) (Piece NamedArm) (Piece NamedBranch) (Piece NamedStmt)
parts =
    map-RawStmtKind RawStmtKind RawArm RawBranch RawStmt (Piece NamedStmtKind) (Piece NamedArm) (Piece NamedBranch)
    (Piece NamedStmt) piece_of_kind piece_of_arm piece_of_branch stmt_piece

pub kind_at : (kind : RawStmtKind) (layer : RawStmtKind-F RawStmtKind RawArm RawBranch RawStmt) → out-RawStmtKind kind ≡ layer
    → piece_of_kind kind ≡ kind_piece (parts layer)
kind_at kind layer is =
    fold_out-RawStmtKind (Piece NamedStmtKind) (Piece NamedArm) (Piece NamedBranch) (Piece NamedStmt) kind_piece arm_piece branch_piece stmt_layer_piece kind
    ∙ ap (λ layer. kind_piece (parts layer)) is

-- ---- parts of a program

pub stmt_is : (place : Place) (layer : RawStmtKind-F RawStmtKind RawArm RawBranch RawStmt)
    → stmt_piece (stmt place layer) ≡ stmt_layer_piece (record { place = place; what = kind_piece (parts layer) })
stmt_is place layer = rw (fold-roll-RawStmt, fold-roll-RawStmtKind) refl

pub arm_is : (test : RawExpr) (body : List RawStmt)
    → piece_of_arm (roll-RawArm (record { test = test; body = body })) ≡ arm_piece (record { test = test; body = map stmt_piece body })
arm_is test body = rw fold-roll-RawArm refl

pub branch_is : (weak : Bool) (body : List RawStmt)
    → piece_of_branch (roll-RawBranch (record { weak = weak; body = body })) ≡ branch_piece (record { weak = weak; body = map stmt_piece body })
branch_is weak body = rw fold-roll-RawBranch refl

-- ---- marks

abbrev marks_of_kind : RawStmtKind → Marks
marks_of_kind = fold-RawStmtKind Marks Marks Marks Marks stmt_kind_marks arm_layer_marks branch_layer_marks stmt_layer_marks

abbrev mark_parts : RawStmtKind-F RawStmtKind RawArm RawBranch RawStmt → RawStmtKind-F Marks Marks Marks Marks
mark_parts = map-RawStmtKind RawStmtKind RawArm RawBranch RawStmt Marks Marks Marks Marks marks_of_kind marks_of_arm marks_of_branch stmt_marks

piece_at : (place : Place) (layer : RawStmtKind-F RawStmtKind RawArm RawBranch RawStmt) → (stmt_piece (stmt place layer)).marks
    ≡ (kind_piece (parts layer)).marks
piece_at place layer = rw (fold-roll-RawStmt, fold-roll-RawStmtKind) refl

marks_at : (place : Place) (layer : RawStmtKind-F RawStmtKind RawArm RawBranch RawStmt) → stmt_marks (stmt place layer) ≡ stmt_kind_marks (mark_parts layer)
marks_at place layer = rw (fold-roll-RawStmt, fold-roll-RawStmtKind) refl

abbrev Marked : RawStmt → Type 0
Marked s = (stmt_piece s).marks ≡ stmt_marks s

abbrev MarkedArm : RawArm → Type 0
MarkedArm arm = (piece_of_arm arm).marks ≡ marks_of_arm arm

abbrev MarkedBranch : RawBranch → Type 0
MarkedBranch branch = (piece_of_branch branch).marks ≡ marks_of_branch branch

pub all_marks : {X A : Type 0} (piece : X → Piece A) (marks : X → Marks) (xs : List X) → All (λ x. (piece x).marks ≡ marks x) xs
    → marks_of_all (map piece xs) ≡ joined (map marks xs)
all_marks piece marks [] all = refl
all_marks piece marks (x ∷ xs) all =
    λ i. All-head (λ x. (piece x).marks ≡ marks x) x xs all i ++ all_marks piece marks xs (All-tail (λ x. (piece x).marks ≡ marks x) x xs all) i

same_marks : (place : Place) (layer : RawStmtKind-F RawStmtKind RawArm RawBranch RawStmt)
    → (kind_piece (parts layer)).marks ≡ stmt_kind_marks (mark_parts layer) → Marked (stmt place layer)
same_marks place layer is = piece_at place layer ∙ is ∙ sym (marks_at place layer)

marked : Cases Marked MarkedArm MarkedBranch
marked = record {
  var = λ place name ty value. same_marks place (RawStmtKind-F.Var name ty value) refl;
  fixed = λ place name ty value. same_marks place (RawStmtKind-F.Let name ty value) refl;
  constant = λ place constant. same_marks place (RawStmtKind-F.Const constant) refl;
  assign = λ place target e. same_marks place (RawStmtKind-F.Assign target e) refl;
  call = λ place f inputs outputs. same_marks place (RawStmtKind-F.Call f inputs outputs) refl;
  await = λ place e. same_marks place (RawStmtKind-F.Await e) refl;
  run = λ place target a inputs outputs. same_marks place (RawStmtKind-F.Run target a inputs outputs) refl;
  branching = λ place arms other in_arms in_other. same_marks place (RawStmtKind-F.If arms other)
      (λ i. all_marks piece_of_arm marks_of_arm arms in_arms i ++ in_scope (all_marks stmt_piece stmt_marks other in_other i));
  cobegin = λ place branches in_branches. same_marks place (RawStmtKind-F.Cobegin branches) (all_marks piece_of_branch marks_of_branch branches in_branches);
  guarded = λ place guard e body each. same_marks place (RawStmtKind-F.When guard e body)
      (ap (λ marks. expr_marks e ++ in_scope marks) (all_marks stmt_piece stmt_marks body each));
  repeat = λ place body each. same_marks place (RawStmtKind-F.Repeat body) (ap in_scope (all_marks stmt_piece stmt_marks body each));
  until = λ place body e each. same_marks place (RawStmtKind-F.Until body e)
      (ap (λ marks. in_scope marks ++ expr_marks e) (all_marks stmt_piece stmt_marks body each));
  while = λ place e body each. same_marks place (RawStmtKind-F.While e body)
      (ap (λ marks. expr_marks e ++ in_scope marks) (all_marks stmt_piece stmt_marks body each));
  returns = λ place e. same_marks place (RawStmtKind-F.Return e) refl;
  arm = λ test body each. rw (fold-roll-RawArm, fold-roll-RawArm)
      (ap (λ marks. expr_marks test ++ in_scope marks) (all_marks stmt_piece stmt_marks body each));
  branch = λ weak body each. rw (fold-roll-RawBranch, fold-roll-RawBranch) (ap in_scope (all_marks stmt_piece stmt_marks body each));
}

-- what a statement does to names
pub marks_are : (s : RawStmt) → (stmt_piece s).marks ≡ stmt_marks s
marks_are = induct Marked MarkedArm MarkedBranch marked

pub block_marks : (body : List RawStmt) → marks_of_all (map stmt_piece body) ≡ joined (map stmt_marks body)
block_marks [] = refl
block_marks (s ∷ body) = λ i. marks_are s i ++ block_marks body i

pub role_marks : (role : Role) (params : List RawParam) → marks_of_all (map (param_piece role) params) ≡ joined (map param_marks params)
role_marks role [] = refl
role_marks role (param ∷ params) = ap (λ rest. param_marks param ++ rest) (role_marks role params)
