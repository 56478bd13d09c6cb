-- What parts of a program do to the open scopes: those around them stay, and each variable that they declare is counted.
use Rattle.std.proofs.Common.{◌≡◌, ◌+◌, List, [], ◌∷◌, ◌++◌, map, length, refl, sym, ap, subst, ◌∙◌, append-nil}
use Rattle.std.specs.Prelude.{All, Option, Some}
use Rattle.std.proofs.lemmas.List.{length-append}
use Rattle.std.proofs.lemmas.List.Elements.{All-head, All-tail}
use Rattle.bl_tree.proofs.Basics.{plus_none}
use Rattle.bl_tree.specs.declared.place.Place.{Place}
use Rattle.bl_tree.specs.declared.tree.Role.{Role}
use Rattle.bl_tree.specs.declared.tree.Role.TheVariants as role
use Rattle.bl_names_tree.specs.declared.item.NamedVar.{NamedVar}
use Rattle.bl_parse_tree.specs.declared.expr.RawExpr.{RawExpr}
use Rattle.bl_parse_tree.specs.declared.name.Name.{Name}
use Rattle.bl_parse_tree.specs.declared.stmt.RawArm.{RawArm}
use Rattle.bl_parse_tree.specs.declared.stmt.RawBranch.{RawBranch}
use Rattle.bl_parse_tree.specs.declared.stmt.RawConstant.{RawConstant}
use Rattle.bl_parse_tree.specs.declared.stmt.RawStmt.{RawStmt}
use Rattle.bl_parse_tree.specs.declared.stmt.RawStmtKind.TheOpen.{RawStmtKind-F}
use Rattle.bl_parse_tree.specs.declared.types.RawType.{RawType}
use Rattle.bl_names_scopes.specs.declared.kind.Kind.TheVariants as kind
use Rattle.bl_names_scopes.specs.declared.kind.Wanted.TheVariants as wanted
use Rattle.bl_names_scopes.specs.Marks.{Marks, argument_marks, closes, constant_marks, declares, expr_marks, in_scope, optional, path_marks, target_marks}
use Rattle.bl_names_scopes.specs.Marks.{type_marks, uses}
use Rattle.bl_names_scopes.specs.Scopes.{Scopes, after, scopes_outside}
use Rattle.bl_names.specs.Named.{Piece, kind_piece, marks_of_all, named_var, none, opened, piece_of_arm, piece_of_branch, stmt_piece, vars_of_all}
use Rattle.bl_names.proofs.PastLemmas.{enter-behind, sums}
use Rattle.bl_names.proofs.PieceLemmas.{arm_is, branch_is, parts, stmt_is}
use Rattle.bl_names.proofs.RawStmtInduction.{Cases, induct, induct_arm, induct_branch, stmt}
use Rattle.bl_names.proofs.StillLemmas.{Still, after-append, still_append, still_arguments, still_expr, still_optional, still_target, still_use, still_value}
use Rattle.bl_names_laws.proofs.Made.{RawLayer}

-- from the scopes before a part to those behind it, with the variables that it declares
pub record Moves (scopes new : Scopes) (vars : List NamedVar) : Type 0 where
  pub outer : new.outer ≡ scopes.outer
  pub more : new.counts.variables ≡ scopes.counts.variables + length vars

-- so these marks move, where these are the variables
abbrev pub Moving : Marks → (Scopes → List NamedVar) → Type 0
Moving marks vars = (scopes : Scopes) → Moves scopes (after scopes marks) (vars scopes)

moves_then : (scopes middle new : Scopes) (vars more : List NamedVar) → Moves scopes middle vars → Moves middle new more → Moves scopes new (vars ++ more)
moves_then scopes middle new vars more one two = record {
  outer = two.outer ∙ one.outer;
  more = sums scopes.counts.variables middle.counts.variables new.counts.variables (length vars) (length more) one.more two.more
      ∙ ap (λ n. scopes.counts.variables + n) (sym (length-append vars more));
}

pub moving_still : (marks : Marks) → Still marks → Moving marks none
moving_still marks still scopes = subst (λ new. Moves scopes new []) (sym (still scopes)) (record { outer = refl; more = plus_none scopes.counts.variables })

pub moving_then : (first second : Marks) (vars more : Scopes → List NamedVar) → Moving first vars → Moving second more
    → Moving (first ++ second) (λ scopes. vars scopes ++ more (after scopes first))
moving_then first second vars more one two scopes =
    subst (λ new. Moves scopes new (vars scopes ++ more (after scopes first))) (sym (after-append scopes first second))
    (moves_then scopes (after scopes first) (after (after scopes first) second) (vars scopes) (more (after scopes first)) (one scopes)
    (two (after scopes first)))

-- behind a scope of its own, what was open before is open again
pub own_is : (marks : Marks) (vars : Scopes → List NamedVar) → Moving marks vars → (scopes : Scopes) →
    after scopes (in_scope marks) ≡ record scopes { counts = (after (opened scopes) marks).counts }
own_is marks vars moving scopes =
    after-append (opened scopes) marks (closes ∷ []) ∙ ap (λ outer. scopes_outside outer (after (opened scopes) marks).counts) (moving (opened scopes)).outer

pub moving_own : (marks : Marks) (vars : Scopes → List NamedVar) → Moving marks vars → Moving (in_scope marks) (λ scopes. vars (opened scopes))
moving_own marks vars moving scopes =
    subst (λ new. Moves scopes new (vars (opened scopes))) (sym (own_is marks vars moving scopes))
    (record { outer = refl; more = (moving (opened scopes)).more })

pub moving_declared : (marks : Marks) → Still marks → (name : Name) (ty : Option RawType) (role : Role)
    → Moving (marks ++ (declares name kind.Variable ∷ [])) (λ scopes. named_var scopes name ty role ∷ [])
moving_declared marks still name ty role scopes =
    subst (λ new. Moves scopes new (named_var scopes name ty role ∷ [])) (enter-behind scopes marks name kind.Variable still)
    (record { outer = refl; more = refl })

moving_constant : (constant : RawConstant) → Moving (constant_marks constant) none
moving_constant constant scopes =
    subst (λ new. Moves scopes new []) (enter-behind scopes (optional type_marks constant.ty ++ expr_marks constant.value) constant.name kind.Constant
    (still_value constant.ty (Some constant.value)))
    (record { outer = refl; more = plus_none scopes.counts.variables })

-- ---- statements

abbrev pub PieceMoves : {A : Type 0} → Piece A → Type 0
PieceMoves piece = Moving piece.marks piece.vars

pub moving_all : {X A : Type 0} (piece : X → Piece A) (xs : List X) → All (λ x. PieceMoves (piece x)) xs
    → Moving (marks_of_all (map piece xs)) (vars_of_all (map piece xs))
moving_all piece [] each = moving_still [] (λ scopes. refl)
moving_all piece (x ∷ xs) each =
    moving_then (piece x).marks (marks_of_all (map piece xs)) (piece x).vars (vars_of_all (map piece xs))
    (All-head (λ x. PieceMoves (piece x)) x xs each) (moving_all piece xs (All-tail (λ x. PieceMoves (piece x)) x xs each))

abbrev StmtMoves : RawStmt → Type 0
StmtMoves s = PieceMoves (stmt_piece s)

abbrev ArmMoves : RawArm → Type 0
ArmMoves arm = PieceMoves (piece_of_arm arm)

abbrev BranchMoves : RawBranch → Type 0
BranchMoves branch = PieceMoves (piece_of_branch branch)

abbrev body_marks : List RawStmt → Marks
body_marks body = marks_of_all (map stmt_piece body)

abbrev body_vars : List RawStmt → Scopes → List NamedVar
body_vars body = vars_of_all (map stmt_piece body)

own_body : (body : List RawStmt) → All StmtMoves body → Moving (in_scope (body_marks body)) (λ scopes. body_vars body (opened scopes))
own_body body each = moving_own (body_marks body) (body_vars body) (moving_all stmt_piece body each)

-- a body behind a condition
tested_body : (e : RawExpr) (body : List RawStmt) → All StmtMoves body
    → Moving (expr_marks e ++ in_scope (body_marks body)) (λ scopes. body_vars body (opened (after scopes (expr_marks e))))
tested_body e body each =
    moving_then (expr_marks e) (in_scope (body_marks body)) none (λ scopes. body_vars body (opened scopes)) (moving_still (expr_marks e) (still_expr e))
    (own_body body each)

-- a body before one
until_body : (e : RawExpr) (body : List RawStmt) → All StmtMoves body
    → Moving (in_scope (body_marks body) ++ expr_marks e) (λ scopes. body_vars body (opened scopes))
until_body e body each scopes =
    subst (Moves scopes (after scopes (in_scope (body_marks body) ++ expr_marks e))) (append-nil (body_vars body (opened scopes)))
    (moving_then (in_scope (body_marks body)) (expr_marks e) (λ scopes. body_vars body (opened scopes)) none (own_body body each)
    (moving_still (expr_marks e) (still_expr e)) scopes)

stmt_moving : (place : Place) (layer : RawLayer) → PieceMoves (kind_piece (parts layer)) → StmtMoves (stmt place layer)
stmt_moving place layer moving = subst PieceMoves (sym (stmt_is place layer)) moving

cases : Cases StmtMoves ArmMoves BranchMoves
cases = record {
  var = λ place name ty value. stmt_moving place (RawStmtKind-F.Var name ty value)
      (moving_declared (optional type_marks ty ++ optional expr_marks value) (still_value ty value) name ty role.Variable);
  fixed = λ place name ty value. stmt_moving place (RawStmtKind-F.Let name ty value)
      (moving_declared (optional type_marks ty ++ expr_marks value) (still_value ty (Some value)) name ty role.Fixed);
  constant = λ place constant. stmt_moving place (RawStmtKind-F.Const constant) (moving_constant constant);
  assign = λ place target e. stmt_moving place (RawStmtKind-F.Assign target e)
      (moving_still (target_marks target wanted.Variable ++ expr_marks e)
      (still_append (target_marks target wanted.Variable) (expr_marks e) (still_target target wanted.Variable) (still_expr e)));
  call = λ place f inputs outputs. stmt_moving place (RawStmtKind-F.Call f inputs outputs)
      (moving_still (uses f wanted.Function ∷ argument_marks inputs outputs)
      (still_append (uses f wanted.Function ∷ []) (argument_marks inputs outputs) (still_use f wanted.Function) (still_arguments inputs outputs)));
  await = λ place e. stmt_moving place (RawStmtKind-F.Await e) (moving_still (expr_marks e) (still_expr e));
  run = λ place target a inputs outputs. stmt_moving place (RawStmtKind-F.Run target a inputs outputs)
      (moving_still (optional path_marks target ++ (uses a wanted.Activity ∷ argument_marks inputs outputs))
      (still_append (optional path_marks target) (uses a wanted.Activity ∷ argument_marks inputs outputs)
      (still_optional path_marks target (λ path. still_use path.root wanted.Variable))
      (still_append (uses a wanted.Activity ∷ []) (argument_marks inputs outputs) (still_use a wanted.Activity) (still_arguments inputs outputs))));
  branching = λ place arms other in_arms in_other. stmt_moving place (RawStmtKind-F.If arms other)
      (moving_then (marks_of_all (map piece_of_arm arms)) (in_scope (body_marks other)) (vars_of_all (map piece_of_arm arms))
      (λ scopes. body_vars other (opened scopes))
      (moving_all piece_of_arm arms in_arms) (own_body other in_other));
  cobegin = λ place branches in_branches. stmt_moving place (RawStmtKind-F.Cobegin branches) (moving_all piece_of_branch branches in_branches);
  guarded = λ place guard e body each. stmt_moving place (RawStmtKind-F.When guard e body) (tested_body e body each);
  repeat = λ place body each. stmt_moving place (RawStmtKind-F.Repeat body) (own_body body each);
  until = λ place body e each. stmt_moving place (RawStmtKind-F.Until body e) (until_body e body each);
  while = λ place e body each. stmt_moving place (RawStmtKind-F.While e body) (tested_body e body each);
  returns = λ place e. stmt_moving place (RawStmtKind-F.Return e) (moving_still (optional expr_marks e) (still_optional expr_marks e still_expr));
  arm = λ test body each. subst PieceMoves (sym (arm_is test body)) (tested_body test body each);
  branch = λ weak body each. subst PieceMoves (sym (branch_is weak body)) (own_body body each);
}

-- every statement, arm and branch
pub stmt_moves : (s : RawStmt) → StmtMoves s
stmt_moves = induct StmtMoves ArmMoves BranchMoves cases

pub arm_moves : (arm : RawArm) → ArmMoves arm
arm_moves = induct_arm StmtMoves ArmMoves BranchMoves cases

pub branch_moves : (branch : RawBranch) → BranchMoves branch
branch_moves = induct_branch StmtMoves ArmMoves BranchMoves cases

pub body_moves : (body : List RawStmt) → Moving (body_marks body) (body_vars body)
body_moves body = moving_all stmt_piece body (λ k d within. stmt_moves _)
