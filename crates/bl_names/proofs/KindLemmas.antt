-- What is made of each kind of statement, and what is made behind it.
use Rattle.std.proofs.Common.{◌≡◌, List, [], ◌∷◌, ◌++◌, map, refl, sym, ap, ◌∙◌, append-nil}
use Rattle.std.specs.Prelude.{Option, Some}
use Rattle.bl_tree.specs.declared.tree.Guard.{Guard}
use Rattle.bl_tree.specs.declared.tree.Role.{Role}
use Rattle.bl_tree.specs.declared.tree.Role.TheVariants as role
use Rattle.bl_names_tree.specs.declared.expr.NamedExpr.{NamedExpr}
use Rattle.bl_names_tree.specs.declared.stmt.NamedArm.{NamedArm, roll-NamedArm}
use Rattle.bl_names_tree.specs.declared.stmt.NamedBranch.{NamedBranch}
use Rattle.bl_names_tree.specs.declared.stmt.NamedStmt.{NamedStmt}
use Rattle.bl_names_tree.specs.declared.stmt.NamedStmtKind.{NamedStmtKind}
use Rattle.bl_names_tree.specs.declared.stmt.NamedStmtKind.TheVariants as what
use Rattle.bl_names_scopes.specs.declared.kind.Kind.TheVariants as kind
use Rattle.bl_names_scopes.specs.declared.kind.Wanted.TheVariants as wanted
use Rattle.bl_names_scopes.specs.Marks.{Marks, argument_marks, declared_after, expr_marks, in_scope, optional, path_marks, target_marks, type_marks, uses}
use Rattle.bl_names_scopes.specs.Scopes.{Scopes}
use Rattle.bl_parse_tree.specs.declared.expr.RawExpr.{RawExpr}
use Rattle.bl_parse_tree.specs.declared.expr.RawTarget.{RawTarget}
use Rattle.bl_parse_tree.specs.declared.name.Name.{Name}
use Rattle.bl_parse_tree.specs.declared.stmt.RawArm.{RawArm, fold_out-RawArm, out-RawArm}
use Rattle.bl_parse_tree.specs.declared.stmt.RawConstant.{RawConstant}
use Rattle.bl_parse_tree.specs.declared.stmt.RawPath.{RawPath}
use Rattle.bl_parse_tree.specs.declared.stmt.RawStmt.{RawStmt}
use Rattle.bl_parse_tree.specs.declared.stmt.RawStmtKind.{RawStmtKind, out-RawStmtKind}
use Rattle.bl_parse_tree.specs.declared.stmt.RawStmtKind.TheOpen.{RawStmtKind-F}
use Rattle.bl_parse_tree.specs.declared.stmt.RawStmtKind.TheVariants.{Assign, Await, Call, If, Let, Return, Run, Until, Var, When, While, outs-Assign}
use Rattle.bl_parse_tree.specs.declared.stmt.RawStmtKind.TheVariants.{outs-Await, outs-Call, outs-If, outs-Let, outs-Return, outs-Run, outs-Until, outs-Var}
use Rattle.bl_parse_tree.specs.declared.stmt.RawStmtKind.TheVariants.{outs-When, outs-While}
use Rattle.bl_parse_tree.specs.declared.types.RawType.{RawType}
use Rattle.bl_names.specs.declared.state.State.{State}
use Rattle.bl_names.specs.Named.{Piece, arm_piece, arms_piece, block_piece, branch_piece, constant_piece, declaring, kind_piece, made_of_all, marks_of_all}
use Rattle.bl_names.specs.Named.{named_constant, named_var, opened, own_scope, piece_of_arm, piece_of_kind, scoped, stmt_layer_piece, stmt_piece}
use Rattle.bl_names.specs.Naming.{named_expr}
use Rattle.bl_names.specs.inner.Past.{past, with_constant, with_variable}
use Rattle.bl_names.proofs.PastLemmas.{enter-behind, past-before, past-behind, past-followed, past-plain}
use Rattle.bl_names.proofs.PieceLemmas.{kind_at, parts}
use Rattle.bl_names.proofs.StillLemmas.{Still, still_append, still_arguments, still_expr, still_optional, still_target, still_use, still_value}

-- ---- declarations

past-declaring : (state : State) (name : Name) (ty : Option RawType) (role : Role) (value : Option RawExpr) (marks : Marks) → Still marks →
    with_variable state name (named_var state.scopes name ty role) ≡ past state (declaring name ty role value (declared_after marks name kind.Variable))
past-declaring state name ty role value marks still = λ i. record state {
  scopes = enter-behind state.scopes marks name kind.Variable still i;
  constants = sym (append-nil state.constants) i;
  vars = state.vars ++ (named_var state.scopes name ty role ∷ []);
}

pub var_past : (state new : State) (kind : RawStmtKind) (name : Name) (ty : Option RawType) (value : Option RawExpr) → kind ≡ Var name ty value →
    new ≡ with_variable state name (named_var state.scopes name ty role.Variable) → new ≡ past state (piece_of_kind kind)
var_past state new kind name ty value is h =
    h ∙ past-declaring state name ty role.Variable value (optional type_marks ty ++ optional expr_marks value) (still_value ty value)
    ∙ ap (past state) (sym (kind_at kind (RawStmtKind-F.Var name ty value) (ap out-RawStmtKind is ∙ outs-Var name ty value)))

pub let_past : (state new : State) (kind : RawStmtKind) (name : Name) (ty : Option RawType) (value : RawExpr) → kind ≡ Let name ty value →
    new ≡ with_variable state name (named_var state.scopes name ty role.Fixed) → new ≡ past state (piece_of_kind kind)
let_past state new kind name ty value is h =
    h ∙ past-declaring state name ty role.Fixed (Some value) (optional type_marks ty ++ expr_marks value) (still_value ty (Some value))
    ∙ ap (past state) (sym (kind_at kind (RawStmtKind-F.Let name ty value) (ap out-RawStmtKind is ∙ outs-Let name ty value)))

pub constant_past : (state new : State) (constant : RawConstant) → new ≡ with_constant state constant.name (named_constant state.scopes constant)
    → new ≡ past state (constant_piece constant)
constant_past state new constant h =
    h ∙ (λ i. record state {
      scopes =
          enter-behind state.scopes (optional type_marks constant.ty ++ expr_marks constant.value) constant.name kind.Constant
          (still_value constant.ty (Some constant.value)) i;
      constants = state.constants ++ (named_constant state.scopes constant ∷ []);
      vars = sym (append-nil state.vars) i;
    })

-- ---- statements that declare nothing

pub assign_past : (state : State) (kind : RawStmtKind) (target : RawTarget) (e : RawExpr) → kind ≡ Assign target e →
    state ≡ past state (piece_of_kind kind)
assign_past state kind target e is =
    past-plain state (kind_piece (parts (RawStmtKind-F.Assign target e)))
    (still_append (target_marks target wanted.Variable) (expr_marks e) (still_target target wanted.Variable) (still_expr e)) refl refl
    ∙ ap (past state) (sym (kind_at kind (RawStmtKind-F.Assign target e) (ap out-RawStmtKind is ∙ outs-Assign target e)))

pub call_past : (state : State) (kind : RawStmtKind) (f : Name) (inputs : List RawExpr) (outputs : List RawPath) → kind ≡ Call f inputs outputs
    → state ≡ past state (piece_of_kind kind)
call_past state kind f inputs outputs is =
    past-plain state (kind_piece (parts (RawStmtKind-F.Call f inputs outputs)))
    (still_append (uses f wanted.Function ∷ []) (argument_marks inputs outputs) (still_use f wanted.Function) (still_arguments inputs outputs)) refl refl
    ∙ ap (past state) (sym (kind_at kind (RawStmtKind-F.Call f inputs outputs) (ap out-RawStmtKind is ∙ outs-Call f inputs outputs)))

pub await_past : (state : State) (kind : RawStmtKind) (e : RawExpr) → kind ≡ Await e → state ≡ past state (piece_of_kind kind)
await_past state kind e is =
    past-plain state (kind_piece (parts (RawStmtKind-F.Await e))) (still_expr e) refl refl
    ∙ ap (past state) (sym (kind_at kind (RawStmtKind-F.Await e) (ap out-RawStmtKind is ∙ outs-Await e)))

pub run_past : (state : State) (kind : RawStmtKind) (target : Option RawPath) (a : Name) (inputs : List RawExpr) (outputs : List RawPath)
    → kind ≡ Run target a inputs outputs →
    state ≡ past state (piece_of_kind kind)
run_past state kind target a inputs outputs is =
    past-plain state (kind_piece (parts (RawStmtKind-F.Run target a inputs outputs)))
    (still_append (optional path_marks target) (uses a wanted.Activity ∷ argument_marks inputs outputs)
    (still_optional path_marks target (λ path. still_use path.root wanted.Variable))
    (still_append (uses a wanted.Activity ∷ []) (argument_marks inputs outputs) (still_use a wanted.Activity) (still_arguments inputs outputs))) refl refl
    ∙ ap (past state) (sym (kind_at kind (RawStmtKind-F.Run target a inputs outputs) (ap out-RawStmtKind is ∙ outs-Run target a inputs outputs)))

pub return_past : (state : State) (kind : RawStmtKind) (e : Option RawExpr) → kind ≡ Return e → state ≡ past state (piece_of_kind kind)
return_past state kind e is =
    past-plain state (kind_piece (parts (RawStmtKind-F.Return e))) (still_optional expr_marks e still_expr) refl refl
    ∙ ap (past state) (sym (kind_at kind (RawStmtKind-F.Return e) (ap out-RawStmtKind is ∙ outs-Return e)))

-- ---- statements with blocks

pub if_past : (state middle new : State) (kind : RawStmtKind) (arms : List RawArm) (seen : List RawArm) (other rest : List RawStmt) → kind ≡ If arms other
    → seen ≡ arms → rest ≡ other →
    middle ≡ past state (arms_piece seen) → new ≡ past middle (own_scope (block_piece rest)) → new ≡ past state (piece_of_kind kind)
if_past state middle new kind arms seen other rest is same same_rest one two =
    two ∙ (λ i. past (one i) (own_scope (block_piece rest))) ∙ (λ i. past (past state (arms_piece (same i))) (own_scope (block_piece (same_rest i))))
    ∙ past-followed state (arms_piece arms) (own_scope (block_piece other))
    ∙ ap (past state) (sym (kind_at kind (RawStmtKind-F.If arms other) (ap out-RawStmtKind is ∙ outs-If arms other)))

pub when_past : (state new : State) (kind : RawStmtKind) (guard : Guard) (e : RawExpr) (body seen : List RawStmt) →
    kind ≡ When guard e body → seen ≡ body →
    new ≡ past state (own_scope (block_piece seen)) → new ≡ past state (piece_of_kind kind)
when_past state new kind guard e body seen is same h =
    h ∙ ap (λ body. past state (own_scope (block_piece body))) same
    ∙ past-behind state (expr_marks e) (map stmt_piece body) (λ scopes made. what.When guard (named_expr scopes e) made) (still_expr e)
    ∙ ap (past state) (sym (kind_at kind (RawStmtKind-F.When guard e body) (ap out-RawStmtKind is ∙ outs-When guard e body)))

pub when_made : (scopes : Scopes) (kind : RawStmtKind) (guard : Guard) (e : RawExpr) (body seen : List RawStmt) (test : NamedExpr) (made : List NamedStmt) →
    kind ≡ When guard e body → seen ≡ body → test ≡ named_expr scopes e → made ≡ (own_scope (block_piece seen)).made scopes
    → what.When guard test made ≡ (piece_of_kind kind).made scopes
when_made scopes kind guard e body seen test made is same test_is made_is =
    (λ i. what.When guard (test_is i) (made_is i))
    ∙ (λ i. what.When guard (named_expr scopes e) (made_of_all (map stmt_piece (same i)) (opened (sym (still_expr e scopes) i))))
    ∙ ap (λ piece. piece.made scopes) (sym (kind_at kind (RawStmtKind-F.When guard e body) (ap out-RawStmtKind is ∙ outs-When guard e body)))

pub while_past : (state new : State) (kind : RawStmtKind) (e : RawExpr) (body seen : List RawStmt) → kind ≡ While e body → seen ≡ body →
    new ≡ past state (own_scope (block_piece seen)) → new ≡ past state (piece_of_kind kind)
while_past state new kind e body seen is same h =
    h ∙ ap (λ body. past state (own_scope (block_piece body))) same
    ∙ past-behind state (expr_marks e) (map stmt_piece body) (λ scopes made. what.While (named_expr scopes e) made) (still_expr e)
    ∙ ap (past state) (sym (kind_at kind (RawStmtKind-F.While e body) (ap out-RawStmtKind is ∙ outs-While e body)))

pub while_made : (scopes : Scopes) (kind : RawStmtKind) (e : RawExpr) (body seen : List RawStmt) (test : NamedExpr) (made : List NamedStmt) →
    kind ≡ While e body → seen ≡ body → test ≡ named_expr scopes e → made ≡ (own_scope (block_piece seen)).made scopes
    → what.While test made ≡ (piece_of_kind kind).made scopes
while_made scopes kind e body seen test made is same test_is made_is =
    (λ i. what.While (test_is i) (made_is i))
    ∙ (λ i. what.While (named_expr scopes e) (made_of_all (map stmt_piece (same i)) (opened (sym (still_expr e scopes) i))))
    ∙ ap (λ piece. piece.made scopes) (sym (kind_at kind (RawStmtKind-F.While e body) (ap out-RawStmtKind is ∙ outs-While e body)))

pub until_past : (state new : State) (kind : RawStmtKind) (body seen : List RawStmt) (e : RawExpr) → kind ≡ Until body e → seen ≡ body →
    new ≡ past state (own_scope (block_piece seen)) → new ≡ past state (piece_of_kind kind)
until_past state new kind body seen e is same h =
    h ∙ ap (λ body. past state (own_scope (block_piece body))) same
    ∙ past-before state (expr_marks e) (map stmt_piece body) (λ scopes made. what.Until made (named_expr scopes e)) (still_expr e)
    ∙ ap (past state) (sym (kind_at kind (RawStmtKind-F.Until body e) (ap out-RawStmtKind is ∙ outs-Until body e)))

-- ---- arms

arm_out : (arm : RawArm) → piece_of_arm arm ≡ scoped (expr_marks (out-RawArm arm).test)
    (expr_marks (out-RawArm arm).test ++ in_scope (marks_of_all (map stmt_piece (out-RawArm arm).body)))
    (map stmt_piece (out-RawArm arm).body) (λ scopes made. roll-NamedArm (record { test = named_expr scopes (out-RawArm arm).test; body = made }))
arm_out arm =
    fold_out-RawArm (Piece NamedStmtKind) (Piece NamedArm) (Piece NamedBranch) (Piece NamedStmt) kind_piece arm_piece branch_piece stmt_layer_piece arm

pub arm_past : (state new : State) (arm : RawArm) (seen : List RawStmt) → seen ≡ (out-RawArm arm).body →
    new ≡ past state (own_scope (block_piece seen)) → new ≡ past state (piece_of_arm arm)
arm_past state new arm seen same h =
    h ∙ ap (λ body. past state (own_scope (block_piece body))) same
    ∙ past-behind state (expr_marks (out-RawArm arm).test) (map stmt_piece (out-RawArm arm).body)
    (λ scopes made. roll-NamedArm (record { test = named_expr scopes (out-RawArm arm).test; body = made })) (still_expr (out-RawArm arm).test)
    ∙ ap (past state) (sym (arm_out arm))

pub arm_made : (scopes : Scopes) (arm : RawArm) (seen : List RawStmt) (test : NamedExpr) (made : List NamedStmt) → seen ≡ (out-RawArm arm).body →
    test ≡ named_expr scopes (out-RawArm arm).test → made ≡ (own_scope (block_piece seen)).made scopes →
    roll-NamedArm (record { test = test; body = made })
    ≡ (piece_of_arm arm).made scopes
arm_made scopes arm seen test made same test_is made_is =
    (λ i. roll-NamedArm (record { test = test_is i; body = made_is i }))
    ∙ (λ i. roll-NamedArm (record {
      test = named_expr scopes (out-RawArm arm).test;
      body = made_of_all (map stmt_piece (same i)) (opened (sym (still_expr (out-RawArm arm).test scopes) i));
    }))
    ∙ ap (λ piece. piece.made scopes) (sym (arm_out arm))
