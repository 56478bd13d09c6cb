-- Which variables a body declares: at each position the one that is named there.
use Rattle.std.proofs.Common.{◌≡◌, ℕ, zero, suc, List, [], ◌∷◌, ◌++◌, map, length, Option, Some, None, refl, ap, sym, subst, ◌∙◌}
use Rattle.std.specs.Prelude.{All, Bool, true, false, ◌&&◌, nat_eq, slice_get, if◌then◌else◌}
use Rattle.std.proofs.lemmas.Bool.{eqb-true}
use Rattle.std.proofs.lemmas.List.Elements.{All-cons, All-head, All-nil, All-tail}
use Rattle.std.proofs.lemmas.Option.{same_Some}
use Rattle.bl_tree.proofs.Basics.{and_first, and_second}
use Rattle.bl_tree.specs.declared.place.Place.{Place}
use Rattle.bl_tree.specs.declared.scalar.Scalar.{Scalar as ScalarType}
use Rattle.bl_tree.specs.declared.tree.Arm.{Arm}
use Rattle.bl_tree.specs.declared.tree.Branch.{Branch}
use Rattle.bl_tree.specs.declared.tree.Stmt.{Stmt}
use Rattle.bl_tree.specs.declared.tree.Ty.{Ty}
use Rattle.bl_eval.proofs.OperatorFits.{some_found, where_holds}
use Rattle.bl_names_tree.specs.declared.expr.NamedExpr.{NamedExpr}
use Rattle.bl_names_tree.specs.declared.item.NamedConstant.{NamedConstant}
use Rattle.bl_names_tree.specs.declared.item.NamedVar.{NamedVar}
use Rattle.bl_names_tree.specs.declared.stmt.NamedArm.{NamedArm, fold-roll-NamedArm, roll-NamedArm}
use Rattle.bl_names_tree.specs.declared.stmt.NamedBranch.{NamedBranch, fold-roll-NamedBranch, roll-NamedBranch}
use Rattle.bl_names_tree.specs.declared.stmt.NamedStmt.{NamedStmt}
use Rattle.bl_names_tree.specs.declared.stmt.NamedStmtKind.TheOpen.{NamedStmtKind-F}
use Rattle.bl_names_tree.specs.Placed.{DeclaredBefore, PlacedStep, constant_placed, declares_none, expr_placed, holds_if, holds_of, in_turn, stmt_step, tested}
use Rattle.bl_names_tree.specs.Placed.{var_placed, with_constant as constant_counted, with_variable as variable_counted}
use Rattle.bl_names_tree.specs.inner.Placed.{step_of_arm, step_of_branch}
use Rattle.bl_types.specs.declared.environment.Environment.{Environment}
use Rattle.bl_types.specs.declared.environment.Variable.{Variable}
use Rattle.bl_types.specs.Declarations.{constant_of, initial, with_variable}
use Rattle.bl_types.specs.Statements.{Block, StatementJudgement, Walked, after_optional_constant, arm_walked, branch_walked, constant_walked, declare, in_order}
use Rattle.bl_types.specs.Statements.{returned, walked_arm, walked_branch, walked_stmt}
use Rattle.bl_types_laws.proofs.TypesStand.{scalar_initial, scalar_optional}
use Rattle.bl_types.specs.Units.{is_scalar}
use Rattle.bl_types_laws.specs.Within.{known_in}
use Rattle.bl_types_laws.specs.inner.Named.{NamedAs, VariablesNamed, has_scalar}
use Rattle.bl_types_laws.proofs.StmtLayers.{Layer, step_by, step_is, walked_by, walked_is}
use Rattle.bl_types_laws.proofs.Declared.{constant_counts, variable_counts}
use Rattle.bl_types_laws.proofs.NamedStmtInduction.{Cases, induct, stmt}

-- what is known after a part of a body is as much as is counted, and variables are those that are named
pub record Turned (vars : List NamedVar) (counts : DeclaredBefore) (after : Environment) : Type 0 where
  pub counts_are : known_in after ≡ counts
  pub named : VariablesNamed vars after.vars

abbrev pub Turns : {A : Type 0} → List NamedVar → (Environment → Walked A) → PlacedStep → Type 0
Turns vars walk step = (env : Environment) (counts : DeclaredBefore) → VariablesNamed vars env.vars → step (known_in env) ≡ Some counts →
    Turned vars counts (walk env).env

turned_still : (vars : List NamedVar) (placed : Bool) (env : Environment) (counts : DeclaredBefore) → VariablesNamed vars env.vars →
    declares_none placed (known_in env) ≡ Some counts → Turned vars counts env
turned_still vars placed env counts named step = record {
  counts_are = same_Some (known_in env) counts (where_holds placed (Some (known_in env)) counts step).1;
  named = named;
}

module _ {X A : Type 0} (vars : List NamedVar) (walk : X → Environment → Walked A) (step : X → PlacedStep) where
  pub block_turns : (xs : List X) → All (λ x. Turns vars (walk x) (step x)) xs → (env : Environment) (counts : DeclaredBefore) →
      VariablesNamed vars env.vars →
      in_turn (map step xs) (known_in env) ≡ Some counts → Turned vars counts (in_order (map walk xs) env).env
  block_turns [] each env counts named is = record { counts_are = same_Some (known_in env) counts is; named = named }
  block_turns (x ∷ xs) each env counts named is =
      let found = some_found (in_turn (map step xs)) (step x (known_in env)) counts is in
      let one = All-head (λ x. Turns vars (walk x) (step x)) x xs each env found.0 named found.1 in
      block_turns xs (All-tail (λ x. Turns vars (walk x) (step x)) x xs each) (walk x env).env counts one.named
      (ap (in_turn (map step xs)) one.counts_are ∙ found.2)

-- one more behind those of which something holds at their positions
pub push_further : {A : Type 0} (P : ℕ → A → Type 0) (xs : List A) (x : A) →
    ((k : ℕ) (known : A) → slice_get xs k ≡ Some known → P k known) → P (length xs) x →
    (k : ℕ) (known : A) →
    slice_get (xs ++ x ∷ []) k ≡ Some known → P k known
push_further P [] x each one zero known is = subst (P zero) (same_Some x known is) one
push_further P [] x each one (suc k) known is = absurd (cc)
push_further P (y ∷ ys) x each one zero known is = each zero known is
push_further P (y ∷ ys) x each one (suc k) known is = push_further (λ k. P (suc k)) ys x (λ k known is. each (suc k) known is) one k known is

-- one more variable
pub push_named : (vars : List NamedVar) (xs : List Variable) (x : Variable) → VariablesNamed vars xs → NamedAs vars (length xs) x →
    VariablesNamed vars (xs ++ x ∷ [])
push_named vars xs x named one = push_further (NamedAs vars) xs x named one

module _ (constants : List NamedConstant) (vars : List NamedVar) where
  declared_turns : (k : ℕ) (var : NamedVar) (ty : Option Ty) (env : Environment) (counts : DeclaredBefore) → slice_get vars k ≡ Some var →
      k ≡ length env.vars →
      (is_scalar var.ty ≡ true → has_scalar ty ≡ true) → VariablesNamed vars env.vars → Some (variable_counted (known_in env)) ≡ Some counts →
      Turned vars counts (with_variable env var ty)
  declared_turns k var ty env counts there next scalar named count = record {
    counts_are = variable_counts env var ty counts count;
    named = push_named vars env.vars (record { name = var.name.text; place = var.name.place; ty = ty; role = var.role }) named
        (record { var = var; is_there = ap (slice_get vars) (sym next) ∙ there; name = refl; place = refl; role = refl; scalar = scalar });
  }

  declare_turns : (k : ℕ) (found : Option NamedVar) (e : Option NamedExpr) → slice_get vars k ≡ found →
      Turns vars (declare k found e) (λ earlier. if nat_eq k earlier.variables
      && (holds_of (var_placed earlier) found && holds_if (expr_placed earlier) e) then Some (variable_counted earlier) else None)
  declare_turns k None e there env counts named step =
      let holds = where_holds (nat_eq k (length env.vars) && false) (Some (variable_counted (known_in env))) counts step in
      absurd (let no = and_second (nat_eq k (length env.vars)) false holds.0 in cc)
  declare_turns k (Some var) None there env counts named step =
      let holds = where_holds (nat_eq k (length env.vars) && (var_placed (known_in env) var && true)) (Some (variable_counted (known_in env))) counts step in
      declared_turns k var _ env counts there (eqb-true k (length env.vars)
      (and_first (nat_eq k (length env.vars)) (var_placed (known_in env) var && true) holds.0)) (scalar_optional env.constants var.ty) named holds.1
  declare_turns k (Some var) (Some e) there env counts named step =
      let holds = where_holds (nat_eq k (length env.vars) && (var_placed (known_in env) var && expr_placed (known_in env) e))
      (Some (variable_counted (known_in env))) counts step in
      declared_turns k var _ env counts there (eqb-true k (length env.vars)
      (and_first (nat_eq k (length env.vars)) (var_placed (known_in env) var && expr_placed (known_in env) e) holds.0)) (scalar_initial env var.ty e) named
      holds.1

  constant_turns : (k : ℕ) (found : Option NamedConstant) →
      Turns vars (λ env. constant_walked (after_optional_constant found env))
      (λ earlier. if nat_eq k earlier.constants && holds_of (constant_placed earlier) found then Some (constant_counted earlier) else None)
  constant_turns k None env counts named step =
      let holds = where_holds (nat_eq k (length env.constants) && false) (Some (constant_counted (known_in env))) counts step in
      absurd (let no = and_second (nat_eq k (length env.constants)) false holds.0 in cc)
  constant_turns k (Some constant) env counts named step =
      let holds = where_holds (nat_eq k (length env.constants) && constant_placed (known_in env) constant) (Some (constant_counted (known_in env))) counts step
      in
      record { counts_are = constant_counts env (constant_of constant.value (initial env constant.ty constant.value).valued) counts holds.1; named = named }

  returned_env : (at : Place) (e : Option NamedExpr) (result : Option ScalarType) (env : Environment) → (returned at e result env).env ≡ env
  returned_env at (Some e) (Some s) env = refl
  returned_env at (Some e) None env = refl
  returned_env at None (Some s) env = refl
  returned_env at None None env = refl

  abbrev P : NamedStmt → Type 0
  P s = Turns vars (walked_stmt constants vars s) (stmt_step vars constants s)

  abbrev Q : NamedArm → Type 0
  Q arm = Turns vars (arm_walked constants vars arm) (step_of_arm vars constants arm)

  abbrev R : NamedBranch → Type 0
  R branch = Turns vars (branch_walked constants vars branch) (step_of_branch vars constants branch)

  by_kind : (place : Place) (layer : Layer) → Turns vars (walked_by constants vars layer place) (step_by constants vars layer) → P (stmt place layer)
  by_kind place layer turns env counts named step =
      subst (λ (walk : StatementJudgement Stmt). Turned vars counts (walk env).env) (sym (walked_is constants vars place layer))
      (turns env counts named (ap (λ (step : PlacedStep). step (known_in env)) (sym (step_is constants vars place layer)) ∙ step))

  body_turns : (body : List NamedStmt) → All P body → (env : Environment) (counts : DeclaredBefore) → VariablesNamed vars env.vars →
      in_turn (map (stmt_step vars constants) body) (known_in env) ≡ Some counts →
      Turned vars counts (in_order (map (walked_stmt constants vars) body) env).env
  body_turns body each = block_turns vars (walked_stmt constants vars) (stmt_step vars constants) body each

  tested_turns : (e : NamedExpr) (body : List NamedStmt) → All P body → (env : Environment) (counts : DeclaredBefore) → VariablesNamed vars env.vars →
      tested e (map (stmt_step vars constants) body) (known_in env) ≡ Some counts →
      Turned vars counts (in_order (map (walked_stmt constants vars) body) env).env
  tested_turns e body each env counts named step =
      body_turns body each env counts named (where_holds (expr_placed (known_in env) e) (in_turn (map (stmt_step vars constants) body) (known_in env)) counts
      step).1

  if_turns : (place : Place) (arms : List NamedArm) (other : List NamedStmt) → All Q arms → All P other → P (stmt place (NamedStmtKind-F.If arms other))
  if_turns place arms other each rest = by_kind place (NamedStmtKind-F.If arms other)
      (λ env counts named step.
      let all : Block Arm = in_order (map (arm_walked constants vars) arms) env in
      let found = some_found (in_turn (map (stmt_step vars constants) other)) (in_turn (map (step_of_arm vars constants) arms) (known_in env)) counts step in
      let first = block_turns vars (arm_walked constants vars) (step_of_arm vars constants) arms each env found.0 named found.1 in
      body_turns other rest all.env counts first.named (ap (in_turn (map (stmt_step vars constants) other)) first.counts_are ∙ found.2))

  arm_case : (test : NamedExpr) (body : List NamedStmt) → All P body → Q (roll-NamedArm (record { test = test; body = body }))
  arm_case test body each env counts named step =
      let walked_as : arm_walked constants vars (roll-NamedArm (record { test = test; body = body }))
      ≡ walked_arm (record { test = test; body = map (walked_stmt constants vars) body }) = rw fold-roll-NamedArm refl in
      let step_as : step_of_arm vars constants (roll-NamedArm (record { test = test; body = body })) ≡ tested test (map (stmt_step vars constants) body) =
      rw fold-roll-NamedArm refl in
      subst (λ (walk : StatementJudgement Arm). Turned vars counts (walk env).env) (sym walked_as)
      (tested_turns test body each env counts named (ap (λ (step : PlacedStep). step (known_in env)) (sym step_as) ∙ step))

  branch_case : (weak : Bool) (body : List NamedStmt) → All P body → R (roll-NamedBranch (record { weak = weak; body = body }))
  branch_case weak body each env counts named step =
      let walked_as : branch_walked constants vars (roll-NamedBranch (record { weak = weak; body = body }))
      ≡ walked_branch (record { weak = weak; body = map (walked_stmt constants vars) body }) = rw fold-roll-NamedBranch refl in
      let step_as : step_of_branch vars constants (roll-NamedBranch (record { weak = weak; body = body })) ≡ in_turn (map (stmt_step vars constants) body) =
      rw fold-roll-NamedBranch refl in
      subst (λ (walk : StatementJudgement Branch). Turned vars counts (walk env).env) (sym walked_as)
      (body_turns body each env counts named (ap (λ (step : PlacedStep). step (known_in env)) (sym step_as) ∙ step))

  turn_cases : Cases P Q R
  turn_cases = record {
    declare = λ place k value. by_kind place (NamedStmtKind-F.Declare k value) (declare_turns k (slice_get vars k) value refl);
    constant = λ place k. by_kind place (NamedStmtKind-F.Const k) (constant_turns k (slice_get constants k));
    assign = λ place target e. by_kind place (NamedStmtKind-F.Assign target e) (λ env counts named step. turned_still vars _ env counts named step);
    call = λ place name f inputs outputs. by_kind place (NamedStmtKind-F.Call name f inputs outputs)
        (λ env counts named step. turned_still vars _ env counts named step);
    await = λ place e. by_kind place (NamedStmtKind-F.Await e) (λ env counts named step. turned_still vars _ env counts named step);
    run = λ place target name a inputs outputs. by_kind place (NamedStmtKind-F.Run target name a inputs outputs)
        (λ env counts named step. turned_still vars _ env counts named step);
    branching = if_turns;
    cobegin = λ place branches each. by_kind place (NamedStmtKind-F.Cobegin branches)
        (block_turns vars (branch_walked constants vars) (step_of_branch vars constants) branches each);
    guarded = λ place guard e body each. by_kind place (NamedStmtKind-F.When guard e body) (tested_turns e body each);
    repeat = λ place body each. by_kind place (NamedStmtKind-F.Repeat body) (body_turns body each);
    until = λ place body e each. by_kind place (NamedStmtKind-F.Until body e) (tested_turns e body each);
    while = λ place e body each. by_kind place (NamedStmtKind-F.While e body) (tested_turns e body each);
    returns = λ place e. by_kind place (NamedStmtKind-F.Return e)
        (λ env counts named step. subst (Turned vars counts) (sym (returned_env place e env.result env))
        (turned_still vars (holds_if (expr_placed (known_in env)) e) env counts named step));
    arm = arm_case;
    branch = branch_case;
  }

  stmt_turns : (s : NamedStmt) → P s
  stmt_turns = induct P Q R turn_cases

  each_turns : (body : List NamedStmt) → All P body
  each_turns [] = All-nil P
  each_turns (s ∷ rest) = All-cons P s rest (stmt_turns s) (each_turns rest)

  -- after a body each variable is the one that is named at its position
  pub bodies_turn : (body : List NamedStmt) (env : Environment) (counts : DeclaredBefore) → VariablesNamed vars env.vars →
      in_turn (map (stmt_step vars constants) body) (known_in env) ≡ Some counts →
      Turned vars counts (in_order (map (walked_stmt constants vars) body) env).env
  bodies_turn body = body_turns body (each_turns body)
