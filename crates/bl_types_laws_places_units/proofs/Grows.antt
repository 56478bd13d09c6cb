-- What is known after a part of a body: it grows, by as much as is counted.
use Rattle.std.proofs.Common.{◌≡◌, ℕ, List, [], ◌∷◌, map, length, Option, Some, None, refl, ap, sym, subst, ◌∙◌}
use Rattle.std.specs.Prelude.{All, Bool, true, false, ◌&&◌, nat_eq, slice_get, if◌then◌else◌}
use Rattle.std.proofs.lemmas.List.Elements.{All-head, All-tail}
use Rattle.std.proofs.lemmas.Option.{same_Some}
use Rattle.bl_tree.proofs.Basics.{and_second}
use Rattle.bl_tree.specs.declared.place.Place.{Place}
use Rattle.bl_tree.specs.declared.scalar.Scalar.{Scalar as ScalarType}
use Rattle.bl_tree.specs.declared.tree.Arm.{Arm}
use Rattle.bl_tree.specs.declared.tree.Branch.{Branch}
use Rattle.bl_tree.specs.declared.tree.Stmt.{Stmt}
use Rattle.bl_tree.specs.declared.tree.Ty.{Ty}
use Rattle.bl_eval.proofs.OperatorFits.{some_found, where_holds}
use Rattle.bl_names_tree.specs.declared.expr.NamedExpr.{NamedExpr}
use Rattle.bl_names_tree.specs.declared.item.NamedConstant.{NamedConstant}
use Rattle.bl_names_tree.specs.declared.item.NamedVar.{NamedVar}
use Rattle.bl_names_tree.specs.declared.stmt.NamedArm.{NamedArm, fold-roll-NamedArm, roll-NamedArm}
use Rattle.bl_names_tree.specs.declared.stmt.NamedBranch.{NamedBranch, fold-roll-NamedBranch, roll-NamedBranch}
use Rattle.bl_names_tree.specs.declared.stmt.NamedStmt.{NamedStmt}
use Rattle.bl_names_tree.specs.declared.stmt.NamedStmtKind.TheOpen.{NamedStmtKind-F}
use Rattle.bl_names_tree.specs.Placed.{DeclaredBefore, PlacedStep, constant_placed, declares_none, expr_placed, holds_if, holds_of, in_turn, stmt_step, tested}
use Rattle.bl_names_tree.specs.Placed.{var_placed, with_constant as constant_counted, with_variable as variable_counted}
use Rattle.bl_names_tree.specs.inner.Placed.{step_of_arm, step_of_branch}
use Rattle.bl_types.specs.declared.environment.Constant.{Constant}
use Rattle.bl_types.specs.declared.environment.Environment.{Environment}
use Rattle.bl_types.specs.Declarations.{constant_of, initial, with_variable}
use Rattle.bl_types.specs.Statements.{Block, StatementJudgement, Walked, after_optional_constant, arm_walked, branch_walked, constant_walked, declare, in_order}
use Rattle.bl_types.specs.Statements.{returned, walked_arm, walked_branch, walked_stmt}
use Rattle.bl_types_laws.specs.Standing.{Grown}
use Rattle.bl_types_laws.specs.Within.{known_in}
use Rattle.bl_types_laws.proofs.Declared.{constant_counts, variable_counts, variable_grown}
use Rattle.bl_types_laws.proofs.NamedStmtInduction.{Cases, induct, induct_arm, induct_branch, stmt}
use Rattle.bl_types_laws.proofs.StmtLayers.{Layer, step_by, step_is, walked_by, walked_is}
use Rattle.bl_types_laws.proofs.Walks.{grown_further, grown_self}
use Rattle.bl_types_laws.proofs.Declared.{constant_grown}

-- what is known grows; where the positions in a part are in place, it is as much as is counted
pub record Grows (step : PlacedStep) (before after : Environment) : Type 0 where
  pub grown : Grown before after
  pub counts_are : (counts : DeclaredBefore) → step (known_in before) ≡ Some counts → known_in after ≡ counts

abbrev pub Steps : {A : Type 0} → (Environment → Walked A) → PlacedStep → Type 0
Steps walk step = (env : Environment) → Grows step env (walk env).env

grows_still : (placed : DeclaredBefore → Bool) (env : Environment) → Grows (λ earlier. declares_none (placed earlier) earlier) env env
grows_still placed env = record {
  grown = grown_self env;
  counts_are =
      λ counts step. same_Some (known_in env) counts (where_holds (placed (known_in env)) (Some (known_in env)) counts step).1;
}

module _ {X A : Type 0} (walk : X → Environment → Walked A) (step : X → PlacedStep) where
  pub block_grows : (xs : List X) → All (λ x. Steps (walk x) (step x)) xs → (env : Environment) →
      Grows (in_turn (map step xs)) env (in_order (map walk xs) env).env
  block_grows [] each env = record { grown = grown_self env; counts_are = λ counts is. same_Some (known_in env) counts is }
  block_grows (x ∷ xs) each env =
      let middle : Environment = (walk x env).env in
      let one = All-head (λ x. Steps (walk x) (step x)) x xs each env in
      let rest = block_grows xs (All-tail (λ x. Steps (walk x) (step x)) x xs each) middle in
      record {
        grown = grown_further env middle (in_order (map walk xs) middle).env one.grown rest.grown;
        counts_are = λ counts is.
            let found = some_found (in_turn (map step xs)) (step x (known_in env)) counts is in
            rest.counts_are counts (ap (in_turn (map step xs)) (one.counts_are found.0 found.1) ∙ found.2);
      }

module _ (constants : List NamedConstant) (vars : List NamedVar) where
  declared_grows : (k : ℕ) (placed : DeclaredBefore → Bool) (var : NamedVar) (ty : Option Ty) (env : Environment) →
      Grows (λ earlier. if nat_eq k earlier.variables && placed earlier then Some (variable_counted earlier) else None) env (with_variable env var ty)
  declared_grows k placed var ty env = record {
    grown = variable_grown env var ty;
    counts_are = λ counts step. variable_counts env var ty counts
        (where_holds (nat_eq k (length env.vars) && placed (known_in env)) (Some (variable_counted (known_in env))) counts step).1;
  }

  declare_grows : (k : ℕ) (found : Option NamedVar) (e : Option NamedExpr) → Steps (declare k found e)
      (λ earlier. if nat_eq k earlier.variables
      && (holds_of (var_placed earlier) found && holds_if (expr_placed earlier) e) then Some (variable_counted earlier) else None)
  declare_grows k None e env = record {
    grown = grown_self env;
    counts_are = λ counts step.
        let holds = where_holds (nat_eq k (length env.vars) && false) (Some (variable_counted (known_in env))) counts step in
        absurd (let no = and_second (nat_eq k (length env.vars)) false holds.0 in cc);
  }
  declare_grows k (Some var) None env = declared_grows k (λ earlier. var_placed earlier var && true) var _ env
  declare_grows k (Some var) (Some e) env = declared_grows k (λ earlier. var_placed earlier var && expr_placed earlier e) var _ env

  constant_grows : (k : ℕ) (found : Option NamedConstant) →
      Steps (λ env. constant_walked (after_optional_constant found env))
      (λ earlier. if nat_eq k earlier.constants && holds_of (constant_placed earlier) found then Some (constant_counted earlier) else None)
  constant_grows k None env = record {
    grown = grown_self env;
    counts_are = λ counts step.
        let holds = where_holds (nat_eq k (length env.constants) && false) (Some (constant_counted (known_in env))) counts step in
        absurd (let no = and_second (nat_eq k (length env.constants)) false holds.0 in cc);
  }
  constant_grows k (Some constant) env =
      let new : Constant = constant_of constant.value (initial env constant.ty constant.value).valued in
      record {
        grown = constant_grown env new;
        counts_are = λ counts step. constant_counts env new counts
            (where_holds (nat_eq k (length env.constants) && constant_placed (known_in env) constant) (Some (constant_counted (known_in env)))
            counts step).1;
      }

  pub returned_env : (at : Place) (e : Option NamedExpr) (result : Option ScalarType) (env : Environment) → (returned at e result env).env ≡ env
  returned_env at (Some e) (Some s) env = refl
  returned_env at (Some e) None env = refl
  returned_env at None (Some s) env = refl
  returned_env at None None env = refl

  abbrev P : NamedStmt → Type 0
  P s = Steps (walked_stmt constants vars s) (stmt_step vars constants s)

  abbrev Q : NamedArm → Type 0
  Q arm = Steps (arm_walked constants vars arm) (step_of_arm vars constants arm)

  abbrev R : NamedBranch → Type 0
  R branch = Steps (branch_walked constants vars branch) (step_of_branch vars constants branch)

  by_kind : (place : Place) (layer : Layer) → Steps (walked_by constants vars layer place) (step_by constants vars layer) → P (stmt place layer)
  by_kind place layer grows env =
      subst (λ (walk : StatementJudgement Stmt). Grows (stmt_step vars constants (stmt place layer)) env (walk env).env)
      (sym (walked_is constants vars place layer))
      (subst (λ (step : PlacedStep). Grows step env (walked_by constants vars layer place env).env) (sym (step_is constants vars place layer)) (grows env))

  body_grows : (body : List NamedStmt) → All P body → (env : Environment) →
      Grows (in_turn (map (stmt_step vars constants) body)) env (in_order (map (walked_stmt constants vars) body) env).env
  body_grows body each = block_grows (walked_stmt constants vars) (stmt_step vars constants) body each

  tested_grows : (e : NamedExpr) (body : List NamedStmt) → All P body → (env : Environment) →
      Grows (tested e (map (stmt_step vars constants) body)) env (in_order (map (walked_stmt constants vars) body) env).env
  tested_grows e body each env =
      let inside = body_grows body each env in
      record {
        grown = inside.grown;
        counts_are = λ counts step. inside.counts_are counts
            (where_holds (expr_placed (known_in env) e) (in_turn (map (stmt_step vars constants) body) (known_in env)) counts step).1;
      }

  if_grows : (place : Place) (arms : List NamedArm) (other : List NamedStmt) → All Q arms → All P other → P (stmt place (NamedStmtKind-F.If arms other))
  if_grows place arms other each rest = by_kind place (NamedStmtKind-F.If arms other)
      (λ env.
      let all : Block Arm = in_order (map (arm_walked constants vars) arms) env in
      let first = block_grows (arm_walked constants vars) (step_of_arm vars constants) arms each env in
      let second = body_grows other rest all.env in
      record {
        grown = grown_further env all.env (in_order (map (walked_stmt constants vars) other) all.env).env first.grown second.grown;
        counts_are = λ counts step.
            let found = some_found (in_turn (map (stmt_step vars constants) other)) (in_turn (map (step_of_arm vars constants) arms) (known_in env)) counts
            step in
            second.counts_are counts
            (ap (in_turn (map (stmt_step vars constants) other)) (first.counts_are found.0 found.1) ∙ found.2);
      })

  arm_case : (test : NamedExpr) (body : List NamedStmt) → All P body → Q (roll-NamedArm (record { test = test; body = body }))
  arm_case test body each env =
      let walked_as : arm_walked constants vars (roll-NamedArm (record { test = test; body = body }))
      ≡ walked_arm (record { test = test; body = map (walked_stmt constants vars) body }) = rw fold-roll-NamedArm refl in
      let step_as : step_of_arm vars constants (roll-NamedArm (record { test = test; body = body })) ≡ tested test (map (stmt_step vars constants) body) =
      rw fold-roll-NamedArm refl in
      subst (λ (walk : StatementJudgement Arm). Grows (step_of_arm vars constants (roll-NamedArm (record { test = test; body = body }))) env (walk env).env)
      (sym walked_as)
      (subst (λ (step : PlacedStep). Grows step env (in_order (map (walked_stmt constants vars) body) env).env) (sym step_as)
      (tested_grows test body each env))

  branch_case : (weak : Bool) (body : List NamedStmt) → All P body → R (roll-NamedBranch (record { weak = weak; body = body }))
  branch_case weak body each env =
      let walked_as : branch_walked constants vars (roll-NamedBranch (record { weak = weak; body = body }))
      ≡ walked_branch (record { weak = weak; body = map (walked_stmt constants vars) body }) = rw fold-roll-NamedBranch refl in
      let step_as : step_of_branch vars constants (roll-NamedBranch (record { weak = weak; body = body })) ≡ in_turn (map (stmt_step vars constants) body) =
      rw fold-roll-NamedBranch refl in
      subst
      (λ (walk : StatementJudgement Branch). Grows (step_of_branch vars constants (roll-NamedBranch (record { weak = weak; body = body }))) env (walk env).env)
      (sym walked_as)
      (subst (λ (step : PlacedStep). Grows step env (in_order (map (walked_stmt constants vars) body) env).env) (sym step_as)
      (body_grows body each env))

  grow_cases : Cases P Q R
  grow_cases = record {
    declare = λ place k value. by_kind place (NamedStmtKind-F.Declare k value) (declare_grows k (slice_get vars k) value);
    constant = λ place k. by_kind place (NamedStmtKind-F.Const k) (constant_grows k (slice_get constants k));
    assign = λ place target e. by_kind place (NamedStmtKind-F.Assign target e) (λ env. grows_still _ env);
    call = λ place name f inputs outputs. by_kind place (NamedStmtKind-F.Call name f inputs outputs) (λ env. grows_still _ env);
    await = λ place e. by_kind place (NamedStmtKind-F.Await e) (λ env. grows_still _ env);
    run = λ place target name a inputs outputs. by_kind place (NamedStmtKind-F.Run target name a inputs outputs) (λ env. grows_still _ env);
    branching = if_grows;
    cobegin = λ place branches each. by_kind place (NamedStmtKind-F.Cobegin branches)
        (block_grows (branch_walked constants vars) (step_of_branch vars constants) branches each);
    guarded = λ place guard e body each. by_kind place (NamedStmtKind-F.When guard e body) (tested_grows e body each);
    repeat = λ place body each. by_kind place (NamedStmtKind-F.Repeat body) (body_grows body each);
    until = λ place body e each. by_kind place (NamedStmtKind-F.Until body e) (tested_grows e body each);
    while = λ place e body each. by_kind place (NamedStmtKind-F.While e body) (tested_grows e body each);
    returns = λ place e. by_kind place (NamedStmtKind-F.Return e)
        (λ env. subst (Grows (λ earlier. declares_none (holds_if (expr_placed earlier) e) earlier) env) (sym (returned_env place e env.result env))
        (grows_still _ env));
    arm = arm_case;
    branch = branch_case;
  }

  pub stmt_grows : (s : NamedStmt) → Steps (walked_stmt constants vars s) (stmt_step vars constants s)
  stmt_grows = induct P Q R grow_cases

  pub arm_grows : (arm : NamedArm) → Steps (arm_walked constants vars arm) (step_of_arm vars constants arm)
  arm_grows = induct_arm P Q R grow_cases

  pub branch_grows : (branch : NamedBranch) → Steps (branch_walked constants vars branch) (step_of_branch vars constants branch)
  branch_grows = induct_branch P Q R grow_cases

  pub bodies_grow : (body : List NamedStmt) (env : Environment) →
      Grows (in_turn (map (stmt_step vars constants) body)) env (in_order (map (walked_stmt constants vars) body) env).env
  bodies_grow body = body_grows body (λ k d less. stmt_grows _)
