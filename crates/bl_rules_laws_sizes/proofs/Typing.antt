-- What is typed of a unit has at most as many statements as the unit has parts, and at most so many variables.
use Rattle.std.proofs.Common.{◌≡◌, ℕ, zero, suc, ◌+◌, ◌-◌, ◌*◌, ◌≤◌, Bool, true, false, List, [], ◌∷◌, ◌++◌, map, length, Option, Some, None, refl, sym, ap}
use Rattle.std.proofs.Common.{subst, ◌∙◌, arith}
use Rattle.std.specs.List.{cons_option}
use Rattle.std.specs.Prelude.{All, filter_map, if◌then◌else◌, option_map, slice_get}
use Rattle.std.proofs.lemmas.List.{length-map, length_push}
use Rattle.std.proofs.lemmas.List.Elements.{All-head, All-tail}
use Rattle.std.proofs.lemmas.Option.{same_Some}
use Rattle.bl_tree.proofs.Basics.{none_at_most}
use Rattle.bl_tree.specs.declared.place.Place.{Place}
use Rattle.bl_tree.specs.declared.rule.Failure.{Failure}
use Rattle.bl_tree.specs.declared.scalar.Scalar.{Scalar as ScalarType}
use Rattle.bl_tree.specs.declared.tree.Arm.{Arm, fold-roll-Arm}
use Rattle.bl_tree.specs.declared.tree.Branch.{Branch, fold-roll-Branch, roll-Branch}
use Rattle.bl_tree.specs.declared.tree.Expr.{Expr}
use Rattle.bl_tree.specs.declared.tree.Path.{Path}
use Rattle.bl_tree.specs.declared.tree.Stmt.{Stmt, fold-roll-Stmt}
use Rattle.bl_tree.specs.declared.tree.StmtKind.{StmtKind, fold_out-StmtKind, out-StmtKind}
use Rattle.bl_tree.specs.declared.tree.StmtKind.TheOpen.{StmtKind-F}
use Rattle.bl_tree.specs.declared.tree.StmtKind.TheVariants as what
use Rattle.bl_tree.specs.declared.tree.Unit.{Unit as UnitDef}
use Rattle.bl_tree.specs.Reduce.{total}
use Rattle.bl_tree.specs.Types.{scalar}
use Rattle.bl_limits_measures.specs.Statements.{arm_cell_statements, branch_cell_statements, cell_statements_in, cell_statements_in_arm}
use Rattle.bl_limits_measures.specs.Statements.{cell_statements_in_branch, cell_statements_of, kind_cell_statements, layer_cell_statements}
use Rattle.bl_names_tree.specs.declared.expr.NamedExpr.{NamedExpr}
use Rattle.bl_names_tree.specs.declared.item.Item.{Item}
use Rattle.bl_names_tree.specs.declared.item.Item.TheVariants as item
use Rattle.bl_names_tree.specs.declared.item.NamedConstant.{NamedConstant}
use Rattle.bl_names_tree.specs.declared.item.NamedStruct.{NamedStruct}
use Rattle.bl_names_tree.specs.declared.item.NamedUnit.{NamedUnit}
use Rattle.bl_names_tree.specs.declared.item.NamedVar.{NamedVar}
use Rattle.bl_names_tree.specs.declared.named.Named.{Named}
use Rattle.bl_names_tree.specs.declared.stmt.NamedArm.{NamedArm, fold-roll-NamedArm, roll-NamedArm}
use Rattle.bl_names_tree.specs.declared.stmt.NamedBranch.{NamedBranch, fold-roll-NamedBranch, roll-NamedBranch}
use Rattle.bl_names_tree.specs.declared.stmt.NamedStmt.{NamedStmt}
use Rattle.bl_names_tree.specs.declared.stmt.NamedStmtKind.TheOpen.{NamedStmtKind-F}
use Rattle.bl_types.specs.declared.environment.Environment.{Environment}
use Rattle.bl_types.specs.declared.form.Found.{Found}
use Rattle.bl_types.specs.declared.form.Found.TheVariants as found
use Rattle.bl_types.specs.Declarations.{after_constant, after_parameter, after_parameters, after_struct, initial, is_parameter}
use Rattle.bl_types.specs.Expressions.{in_context, judged, targeted}
use Rattle.bl_types.specs.Programs.{after_item, after_items, after_next, fresh, typed_program}
use Rattle.bl_types.specs.Statements.{Arguments, Block, StatementJudgement, Walked, after_optional_constant, arguments, arm_of, arm_walked, assign_made}
use Rattle.bl_types.specs.Statements.{branch_walked, condition, constant_walked, declare, if_complete, in_order, returned, run_made, run_target, stmt_made}
use Rattle.bl_types.specs.Statements.{type_found, walked, walked_arm, walked_branch, walked_stmt}
use Rattle.bl_types.specs.Units.{after_head, after_unit, entered, unit_of, var_of}
use Rattle.bl_types_laws.proofs.NamedStmtInduction.{Cases, induct, stmt}
use Rattle.bl_types_laws.proofs.StmtLayers.{Layer, walked_by, walked_is}
use Rattle.bl_types_laws.proofs.Occurrences.{Layer as TypedLayer}
use Rattle.bl_rules_laws_sizes.proofs.NamedParts.{AllNamedWithin, NamedWithin, named_arm_at, named_at, named_below, named_branch_at, named_kind_parts}
use Rattle.bl_rules_laws_sizes.proofs.NamedParts.{named_parts, parts_of_named_arm, parts_of_named_branch}
use Rattle.bl_rules_laws_sizes.proofs.Naming.{none_in_one}
use Rattle.bl_rules_laws_sizes.proofs.Narrow.{cells_of_kind, cells_below}

-- ---- typed statements

kind_is : (kind : StmtKind) (layer : TypedLayer) → out-StmtKind kind ≡ layer → cells_of_kind kind ≡ kind_cell_statements (cells_below layer)
kind_is kind layer is =
    fold_out-StmtKind ℕ ℕ ℕ ℕ kind_cell_statements arm_cell_statements branch_cell_statements layer_cell_statements kind
    ∙ ap (λ layer. kind_cell_statements (cells_below layer)) is

made_is : (place : Place) (kind : StmtKind) → cell_statements_in (stmt_made place kind) ≡ cells_of_kind kind
made_is place kind = rw fold-roll-Stmt refl

-- an arm counts one more here than it does in its `if`
abbrev arm_weight : Arm → ℕ
arm_weight arm = 1 + cell_statements_in_arm arm

arm_is : (e : Expr) (body : List Stmt) → arm_weight (arm_of e body) ≡ 1 + total (map cell_statements_in body)
arm_is e body = rw fold-roll-Arm refl

branch_is : (weak : Bool) (body : List Stmt) →
    cell_statements_in_branch (roll-Branch (record { weak = weak; body = body })) ≡ 1 + total (map cell_statements_in body)
branch_is weak body = rw fold-roll-Branch refl

weights_are : (arms : List Arm) → total (map arm_weight arms) ≡ length arms + total (map cell_statements_in_arm arms)
weights_are [] = refl
weights_are (arm ∷ arms) = let rest = weights_are arms in omega (arith, rest)

-- ---- what a part comes to

abbrev made_cells : {A : Type 0} → (A → ℕ) → Option A → ℕ
made_cells cells (Some x) = cells x
made_cells cells None = 0

-- what is made of a part counts at most so much, at most so many variables are known more after it, and no other unit is
record Fits {A : Type 0} (cells : A → ℕ) (n : ℕ) (env : Environment) (walk : Walked A) : Type 0 where
  made : made_cells cells walk.made ≤ n
  vars : length walk.env.vars ≤ length env.vars + n
  units : walk.env.units ≡ env.units

record BlockFits {A : Type 0} (cells : A → ℕ) (n : ℕ) (env : Environment) (block : Block A) : Type 0 where
  made : total (map cells block.made) ≤ n
  vars : length block.env.vars ≤ length env.vars + n
  units : block.env.units ≡ env.units

no_less : (a n : ℕ) → a ≤ a + n
no_less a n = omega arith

zero_more : (n : ℕ) → n ≡ 0 + n
zero_more n = omega arith

total_with : {A : Type 0} (cells : A → ℕ) (one : Option A) (rest : List A) →
    total (map cells (cons_option one rest)) ≡ made_cells cells one + total (map cells rest)
total_with cells (Some x) rest = refl
total_with cells None rest = zero_more (total (map cells rest))

block_fits : {X A : Type 0} (cells : A → ℕ) (size : X → ℕ) (walk : X → StatementJudgement A) (xs : List X) →
    All (λ x. (env : Environment) → Fits cells (size x) env (walk x env)) xs → (env : Environment) →
    BlockFits cells (total (map size xs)) env (in_order (map walk xs) env)
block_fits cells size walk [] each env = record { made = none_at_most 0; vars = no_less (length env.vars) 0; units = refl }
block_fits cells size walk (x ∷ xs) each env =
    let first = All-head (λ x. (env : Environment) → Fits cells (size x) env (walk x env)) x xs each env in
    let rest = block_fits cells size walk xs (All-tail (λ x. (env : Environment) → Fits cells (size x) env (walk x env)) x xs each) (walk x env).env in
    let both = total_with cells (walk x env).made (in_order (map walk xs) (walk x env).env).made in
    let made : total (map cells (cons_option (walk x env).made (in_order (map walk xs) (walk x env).env).made)) ≤ size x + total (map size xs) =
    omega (arith, both, first.made, rest.made) in
    let vars : length (in_order (map walk xs) (walk x env).env).env.vars ≤ length env.vars + (size x + total (map size xs)) =
    omega (arith, first.vars, rest.vars) in
    record { made = made; vars = vars; units = rest.units ∙ first.units }

-- ---- kinds of statements

if_some : {A : Type 0} (cells : A → ℕ) (n : ℕ) (make : Expr → A) (e : Option Expr) → ((e : Expr) → cells (make e) ≤ n) →
    made_cells cells (option_map make e) ≤ n
if_some cells n make (Some e) few = few e
if_some cells n make None few = none_at_most n

no_more : (a n : ℕ) → a ≡ n → a ≤ n
no_more a n is = omega (arith, is)

declares : (k : ℕ) (e : Option Expr) → cells_of_kind (what.Declare k e) ≤ 1
declares k e = no_more _ _ (kind_is (what.Declare k e) (StmtKind-F.Declare k e) (what.outs-Declare k e))

declare_fits : (k : ℕ) (var : Option NamedVar) (value : Option NamedExpr) (env : Environment) → Fits cells_of_kind 1 env (declare k var value env)
declare_fits k (Some var) (Some e) env = record {
  made = if_some cells_of_kind 1 (λ e. what.Declare k (Some e)) (initial env var.ty e).valued.value (λ e. declares k (Some e));
  vars = no_more _ _ (length_push env.vars _);
  units = refl;
}
declare_fits k (Some var) None env = record { made = declares k None; vars = no_more _ _ (length_push env.vars _); units = refl }
declare_fits k None e env = record { made = none_in_one; vars = no_less (length env.vars) 1; units = refl }

constant_fits : (constant : Option NamedConstant) (env : Environment) → Fits cells_of_kind 1 env (constant_walked (after_optional_constant constant env))
constant_fits (Some constant) env = record { made = none_in_one; vars = no_less (length env.vars) 1; units = refl }
constant_fits None env = record { made = none_in_one; vars = no_less (length env.vars) 1; units = refl }

assign_most : (leads : Found) (e : Option Expr) → made_cells cells_of_kind (assign_made leads e) ≤ 1
assign_most (found.Place path) (Some e) = no_more _ _ (kind_is (what.Assign path e) (StmtKind-F.Assign path e) (what.outs-Assign path e))
assign_most (found.Place path) None = none_in_one
assign_most (found.Constant s n) e = none_in_one
assign_most found.Nothing e = none_in_one

either_most : (holds : Bool) (kind : StmtKind) → cells_of_kind kind ≤ 1 → made_cells cells_of_kind (if holds then Some kind else None) ≤ 1
either_most true kind most = most
either_most false kind most = none_in_one

call_most : (f : ℕ) (given : Arguments) → made_cells cells_of_kind (if_complete given (what.Call f)) ≤ 1
call_most f given = either_most given.complete (what.Call f given.inputs given.outputs)
    (no_more _ _ (kind_is (what.Call f given.inputs given.outputs) (StmtKind-F.Call f given.inputs given.outputs)
    (what.outs-Call f given.inputs given.outputs)))

run_most : (target : Option (Option Path)) (a : ℕ) (given : Arguments) → made_cells cells_of_kind (run_made target a given) ≤ 1
run_most (Some target) a given = either_most given.complete (what.Run target a given.inputs given.outputs)
    (no_more _ _ (kind_is (what.Run target a given.inputs given.outputs) (StmtKind-F.Run target a given.inputs given.outputs)
    (what.outs-Run target a given.inputs given.outputs)))
run_most None a given = none_in_one

gives_back : (e : Option Expr) → cells_of_kind (what.Return e) ≤ 1
gives_back e = no_more _ _ (kind_is (what.Return e) (StmtKind-F.Return e) (what.outs-Return e))

return_fits : (at : Place) (e : Option NamedExpr) (result : Option ScalarType) (env : Environment) → Fits cells_of_kind 1 env (returned at e result env)
return_fits at (Some e) (Some s) env = record {
  made = if_some cells_of_kind 1 (λ e. what.Return (Some e)) (in_context (Some (scalar s)) (judged env e)).made (λ e. gives_back (Some e));
  vars = no_less (length env.vars) 1;
  units = refl;
}
return_fits at (Some e) None env = record {
  made = if_some cells_of_kind 1 (λ e. what.Return (Some e)) (in_context None (judged env e)).made (λ e. gives_back (Some e));
  vars = no_less (length env.vars) 1;
  units = refl;
}
return_fits at None (Some s) env = record { made = gives_back None; vars = no_less (length env.vars) 1; units = refl }
return_fits at None None env = record { made = gives_back None; vars = no_less (length env.vars) 1; units = refl }

-- a part around a block
around : {A : Type 0} (cells : A → ℕ) (n : ℕ) (env : Environment) (body : Block Stmt) (test : Option Expr) (make : Expr → A) (failures : List Failure) →
    ((e : Expr) → cells (make e) ≡ 1 + total (map cell_statements_in body.made)) → BlockFits cell_statements_in n env body →
    Fits cells (1 + n) env (walked body.env (option_map make test) failures)
around cells n env body test make failures is fits = record {
  made = if_some cells (1 + n) make test (λ e. let one = is e in let inner = fits.made in omega (arith, one, inner));
  vars = let inner = fits.vars in omega (arith, inner);
  units = fits.units;
}

-- ---- all statements

module _ (constants : List NamedConstant) (vars : List NamedVar) where
  abbrev P : NamedStmt → Type 0
  P s = (env : Environment) → Fits cell_statements_in (named_parts s) env (walked_stmt constants vars s env)

  abbrev Q : NamedArm → Type 0
  Q arm = (env : Environment) → Fits arm_weight (parts_of_named_arm arm) env (arm_walked constants vars arm env)

  abbrev R : NamedBranch → Type 0
  R branch = (env : Environment) → Fits cell_statements_in_branch (parts_of_named_branch branch) env (branch_walked constants vars branch env)

  abbrev walked_body : List NamedStmt → Environment → Block Stmt
  walked_body body env = in_order (map (walked_stmt constants vars) body) env

  body_fits : (body : List NamedStmt) → All P body → (env : Environment) →
      BlockFits cell_statements_in (total (map named_parts body)) env (walked_body body env)
  body_fits = block_fits cell_statements_in named_parts (walked_stmt constants vars)

  placed_cells : (place : Place) (made : Option StmtKind) →
      made_cells cell_statements_in (option_map (stmt_made place) made) ≡ made_cells cells_of_kind made
  placed_cells place (Some kind) = made_is place kind
  placed_cells place None = refl

  -- a statement by what its kind comes to
  by_kind : (place : Place) (layer : Layer) →
      ((env : Environment) → Fits cells_of_kind (named_kind_parts (named_below layer)) env (walked_by constants vars layer place env)) → P (stmt place layer)
  by_kind place layer fits env =
      let kind : Walked StmtKind = walked_by constants vars layer place env in
      let here = fits env in
      let same = placed_cells place kind.made in
      let made : made_cells cell_statements_in (option_map (stmt_made place) kind.made) ≤ named_kind_parts (named_below layer) =
      omega (arith, same, here.made) in
      subst (λ n. Fits cell_statements_in n env (walked_stmt constants vars (stmt place layer) env)) (sym (named_at place layer))
      (subst (λ (walk : StatementJudgement Stmt). Fits cell_statements_in (named_kind_parts (named_below layer)) env (walk env))
      (sym (walked_is constants vars place layer))
      (record { made = made; vars = here.vars; units = here.units }))

  arm_case : (test : NamedExpr) (body : List NamedStmt) → All P body → Q (roll-NamedArm (record { test = test; body = body }))
  arm_case test body each env =
      let arm : NamedArm = roll-NamedArm (record { test = test; body = body }) in
      let walked_as : arm_walked constants vars arm ≡ walked_arm (record { test = test; body = map (walked_stmt constants vars) body }) =
      rw fold-roll-NamedArm refl in
      subst (λ n. Fits arm_weight n env (arm_walked constants vars arm env)) (sym (named_arm_at test body))
      (subst (λ (walk : StatementJudgement Arm). Fits arm_weight (1 + total (map named_parts body)) env (walk env)) (sym walked_as)
      (around arm_weight (total (map named_parts body)) env (walked_body body env) (condition env test).made (λ e. arm_of e (walked_body body env).made) _
      (λ e. arm_is e (walked_body body env).made) (body_fits body each env)))

  branch_case : (weak : Bool) (body : List NamedStmt) → All P body → R (roll-NamedBranch (record { weak = weak; body = body }))
  branch_case weak body each env =
      let branch : NamedBranch = roll-NamedBranch (record { weak = weak; body = body }) in
      let walked_as : branch_walked constants vars branch ≡ walked_branch (record { weak = weak; body = map (walked_stmt constants vars) body }) =
      rw fold-roll-NamedBranch refl in
      let inner = body_fits body each env in
      let is = branch_is weak (walked_body body env).made in
      subst (λ n. Fits cell_statements_in_branch n env (branch_walked constants vars branch env)) (sym (named_branch_at weak body))
      (subst (λ (walk : StatementJudgement Branch). Fits cell_statements_in_branch (1 + total (map named_parts body)) env (walk env)) (sym walked_as)
      (record { made = omega (arith, is, inner.made); vars = omega (arith, inner.vars); units = inner.units }))

  if_case : (place : Place) (arms : List NamedArm) (other : List NamedStmt) → All Q arms → All P other → P (stmt place (NamedStmtKind-F.If arms other))
  if_case place arms other in_arms in_other = by_kind place (NamedStmtKind-F.If arms other)
      (λ env.
      let tests : Block Arm = in_order (map (arm_walked constants vars) arms) env in
      let last : Block Stmt = walked_body other tests.env in
      let first = block_fits arm_weight parts_of_named_arm (arm_walked constants vars) arms in_arms env in
      let rest = body_fits other in_other tests.env in
      let is : cells_of_kind (what.If tests.made last.made)
      ≡ 1 + (length (map cell_statements_in_arm tests.made) - 1) + total (map cell_statements_in_arm tests.made) + total (map cell_statements_in last.made) =
      kind_is (what.If tests.made last.made) (StmtKind-F.If tests.made last.made) (what.outs-If tests.made last.made) in
      let weights = weights_are tests.made in
      let long = length-map tests.made cell_statements_in_arm in
      record {
        made = omega (arith, is, weights, long, first.made, rest.made);
        vars = omega (arith, first.vars, rest.vars);
        units = rest.units ∙ first.units;
      })

  cobegin_case : (place : Place) (branches : List NamedBranch) → All R branches → P (stmt place (NamedStmtKind-F.Cobegin branches))
  cobegin_case place branches each = by_kind place (NamedStmtKind-F.Cobegin branches)
      (λ env.
      let all : Block Branch = in_order (map (branch_walked constants vars) branches) env in
      let inner = block_fits cell_statements_in_branch parts_of_named_branch (branch_walked constants vars) branches each env in
      let is = kind_is (what.Cobegin all.made) (StmtKind-F.Cobegin all.made) (what.outs-Cobegin all.made) in
      record { made = omega (arith, is, inner.made); vars = omega (arith, inner.vars); units = inner.units })

  repeat_case : (place : Place) (body : List NamedStmt) → All P body → P (stmt place (NamedStmtKind-F.Repeat body))
  repeat_case place body each = by_kind place (NamedStmtKind-F.Repeat body)
      (λ env.
      let inner = body_fits body each env in
      let all : Block Stmt = walked_body body env in
      let is = kind_is (what.Repeat all.made) (StmtKind-F.Repeat all.made) (what.outs-Repeat all.made) in
      record { made = omega (arith, is, inner.made); vars = omega (arith, inner.vars); units = inner.units })

  typed_cases : Cases P Q R
  typed_cases = record {
    declare = λ place k value. by_kind place (NamedStmtKind-F.Declare k value) (λ env. declare_fits k (slice_get vars k) value env);
    constant = λ place k. by_kind place (NamedStmtKind-F.Const k) (λ env. constant_fits (slice_get constants k) env);
    assign = λ place target e. by_kind place (NamedStmtKind-F.Assign target e)
        (λ env. record {
          made = assign_most (targeted env target).found
              (in_context (type_found (targeted env target).found) (judged env e)).made;
          vars = no_less (length env.vars) 1;
          units = refl;
        });
    call = λ place name f inputs outputs. by_kind place (NamedStmtKind-F.Call name f inputs outputs)
        (λ env. record { made = call_most f (arguments env name f inputs outputs); vars = no_less (length env.vars) 1; units = refl });
    await = λ place e. by_kind place (NamedStmtKind-F.Await e)
        (λ env. record {
          made = if_some cells_of_kind 1 what.Await (condition env e).made
              (λ e. no_more _ _ (kind_is (what.Await e) (StmtKind-F.Await e) (what.outs-Await e)));
          vars = no_less (length env.vars) 1;
          units = refl;
        });
    run = λ place target name a inputs outputs. by_kind place (NamedStmtKind-F.Run target name a inputs outputs)
        (λ env. record {
          made = run_most (run_target env (slice_get env.units a) target).made a (arguments env name a inputs outputs);
          vars = no_less (length env.vars) 1;
          units = refl;
        });
    branching = if_case;
    cobegin = cobegin_case;
    guarded = λ place guard e body each. by_kind place (NamedStmtKind-F.When guard e body)
        (λ env. let all : Block Stmt = walked_body body env in
        around cells_of_kind (total (map named_parts body)) env all (condition env e).made (λ e. what.When guard e all.made) _
        (λ e. kind_is (what.When guard e all.made) (StmtKind-F.When guard e all.made) (what.outs-When guard e all.made)) (body_fits body each env));
    repeat = repeat_case;
    until = λ place body e each. by_kind place (NamedStmtKind-F.Until body e)
        (λ env. let all : Block Stmt = walked_body body env in
        around cells_of_kind (total (map named_parts body)) env all (condition all.env e).made (λ e. what.Until all.made e) _
        (λ e. kind_is (what.Until all.made e) (StmtKind-F.Until all.made e) (what.outs-Until all.made e)) (body_fits body each env));
    while = λ place e body each. by_kind place (NamedStmtKind-F.While e body)
        (λ env. let all : Block Stmt = walked_body body env in
        around cells_of_kind (total (map named_parts body)) env all (condition env e).made (λ e. what.While e all.made) _
        (λ e. kind_is (what.While e all.made) (StmtKind-F.While e all.made) (what.outs-While e all.made)) (body_fits body each env));
    returns = λ place e. by_kind place (NamedStmtKind-F.Return e) (λ env. return_fits place e env.result env);
    arm = arm_case;
    branch = branch_case;
  }

  statements_fit : (body : List NamedStmt) (env : Environment) → BlockFits cell_statements_in (total (map named_parts body)) env (walked_body body env)
  statements_fit body = body_fits body (λ k d within. induct P Q R typed_cases _)

-- ---- units

-- a unit has at most so many variables and statements
pub record TypedWithin (n : ℕ) (unit : UnitDef) : Type 0 where
  pub vars : length unit.vars ≤ 2 * n
  pub statements : cell_statements_of unit ≤ n

abbrev pub AllTypedWithin : ℕ → List UnitDef → Type 0
AllTypedWithin n units = (k : ℕ) (unit : UnitDef) → slice_get units k ≡ Some unit → TypedWithin n unit

one_more : (n : ℕ) (units : List UnitDef) (last : UnitDef) → AllTypedWithin n units → TypedWithin n last → AllTypedWithin n (units ++ last ∷ [])
one_more n [] last each one zero unit there = subst (TypedWithin n) (same_Some last unit there) one
one_more n [] last each one (suc k) unit there = absurd (cc)
one_more n (first ∷ units) last each one zero unit there = each zero unit there
one_more n (first ∷ units) last each one (suc k) unit there = one_more n units last (λ k unit there. each (suc k) unit there) one k unit there

kept_more : {X Y : Type 0} (h : X → Option Y) (x : X) (xs : List X) (one : Option Y) → h x ≡ one → length (filter_map h xs) ≤ length xs →
    length (filter_map h (x ∷ xs)) ≤ length (x ∷ xs)
kept_more h x xs None is rest = rw is (omega (arith, rest))
kept_more h x xs (Some y) is rest = rw is (omega (arith, rest))

kept_length : {X Y : Type 0} (h : X → Option Y) (xs : List X) → length (filter_map h xs) ≤ length xs
kept_length h [] = omega arith
kept_length h (x ∷ xs) = kept_more h x xs (h x) refl (kept_length h xs)

record Entered (before env : Environment) (n : ℕ) : Type 0 where
  vars : length env.vars ≤ length before.vars + n
  units : env.units ≡ before.units

one_parameter : (holds : Bool) (var : NamedVar) (env : Environment) → is_parameter var.role ≡ holds → Entered env (after_parameter var env).env 1
one_parameter true var env is = rw is (record { vars = no_more _ _ (length_push env.vars _); units = refl })
one_parameter false var env is = rw is (record { vars = omega arith; units = refl })

parameters : (vars : List NamedVar) (env : Environment) → Entered env (after_parameters vars env).env (length vars)
parameters [] env = record { vars = omega arith; units = refl }
parameters (var ∷ vars) env =
    let first = one_parameter (is_parameter var.role) var env refl in
    let rest = parameters vars (after_parameter var env).env in
    record { vars = omega (arith, first.vars, rest.vars); units = rest.units ∙ first.units }

unit_after : (n : ℕ) (constants : List NamedConstant) (unit : NamedUnit) (env : Environment) → NamedWithin n unit → AllTypedWithin n env.units →
    AllTypedWithin n (after_unit constants unit env).env.units
unit_after n constants unit env few each =
    let head : Environment = (after_head unit env).env in
    let heads = parameters unit.vars (entered unit env) in
    let inner = statements_fit constants unit.vars unit.body head in
    let body : Block Stmt = in_order (map (walked_stmt constants unit.vars) unit.body) head in
    let kept = kept_length var_of body.env.vars in
    let same : body.env.units ≡ env.units = inner.units ∙ heads.units in
    let known : length head.vars ≤ 0 + length unit.vars = heads.vars in
    let more = inner.vars in
    let made = inner.made in
    let vars : length (filter_map var_of body.env.vars) ≤ 2 * n = omega (arith, kept, more, known, few.vars, few.body) in
    let statements : total (map cell_statements_in body.made) ≤ n = omega (arith, made, few.body) in
    one_more n body.env.units (unit_of unit body.made body.env) (subst (AllTypedWithin n) (sym same) each)
    (record { vars = vars; statements = statements })

none_within : (n : ℕ) → AllTypedWithin n []
none_within n k unit there = absurd (cc)

-- ---- programs

module _ (n : ℕ) (named : Named) (few : AllNamedWithin n named.units) where
  next_struct : (found : Option NamedStruct) (env : Environment) → AllTypedWithin n env.units → AllTypedWithin n (after_next after_struct found env).env.units
  next_struct (Some def) env each = each
  next_struct None env each = each

  next_constant : (found : Option NamedConstant) (env : Environment) → AllTypedWithin n env.units →
      AllTypedWithin n (after_next after_constant found env).env.units
  next_constant (Some constant) env each = each
  next_constant None env each = each

  next_unit : (k : ℕ) (found : Option NamedUnit) (env : Environment) → slice_get named.units k ≡ found → AllTypedWithin n env.units →
      AllTypedWithin n (after_next (after_unit named.constants) found env).env.units
  next_unit k (Some unit) env there each = unit_after n named.constants unit env (few k unit there) each
  next_unit k None env there each = each

  one_item : (one : Item) (env : Environment) → AllTypedWithin n env.units → AllTypedWithin n (after_item named one env).env.units
  one_item item.Struct env each = next_struct (slice_get named.structs (length env.structs)) env each
  one_item item.Constant env each = next_constant (slice_get named.constants (length env.constants)) env each
  one_item item.Unit env each = next_unit (length env.units) (slice_get named.units (length env.units)) env refl each

  all_items : (items : List Item) (env : Environment) → AllTypedWithin n env.units → AllTypedWithin n (after_items named items env).env.units
  all_items [] env each = each
  all_items (one ∷ items) env each = all_items items (after_item named one env).env (one_item one env each)

  pub typed_within : AllTypedWithin n (typed_program named).units
  typed_within = all_items named.order fresh (none_within n)
