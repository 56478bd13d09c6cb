-- What is made of statements begins where they do: what fails and the constants of blocks are left out.
use Rattle.std.proofs.Common.{◌≡◌, ℕ, Bool, true, false, List, [], ◌∷◌, ◌++◌, map, Option, Some, None, refl, subst, sym}
use Rattle.std.specs.Prelude.{All, option_map, slice_get, if◌then◌else◌}
use Rattle.std.proofs.lemmas.List.Elements.{All-head, All-tail}
use Rattle.bl_tree.specs.declared.place.Place.{Place}
use Rattle.bl_tree.specs.declared.scalar.Scalar.{Scalar as ScalarType}
use Rattle.bl_tree.specs.declared.tree.Arm.{Arm, fold-roll-Arm}
use Rattle.bl_tree.specs.declared.tree.Branch.{Branch, fold-roll-Branch, roll-Branch}
use Rattle.bl_tree.specs.declared.tree.Expr.{Expr}
use Rattle.bl_tree.specs.declared.tree.Guard.{Guard}
use Rattle.bl_tree.specs.declared.tree.Path.{Path}
use Rattle.bl_tree.specs.declared.tree.Stmt.{Stmt, fold-roll-Stmt}
use Rattle.bl_tree.specs.declared.tree.StmtKind.{StmtKind, out-StmtKind}
use Rattle.bl_tree.specs.declared.tree.StmtKind.TheOpen.{StmtKind-F}
use Rattle.bl_tree.specs.declared.tree.StmtKind.TheVariants as what
use Rattle.bl_tree.specs.Reduce.{joined}
use Rattle.bl_tree.specs.Types.{scalar}
use Rattle.bl_names_tree.specs.declared.expr.NamedExpr.{NamedExpr}
use Rattle.bl_names_tree.specs.declared.item.NamedConstant.{NamedConstant}
use Rattle.bl_names_tree.specs.declared.item.NamedVar.{NamedVar}
use Rattle.bl_names_tree.specs.declared.stmt.NamedArm.{NamedArm, fold-roll-NamedArm, roll-NamedArm}
use Rattle.bl_names_tree.specs.declared.stmt.NamedBranch.{NamedBranch, fold-roll-NamedBranch, roll-NamedBranch}
use Rattle.bl_names_tree.specs.declared.stmt.NamedStmt.{NamedStmt, fold-roll-NamedStmt}
use Rattle.bl_names_tree.specs.declared.stmt.NamedStmtKind.{NamedStmtKind, fold-NamedStmtKind, fold-roll-NamedStmtKind, map-NamedStmtKind}
use Rattle.bl_names_tree.specs.declared.stmt.NamedStmtKind.TheOpen.{NamedStmtKind-F}
use Rattle.bl_names_tree.specs.Starts as named
use Rattle.bl_names_tree.specs.inner.Starts as spots
use Rattle.bl_types.specs.declared.environment.Environment.{Environment}
use Rattle.bl_types.specs.declared.form.Found.{Found}
use Rattle.bl_types.specs.declared.form.Found.TheVariants as found
use Rattle.bl_types.specs.Declarations.{initial}
use Rattle.bl_types.specs.Expressions.{in_context, judged, targeted, with_made}
use Rattle.bl_types.specs.Statements.{Arguments, Block, StatementJudgement, Walked, arguments, arm_of, arm_walked, assign_made, branch_walked, condition}
use Rattle.bl_types.specs.Statements.{declare, if_complete, in_order, returned, run_made, run_target, stmt_made, type_found, walked_arm, walked_branch}
use Rattle.bl_types.specs.Statements.{walked_stmt}
use Rattle.bl_types_laws.proofs.Conditions.{MadeFrom, condition_from}
use Rattle.bl_types_laws.proofs.NamedStmtInduction.{Cases, induct, stmt}
use Rattle.bl_types_laws.proofs.Occurrences.{Starts, block_starts, kind_is, layer_starts, starts_in, starts_of, starts_of_arm, starts_of_branch}
use Rattle.bl_types_laws.proofs.Starts.{Picked, none, picked_append, picked_none, taken, left}
use Rattle.bl_types_laws.proofs.StmtLayers.{Layer, walked_by, walked_is}

-- ---- what is made, or not

-- where what is made begins, if it is made
abbrev starts_if : {A : Type 0} → (A → Starts) → Option A → Starts
starts_if starts (Some a) = starts a
starts_if starts None = []

made_first : {A : Type 0} (starts : A → Starts) (one : Option A) (rest : List A) →
    joined (map starts (with_made one rest)) ≡ starts_if starts one ++ joined (map starts rest)
made_first starts (Some a) rest = refl
made_first starts None rest = refl

-- one part after another
picked_order : {X A : Type 0} (starts : A → Starts) (before : X → Starts) (walk : X → Environment → Walked A) (xs : List X) →
    All (λ x. (env : Environment) → Picked (starts_if starts (walk x env).made) (before x)) xs → (env : Environment) →
    Picked (joined (map starts (in_order (map walk xs) env).made)) (joined (map before xs))
picked_order starts before walk [] each env = none
picked_order starts before walk (x ∷ xs) each env =
    subst (λ l. Picked l (before x ++ joined (map before xs))) (sym (made_first starts (walk x env).made (in_order (map walk xs) (walk x env).env).made))
    (picked_append (All-head (λ x. (env : Environment) → Picked (starts_if starts (walk x env).made) (before x)) x xs each env)
    (picked_order starts before walk xs (All-tail (λ x. (env : Environment) → Picked (starts_if starts (walk x env).made) (before x)) x xs each)
    (walk x env).env))

-- ---- kinds

-- what is made of a statement's kind has statements in it that begin where those of the named kind do
abbrev KindPicked : Starts → Option StmtKind → Type 0
KindPicked inside made = Picked (starts_if starts_in made) inside

starts_made : (at : Place) (made : Option StmtKind) (inside : Starts) → KindPicked inside made →
    Picked (starts_if starts_of (option_map (stmt_made at) made)) (at.start ∷ inside)
starts_made at (Some kind) inside picked = rw fold-roll-Stmt (taken at.start picked)
starts_made at None inside picked = picked_none (at.start ∷ inside)

kind_picked : (kind : StmtKind) (layer : StmtKind-F StmtKind Arm Branch Stmt) (inside : Starts) → out-StmtKind kind ≡ layer →
    Picked (layer_starts layer) inside → KindPicked inside (Some kind)
kind_picked kind layer inside is picked = subst (λ l. Picked l inside) (sym (kind_is kind layer is)) picked

-- a kind without blocks
plain : (kind : StmtKind) (layer : StmtKind-F StmtKind Arm Branch Stmt) → out-StmtKind kind ≡ layer → layer_starts layer ≡ [] →
    KindPicked [] (Some kind)
plain kind layer is empty = kind_picked kind layer [] is (subst (λ l. Picked l []) (sym empty) none)

declare_value : (k : ℕ) (value : Option Expr) → KindPicked [] (option_map (λ e. what.Declare k (Some e)) value)
declare_value k (Some e) = plain (what.Declare k (Some e)) (StmtKind-F.Declare k (Some e)) (what.outs-Declare k (Some e)) refl
declare_value k None = none

declare_picked : (k : ℕ) (var : Option NamedVar) (e : Option NamedExpr) (env : Environment) → KindPicked [] (declare k var e env).made
declare_picked k (Some var) (Some e) env = declare_value k (initial env var.ty e).valued.value
declare_picked k (Some var) None env = plain (what.Declare k None) (StmtKind-F.Declare k None) (what.outs-Declare k None) refl
declare_picked k None e env = none

assign_picked : (leads : Found) (value : Option Expr) → KindPicked [] (assign_made leads value)
assign_picked (found.Place path) (Some e) = plain (what.Assign path e) (StmtKind-F.Assign path e) (what.outs-Assign path e) refl
assign_picked (found.Place path) None = none
assign_picked (found.Constant s n) value = none
assign_picked found.Nothing value = none

complete_picked : (holds : Bool) (kind : StmtKind) → KindPicked [] (Some kind) → KindPicked [] (if holds then Some kind else None)
complete_picked true kind picked = picked
complete_picked false kind picked = none

call_picked : (f : ℕ) (given : Arguments) → KindPicked [] (if_complete given (what.Call f))
call_picked f given =
    complete_picked given.complete (what.Call f given.inputs given.outputs)
    (plain (what.Call f given.inputs given.outputs) (StmtKind-F.Call f given.inputs given.outputs) (what.outs-Call f given.inputs given.outputs) refl)

run_picked : (a : ℕ) (target : Option (Option Path)) (given : Arguments) → KindPicked [] (run_made target a given)
run_picked a (Some target) given =
    complete_picked given.complete (what.Run target a given.inputs given.outputs)
    (plain (what.Run target a given.inputs given.outputs) (StmtKind-F.Run target a given.inputs given.outputs)
    (what.outs-Run target a given.inputs given.outputs) refl)
run_picked a None given = none

await_picked : (test : Option Expr) → KindPicked [] (option_map what.Await test)
await_picked (Some e) = plain (what.Await e) (StmtKind-F.Await e) (what.outs-Await e) refl
await_picked None = none

return_value : (value : Option Expr) → KindPicked [] (option_map (λ e. what.Return (Some e)) value)
return_value (Some e) = plain (what.Return (Some e)) (StmtKind-F.Return (Some e)) (what.outs-Return (Some e)) refl
return_value None = none

return_none : KindPicked [] (Some (what.Return None))
return_none = plain (what.Return None) (StmtKind-F.Return None) (what.outs-Return None) refl

return_picked : (at : Place) (e : Option NamedExpr) (result : Option ScalarType) (env : Environment) → KindPicked [] (returned at e result env).made
return_picked at (Some e) (Some s) env = return_value (in_context (Some (scalar s)) (judged env e)).made
return_picked at (Some e) None env = return_value (in_context None (judged env e)).made
return_picked at None (Some s) env = return_none
return_picked at None None env = return_none

-- ---- kinds with blocks

guarded_picked : (guard : Guard) (test : Option Expr) (body : List Stmt) (inside : Starts) → Picked (block_starts body) inside →
    KindPicked inside (option_map (λ e. what.When guard e body) test)
guarded_picked guard (Some e) body inside picked = kind_picked (what.When guard e body) (StmtKind-F.When guard e body) inside (what.outs-When guard e body)
    picked
guarded_picked guard None body inside picked = picked_none inside

until_picked : (test : Option Expr) (body : List Stmt) (inside : Starts) (n : ℕ) → MadeFrom n test → Picked (block_starts body) inside →
    KindPicked (inside ++ n ∷ []) (option_map (λ e. what.Until body e) test)
until_picked (Some e) body inside n from picked =
    kind_picked (what.Until body e) (StmtKind-F.Until body e) (inside ++ n ∷ []) (what.outs-Until body e)
    (subst (λ m. Picked (block_starts body ++ m ∷ []) (inside ++ n ∷ [])) (sym from) (picked_append picked (taken n none)))
until_picked None body inside n from picked = picked_none (inside ++ n ∷ [])

while_picked : (test : Option Expr) (body : List Stmt) (inside : Starts) (n : ℕ) → MadeFrom n test → Picked (block_starts body) inside →
    KindPicked (n ∷ inside) (option_map (λ e. what.While e body) test)
while_picked (Some e) body inside n from picked =
    kind_picked (what.While e body) (StmtKind-F.While e body) (n ∷ inside) (what.outs-While e body)
    (subst (λ m. Picked (m ∷ block_starts body) (n ∷ inside)) (sym from) (taken n picked))
while_picked None body inside n from picked = picked_none (n ∷ inside)

arm_picked : (test : Option Expr) (body : List Stmt) (inside : Starts) → Picked (block_starts body) inside →
    Picked (starts_if starts_of_arm (option_map (λ e. arm_of e body) test)) inside
arm_picked (Some e) body inside picked = rw fold-roll-Arm picked
arm_picked None body inside picked = picked_none inside

-- ---- all statements

abbrev named_layer : Layer → Starts
named_layer layer = named.stmt_kind_starts
    (map-NamedStmtKind NamedStmtKind NamedArm NamedBranch NamedStmt Starts Starts Starts Starts
    (fold-NamedStmtKind Starts Starts Starts Starts named.stmt_kind_starts named.arm_starts named.branch_starts named.stmt_layer_starts)
    spots.starts_of_arm spots.starts_of_branch named.starts_of layer)

named_is : (place : Place) (layer : Layer) → named.starts_of (stmt place layer) ≡ place.start ∷ named_layer layer
named_is place layer = rw (fold-roll-NamedStmt, fold-roll-NamedStmtKind) refl

abbrev named_block : List NamedStmt → Starts
named_block body = joined (map named.starts_of body)

module _ (constants : List NamedConstant) (vars : List NamedVar) where
  abbrev P : NamedStmt → Type 0
  P s = (env : Environment) → Picked (starts_if starts_of (walked_stmt constants vars s env).made) (named.starts_of s)

  abbrev Q : NamedArm → Type 0
  Q arm = (env : Environment) → Picked (starts_if starts_of_arm (arm_walked constants vars arm env).made) (spots.starts_of_arm arm)

  abbrev R : NamedBranch → Type 0
  R branch = (env : Environment) → Picked (starts_if starts_of_branch (branch_walked constants vars branch env).made) (spots.starts_of_branch branch)

  abbrev walked_body : List NamedStmt → Environment → Block Stmt
  walked_body body env = in_order (map (walked_stmt constants vars) body) env

  body_picked : (body : List NamedStmt) → All P body → (env : Environment) → Picked (block_starts (walked_body body env).made) (named_block body)
  body_picked = picked_order starts_of named.starts_of (walked_stmt constants vars)

  by_kind : (place : Place) (layer : Layer) → ((env : Environment) → KindPicked (named_layer layer) (walked_by constants vars layer place env).made) →
      P (stmt place layer)
  by_kind place layer picked env =
      subst (λ l. Picked (starts_if starts_of (walked_stmt constants vars (stmt place layer) env).made) l) (sym (named_is place layer))
      (subst (λ (walk : StatementJudgement Stmt). Picked (starts_if starts_of (walk env).made) (place.start ∷ named_layer layer))
      (sym (walked_is constants vars place layer))
      (starts_made place (walked_by constants vars layer place env).made (named_layer layer) (picked env)))

  arm_case : (test : NamedExpr) (body : List NamedStmt) → All P body → Q (roll-NamedArm (record { test = test; body = body }))
  arm_case test body each env =
      let arm : NamedArm = roll-NamedArm (record { test = test; body = body }) in
      let walked_as : arm_walked constants vars arm ≡ walked_arm (record { test = test; body = map (walked_stmt constants vars) body }) =
      rw fold-roll-NamedArm refl in
      let starts_as : spots.starts_of_arm arm ≡ named_block body = rw fold-roll-NamedArm refl in
      subst (λ (walk : StatementJudgement Arm). Picked (starts_if starts_of_arm (walk env).made) (spots.starts_of_arm arm)) (sym walked_as)
      (subst (λ l. Picked (starts_if starts_of_arm (option_map (λ e. arm_of e (walked_body body env).made) (condition env test).made)) l) (sym starts_as)
      (arm_picked (condition env test).made (walked_body body env).made (named_block body) (body_picked body each env)))

  branch_case : (weak : Bool) (body : List NamedStmt) → All P body → R (roll-NamedBranch (record { weak = weak; body = body }))
  branch_case weak body each env =
      let branch : NamedBranch = roll-NamedBranch (record { weak = weak; body = body }) in
      let made : Branch = roll-Branch (record { weak = weak; body = (walked_body body env).made }) in
      let walked_as : branch_walked constants vars branch ≡ walked_branch (record { weak = weak; body = map (walked_stmt constants vars) body }) =
      rw fold-roll-NamedBranch refl in
      let starts_as : spots.starts_of_branch branch ≡ named_block body = rw fold-roll-NamedBranch refl in
      let made_as : starts_of_branch made ≡ block_starts (walked_body body env).made = rw fold-roll-Branch refl in
      subst (λ (walk : StatementJudgement Branch). Picked (starts_if starts_of_branch (walk env).made) (spots.starts_of_branch branch)) (sym walked_as)
      (subst (λ l. Picked (starts_of_branch made) l) (sym starts_as) (subst (λ l. Picked l (named_block body)) (sym made_as) (body_picked body each env)))

  branching_case : (place : Place) (arms : List NamedArm) (other : List NamedStmt) → All Q arms → All P other →
      P (stmt place (NamedStmtKind-F.If arms other))
  branching_case place arms other each rest = by_kind place (NamedStmtKind-F.If arms other)
      (λ env.
      let tests : Block Arm = in_order (map (arm_walked constants vars) arms) env in
      let last : Block Stmt = walked_body other tests.env in
      kind_picked (what.If tests.made last.made) (StmtKind-F.If tests.made last.made) (named_layer (NamedStmtKind-F.If arms other))
      (what.outs-If tests.made last.made)
      (picked_append (picked_order starts_of_arm spots.starts_of_arm (arm_walked constants vars) arms each env) (body_picked other rest tests.env)))

  cobegin_case : (place : Place) (branches : List NamedBranch) → All R branches → P (stmt place (NamedStmtKind-F.Cobegin branches))
  cobegin_case place branches each = by_kind place (NamedStmtKind-F.Cobegin branches)
      (λ env.
      let all : Block Branch = in_order (map (branch_walked constants vars) branches) env in
      kind_picked (what.Cobegin all.made) (StmtKind-F.Cobegin all.made) (named_layer (NamedStmtKind-F.Cobegin branches)) (what.outs-Cobegin all.made)
      (picked_order starts_of_branch spots.starts_of_branch (branch_walked constants vars) branches each env))

  picked_cases : Cases P Q R
  picked_cases = record {
    declare = λ place k value. by_kind place (NamedStmtKind-F.Declare k value) (λ env. declare_picked k (slice_get vars k) value env);
    constant = λ place k. by_kind place (NamedStmtKind-F.Const k) (λ env. none);
    assign = λ place target e. by_kind place (NamedStmtKind-F.Assign target e)
        (λ env. assign_picked (targeted env target).found (in_context (type_found (targeted env target).found) (judged env e)).made);
    call = λ place name f inputs outputs. by_kind place (NamedStmtKind-F.Call name f inputs outputs)
        (λ env. call_picked f (arguments env name f inputs outputs));
    await = λ place e. by_kind place (NamedStmtKind-F.Await e) (λ env. await_picked (condition env e).made);
    run = λ place target name f inputs outputs. by_kind place (NamedStmtKind-F.Run target name f inputs outputs)
        (λ env. run_picked f (run_target env (slice_get env.units f) target).made (arguments env name f inputs outputs));
    branching = branching_case;
    cobegin = cobegin_case;
    guarded = λ place guard e body each. by_kind place (NamedStmtKind-F.When guard e body)
        (λ env. guarded_picked guard (condition env e).made (walked_body body env).made (named_block body) (body_picked body each env));
    repeat = λ place body each. by_kind place (NamedStmtKind-F.Repeat body)
        (λ env. kind_picked (what.Repeat (walked_body body env).made) (StmtKind-F.Repeat (walked_body body env).made) (named_block body)
        (what.outs-Repeat (walked_body body env).made)
        (body_picked body each env));
    until = λ place body e each. by_kind place (NamedStmtKind-F.Until body e)
        (λ env. until_picked (condition (walked_body body env).env e).made (walked_body body env).made (named_block body) (named.start_of e)
        (condition_from (walked_body body env).env e) (body_picked body each env));
    while = λ place e body each. by_kind place (NamedStmtKind-F.While e body)
        (λ env. while_picked (condition env e).made (walked_body body env).made (named_block body) (named.start_of e) (condition_from env e)
        (body_picked body each env));
    returns = λ place e. by_kind place (NamedStmtKind-F.Return e) (λ env. return_picked place e env.result env);
    arm = arm_case;
    branch = branch_case;
  }

  -- what is made of statements begins where some of them do, in their order
  pub starts_stay : (body : List NamedStmt) (env : Environment) → Picked (block_starts (in_order (map (walked_stmt constants vars) body) env).made)
      (joined (map named.starts_of body))
  starts_stay body = body_picked body (λ k d within. induct P Q R picked_cases _)
