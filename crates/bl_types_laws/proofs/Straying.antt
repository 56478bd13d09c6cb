-- Where no `return` strays in what is named, none does in what is made.
use Rattle.std.proofs.Common.{◌≡◌, ℕ, List, [], ◌∷◌, map, Option, Some, None, refl, ap, sym, ◌∙◌}
use Rattle.std.specs.Prelude.{All, Bool, false, ◌||◌, option_map, slice_get}
use Rattle.std.specs.List.{cons_option}
use Rattle.std.proofs.lemmas.List.Elements.{All-head, All-tail}
use Rattle.std.proofs.lemmas.Option.{same_Some}
use Rattle.std.proofs.lemmas.Bool.{or_from}
use Rattle.bl_tree.proofs.Basics.{first_empty, second_empty}
use Rattle.bl_tree.specs.declared.place.Place.{Place}
use Rattle.bl_tree.specs.declared.rule.Failure.{Failure}
use Rattle.bl_tree.specs.declared.tree.Arm.{Arm, fold-Arm, fold-roll-Arm}
use Rattle.bl_tree.specs.declared.tree.Branch.{Branch, fold-Branch, fold-roll-Branch, roll-Branch}
use Rattle.bl_tree.specs.declared.tree.Expr.{Expr}
use Rattle.bl_tree.specs.declared.tree.Path.{Path}
use Rattle.bl_tree.specs.declared.tree.Stmt.{Stmt, fold-roll-Stmt}
use Rattle.bl_tree.specs.declared.tree.StmtKind.{StmtKind, fold-StmtKind, fold_out-StmtKind, map-StmtKind, out-StmtKind}
use Rattle.bl_tree.specs.declared.tree.StmtKind.TheOpen.{StmtKind-F}
use Rattle.bl_tree.specs.declared.tree.StmtKind.TheVariants as what
use Rattle.bl_tree.specs.Reduce.{any_of, joined}
use Rattle.bl_tree.specs.Returns.{arm_has_return, branch_has_return, has_return, kind_has_return, stmt_returns}
use Rattle.bl_names_tree.specs.declared.expr.NamedExpr.{NamedExpr}
use Rattle.bl_names_tree.specs.declared.item.NamedConstant.{NamedConstant}
use Rattle.bl_names_tree.specs.declared.item.NamedVar.{NamedVar}
use Rattle.bl_names_tree.specs.declared.stmt.NamedArm.{NamedArm, fold-roll-NamedArm, roll-NamedArm}
use Rattle.bl_names_tree.specs.declared.stmt.NamedBranch.{NamedBranch, fold-roll-NamedBranch, roll-NamedBranch}
use Rattle.bl_names_tree.specs.declared.stmt.NamedStmt.{NamedStmt, fold-roll-NamedStmt}
use Rattle.bl_names_tree.specs.declared.stmt.NamedStmtKind.{NamedStmtKind, fold-NamedStmtKind, fold-roll-NamedStmtKind, map-NamedStmtKind}
use Rattle.bl_names_tree.specs.declared.stmt.NamedStmtKind.TheOpen.{NamedStmtKind-F}
use Rattle.bl_types.specs.declared.environment.Environment.{Environment}
use Rattle.bl_types.specs.declared.form.Found.{Found}
use Rattle.bl_types.specs.declared.form.Found.TheVariants as found
use Rattle.bl_types.specs.Returns.{arm_layer_strays, branch_layer_strays, kind_strays, layer_strays, strays_in, strays_in_arm, strays_in_branch}
use Rattle.bl_types.specs.Statements.{Arguments, Block, StatementJudgement, Walked, arguments, run_target, arm_of, arm_walked, assign_made, branch_walked}
use Rattle.bl_types.specs.Statements.{condition, declare, if_complete, in_order, run_made, stmt_made, walked_arm, walked_branch, walked_stmt}
use Rattle.bl_types_laws.proofs.Arguments.{complete_if}
use Rattle.bl_types_laws.proofs.Forms.{map_found}
use Rattle.bl_types_laws.proofs.NamedStmtInduction.{Cases, induct, stmt}
use Rattle.bl_types_laws.proofs.StmtLayers.{Layer, walked_by, walked_is}

abbrev arm_has : Arm → Bool
arm_has = fold-Arm Bool Bool Bool Bool kind_has_return arm_has_return branch_has_return stmt_returns

abbrev branch_has : Branch → Bool
branch_has = fold-Branch Bool Bool Bool Bool kind_has_return arm_has_return branch_has_return stmt_returns

abbrev kind_has : StmtKind-F StmtKind Arm Branch Stmt → Bool
kind_has layer = kind_has_return
    (map-StmtKind StmtKind Arm Branch Stmt Bool Bool Bool Bool (fold-StmtKind Bool Bool Bool Bool kind_has_return arm_has_return branch_has_return stmt_returns)
    arm_has branch_has has_return layer)

has_is : (at : Place) (kind : StmtKind) (layer : StmtKind-F StmtKind Arm Branch Stmt) → out-StmtKind kind ≡ layer →
    has_return (stmt_made at kind) ≡ kind_has layer
has_is at kind layer is = rw fold-roll-Stmt (fold_out-StmtKind Bool Bool Bool Bool kind_has_return arm_has_return branch_has_return stmt_returns kind
    ∙ ap kind_has is)

arm_has_is : (test : Expr) (body : List Stmt) → arm_has (arm_of test body) ≡ any_of (map has_return body)
arm_has_is test body = rw fold-roll-Arm refl

branch_has_is : (weak : Bool) (body : List Stmt) → branch_has (roll-Branch (record { weak = weak; body = body })) ≡ any_of (map has_return body)
branch_has_is weak body = rw fold-roll-Branch refl

-- ---- one part after another

abbrev NoneIn : {A : Type 0} → List Failure → (Environment → Walked A) → (A → Bool) → Type 0
NoneIn strays walk has = strays ≡ [] → (env : Environment) (a : _) → (walk env).made ≡ Some a → has a ≡ false

module _ {X A : Type 0} (strays : X → List Failure) (walk : X → Environment → Walked A) (has : A → Bool) where
  none_front : (made : Option A) (rest : List A) → ((a : A) → made ≡ Some a → has a ≡ false) → any_of (map has rest) ≡ false →
      any_of (map has (cons_option made rest)) ≡ false
  none_front None rest one more = more
  none_front (Some a) rest one more = or_from (has a) (any_of (map has rest)) (one a refl) more

  none_in : (xs : List X) → All (λ x. NoneIn (strays x) (walk x) has) xs → joined (map strays xs) ≡ [] → (env : Environment) →
      any_of (map has (in_order (map walk xs) env).made) ≡ false
  none_in [] each none env = refl
  none_in (x ∷ xs) each none env =
      none_front (walk x env).made (in_order (map walk xs) (walk x env).env).made
      (All-head (λ x. NoneIn (strays x) (walk x) has) x xs each (first_empty (strays x) (joined (map strays xs)) none) env)
      (none_in xs (All-tail (λ x. NoneIn (strays x) (walk x) has) x xs each) (second_empty (strays x) (joined (map strays xs)) none) (walk x env).env)

module _ (constants : List NamedConstant) (vars : List NamedVar) where
  abbrev P : NamedStmt → Type 0
  P s = NoneIn (strays_in s) (walked_stmt constants vars s) has_return

  abbrev Q : NamedArm → Type 0
  Q arm = NoneIn (strays_in_arm arm) (arm_walked constants vars arm) arm_has

  abbrev R : NamedBranch → Type 0
  R branch = NoneIn (strays_in_branch branch) (branch_walked constants vars branch) branch_has

  body_none : (body : List NamedStmt) → All P body → joined (map strays_in body) ≡ [] → (env : Environment) →
      any_of (map has_return (in_order (map (walked_stmt constants vars) body) env).made) ≡ false
  body_none = none_in strays_in (walked_stmt constants vars) has_return

  abbrev strays_by : Layer → Place → List Failure
  strays_by layer = kind_strays
      (map-NamedStmtKind NamedStmtKind NamedArm NamedBranch NamedStmt (Place → List Failure) (List Failure) (List Failure) (List Failure)
      (fold-NamedStmtKind (Place → List Failure) (List Failure) (List Failure) (List Failure) kind_strays arm_layer_strays branch_layer_strays layer_strays)
      strays_in_arm strays_in_branch strays_in layer)

  strays_is : (place : Place) (layer : Layer) → strays_in (stmt place layer) ≡ strays_by layer place
  strays_is place layer = rw (fold-roll-NamedStmt, fold-roll-NamedStmtKind) refl

  by_kind : (place : Place) (layer : Layer) → (strays_by layer place ≡ [] → (env : Environment) (kind : StmtKind) →
      (walked_by constants vars layer place env).made ≡ Some kind → has_return (stmt_made place kind) ≡ false) → P (stmt place layer)
  by_kind place layer none_of none env t is =
      let made : option_map (stmt_made place) (walked_by constants vars layer place env).made ≡ Some t =
      ap (λ (walk : StatementJudgement Stmt). (walk env).made) (sym (walked_is constants vars place layer)) ∙ is in
      let found = map_found (stmt_made place) (walked_by constants vars layer place env).made t made in
      ap has_return (sym found.2) ∙ none_of (sym (strays_is place layer) ∙ none) env found.0 found.1

  -- a kind that is this has none where its parts have none
  kind_none : (place : Place) (kind a : StmtKind) (layer : StmtKind-F StmtKind Arm Branch Stmt) → kind ≡ a → out-StmtKind kind ≡ layer →
      kind_has layer ≡ false → has_return (stmt_made place a) ≡ false
  kind_none place kind a layer same is none = ap (λ kind. has_return (stmt_made place kind)) (sym same) ∙ has_is place kind layer is ∙ none

  declare_none : (place : Place) (k : ℕ) (var : Option NamedVar) (e : Option NamedExpr) (env : Environment) (a : StmtKind) →
      (declare k var e env).made ≡ Some a → has_return (stmt_made place a) ≡ false
  declare_none place k None e env a is = absurd (cc)
  declare_none place k (Some var) None env a is = kind_none place (what.Declare k None) a (StmtKind-F.Declare k None) (same_Some (what.Declare k None) a is)
      (what.outs-Declare k None) refl
  declare_none place k (Some var) (Some e) env a is =
      let found = map_found (λ e. what.Declare k (Some e)) _ a is in
      kind_none place (what.Declare k (Some found.0)) a (StmtKind-F.Declare k (Some found.0)) found.2 (what.outs-Declare k (Some found.0)) refl

  assign_none : (place : Place) (leads : Found) (value : Option Expr) (a : StmtKind) → assign_made leads value ≡ Some a →
      has_return (stmt_made place a) ≡ false
  assign_none place found.Nothing value a is = absurd (cc)
  assign_none place (found.Constant s n) value a is = absurd (cc)
  assign_none place (found.Place path) None a is = absurd (cc)
  assign_none place (found.Place path) (Some e) a is = kind_none place (what.Assign path e) a (StmtKind-F.Assign path e) (same_Some (what.Assign path e) a is)
      (what.outs-Assign path e) refl

  call_none : (place : Place) (f : ℕ) (given : Arguments) (a : StmtKind) → if_complete given (what.Call f) ≡ Some a →
      has_return (stmt_made place a) ≡ false
  call_none place f given a is =
      kind_none place (what.Call f given.inputs given.outputs) a (StmtKind-F.Call f given.inputs given.outputs)
      (complete_if given.complete (what.Call f) given.inputs given.outputs a is) (what.outs-Call f given.inputs given.outputs) refl

  run_none : (place : Place) (f : ℕ) (target : Option (Option Path)) (given : Arguments) (a : StmtKind) → run_made target f given ≡ Some a →
      has_return (stmt_made place a) ≡ false
  run_none place f None given a is = absurd (cc)
  run_none place f (Some target) given a is =
      kind_none place (what.Run target f given.inputs given.outputs) a (StmtKind-F.Run target f given.inputs given.outputs)
      (complete_if given.complete (what.Run target f) given.inputs given.outputs a is) (what.outs-Run target f given.inputs given.outputs) refl

  await_none : (place : Place) (test : Option Expr) (a : StmtKind) → option_map what.Await test ≡ Some a → has_return (stmt_made place a) ≡ false
  await_none place test a is = let found = map_found what.Await test a is in
      kind_none place (what.Await found.0) a (StmtKind-F.Await found.0) found.2 (what.outs-Await found.0) refl

  arm_case : (test : NamedExpr) (body : List NamedStmt) → All P body → Q (roll-NamedArm (record { test = test; body = body }))
  arm_case test body each none env a is =
      let strays_as : strays_in_arm (roll-NamedArm (record { test = test; body = body })) ≡ joined (map strays_in body) = rw fold-roll-NamedArm refl in
      let walked_as : arm_walked constants vars (roll-NamedArm (record { test = test; body = body }))
      ≡ walked_arm (record { test = test; body = map (walked_stmt constants vars) body }) = rw fold-roll-NamedArm refl in
      let all : Block Stmt = in_order (map (walked_stmt constants vars) body) env in
      let found = map_found (λ e. arm_of e all.made) (condition env test).made a (ap (λ (walk : StatementJudgement Arm). (walk env).made) (sym walked_as) ∙ is) in
      ap arm_has (sym found.2) ∙ arm_has_is found.0 all.made ∙ body_none body each (sym strays_as ∙ none) env

  branch_case : (weak : Bool) (body : List NamedStmt) → All P body → R (roll-NamedBranch (record { weak = weak; body = body }))
  branch_case weak body each none env a is =
      let strays_as : strays_in_branch (roll-NamedBranch (record { weak = weak; body = body })) ≡ joined (map strays_in body) =
      rw fold-roll-NamedBranch refl in
      let walked_as : branch_walked constants vars (roll-NamedBranch (record { weak = weak; body = body }))
      ≡ walked_branch (record { weak = weak; body = map (walked_stmt constants vars) body }) = rw fold-roll-NamedBranch refl in
      let all : Block Stmt = in_order (map (walked_stmt constants vars) body) env in
      let made : Branch = roll-Branch (record { weak = weak; body = all.made }) in
      let same : made ≡ a = same_Some made a (ap (λ (walk : StatementJudgement Branch). (walk env).made) (sym walked_as) ∙ is) in
      ap branch_has (sym same) ∙ branch_has_is weak all.made ∙ body_none body each (sym strays_as ∙ none) env

  stray_cases : Cases P Q R
  stray_cases = record {
    declare = λ place k value. by_kind place (NamedStmtKind-F.Declare k value) (λ none env a is. declare_none place k (slice_get vars k) value env a is);
    constant = λ place k. by_kind place (NamedStmtKind-F.Const k) (λ none env a is. absurd (cc));
    assign = λ place target e. by_kind place (NamedStmtKind-F.Assign target e) (λ none env a is. assign_none place _ _ a is);
    call = λ place name f inputs outputs. by_kind place (NamedStmtKind-F.Call name f inputs outputs)
        (λ none env a is. call_none place f (arguments env name f inputs outputs) a is);
    await = λ place e. by_kind place (NamedStmtKind-F.Await e) (λ none env a is. await_none place (condition env e).made a is);
    run = λ place target name f inputs outputs. by_kind place (NamedStmtKind-F.Run target name f inputs outputs)
        (λ none env a is. run_none place f (run_target env (slice_get env.units f) target).made (arguments env name f inputs outputs) a is);
    branching = λ place arms other each rest. by_kind place (NamedStmtKind-F.If arms other)
        (λ none env a is.
        let all : Block Arm = in_order (map (arm_walked constants vars) arms) env in
        let last : Block Stmt = in_order (map (walked_stmt constants vars) other) all.env in
        kind_none place (what.If all.made last.made) a (StmtKind-F.If all.made last.made) (same_Some (what.If all.made last.made) a is)
        (what.outs-If all.made last.made)
        (or_from (any_of (map arm_has all.made)) (any_of (map has_return last.made))
        (none_in strays_in_arm (arm_walked constants vars) arm_has arms each (first_empty (joined (map strays_in_arm arms)) (joined (map strays_in other)) none)
        env)
        (body_none other rest (second_empty (joined (map strays_in_arm arms)) (joined (map strays_in other)) none) all.env)));
    cobegin = λ place branches each. by_kind place (NamedStmtKind-F.Cobegin branches)
        (λ none env a is.
        let all : Block Branch = in_order (map (branch_walked constants vars) branches) env in
        kind_none place (what.Cobegin all.made) a (StmtKind-F.Cobegin all.made) (same_Some (what.Cobegin all.made) a is) (what.outs-Cobegin all.made)
        (none_in strays_in_branch (branch_walked constants vars) branch_has branches each none env));
    guarded = λ place guard e body each. by_kind place (NamedStmtKind-F.When guard e body)
        (λ none env a is.
        let all : Block Stmt = in_order (map (walked_stmt constants vars) body) env in
        let found = map_found (λ e. what.When guard e all.made) (condition env e).made a is in
        kind_none place (what.When guard found.0 all.made) a (StmtKind-F.When guard found.0 all.made) found.2 (what.outs-When guard found.0 all.made)
        (body_none body each none env));
    repeat = λ place body each. by_kind place (NamedStmtKind-F.Repeat body)
        (λ none env a is.
        let all : Block Stmt = in_order (map (walked_stmt constants vars) body) env in
        kind_none place (what.Repeat all.made) a (StmtKind-F.Repeat all.made) (same_Some (what.Repeat all.made) a is) (what.outs-Repeat all.made)
        (body_none body each none env));
    until = λ place body e each. by_kind place (NamedStmtKind-F.Until body e)
        (λ none env a is.
        let all : Block Stmt = in_order (map (walked_stmt constants vars) body) env in
        let found = map_found (λ e. what.Until all.made e) (condition all.env e).made a is in
        kind_none place (what.Until all.made found.0) a (StmtKind-F.Until all.made found.0) found.2 (what.outs-Until all.made found.0)
        (body_none body each none env));
    while = λ place e body each. by_kind place (NamedStmtKind-F.While e body)
        (λ none env a is.
        let all : Block Stmt = in_order (map (walked_stmt constants vars) body) env in
        let found = map_found (λ e. what.While e all.made) (condition env e).made a is in
        kind_none place (what.While found.0 all.made) a (StmtKind-F.While found.0 all.made) found.2 (what.outs-While found.0 all.made)
        (body_none body each none env));
    returns = λ place e. by_kind place (NamedStmtKind-F.Return e) (λ none env a is. absurd (cc));
    arm = arm_case;
    branch = branch_case;
  }

  -- a statement in which no `return` strays is made one without a `return`
  pub statement_none : (s : NamedStmt) → strays_in s ≡ [] → (env : Environment) (t : Stmt) → (walked_stmt constants vars s env).made ≡ Some t →
      has_return t ≡ false
  statement_none = induct P Q R stray_cases
