-- Bodies are walked alike in two environments that agree.
use Rattle.std.proofs.Common.{◌≡◌, ℕ, ◌+◌, ◌≤◌, List, [], ◌++◌, map, length, Option, Some, None, refl, ap, ap₂, sym, subst, ◌∙◌}
use Rattle.std.specs.Prelude.{All, Bool, ◌&&◌, nat_eq, option_map, slice_get}
use Rattle.bl_tree.specs.declared.place.Place.{Place}
use Rattle.bl_tree.specs.declared.rule.Failure.{Failure}
use Rattle.bl_tree.specs.declared.tree.Arm.{Arm}
use Rattle.bl_tree.specs.declared.tree.Branch.{Branch, roll-Branch}
use Rattle.bl_tree.specs.declared.tree.Expr.{Expr}
use Rattle.bl_tree.specs.declared.tree.Guard.{Guard}
use Rattle.bl_tree.specs.declared.tree.Stmt.{Stmt}
use Rattle.bl_tree.specs.declared.tree.StmtKind.{StmtKind}
use Rattle.bl_tree.specs.declared.tree.StmtKind.TheVariants as what
use Rattle.bl_tree_laws_places.specs.Placed.{placed_expr, placed_stmt}
use Rattle.bl_tree_laws_places.proofs.Stmts.{acted, armed, branched}
use Rattle.bl_eval.proofs.OperatorFits.{some_found, where_holds}
use Rattle.bl_names_laws_places.specs.Renamed.{Renaming, renamed_expr, renamed_stmt, renamed_var}
use Rattle.bl_names_laws_places.proofs.Stmts.{arming, branching}
use Rattle.bl_names_tree.specs.declared.expr.NamedExpr.{NamedExpr}
use Rattle.bl_names_tree.specs.declared.item.NamedConstant.{NamedConstant}
use Rattle.bl_names_tree.specs.declared.item.NamedVar.{NamedVar}
use Rattle.bl_names_tree.specs.declared.stmt.NamedArm.{NamedArm, fold-roll-NamedArm, roll-NamedArm}
use Rattle.bl_names_tree.specs.declared.stmt.NamedBranch.{NamedBranch, fold-roll-NamedBranch, roll-NamedBranch}
use Rattle.bl_names_tree.specs.declared.stmt.NamedStmt.{NamedStmt}
use Rattle.bl_names_tree.specs.declared.stmt.NamedStmtKind.TheOpen.{NamedStmtKind-F}
use Rattle.bl_names_tree.specs.Placed.{DeclaredBefore, PlacedStep, constant_placed, expr_placed, holds_of, in_turn, stmt_step, tested}
use Rattle.bl_names_tree.specs.Placed.{with_constant as constant_counted}
use Rattle.bl_names_tree.specs.inner.Placed.{step_of_arm, step_of_branch}
use Rattle.bl_types.specs.declared.environment.Environment.{Environment}
use Rattle.bl_types.specs.Settled.{Settled}
use Rattle.bl_types.specs.Statements.{Block, StatementJudgement, arm_of, arm_walked, branch_walked, condition, in_order, misplaced, stmt_made, under}
use Rattle.bl_types.specs.Statements.{walked_arm, walked_block, walked_branch, walked_layer, walked_stmt}
use Rattle.bl_types_laws.specs.Within.{known_in}
use Rattle.bl_types_laws.proofs.NamedStmtInduction.{Cases, induct, stmt}
use Rattle.bl_types_laws.proofs.StmtLayers.{Layer, step_by, step_is, walked_by, walked_is}
use Rattle.std.proofs.lemmas.Option.{same_Some}
use Rattle.bl_types_laws_places.specs.Agree.{placed_failures}
use Rattle.bl_types_laws_places.specs.Judgements.{placed_settled}
use Rattle.bl_types_laws_places.specs.Laws.{ArgumentsAgree, DeclarationsAgree, ExpressionsAgree}
use Rattle.bl_types_laws_places_units.proofs.Alike.{Alike, BlocksAlike, Inside, SameConstants, WalksAlike, block_alike, both_placed, earlier_below}
use Rattle.bl_types_laws_places_units.proofs.Alike.{inside_further}
use Rattle.bl_types_laws_places_units.proofs.Grows.{arm_grows, block_grows, bodies_grow, branch_grows, stmt_grows}
use Rattle.bl_types_laws_places_units.proofs.Layers.{assign_layer, await_layer, call_layer, constant_layer, declare_layer, misplaced_placed, one_placed}
use Rattle.bl_types_laws_places_units.proofs.Layers.{return_layer, run_layer}
use Rattle.bl_types_laws_places_units.proofs.Made as made
use Rattle.bl_types_laws_places_units.proofs.Renamed as renamed
use Rattle.bl_types_laws_places_units.proofs.Renamed.{relayered}

-- a statement at a place, with mapped places
made_at : (f : Place → Place) (place : Place) (kind : Option StmtKind) →
    option_map (stmt_made (f place)) (option_map (acted f) kind) ≡ option_map (placed_stmt f) (option_map (stmt_made place) kind)
made_at f place (Some kind) = ap Some (sym (made.stmt_is f place kind))
made_at f place None = refl

-- ---- blocks under and behind expressions

module _ {A : Type 0} (by : Renaming) (placed : A → A) (make : Expr → List Stmt → A)
    (same : (e : Expr) (body : List Stmt) → make (placed_expr by.place e) (map (placed_stmt by.place) body) ≡ placed (make e body)) where
  tested_made : (body : List Stmt) (e : Option Expr) →
      option_map (λ e. make e (map (placed_stmt by.place) body)) (option_map (placed_expr by.place) e)
      ≡ option_map placed (option_map (λ e. make e body) e)
  tested_made body (Some e) = ap Some (same e body)
  tested_made body None = refl

  under_alike : (near_earlier far_earlier : List Failure) (near_test far_test : Settled) (one two : Block Stmt) →
      far_earlier ≡ placed_failures by.place near_earlier → far_test ≡ placed_settled by.place near_test →
      BlocksAlike by (placed_stmt by.place) one two →
      WalksAlike by placed (under near_earlier near_test one make) (under far_earlier far_test two make)
  under_alike near_earlier far_earlier near_test far_test one two earlier test blocks = record {
    env = blocks.env;
    made = (λ i. option_map (λ e. make e (blocks.made i)) (test i).made) ∙ tested_made one.made near_test.made;
    failures =
        both_placed by.place near_earlier (near_test.failures ++ one.failures) far_earlier (far_test.failures ++ two.failures) earlier
        (both_placed by.place near_test.failures one.failures far_test.failures two.failures (ap (λ (test : Settled). test.failures) test)
        blocks.failures);
  }

-- ---- statements

module _ (by : Renaming) (from upto : ℕ) (expressions : ExpressionsAgree) (arguments_agree : ArgumentsAgree) (declarations : DeclarationsAgree)
    (one other : List NamedConstant) (same : SameConstants by from upto one other) (vars : List NamedVar) where
  abbrev f : Place → Place
  f = by.place

  abbrev far_vars : List NamedVar
  far_vars = map (renamed_var by) vars

  abbrev P : NamedStmt → Type 0
  P s = Alike by from upto (placed_stmt f) (walked_stmt one vars s) (walked_stmt other far_vars (renamed_stmt by s)) (stmt_step vars one s)

  abbrev Q : NamedArm → Type 0
  Q arm = Alike by from upto (armed f) (arm_walked one vars arm) (arm_walked other far_vars (arming by arm)) (step_of_arm vars one arm)

  abbrev R : NamedBranch → Type 0
  R branch = Alike by from upto (branched f) (branch_walked one vars branch) (branch_walked other far_vars (branching by branch))
      (step_of_branch vars one branch)

  abbrev KindAlike : Place → Layer → Type 0
  KindAlike place layer = Alike by from upto (acted f) (walked_by one vars layer place) (walked_by other far_vars (relayered by layer) (f place))
      (step_by one vars layer)

  by_kind : (place : Place) (layer : Layer) → KindAlike place layer → P (stmt place layer)
  by_kind place layer alike near far inside counts step less =
      let kinds = alike near far inside counts (ap (λ (step : PlacedStep). step (known_in near)) (sym (step_is one vars place layer)) ∙ step) less in
      let near_is : walked_stmt one vars (stmt place layer) ≡ walked_layer (record { place = place; what = walked_by one vars layer }) =
      walked_is one vars place layer in
      let far_is : walked_stmt other far_vars (renamed_stmt by (stmt place layer))
      ≡ walked_layer (record { place = f place; what = walked_by other far_vars (relayered by layer) }) =
      ap (walked_stmt other far_vars) (renamed.stmt_is by place layer) ∙ walked_is other far_vars (f place) (relayered by layer) in
      let whole : WalksAlike by (placed_stmt f) (walked_layer (record { place = place; what = walked_by one vars layer }) near)
      (walked_layer (record { place = f place; what = walked_by other far_vars (relayered by layer) }) far) = record {
        env = kinds.env;
        made = ap (option_map (stmt_made (f place))) kinds.made ∙ made_at f place (walked_by one vars layer place near).made;
        failures = kinds.failures;
      } in
      subst
      (λ (walk : StatementJudgement Stmt). WalksAlike by (placed_stmt f) (walk near) (walked_stmt other far_vars (renamed_stmt by (stmt place layer)) far))
      (sym near_is)
      (subst
      (λ (walk : StatementJudgement Stmt). WalksAlike by (placed_stmt f)
      (walked_layer (record { place = place; what = walked_by one vars layer }) near) (walk far))
      (sym far_is) whole)

  -- ---- blocks

  abbrev near_block : List NamedStmt → Environment → Block Stmt
  near_block body env = in_order (map (walked_stmt one vars) body) env

  abbrev far_block : List NamedStmt → Environment → Block Stmt
  far_block body env = in_order (map (walked_stmt other far_vars) (map (renamed_stmt by) body)) env

  body_alike : (body : List NamedStmt) → All P body → (near far : Environment) → Inside by from near far → (counts : DeclaredBefore) →
      in_turn (map (stmt_step vars one) body) (known_in near) ≡ Some counts → counts.constants ≤ upto →
      BlocksAlike by (placed_stmt f) (near_block body near) (far_block body far)
  body_alike body each =
      block_alike by from upto (placed_stmt f) (renamed_stmt by) (walked_stmt one vars) (walked_stmt other far_vars) (stmt_step vars one)
      (stmt_grows one vars) (λ s env. (stmt_grows other far_vars s env).grown) body each

  -- a block that is tested is in place
  inside_test : (e : NamedExpr) (body : List NamedStmt) (near : Environment) (counts : DeclaredBefore) →
      tested e (map (stmt_step vars one) body) (known_in near) ≡ Some counts →
      in_turn (map (stmt_step vars one) body) (known_in near) ≡ Some counts
  inside_test e body near counts step =
      (where_holds (expr_placed (known_in near) e) (in_turn (map (stmt_step vars one) body) (known_in near)) counts step).1

  arms_alike : (arms : List NamedArm) → All Q arms → (near far : Environment) → Inside by from near far → (counts : DeclaredBefore) →
      in_turn (map (step_of_arm vars one) arms) (known_in near) ≡ Some counts → counts.constants ≤ upto →
      BlocksAlike by (armed f) (in_order (map (arm_walked one vars) arms) near)
      (in_order (map (arm_walked other far_vars) (map (arming by) arms)) far)
  arms_alike arms each =
      block_alike by from upto (armed f) (arming by) (arm_walked one vars) (arm_walked other far_vars) (step_of_arm vars one) (arm_grows one vars)
      (λ arm env. (arm_grows other far_vars arm env).grown) arms each

  branches_alike : (branches : List NamedBranch) → All R branches → (near far : Environment) → Inside by from near far → (counts : DeclaredBefore) →
      in_turn (map (step_of_branch vars one) branches) (known_in near) ≡ Some counts → counts.constants ≤ upto →
      BlocksAlike by (branched f) (in_order (map (branch_walked one vars) branches) near)
      (in_order (map (branch_walked other far_vars) (map (branching by) branches)) far)
  branches_alike branches each =
      block_alike by from upto (branched f) (branching by) (branch_walked one vars) (branch_walked other far_vars) (step_of_branch vars one)
      (branch_grows one vars) (λ branch env. (branch_grows other far_vars branch env).grown) branches each

  -- ---- the cases

  const_case : (place : Place) (k : ℕ) → P (stmt place (NamedStmtKind-F.Const k))
  const_case place k = by_kind place (NamedStmtKind-F.Const k)
      (λ near far inside counts step less.
      let holds = where_holds (nat_eq k (length near.constants) && holds_of (constant_placed (known_in near)) (slice_get one k))
      (Some (constant_counted (known_in near))) counts step in
      let more : length near.constants + 1 ≡ counts.constants =
      ap (λ (counts : DeclaredBefore). counts.constants) (same_Some (constant_counted (known_in near)) counts holds.1) in
      constant_layer by from upto expressions arguments_agree declarations near far inside k one other same (slice_get one k) refl
      (subst (λ n. n ≤ upto) (sym more) less) holds.0)

  if_case : (place : Place) (arms : List NamedArm) (rest : List NamedStmt) → All Q arms → All P rest → P (stmt place (NamedStmtKind-F.If arms rest))
  if_case place arms rest each_arm each = by_kind place (NamedStmtKind-F.If arms rest)
      (λ near far inside counts step less.
      let near_arms : Block Arm = in_order (map (arm_walked one vars) arms) near in
      let far_arms : Block Arm = in_order (map (arm_walked other far_vars) (map (arming by) arms)) far in
      let found = some_found (in_turn (map (stmt_step vars one) rest)) (in_turn (map (step_of_arm vars one) arms) (known_in near)) counts step in
      let grows = block_grows (arm_walked one vars) (step_of_arm vars one) arms (λ k d less. arm_grows one vars _) near in
      let far_grows = block_grows (arm_walked other far_vars) (step_of_arm far_vars other) (map (arming by) arms)
      (λ k d less. arm_grows other far_vars _) far in
      let behind = bodies_grow one vars rest near_arms.env in
      let next : in_turn (map (stmt_step vars one) rest) (known_in near_arms.env) ≡ Some counts =
      ap (in_turn (map (stmt_step vars one) rest)) (grows.counts_are found.0 found.1) ∙ found.2 in
      let first = arms_alike arms each_arm near far inside found.0 found.1
      (earlier_below near_arms.env (near_block rest near_arms.env).env found.0 counts upto (grows.counts_are found.0 found.1)
      (behind.counts_are counts next) behind.grown less) in
      let second = body_alike rest each near_arms.env far_arms.env
      (inside_further by from near far near_arms.env far_arms.env inside grows.grown far_grows.grown first.env) counts next less in
      record {
        env = second.env;
        made =
            ap₂ (λ xs ys. Some (what.If xs ys)) first.made second.made
            ∙ ap Some (sym (made.if_is f near_arms.made (near_block rest near_arms.env).made));
        failures =
            both_placed f near_arms.failures (near_block rest near_arms.env).failures far_arms.failures (far_block rest far_arms.env).failures
            first.failures second.failures;
      })

  cobegin_case : (place : Place) (branches : List NamedBranch) → All R branches → P (stmt place (NamedStmtKind-F.Cobegin branches))
  cobegin_case place branches each = by_kind place (NamedStmtKind-F.Cobegin branches)
      (λ near far inside counts step less.
      let blocks = branches_alike branches each near far inside counts step less in
      let near_all : Block Branch = in_order (map (branch_walked one vars) branches) near in
      record {
        env = blocks.env;
        made = ap (λ xs. Some (what.Cobegin xs)) blocks.made ∙ ap Some (sym (made.cobegin_is f near_all.made));
        failures =
            both_placed f (misplaced near.kind place) near_all.failures (misplaced far.kind (f place)) _
            (misplaced_placed by from upto expressions arguments_agree declarations near far inside place) blocks.failures;
      })

  when_case : (place : Place) (guard : Guard) (e : NamedExpr) (body : List NamedStmt) → All P body → P (stmt place (NamedStmtKind-F.When guard e body))
  when_case place guard e body each = by_kind place (NamedStmtKind-F.When guard e body)
      (λ near far inside counts step less.
      under_alike by (acted f) (what.When guard) (λ e body. sym (made.when_is f guard e body)) (misplaced near.kind place)
      (misplaced far.kind (f place)) (condition near e) (condition far (renamed_expr by e)) (near_block body near) (far_block body far)
      (misplaced_placed by from upto expressions arguments_agree declarations near far inside place)
      ((expressions by near far inside.agree).condition e)
      (body_alike body each near far inside counts (inside_test e body near counts step) less))

  while_case : (place : Place) (e : NamedExpr) (body : List NamedStmt) → All P body → P (stmt place (NamedStmtKind-F.While e body))
  while_case place e body each = by_kind place (NamedStmtKind-F.While e body)
      (λ near far inside counts step less.
      under_alike by (acted f) what.While (λ e body. sym (made.while_is f e body)) [] [] (condition near e) (condition far (renamed_expr by e))
      (near_block body near) (far_block body far) refl ((expressions by near far inside.agree).condition e)
      (body_alike body each near far inside counts (inside_test e body near counts step) less))

  repeat_case : (place : Place) (body : List NamedStmt) → All P body → P (stmt place (NamedStmtKind-F.Repeat body))
  repeat_case place body each = by_kind place (NamedStmtKind-F.Repeat body)
      (λ near far inside counts step less.
      let blocks = body_alike body each near far inside counts step less in
      record {
        env = blocks.env;
        made = ap (λ xs. Some (what.Repeat xs)) blocks.made ∙ ap Some (sym (made.repeat_is f (near_block body near).made));
        failures = blocks.failures;
      })

  until_case : (place : Place) (body : List NamedStmt) (e : NamedExpr) → All P body → P (stmt place (NamedStmtKind-F.Until body e))
  until_case place body e each = by_kind place (NamedStmtKind-F.Until body e)
      (λ near far inside counts step less.
      let blocks = body_alike body each near far inside counts (inside_test e body near counts step) less in
      let near_all : Block Stmt = near_block body near in
      let far_all : Block Stmt = far_block body far in
      let test = (expressions by near_all.env far_all.env blocks.env).condition e in
      record {
        env = blocks.env;
        made =
            (λ i. option_map (λ e. what.Until (blocks.made i) e) (test i).made)
            ∙ one_placed f (λ e. what.Until near_all.made e) (λ e. what.Until (map (placed_stmt f) near_all.made) e)
            (λ e. sym (made.until_is f near_all.made e)) (condition near_all.env e).made;
        failures =
            both_placed f near_all.failures (condition near_all.env e).failures far_all.failures _ blocks.failures
            (ap (λ (test : Settled). test.failures) test);
      })

  arm_case : (test : NamedExpr) (body : List NamedStmt) → All P body → Q (roll-NamedArm (record { test = test; body = body }))
  arm_case test body each near far inside counts step less =
      let near_is : arm_walked one vars (roll-NamedArm (record { test = test; body = body }))
      ≡ walked_arm (record { test = test; body = map (walked_stmt one vars) body }) = rw fold-roll-NamedArm refl in
      let far_rolled : arm_walked other far_vars (roll-NamedArm (record { test = renamed_expr by test; body = map (renamed_stmt by) body }))
      ≡ walked_arm (record { test = renamed_expr by test; body = map (walked_stmt other far_vars) (map (renamed_stmt by) body) }) =
      rw fold-roll-NamedArm refl in
      let far_is = ap (arm_walked other far_vars) (renamed.arm_is by test body) ∙ far_rolled in
      let step_as : step_of_arm vars one (roll-NamedArm (record { test = test; body = body })) ≡ tested test (map (stmt_step vars one) body) =
      rw fold-roll-NamedArm refl in
      let placed = inside_test test body near counts (ap (λ (step : PlacedStep). step (known_in near)) (sym step_as) ∙ step) in
      let whole = under_alike by (armed f) arm_of (λ e body. sym (made.arm_is f e body)) [] [] (condition near test)
      (condition far (renamed_expr by test)) (near_block body near) (far_block body far) refl
      ((expressions by near far inside.agree).condition test) (body_alike body each near far inside counts placed less) in
      subst
      (λ (walk : StatementJudgement Arm). WalksAlike by (armed f) (walk near)
      (arm_walked other far_vars (arming by (roll-NamedArm (record { test = test; body = body }))) far))
      (sym near_is)
      (subst
      (λ (walk : StatementJudgement Arm). WalksAlike by (armed f) (walked_arm (record { test = test; body = map (walked_stmt one vars) body }) near)
      (walk far))
      (sym far_is) whole)

  branch_case : (weak : Bool) (body : List NamedStmt) → All P body → R (roll-NamedBranch (record { weak = weak; body = body }))
  branch_case weak body each near far inside counts step less =
      let near_is : branch_walked one vars (roll-NamedBranch (record { weak = weak; body = body }))
      ≡ walked_branch (record { weak = weak; body = map (walked_stmt one vars) body }) = rw fold-roll-NamedBranch refl in
      let far_rolled : branch_walked other far_vars (roll-NamedBranch (record { weak = weak; body = map (renamed_stmt by) body }))
      ≡ walked_branch (record { weak = weak; body = map (walked_stmt other far_vars) (map (renamed_stmt by) body) }) = rw fold-roll-NamedBranch refl in
      let far_is = ap (branch_walked other far_vars) (renamed.branch_is by weak body) ∙ far_rolled in
      let step_as : step_of_branch vars one (roll-NamedBranch (record { weak = weak; body = body })) ≡ in_turn (map (stmt_step vars one) body) =
      rw fold-roll-NamedBranch refl in
      let blocks = body_alike body each near far inside counts (ap (λ (step : PlacedStep). step (known_in near)) (sym step_as) ∙ step) less in
      let whole : WalksAlike by (branched f) (walked_branch (record { weak = weak; body = map (walked_stmt one vars) body }) near)
      (walked_branch (record { weak = weak; body = map (walked_stmt other far_vars) (map (renamed_stmt by) body) }) far) = record {
        env = blocks.env;
        made =
            ap (λ xs. Some (roll-Branch (record { weak = weak; body = xs }))) blocks.made
            ∙ ap Some (sym (made.branch_is f weak (near_block body near).made));
        failures = blocks.failures;
      } in
      subst
      (λ (walk : StatementJudgement Branch). WalksAlike by (branched f) (walk near)
      (branch_walked other far_vars (branching by (roll-NamedBranch (record { weak = weak; body = body }))) far))
      (sym near_is)
      (subst
      (λ (walk : StatementJudgement Branch). WalksAlike by (branched f)
      (walked_branch (record { weak = weak; body = map (walked_stmt one vars) body }) near) (walk far))
      (sym far_is) whole)

  cases : Cases P Q R
  cases = record {
    declare = λ place k value. by_kind place (NamedStmtKind-F.Declare k value)
        (λ near far inside counts step less.
        declare_layer by from upto expressions arguments_agree declarations near far inside k vars value);
    constant = const_case;
    assign = λ place target e. by_kind place (NamedStmtKind-F.Assign target e)
        (λ near far inside counts step less. assign_layer by from upto expressions arguments_agree declarations near far inside target e);
    call = λ place name k inputs outputs. by_kind place (NamedStmtKind-F.Call name k inputs outputs)
        (λ near far inside counts step less.
        call_layer by from upto expressions arguments_agree declarations near far inside name k inputs outputs);
    await = λ place e. by_kind place (NamedStmtKind-F.Await e)
        (λ near far inside counts step less. await_layer by from upto expressions arguments_agree declarations near far inside place e);
    run = λ place target name a inputs outputs. by_kind place (NamedStmtKind-F.Run target name a inputs outputs)
        (λ near far inside counts step less.
        run_layer by from upto expressions arguments_agree declarations near far inside place name a target inputs outputs);
    branching = if_case;
    cobegin = cobegin_case;
    guarded = when_case;
    repeat = repeat_case;
    until = until_case;
    while = while_case;
    returns = λ place e. by_kind place (NamedStmtKind-F.Return e)
        (λ near far inside counts step less. return_layer by from upto expressions arguments_agree declarations near far inside place e);
    arm = arm_case;
    branch = branch_case;
  }

  stmt_alike : (s : NamedStmt) → P s
  stmt_alike = induct P Q R cases

  -- a body fails at the mapped places, and its statements are those with mapped places
  pub bodies_alike : (body : List NamedStmt) (near far : Environment) → Inside by from near far → (counts : DeclaredBefore) →
      in_turn (map (stmt_step vars one) body) (known_in near) ≡ Some counts → counts.constants ≤ upto →
      BlocksAlike by (placed_stmt by.place) (walked_block one vars body near)
      (walked_block other (map (renamed_var by) vars) (map (renamed_stmt by) body) far)
  bodies_alike body = body_alike body (λ k d less. stmt_alike _)
