-- Statements that fit name under a `prev` only variables of their unit that are scalar.
use Rattle.std.proofs.Common.{◌≡◌, ℕ, Bool, true, ◌&&◌, ◌||◌, List, [], ◌∷◌, ◌++◌, map, Option, Some, None, refl}
use Rattle.std.proofs.Common.{sym, ap, ◌∙◌}
use Rattle.std.proofs.lemmas.List.Elements.{All-head, All-tail}
use Rattle.std.specs.List.{list_all}
use Rattle.std.specs.Prelude.{slice_get}
use Rattle.bl_tree.proofs.Basics.{and_first, and_second}
use Rattle.bl_tree.specs.declared.place.Place.{Place}
use Rattle.bl_tree.specs.declared.scalar.Scalar.{Scalar as ScalarType}
use Rattle.bl_tree.specs.declared.tree.Arm.{Arm, fold-Arm, fold_out-Arm, out-Arm}
use Rattle.bl_tree.specs.declared.tree.Branch.{Branch, fold-Branch, fold_out-Branch, out-Branch}
use Rattle.bl_tree.specs.declared.tree.Expr.{Expr}
use Rattle.bl_tree.specs.declared.tree.Path.{Path}
use Rattle.bl_tree.specs.declared.tree.Stmt.{Stmt, fold-roll-Stmt}
use Rattle.bl_tree.specs.declared.tree.StmtKind.{StmtKind, fold-StmtKind, fold-roll-StmtKind, map-StmtKind}
use Rattle.bl_tree.specs.declared.tree.StmtKind.TheOpen.{StmtKind-F}
use Rattle.bl_tree.specs.declared.tree.Unit.{Unit as UnitDef}
use Rattle.bl_tree.specs.declared.tree.Var.{Var}
use Rattle.bl_tree.specs.Reduce.{all_of, joined}
use Rattle.bl_tree.specs.Types.{scalar}
use Rattle.bl_tree.specs.Typing.{TypingContext, are_same, arguments_fit, arm_fits, branch_fits, call_fits, declaration_fits, fits, inputs_of, is_activity}
use Rattle.bl_tree.specs.Typing.{is_assignable, is_fixed, is_inhabited, is_outlet, is_procedure, is_truth, is_variable, kind_fits, outputs_of}
use Rattle.bl_tree.specs.Typing.{return_fits, run_fits, stmt_fits, target_fits, type_of, type_of_path, types_match, var_at}
use Rattle.bl_tree.proofs.StmtInduction.{Cases, Each, EachArm, EachBranch, induct, stmt}
use Rattle.bl_machine_prevs.specs.Prevs.{argument_prevs, arm_prevs, branch_prevs, optional_prevs, prevs_in, prevs_in_arm, prevs_in_branch, prevs_in_expr}
use Rattle.bl_machine_prevs.specs.Prevs.{prevs_in_path, stmt_kind_prevs, stmt_layer_prevs, target_prevs}
use Rattle.bl_machine_prevs_laws.proofs.OnScalar.Expressions.{all_both, expr_scalar, exprs_scalar, is_scalar, path_scalar, paths_scalar}
use Rattle.bl_machine_prevs_laws.proofs.OnDeclared.Statements.{first_typed, second_typed, truth_typed}

-- ---- expressions that must have a type

module _ (site : TypingContext) where
  abbrev Good : List ℕ → Type 0
  Good ks = list_all (is_scalar site) ks ≡ true

  abbrev P : Stmt → Type 0
  P s = fits site s ≡ true → Good (prevs_in s)

  two_good : (xs ys : List ℕ) → Good xs → Good ys → Good (xs ++ ys)
  two_good xs ys one two = all_both (is_scalar site) xs ys one two

  truth_good : (e : Expr) → is_truth (type_of site e) ≡ true → Good (prevs_in_expr e)
  truth_good e fitted = let typed = truth_typed (type_of site e) fitted in expr_scalar site e typed.0 typed.1

  initial_good : (initial : Option Expr) (var : Option Var) → declaration_fits site initial var ≡ true → Good (optional_prevs initial)
  initial_good None var fitted = refl
  initial_good (Some e) None fitted = absurd (cc)
  initial_good (Some e) (Some var) fitted =
      let typed = second_typed (Some var.ty) (type_of site e)
      (and_second (is_variable var.role || is_fixed var.role) (are_same (Some var.ty) (type_of site e)) fitted) in
      expr_scalar site e typed.0 typed.1

  returned_good : (value : Option Expr) (result : Option ScalarType) → return_fits site value result ≡ true → Good (optional_prevs value)
  returned_good None result fitted = refl
  returned_good (Some e) None fitted = absurd (cc)
  returned_good (Some e) (Some s) fitted =
      let typed = second_typed (Some (scalar s)) (type_of site e) fitted in expr_scalar site e typed.0 typed.1

  assigned_good : (path : Path) (e : Expr) → (is_assignable site path && are_same (type_of_path site path) (type_of site e)) ≡ true →
      Good (prevs_in_path path ++ prevs_in_expr e)
  assigned_good path e fitted =
      let same = and_second (is_assignable site path) (are_same (type_of_path site path) (type_of site e)) fitted in
      let one = first_typed (type_of_path site path) (type_of site e) same in
      let two = second_typed (type_of_path site path) (type_of site e) same in
      two_good (prevs_in_path path) (prevs_in_expr e) (path_scalar site path one.0 one.1) (expr_scalar site e two.0 two.1)

  arguments_good : (inputs : List Expr) (outputs : List Path) (unit : UnitDef) → arguments_fit site inputs outputs unit ≡ true →
      Good (argument_prevs inputs outputs)
  arguments_good inputs outputs unit fitted =
      let ins = types_match (map (type_of site) inputs) (inputs_of unit) in
      let outs = types_match (map (type_of_path site) outputs) (outputs_of unit) in
      let lets = all_of (map (is_outlet site) outputs) in
      two_good (joined (map prevs_in_expr inputs)) (joined (map prevs_in_path outputs))
      (exprs_scalar site inputs (inputs_of unit) (and_first ins (outs && lets) fitted))
      (paths_scalar site outputs (outputs_of unit) (and_first outs lets (and_second ins (outs && lets) fitted)))

  called_good : (inputs : List Expr) (outputs : List Path) (callee : Option UnitDef) → call_fits site inputs outputs callee ≡ true →
      Good (argument_prevs inputs outputs)
  called_good inputs outputs None fitted = absurd (cc)
  called_good inputs outputs (Some unit) fitted =
      arguments_good inputs outputs unit (and_second (is_procedure unit) (arguments_fit site inputs outputs unit) fitted)

  target_good : (result : Option ScalarType) (target : Option Path) → target_fits site result target ≡ true → Good (target_prevs target)
  target_good result None fitted = refl
  target_good None (Some path) fitted = absurd (cc)
  target_good (Some s) (Some path) fitted =
      let typed = second_typed (Some (scalar s)) (type_of_path site path)
      (and_second (is_outlet site path) (are_same (Some (scalar s)) (type_of_path site path)) fitted) in
      path_scalar site path typed.0 typed.1

  ran_good : (target : Option Path) (inputs : List Expr) (outputs : List Path) (callee : Option UnitDef) →
      run_fits site target inputs outputs callee ≡ true → Good (target_prevs target ++ argument_prevs inputs outputs)
  ran_good target inputs outputs None fitted = absurd (cc)
  ran_good target inputs outputs (Some unit) fitted =
      let rest = and_second (is_activity site.kind && is_activity unit.kind)
      (target_fits site unit.result target && arguments_fit site inputs outputs unit) fitted in
      two_good (target_prevs target) (argument_prevs inputs outputs)
      (target_good unit.result target (and_first (target_fits site unit.result target) (arguments_fit site inputs outputs unit) rest))
      (arguments_good inputs outputs unit (and_second (target_fits site unit.result target) (arguments_fit site inputs outputs unit) rest))

  blocks_good : (body : List Stmt) → Each P body → all_of (map (fits site) body) ≡ true → Good (joined (map prevs_in body))
  blocks_good [] each fitted = refl
  blocks_good (s ∷ body) each fitted =
      two_good (prevs_in s) (joined (map prevs_in body))
      (All-head P s body each (and_first (fits site s) (all_of (map (fits site) body)) fitted))
      (blocks_good body (All-tail P s body each) (and_second (fits site s) (all_of (map (fits site) body)) fitted))

  -- ---- arms and branches

  abbrev arm_fitted : Arm → Bool
  arm_fitted = fold-Arm Bool Bool Bool Bool (kind_fits site) (arm_fits site) branch_fits stmt_fits

  abbrev branch_fitted : Branch → Bool
  branch_fitted = fold-Branch Bool Bool Bool Bool (kind_fits site) (arm_fits site) branch_fits stmt_fits

  abbrev OfArm : Arm → Type 0
  OfArm arm = Each P (out-Arm arm).body

  abbrev OfBranch : Branch → Type 0
  OfBranch branch = Each P (out-Branch branch).body

  arm_good : (arm : Arm) → OfArm arm → arm_fitted arm ≡ true → Good (prevs_in_arm arm)
  arm_good arm each fitted =
      let e : Expr = (out-Arm arm).test in
      let body : List Stmt = (out-Arm arm).body in
      let fits_so : (is_truth (type_of site e) && all_of (map (fits site) body)) ≡ true =
      sym (fold_out-Arm Bool Bool Bool Bool (kind_fits site) (arm_fits site) branch_fits stmt_fits arm) ∙ fitted in
      ap (list_all (is_scalar site)) (fold_out-Arm (List ℕ) (List ℕ) (List ℕ) (List ℕ) stmt_kind_prevs arm_prevs branch_prevs stmt_layer_prevs arm)
      ∙ two_good (prevs_in_expr e) (joined (map prevs_in body))
      (truth_good e (and_first (is_truth (type_of site e)) (all_of (map (fits site) body)) fits_so))
      (blocks_good body each (and_second (is_truth (type_of site e)) (all_of (map (fits site) body)) fits_so))

  arms_good : (arms : List Arm) → EachArm P arms → all_of (map arm_fitted arms) ≡ true → Good (joined (map prevs_in_arm arms))
  arms_good [] each fitted = refl
  arms_good (arm ∷ arms) each fitted =
      two_good (prevs_in_arm arm) (joined (map prevs_in_arm arms))
      (arm_good arm (All-head OfArm arm arms each) (and_first (arm_fitted arm) (all_of (map arm_fitted arms)) fitted))
      (arms_good arms (All-tail OfArm arm arms each) (and_second (arm_fitted arm) (all_of (map arm_fitted arms)) fitted))

  branch_good : (branch : Branch) → OfBranch branch → branch_fitted branch ≡ true → Good (prevs_in_branch branch)
  branch_good branch each fitted =
      let fits_so = sym (fold_out-Branch Bool Bool Bool Bool (kind_fits site) (arm_fits site) branch_fits stmt_fits branch) ∙ fitted in
      ap (list_all (is_scalar site))
      (fold_out-Branch (List ℕ) (List ℕ) (List ℕ) (List ℕ) stmt_kind_prevs arm_prevs branch_prevs stmt_layer_prevs branch)
      ∙ blocks_good (out-Branch branch).body each fits_so

  branches_good : (branches : List Branch) → EachBranch P branches → all_of (map branch_fitted branches) ≡ true →
      Good (joined (map prevs_in_branch branches))
  branches_good [] each fitted = refl
  branches_good (branch ∷ branches) each fitted =
      two_good (prevs_in_branch branch) (joined (map prevs_in_branch branches))
      (branch_good branch (All-head OfBranch branch branches each)
      (and_first (branch_fitted branch) (all_of (map branch_fitted branches)) fitted))
      (branches_good branches (All-tail OfBranch branch branches each)
      (and_second (branch_fitted branch) (all_of (map branch_fitted branches)) fitted))

  -- ---- all statements

  abbrev Layer : Type 0
  Layer = StmtKind-F StmtKind Arm Branch Stmt

  abbrev fits_layer : Layer → Bool
  fits_layer layer = kind_fits site
      (map-StmtKind StmtKind Arm Branch Stmt Bool Bool Bool Bool (fold-StmtKind Bool Bool Bool Bool (kind_fits site)
      (arm_fits site) branch_fits stmt_fits)
      arm_fitted branch_fitted (fits site) layer)

  abbrev prevs_layer : Layer → List ℕ
  prevs_layer layer = stmt_kind_prevs
      (map-StmtKind StmtKind Arm Branch Stmt (List ℕ) (List ℕ) (List ℕ) (List ℕ)
      (fold-StmtKind (List ℕ) (List ℕ) (List ℕ) (List ℕ) stmt_kind_prevs arm_prevs branch_prevs stmt_layer_prevs)
      prevs_in_arm prevs_in_branch prevs_in layer)

  by_kind : (place : Place) (layer : Layer) → (fits_layer layer ≡ true → Good (prevs_layer layer)) → P (stmt place layer)
  by_kind place layer gives fitted =
      let fits_is : fits site (stmt place layer) ≡ fits_layer layer = rw (fold-roll-Stmt, fold-roll-StmtKind) refl in
      let prevs_are : prevs_in (stmt place layer) ≡ prevs_layer layer = rw (fold-roll-Stmt, fold-roll-StmtKind) refl in
      ap (list_all (is_scalar site)) prevs_are ∙ gives (sym fits_is ∙ fitted)

  cases : Cases P
  cases = record {
    declare = λ place k initial. by_kind place (StmtKind-F.Declare k initial) (initial_good initial (var_at site k));
    assign = λ place path e. by_kind place (StmtKind-F.Assign path e) (assigned_good path e);
    call = λ place f inputs outputs. by_kind place (StmtKind-F.Call f inputs outputs) (called_good inputs outputs (slice_get site.earlier f));
    await = λ place e. by_kind place (StmtKind-F.Await e)
        (λ fitted. truth_good e (and_second (is_activity site.kind) (is_truth (type_of site e)) fitted));
    run = λ place target a inputs outputs. by_kind place (StmtKind-F.Run target a inputs outputs)
        (ran_good target inputs outputs (slice_get site.earlier a));
    branching = λ place arms other each others. by_kind place (StmtKind-F.If arms other)
        (λ fitted.
        let more = and_second (is_inhabited (map arm_fitted arms)) (all_of (map arm_fitted arms) && all_of (map (fits site) other)) fitted in
        two_good (joined (map prevs_in_arm arms)) (joined (map prevs_in other))
        (arms_good arms each (and_first (all_of (map arm_fitted arms)) (all_of (map (fits site) other)) more))
        (blocks_good other others (and_second (all_of (map arm_fitted arms)) (all_of (map (fits site) other)) more)));
    cobegin = λ place branches each. by_kind place (StmtKind-F.Cobegin branches)
        (λ fitted. branches_good branches each
        (and_second (is_inhabited (map branch_fitted branches)) (all_of (map branch_fitted branches))
        (and_second (is_activity site.kind) (is_inhabited (map branch_fitted branches) && all_of (map branch_fitted branches)) fitted)));
    guarded = λ place guard e body each. by_kind place (StmtKind-F.When guard e body)
        (λ fitted.
        let parts = and_second (is_activity site.kind) (is_truth (type_of site e) && all_of (map (fits site) body)) fitted in
        two_good (prevs_in_expr e) (joined (map prevs_in body))
        (truth_good e (and_first (is_truth (type_of site e)) (all_of (map (fits site) body)) parts))
        (blocks_good body each (and_second (is_truth (type_of site e)) (all_of (map (fits site) body)) parts)));
    repeat = λ place body each. by_kind place (StmtKind-F.Repeat body) (blocks_good body each);
    until = λ place body e each. by_kind place (StmtKind-F.Until body e)
        (λ fitted. two_good (joined (map prevs_in body)) (prevs_in_expr e)
        (blocks_good body each (and_first (all_of (map (fits site) body)) (is_truth (type_of site e)) fitted))
        (truth_good e (and_second (all_of (map (fits site) body)) (is_truth (type_of site e)) fitted)));
    while = λ place e body each. by_kind place (StmtKind-F.While e body)
        (λ fitted. two_good (prevs_in_expr e) (joined (map prevs_in body))
        (truth_good e (and_first (is_truth (type_of site e)) (all_of (map (fits site) body)) fitted))
        (blocks_good body each (and_second (is_truth (type_of site e)) (all_of (map (fits site) body)) fitted)));
    returns = λ place e. by_kind place (StmtKind-F.Return e) (returned_good e site.result);
  }

  -- all that a body names under a `prev` is scalar
  pub body_scalar : (body : List Stmt) → all_of (map (fits site) body) ≡ true → Good (joined (map prevs_in body))
  body_scalar body fitted = blocks_good body (λ k d within. induct P cases _) fitted
