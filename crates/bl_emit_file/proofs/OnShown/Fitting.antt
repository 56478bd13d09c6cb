-- What fits a unit fits it with its inputs lent.
use Rattle.std.proofs.Common.{◌≡◌, ℕ, zero, suc, Bool, true, false, ◌&&◌, ◌||◌, List, [], ◌∷◌, map, Option, Some, None, refl, sym, ap, ◌∙◌}
use Rattle.std.proofs.lemmas.Bool.{and_from}
use Rattle.std.proofs.lemmas.List.Elements.{All-head, All-tail}
use Rattle.std.specs.Prelude.{is_some, option_and_then, option_map, slice_get, if◌then◌else◌}
use Rattle.bl_tree.proofs.Basics.{and_first, and_second}
use Rattle.bl_tree.proofs.StmtInduction.{Cases, Each, EachArm, EachBranch, induct, stmt}
use Rattle.bl_tree.specs.declared.place.Place.{Place}
use Rattle.bl_tree.specs.declared.scalar.Scalar.{Scalar as ScalarType}
use Rattle.bl_tree.specs.declared.tree.Arm.{Arm, fold_out-Arm, out-Arm}
use Rattle.bl_tree.specs.declared.tree.Branch.{Branch, fold_out-Branch, out-Branch}
use Rattle.bl_tree.specs.declared.tree.Expr.{Expr, fold-Expr}
use Rattle.bl_tree.specs.declared.tree.ExprKind.TheOpen.{ExprKind-F, Path-F}
use Rattle.bl_tree.specs.declared.tree.Path.{Path, fold-Path, out-Path}
use Rattle.bl_tree.specs.declared.tree.Role.{Role}
use Rattle.bl_tree.specs.declared.tree.Role.TheVariants.{Input, Output, Variable, Fixed}
use Rattle.bl_tree.specs.declared.tree.Stmt.{Stmt}
use Rattle.bl_tree.specs.declared.tree.StmtKind.TheOpen.{StmtKind-F}
use Rattle.bl_tree.specs.declared.tree.StmtKind.{StmtKind}
use Rattle.bl_tree.specs.declared.tree.Ty.{Ty}
use Rattle.bl_tree.specs.declared.tree.Unit.{Unit as UnitDef}
use Rattle.bl_tree.specs.declared.tree.UnitKind.{UnitKind}
use Rattle.bl_tree.specs.declared.tree.Var.{Var}
use Rattle.bl_tree.specs.Reduce.{all_of}
use Rattle.bl_tree.specs.Types.{scalar, scalar_in}
use Rattle.bl_tree.specs.Typing.{TypingContext, after_parts, are_same, arguments_fit, call_fits, expr_type, fits, is_activity, is_assignable, is_fixed, is_inhabited, is_outlet}
use Rattle.bl_tree.specs.Typing.{is_plain, is_procedure, is_truth, is_variable, kind_type, may_change, part_type, path_type, prev_type, run_fits, target_fits, type_of}
use Rattle.bl_tree.specs.Typing.{arm_fits, branch_fits, kind_fits, stmt_fits}
use Rattle.bl_tree.specs.Typing.{declaration_fits, inputs_of, outputs_of, return_fits, type_of_path, types_match, where_same}
use Rattle.bl_ctree_laws_confluence.proofs.OnApart.Told.{arm_fitted, branch_fitted, fit_at, fit_parts}
use Rattle.bl_emit_spec.specs.Lent.{lent_role, lent_var}

-- a lent variable is at its position
pub lent_get : (vars : List Var) (k : ℕ) → slice_get (map lent_var vars) k ≡ option_map lent_var (slice_get vars k)
lent_get [] k = refl
lent_get (var ∷ vars) zero = refl
lent_get (var ∷ vars) (suc k) = lent_get vars k

prev_stays : (kind : UnitKind) (o : Option Var) → option_and_then (prev_type kind) (option_map lent_var o) ≡ option_and_then (prev_type kind) o
prev_stays kind None = refl
prev_stays kind (Some var) = ap (λ b. if is_activity kind && (b && is_some (scalar_in var.ty)) then Some var.ty else None) (by var.role)
  where
    by : (role : Role) → is_variable (lent_role role) ≡ is_variable role
    by Input = refl
    by Output = refl
    by Variable = refl
    by Fixed = refl

changes_still : (role : Role) → may_change role ≡ true → may_change (lent_role role) ≡ true
changes_still Input may = absurd (cc)
changes_still Output may = refl
changes_still Variable may = refl
changes_still Fixed may = absurd (cc)

module _ (site : TypingContext) where
  abbrev other : TypingContext
  other = record site { vars = map lent_var site.vars }

  abbrev Types : Type 0
  Types = ExprKind-F (Option Ty) (Ty → Option Ty) (Option Ty) (Option Ty)

  kind_same : (kind : Types) → kind_type other kind ≡ kind_type site kind
  kind_same (ExprKind-F.Literal n s) = refl
  kind_same (ExprKind-F.Read path) = refl
  kind_same (ExprKind-F.Prev k) = ap (option_and_then (prev_type site.kind)) (lent_get site.vars k) ∙ prev_stays site.kind (slice_get site.vars k)
  kind_same (ExprKind-F.One op a) = refl
  kind_same (ExprKind-F.Two op a b) = refl
  kind_same (ExprKind-F.Cast target a) = refl
  kind_same (ExprKind-F.Call f inputs) = refl

  path_same : (path : Path-F (Option Ty) (Ty → Option Ty) (Option Ty) (Option Ty)) → path_type other path ≡ path_type site path
  path_same path =
      ap (λ o. option_and_then (where_same path.ty) (option_and_then (λ (var : Var). after_parts path.parts var.ty) o)) (lent_get site.vars path.root)
      ∙ ap (option_and_then (where_same path.ty)) (by (slice_get site.vars path.root))
    where
      by : (o : Option Var) → option_and_then (λ (var : Var). after_parts path.parts var.ty) (option_map lent_var o)
          ≡ option_and_then (λ (var : Var). after_parts path.parts var.ty) o
      by None = refl
      by (Some var) = refl

  pub typed_same : type_of other ≡ type_of site
  typed_same =
      λ i. fold-Expr (Option Ty) (Ty → Option Ty) (Option Ty) (Option Ty) (λ kind. kind_same kind i) (part_type site) expr_type (λ path. path_same path i)

  pub path_typed_same : type_of_path other ≡ type_of_path site
  path_typed_same =
      λ i. fold-Path (Option Ty) (Ty → Option Ty) (Option Ty) (Option Ty) (λ kind. kind_same kind i) (part_type site) expr_type (λ path. path_same path i)

  assignable_still : (path : Path) → is_assignable site path ≡ true → is_assignable other path ≡ true
  assignable_still path may = ap (λ o. asked o) (lent_get site.vars (out-Path path).root) ∙ by (slice_get site.vars (out-Path path).root) may
    where
      asked : Option Var → Bool
      asked o = is_some (option_and_then (λ (var : Var). if may_change var.role then Some var else None) o)

      choose : (var : Var) (a : Bool) → a ≡ true → is_some (if a then Some var else None) ≡ true
      choose var true is = refl
      choose var false is = absurd (cc)

      chosen : (var : Var) (a : Bool) → is_some (if a then Some var else None) ≡ true → a ≡ true
      chosen var true is = refl
      chosen var false is = absurd (cc)

      by : (o : Option Var) → asked o ≡ true → asked (option_map lent_var o) ≡ true
      by None may = absurd (cc)
      by (Some var) may = choose (lent_var var) (may_change (lent_role var.role)) (changes_still var.role (chosen var (may_change var.role) may))

  outlet_still : (path : Path) → is_outlet site path ≡ true → is_outlet other path ≡ true
  outlet_still path may =
      and_from (is_plain path) (is_assignable other path) (and_first (is_plain path) (is_assignable site path) may)
      (assignable_still path (and_second (is_plain path) (is_assignable site path) may))

  outlets_still : (paths : List Path) → all_of (map (is_outlet site) paths) ≡ true → all_of (map (is_outlet other) paths) ≡ true
  outlets_still [] all = refl
  outlets_still (path ∷ paths) all =
      and_from (is_outlet other path) (all_of (map (is_outlet other) paths))
      (outlet_still path (and_first (is_outlet site path) (all_of (map (is_outlet site) paths)) all))
      (outlets_still paths (and_second (is_outlet site path) (all_of (map (is_outlet site) paths)) all))

  arguments_still : (inputs : List Expr) (outputs : List Path) (callee : UnitDef) → arguments_fit site inputs outputs callee ≡ true →
      arguments_fit other inputs outputs callee ≡ true
  arguments_still inputs outputs callee fit =
      let ins : Bool = types_match (map (type_of site) inputs) (inputs_of callee) in
      let outs : Bool = types_match (map (type_of_path site) outputs) (outputs_of callee) in
      let may : Bool = all_of (map (is_outlet site) outputs) in
      and_from (types_match (map (type_of other) inputs) (inputs_of callee)) _
      (ap (λ typed. types_match (map typed inputs) (inputs_of callee)) typed_same ∙ and_first ins (outs && may) fit)
      (and_from (types_match (map (type_of_path other) outputs) (outputs_of callee)) (all_of (map (is_outlet other) outputs))
      (ap (λ typed. types_match (map typed outputs) (outputs_of callee)) path_typed_same ∙ and_first outs may (and_second ins (outs && may) fit))
      (outlets_still outputs (and_second outs may (and_second ins (outs && may) fit))))

  call_still : (inputs : List Expr) (outputs : List Path) (o : Option UnitDef) → call_fits site inputs outputs o ≡ true →
      call_fits other inputs outputs o ≡ true
  call_still inputs outputs None fit = fit
  call_still inputs outputs (Some callee) fit =
      and_from (is_procedure callee) (arguments_fit other inputs outputs callee) (and_first (is_procedure callee) (arguments_fit site inputs outputs callee) fit)
      (arguments_still inputs outputs callee (and_second (is_procedure callee) (arguments_fit site inputs outputs callee) fit))

  target_still : (result : Option ScalarType) (target : Option Path) → target_fits site result target ≡ true →
      target_fits other result target ≡ true
  target_still result None fit = refl
  target_still None (Some path) fit = absurd (cc)
  target_still (Some s) (Some path) fit =
      let typed : Option Ty → Bool = λ o. are_same (Some (scalar s)) o in
      and_from (is_outlet other path) (typed (type_of_path other path))
      (outlet_still path (and_first (is_outlet site path) (typed (type_of_path site path)) fit))
      (ap (λ types. typed (types path)) path_typed_same ∙ and_second (is_outlet site path) (typed (type_of_path site path)) fit)

  run_still : (target : Option Path) (inputs : List Expr) (outputs : List Path) (o : Option UnitDef) → run_fits site target inputs outputs o ≡ true →
      run_fits other target inputs outputs o ≡ true
  run_still target inputs outputs None fit = absurd (cc)
  run_still target inputs outputs (Some callee) fit =
      let kinds : Bool = is_activity site.kind && is_activity callee.kind in
      let to : Bool = target_fits site callee.result target in
      let given : Bool = arguments_fit site inputs outputs callee in
      and_from kinds (target_fits other callee.result target && arguments_fit other inputs outputs callee) (and_first kinds (to && given) fit)
      (and_from (target_fits other callee.result target) (arguments_fit other inputs outputs callee)
      (target_still callee.result target (and_first to given (and_second kinds (to && given) fit)))
      (arguments_still inputs outputs callee (and_second to given (and_second kinds (to && given) fit))))

  declaration_still : (initial : Option Expr) (o : Option Var) → declaration_fits site initial o ≡ true →
      declaration_fits other initial (option_map lent_var o) ≡ true
  declaration_still (Some e) None fit = absurd (cc)
  declaration_still None None fit = absurd (cc)
  declaration_still (Some e) (Some var) fit =
      let declared : Role → Bool = λ role. (is_variable role || is_fixed role) in
      and_from (declared (lent_role var.role)) (are_same (Some var.ty) (type_of other e))
      (by var.role ∙ and_first (declared var.role) (are_same (Some var.ty) (type_of site e)) fit)
      (ap (λ typed. are_same (Some var.ty) (typed e)) typed_same ∙ and_second (declared var.role) (are_same (Some var.ty) (type_of site e)) fit)
    where
      by : (role : Role) → (is_variable (lent_role role) || is_fixed (lent_role role)) ≡ (is_variable role || is_fixed role)
      by Input = refl
      by Output = refl
      by Variable = refl
      by Fixed = refl
  declaration_still None (Some var) fit = by var.role fit
    where
      by : (role : Role) → is_variable role ≡ true → is_variable (lent_role role) ≡ true
      by Input is = is
      by Output is = is
      by Variable is = is
      by Fixed is = is

  -- ---- statements

  abbrev Still : Stmt → Type 0
  Still s = fits site s ≡ true → fits other s ≡ true

  block_still : (body : List Stmt) → Each Still body → all_of (map (fits site) body) ≡ true → all_of (map (fits other) body) ≡ true
  block_still [] each fit = refl
  block_still (s ∷ body) each fit =
      and_from (fits other s) (all_of (map (fits other) body))
      (All-head Still s body each (and_first (fits site s) (all_of (map (fits site) body)) fit))
      (block_still body (All-tail Still s body each) (and_second (fits site s) (all_of (map (fits site) body)) fit))

  arm_is : (at : TypingContext) (arm : Arm) → arm_fitted at arm ≡ (is_truth (type_of at (out-Arm arm).test) && all_of (map (fits at) (out-Arm arm).body))
  arm_is at arm = fold_out-Arm Bool Bool Bool Bool (kind_fits at) (arm_fits at) branch_fits stmt_fits arm

  branch_is : (at : TypingContext) (branch : Branch) → branch_fitted at branch ≡ all_of (map (fits at) (out-Branch branch).body)
  branch_is at branch = fold_out-Branch Bool Bool Bool Bool (kind_fits at) (arm_fits at) branch_fits stmt_fits branch

  truth_still : (e : Expr) → is_truth (type_of site e) ≡ true → is_truth (type_of other e) ≡ true
  truth_still e is = ap (λ typed. is_truth (typed e)) typed_same ∙ is

  arms_still : (arms : List Arm) → EachArm Still arms → all_of (map (arm_fitted site) arms) ≡ true → all_of (map (arm_fitted other) arms) ≡ true
  arms_still [] each fit = refl
  arms_still (arm ∷ arms) each fit =
      let body : List Stmt = (out-Arm arm).body in
      let test : Expr = (out-Arm arm).test in
      let own = sym (arm_is site arm) ∙ and_first (arm_fitted site arm) (all_of (map (arm_fitted site) arms)) fit in
      and_from (arm_fitted other arm) (all_of (map (arm_fitted other) arms))
      (arm_is other arm
      ∙ and_from (is_truth (type_of other test)) (all_of (map (fits other) body))
      (truth_still test (and_first (is_truth (type_of site test)) (all_of (map (fits site) body)) own))
      (block_still body (All-head (λ arm. Each Still (out-Arm arm).body) arm arms each)
      (and_second (is_truth (type_of site test)) (all_of (map (fits site) body)) own)))
      (arms_still arms (All-tail (λ arm. Each Still (out-Arm arm).body) arm arms each)
      (and_second (arm_fitted site arm) (all_of (map (arm_fitted site) arms)) fit))

  branches_still : (branches : List Branch) → EachBranch Still branches → all_of (map (branch_fitted site) branches) ≡ true →
      all_of (map (branch_fitted other) branches) ≡ true
  branches_still [] each fit = refl
  branches_still (branch ∷ branches) each fit =
      and_from (branch_fitted other branch) (all_of (map (branch_fitted other) branches))
      (branch_is other branch
      ∙ block_still (out-Branch branch).body (All-head (λ branch. Each Still (out-Branch branch).body) branch branches each)
      (sym (branch_is site branch) ∙ and_first (branch_fitted site branch) (all_of (map (branch_fitted site) branches)) fit))
      (branches_still branches (All-tail (λ branch. Each Still (out-Branch branch).body) branch branches each)
      (and_second (branch_fitted site branch) (all_of (map (branch_fitted site) branches)) fit))

  inhabited_same : {X Y Z : Type 0} (f : X → Y) (g : X → Z) (xs : List X) → is_inhabited (map f xs) ≡ is_inhabited (map g xs)
  inhabited_same f g [] = refl
  inhabited_same f g (x ∷ xs) = refl

  return_still : (e : Option Expr) (o : Option ScalarType) → return_fits site e o ≡ true → return_fits other e o ≡ true
  return_still None None fit = refl
  return_still None (Some s) fit = absurd (cc)
  return_still (Some e) None fit = absurd (cc)
  return_still (Some e) (Some s) fit = ap (λ typed. are_same (Some (scalar s)) (typed e)) typed_same ∙ fit

  -- a statement by its layer
  by_layer : (place : Place) (layer : StmtKind-F StmtKind Arm Branch Stmt) →
      (kind_fits site (fit_parts site layer) ≡ true → kind_fits other (fit_parts other layer) ≡ true) → Still (stmt place layer)
  by_layer place layer still fit = fit_at other place layer ∙ still (sym (fit_at site place layer) ∙ fit)

  cases : Cases Still
  cases = record {
    declare = λ place k initial. by_layer place (StmtKind-F.Declare k initial) (λ fit.
        ap (declaration_fits other initial) (lent_get site.vars k) ∙ declaration_still initial (slice_get site.vars k) fit);
    assign = λ place path e. by_layer place (StmtKind-F.Assign path e) (λ fit.
        and_from (is_assignable other path) (are_same (type_of_path other path) (type_of other e))
        (assignable_still path (and_first (is_assignable site path) (are_same (type_of_path site path) (type_of site e)) fit))
        (ap (λ typed. are_same (typed path) (type_of other e)) path_typed_same ∙ ap (λ typed. are_same (type_of_path site path) (typed e)) typed_same
        ∙ and_second (is_assignable site path) (are_same (type_of_path site path) (type_of site e)) fit));
    call = λ place f inputs outputs. by_layer place (StmtKind-F.Call f inputs outputs) (call_still inputs outputs (slice_get site.earlier f));
    await = λ place e. by_layer place (StmtKind-F.Await e) (λ fit.
        and_from (is_activity site.kind) (is_truth (type_of other e)) (and_first (is_activity site.kind) (is_truth (type_of site e)) fit)
        (truth_still e (and_second (is_activity site.kind) (is_truth (type_of site e)) fit)));
    run = λ place target a inputs outputs. by_layer place (StmtKind-F.Run target a inputs outputs) (run_still target inputs outputs (slice_get site.earlier a));
    branching = λ place arms rest each others. by_layer place (StmtKind-F.If arms rest) (λ fit.
        let some : Bool = is_inhabited (map (arm_fitted site) arms) in
        let front : Bool = all_of (map (arm_fitted site) arms) in
        let back : Bool = all_of (map (fits site) rest) in
        and_from (is_inhabited (map (arm_fitted other) arms)) (all_of (map (arm_fitted other) arms) && all_of (map (fits other) rest))
        (inhabited_same (arm_fitted other) (arm_fitted site) arms ∙ and_first some (front && back) fit)
        (and_from (all_of (map (arm_fitted other) arms)) (all_of (map (fits other) rest))
        (arms_still arms each (and_first front back (and_second some (front && back) fit)))
        (block_still rest others (and_second front back (and_second some (front && back) fit)))));
    cobegin = λ place branches each. by_layer place (StmtKind-F.Cobegin branches) (λ fit.
        let some : Bool = is_inhabited (map (branch_fitted site) branches) in
        let all : Bool = all_of (map (branch_fitted site) branches) in
        and_from (is_activity site.kind) (is_inhabited (map (branch_fitted other) branches) && all_of (map (branch_fitted other) branches))
        (and_first (is_activity site.kind) (some && all) fit)
        (and_from (is_inhabited (map (branch_fitted other) branches)) (all_of (map (branch_fitted other) branches))
        (inhabited_same (branch_fitted other) (branch_fitted site) branches ∙ and_first some all (and_second (is_activity site.kind) (some && all) fit))
        (branches_still branches each (and_second some all (and_second (is_activity site.kind) (some && all) fit)))));
    guarded = λ place guard e body each. by_layer place (StmtKind-F.When guard e body) (λ fit.
        let asks : Bool = is_truth (type_of site e) in
        let all : Bool = all_of (map (fits site) body) in
        and_from (is_activity site.kind) (is_truth (type_of other e) && all_of (map (fits other) body)) (and_first (is_activity site.kind) (asks && all) fit)
        (and_from (is_truth (type_of other e)) (all_of (map (fits other) body))
        (truth_still e (and_first asks all (and_second (is_activity site.kind) (asks && all) fit)))
        (block_still body each (and_second asks all (and_second (is_activity site.kind) (asks && all) fit)))));
    repeat = λ place body each. by_layer place (StmtKind-F.Repeat body) (block_still body each);
    until = λ place body e each. by_layer place (StmtKind-F.Until body e) (λ fit.
        and_from (all_of (map (fits other) body)) (is_truth (type_of other e))
        (block_still body each (and_first (all_of (map (fits site) body)) (is_truth (type_of site e)) fit))
        (truth_still e (and_second (all_of (map (fits site) body)) (is_truth (type_of site e)) fit)));
    while = λ place e body each. by_layer place (StmtKind-F.While e body) (λ fit.
        and_from (is_truth (type_of other e)) (all_of (map (fits other) body))
        (truth_still e (and_first (is_truth (type_of site e)) (all_of (map (fits site) body)) fit))
        (block_still body each (and_second (is_truth (type_of site e)) (all_of (map (fits site) body)) fit)));
    returns = λ place e. by_layer place (StmtKind-F.Return e) (return_still e site.result);
  }

  pub fits_lent : (s : Stmt) → fits site s ≡ true → fits (record site { vars = map lent_var site.vars }) s ≡ true
  fits_lent = induct Still cases
