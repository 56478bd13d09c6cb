-- The outputs of `run` statements that fit are of the types of the outputs of what is run.
use Rattle.std.proofs.Common.{◌≡◌, ℕ, zero, suc, Bool, true, ◌&&◌, List, [], ◌∷◌, ◌++◌, map, length, get_or, take}
use Rattle.std.proofs.Common.{Contains, Option, Some, None, refl, sym, ap, ◌∙◌, subst, arith}
use Rattle.std.specs.Prelude.{All, slice_get}
use Rattle.std.specs.List.{list_all}
use Rattle.std.proofs.lemmas.List.Elements.{All-head, All-tail}
use Rattle.bl_tree.proofs.Basics.{all_of_each, and_first, and_second, index_of}
use Rattle.bl_tree.specs.declared.place.Place.{Place}
use Rattle.bl_tree.specs.declared.static_path.Static.{Static}
use Rattle.bl_tree.specs.declared.tree.Arm.{Arm, fold-Arm, fold_out-Arm, out-Arm}
use Rattle.bl_tree.specs.declared.tree.Branch.{Branch, fold-Branch, fold_out-Branch, out-Branch}
use Rattle.bl_tree.specs.declared.tree.Expr.{Expr}
use Rattle.bl_tree.specs.declared.tree.Path.{Path}
use Rattle.bl_tree.specs.declared.tree.Stmt.{Stmt, fold-roll-Stmt}
use Rattle.bl_tree.specs.declared.tree.StmtKind.{StmtKind, fold-StmtKind, fold-roll-StmtKind, map-StmtKind}
use Rattle.bl_tree.specs.declared.tree.StmtKind.TheOpen.{StmtKind-F}
use Rattle.bl_tree.specs.declared.tree.StructDef.{StructDef}
use Rattle.bl_tree.specs.declared.tree.Ty.{Ty}
use Rattle.bl_tree.specs.declared.tree.Unit.{Unit as UnitDef}
use Rattle.bl_tree.specs.declared.tree.Var.{Var}
use Rattle.bl_tree.specs.Apart.{is_apart}
use Rattle.bl_tree.specs.Depths.{is_shallow}
use Rattle.bl_tree.specs.Program.{names_of, parameters_of, roles_stand, unit_stands, units_stand_after}
use Rattle.bl_tree.specs.Reduce.{all_of, joined}
use Rattle.bl_tree.specs.Returns.{unit_returns}
use Rattle.bl_tree.specs.Static.{static_of}
use Rattle.bl_tree.specs.Types.{same_type, type_stands}
use Rattle.bl_tree.specs.Typing.{TypingContext, arguments_fit, arm_fits, branch_fits, fits, inputs_of, is_activity, is_assignable, is_inhabited, is_outlet}
use Rattle.bl_tree.specs.Typing.{is_plain, is_truth, kind_fits, outputs_of, run_fits, site_of, stmt_fits, target_fits, type_of, type_of_path, types_match}
use Rattle.bl_tree.specs.Words.{are_distinct, is_name}
use Rattle.bl_tree.proofs.StmtInduction.{Cases, Each, EachArm, EachBranch, induct, stmt}
use Rattle.bl_eval.proofs.FitLemmas.{same_type_is}
use Rattle.bl_ctree.specs.declared.instance.Run.{Run}
use Rattle.bl_ctree.specs.Instances.{arm_runs, branch_runs, kind_runs, runs_in, runs_in_arm, runs_in_branch, runs_of, stmt_layer_runs}
use Rattle.bl_ctree_laws_confluence.proofs.OnDeeds.Activities.{AllOf, all_both, one_a_place_so}
use Rattle.bl_ctree_laws_typing.proofs.OnViews.Paths.{PathTyped, path_typed}
use Rattle.bl_eval.proofs.UnitFits.{unit_at}
use Rattle.bl_ctree_laws_confluence.proofs.OnDeeds.Activities.{all_at}

-- the outputs of a `run`, one for one, are of the types of these variables
abbrev pub OutputsTyped : List StructDef → List Var → List Static → List Var → Type 0
OutputsTyped structs vars [] _ = Unit {0}
OutputsTyped structs vars (path ∷ paths) [] = ⊥
OutputsTyped structs vars (path ∷ paths) (var ∷ rest) = PathTyped structs vars path var.ty × OutputsTyped structs vars paths rest

pub typed_at : (structs : List StructDef) (vars : List Var) (paths : List Static) (others : List Var) (k : ℕ) (path : Static) (var : Var) →
    OutputsTyped structs vars paths others → slice_get paths k ≡ Some path → slice_get others k ≡ Some var →
    PathTyped structs vars path var.ty
typed_at structs vars [] others k path var all at of = absurd cc
typed_at structs vars (p ∷ paths) [] k path var all at of = absurd all
typed_at structs vars (p ∷ paths) (v ∷ others) zero path var all at of =
    let same : p ≡ path = cc in
    let is : v ≡ var = cc in
    subst (λ path. PathTyped structs vars path var.ty) same (subst (λ (var : Var). PathTyped structs vars p var.ty) is all.0)
typed_at structs vars (p ∷ paths) (v ∷ others) (suc k) path var all at of = typed_at structs vars paths others k path var all.1 at of

-- a `run` of an earlier unit, with outputs of its outputs' types
pub record RunTyped (structs : List StructDef) (earlier : List UnitDef) (vars : List Var) (run : Run) : Type 0 where
  pub callee : UnitDef
  pub there : slice_get earlier run.unit ≡ Some callee
  pub outputs : OutputsTyped structs vars run.outputs (outputs_of callee)

module _ (site : TypingContext) where
  path_first : (path : Path) (var : Var) (typed : Option Ty) (rest : List (Option Ty)) (vars : List Var) → type_of_path site path ≡ typed →
      types_match (typed ∷ rest) (var ∷ vars) ≡ true → is_outlet site path ≡ true →
      PathTyped site.structs site.vars (static_of path) var.ty × (types_match rest vars ≡ true)
  path_first path var None rest vars is matched outlet = absurd cc
  path_first path var (Some ty) rest vars is matched outlet =
      let same : ty ≡ var.ty = same_type_is ty var.ty (and_first (same_type ty var.ty) (types_match rest vars) matched) in (
        path_typed site path var.ty (and_first (is_plain path) (is_assignable site path) outlet) (is ∙ ap Some same),
        and_second (same_type ty var.ty) (types_match rest vars) matched,
      )

  pub outputs_typed : (paths : List Path) (vars : List Var) → types_match (map (type_of_path site) paths) vars ≡ true →
      all_of (map (is_outlet site) paths) ≡ true → OutputsTyped site.structs site.vars (map static_of paths) vars
  outputs_typed [] vars matched outlets = tt
  outputs_typed (path ∷ paths) [] matched outlets = absurd (no_vars (type_of_path site path) (map (type_of_path site) paths) matched)
    where
      no_vars : (typed : Option Ty) (rest : List (Option Ty)) → types_match (typed ∷ rest) [] ≡ true → ⊥
      no_vars None rest h = absurd cc
      no_vars (Some ty) rest h = absurd cc
  outputs_typed (path ∷ paths) (var ∷ vars) matched outlets =
      let first = path_first path var (type_of_path site path) (map (type_of_path site) paths) vars refl matched
      (and_first (is_outlet site path) (all_of (map (is_outlet site) paths)) outlets) in
      (first.0, outputs_typed paths vars first.1 (and_second (is_outlet site path) (all_of (map (is_outlet site) paths)) outlets))

  abbrev R : Run → Type 0
  R = RunTyped site.structs site.earlier site.vars

  abbrev S : Stmt → Type 0
  S s = fits site s ≡ true → AllOf R (runs_in s)

  parts_run : {A : Type 0} (fit : A → Bool) (f : A → List Run) (xs : List A) → All (λ x. fit x ≡ true → AllOf R (f x)) xs →
      all_of (map fit xs) ≡ true → AllOf R (joined (map f xs))
  parts_run fit f [] all fitted = tt
  parts_run fit f (x ∷ xs) all fitted =
      all_both R (f x) (joined (map f xs))
      (All-head (λ x. fit x ≡ true → AllOf R (f x)) x xs all (and_first (fit x) (all_of (map fit xs)) fitted))
      (parts_run fit f xs (All-tail (λ x. fit x ≡ true → AllOf R (f x)) x xs all) (and_second (fit x) (all_of (map fit xs)) fitted))

  block_runs : (body : List Stmt) → Each S body → all_of (map (fits site) body) ≡ true → AllOf R (joined (map runs_in body))
  block_runs body each fitted = parts_run (fits site) runs_in body each fitted

  abbrev arm_fitted : Arm → Bool
  arm_fitted = fold-Arm Bool Bool Bool Bool (kind_fits site) (arm_fits site) branch_fits stmt_fits

  abbrev branch_fitted : Branch → Bool
  branch_fitted = fold-Branch Bool Bool Bool Bool (kind_fits site) (arm_fits site) branch_fits stmt_fits

  arm_runs_so : (arm : Arm) → Each S (out-Arm arm).body → arm_fitted arm ≡ true → AllOf R (runs_in_arm arm)
  arm_runs_so arm each fitted =
      subst (AllOf R) (sym (fold_out-Arm (Place → List Run) (List Run) (List Run) (List Run) kind_runs arm_runs branch_runs stmt_layer_runs arm))
      (block_runs (out-Arm arm).body each (and_second (is_truth (type_of site (out-Arm arm).test)) (all_of (map (fits site) (out-Arm arm).body))
      (sym (fold_out-Arm Bool Bool Bool Bool (kind_fits site) (arm_fits site) branch_fits stmt_fits arm) ∙ fitted)))

  branch_runs_so : (branch : Branch) → Each S (out-Branch branch).body → branch_fitted branch ≡ true → AllOf R (runs_in_branch branch)
  branch_runs_so branch each fitted =
      subst (AllOf R) (sym (fold_out-Branch (Place → List Run) (List Run) (List Run) (List Run) kind_runs arm_runs branch_runs
      stmt_layer_runs branch))
      (block_runs (out-Branch branch).body each
      (sym (fold_out-Branch Bool Bool Bool Bool (kind_fits site) (arm_fits site) branch_fits stmt_fits branch) ∙ fitted))

  shown : {A : Type 0} (P Q : A → Type 0) → ((x : A) → P x → Q x) → (xs : List A) → All P xs → All Q xs
  shown P Q gives xs all = λ k d within. gives _ (all k d within)

  arms_run : (arms : List Arm) → EachArm S arms → all_of (map arm_fitted arms) ≡ true → AllOf R (joined (map runs_in_arm arms))
  arms_run arms each = parts_run arm_fitted runs_in_arm arms
      (shown (λ arm. Each S (out-Arm arm).body) (λ arm. arm_fitted arm ≡ true → AllOf R (runs_in_arm arm)) arm_runs_so arms each)

  branches_run : (branches : List Branch) → EachBranch S branches → all_of (map branch_fitted branches) ≡ true →
      AllOf R (joined (map runs_in_branch branches))
  branches_run branches each = parts_run branch_fitted runs_in_branch branches
      (shown (λ branch. Each S (out-Branch branch).body)
      (λ branch. branch_fitted branch ≡ true → AllOf R (runs_in_branch branch)) branch_runs_so branches each)

  abbrev fit_parts : StmtKind-F StmtKind Arm Branch Stmt → StmtKind-F Bool Bool Bool Bool
  fit_parts = map-StmtKind StmtKind Arm Branch Stmt Bool Bool Bool Bool
      (fold-StmtKind Bool Bool Bool Bool (kind_fits site) (arm_fits site) branch_fits stmt_fits) arm_fitted branch_fitted (fits site)

  fit_at : (place : Place) (layer : StmtKind-F StmtKind Arm Branch Stmt) → fits site (stmt place layer) ≡ kind_fits site (fit_parts layer)
  fit_at place layer = rw (fold-roll-Stmt, fold-roll-StmtKind) refl

  abbrev run_parts : StmtKind-F StmtKind Arm Branch Stmt → StmtKind-F (Place → List Run) (List Run) (List Run) (List Run)
  run_parts = map-StmtKind StmtKind Arm Branch Stmt (Place → List Run) (List Run) (List Run) (List Run)
      (fold-StmtKind (Place → List Run) (List Run) (List Run) (List Run) kind_runs arm_runs branch_runs stmt_layer_runs) runs_in_arm
      runs_in_branch runs_in

  runs_at : (place : Place) (layer : StmtKind-F StmtKind Arm Branch Stmt) → runs_in (stmt place layer) ≡ kind_runs (run_parts layer) place
  runs_at place layer = rw (fold-roll-Stmt, fold-roll-StmtKind) refl

  by_parts : (place : Place) (layer : StmtKind-F StmtKind Arm Branch Stmt) →
      (kind_fits site (fit_parts layer) ≡ true → AllOf R (kind_runs (run_parts layer) place)) → S (stmt place layer)
  by_parts place layer runs fitted = subst (AllOf R) (sym (runs_at place layer)) (runs (sym (fit_at place layer) ∙ fitted))

  run_so : (place : Place) (target : Option Path) (a : ℕ) (inputs : List Expr) (outputs : List Path) (found : Option UnitDef) →
      slice_get site.earlier a ≡ found → run_fits site target inputs outputs found ≡ true →
      AllOf R (record { place = place; unit = a; outputs = map static_of outputs } ∷ [])
  run_so place target a inputs outputs None there fitted = absurd cc
  run_so place target a inputs outputs (Some callee) there fitted =
      let ins : Bool = types_match (map (type_of site) inputs) (inputs_of callee) in
      let outs : Bool = types_match (map (type_of_path site) outputs) (outputs_of callee) in
      let outlets : Bool = all_of (map (is_outlet site) outputs) in
      let arguments : (ins && (outs && outlets)) ≡ true =
      and_second (target_fits site callee.result target) (arguments_fit site inputs outputs callee)
      (and_second (is_activity site.kind && is_activity callee.kind)
      (target_fits site callee.result target && arguments_fit site inputs outputs callee) fitted) in
      let others : (outs && outlets) ≡ true = and_second ins (outs && outlets) arguments in (
        record {
          callee = callee;
          there = there;
          outputs = outputs_typed outputs (outputs_of callee) (and_first outs outlets others) (and_second outs outlets others);
        },
        tt,
      )

  stmt_cases : Cases S
  stmt_cases = record {
    declare = λ place k initial. by_parts place (StmtKind-F.Declare k initial) (λ fitted. tt);
    assign = λ place path e. by_parts place (StmtKind-F.Assign path e) (λ fitted. tt);
    call = λ place f inputs outputs. by_parts place (StmtKind-F.Call f inputs outputs) (λ fitted. tt);
    await = λ place e. by_parts place (StmtKind-F.Await e) (λ fitted. tt);
    run = λ place target a inputs outputs. by_parts place (StmtKind-F.Run target a inputs outputs)
        (λ fitted. run_so place target a inputs outputs (slice_get site.earlier a) refl fitted);
    branching = λ place arms other in_arms in_other. by_parts place (StmtKind-F.If arms other) (λ fitted.
        let choices : Bool = all_of (map arm_fitted arms) in
        let last : Bool = all_of (map (fits site) other) in
        let fitting : (choices && last) ≡ true = and_second (is_inhabited (map arm_fitted arms)) (choices && last) fitted in
        all_both R (joined (map runs_in_arm arms)) (joined (map runs_in other)) (arms_run arms in_arms (and_first choices last fitting))
        (block_runs other in_other (and_second choices last fitting)));
    cobegin = λ place branches each. by_parts place (StmtKind-F.Cobegin branches) (λ fitted.
        let some : Bool = is_inhabited (map branch_fitted branches) in
        let within : Bool = all_of (map branch_fitted branches) in
        branches_run branches each (and_second some within (and_second (is_activity site.kind) (some && within) fitted)));
    guarded = λ place guard e body each. by_parts place (StmtKind-F.When guard e body) (λ fitted.
        let tested : Bool = is_truth (type_of site e) in
        let within : Bool = all_of (map (fits site) body) in
        block_runs body each (and_second tested within (and_second (is_activity site.kind) (tested && within) fitted)));
    repeat = λ place body each. by_parts place (StmtKind-F.Repeat body) (λ fitted. block_runs body each fitted);
    until = λ place body e each. by_parts place (StmtKind-F.Until body e) (λ fitted.
        block_runs body each (and_first (all_of (map (fits site) body)) (is_truth (type_of site e)) fitted));
    while = λ place e body each. by_parts place (StmtKind-F.While e body) (λ fitted.
        block_runs body each (and_second (is_truth (type_of site e)) (all_of (map (fits site) body)) fitted));
    returns = λ place e. by_parts place (StmtKind-F.Return e) (λ fitted. tt);
  }

  body_runs : (body : List Stmt) → all_of (map (fits site) body) ≡ true → AllOf R (joined (map runs_in body))
  body_runs body fitted = block_runs body (λ k d within. induct S stmt_cases (get_or body k d)) fitted

-- ---- units that stand

module _ (structs : List StructDef) (earlier : List UnitDef) (unit : UnitDef) (stands : unit_stands structs earlier unit ≡ true) where
  abbrev named : Bool
  named = list_all is_name (names_of unit.vars) && are_distinct (names_of (parameters_of unit))

  abbrev types : Bool
  types = list_all (λ (var : Var). type_stands (length structs) var.ty) unit.vars

  abbrev fit : Bool
  fit = list_all (fits (site_of structs earlier unit)) unit.body

  abbrev others : Bool
  others = unit_returns unit && (is_shallow 200 unit.body && list_all is_apart unit.body)

  pub types_stand : types ≡ true
  types_stand = and_first types (fit && others) (and_second (roles_stand unit && named) (types && (fit && others)) stands)

  pub body_fits : all_of (map (fits (site_of structs earlier unit)) unit.body) ≡ true
  body_fits =
      all_of_each (fits (site_of structs earlier unit)) unit.body
      (and_first fit others (and_second types (fit && others) (and_second (roles_stand unit && named) (types && (fit && others)) stands)))

  pub parameters_within : roles_stand unit ≡ true
  parameters_within = and_first (roles_stand unit) named (and_first (roles_stand unit && named) (types && (fit && others)) stands)

-- each `run` of a unit that stands
pub run_typed : (structs : List StructDef) (units : List UnitDef) (k : ℕ) (unit : UnitDef) (run : Run) →
    units_stand_after structs [] units ≡ true → slice_get units k ≡ Some unit → Contains (runs_of unit) run →
    RunTyped structs (take k units) unit.vars run
run_typed structs units k unit run stand there has =
    let site : TypingContext = site_of structs (take k units) unit in
    let at = index_of (runs_of unit) run has in
    all_at (RunTyped structs (take k units) unit.vars) (runs_of unit) at.0 run
    (one_a_place_so (RunTyped structs (take k units) unit.vars) (joined (map runs_in unit.body))
    (body_runs site unit.body (body_fits structs (take k units) unit (unit_at structs [] units k unit stand there)))) at.1
