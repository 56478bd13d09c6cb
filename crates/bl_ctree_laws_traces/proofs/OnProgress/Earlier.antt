-- What fits runs earlier units alone.
use Rattle.std.proofs.Common.{◌≡◌, Bool, true, ◌&&◌, List, [], ◌∷◌, map, get_or, Option, Some, None, refl, sym, ◌∙◌, subst}
use Rattle.std.specs.Prelude.{All, slice_get}
use Rattle.std.proofs.lemmas.List.Elements.{All-head, All-tail}
use Rattle.bl_tree.proofs.Basics.{and_first, and_second}
use Rattle.bl_tree.specs.declared.place.Place.{Place}
use Rattle.bl_tree.specs.declared.tree.Arm.{Arm, fold-Arm, fold_out-Arm, out-Arm}
use Rattle.bl_tree.specs.declared.tree.Branch.{Branch, fold-Branch, fold_out-Branch, out-Branch}
use Rattle.bl_tree.specs.declared.tree.Expr.{Expr}
use Rattle.bl_tree.specs.declared.tree.Path.{Path}
use Rattle.bl_tree.specs.declared.tree.Stmt.{Stmt, fold-roll-Stmt}
use Rattle.bl_tree.specs.declared.tree.StmtKind.{StmtKind, fold-StmtKind, fold-roll-StmtKind, map-StmtKind}
use Rattle.bl_tree.specs.declared.tree.StmtKind.TheOpen.{StmtKind-F}
use Rattle.bl_tree.specs.declared.tree.Unit.{Unit as UnitDef}
use Rattle.bl_tree.specs.Reduce.{all_of, joined}
use Rattle.bl_tree.specs.Typing.{TypingContext, arm_fits, branch_fits, fits, is_activity, is_inhabited, is_truth, kind_fits, run_fits, stmt_fits, type_of}
use Rattle.bl_tree.proofs.StmtInduction.{Cases, Each, EachArm, EachBranch, induct, stmt}
use Rattle.bl_ctree.specs.declared.instance.Run.{Run}
use Rattle.bl_ctree.specs.Instances.{arm_runs, branch_runs, kind_runs, runs_in, runs_in_arm, runs_in_branch, stmt_layer_runs}
use Rattle.bl_ctree_laws_confluence.proofs.OnDeeds.Activities.{AllOf, all_both}

-- ---- the unit that a `run` names

pub record RunsUnit (units : List UnitDef) (run : Run) : Type 0 where
  pub callee : UnitDef
  pub there : slice_get units run.unit ≡ Some callee

module _ (site : TypingContext) where
  abbrev pub R : Run → Type 0
  R = RunsUnit site.earlier

  abbrev S : Stmt → Type 0
  S s = fits site s ≡ true → AllOf R (runs_in s)

  parts_run : {A : Type 0} (fit : A → Bool) (f : A → List Run) (xs : List A) → All (λ x. fit x ≡ true → AllOf R (f x)) xs →
      all_of (map fit xs) ≡ true → AllOf R (joined (map f xs))
  parts_run fit f [] all fitted = tt
  parts_run fit f (x ∷ xs) all fitted =
      all_both R (f x) (joined (map f xs))
      (All-head (λ x. fit x ≡ true → AllOf R (f x)) x xs all (and_first (fit x) (all_of (map fit xs)) fitted))
      (parts_run fit f xs (All-tail (λ x. fit x ≡ true → AllOf R (f x)) x xs all) (and_second (fit x) (all_of (map fit xs)) fitted))

  block_runs : (body : List Stmt) → Each S body → all_of (map (fits site) body) ≡ true → AllOf R (joined (map runs_in body))
  block_runs body each fitted = parts_run (fits site) runs_in body each fitted

  abbrev arm_fitted : Arm → Bool
  arm_fitted = fold-Arm Bool Bool Bool Bool (kind_fits site) (arm_fits site) branch_fits stmt_fits

  abbrev branch_fitted : Branch → Bool
  branch_fitted = fold-Branch Bool Bool Bool Bool (kind_fits site) (arm_fits site) branch_fits stmt_fits

  arm_runs_so : (arm : Arm) → Each S (out-Arm arm).body → arm_fitted arm ≡ true → AllOf R (runs_in_arm arm)
  arm_runs_so arm each fitted =
      subst (AllOf R) (sym (fold_out-Arm (Place → List Run) (List Run) (List Run) (List Run) kind_runs arm_runs branch_runs stmt_layer_runs arm))
      (block_runs (out-Arm arm).body each (and_second (is_truth (type_of site (out-Arm arm).test)) (all_of (map (fits site) (out-Arm arm).body))
      (sym (fold_out-Arm Bool Bool Bool Bool (kind_fits site) (arm_fits site) branch_fits stmt_fits arm) ∙ fitted)))

  branch_runs_so : (branch : Branch) → Each S (out-Branch branch).body → branch_fitted branch ≡ true → AllOf R (runs_in_branch branch)
  branch_runs_so branch each fitted =
      subst (AllOf R) (sym (fold_out-Branch (Place → List Run) (List Run) (List Run) (List Run) kind_runs arm_runs branch_runs stmt_layer_runs branch))
      (block_runs (out-Branch branch).body each
      (sym (fold_out-Branch Bool Bool Bool Bool (kind_fits site) (arm_fits site) branch_fits stmt_fits branch) ∙ fitted))

  shown : {A : Type 0} (P Q : A → Type 0) → ((x : A) → P x → Q x) → (xs : List A) → All P xs → All Q xs
  shown P Q gives xs all = λ k d within. gives _ (all k d within)

  arms_run : (arms : List Arm) → EachArm S arms → all_of (map arm_fitted arms) ≡ true → AllOf R (joined (map runs_in_arm arms))
  arms_run arms each = parts_run arm_fitted runs_in_arm arms
      (shown (λ arm. Each S (out-Arm arm).body) (λ arm. arm_fitted arm ≡ true → AllOf R (runs_in_arm arm)) arm_runs_so arms each)

  branches_run : (branches : List Branch) → EachBranch S branches → all_of (map branch_fitted branches) ≡ true →
      AllOf R (joined (map runs_in_branch branches))
  branches_run branches each = parts_run branch_fitted runs_in_branch branches
      (shown (λ branch. Each S (out-Branch branch).body)
      (λ branch. branch_fitted branch ≡ true → AllOf R (runs_in_branch branch)) branch_runs_so branches each)

  abbrev fit_parts : StmtKind-F StmtKind Arm Branch Stmt → StmtKind-F Bool Bool Bool Bool
  fit_parts = map-StmtKind StmtKind Arm Branch Stmt Bool Bool Bool Bool
      (fold-StmtKind Bool Bool Bool Bool (kind_fits site) (arm_fits site) branch_fits stmt_fits) arm_fitted branch_fitted (fits site)

  fit_at : (place : Place) (layer : StmtKind-F StmtKind Arm Branch Stmt) → fits site (stmt place layer) ≡ kind_fits site (fit_parts layer)
  fit_at place layer = rw (fold-roll-Stmt, fold-roll-StmtKind) refl

  abbrev run_parts : StmtKind-F StmtKind Arm Branch Stmt → StmtKind-F (Place → List Run) (List Run) (List Run) (List Run)
  run_parts = map-StmtKind StmtKind Arm Branch Stmt (Place → List Run) (List Run) (List Run) (List Run)
      (fold-StmtKind (Place → List Run) (List Run) (List Run) (List Run) kind_runs arm_runs branch_runs stmt_layer_runs) runs_in_arm runs_in_branch runs_in

  runs_at : (place : Place) (layer : StmtKind-F StmtKind Arm Branch Stmt) → runs_in (stmt place layer) ≡ kind_runs (run_parts layer) place
  runs_at place layer = rw (fold-roll-Stmt, fold-roll-StmtKind) refl

  by_parts : (place : Place) (layer : StmtKind-F StmtKind Arm Branch Stmt) →
      (kind_fits site (fit_parts layer) ≡ true → AllOf R (kind_runs (run_parts layer) place)) → S (stmt place layer)
  by_parts place layer runs fitted = subst (AllOf R) (sym (runs_at place layer)) (runs (sym (fit_at place layer) ∙ fitted))

  run_so : (target : Option Path) (inputs : List Expr) (outputs : List Path) (run : Run) (found : Option UnitDef) →
      slice_get site.earlier run.unit ≡ found → run_fits site target inputs outputs found ≡ true → AllOf R (run ∷ [])
  run_so target inputs outputs run None there fitted = absurd cc
  run_so target inputs outputs run (Some callee) there fitted = (
    record {
      callee = callee;
      there = there;
    },
    tt,
  )

  stmt_cases : Cases S
  stmt_cases = record {
    declare = λ place k initial. by_parts place (StmtKind-F.Declare k initial) (λ fitted. tt);
    assign = λ place path e. by_parts place (StmtKind-F.Assign path e) (λ fitted. tt);
    call = λ place f inputs outputs. by_parts place (StmtKind-F.Call f inputs outputs) (λ fitted. tt);
    await = λ place e. by_parts place (StmtKind-F.Await e) (λ fitted. tt);
    run = λ place target a inputs outputs. by_parts place (StmtKind-F.Run target a inputs outputs)
        (λ fitted. run_so target inputs outputs _ (slice_get site.earlier a) refl fitted);
    branching = λ place arms other in_arms in_other. by_parts place (StmtKind-F.If arms other) (λ fitted.
        let choices : Bool = all_of (map arm_fitted arms) in
        let last : Bool = all_of (map (fits site) other) in
        let fitting : (choices && last) ≡ true = and_second (is_inhabited (map arm_fitted arms)) (choices && last) fitted in
        all_both R (joined (map runs_in_arm arms)) (joined (map runs_in other)) (arms_run arms in_arms (and_first choices last fitting))
        (block_runs other in_other (and_second choices last fitting)));
    cobegin = λ place branches each. by_parts place (StmtKind-F.Cobegin branches) (λ fitted.
        let some : Bool = is_inhabited (map branch_fitted branches) in
        let inside : Bool = all_of (map branch_fitted branches) in
        branches_run branches each (and_second some inside (and_second (is_activity site.kind) (some && inside) fitted)));
    guarded = λ place guard e body each. by_parts place (StmtKind-F.When guard e body) (λ fitted.
        let tested : Bool = is_truth (type_of site e) in
        let inside : Bool = all_of (map (fits site) body) in
        block_runs body each (and_second tested inside (and_second (is_activity site.kind) (tested && inside) fitted)));
    repeat = λ place body each. by_parts place (StmtKind-F.Repeat body) (λ fitted. block_runs body each fitted);
    until = λ place body e each. by_parts place (StmtKind-F.Until body e) (λ fitted.
        block_runs body each (and_first (all_of (map (fits site) body)) (is_truth (type_of site e)) fitted));
    while = λ place e body each. by_parts place (StmtKind-F.While e body) (λ fitted.
        block_runs body each (and_second (is_truth (type_of site e)) (all_of (map (fits site) body)) fitted));
    returns = λ place e. by_parts place (StmtKind-F.Return e) (λ fitted. tt);
  }

  -- what fits runs earlier units alone
  pub body_runs : (body : List Stmt) → all_of (map (fits site) body) ≡ true → AllOf R (joined (map runs_in body))
  body_runs body fitted = block_runs body (λ k d within. induct S stmt_cases (get_or body k d)) fitted
