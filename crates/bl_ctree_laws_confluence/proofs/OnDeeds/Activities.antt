-- Instances are of activities: what fits runs earlier activities alone.
use Rattle.std.proofs.Common.{◌≡◌, ℕ, zero, suc, ◌+◌, Bool, true, false, not, ◌&&◌, List, [], ◌∷◌, ◌++◌, map, length, get_or, take, Option, Some, None, refl}
use Rattle.std.proofs.Common.{sym, ◌∙◌, subst, cond}
use Rattle.std.specs.Prelude.{All, filter, option_map, slice_get, unwrap_or, ⊤}
use Rattle.std.proofs.lemmas.List.Elements.{All-head, All-tail}
use Rattle.bl_tree.proofs.Basics.{and_first, and_second}
use Rattle.bl_tree.specs.declared.place.Place.{Place}
use Rattle.bl_tree.specs.declared.tree.Arm.{Arm, fold-Arm, fold_out-Arm, out-Arm}
use Rattle.bl_tree.specs.declared.tree.Branch.{Branch, fold-Branch, fold_out-Branch, out-Branch}
use Rattle.bl_tree.specs.declared.tree.Expr.{Expr}
use Rattle.bl_tree.specs.declared.tree.Path.{Path}
use Rattle.bl_tree.specs.declared.tree.Stmt.{Stmt, fold-roll-Stmt}
use Rattle.bl_tree.specs.declared.tree.StmtKind.{StmtKind, fold-StmtKind, fold-roll-StmtKind, map-StmtKind}
use Rattle.bl_tree.specs.declared.tree.StmtKind.TheOpen.{StmtKind-F}
use Rattle.bl_tree.specs.declared.tree.Unit.{Unit as UnitDef}
use Rattle.bl_tree.specs.Reduce.{all_of, joined}
use Rattle.bl_tree.specs.Rules.{same_place}
use Rattle.bl_tree.specs.Typing.{TypingContext, arguments_fit, arm_fits, branch_fits, fits, is_activity, is_inhabited, is_truth, kind_fits, run_fits, stmt_fits}
use Rattle.bl_tree.specs.Typing.{target_fits, type_of}
use Rattle.bl_tree.proofs.StmtInduction.{Cases, Each, EachArm, EachBranch, induct, stmt}
use Rattle.bl_ctree.specs.declared.instance.Instance.{Instance}
use Rattle.bl_ctree.specs.declared.instance.Run.{Run}
use Rattle.bl_ctree.specs.Instances.{arm_runs, branch_runs, called_from, expanded, instances_below, kind_runs, one_a_place, runs_in, runs_in_arm}
use Rattle.bl_ctree.specs.Instances.{runs_in_branch, runs_of, stmt_layer_runs}

-- P of each element
abbrev pub AllOf : {A : Type 0} → (A → Type 0) → List A → Type 0
AllOf P [] = ⊤
AllOf P (x ∷ xs) = P x × AllOf P xs

pub all_both : {A : Type 0} (P : A → Type 0) (xs ys : List A) → AllOf P xs → AllOf P ys → AllOf P (xs ++ ys)
all_both P [] ys one other = other
all_both P (x ∷ xs) ys one other = (one.0, all_both P xs ys one.1 other)

pub all_at : {A : Type 0} (P : A → Type 0) (xs : List A) (k : ℕ) (x : A) → AllOf P xs → slice_get xs k ≡ Some x → P x
all_at P [] k x all e = absurd cc
all_at P (y ∷ xs) zero x all e = let same : y ≡ x = cc in subst P same all.0
all_at P (y ∷ xs) (suc k) x all e = all_at P xs k x all.1 e

-- ---- the activity that a `run` names

record RunsActivity (units : List UnitDef) (run : Run) : Type 0 where
  callee : UnitDef
  there : slice_get units run.unit ≡ Some callee
  activity : is_activity callee.kind ≡ true

module _ (site : TypingContext) where
  abbrev R : Run → Type 0
  R = RunsActivity site.earlier

  abbrev S : Stmt → Type 0
  S s = fits site s ≡ true → AllOf R (runs_in s)

  parts_run : {A : Type 0} (fit : A → Bool) (f : A → List Run) (xs : List A) → All (λ x. fit x ≡ true → AllOf R (f x)) xs →
      all_of (map fit xs) ≡ true → AllOf R (joined (map f xs))
  parts_run fit f [] all fitted = tt
  parts_run fit f (x ∷ xs) all fitted =
      all_both R (f x) (joined (map f xs))
      (All-head (λ x. fit x ≡ true → AllOf R (f x)) x xs all (and_first (fit x) (all_of (map fit xs)) fitted))
      (parts_run fit f xs (All-tail (λ x. fit x ≡ true → AllOf R (f x)) x xs all) (and_second (fit x) (all_of (map fit xs)) fitted))

  block_runs : (body : List Stmt) → Each S body → all_of (map (fits site) body) ≡ true → AllOf R (joined (map runs_in body))
  block_runs body each fitted = parts_run (fits site) runs_in body each fitted

  abbrev arm_fitted : Arm → Bool
  arm_fitted = fold-Arm Bool Bool Bool Bool (kind_fits site) (arm_fits site) branch_fits stmt_fits

  abbrev branch_fitted : Branch → Bool
  branch_fitted = fold-Branch Bool Bool Bool Bool (kind_fits site) (arm_fits site) branch_fits stmt_fits

  arm_runs_so : (arm : Arm) → Each S (out-Arm arm).body → arm_fitted arm ≡ true → AllOf R (runs_in_arm arm)
  arm_runs_so arm each fitted =
      subst (AllOf R) (sym (fold_out-Arm (Place → List Run) (List Run) (List Run) (List Run) kind_runs arm_runs branch_runs stmt_layer_runs arm))
      (block_runs (out-Arm arm).body each (and_second (is_truth (type_of site (out-Arm arm).test)) (all_of (map (fits site) (out-Arm arm).body))
      (sym (fold_out-Arm Bool Bool Bool Bool (kind_fits site) (arm_fits site) branch_fits stmt_fits arm) ∙ fitted)))

  branch_runs_so : (branch : Branch) → Each S (out-Branch branch).body → branch_fitted branch ≡ true → AllOf R (runs_in_branch branch)
  branch_runs_so branch each fitted =
      subst (AllOf R) (sym (fold_out-Branch (Place → List Run) (List Run) (List Run) (List Run) kind_runs arm_runs branch_runs stmt_layer_runs branch))
      (block_runs (out-Branch branch).body each
      (sym (fold_out-Branch Bool Bool Bool Bool (kind_fits site) (arm_fits site) branch_fits stmt_fits branch) ∙ fitted))

  shown : {A : Type 0} (P Q : A → Type 0) → ((x : A) → P x → Q x) → (xs : List A) → All P xs → All Q xs
  shown P Q gives xs all = λ k d within. gives _ (all k d within)

  arms_run : (arms : List Arm) → EachArm S arms → all_of (map arm_fitted arms) ≡ true → AllOf R (joined (map runs_in_arm arms))
  arms_run arms each = parts_run arm_fitted runs_in_arm arms
      (shown (λ arm. Each S (out-Arm arm).body) (λ arm. arm_fitted arm ≡ true → AllOf R (runs_in_arm arm)) arm_runs_so arms each)

  branches_run : (branches : List Branch) → EachBranch S branches → all_of (map branch_fitted branches) ≡ true →
      AllOf R (joined (map runs_in_branch branches))
  branches_run branches each = parts_run branch_fitted runs_in_branch branches
      (shown (λ branch. Each S (out-Branch branch).body)
      (λ branch. branch_fitted branch ≡ true → AllOf R (runs_in_branch branch)) branch_runs_so branches each)

  abbrev fit_parts : StmtKind-F StmtKind Arm Branch Stmt → StmtKind-F Bool Bool Bool Bool
  fit_parts = map-StmtKind StmtKind Arm Branch Stmt Bool Bool Bool Bool
      (fold-StmtKind Bool Bool Bool Bool (kind_fits site) (arm_fits site) branch_fits stmt_fits) arm_fitted branch_fitted (fits site)

  fit_at : (place : Place) (layer : StmtKind-F StmtKind Arm Branch Stmt) → fits site (stmt place layer) ≡ kind_fits site (fit_parts layer)
  fit_at place layer = rw (fold-roll-Stmt, fold-roll-StmtKind) refl

  abbrev run_parts : StmtKind-F StmtKind Arm Branch Stmt → StmtKind-F (Place → List Run) (List Run) (List Run) (List Run)
  run_parts = map-StmtKind StmtKind Arm Branch Stmt (Place → List Run) (List Run) (List Run) (List Run)
      (fold-StmtKind (Place → List Run) (List Run) (List Run) (List Run) kind_runs arm_runs branch_runs stmt_layer_runs) runs_in_arm runs_in_branch runs_in

  runs_at : (place : Place) (layer : StmtKind-F StmtKind Arm Branch Stmt) → runs_in (stmt place layer) ≡ kind_runs (run_parts layer) place
  runs_at place layer = rw (fold-roll-Stmt, fold-roll-StmtKind) refl

  by_parts : (place : Place) (layer : StmtKind-F StmtKind Arm Branch Stmt) →
      (kind_fits site (fit_parts layer) ≡ true → AllOf R (kind_runs (run_parts layer) place)) → S (stmt place layer)
  by_parts place layer runs fitted = subst (AllOf R) (sym (runs_at place layer)) (runs (sym (fit_at place layer) ∙ fitted))

  run_so : (target : Option Path) (inputs : List Expr) (outputs : List Path) (run : Run) (found : Option UnitDef) →
      slice_get site.earlier run.unit ≡ found → run_fits site target inputs outputs found ≡ true → AllOf R (run ∷ [])
  run_so target inputs outputs run None there fitted = absurd cc
  run_so target inputs outputs run (Some callee) there fitted = (
    record {
      callee = callee;
      there = there;
      activity =
          and_second (is_activity site.kind) (is_activity callee.kind)
          (and_first (is_activity site.kind && is_activity callee.kind)
          (target_fits site callee.result target && arguments_fit site inputs outputs callee) fitted);
    },
    tt,
  )

  stmt_cases : Cases S
  stmt_cases = record {
    declare = λ place k initial. by_parts place (StmtKind-F.Declare k initial) (λ fitted. tt);
    assign = λ place path e. by_parts place (StmtKind-F.Assign path e) (λ fitted. tt);
    call = λ place f inputs outputs. by_parts place (StmtKind-F.Call f inputs outputs) (λ fitted. tt);
    await = λ place e. by_parts place (StmtKind-F.Await e) (λ fitted. tt);
    run = λ place target a inputs outputs. by_parts place (StmtKind-F.Run target a inputs outputs)
        (λ fitted. run_so target inputs outputs _ (slice_get site.earlier a) refl fitted);
    branching = λ place arms other in_arms in_other. by_parts place (StmtKind-F.If arms other) (λ fitted.
        let choices : Bool = all_of (map arm_fitted arms) in
        let last : Bool = all_of (map (fits site) other) in
        let fitting : (choices && last) ≡ true = and_second (is_inhabited (map arm_fitted arms)) (choices && last) fitted in
        all_both R (joined (map runs_in_arm arms)) (joined (map runs_in other)) (arms_run arms in_arms (and_first choices last fitting))
        (block_runs other in_other (and_second choices last fitting)));
    cobegin = λ place branches each. by_parts place (StmtKind-F.Cobegin branches) (λ fitted.
        let some : Bool = is_inhabited (map branch_fitted branches) in
        let inside : Bool = all_of (map branch_fitted branches) in
        branches_run branches each (and_second some inside (and_second (is_activity site.kind) (some && inside) fitted)));
    guarded = λ place guard e body each. by_parts place (StmtKind-F.When guard e body) (λ fitted.
        let tested : Bool = is_truth (type_of site e) in
        let inside : Bool = all_of (map (fits site) body) in
        block_runs body each (and_second tested inside (and_second (is_activity site.kind) (tested && inside) fitted)));
    repeat = λ place body each. by_parts place (StmtKind-F.Repeat body) (λ fitted. block_runs body each fitted);
    until = λ place body e each. by_parts place (StmtKind-F.Until body e) (λ fitted.
        block_runs body each (and_first (all_of (map (fits site) body)) (is_truth (type_of site e)) fitted));
    while = λ place e body each. by_parts place (StmtKind-F.While e body) (λ fitted.
        block_runs body each (and_second (is_truth (type_of site e)) (all_of (map (fits site) body)) fitted));
    returns = λ place e. by_parts place (StmtKind-F.Return e) (λ fitted. tt);
  }

  -- what fits runs earlier activities alone
  body_runs : (body : List Stmt) → all_of (map (fits site) body) ≡ true → AllOf R (joined (map runs_in body))
  body_runs body fitted = block_runs body (λ k d within. induct S stmt_cases (get_or body k d)) fitted

all_filtered : {A : Type 0} (P : A → Type 0) (test : A → Bool) (xs : List A) → AllOf P xs → AllOf P (filter test xs)
all_filtered P test [] all = tt
all_filtered P test (x ∷ xs) all = by_test (test x) (all_filtered P test xs all.1)
  where
    by_test : (b : Bool) → AllOf P (filter test xs) → AllOf P (cond b (x ∷ filter test xs) (filter test xs))
    by_test true others = (all.0, others)
    by_test false others = others

pub one_a_place_so : (P : Run → Type 0) (runs : List Run) → AllOf P runs → AllOf P (one_a_place runs)
one_a_place_so P [] all = tt
one_a_place_so P (run ∷ rest) all =
    (all.0, all_filtered P (λ other. not (same_place run.place other.place)) (one_a_place rest) (one_a_place_so P rest all.1))

-- ---- instances

-- the unit at this position is an activity
pub record IsActivity (units : List UnitDef) (k : ℕ) : Type 0 where
  pub unit : UnitDef
  pub there : slice_get units k ≡ Some unit
  pub activity : is_activity unit.kind ≡ true

pub taken : (units : List UnitDef) (n k : ℕ) (unit : UnitDef) → slice_get (take n units) k ≡ Some unit → slice_get units k ≡ Some unit
taken [] zero k unit e = e
taken [] (suc n) k unit e = e
taken (u ∷ units) zero k unit e = absurd cc
taken (u ∷ units) (suc n) zero unit e = e
taken (u ∷ units) (suc n) (suc k) unit e = taken units n k unit e

module _ (units : List UnitDef) (typed : (k : ℕ) (unit : UnitDef) → slice_get units k ≡ Some unit → (site : TypingContext) × (site.earlier ≡ take k units)
    × (all_of (map (fits site) unit.body) ≡ true)) where
  named_activities : (k : ℕ) (runs : List Run) → AllOf (RunsActivity (take k units)) runs → AllOf (λ run. IsActivity units run.unit) runs
  named_activities k [] all = tt
  named_activities k (run ∷ rest) all =
      (record { unit = all.0.callee; there = taken units k run.unit all.0.callee all.0.there; activity = all.0.activity }, named_activities k rest all.1)

  unit_runs : (k : ℕ) (unit : UnitDef) → slice_get units k ≡ Some unit → AllOf (λ run. IsActivity units run.unit) (runs_of unit)
  unit_runs k unit there =
      let t = typed k unit there in
      one_a_place_so (λ run. IsActivity units run.unit) (joined (map runs_in unit.body))
      (named_activities k (joined (map runs_in unit.body))
      (subst (λ earlier. AllOf (RunsActivity earlier) (joined (map runs_in unit.body))) t.1 (body_runs t.0 unit.body t.2)))

  abbrev Of : Instance → Type 0
  Of instance = IsActivity units instance.unit

  called_so : (n : ℕ) (run : Run) (inner : List Instance) → AllOf Of inner → AllOf Of (map (called_from n run) inner)
  called_so n run [] all = tt
  called_so n run (instance ∷ inner) all = (all.0, called_so n run inner all.1)

  below_so : (alone : ℕ → List Instance) → ((k : ℕ) → IsActivity units k → AllOf Of (alone k)) → (n : ℕ) (runs : List Run) →
      AllOf (λ run. IsActivity units run.unit) runs → AllOf Of (instances_below alone n runs)
  below_so alone inner n [] all = tt
  below_so alone inner n (run ∷ rest) all =
      all_both Of (map (called_from n run) (alone run.unit)) (instances_below alone (n + length (map (called_from n run) (alone run.unit))) rest)
      (called_so n run (alone run.unit) (inner run.unit all.0))
      (below_so alone inner (n + length (map (called_from n run) (alone run.unit))) rest all.1)

  -- what an activity expands to are instances of activities
  pub expanded_so : (longest k : ℕ) → IsActivity units k → AllOf Of (expanded units longest k)
  expanded_so zero k is = tt
  expanded_so (suc longest) k is = by_unit (λ j other. expanded_so longest j other) (slice_get units k) refl
    where
      by_unit : ((j : ℕ) → IsActivity units j → AllOf Of (expanded units longest j)) → (found : Option UnitDef) → slice_get units k ≡ found →
          AllOf Of (unwrap_or (option_map (λ unit. record { unit = k; depth = 0; origin = None }
          ∷ instances_below (expanded units longest) 1 (runs_of unit)) found) [])
      by_unit inner None e = tt
      by_unit inner (Some unit) e = (is, below_so (expanded units longest) inner 1 (runs_of unit) (unit_runs k unit e))
