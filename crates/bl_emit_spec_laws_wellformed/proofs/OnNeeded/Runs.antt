-- A function runs no activity.
use Rattle.std.proofs.Common.{◌≡◌, ℕ, Bool, true, false, ◌&&◌, List, [], ◌∷◌, ◌++◌}
use Rattle.std.proofs.Common.{map, take, Option, Some, None, refl, sym, ap, ◌∙◌}
use Rattle.std.proofs.lemmas.List.Elements.{All-head, All-tail}
use Rattle.std.specs.Prelude.{slice_get}
use Rattle.bl_tree.proofs.Basics.{and_first, and_second}
use Rattle.bl_tree.specs.declared.place.Place.{Place}
use Rattle.bl_tree.specs.declared.tree.Arm.{Arm, fold-Arm, fold_out-Arm, out-Arm}
use Rattle.bl_tree.specs.declared.tree.Expr.{Expr}
use Rattle.bl_tree.specs.declared.tree.Path.{Path}
use Rattle.bl_tree.specs.declared.tree.Stmt.{Stmt, fold-roll-Stmt}
use Rattle.bl_tree.specs.declared.tree.StmtKind.{fold-roll-StmtKind}
use Rattle.bl_tree.specs.declared.tree.StmtKind.TheOpen.{StmtKind-F}
use Rattle.bl_tree.specs.declared.tree.StructDef.{StructDef}
use Rattle.bl_tree.specs.declared.tree.Unit.{Unit as UnitDef}
use Rattle.bl_tree.specs.Program.{IsWellTyped}
use Rattle.bl_tree.specs.Reduce.{all_of, joined}
use Rattle.bl_tree.specs.Typing.{TypingContext, arm_fits, branch_fits, fits, is_activity, is_inhabited}
use Rattle.bl_tree.specs.Typing.{is_truth, kind_fits, run_fits, site_of, stmt_fits, type_of}
use Rattle.bl_tree.proofs.StmtInduction.{Cases, Each, EachArm, induct, stmt}
use Rattle.bl_limits_measures.specs.Runs.{activities_run}
use Rattle.bl_limits_measures.proofs.RunLemmas.{activities_are, activities_in as runs_in, activities_in_arm as runs_in_arm, arm_activities as arm_runs}
use Rattle.bl_limits_measures.proofs.RunLemmas.{branch_activities as branch_runs, kind_activities as kind_runs, stmt_activities as stmt_layer_runs}
use Rattle.bl_emit_acts_laws_wellformed.proofs.OnFormed.Units.{body_stands}
use Rattle.bl_eval.proofs.UnitFits.{all_listed}

module _ (site : TypingContext) (function : is_activity site.kind ≡ false) where
  abbrev S : Stmt → Type 0
  S s = fits site s ≡ true → runs_in s ≡ []

  never : (b : Bool) → (is_activity site.kind && b) ≡ true → ⊥
  never b h = let no = sym (and_first (is_activity site.kind) b h) ∙ function in cc

  never_run : (target : Option Path) (inputs : List Expr) (outputs : List Path) (callee : Option UnitDef)
      → run_fits site target inputs outputs callee ≡ true → ⊥
  never_run target inputs outputs None h = cc
  never_run target inputs outputs (Some callee) h = never _ (and_first _ _ h)

  block_none : (body : List Stmt) → Each S body → all_of (map (fits site) body) ≡ true → joined (map runs_in body) ≡ []
  block_none [] each fitted = refl
  block_none (s ∷ body) each fitted =
      ap (λ runs. runs ++ joined (map runs_in body)) (All-head S s body each (and_first (fits site s) (all_of (map (fits site) body)) fitted))
      ∙ block_none body (All-tail S s body each) (and_second (fits site s) (all_of (map (fits site) body)) fitted)

  abbrev arm_fitted : Arm → Bool
  arm_fitted = fold-Arm Bool Bool Bool Bool (kind_fits site) (arm_fits site) branch_fits stmt_fits

  abbrev OfArm : Arm → Type 0
  OfArm arm = Each S (out-Arm arm).body

  arm_none : (arm : Arm) → OfArm arm → arm_fitted arm ≡ true → runs_in_arm arm ≡ []
  arm_none arm each fitted =
      let fits_so = sym (fold_out-Arm Bool Bool Bool Bool (kind_fits site) (arm_fits site) branch_fits stmt_fits arm) ∙ fitted in
      fold_out-Arm (List ℕ) (List ℕ) (List ℕ) (List ℕ) kind_runs arm_runs branch_runs stmt_layer_runs arm
      ∙ block_none (out-Arm arm).body each
      (and_second (is_truth (type_of site (out-Arm arm).test)) (all_of (map (fits site) (out-Arm arm).body)) fits_so)

  arms_none : (arms : List Arm) → EachArm S arms → all_of (map arm_fitted arms) ≡ true → joined (map runs_in_arm arms) ≡ []
  arms_none [] each fitted = refl
  arms_none (arm ∷ arms) each fitted =
      ap (λ runs. runs ++ joined (map runs_in_arm arms))
      (arm_none arm (All-head OfArm arm arms each) (and_first (arm_fitted arm) (all_of (map arm_fitted arms)) fitted))
      ∙ arms_none arms (All-tail OfArm arm arms each) (and_second (arm_fitted arm) (all_of (map arm_fitted arms)) fitted)

  branching_none : (place : Place) (arms : List Arm) (other : List Stmt) → EachArm S arms → Each S other →
      S (stmt place (StmtKind-F.If arms other))
  branching_none place arms other each others fitted =
      let parts = and_second (is_inhabited (map arm_fitted arms)) (all_of (map arm_fitted arms) && all_of (map (fits site) other))
      (rw (fold-roll-Stmt, fold-roll-StmtKind) at fitted) in
      rw (fold-roll-Stmt, fold-roll-StmtKind)
      (ap (λ runs. runs ++ joined (map runs_in other))
      (arms_none arms each (and_first (all_of (map arm_fitted arms)) (all_of (map (fits site) other)) parts))
      ∙ block_none other others (and_second (all_of (map arm_fitted arms)) (all_of (map (fits site) other)) parts))

  cases : Cases S
  cases = record {
    declare = λ place k initial fitted. rw (fold-roll-Stmt, fold-roll-StmtKind) refl;
    assign = λ place path e fitted. rw (fold-roll-Stmt, fold-roll-StmtKind) refl;
    call = λ place f inputs outputs fitted. rw (fold-roll-Stmt, fold-roll-StmtKind) refl;
    await = λ place e fitted. rw (fold-roll-Stmt, fold-roll-StmtKind) refl;
    run = λ place target a inputs outputs fitted. absurd (never_run _ _ _ _ (rw (fold-roll-Stmt, fold-roll-StmtKind) at fitted));
    branching = branching_none;
    cobegin = λ place branches each fitted. absurd (never _ (rw (fold-roll-Stmt, fold-roll-StmtKind) at fitted));
    guarded = λ place guard e body each fitted. absurd (never _ (rw (fold-roll-Stmt, fold-roll-StmtKind) at fitted));
    repeat = λ place body each fitted.
        rw (fold-roll-Stmt, fold-roll-StmtKind) (block_none body each (rw (fold-roll-Stmt, fold-roll-StmtKind) at fitted));
    until = λ place body e each fitted.
        let parts = rw (fold-roll-Stmt, fold-roll-StmtKind) at fitted in
        rw (fold-roll-Stmt, fold-roll-StmtKind) (block_none body each (and_first (all_of (map (fits site) body)) (is_truth (type_of site e)) parts));
    while = λ place e body each fitted.
        let parts = rw (fold-roll-Stmt, fold-roll-StmtKind) at fitted in
        rw (fold-roll-Stmt, fold-roll-StmtKind) (block_none body each (and_second (is_truth (type_of site e)) (all_of (map (fits site) body)) parts));
    returns = λ place e fitted. rw (fold-roll-Stmt, fold-roll-StmtKind) refl;
  }

  body_none : (body : List Stmt) → all_of (map (fits site) body) ≡ true → joined (map runs_in body) ≡ []
  body_none body = block_none body (λ k d within. induct S cases _)

-- a function of a typed program runs nothing
pub runs_nothing : (structs : List StructDef) (units : List UnitDef) (entry : ℕ) → IsWellTyped structs units entry → (k : ℕ) (unit : UnitDef) →
    slice_get units k ≡ Some unit → is_activity unit.kind ≡ false → activities_run unit ≡ []
runs_nothing structs units entry keeps k unit there function =
    activities_are unit
    ∙ body_none (site_of structs (take k units) unit) function unit.body
    (all_listed (fits (site_of structs (take k units) unit)) unit.body (body_stands structs units entry keeps k unit there))
