-- Where each `run` statement of a body begins an instance, each in its plain statements does.
use Rattle.std.proofs.Common.{◌≡◌, ℕ, suc, List, [], ◌∷◌, ◌++◌, map, refl, sym, subst, get_or}
use Rattle.std.proofs.lemmas.List.Elements.{All-head, All-tail}
use Rattle.bl_tree.specs.declared.place.Place.{Place}
use Rattle.bl_tree.specs.declared.tree.Arm.{Arm, fold_out-Arm, out-Arm}
use Rattle.bl_tree.specs.declared.tree.Branch.{Branch, fold_out-Branch, out-Branch}
use Rattle.bl_tree.specs.declared.tree.Stmt.{Stmt, fold-roll-Stmt}
use Rattle.bl_tree.specs.declared.tree.StmtKind.{StmtKind, fold-StmtKind, fold-roll-StmtKind, map-StmtKind}
use Rattle.bl_tree.specs.declared.tree.StmtKind.TheOpen.{StmtKind-F}
use Rattle.bl_tree.specs.Reduce.{joined}
use Rattle.bl_tree.proofs.StmtInduction.{Cases, Each, EachArm, EachBranch, induct, stmt}
use Rattle.bl_graph_nodes.specs.Laws.{plain_arm, plain_branch}
use Rattle.bl_graph_nodes.specs.Plain.{Label, Position, block_from, bodies_from, else_at, inside, label_at, passed_one, plain_block, plain_body, plain_stmt}
use Rattle.bl_graph_nodes.proofs.Equations.{plain_statements}
use Rattle.bl_ctree.specs.declared.instance.Run.{Run}
use Rattle.bl_ctree.specs.Instances.{Setting, arm_runs, branch_runs, kind_runs, runs_in, runs_in_arm, runs_in_branch, stmt_layer_runs}
use Rattle.bl_ctree_laws_confluence.proofs.OnDeeds.Activities.{AllOf}
use Rattle.bl_ctree_laws_traces.specs.Progress.Places.{Callable, CallableAll, CallableEach, Calls}
use Rattle.bl_ctree_laws_confluence.proofs.OnDeeds.Aliases.{of_first, of_second}

module _ (w : Setting) (i : ℕ) where
  abbrev pub C : Run → Type 0
  C run = Calls w i run.place

  abbrev S : Stmt → Type 0
  S s = AllOf C (runs_in s) → (at : Position) → Callable w i (plain_stmt s at)

  block_calls : (body : List Stmt) (k : ℕ) (block : Position) → Each S body → AllOf C (joined (map runs_in body)) →
      CallableAll w i (block_from (map plain_stmt body) k block)
  block_calls [] k block each all = tt
  block_calls (s ∷ rest) k block each all = (
    All-head S s rest each (of_first C (runs_in s) (joined (map runs_in rest)) all) (block ++ k ∷ []),
    block_calls rest (suc k) block (All-tail S s rest each) (of_second C (runs_in s) (joined (map runs_in rest)) all),
  )

  arm_has : (arm : Arm) → AllOf C (runs_in_arm arm) → AllOf C (joined (map runs_in (out-Arm arm).body))
  arm_has arm all =
      subst (AllOf C) (fold_out-Arm (Place → List Run) (List Run) (List Run) (List Run) kind_runs arm_runs branch_runs stmt_layer_runs arm) all

  branch_has : (branch : Branch) → AllOf C (runs_in_branch branch) → AllOf C (joined (map runs_in (out-Branch branch).body))
  branch_has branch all =
      subst (AllOf C) (fold_out-Branch (Place → List Run) (List Run) (List Run) (List Run) kind_runs arm_runs branch_runs stmt_layer_runs branch) all

  arms_call : (at : Label) (arms : List Arm) (other : List Stmt) → EachArm S arms → Each S other → AllOf C (joined (map runs_in_arm arms)) →
      AllOf C (joined (map runs_in other)) → CallableAll w i (else_at at (map plain_arm arms) (plain_block other))
  arms_call at [] other each others all last = block_calls other 0 (inside at at.passed) others last
  arms_call at (arm ∷ rest) other each others all last = (
    (
      block_calls (out-Arm arm).body 0 (inside at at.passed) (All-head (λ arm. Each S (out-Arm arm).body) arm rest each)
          (arm_has arm (of_first C (runs_in_arm arm) (joined (map runs_in_arm rest)) all)),
      arms_call (passed_one at) rest other (All-tail (λ arm. Each S (out-Arm arm).body) arm rest each) others
          (of_second C (runs_in_arm arm) (joined (map runs_in_arm rest)) all) last,
    ),
    tt,
  )

  branches_call : (branches : List Branch) (k : ℕ) (at : Label) → EachBranch S branches → AllOf C (joined (map runs_in_branch branches)) →
      CallableEach w i (bodies_from (map plain_branch branches) k at)
  branches_call [] k at each all = tt
  branches_call (branch ∷ rest) k at each all = (
    block_calls (out-Branch branch).body 0 (inside at k) (All-head (λ branch. Each S (out-Branch branch).body) branch rest each)
        (branch_has branch (of_first C (runs_in_branch branch) (joined (map runs_in_branch rest)) all)),
    branches_call rest (suc k) at (All-tail (λ branch. Each S (out-Branch branch).body) branch rest each)
        (of_second C (runs_in_branch branch) (joined (map runs_in_branch rest)) all),
  )

  abbrev run_parts : StmtKind-F StmtKind Arm Branch Stmt → StmtKind-F (Place → List Run) (List Run) (List Run) (List Run)
  run_parts = map-StmtKind StmtKind Arm Branch Stmt (Place → List Run) (List Run) (List Run) (List Run)
      (fold-StmtKind (Place → List Run) (List Run) (List Run) (List Run) kind_runs arm_runs branch_runs stmt_layer_runs) runs_in_arm runs_in_branch runs_in

  runs_at : (place : Place) (layer : StmtKind-F StmtKind Arm Branch Stmt) → runs_in (stmt place layer) ≡ kind_runs (run_parts layer) place
  runs_at place layer = rw (fold-roll-Stmt, fold-roll-StmtKind) refl

  by_parts : (place : Place) (layer : StmtKind-F StmtKind Arm Branch Stmt) →
      (AllOf C (kind_runs (run_parts layer) place) → (at : Position) → Callable w i (plain_stmt (stmt place layer) at)) → S (stmt place layer)
  by_parts place layer calls all = calls (subst (AllOf C) (runs_at place layer) all)

  branching_calls : (place : Place) (arms : List Arm) (other : List Stmt) → EachArm S arms → Each S other → S (stmt place (StmtKind-F.If arms other))
  branching_calls place [] other each others = by_parts place (StmtKind-F.If [] other) (λ all at.
      rw (fold-roll-Stmt, fold-roll-StmtKind)
      (block_calls other 0 (inside (label_at at) 0) others all, block_calls other 0 (inside (label_at at) 1) others all))
  branching_calls place (arm ∷ rest) other each others = by_parts place (StmtKind-F.If (arm ∷ rest) other) (λ all at.
      let arms = of_first C (joined (map runs_in_arm (arm ∷ rest))) (joined (map runs_in other)) all in
      let last = of_second C (joined (map runs_in_arm (arm ∷ rest))) (joined (map runs_in other)) all in
      subst (Callable w i) (sym (plain_statements.branching place at arm rest other)) (
        block_calls (out-Arm arm).body 0 (inside (label_at at) 0) (All-head (λ arm. Each S (out-Arm arm).body) arm rest each)
            (arm_has arm (of_first C (runs_in_arm arm) (joined (map runs_in_arm rest)) arms)),
        arms_call (passed_one (label_at at)) rest other (All-tail (λ arm. Each S (out-Arm arm).body) arm rest each) others
            (of_second C (runs_in_arm arm) (joined (map runs_in_arm rest)) arms) last,
      ))

  stmt_cases : Cases S
  stmt_cases = record {
    declare = λ place k initial all at. subst (Callable w i) (sym (plain_statements.declaration place at k initial)) tt;
    assign = λ place path e all at. subst (Callable w i) (sym (plain_statements.assignment place at path e)) tt;
    call = λ place f inputs outputs all at. subst (Callable w i) (sym (plain_statements.call place at f inputs outputs)) tt;
    await = λ place e all at. subst (Callable w i) (sym (plain_statements.pause place at e)) tt;
    run = λ place target a inputs outputs. by_parts place (StmtKind-F.Run target a inputs outputs) (λ all at.
        subst (Callable w i) (sym (plain_statements.run place at target a inputs outputs)) all.0);
    branching = branching_calls;
    cobegin = λ place branches each. by_parts place (StmtKind-F.Cobegin branches) (λ all at.
        subst (Callable w i) (sym (plain_statements.parallel place at branches)) (branches_call branches 0 (label_at at) each all));
    guarded = λ place guard e body each. by_parts place (StmtKind-F.When guard e body) (λ all at.
        subst (Callable w i) (sym (plain_statements.guarded place at guard e body)) (block_calls body 0 (inside (label_at at) 0) each all));
    repeat = λ place body each. by_parts place (StmtKind-F.Repeat body) (λ all at.
        subst (Callable w i) (sym (plain_statements.endless place at body)) (block_calls body 0 (inside (label_at at) 0) each all));
    until = λ place body e each. by_parts place (StmtKind-F.Until body e) (λ all at.
        subst (Callable w i) (sym (plain_statements.until place at body e)) (block_calls body 0 (inside (label_at at) 0) each all));
    while = λ place e body each. by_parts place (StmtKind-F.While e body) (λ all at.
        subst (Callable w i) (sym (plain_statements.while place at e body)) (block_calls body 0 (inside (label_at at) 0) each all));
    returns = λ place e all at. subst (Callable w i) (sym (plain_statements.returns place at e)) tt;
  }

  pub body_calls : (body : List Stmt) → AllOf C (joined (map runs_in body)) → CallableAll w i (plain_body body)
  body_calls body all = block_calls body 0 [] (λ k d within. induct S stmt_cases (get_or body k d)) all
