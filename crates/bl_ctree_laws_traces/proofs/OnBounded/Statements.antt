-- The plain statements of a typed body have its `run` statements, and with two more steps a call at most five nodes a statement.
use Rattle.std.proofs.Common.{◌≡◌, ℕ, suc, ◌+◌, ◌*◌, ◌≤◌, Bool, true, false, ◌&&◌, List, [], ◌∷◌, ◌++◌, append_assoc, append-nil, map, length, get_or, refl}
use Rattle.std.proofs.Common.{sym, ap, ◌∙◌, subst, arith}
use Rattle.std.proofs.lemmas.List.{length-append, length-map, map-append}
use Rattle.std.proofs.lemmas.List.Elements.{All-head, All-tail}
use Rattle.bl_tree.proofs.Basics.{and_first, and_second}
use Rattle.bl_tree.specs.declared.place.Place.{Place}
use Rattle.bl_tree.specs.declared.tree.Arm.{Arm, fold-Arm, fold_out-Arm, out-Arm}
use Rattle.bl_tree.specs.declared.tree.Branch.{Branch, fold-Branch, fold_out-Branch, out-Branch}
use Rattle.bl_tree.specs.declared.tree.Stmt.{Stmt, fold-roll-Stmt}
use Rattle.bl_tree.specs.declared.tree.StmtKind.{StmtKind, fold-StmtKind, fold-roll-StmtKind, map-StmtKind}
use Rattle.bl_tree.specs.declared.tree.StmtKind.TheOpen.{StmtKind-F}
use Rattle.bl_tree.specs.Reduce.{all_of, joined, total}
use Rattle.bl_tree.specs.Typing.{TypingContext, arm_fits, branch_fits, fits, is_activity, is_inhabited, is_truth, kind_fits, stmt_fits, type_of}
use Rattle.bl_tree.proofs.StmtInduction.{Cases, Each, EachArm, EachBranch, induct, stmt}
use Rattle.bl_graph_nodes.specs.Laws.{plain_arm, plain_branch}
use Rattle.bl_graph_nodes.specs.Nodes.{CheckAt, DepthEndAt, DepthJoinAt, Node, SurfaceEndAt, SurfaceJoinAt, are_instant, is_instant, nodes_in, nodes_in_each}
use Rattle.bl_graph_nodes.specs.Nodes.{nodes_of, where_so}
use Rattle.bl_graph_nodes.specs.Plain.{Block, Bodies, Cobegin, Label, Plain, Position, block_from, bodies_from, else_at, inside, label_at, passed_one}
use Rattle.bl_graph_nodes.specs.Plain.{plain_block, plain_body, plain_stmt}
use Rattle.bl_graph_nodes.proofs.Equations.{plain_statements}
use Rattle.bl_ctree.specs.declared.instance.Run.{Run}
use Rattle.bl_ctree.specs.Instances.{arm_runs, branch_runs, kind_runs, runs_in, runs_in_arm, runs_in_branch, stmt_layer_runs}
use Rattle.bl_ctree.specs.Measure.{arm_step_statements, branch_step_statements, kind_step_statements, layer_step_statements, step_statements_in}
use Rattle.bl_ctree_laws.specs.Trees.{Call}
use Rattle.bl_ctree_laws_traces.proofs.OnBounded.Calls.{calls_in, calls_in_each, calls_of, run_of}

-- these calls are these runs, and with these nodes they are at most five a statement
pub record Few (calls : List Call) (nodes : List Node) (runs : List Run) (statements : ℕ) : Type 0 where
  pub are : map run_of calls ≡ runs
  pub few : length nodes + 2 * length calls ≤ 5 * statements

abbrev FewOf : Plain → List Run → ℕ → Type 0
FewOf s runs statements = Few (calls_of s) (nodes_of s) runs statements

abbrev pub FewIn : Block → List Run → ℕ → Type 0
FewIn body runs statements = Few (calls_in body) (nodes_in body) runs statements

both_few : {calls calls' : List Call} {nodes nodes' : List Node} {runs runs' : List Run} (n n' : ℕ) → Few calls nodes runs n →
    Few calls' nodes' runs' n' → Few (calls ++ calls') (nodes ++ nodes') (runs ++ runs') (n + n')
both_few {calls} {calls'} {nodes} {nodes'} n n' one other =
    let long = length-append calls calls' in
    let longer = length-append nodes nodes' in
    let few = one.few in
    let more = other.few in
    record { are = map-append run_of calls calls' ∙ (λ i. one.are i ++ other.are i); few = omega arith }

pub so_long : (b : Bool) (n : Node) → length (where_so b n) ≤ 1
so_long true n = omega arith
so_long false n = omega arith

module _ (site : TypingContext) where
  abbrev S : Stmt → Type 0
  S s = fits site s ≡ true → (at : Position) → FewOf (plain_stmt s at) (runs_in s) (step_statements_in s)

  block_few : (body : List Stmt) (k : ℕ) (block : Position) → Each S body → all_of (map (fits site) body) ≡ true →
      FewIn (block_from (map plain_stmt body) k block) (joined (map runs_in body)) (total (map step_statements_in body))
  block_few [] k block each fitted = record { are = refl; few = omega arith }
  block_few (s ∷ rest) k block each fitted =
      both_few (step_statements_in s) (total (map step_statements_in rest))
      (All-head S s rest each (and_first (fits site s) (all_of (map (fits site) rest)) fitted) (block ++ k ∷ []))
      (block_few rest (suc k) block (All-tail S s rest each) (and_second (fits site s) (all_of (map (fits site) rest)) fitted))

  abbrev statements_in_arm : Arm → ℕ
  statements_in_arm = fold-Arm ℕ ℕ ℕ ℕ kind_step_statements arm_step_statements branch_step_statements layer_step_statements

  abbrev statements_in_branch : Branch → ℕ
  statements_in_branch = fold-Branch ℕ ℕ ℕ ℕ kind_step_statements arm_step_statements branch_step_statements layer_step_statements

  abbrev arm_fitted : Arm → Bool
  arm_fitted = fold-Arm Bool Bool Bool Bool (kind_fits site) (arm_fits site) branch_fits stmt_fits

  abbrev branch_fitted : Branch → Bool
  branch_fitted = fold-Branch Bool Bool Bool Bool (kind_fits site) (arm_fits site) branch_fits stmt_fits

  arm_few : (arm : Arm) (k : ℕ) (block : Position) → Each S (out-Arm arm).body → arm_fitted arm ≡ true →
      FewIn (block_from (map plain_stmt (out-Arm arm).body) k block) (runs_in_arm arm) (statements_in_arm arm)
  arm_few arm k block each fitted =
      subst (λ runs. FewIn (block_from (map plain_stmt (out-Arm arm).body) k block) runs (statements_in_arm arm))
      (sym (fold_out-Arm (Place → List Run) (List Run) (List Run) (List Run) kind_runs arm_runs branch_runs stmt_layer_runs arm))
      (subst (λ n. FewIn (block_from (map plain_stmt (out-Arm arm).body) k block) (joined (map runs_in (out-Arm arm).body)) n)
      (sym (fold_out-Arm ℕ ℕ ℕ ℕ kind_step_statements arm_step_statements branch_step_statements layer_step_statements arm))
      (block_few (out-Arm arm).body k block each (and_second (is_truth (type_of site (out-Arm arm).test)) (all_of (map (fits site) (out-Arm arm).body))
      (sym (fold_out-Arm Bool Bool Bool Bool (kind_fits site) (arm_fits site) branch_fits stmt_fits arm) ∙ fitted))))

  branch_few : (branch : Branch) (k : ℕ) (block : Position) → Each S (out-Branch branch).body → branch_fitted branch ≡ true →
      FewIn (block_from (map plain_stmt (out-Branch branch).body) k block) (runs_in_branch branch) (statements_in_branch branch)
  branch_few branch k block each fitted =
      subst (λ runs. FewIn (block_from (map plain_stmt (out-Branch branch).body) k block) runs (statements_in_branch branch))
      (sym (fold_out-Branch (Place → List Run) (List Run) (List Run) (List Run) kind_runs arm_runs branch_runs stmt_layer_runs branch))
      (subst (λ n. FewIn (block_from (map plain_stmt (out-Branch branch).body) k block) (joined (map runs_in (out-Branch branch).body)) n)
      (sym (fold_out-Branch ℕ ℕ ℕ ℕ kind_step_statements arm_step_statements branch_step_statements layer_step_statements branch))
      (block_few (out-Branch branch).body k block each
      (sym (fold_out-Branch Bool Bool Bool Bool (kind_fits site) (arm_fits site) branch_fits stmt_fits branch) ∙ fitted)))

  -- what else: a condition for each further arm
  else_few : (at : Label) (arms : List Arm) (other : List Stmt) → EachArm S arms → Each S other → all_of (map arm_fitted arms) ≡ true →
      all_of (map (fits site) other) ≡ true →
      FewIn (else_at at (map plain_arm arms) (plain_block other)) (joined (map runs_in_arm arms) ++ joined (map runs_in other))
      (length arms + total (map statements_in_arm arms) + total (map step_statements_in other))
  else_few at [] other each others fitted last =
      let one = block_few other 0 (inside at at.passed) others last in
      let few = one.few in
      record { are = one.are; few = omega arith }
  else_few at (arm ∷ rest) other each others fitted last =
      let one = arm_few arm 0 (inside at at.passed) (All-head (λ arm. Each S (out-Arm arm).body) arm rest each)
      (and_first (arm_fitted arm) (all_of (map arm_fitted rest)) fitted) in
      let more = else_few (passed_one at) rest other (All-tail (λ arm. Each S (out-Arm arm).body) arm rest each) others
      (and_second (arm_fitted arm) (all_of (map arm_fitted rest)) fitted) last in
      let both = both_few (statements_in_arm arm) (length rest + total (map statements_in_arm rest) + total (map step_statements_in other)) one more in
      let calls : List Call = calls_in (plain_block (out-Arm arm).body (inside at at.passed))
      ++ calls_in (else_at (passed_one at) (map plain_arm rest) (plain_block other)) in
      let nodes : List Node = nodes_in (plain_block (out-Arm arm).body (inside at at.passed))
      ++ nodes_in (else_at (passed_one at) (map plain_arm rest) (plain_block other)) in
      let long = length-append calls [] in
      let longer = length-append nodes [] in
      let few = both.few in
      record {
        are = ap (map run_of) (append-nil calls) ∙ both.are
            ∙ sym (append_assoc (runs_in_arm arm) (joined (map runs_in_arm rest)) (joined (map runs_in other)));
        few = omega arith;
      }

  branches_few : (branches : List Branch) (k : ℕ) (at : Label) → EachBranch S branches → all_of (map branch_fitted branches) ≡ true →
      Few (calls_in_each (bodies_from (map plain_branch branches) k at)) (nodes_in_each (bodies_from (map plain_branch branches) k at))
      (joined (map runs_in_branch branches)) (total (map statements_in_branch branches))
  branches_few [] k at each fitted = record { are = refl; few = omega arith }
  branches_few (branch ∷ rest) k at each fitted =
      both_few (statements_in_branch branch) (total (map statements_in_branch rest))
      (branch_few branch 0 (inside at k) (All-head (λ branch. Each S (out-Branch branch).body) branch rest each)
      (and_first (branch_fitted branch) (all_of (map branch_fitted rest)) fitted))
      (branches_few rest (suc k) at (All-tail (λ branch. Each S (out-Branch branch).body) branch rest each)
      (and_second (branch_fitted branch) (all_of (map branch_fitted rest)) fitted))

  -- ---- kinds

  abbrev run_parts : StmtKind-F StmtKind Arm Branch Stmt → StmtKind-F (Place → List Run) (List Run) (List Run) (List Run)
  run_parts = map-StmtKind StmtKind Arm Branch Stmt (Place → List Run) (List Run) (List Run) (List Run)
      (fold-StmtKind (Place → List Run) (List Run) (List Run) (List Run) kind_runs arm_runs branch_runs stmt_layer_runs) runs_in_arm runs_in_branch runs_in

  runs_at : (place : Place) (layer : StmtKind-F StmtKind Arm Branch Stmt) → runs_in (stmt place layer) ≡ kind_runs (run_parts layer) place
  runs_at place layer = rw (fold-roll-Stmt, fold-roll-StmtKind) refl

  abbrev fit_parts : StmtKind-F StmtKind Arm Branch Stmt → StmtKind-F Bool Bool Bool Bool
  fit_parts = map-StmtKind StmtKind Arm Branch Stmt Bool Bool Bool Bool
      (fold-StmtKind Bool Bool Bool Bool (kind_fits site) (arm_fits site) branch_fits stmt_fits) arm_fitted branch_fitted (fits site)

  fit_at : (place : Place) (layer : StmtKind-F StmtKind Arm Branch Stmt) → fits site (stmt place layer) ≡ kind_fits site (fit_parts layer)
  fit_at place layer = rw (fold-roll-Stmt, fold-roll-StmtKind) refl

  abbrev count_parts : StmtKind-F StmtKind Arm Branch Stmt → StmtKind-F ℕ ℕ ℕ ℕ
  count_parts = map-StmtKind StmtKind Arm Branch Stmt ℕ ℕ ℕ ℕ
      (fold-StmtKind ℕ ℕ ℕ ℕ kind_step_statements arm_step_statements branch_step_statements layer_step_statements) statements_in_arm statements_in_branch
      step_statements_in

  count_at : (place : Place) (layer : StmtKind-F StmtKind Arm Branch Stmt) → step_statements_in (stmt place layer) ≡ kind_step_statements (count_parts layer)
  count_at place layer = rw (fold-roll-Stmt, fold-roll-StmtKind) refl

  by_parts : (place : Place) (layer : StmtKind-F StmtKind Arm Branch Stmt) (made : Position → Plain) →
      ((at : Position) → plain_stmt (stmt place layer) at ≡ made at) →
      (kind_fits site (fit_parts layer) ≡ true → (at : Position) →
      FewOf (made at) (kind_runs (run_parts layer) place) (kind_step_statements (count_parts layer))) →
      S (stmt place layer)
  by_parts place layer made is few fitted at =
      subst (λ p. FewOf p (runs_in (stmt place layer)) (step_statements_in (stmt place layer))) (sym (is at))
      (subst (λ runs. FewOf (made at) runs (step_statements_in (stmt place layer))) (sym (runs_at place layer))
      (subst (λ n. FewOf (made at) (kind_runs (run_parts layer) place) n) (sym (count_at place layer))
      (few (sym (fit_at place layer) ∙ fitted) at)))

  branching_few : (place : Place) (arms : List Arm) (other : List Stmt) → EachArm S arms → Each S other → S (stmt place (StmtKind-F.If arms other))
  branching_few place [] other each others fitted at = absurd (cc (sym (fit_at place (StmtKind-F.If [] other)) ∙ fitted))
  branching_few place (arm ∷ rest) other each others fitted at =
      by_parts place (StmtKind-F.If (arm ∷ rest) other) _ (λ at. plain_statements.branching place at arm rest other) (λ fitted at.
      let choices : Bool = all_of (map arm_fitted (arm ∷ rest)) in
      let last : Bool = all_of (map (fits site) other) in
      let fitting : (choices && last) ≡ true = and_second (is_inhabited (map arm_fitted (arm ∷ rest))) (choices && last) fitted in
      let choosing : choices ≡ true = and_first choices last fitting in
      let one = arm_few arm 0 (inside (label_at at) 0) (All-head (λ arm. Each S (out-Arm arm).body) arm rest each)
      (and_first (arm_fitted arm) (all_of (map arm_fitted rest)) choosing) in
      let more = else_few (passed_one (label_at at)) rest other (All-tail (λ arm. Each S (out-Arm arm).body) arm rest each) others
      (and_second (arm_fitted arm) (all_of (map arm_fitted rest)) choosing) (and_second choices last fitting) in
      let both = both_few (statements_in_arm arm) (length rest + total (map statements_in_arm rest) + total (map step_statements_in other)) one more in
      let few = both.few in
      let long : length (map statements_in_arm rest) ≡ length rest = length-map rest statements_in_arm in
      record {
        are = both.are ∙ sym (append_assoc (runs_in_arm arm) (joined (map runs_in_arm rest)) (joined (map runs_in other)));
        few = omega arith;
      }) fitted at

  stmt_cases : Cases S
  stmt_cases = record {
    declare = λ place k initial. by_parts place (StmtKind-F.Declare k initial) _ (λ at. plain_statements.declaration place at k initial)
        (λ fitted at. record { are = refl; few = omega arith });
    assign = λ place path e. by_parts place (StmtKind-F.Assign path e) _ (λ at. plain_statements.assignment place at path e)
        (λ fitted at. record { are = refl; few = omega arith });
    call = λ place f inputs outputs. by_parts place (StmtKind-F.Call f inputs outputs) _ (λ at. plain_statements.call place at f inputs outputs)
        (λ fitted at. record { are = refl; few = omega arith });
    await = λ place e. by_parts place (StmtKind-F.Await e) _ (λ at. plain_statements.pause place at e)
        (λ fitted at. record { are = refl; few = omega arith });
    run = λ place target a inputs outputs. by_parts place (StmtKind-F.Run target a inputs outputs) _
        (λ at. plain_statements.run place at target a inputs outputs) (λ fitted at. record { are = refl; few = omega arith });
    branching = branching_few;
    cobegin = λ place branches each. by_parts place (StmtKind-F.Cobegin branches) _ (λ at. plain_statements.parallel place at branches) (λ fitted at.
        let some : Bool = is_inhabited (map branch_fitted branches) in
        let within : Bool = all_of (map branch_fitted branches) in
        let one = branches_few branches 0 (label_at at) each (and_second some within (and_second (is_activity site.kind) (some && within) fitted)) in
        let few = one.few in
        let bodies : Bodies = bodies_from (map plain_branch branches) 0 (label_at at) in
        let join = so_long (is_instant (Cobegin (label_at at) place bodies)) (SurfaceJoinAt (label_at at) place) in
        let long = length-append (where_so (is_instant (Cobegin (label_at at) place bodies)) (SurfaceJoinAt (label_at at) place))
        (DepthJoinAt (label_at at) place ∷ nodes_in_each bodies) in
        record { are = one.are; few = omega arith });
    guarded = λ place guard e body each. by_parts place (StmtKind-F.When guard e body) _ (λ at. plain_statements.guarded place at guard e body)
        (λ fitted at.
        let tested : Bool = is_truth (type_of site e) in
        let within : Bool = all_of (map (fits site) body) in
        let one = block_few body 0 (inside (label_at at) 0) each (and_second tested within (and_second (is_activity site.kind) (tested && within) fitted)) in
        let few = one.few in
        let block : Block = plain_block body (inside (label_at at) 0) in
        let end = so_long (are_instant block) (SurfaceEndAt (label_at at) place) in
        let long = length-append (where_so (are_instant block) (SurfaceEndAt (label_at at) place))
        (CheckAt (label_at at) place e ∷ DepthEndAt (label_at at) place ∷ nodes_in block) in
        record { are = one.are; few = omega arith });
    repeat = λ place body each. by_parts place (StmtKind-F.Repeat body) _ (λ at. plain_statements.endless place at body) (λ fitted at.
        let one = block_few body 0 (inside (label_at at) 0) each fitted in
        let few = one.few in
        record { are = one.are; few = omega arith });
    until = λ place body e each. by_parts place (StmtKind-F.Until body e) _ (λ at. plain_statements.until place at body e) (λ fitted at.
        let one = block_few body 0 (inside (label_at at) 0) each (and_first (all_of (map (fits site) body)) (is_truth (type_of site e)) fitted) in
        let few = one.few in
        record { are = one.are; few = omega arith });
    while = λ place e body each. by_parts place (StmtKind-F.While e body) _ (λ at. plain_statements.while place at e body) (λ fitted at.
        let one = block_few body 0 (inside (label_at at) 0) each (and_second (is_truth (type_of site e)) (all_of (map (fits site) body)) fitted) in
        let few = one.few in
        record { are = one.are; few = omega arith });
    returns = λ place e. by_parts place (StmtKind-F.Return e) _ (λ at. plain_statements.returns place at e)
        (λ fitted at. record { are = refl; few = omega arith });
  }

  pub body_few : (body : List Stmt) → all_of (map (fits site) body) ≡ true →
      FewIn (plain_body body) (joined (map runs_in body)) (total (map step_statements_in body))
  body_few body fitted = block_few body 0 [] (λ k d within. induct S stmt_cases (get_or body k d)) fitted
