-- The plain statements of a typed body are no more than those that are counted.
use Rattle.std.proofs.Common.{◌≡◌, ℕ, suc, ◌+◌, ◌≤◌, Bool, true, ◌&&◌, List, [], ◌∷◌, ◌++◌, map, length, get_or, refl, sym, ◌∙◌, subst, arith}
use Rattle.std.proofs.lemmas.List.{length-map}
use Rattle.std.proofs.lemmas.List.Elements.{All-head, All-tail}
use Rattle.bl_tree.proofs.Basics.{and_first, and_second}
use Rattle.bl_tree.specs.declared.place.Place.{Place}
use Rattle.bl_tree.specs.declared.tree.Arm.{Arm, fold-Arm, fold_out-Arm, out-Arm}
use Rattle.bl_tree.specs.declared.tree.Branch.{Branch, fold-Branch, fold_out-Branch, out-Branch}
use Rattle.bl_tree.specs.declared.tree.Stmt.{Stmt, fold-roll-Stmt}
use Rattle.bl_tree.specs.declared.tree.StmtKind.{StmtKind, fold-StmtKind, fold-roll-StmtKind, map-StmtKind}
use Rattle.bl_tree.specs.declared.tree.StmtKind.TheOpen.{StmtKind-F}
use Rattle.bl_tree.specs.Reduce.{all_of, total}
use Rattle.bl_tree.specs.Typing.{TypingContext, arm_fits, branch_fits, fits, is_activity, is_inhabited, is_truth, kind_fits, stmt_fits, type_of}
use Rattle.bl_tree.proofs.StmtInduction.{Cases, Each, EachArm, EachBranch, induct, stmt}
use Rattle.bl_graph_nodes.specs.Laws.{plain_arm, plain_branch}
use Rattle.bl_graph_nodes.specs.Plain.{Label, Plain, Position, block_from, bodies_from, else_at, inside, label_at, passed_one, plain_block, plain_body}
use Rattle.bl_graph_nodes.specs.Plain.{plain_stmt}
use Rattle.bl_graph_nodes.proofs.Equations.{plain_statements}
use Rattle.bl_ctree.specs.Measure.{arm_step_statements, branch_step_statements, kind_step_statements, layer_step_statements, step_statements_in}
use Rattle.bl_ctree_laws_peeled_bounds.proofs.Turns.{plain_size, plain_size_each, plain_size_in}

module _ (site : TypingContext) where
  abbrev S : Stmt → Type 0
  S s = fits site s ≡ true → (at : Position) → plain_size (plain_stmt s at) ≤ step_statements_in s

  block_size : (body : List Stmt) (k : ℕ) (block : Position) → Each S body → all_of (map (fits site) body) ≡ true →
      plain_size_in (block_from (map plain_stmt body) k block) ≤ total (map step_statements_in body)
  block_size [] k block each fitted = omega arith
  block_size (s ∷ rest) k block each fitted =
      let one = All-head S s rest each (and_first (fits site s) (all_of (map (fits site) rest)) fitted) (block ++ k ∷ []) in
      let more = block_size rest (suc k) block (All-tail S s rest each) (and_second (fits site s) (all_of (map (fits site) rest)) fitted) in
      omega arith

  abbrev statements_in_arm : Arm → ℕ
  statements_in_arm = fold-Arm ℕ ℕ ℕ ℕ kind_step_statements arm_step_statements branch_step_statements layer_step_statements

  abbrev statements_in_branch : Branch → ℕ
  statements_in_branch = fold-Branch ℕ ℕ ℕ ℕ kind_step_statements arm_step_statements branch_step_statements layer_step_statements

  abbrev arm_fitted : Arm → Bool
  arm_fitted = fold-Arm Bool Bool Bool Bool (kind_fits site) (arm_fits site) branch_fits stmt_fits

  abbrev branch_fitted : Branch → Bool
  branch_fitted = fold-Branch Bool Bool Bool Bool (kind_fits site) (arm_fits site) branch_fits stmt_fits

  arm_size : (arm : Arm) (k : ℕ) (block : Position) → Each S (out-Arm arm).body → arm_fitted arm ≡ true →
      plain_size_in (block_from (map plain_stmt (out-Arm arm).body) k block) ≤ statements_in_arm arm
  arm_size arm k block each fitted =
      subst (λ n. plain_size_in (block_from (map plain_stmt (out-Arm arm).body) k block) ≤ n)
      (sym (fold_out-Arm ℕ ℕ ℕ ℕ kind_step_statements arm_step_statements branch_step_statements layer_step_statements arm))
      (block_size (out-Arm arm).body k block each (and_second (is_truth (type_of site (out-Arm arm).test)) (all_of (map (fits site) (out-Arm arm).body))
      (sym (fold_out-Arm Bool Bool Bool Bool (kind_fits site) (arm_fits site) branch_fits stmt_fits arm) ∙ fitted)))

  branch_size : (branch : Branch) (k : ℕ) (block : Position) → Each S (out-Branch branch).body → branch_fitted branch ≡ true →
      plain_size_in (block_from (map plain_stmt (out-Branch branch).body) k block) ≤ statements_in_branch branch
  branch_size branch k block each fitted =
      subst (λ n. plain_size_in (block_from (map plain_stmt (out-Branch branch).body) k block) ≤ n)
      (sym (fold_out-Branch ℕ ℕ ℕ ℕ kind_step_statements arm_step_statements branch_step_statements layer_step_statements branch))
      (block_size (out-Branch branch).body k block each
      (sym (fold_out-Branch Bool Bool Bool Bool (kind_fits site) (arm_fits site) branch_fits stmt_fits branch) ∙ fitted))

  -- what else: a condition for each further arm
  else_size : (at : Label) (arms : List Arm) (other : List Stmt) → EachArm S arms → Each S other → all_of (map arm_fitted arms) ≡ true →
      all_of (map (fits site) other) ≡ true →
      plain_size_in (else_at at (map plain_arm arms) (plain_block other))
      ≤ length arms + total (map statements_in_arm arms) + total (map step_statements_in other)
  else_size at [] other each others fitted last = let one = block_size other 0 (inside at at.passed) others last in omega arith
  else_size at (arm ∷ rest) other each others fitted last =
      let one = arm_size arm 0 (inside at at.passed) (All-head (λ arm. Each S (out-Arm arm).body) arm rest each)
      (and_first (arm_fitted arm) (all_of (map arm_fitted rest)) fitted) in
      let more = else_size (passed_one at) rest other (All-tail (λ arm. Each S (out-Arm arm).body) arm rest each) others
      (and_second (arm_fitted arm) (all_of (map arm_fitted rest)) fitted) last in
      omega arith

  branches_size : (branches : List Branch) (k : ℕ) (at : Label) → EachBranch S branches → all_of (map branch_fitted branches) ≡ true →
      plain_size_each (bodies_from (map plain_branch branches) k at) ≤ total (map statements_in_branch branches)
  branches_size [] k at each fitted = omega arith
  branches_size (branch ∷ rest) k at each fitted =
      let one = branch_size branch 0 (inside at k) (All-head (λ branch. Each S (out-Branch branch).body) branch rest each)
      (and_first (branch_fitted branch) (all_of (map branch_fitted rest)) fitted) in
      let more = branches_size rest (suc k) at (All-tail (λ branch. Each S (out-Branch branch).body) branch rest each)
      (and_second (branch_fitted branch) (all_of (map branch_fitted rest)) fitted) in
      omega arith

  -- ---- kinds

  abbrev fit_parts : StmtKind-F StmtKind Arm Branch Stmt → StmtKind-F Bool Bool Bool Bool
  fit_parts = map-StmtKind StmtKind Arm Branch Stmt Bool Bool Bool Bool
      (fold-StmtKind Bool Bool Bool Bool (kind_fits site) (arm_fits site) branch_fits stmt_fits) arm_fitted branch_fitted (fits site)

  fit_at : (place : Place) (layer : StmtKind-F StmtKind Arm Branch Stmt) → fits site (stmt place layer) ≡ kind_fits site (fit_parts layer)
  fit_at place layer = rw (fold-roll-Stmt, fold-roll-StmtKind) refl

  abbrev count_parts : StmtKind-F StmtKind Arm Branch Stmt → StmtKind-F ℕ ℕ ℕ ℕ
  count_parts = map-StmtKind StmtKind Arm Branch Stmt ℕ ℕ ℕ ℕ
      (fold-StmtKind ℕ ℕ ℕ ℕ kind_step_statements arm_step_statements branch_step_statements layer_step_statements) statements_in_arm statements_in_branch
      step_statements_in

  count_at : (place : Place) (layer : StmtKind-F StmtKind Arm Branch Stmt) → step_statements_in (stmt place layer) ≡ kind_step_statements (count_parts layer)
  count_at place layer = rw (fold-roll-Stmt, fold-roll-StmtKind) refl

  by_parts : (place : Place) (layer : StmtKind-F StmtKind Arm Branch Stmt) (made : Position → Plain) →
      ((at : Position) → plain_stmt (stmt place layer) at ≡ made at) →
      (kind_fits site (fit_parts layer) ≡ true → (at : Position) → plain_size (made at) ≤ kind_step_statements (count_parts layer)) → S (stmt place layer)
  by_parts place layer made is few fitted at =
      subst (λ p. plain_size p ≤ step_statements_in (stmt place layer)) (sym (is at))
      (subst (λ n. plain_size (made at) ≤ n) (sym (count_at place layer)) (few (sym (fit_at place layer) ∙ fitted) at))

  branching_size : (place : Place) (arms : List Arm) (other : List Stmt) → EachArm S arms → Each S other → S (stmt place (StmtKind-F.If arms other))
  branching_size place [] other each others fitted at = absurd (cc (sym (fit_at place (StmtKind-F.If [] other)) ∙ fitted))
  branching_size place (arm ∷ rest) other each others fitted at =
      by_parts place (StmtKind-F.If (arm ∷ rest) other) _ (λ at. plain_statements.branching place at arm rest other) (λ fitted at.
      let choices : Bool = all_of (map arm_fitted (arm ∷ rest)) in
      let last : Bool = all_of (map (fits site) other) in
      let fitting : (choices && last) ≡ true = and_second (is_inhabited (map arm_fitted (arm ∷ rest))) (choices && last) fitted in
      let choosing : choices ≡ true = and_first choices last fitting in
      let one = arm_size arm 0 (inside (label_at at) 0) (All-head (λ arm. Each S (out-Arm arm).body) arm rest each)
      (and_first (arm_fitted arm) (all_of (map arm_fitted rest)) choosing) in
      let more = else_size (passed_one (label_at at)) rest other (All-tail (λ arm. Each S (out-Arm arm).body) arm rest each) others
      (and_second (arm_fitted arm) (all_of (map arm_fitted rest)) choosing) (and_second choices last fitting) in
      let long : length (map statements_in_arm rest) ≡ length rest = length-map rest statements_in_arm in
      omega arith) fitted at

  stmt_cases : Cases S
  stmt_cases = record {
    declare = λ place k initial. by_parts place (StmtKind-F.Declare k initial) _ (λ at. plain_statements.declaration place at k initial)
        (λ fitted at. omega arith);
    assign = λ place path e. by_parts place (StmtKind-F.Assign path e) _ (λ at. plain_statements.assignment place at path e) (λ fitted at. omega arith);
    call = λ place f inputs outputs. by_parts place (StmtKind-F.Call f inputs outputs) _ (λ at. plain_statements.call place at f inputs outputs)
        (λ fitted at. omega arith);
    await = λ place e. by_parts place (StmtKind-F.Await e) _ (λ at. plain_statements.pause place at e) (λ fitted at. omega arith);
    run = λ place target a inputs outputs. by_parts place (StmtKind-F.Run target a inputs outputs) _
        (λ at. plain_statements.run place at target a inputs outputs) (λ fitted at. omega arith);
    branching = branching_size;
    cobegin = λ place branches each. by_parts place (StmtKind-F.Cobegin branches) _ (λ at. plain_statements.parallel place at branches) (λ fitted at.
        let some : Bool = is_inhabited (map branch_fitted branches) in
        let within : Bool = all_of (map branch_fitted branches) in
        let one = branches_size branches 0 (label_at at) each (and_second some within (and_second (is_activity site.kind) (some && within) fitted)) in
        omega arith);
    guarded = λ place guard e body each. by_parts place (StmtKind-F.When guard e body) _ (λ at. plain_statements.guarded place at guard e body)
        (λ fitted at.
        let tested : Bool = is_truth (type_of site e) in
        let within : Bool = all_of (map (fits site) body) in
        let one = block_size body 0 (inside (label_at at) 0) each (and_second tested within (and_second (is_activity site.kind) (tested && within) fitted)) in
        omega arith);
    repeat = λ place body each. by_parts place (StmtKind-F.Repeat body) _ (λ at. plain_statements.endless place at body) (λ fitted at.
        let one = block_size body 0 (inside (label_at at) 0) each fitted in omega arith);
    until = λ place body e each. by_parts place (StmtKind-F.Until body e) _ (λ at. plain_statements.until place at body e) (λ fitted at.
        let one = block_size body 0 (inside (label_at at) 0) each (and_first (all_of (map (fits site) body)) (is_truth (type_of site e)) fitted) in
        omega arith);
    while = λ place e body each. by_parts place (StmtKind-F.While e body) _ (λ at. plain_statements.while place at e body) (λ fitted at.
        let one = block_size body 0 (inside (label_at at) 0) each (and_second (is_truth (type_of site e)) (all_of (map (fits site) body)) fitted) in
        omega arith);
    returns = λ place e. by_parts place (StmtKind-F.Return e) _ (λ at. plain_statements.returns place at e) (λ fitted at. omega arith);
  }

  pub body_size : (body : List Stmt) → all_of (map (fits site) body) ≡ true → plain_size_in (plain_body body) ≤ total (map step_statements_in body)
  body_size body fitted = block_size body 0 [] (λ k d within. induct S stmt_cases (get_or body k d)) fitted
