-- What is done at the nodes of statements that fit fits.
use Rattle.std.proofs.Common.{◌≡◌, ℕ, suc, ◌≤◌, max, Bool, true}
use Rattle.std.proofs.Common.{false, ◌&&◌, List, [], ◌∷◌, ◌++◌, map, length}
use Rattle.std.proofs.Common.{Option, refl, sym, ap, ◌∙◌, subst, arith}
use Rattle.std.proofs.lemmas.Bool.Decides.{nat_tests}
use Rattle.std.proofs.lemmas.List.Elements.{All-head, All-tail}
use Rattle.std.specs.Prelude.{nat_le, slice_get}
use Rattle.std.proofs.lemmas.Bool.{and_from}
use Rattle.bl_tree.proofs.Basics.{and_first, and_second, at_most_test}
use Rattle.bl_tree.specs.declared.place.Place.{Place}
use Rattle.bl_tree.specs.declared.tree.Arm.{Arm, fold-Arm, fold_out-Arm, out-Arm}
use Rattle.bl_tree.specs.declared.tree.Branch.{Branch, fold-Branch, fold_out-Branch, out-Branch}
use Rattle.bl_tree.specs.declared.tree.Expr.{Expr}
use Rattle.bl_tree.specs.declared.tree.Guard.{Guard}
use Rattle.bl_tree.specs.declared.tree.Path.{Path}
use Rattle.bl_tree.specs.declared.tree.Stmt.{Stmt, fold-roll-Stmt}
use Rattle.bl_tree.specs.declared.tree.StmtKind.{fold-roll-StmtKind}
use Rattle.bl_tree.specs.declared.tree.StmtKind.TheOpen.{StmtKind-F}
use Rattle.bl_tree.specs.Depths.{Depth, arguments_depth, arm_depth, branch_depth, depth_of, expr_depth, of_all}
use Rattle.bl_tree.specs.Depths.{stmt_kind_depth, stmt_layer_depth, target_depth}
use Rattle.bl_tree.specs.Reduce.{all_of}
use Rattle.bl_tree.specs.Typing.{TypingContext, arm_fits, branch_fits, fits, is_activity, is_inhabited, is_truth, kind_fits, run_fits, stmt_fits, type_of}
use Rattle.bl_tree.proofs.StmtInduction.{Cases, Each, EachArm, EachBranch, induct, stmt}
use Rattle.bl_graph_nodes.specs.Nodes.{ActAt, CheckAt, DepthEndAt, DepthJoinAt, EnterAt, ForkAt, HeadAt, Node, PauseAt, ResumeAt}
use Rattle.bl_graph_nodes.specs.Nodes.{StartAt, SurfaceEndAt, SurfaceJoinAt, TestAt, are_instant, arguments_of, is_instant}
use Rattle.bl_graph_nodes.specs.Nodes.{nodes_in, nodes_in_each, nodes_of, where_so}
use Rattle.bl_graph_nodes.specs.Plain.{Act, Arm as PlainArm, Await, Block, Bodies, Branch as PlainBranch, Cobegin, Done, If}
use Rattle.bl_graph_nodes.specs.Plain.{Label, Plain, Position, Repeat, Run, Then, Until, When}
use Rattle.bl_graph_nodes.specs.Plain.{While, arm_plain, block_at, block_from, bodies_from, branch_plain, else_at, if_with}
use Rattle.bl_graph_nodes.specs.Plain.{inside, kind_plain, label_at, passed_one, place_of_test, plain_body, plain_stmt, stmt_plain}
use Rattle.bl_machine_transitions.specs.Callees.{callees_in, callees_in_each, callees_of, zero_where}
use Rattle.bl_emit_spec_laws_wellformed.specs.Spelled.{node_fits, run_stands}
use Rattle.bl_emit_spec_laws_wellformed.specs.Nodes.{nodes_fit}
use Rattle.bl_emit_spec_laws_wellformed.proofs.OnChains.Nodes.{plain_branch, plain_arm}
use Rattle.bl_emit_functions_laws_wellformed.proofs.OnSpelled.Statements.{depth_of_arm}

-- numbers and nodes one for one
record Alike (site : TypingContext) (callees : List ℕ) (nodes : List Node) : Type 0 where
  same : length callees ≡ length nodes
  fit : nodes_fit site callees nodes ≡ true

abbrev Fine : TypingContext → Plain → Type 0
Fine site s = Alike site (callees_of s) (nodes_of s)

abbrev FineBlock : TypingContext → Block → Type 0
FineBlock site body = Alike site (callees_in body) (nodes_in body)

nothing : (site : TypingContext) → Alike site [] []
nothing site = record { same = refl; fit = refl }

one_more : (site : TypingContext) (a : ℕ) (n : Node) (callees : List ℕ) (nodes : List Node) → node_fits site a n ≡ true →
    Alike site callees nodes →
    Alike site (a ∷ callees) (n ∷ nodes)
one_more site a n callees nodes own rest = record {
  same = ap suc rest.same;
  fit = and_from (node_fits site a n) (nodes_fit site callees nodes) own rest.fit;
}

append_fit : (site : TypingContext) (xs ys : List ℕ) (ms ns : List Node) → Alike site xs ms → Alike site ys ns → Alike site (xs ++ ys) (ms ++ ns)
append_fit site [] ys [] ns one other = other
append_fit site [] ys (m ∷ ms) ns one other = absurd (let no = one.same in omega (arith, no))
append_fit site (x ∷ xs) ys [] ns one other = absurd (let no = one.same in omega (arith, no))
append_fit site (x ∷ xs) ys (m ∷ ms) ns one other =
    let rest : Alike site xs ms = record {
      same = let is = one.same in omega (arith, is);
      fit = and_second (node_fits site x m) (nodes_fit site xs ms) one.fit;
    } in
    one_more site x m (xs ++ ys) (ms ++ ns) (and_first (node_fits site x m) (nodes_fit site xs ms) one.fit) (append_fit site xs ys ms ns rest other)

where_fit : (site : TypingContext) (test : Bool) (n : Node) → node_fits site 0 n ≡ true → Alike site (zero_where test) (where_so test n)
where_fit site true n own = one_more site 0 n [] [] own (nothing site)
where_fit site false n own = nothing site

abbrev deep_branch : Branch → Depth
deep_branch = fold-Branch Depth Depth Depth Depth stmt_kind_depth arm_depth branch_depth stmt_layer_depth

module _ (site : TypingContext) where
  abbrev S : Stmt → Type 0
  S s = fits site s ≡ true → (depth_of s).exprs ≤ 200 → (at : Position) → Fine site (plain_stmt s at)

  blocks_fine : (body : List Stmt) → Each S body → all_of (map (fits site) body) ≡ true → (of_all (map depth_of body)).exprs ≤ 200 →
      (k : ℕ)
      (at : Position) → FineBlock site (block_from (map plain_stmt body) k at)
  blocks_fine [] each fitted deep k at = nothing site
  blocks_fine (s ∷ body) each fitted deep k at =
      let here : (depth_of s).exprs ≤ 200 = omega (arith, deep) in
      let later : (of_all (map depth_of body)).exprs ≤ 200 = omega (arith, deep) in
      append_fit site (callees_of (plain_stmt s (at ++ k ∷ []))) (callees_in (block_from (map plain_stmt body) (suc k) at))
      (nodes_of (plain_stmt s (at ++ k ∷ [])))
      (nodes_in (block_from (map plain_stmt body) (suc k) at))
      (All-head S s body each (and_first (fits site s) (all_of (map (fits site) body)) fitted) here (at ++ k ∷ []))
      (blocks_fine body (All-tail S s body each) (and_second (fits site s) (all_of (map (fits site) body)) fitted) later (suc k) at)

  test_fine : (e : Expr) → is_truth (type_of site e) ≡ true → expr_depth e ≤ 200 →
      (is_truth (type_of site e) && nat_le (expr_depth e) 200) ≡ true
  test_fine e truth deep = and_from (is_truth (type_of site e)) (nat_le (expr_depth e) 200) truth (at_most_test (expr_depth e) 200 deep)

  -- ---- arms

  abbrev arm_fitted : Arm → Bool
  arm_fitted = fold-Arm Bool Bool Bool Bool (kind_fits site) (arm_fits site) branch_fits stmt_fits

  record FineArm (arm : PlainArm) : Type 0 where
    test : (is_truth (type_of site arm.test) && nat_le (expr_depth arm.test) 200) ≡ true
    body : (at : Position) → FineBlock site (arm.body at)

  abbrev OfArm : Arm → Type 0
  OfArm arm = Each S (out-Arm arm).body

  arm_fine : (arm : Arm) → OfArm arm → arm_fitted arm ≡ true → (depth_of_arm arm).exprs ≤ 200 → FineArm (plain_arm arm)
  arm_fine arm each fitted deep =
      let fits_so = sym (fold_out-Arm Bool Bool Bool Bool (kind_fits site) (arm_fits site) branch_fits stmt_fits arm) ∙ fitted in
      let within : max (expr_depth (out-Arm arm).test) (of_all (map depth_of (out-Arm arm).body)).exprs ≤ 200 =
      subst (λ (depth : Depth). depth.exprs ≤ 200)
      (fold_out-Arm Depth Depth Depth Depth stmt_kind_depth arm_depth branch_depth stmt_layer_depth arm) deep in
      let one : expr_depth (out-Arm arm).test ≤ 200 = omega (arith, within) in
      let other : (of_all (map depth_of (out-Arm arm).body)).exprs ≤ 200 = omega (arith, within) in
      subst FineArm
      (sym (fold_out-Arm (Place → Position → Plain) PlainArm PlainBranch (Position → Plain) kind_plain arm_plain branch_plain stmt_plain arm))
      (record {
        test = test_fine (out-Arm arm).test (and_first (is_truth (type_of site (out-Arm arm).test))
            (all_of (map (fits site) (out-Arm arm).body)) fits_so)
            one;
        body = λ at.
            blocks_fine (out-Arm arm).body each
            (and_second (is_truth (type_of site (out-Arm arm).test)) (all_of (map (fits site) (out-Arm arm).body)) fits_so) other 0 at;
      })

  abbrev FineArms : List PlainArm → Type 0
  FineArms [] = Unit {0}
  FineArms (arm ∷ arms) = FineArm arm × FineArms arms

  arms_fine : (arms : List Arm) → EachArm S arms → all_of (map arm_fitted arms) ≡ true → (of_all (map depth_of_arm arms)).exprs ≤ 200 →
      FineArms (map plain_arm arms)
  arms_fine [] each fitted deep = tt
  arms_fine (arm ∷ arms) each fitted deep =
      let here : (depth_of_arm arm).exprs ≤ 200 = omega (arith, deep) in
      let later : (of_all (map depth_of_arm arms)).exprs ≤ 200 = omega (arith, deep) in (
        arm_fine arm (All-head OfArm arm arms each) (and_first (arm_fitted arm) (all_of (map arm_fitted arms)) fitted) here,
        arms_fine arms (All-tail OfArm arm arms each) (and_second (arm_fitted arm) (all_of (map arm_fitted arms)) fitted) later,
      )

  if_fine : (l : Label) (at : Place) (e : Expr) (body other : Block) → (is_truth (type_of site e) && nat_le (expr_depth e) 200) ≡ true →
      FineBlock site body → FineBlock site other → Fine site (If l at e body other)
  if_fine l at e body other own one two =
      one_more site 0 (TestAt l at e) (callees_in body ++ callees_in other) (nodes_in body ++ nodes_in other) own
      (append_fit site (callees_in body) (callees_in other) (nodes_in body) (nodes_in other) one two)

  single : (s : Plain) → Fine site s → FineBlock site (Then s Done)
  single s fine = append_fit site (callees_of s) [] (nodes_of s) [] fine (nothing site)

  else_fine : (l : Label) (arms : List PlainArm) (other : Position → Block) → FineArms arms →
      ((at : Position) → FineBlock site (other at)) →
      FineBlock site (else_at l arms other)
  else_fine l [] other all fine = fine (inside l l.passed)
  else_fine l (arm ∷ arms) other all fine =
      single (If l (place_of_test arm) arm.test (arm.body (inside l l.passed)) (else_at (passed_one l) arms other))
      (if_fine l (place_of_test arm) arm.test (arm.body (inside l l.passed)) (else_at (passed_one l) arms other) all.0.test
      (all.0.body (inside l l.passed))
      (else_fine (passed_one l) arms other all.1 fine))

  with_fine : (l : Label) (place : Place) (arms : List PlainArm) (other : Position → Block) → is_inhabited arms ≡ true → FineArms arms →
      ((at : Position) → FineBlock site (other at)) → Fine site (if_with l place arms other)
  with_fine l place [] other some all fine = absurd (cc)
  with_fine l place (arm ∷ arms) other some all fine =
      if_fine l place arm.test (arm.body (inside l 0)) (else_at (passed_one l) arms other) all.0.test (all.0.body (inside l 0))
      (else_fine (passed_one l) arms other all.1 fine)

  -- ---- branches

  abbrev branch_fitted : Branch → Bool
  branch_fitted = fold-Branch Bool Bool Bool Bool (kind_fits site) (arm_fits site) branch_fits stmt_fits

  abbrev FineBranch : PlainBranch → Type 0
  FineBranch branch = (at : Position) → FineBlock site (branch.body at)

  abbrev OfBranch : Branch → Type 0
  OfBranch branch = Each S (out-Branch branch).body

  branch_fine : (branch : Branch) → OfBranch branch → branch_fitted branch ≡ true → (deep_branch branch).exprs ≤ 200 →
      FineBranch (plain_branch branch)
  branch_fine branch each fitted deep =
      let fits_so = sym (fold_out-Branch Bool Bool Bool Bool (kind_fits site) (arm_fits site) branch_fits stmt_fits branch) ∙ fitted in
      let within : max 0 (of_all (map depth_of (out-Branch branch).body)).exprs ≤ 200 =
      subst (λ (depth : Depth). depth.exprs ≤ 200)
      (fold_out-Branch Depth Depth Depth Depth stmt_kind_depth arm_depth branch_depth stmt_layer_depth branch) deep in
      let other : (of_all (map depth_of (out-Branch branch).body)).exprs ≤ 200 = omega (arith, within) in
      subst FineBranch
      (sym (fold_out-Branch (Place → Position → Plain) PlainArm PlainBranch
      (Position → Plain) kind_plain arm_plain branch_plain stmt_plain branch))
      (λ at. blocks_fine (out-Branch branch).body each fits_so other 0 at)

  abbrev FineBranches : List PlainBranch → Type 0
  FineBranches [] = Unit {0}
  FineBranches (branch ∷ branches) = FineBranch branch × FineBranches branches

  branches_fine : (branches : List Branch) → EachBranch S branches → all_of (map branch_fitted branches) ≡ true →
      (of_all (map deep_branch branches)).exprs ≤ 200 → FineBranches (map plain_branch branches)
  branches_fine [] each fitted deep = tt
  branches_fine (branch ∷ branches) each fitted deep =
      let here : (deep_branch branch).exprs ≤ 200 = omega (arith, deep) in
      let later : (of_all (map deep_branch branches)).exprs ≤ 200 = omega (arith, deep) in (
        branch_fine branch (All-head OfBranch branch branches each)
            (and_first (branch_fitted branch) (all_of (map branch_fitted branches)) fitted) here,
        branches_fine branches (All-tail OfBranch branch branches each)
            (and_second (branch_fitted branch) (all_of (map branch_fitted branches)) fitted) later,
      )

  bodies_fine : (branches : List PlainBranch) (k : ℕ) (l : Label) → FineBranches branches →
      Alike site (callees_in_each (bodies_from branches k l)) (nodes_in_each (bodies_from branches k l))
  bodies_fine [] k l all = nothing site
  bodies_fine (branch ∷ branches) k l all =
      append_fit site (callees_in (branch.body (inside l k))) (callees_in_each (bodies_from branches (suc k) l)) (nodes_in (branch.body (inside l k)))
      (nodes_in_each (bodies_from branches (suc k) l)) (all.0 (inside l k)) (bodies_fine branches (suc k) l all.1)

  -- ---- all statements

  act_fine : (l : Label) (s : Stmt) → fits site s ≡ true → (depth_of s).exprs ≤ 200 → Fine site (Act l s)
  act_fine l s fitted deep =
      one_more site 0 (ActAt l s) [] []
      (and_from (fits site s) (nat_le (depth_of s).exprs 200) fitted (at_most_test (depth_of s).exprs 200 deep)) (nothing site)

  as_fine : (s p : Plain) → s ≡ p → Fine site p → Fine site s
  as_fine s p is fine = subst (Fine site) (sym is) fine

  some_there : {A B C : Type 0} (f : A → B) (g : A → C) (xs : List A) → is_inhabited (map f xs) ≡ true → is_inhabited (map g xs) ≡ true
  some_there f g [] h = absurd (cc)
  some_there f g (x ∷ xs) h = refl

  module _ (place : Place) where
    declare_plain : (k : ℕ) (initial : Option Expr) (at : Position) → plain_stmt (stmt place (StmtKind-F.Declare k initial)) at
        ≡ Act (label_at at) (stmt place (StmtKind-F.Declare k initial))
    declare_plain k initial at = rw (fold-roll-Stmt, fold-roll-StmtKind) refl

    assign_plain : (path : Path) (e : Expr) (at : Position) → plain_stmt (stmt place (StmtKind-F.Assign path e)) at
        ≡ Act (label_at at) (stmt place (StmtKind-F.Assign path e))
    assign_plain path e at = rw (fold-roll-Stmt, fold-roll-StmtKind) refl

    call_plain : (f : ℕ) (inputs : List Expr) (outputs : List Path) (at : Position) → plain_stmt (stmt place (StmtKind-F.Call f inputs outputs)) at
        ≡ Act (label_at at) (stmt place (StmtKind-F.Call f inputs outputs))
    call_plain f inputs outputs at = rw (fold-roll-Stmt, fold-roll-StmtKind) refl

    return_plain : (e : Option Expr) (at : Position) →
        plain_stmt (stmt place (StmtKind-F.Return e)) at ≡ Act (label_at at) (stmt place (StmtKind-F.Return e))
    return_plain e at = rw (fold-roll-Stmt, fold-roll-StmtKind) refl

    await_plain : (e : Expr) (at : Position) → plain_stmt (stmt place (StmtKind-F.Await e)) at ≡ Await (label_at at) place e
    await_plain e at = rw (fold-roll-Stmt, fold-roll-StmtKind) refl

    run_plain : (target : Option Path) (a : ℕ) (inputs : List Expr) (outputs : List Path) (at : Position) →
        plain_stmt (stmt place (StmtKind-F.Run target a inputs outputs)) at ≡ Run (label_at at) place target a inputs outputs
    run_plain target a inputs outputs at = rw (fold-roll-Stmt, fold-roll-StmtKind) refl

    if_plain : (arms : List Arm) (other : List Stmt) (at : Position) → plain_stmt (stmt place (StmtKind-F.If arms other)) at
        ≡ if_with (label_at at) place (map plain_arm arms) (block_at (map plain_stmt other))
    if_plain arms other at = rw (fold-roll-Stmt, fold-roll-StmtKind) refl

    cobegin_plain : (branches : List Branch) (at : Position) → plain_stmt (stmt place (StmtKind-F.Cobegin branches)) at
        ≡ Cobegin (label_at at) place (bodies_from (map plain_branch branches) 0 (label_at at))
    cobegin_plain branches at = rw (fold-roll-Stmt, fold-roll-StmtKind) refl

    when_plain : (guard : Guard) (e : Expr) (body : List Stmt) (at : Position) → plain_stmt (stmt place (StmtKind-F.When guard e body)) at
        ≡ When (label_at at) place guard e (block_at (map plain_stmt body) (inside (label_at at) 0))
    when_plain guard e body at = rw (fold-roll-Stmt, fold-roll-StmtKind) refl

    repeat_plain : (body : List Stmt) (at : Position) → plain_stmt (stmt place (StmtKind-F.Repeat body)) at
        ≡ Repeat (label_at at) place (block_at (map plain_stmt body) (inside (label_at at) 0))
    repeat_plain body at = rw (fold-roll-Stmt, fold-roll-StmtKind) refl

    until_plain : (body : List Stmt) (e : Expr) (at : Position) → plain_stmt (stmt place (StmtKind-F.Until body e)) at
        ≡ Until (label_at at) place (block_at (map plain_stmt body) (inside (label_at at) 0)) e
    until_plain body e at = rw (fold-roll-Stmt, fold-roll-StmtKind) refl

    while_plain : (e : Expr) (body : List Stmt) (at : Position) → plain_stmt (stmt place (StmtKind-F.While e body)) at
        ≡ While (label_at at) place e (block_at (map plain_stmt body) (inside (label_at at) 0))
    while_plain e body at = rw (fold-roll-Stmt, fold-roll-StmtKind) refl

    await_case : (e : Expr) → S (stmt place (StmtKind-F.Await e))
    await_case e fitted deep at =
        let truth = and_second (is_activity site.kind) (is_truth (type_of site e)) (rw (fold-roll-Stmt, fold-roll-StmtKind) at fitted) in
        let within : expr_depth e ≤ 200 = rw (fold-roll-Stmt, fold-roll-StmtKind) at deep in
        as_fine _ _ (await_plain e at)
        (one_more site 0 (PauseAt (label_at at) place) (0 ∷ []) (TestAt (label_at at) place e ∷ []) refl
        (one_more site 0 (TestAt (label_at at) place e) [] [] (test_fine e truth within) (nothing site)))

    run_case : (target : Option Path) (a : ℕ) (inputs : List Expr) (outputs : List Path) → S (stmt place (StmtKind-F.Run target a inputs outputs))
    run_case target a inputs outputs fitted deep at =
        let own : run_fits site target inputs outputs (slice_get site.earlier a) ≡ true = rw (fold-roll-Stmt, fold-roll-StmtKind) at fitted in
        let within : max (target_depth target) (arguments_depth inputs outputs) ≤ 200 = rw (fold-roll-Stmt, fold-roll-StmtKind) at deep in
        let stand : run_stands site a (arguments_of target inputs outputs) ≡ true =
        and_from (run_fits site target inputs outputs (slice_get site.earlier a))
        (nat_le (max (target_depth target) (arguments_depth inputs outputs)) 200) own
        (at_most_test (max (target_depth target) (arguments_depth inputs outputs)) 200 within) in
        as_fine _ _ (run_plain target a inputs outputs at)
        (one_more site a (EnterAt (label_at at) place (arguments_of target inputs outputs)) (a ∷ [])
        (ResumeAt (label_at at) place (arguments_of target inputs outputs) ∷ []) stand
        (one_more site a (ResumeAt (label_at at) place (arguments_of target inputs outputs)) [] [] stand (nothing site)))

    branching_case : (arms : List Arm) (other : List Stmt) → EachArm S arms → Each S other → S (stmt place (StmtKind-F.If arms other))
    branching_case arms other each others fitted deep at =
        let parts = rw (fold-roll-Stmt, fold-roll-StmtKind) at fitted in
        let some = and_first (is_inhabited (map arm_fitted arms)) (all_of (map arm_fitted arms) && all_of (map (fits site) other)) parts in
        let more = and_second (is_inhabited (map arm_fitted arms)) (all_of (map arm_fitted arms) && all_of (map (fits site) other)) parts in
        let within = rw (fold-roll-Stmt, fold-roll-StmtKind) at deep in
        let in_arms : (of_all (map depth_of_arm arms)).exprs ≤ 200 = omega (arith, within) in
        let in_other : (of_all (map depth_of other)).exprs ≤ 200 = omega (arith, within) in
        as_fine _ _ (if_plain arms other at)
        (with_fine (label_at at) place (map plain_arm arms) (block_at (map plain_stmt other)) (some_there arm_fitted plain_arm arms some)
        (arms_fine arms each (and_first (all_of (map arm_fitted arms)) (all_of (map (fits site) other)) more) in_arms)
        (λ at. blocks_fine other others (and_second (all_of (map arm_fitted arms)) (all_of (map (fits site) other)) more) in_other 0 at))

    cobegin_case : (branches : List Branch) → EachBranch S branches → S (stmt place (StmtKind-F.Cobegin branches))
    cobegin_case branches each fitted deep at =
        let parts = rw (fold-roll-Stmt, fold-roll-StmtKind) at fitted in
        let all = and_second (is_inhabited (map branch_fitted branches)) (all_of (map branch_fitted branches))
        (and_second (is_activity site.kind) (is_inhabited (map branch_fitted branches) && all_of (map branch_fitted branches)) parts) in
        let within : (of_all (map deep_branch branches)).exprs ≤ 200 = rw (fold-roll-Stmt, fold-roll-StmtKind) at deep in
        let l : Label = label_at at in
        let bodies : Bodies = bodies_from (map plain_branch branches) 0 l in
        as_fine _ _ (cobegin_plain branches at)
        (one_more site 0 (ForkAt l place) (zero_where (is_instant (Cobegin l place bodies)) ++ 0 ∷ callees_in_each bodies)
        (where_so (is_instant (Cobegin l place bodies)) (SurfaceJoinAt l place) ++ DepthJoinAt l place ∷ nodes_in_each bodies) refl
        (append_fit site (zero_where (is_instant (Cobegin l place bodies))) (0 ∷ callees_in_each bodies)
        (where_so (is_instant (Cobegin l place bodies)) (SurfaceJoinAt l place)) (DepthJoinAt l place ∷ nodes_in_each bodies)
        (where_fit site (is_instant (Cobegin l place bodies)) (SurfaceJoinAt l place) refl)
        (one_more site 0 (DepthJoinAt l place) (callees_in_each bodies) (nodes_in_each bodies) refl
        (bodies_fine (map plain_branch branches) 0 l (branches_fine branches each all within)))))

    guarded_case : (guard : Guard) (e : Expr) (body : List Stmt) → Each S body → S (stmt place (StmtKind-F.When guard e body))
    guarded_case guard e body each fitted deep at =
        let parts = and_second (is_activity site.kind) (is_truth (type_of site e) && all_of (map (fits site) body))
        (rw (fold-roll-Stmt, fold-roll-StmtKind) at fitted) in
        let within : max (expr_depth e) (of_all (map depth_of body)).exprs ≤ 200 = rw (fold-roll-Stmt, fold-roll-StmtKind) at deep in
        let one : expr_depth e ≤ 200 = omega (arith, within) in
        let other : (of_all (map depth_of body)).exprs ≤ 200 = omega (arith, within) in
        let l : Label = label_at at in
        let inner : Block = block_at (map plain_stmt body) (inside l 0) in
        as_fine _ _ (when_plain guard e body at)
        (one_more site 0 (StartAt l place) (zero_where (are_instant inner) ++ 0 ∷ 0 ∷ callees_in inner)
        (where_so (are_instant inner) (SurfaceEndAt l place) ++ CheckAt l place e ∷ DepthEndAt l place ∷ nodes_in inner) refl
        (append_fit site (zero_where (are_instant inner)) (0 ∷ 0 ∷ callees_in inner) (where_so (are_instant inner) (SurfaceEndAt l place))
        (CheckAt l place e ∷ DepthEndAt l place ∷ nodes_in inner) (where_fit site (are_instant inner) (SurfaceEndAt l place) refl)
        (one_more site 0 (CheckAt l place e) (0 ∷ callees_in inner) (DepthEndAt l place ∷ nodes_in inner)
        (test_fine e (and_first (is_truth (type_of site e)) (all_of (map (fits site) body)) parts) one)
        (one_more site 0 (DepthEndAt l place) (callees_in inner) (nodes_in inner) refl
        (blocks_fine body each (and_second (is_truth (type_of site e)) (all_of (map (fits site) body)) parts) other 0 (inside l 0))))))

    repeat_case : (body : List Stmt) → Each S body → S (stmt place (StmtKind-F.Repeat body))
    repeat_case body each fitted deep at =
        let within : max 0 (of_all (map depth_of body)).exprs ≤ 200 = rw (fold-roll-Stmt, fold-roll-StmtKind) at deep in
        let other : (of_all (map depth_of body)).exprs ≤ 200 = omega (arith, within) in
        let l : Label = label_at at in
        let inner : Block = block_at (map plain_stmt body) (inside l 0) in
        as_fine _ _ (repeat_plain body at)
        (one_more site 0 (HeadAt l place) (callees_in inner) (nodes_in inner) refl
        (blocks_fine body each (rw (fold-roll-Stmt, fold-roll-StmtKind) at fitted) other 0 (inside l 0)))

    until_case : (body : List Stmt) (e : Expr) → Each S body → S (stmt place (StmtKind-F.Until body e))
    until_case body e each fitted deep at =
        let parts = rw (fold-roll-Stmt, fold-roll-StmtKind) at fitted in
        let within : max (expr_depth e) (of_all (map depth_of body)).exprs ≤ 200 = rw (fold-roll-Stmt, fold-roll-StmtKind) at deep in
        let one : expr_depth e ≤ 200 = omega (arith, within) in
        let other : (of_all (map depth_of body)).exprs ≤ 200 = omega (arith, within) in
        let l : Label = label_at at in
        let inner : Block = block_at (map plain_stmt body) (inside l 0) in
        as_fine _ _ (until_plain body e at)
        (one_more site 0 (HeadAt l place) (0 ∷ callees_in inner) (TestAt l place e ∷ nodes_in inner) refl
        (one_more site 0 (TestAt l place e) (callees_in inner) (nodes_in inner)
        (test_fine e (and_second (all_of (map (fits site) body)) (is_truth (type_of site e)) parts) one)
        (blocks_fine body each (and_first (all_of (map (fits site) body)) (is_truth (type_of site e)) parts) other 0 (inside l 0))))

    while_case : (e : Expr) (body : List Stmt) → Each S body → S (stmt place (StmtKind-F.While e body))
    while_case e body each fitted deep at =
        let parts = rw (fold-roll-Stmt, fold-roll-StmtKind) at fitted in
        let within : max (expr_depth e) (of_all (map depth_of body)).exprs ≤ 200 = rw (fold-roll-Stmt, fold-roll-StmtKind) at deep in
        let one : expr_depth e ≤ 200 = omega (arith, within) in
        let other : (of_all (map depth_of body)).exprs ≤ 200 = omega (arith, within) in
        let l : Label = label_at at in
        let inner : Block = block_at (map plain_stmt body) (inside l 0) in
        as_fine _ _ (while_plain e body at)
        (one_more site 0 (TestAt l place e) (callees_in inner) (nodes_in inner)
        (test_fine e (and_first (is_truth (type_of site e)) (all_of (map (fits site) body)) parts) one)
        (blocks_fine body each (and_second (is_truth (type_of site e)) (all_of (map (fits site) body)) parts) other 0 (inside l 0)))

  cases : Cases S
  cases = record {
    declare = λ place k initial fitted deep at. as_fine _ _ (declare_plain place k initial at)
        (act_fine (label_at at) (stmt place (StmtKind-F.Declare k initial)) fitted deep);
    assign = λ place path e fitted deep at. as_fine _ _ (assign_plain place path e at)
        (act_fine (label_at at) (stmt place (StmtKind-F.Assign path e)) fitted deep);
    call = λ place f inputs outputs fitted deep at. as_fine _ _ (call_plain place f inputs outputs at)
        (act_fine (label_at at) (stmt place (StmtKind-F.Call f inputs outputs)) fitted deep);
    await = await_case;
    run = run_case;
    branching = branching_case;
    cobegin = cobegin_case;
    guarded = guarded_case;
    repeat = repeat_case;
    until = until_case;
    while = while_case;
    returns = λ place e fitted deep at. as_fine _ _ (return_plain place e at)
        (act_fine (label_at at) (stmt place (StmtKind-F.Return e)) fitted deep);
  }

  -- what is done at the nodes of a body fits
  pub body-fine : (body : List Stmt) → all_of (map (fits site) body) ≡ true → (of_all (map depth_of body)).exprs ≤ 200 →
      nodes_fit site (callees_in (plain_body body)) (nodes_in (plain_body body)) ≡ true
  body-fine body fitted deep = (blocks_fine body (λ k d within. induct S cases _) fitted deep 0 []).fit
