-- What is called at the nodes of a body is called or run by the body.
use Rattle.std.proofs.Common.{◌≡◌, ℕ, suc, Bool, true, false, List, [], ◌∷◌, ◌++◌, map, Option, refl, sym, subst}
use Rattle.std.proofs.lemmas.List.Elements.{All-head, All-tail}
use Rattle.bl_tree.specs.declared.place.Place.{Place}
use Rattle.bl_tree.specs.declared.tree.Arm.{Arm, fold-Arm, fold_out-Arm, out-Arm}
use Rattle.bl_tree.specs.declared.tree.Branch.{Branch, fold-Branch, fold_out-Branch, out-Branch}
use Rattle.bl_tree.specs.declared.tree.Expr.{Expr, fold-roll-Expr}
use Rattle.bl_tree.specs.declared.tree.ExprKind.{fold-roll-ExprKind}
use Rattle.bl_tree.specs.declared.tree.Guard.{Guard}
use Rattle.bl_tree.specs.declared.tree.Path.{Path}
use Rattle.bl_tree.specs.declared.tree.Stmt.{Stmt, fold-roll-Stmt}
use Rattle.bl_tree.specs.declared.tree.StmtKind.{fold-roll-StmtKind}
use Rattle.bl_tree.specs.declared.tree.StmtKind.TheOpen.{StmtKind-F}
use Rattle.bl_tree.specs.declared.tree.Unit.{Unit as UnitDef}
use Rattle.bl_tree.specs.Reduce.{joined}
use Rattle.bl_tree.proofs.StmtInduction.{Cases, Each, EachArm, EachBranch, induct, stmt}
use Rattle.bl_limits_measures.specs.Calls.{arm_calls, argument_calls, branch_calls, calls_in as named_in, calls_in_arm, calls_in_branch, calls_in_expr}
use Rattle.bl_limits_measures.specs.Calls.{calls_of, stmt_kind_calls, stmt_layer_calls, target_calls}
use Rattle.bl_limits_measures.specs.Runs.{activities_run}
use Rattle.bl_limits_measures.proofs.RunLemmas.{activities_are, activities_in as runs_in, activities_in_arm as runs_in_arm}
use Rattle.bl_limits_measures.proofs.RunLemmas.{activities_in_branch as runs_in_branch, arm_activities as arm_runs, branch_activities as branch_runs}
use Rattle.bl_limits_measures.proofs.RunLemmas.{kind_activities as kind_runs, stmt_activities as stmt_layer_runs}
use Rattle.bl_graph_nodes.specs.Nodes.{ActAt, CheckAt, DepthEndAt, DepthJoinAt, EnterAt, Node, ResumeAt, SurfaceEndAt, SurfaceJoinAt, TestAt}
use Rattle.bl_graph_nodes.specs.Nodes.{are_instant, is_instant, nodes_in, nodes_in_each, nodes_of, where_so}
use Rattle.bl_graph_nodes.specs.Plain.{Act, Arm as PlainArm, Await, Block, Bodies, Branch as PlainBranch, Cobegin, Done, If}
use Rattle.bl_graph_nodes.specs.Plain.{Label, Plain, Position, Repeat, Run, Then, Until, When}
use Rattle.bl_graph_nodes.specs.Plain.{While, arm_plain, block_at, block_from, bodies_from, branch_plain, else_at, if_with}
use Rattle.bl_graph_nodes.specs.Plain.{inside, kind_plain, label_at, never, passed_one, place_of_test, plain_body, plain_stmt, stmt_plain}
use Rattle.bl_machine_transitions.specs.Callees.{callees_in, callees_in_each, callees_of, zero_where}
use Rattle.bl_emit_functions_laws_wellformed.proofs.OnFiles.Under.{Under, back-under, cons-under, front-under, head-under, none-under}

-- the functions that are called at a node, and the activity that a `run` calls
abbrev pub node_calls : ℕ → Node → List ℕ
node_calls c (ActAt l s) = named_in s
node_calls c (TestAt l at e) = calls_in_expr e
node_calls c (CheckAt l at e) = calls_in_expr e
node_calls c (EnterAt l at arguments) = c ∷ (target_calls arguments.target ++ argument_calls arguments.inputs arguments.outputs)
node_calls c (ResumeAt l at arguments) = c ∷ (target_calls arguments.target ++ argument_calls arguments.inputs arguments.outputs)
node_calls c n = []

abbrev pub plain_arm : Arm → PlainArm
plain_arm = fold-Arm (Place → Position → Plain) PlainArm PlainBranch (Position → Plain) kind_plain arm_plain branch_plain stmt_plain

abbrev pub plain_branch : Branch → PlainBranch
plain_branch = fold-Branch (Place → Position → Plain) PlainArm PlainBranch (Position → Plain) kind_plain arm_plain branch_plain stmt_plain

never_calls : (place : Place) → calls_in_expr (never place) ≡ []
never_calls place = rw (fold-roll-Expr, fold-roll-ExprKind) refl

module _ (by : ℕ → ℕ) (n : ℕ) where
  -- none of what is called at these nodes, each with the activity that it calls, has a greater number
  abbrev pub AllUnder : List ℕ → List Node → Type 0
  AllUnder [] [] = Unit {0}
  AllUnder (c ∷ cs) (m ∷ ms) = Under by n (node_calls c m) × AllUnder cs ms
  AllUnder _ _ = ⊥

  pub append_all : (cs ds : List ℕ) (ms ns : List Node) → AllUnder cs ms → AllUnder ds ns → AllUnder (cs ++ ds) (ms ++ ns)
  append_all [] ds [] ns one other = other
  append_all (c ∷ cs) ds (m ∷ ms) ns one other = (one.0, append_all cs ds ms ns one.1 other)
  append_all [] ds (m ∷ ms) ns one other = absurd one
  append_all (c ∷ cs) ds [] ns one other = absurd one

  where_all : (b : Bool) (m : Node) → Under by n (node_calls 0 m) → AllUnder (zero_where b) (where_so b m)
  where_all true m one = (one, tt)
  where_all false m one = tt

  abbrev PlainUnder : Plain → Type 0
  PlainUnder s = AllUnder (callees_of s) (nodes_of s)

  abbrev BlockUnder : Block → Type 0
  BlockUnder body = AllUnder (callees_in body) (nodes_in body)

  abbrev none : Under by n []
  none = none-under by n

  abbrev S : Stmt → Type 0
  S s = Under by n (named_in s) → Under by n (runs_in s) → (at : Position) → PlainUnder (plain_stmt s at)

  blocks_under : (body : List Stmt) → Each S body → Under by n (joined (map named_in body)) → Under by n (joined (map runs_in body)) → (k : ℕ)
      (at : Position) → BlockUnder (block_from (map plain_stmt body) k at)
  blocks_under [] each calls runs k at = tt
  blocks_under (s ∷ body) each calls runs k at =
      append_all (callees_of (plain_stmt s (at ++ k ∷ []))) (callees_in (block_from (map plain_stmt body) (suc k) at)) (nodes_of (plain_stmt s (at ++ k ∷ [])))
      (nodes_in (block_from (map plain_stmt body) (suc k) at))
      (All-head S s body each (front-under by n (named_in s) (joined (map named_in body)) calls)
      (front-under by n (runs_in s) (joined (map runs_in body)) runs) (at ++ k ∷ []))
      (blocks_under body (All-tail S s body each) (back-under by n (named_in s) (joined (map named_in body)) calls)
      (back-under by n (runs_in s) (joined (map runs_in body)) runs) (suc k) at)

  -- ---- arms

  record UnderArm (arm : PlainArm) : Type 0 where
    test : Under by n (calls_in_expr arm.test)
    body : (at : Position) → BlockUnder (arm.body at)

  abbrev OfArm : Arm → Type 0
  OfArm arm = Each S (out-Arm arm).body

  arm_under : (arm : Arm) → OfArm arm → Under by n (calls_in_arm arm) → Under by n (runs_in_arm arm) → UnderArm (plain_arm arm)
  arm_under arm each calls runs =
      let all : Under by n (calls_in_expr (out-Arm arm).test ++ joined (map named_in (out-Arm arm).body)) =
      subst (λ names. Under by n names)
      (fold_out-Arm (List ℕ) (List ℕ) (List ℕ) (List ℕ) stmt_kind_calls arm_calls branch_calls stmt_layer_calls arm) calls in
      let run : Under by n (joined (map runs_in (out-Arm arm).body)) =
      subst (λ names. Under by n names) (fold_out-Arm (List ℕ) (List ℕ) (List ℕ) (List ℕ) kind_runs arm_runs branch_runs stmt_layer_runs arm) runs in
      subst UnderArm
      (sym (fold_out-Arm (Place → Position → Plain) PlainArm PlainBranch (Position → Plain) kind_plain arm_plain branch_plain stmt_plain arm))
      (record {
        test = front-under by n (calls_in_expr (out-Arm arm).test) (joined (map named_in (out-Arm arm).body)) all;
        body = λ at.
            blocks_under (out-Arm arm).body each
            (back-under by n (calls_in_expr (out-Arm arm).test) (joined (map named_in (out-Arm arm).body)) all) run 0 at;
      })

  abbrev UnderArms : List PlainArm → Type 0
  UnderArms [] = Unit {0}
  UnderArms (arm ∷ arms) = UnderArm arm × UnderArms arms

  arms_under : (arms : List Arm) → EachArm S arms → Under by n (joined (map calls_in_arm arms)) → Under by n (joined (map runs_in_arm arms)) →
      UnderArms (map plain_arm arms)
  arms_under [] each calls runs = tt
  arms_under (arm ∷ arms) each calls runs = (
    arm_under arm (All-head OfArm arm arms each) (front-under by n (calls_in_arm arm) (joined (map calls_in_arm arms)) calls)
        (front-under by n (runs_in_arm arm) (joined (map runs_in_arm arms)) runs),
    arms_under arms (All-tail OfArm arm arms each) (back-under by n (calls_in_arm arm) (joined (map calls_in_arm arms)) calls)
        (back-under by n (runs_in_arm arm) (joined (map runs_in_arm arms)) runs),
  )

  if_under : (l : Label) (at : Place) (e : Expr) (body other : Block) → Under by n (calls_in_expr e) → BlockUnder body → BlockUnder other →
      PlainUnder (If l at e body other)
  if_under l at e body other own one two = (own, append_all (callees_in body) (callees_in other) (nodes_in body) (nodes_in other) one two)

  single : (s : Plain) → PlainUnder s → BlockUnder (Then s Done)
  single s all = append_all (callees_of s) [] (nodes_of s) [] all tt

  else_under : (l : Label) (arms : List PlainArm) (other : Position → Block) → UnderArms arms → ((at : Position) → BlockUnder (other at)) →
      BlockUnder (else_at l arms other)
  else_under l [] other all rest = rest (inside l l.passed)
  else_under l (arm ∷ arms) other all rest =
      single (If l (place_of_test arm) arm.test (arm.body (inside l l.passed)) (else_at (passed_one l) arms other))
      (if_under l (place_of_test arm) arm.test (arm.body (inside l l.passed)) (else_at (passed_one l) arms other) all.0.test
      (all.0.body (inside l l.passed)) (else_under (passed_one l) arms other all.1 rest))

  with_under : (l : Label) (place : Place) (arms : List PlainArm) (other : Position → Block) → UnderArms arms →
      ((at : Position) → BlockUnder (other at)) → PlainUnder (if_with l place arms other)
  with_under l place [] other all rest =
      if_under l place (never place) (other (inside l 0)) (other (inside l 1)) (subst (λ names. Under by n names) (sym (never_calls place)) none)
      (rest (inside l 0)) (rest (inside l 1))
  with_under l place (arm ∷ arms) other all rest =
      if_under l place arm.test (arm.body (inside l 0)) (else_at (passed_one l) arms other) all.0.test (all.0.body (inside l 0))
      (else_under (passed_one l) arms other all.1 rest)

  -- ---- branches

  abbrev UnderBranch : PlainBranch → Type 0
  UnderBranch branch = (at : Position) → BlockUnder (branch.body at)

  abbrev OfBranch : Branch → Type 0
  OfBranch branch = Each S (out-Branch branch).body

  branch_under : (branch : Branch) → OfBranch branch → Under by n (calls_in_branch branch) → Under by n (runs_in_branch branch) →
      UnderBranch (plain_branch branch)
  branch_under branch each calls runs =
      let all : Under by n (joined (map named_in (out-Branch branch).body)) =
      subst (λ names. Under by n names)
      (fold_out-Branch (List ℕ) (List ℕ) (List ℕ) (List ℕ) stmt_kind_calls arm_calls branch_calls stmt_layer_calls branch) calls in
      let run : Under by n (joined (map runs_in (out-Branch branch).body)) =
      subst (λ names. Under by n names)
      (fold_out-Branch (List ℕ) (List ℕ) (List ℕ) (List ℕ) kind_runs arm_runs branch_runs stmt_layer_runs branch) runs in
      subst UnderBranch
      (sym (fold_out-Branch (Place → Position → Plain) PlainArm PlainBranch
      (Position → Plain) kind_plain arm_plain branch_plain stmt_plain branch))
      (λ at. blocks_under (out-Branch branch).body each all run 0 at)

  abbrev UnderBranches : List PlainBranch → Type 0
  UnderBranches [] = Unit {0}
  UnderBranches (branch ∷ branches) = UnderBranch branch × UnderBranches branches

  branches_under : (branches : List Branch) → EachBranch S branches → Under by n (joined (map calls_in_branch branches)) →
      Under by n (joined (map runs_in_branch branches)) → UnderBranches (map plain_branch branches)
  branches_under [] each calls runs = tt
  branches_under (branch ∷ branches) each calls runs = (
    branch_under branch (All-head OfBranch branch branches each)
        (front-under by n (calls_in_branch branch) (joined (map calls_in_branch branches)) calls)
        (front-under by n (runs_in_branch branch) (joined (map runs_in_branch branches)) runs),
    branches_under branches (All-tail OfBranch branch branches each)
        (back-under by n (calls_in_branch branch) (joined (map calls_in_branch branches)) calls)
        (back-under by n (runs_in_branch branch) (joined (map runs_in_branch branches)) runs),
  )

  bodies_under : (branches : List PlainBranch) (k : ℕ) (l : Label) → UnderBranches branches →
      AllUnder (callees_in_each (bodies_from branches k l)) (nodes_in_each (bodies_from branches k l))
  bodies_under [] k l all = tt
  bodies_under (branch ∷ branches) k l all =
      append_all (callees_in (branch.body (inside l k))) (callees_in_each (bodies_from branches (suc k) l)) (nodes_in (branch.body (inside l k)))
      (nodes_in_each (bodies_from branches (suc k) l)) (all.0 (inside l k)) (bodies_under branches (suc k) l all.1)

  -- ---- all statements

  as_under : (s p : Plain) → s ≡ p → PlainUnder p → PlainUnder s
  as_under s p is all = subst PlainUnder (sym is) all

  module _ (place : Place) where
    declare_plain : (k : ℕ) (initial : Option Expr) (at : Position) → plain_stmt (stmt place (StmtKind-F.Declare k initial)) at
        ≡ Act (label_at at) (stmt place (StmtKind-F.Declare k initial))
    declare_plain k initial at = rw (fold-roll-Stmt, fold-roll-StmtKind) refl

    assign_plain : (path : Path) (e : Expr) (at : Position) → plain_stmt (stmt place (StmtKind-F.Assign path e)) at
        ≡ Act (label_at at) (stmt place (StmtKind-F.Assign path e))
    assign_plain path e at = rw (fold-roll-Stmt, fold-roll-StmtKind) refl

    call_plain : (f : ℕ) (inputs : List Expr) (outputs : List Path) (at : Position) → plain_stmt (stmt place (StmtKind-F.Call f inputs outputs)) at
        ≡ Act (label_at at) (stmt place (StmtKind-F.Call f inputs outputs))
    call_plain f inputs outputs at = rw (fold-roll-Stmt, fold-roll-StmtKind) refl

    return_plain : (e : Option Expr) (at : Position) →
        plain_stmt (stmt place (StmtKind-F.Return e)) at ≡ Act (label_at at) (stmt place (StmtKind-F.Return e))
    return_plain e at = rw (fold-roll-Stmt, fold-roll-StmtKind) refl

    await_plain : (e : Expr) (at : Position) → plain_stmt (stmt place (StmtKind-F.Await e)) at ≡ Await (label_at at) place e
    await_plain e at = rw (fold-roll-Stmt, fold-roll-StmtKind) refl

    run_plain : (target : Option Path) (a : ℕ) (inputs : List Expr) (outputs : List Path) (at : Position) →
        plain_stmt (stmt place (StmtKind-F.Run target a inputs outputs)) at ≡ Run (label_at at) place target a inputs outputs
    run_plain target a inputs outputs at = rw (fold-roll-Stmt, fold-roll-StmtKind) refl

    if_plain : (arms : List Arm) (other : List Stmt) (at : Position) → plain_stmt (stmt place (StmtKind-F.If arms other)) at
        ≡ if_with (label_at at) place (map plain_arm arms) (block_at (map plain_stmt other))
    if_plain arms other at = rw (fold-roll-Stmt, fold-roll-StmtKind) refl

    cobegin_plain : (branches : List Branch) (at : Position) → plain_stmt (stmt place (StmtKind-F.Cobegin branches)) at
        ≡ Cobegin (label_at at) place (bodies_from (map plain_branch branches) 0 (label_at at))
    cobegin_plain branches at = rw (fold-roll-Stmt, fold-roll-StmtKind) refl

    when_plain : (guard : Guard) (e : Expr) (body : List Stmt) (at : Position) → plain_stmt (stmt place (StmtKind-F.When guard e body)) at
        ≡ When (label_at at) place guard e (block_at (map plain_stmt body) (inside (label_at at) 0))
    when_plain guard e body at = rw (fold-roll-Stmt, fold-roll-StmtKind) refl

    repeat_plain : (body : List Stmt) (at : Position) → plain_stmt (stmt place (StmtKind-F.Repeat body)) at
        ≡ Repeat (label_at at) place (block_at (map plain_stmt body) (inside (label_at at) 0))
    repeat_plain body at = rw (fold-roll-Stmt, fold-roll-StmtKind) refl

    until_plain : (body : List Stmt) (e : Expr) (at : Position) → plain_stmt (stmt place (StmtKind-F.Until body e)) at
        ≡ Until (label_at at) place (block_at (map plain_stmt body) (inside (label_at at) 0)) e
    until_plain body e at = rw (fold-roll-Stmt, fold-roll-StmtKind) refl

    while_plain : (e : Expr) (body : List Stmt) (at : Position) → plain_stmt (stmt place (StmtKind-F.While e body)) at
        ≡ While (label_at at) place e (block_at (map plain_stmt body) (inside (label_at at) 0))
    while_plain e body at = rw (fold-roll-Stmt, fold-roll-StmtKind) refl

    branching_case : (arms : List Arm) (other : List Stmt) → EachArm S arms → Each S other → S (stmt place (StmtKind-F.If arms other))
    branching_case arms other each others calls runs at =
        let called : Under by n (joined (map calls_in_arm arms) ++ joined (map named_in other)) =
        rw (fold-roll-Stmt, fold-roll-StmtKind) at calls in
        let run : Under by n (joined (map runs_in_arm arms) ++ joined (map runs_in other)) = rw (fold-roll-Stmt, fold-roll-StmtKind) at runs in
        as_under _ _ (if_plain arms other at)
        (with_under (label_at at) place (map plain_arm arms) (block_at (map plain_stmt other))
        (arms_under arms each (front-under by n (joined (map calls_in_arm arms)) (joined (map named_in other)) called)
        (front-under by n (joined (map runs_in_arm arms)) (joined (map runs_in other)) run))
        (λ at. blocks_under other others (back-under by n (joined (map calls_in_arm arms)) (joined (map named_in other)) called)
        (back-under by n (joined (map runs_in_arm arms)) (joined (map runs_in other)) run) 0 at))

    cobegin_case : (branches : List Branch) → EachBranch S branches → S (stmt place (StmtKind-F.Cobegin branches))
    cobegin_case branches each calls runs at =
        let called : Under by n (joined (map calls_in_branch branches)) = rw (fold-roll-Stmt, fold-roll-StmtKind) at calls in
        let run : Under by n (joined (map runs_in_branch branches)) = rw (fold-roll-Stmt, fold-roll-StmtKind) at runs in
        let l : Label = label_at at in
        let bodies : Bodies = bodies_from (map plain_branch branches) 0 l in
        as_under _ _ (cobegin_plain branches at) (
          none,
          append_all (zero_where (is_instant (Cobegin l place bodies))) (0 ∷ callees_in_each bodies)
              (where_so (is_instant (Cobegin l place bodies)) (SurfaceJoinAt l place)) (DepthJoinAt l place ∷ nodes_in_each bodies)
              (where_all (is_instant (Cobegin l place bodies)) (SurfaceJoinAt l place) none)
              (none, bodies_under (map plain_branch branches) 0 l (branches_under branches each called run)),
        )

    guarded_case : (guard : Guard) (e : Expr) (body : List Stmt) → Each S body → S (stmt place (StmtKind-F.When guard e body))
    guarded_case guard e body each calls runs at =
        let called : Under by n (calls_in_expr e ++ joined (map named_in body)) = rw (fold-roll-Stmt, fold-roll-StmtKind) at calls in
        let run : Under by n (joined (map runs_in body)) = rw (fold-roll-Stmt, fold-roll-StmtKind) at runs in
        let l : Label = label_at at in
        let inner : Block = block_at (map plain_stmt body) (inside l 0) in
        as_under _ _ (when_plain guard e body at) (
          none,
          append_all (zero_where (are_instant inner)) (0 ∷ 0 ∷ callees_in inner) (where_so (are_instant inner) (SurfaceEndAt l place))
              (CheckAt l place e ∷ DepthEndAt l place ∷ nodes_in inner) (where_all (are_instant inner) (SurfaceEndAt l place) none) (
                front-under by n (calls_in_expr e) (joined (map named_in body)) called,
                (
                  none,
                  blocks_under body each (back-under by n (calls_in_expr e) (joined (map named_in body)) called) run 0 (inside l 0),
                ),
              ),
        )

    repeat_case : (body : List Stmt) → Each S body → S (stmt place (StmtKind-F.Repeat body))
    repeat_case body each calls runs at =
        as_under _ _ (repeat_plain body at) (
          none,
          blocks_under body each (rw (fold-roll-Stmt, fold-roll-StmtKind) at calls) (rw (fold-roll-Stmt, fold-roll-StmtKind) at runs) 0
              (inside (label_at at) 0),
        )

    until_case : (body : List Stmt) (e : Expr) → Each S body → S (stmt place (StmtKind-F.Until body e))
    until_case body e each calls runs at =
        let called : Under by n (joined (map named_in body) ++ calls_in_expr e) = rw (fold-roll-Stmt, fold-roll-StmtKind) at calls in
        as_under _ _ (until_plain body e at) (
          none,
          (
            back-under by n (joined (map named_in body)) (calls_in_expr e) called,
            blocks_under body each (front-under by n (joined (map named_in body)) (calls_in_expr e) called)
                (rw (fold-roll-Stmt, fold-roll-StmtKind) at runs) 0 (inside (label_at at) 0),
          ),
        )

    while_case : (e : Expr) (body : List Stmt) → Each S body → S (stmt place (StmtKind-F.While e body))
    while_case e body each calls runs at =
        let called : Under by n (calls_in_expr e ++ joined (map named_in body)) = rw (fold-roll-Stmt, fold-roll-StmtKind) at calls in
        as_under _ _ (while_plain e body at) (
          front-under by n (calls_in_expr e) (joined (map named_in body)) called,
          blocks_under body each (back-under by n (calls_in_expr e) (joined (map named_in body)) called)
              (rw (fold-roll-Stmt, fold-roll-StmtKind) at runs) 0 (inside (label_at at) 0),
        )

    run_case : (target : Option Path) (a : ℕ) (inputs : List Expr) (outputs : List Path) → S (stmt place (StmtKind-F.Run target a inputs outputs))
    run_case target a inputs outputs calls runs at =
        let called : Under by n (target_calls target ++ argument_calls inputs outputs) = rw (fold-roll-Stmt, fold-roll-StmtKind) at calls in
        let run : Under by n (a ∷ []) = rw (fold-roll-Stmt, fold-roll-StmtKind) at runs in
        let both : Under by n (a ∷ (target_calls target ++ argument_calls inputs outputs)) =
        cons-under by n a (target_calls target ++ argument_calls inputs outputs) (head-under by n a [] run) called in
        as_under _ _ (run_plain target a inputs outputs at) (both, (both, tt))

  cases : Cases S
  cases = record {
    declare = λ place k initial calls runs at. as_under _ _ (declare_plain place k initial at) (calls, tt);
    assign = λ place path e calls runs at. as_under _ _ (assign_plain place path e at) (calls, tt);
    call = λ place f inputs outputs calls runs at. as_under _ _ (call_plain place f inputs outputs at) (calls, tt);
    await = λ place e calls runs at.
        as_under _ _ (await_plain place e at) (none, (rw (fold-roll-Stmt, fold-roll-StmtKind) at calls, tt));
    run = run_case;
    branching = branching_case;
    cobegin = cobegin_case;
    guarded = guarded_case;
    repeat = repeat_case;
    until = until_case;
    while = while_case;
    returns = λ place e calls runs at. as_under _ _ (return_plain place e at) (calls, tt);
  }

  -- what is called at the nodes of a body is called or run by the body
  pub body_under : (unit : UnitDef) → Under by n (calls_of unit) → Under by n (activities_run unit) →
      AllUnder (callees_in (plain_body unit.body)) (nodes_in (plain_body unit.body))
  body_under unit calls runs =
      blocks_under unit.body (λ k d within. induct S cases _) calls (subst (λ names. Under by n names) (activities_are unit) runs) 0 []
