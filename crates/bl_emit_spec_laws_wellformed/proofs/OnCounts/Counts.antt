-- How many nodes and resting places a body has.
use Rattle.std.proofs.Common.{◌≡◌, ℕ, suc, ◌+◌, ◌-◌, ◌*◌, ◌≤◌, Bool, true}
use Rattle.std.proofs.Common.{◌&&◌, List, [], ◌∷◌, ◌++◌, map, length}
use Rattle.std.proofs.Common.{Option, refl, sym, ◌∙◌, subst, arith, length-append}
use Rattle.std.proofs.lemmas.List.Elements.{All-head, All-tail}
use Rattle.bl_tree.proofs.Basics.{and_first, and_second}
use Rattle.bl_tree.specs.declared.place.Place.{Place}
use Rattle.bl_tree.specs.declared.tree.Arm.{Arm, fold-Arm, fold_out-Arm, out-Arm}
use Rattle.bl_tree.specs.declared.tree.Branch.{Branch, fold-Branch, fold_out-Branch, out-Branch}
use Rattle.bl_tree.specs.declared.tree.Expr.{Expr}
use Rattle.bl_tree.specs.declared.tree.Guard.{Guard}
use Rattle.bl_tree.specs.declared.tree.Path.{Path}
use Rattle.bl_tree.specs.declared.tree.Stmt.{Stmt, fold-roll-Stmt}
use Rattle.bl_tree.specs.declared.tree.StmtKind.{fold-roll-StmtKind}
use Rattle.bl_tree.specs.declared.tree.StmtKind.TheOpen.{StmtKind-F}
use Rattle.bl_tree.specs.Reduce.{all_of, total}
use Rattle.bl_tree.specs.Typing.{TypingContext, arm_fits, branch_fits, fits, is_activity, is_inhabited, is_truth, kind_fits, stmt_fits, type_of}
use Rattle.bl_tree.proofs.StmtInduction.{Cases, Each, EachArm, EachBranch, induct, stmt}
use Rattle.bl_limits_measures.specs.Statements.{arm_cell_statements, branch_cell_statements, cell_statements_in, cell_statements_in_arm, kind_cell_statements}
use Rattle.bl_limits_measures.specs.Statements.{cell_statements_in_block, cell_statements_in_branch, layer_cell_statements}
use Rattle.bl_graph_nodes.specs.Nodes.{CheckAt, DepthEndAt, DepthJoinAt, Node, SurfaceEndAt, SurfaceJoinAt}
use Rattle.bl_graph_nodes.specs.Nodes.{are_instant, is_instant, nodes_in, nodes_in_each, nodes_of, where_so}
use Rattle.bl_graph_nodes.specs.Plain.{Act, Arm as PlainArm, Await, Block, Bodies, Branch as PlainBranch, Cobegin, Done, If}
use Rattle.bl_graph_nodes.specs.Plain.{Label, Plain, Position, Repeat, Run, Then, Until, When}
use Rattle.bl_graph_nodes.specs.Plain.{While, arm_plain, block_at, block_from, bodies_from, branch_plain, else_at, if_with}
use Rattle.bl_graph_nodes.specs.Plain.{inside, kind_plain, label_at, passed_one, place_of_test, plain_body, plain_stmt, stmt_plain}
use Rattle.bl_machine.specs.Layout.{places_in, places_in_each, resting_places}
use Rattle.bl_ctree_laws_traces.proofs.OnBounded.Statements.{so_long}
use Rattle.bl_emit_spec_laws_wellformed.proofs.OnChains.Nodes.{plain_branch, plain_arm}

-- for this many statements there are so few nodes and resting places
pub record Few (n nodes places : ℕ) : Type 0 where
  pub low : nodes ≤ 4 * n
  pub rests : places ≤ n

abbrev Small : ℕ → Plain → Type 0
Small n s = Few n (length (nodes_of s)) (resting_places s)

abbrev pub SmallIn : ℕ → Block → Type 0
SmallIn n body = Few n (length (nodes_in body)) (places_in body)

nothing : Few 0 0 0
nothing = record { low = omega arith; rests = omega arith }

-- one more statement adds at most four nodes and a place
grown : (n a p b q : ℕ) → b ≤ 4 + a → q ≤ 1 + p → Few n a p → Few (1 + n) b q
grown n a p b q few one rest =
    let low = rest.low in let rests = rest.rests in record { low = omega (arith, few, low); rests = omega (arith, one, rests) }

both_few : (n m a b p q : ℕ) → Few n a p → Few m b q → Few (n + m) (a + b) (p + q)
both_few n m a b p q one two =
    let low = one.low in
    let more = two.low in
    let rests = one.rests in
    let others = two.rests in record { low = omega (arith, low, more); rests = omega (arith, rests, others) }

append_few : (n m p q : ℕ) (xs ys : List Node) → Few n (length xs) p → Few m (length ys) q → Few (n + m) (length (xs ++ ys)) (p + q)
append_few n m p q xs ys one two =
    subst (λ k. Few (n + m) k (p + q)) (sym (length-append xs ys)) (both_few n m (length xs) (length ys) p q one two)

-- nodes of a statement's own around those of its blocks
wide_few : (n m nodes places : ℕ) (b : Bool) (last : Node) → m ≤ 2 + nodes → Few n nodes places →
    Few (1 + n) (suc (length (where_so b last) + m)) places
wide_few n m nodes places b last few rest =
    let low = rest.low in
    let rests = rest.rests in
    let one = so_long b last in record { low = omega (arith, few, low, one); rests = omega (arith, rests) }

as_many : (n m : ℕ) (s p : Plain) → n ≡ m → s ≡ p → Small m p → Small n s
as_many n m s p same is few = subst (λ k. Small k s) (sym same) (subst (Small m) (sym is) few)

module _ (site : TypingContext) where
  abbrev S : Stmt → Type 0
  S s = fits site s ≡ true → (at : Position) → Small (cell_statements_in s) (plain_stmt s at)

  blocks_few : (body : List Stmt) → Each S body → all_of (map (fits site) body) ≡ true → (k : ℕ) (at : Position) →
      SmallIn (cell_statements_in_block body) (block_from (map plain_stmt body) k at)
  blocks_few [] each fitted k at = nothing
  blocks_few (s ∷ body) each fitted k at =
      append_few (cell_statements_in s) (cell_statements_in_block body) (resting_places (plain_stmt s (at ++ k ∷ [])))
      (places_in (block_from (map plain_stmt body) (suc k) at)) (nodes_of (plain_stmt s (at ++ k ∷ [])))
      (nodes_in (block_from (map plain_stmt body) (suc k) at))
      (All-head S s body each (and_first (fits site s) (all_of (map (fits site) body)) fitted) (at ++ k ∷ []))
      (blocks_few body (All-tail S s body each) (and_second (fits site s) (all_of (map (fits site) body)) fitted) (suc k) at)

  -- ---- arms

  abbrev arm_fitted : Arm → Bool
  arm_fitted = fold-Arm Bool Bool Bool Bool (kind_fits site) (arm_fits site) branch_fits stmt_fits

  abbrev FewArm : ℕ → PlainArm → Type 0
  FewArm n arm = (at : Position) → SmallIn n (arm.body at)

  abbrev OfArm : Arm → Type 0
  OfArm arm = Each S (out-Arm arm).body

  arm_few : (arm : Arm) → OfArm arm → arm_fitted arm ≡ true → FewArm (cell_statements_in_arm arm) (plain_arm arm)
  arm_few arm each fitted =
      let fits_so = sym (fold_out-Arm Bool Bool Bool Bool (kind_fits site) (arm_fits site) branch_fits stmt_fits arm) ∙ fitted in
      subst (λ n. FewArm n (plain_arm arm))
      (sym (fold_out-Arm ℕ ℕ ℕ ℕ kind_cell_statements arm_cell_statements branch_cell_statements layer_cell_statements arm))
      (subst (FewArm (cell_statements_in_block (out-Arm arm).body))
      (sym (fold_out-Arm (Place → Position → Plain) PlainArm PlainBranch (Position → Plain) kind_plain arm_plain branch_plain stmt_plain arm))
      (λ at. blocks_few (out-Arm arm).body each
      (and_second (is_truth (type_of site (out-Arm arm).test)) (all_of (map (fits site) (out-Arm arm).body)) fits_so) 0 at))

  abbrev FewArms : List ℕ → List PlainArm → Type 0
  FewArms [] [] = Unit {0}
  FewArms [] (arm ∷ arms) = ⊥
  FewArms (n ∷ ns) [] = ⊥
  FewArms (n ∷ ns) (arm ∷ arms) = FewArm n arm × FewArms ns arms

  arms_few : (arms : List Arm) → EachArm S arms → all_of (map arm_fitted arms) ≡ true →
      FewArms (map cell_statements_in_arm arms) (map plain_arm arms)
  arms_few [] each fitted = tt
  arms_few (arm ∷ arms) each fitted = (
    arm_few arm (All-head OfArm arm arms each) (and_first (arm_fitted arm) (all_of (map arm_fitted arms)) fitted),
    arms_few arms (All-tail OfArm arm arms each) (and_second (arm_fitted arm) (all_of (map arm_fitted arms)) fitted),
  )

  if_few : (n m : ℕ) (l : Label) (at : Place) (e : Expr) (body other : Block) → SmallIn n body → SmallIn m other →
      Small (1 + (n + m)) (If l at e body other)
  if_few n m l at e body other one two =
      grown (n + m) (length (nodes_in body ++ nodes_in other)) (places_in body + places_in other)
      (suc (length (nodes_in body ++ nodes_in other))) (places_in body + places_in other) (omega arith) (omega arith)
      (append_few n m (places_in body) (places_in other) (nodes_in body) (nodes_in other) one two)

  single : (n : ℕ) (s : Plain) → Small n s → SmallIn (n + 0) (Then s Done)
  single n s few = append_few n 0 (resting_places s) 0 (nodes_of s) [] few nothing

  else_few : (l : Label) (ns : List ℕ) (m : ℕ) (arms : List PlainArm) (other : Position → Block) → FewArms ns arms →
      ((at : Position) → SmallIn m (other at)) → SmallIn (length ns + total ns + m) (else_at l arms other)
  else_few l [] m [] other all few =
      subst (λ k. SmallIn k (other (inside l l.passed))) (nothing_more (length {A = ℕ} []) (total []) m refl refl) (few (inside l l.passed))
    where
      nothing_more : (a b m : ℕ) → a ≡ 0 → b ≡ 0 → m ≡ a + b + m
      nothing_more a b m one two = omega (arith, one, two)
  else_few l [] m (arm ∷ arms) other all few = absurd all
  else_few l (n ∷ ns) m [] other all few = absurd all
  else_few l (n ∷ ns) m (arm ∷ arms) other all few =
      subst (λ k. SmallIn k (else_at l (arm ∷ arms) other)) (again n (length ns) (total ns) m)
      (single (1 + (n + (length ns + total ns + m)))
      (If l (place_of_test arm) arm.test (arm.body (inside l l.passed)) (else_at (passed_one l) arms other))
      (if_few n (length ns + total ns + m) l (place_of_test arm) arm.test (arm.body (inside l l.passed)) (else_at (passed_one l) arms other)
      (all.0 (inside l l.passed)) (else_few (passed_one l) ns m arms other all.1 few)))
    where
      again : (n a b m : ℕ) → (1 + (n + (a + b + m))) + 0 ≡ suc a + (n + b) + m
      again n a b m = omega arith

  with_few : (l : Label) (place : Place) (ns : List ℕ) (m : ℕ) (arms : List PlainArm) (other : Position → Block) →
      is_inhabited arms ≡ true → FewArms ns arms → ((at : Position) → SmallIn m (other at)) →
      Small (1 + (length ns - 1) + total ns + m) (if_with l place arms other)
  with_few l place ns m [] other some all few = absurd (cc)
  with_few l place [] m (arm ∷ arms) other some all few = absurd all
  with_few l place (n ∷ ns) m (arm ∷ arms) other some all few =
      subst (λ k. Small k (if_with l place (arm ∷ arms) other)) (again n (length ns) (total ns) m)
      (if_few n (length ns + total ns + m) l place arm.test (arm.body (inside l 0)) (else_at (passed_one l) arms other) (all.0 (inside l 0))
      (else_few (passed_one l) ns m arms other all.1 few))
    where
      again : (n a b m : ℕ) → 1 + (n + (a + b + m)) ≡ 1 + (suc a - 1) + (n + b) + m
      again n a b m = omega arith

  -- ---- branches

  abbrev branch_fitted : Branch → Bool
  branch_fitted = fold-Branch Bool Bool Bool Bool (kind_fits site) (arm_fits site) branch_fits stmt_fits

  abbrev FewBranch : ℕ → PlainBranch → Type 0
  FewBranch n branch = (at : Position) → Few n (length (nodes_in (branch.body at))) (suc (places_in (branch.body at)))

  abbrev OfBranch : Branch → Type 0
  OfBranch branch = Each S (out-Branch branch).body

  branch_more : (n a p : ℕ) → Few n a p → Few (1 + n) a (suc p)
  branch_more n a p few = grown n a p a (suc p) (omega arith) (omega arith) few

  branch_few : (branch : Branch) → OfBranch branch → branch_fitted branch ≡ true →
      FewBranch (cell_statements_in_branch branch) (plain_branch branch)
  branch_few branch each fitted =
      let fits_so = sym (fold_out-Branch Bool Bool Bool Bool (kind_fits site) (arm_fits site) branch_fits stmt_fits branch) ∙ fitted in
      subst (λ n. FewBranch n (plain_branch branch))
      (sym (fold_out-Branch ℕ ℕ ℕ ℕ kind_cell_statements arm_cell_statements branch_cell_statements layer_cell_statements branch))
      (subst (FewBranch (1 + cell_statements_in_block (out-Branch branch).body))
      (sym (fold_out-Branch (Place → Position → Plain) PlainArm PlainBranch (Position → Plain) kind_plain arm_plain branch_plain stmt_plain
      branch))
      (λ at. branch_more (cell_statements_in_block (out-Branch branch).body)
      (length (nodes_in (block_from (map plain_stmt (out-Branch branch).body) 0 at)))
      (places_in (block_from (map plain_stmt (out-Branch branch).body) 0 at)) (blocks_few (out-Branch branch).body each fits_so 0 at)))

  abbrev FewBranches : List ℕ → List PlainBranch → Type 0
  FewBranches [] [] = Unit {0}
  FewBranches [] (branch ∷ branches) = ⊥
  FewBranches (n ∷ ns) [] = ⊥
  FewBranches (n ∷ ns) (branch ∷ branches) = FewBranch n branch × FewBranches ns branches

  branches_few : (branches : List Branch) → EachBranch S branches → all_of (map branch_fitted branches) ≡ true →
      FewBranches (map cell_statements_in_branch branches) (map plain_branch branches)
  branches_few [] each fitted = tt
  branches_few (branch ∷ branches) each fitted = (
    branch_few branch (All-head OfBranch branch branches each) (and_first (branch_fitted branch) (all_of (map branch_fitted branches)) fitted),
    branches_few branches (All-tail OfBranch branch branches each)
        (and_second (branch_fitted branch) (all_of (map branch_fitted branches)) fitted),
  )

  bodies_few : (ns : List ℕ) (branches : List PlainBranch) (k : ℕ) (l : Label) → FewBranches ns branches →
      Few (total ns) (length (nodes_in_each (bodies_from branches k l))) (places_in_each (bodies_from branches k l))
  bodies_few [] [] k l all = nothing
  bodies_few [] (branch ∷ branches) k l all = absurd all
  bodies_few (n ∷ ns) [] k l all = absurd all
  bodies_few (n ∷ ns) (branch ∷ branches) k l all =
      append_few n (total ns) (suc (places_in (branch.body (inside l k)))) (places_in_each (bodies_from branches (suc k) l))
      (nodes_in (branch.body (inside l k))) (nodes_in_each (bodies_from branches (suc k) l)) (all.0 (inside l k))
      (bodies_few ns branches (suc k) l all.1)

  -- ---- all statements

  some_there : {A B C : Type 0} (f : A → B) (g : A → C) (xs : List A) → is_inhabited (map f xs) ≡ true → is_inhabited (map g xs) ≡ true
  some_there f g [] h = absurd (cc)
  some_there f g (x ∷ xs) h = refl

  module _ (place : Place) where
    declare_plain : (k : ℕ) (initial : Option Expr) (at : Position) → plain_stmt (stmt place (StmtKind-F.Declare k initial)) at
        ≡ Act (label_at at) (stmt place (StmtKind-F.Declare k initial))
    declare_plain k initial at = rw (fold-roll-Stmt, fold-roll-StmtKind) refl

    assign_plain : (path : Path) (e : Expr) (at : Position) → plain_stmt (stmt place (StmtKind-F.Assign path e)) at
        ≡ Act (label_at at) (stmt place (StmtKind-F.Assign path e))
    assign_plain path e at = rw (fold-roll-Stmt, fold-roll-StmtKind) refl

    call_plain : (f : ℕ) (inputs : List Expr) (outputs : List Path) (at : Position) → plain_stmt (stmt place (StmtKind-F.Call f inputs outputs)) at
        ≡ Act (label_at at) (stmt place (StmtKind-F.Call f inputs outputs))
    call_plain f inputs outputs at = rw (fold-roll-Stmt, fold-roll-StmtKind) refl

    return_plain : (e : Option Expr) (at : Position) →
        plain_stmt (stmt place (StmtKind-F.Return e)) at ≡ Act (label_at at) (stmt place (StmtKind-F.Return e))
    return_plain e at = rw (fold-roll-Stmt, fold-roll-StmtKind) refl

    await_plain : (e : Expr) (at : Position) → plain_stmt (stmt place (StmtKind-F.Await e)) at ≡ Await (label_at at) place e
    await_plain e at = rw (fold-roll-Stmt, fold-roll-StmtKind) refl

    run_plain : (target : Option Path) (a : ℕ) (inputs : List Expr) (outputs : List Path) (at : Position) →
        plain_stmt (stmt place (StmtKind-F.Run target a inputs outputs)) at ≡ Run (label_at at) place target a inputs outputs
    run_plain target a inputs outputs at = rw (fold-roll-Stmt, fold-roll-StmtKind) refl

    if_plain : (arms : List Arm) (other : List Stmt) (at : Position) → plain_stmt (stmt place (StmtKind-F.If arms other)) at
        ≡ if_with (label_at at) place (map plain_arm arms) (block_at (map plain_stmt other))
    if_plain arms other at = rw (fold-roll-Stmt, fold-roll-StmtKind) refl

    cobegin_plain : (branches : List Branch) (at : Position) → plain_stmt (stmt place (StmtKind-F.Cobegin branches)) at
        ≡ Cobegin (label_at at) place (bodies_from (map plain_branch branches) 0 (label_at at))
    cobegin_plain branches at = rw (fold-roll-Stmt, fold-roll-StmtKind) refl

    when_plain : (guard : Guard) (e : Expr) (body : List Stmt) (at : Position) → plain_stmt (stmt place (StmtKind-F.When guard e body)) at
        ≡ When (label_at at) place guard e (block_at (map plain_stmt body) (inside (label_at at) 0))
    when_plain guard e body at = rw (fold-roll-Stmt, fold-roll-StmtKind) refl

    repeat_plain : (body : List Stmt) (at : Position) → plain_stmt (stmt place (StmtKind-F.Repeat body)) at
        ≡ Repeat (label_at at) place (block_at (map plain_stmt body) (inside (label_at at) 0))
    repeat_plain body at = rw (fold-roll-Stmt, fold-roll-StmtKind) refl

    until_plain : (body : List Stmt) (e : Expr) (at : Position) → plain_stmt (stmt place (StmtKind-F.Until body e)) at
        ≡ Until (label_at at) place (block_at (map plain_stmt body) (inside (label_at at) 0)) e
    until_plain body e at = rw (fold-roll-Stmt, fold-roll-StmtKind) refl

    while_plain : (e : Expr) (body : List Stmt) (at : Position) → plain_stmt (stmt place (StmtKind-F.While e body)) at
        ≡ While (label_at at) place e (block_at (map plain_stmt body) (inside (label_at at) 0))
    while_plain e body at = rw (fold-roll-Stmt, fold-roll-StmtKind) refl

    loop_few : (n nodes places : ℕ) → Few n nodes places → Few (1 + n) (suc nodes) places
    loop_few n nodes places few = grown n nodes places (suc nodes) places (omega arith) (omega arith) few

    test_few : (n nodes places : ℕ) → Few n nodes places → Few (1 + n) (suc (suc nodes)) places
    test_few n nodes places few = grown n nodes places (suc (suc nodes)) places (omega arith) (omega arith) few

    act_few : (l : Label) (s : Stmt) → Small 1 (Act l s)
    act_few l s = record { low = omega arith; rests = omega arith }

    declare_case : (k : ℕ) (initial : Option Expr) → S (stmt place (StmtKind-F.Declare k initial))
    declare_case k initial fitted at =
        as_many _ 1 _ _ (rw (fold-roll-Stmt, fold-roll-StmtKind) refl) (declare_plain k initial at)
        (act_few (label_at at) (stmt place (StmtKind-F.Declare k initial)))

    assign_case : (path : Path) (e : Expr) → S (stmt place (StmtKind-F.Assign path e))
    assign_case path e fitted at =
        as_many _ 1 _ _ (rw (fold-roll-Stmt, fold-roll-StmtKind) refl) (assign_plain path e at)
        (act_few (label_at at) (stmt place (StmtKind-F.Assign path e)))

    call_case : (f : ℕ) (inputs : List Expr) (outputs : List Path) → S (stmt place (StmtKind-F.Call f inputs outputs))
    call_case f inputs outputs fitted at =
        as_many _ 1 _ _ (rw (fold-roll-Stmt, fold-roll-StmtKind) refl) (call_plain f inputs outputs at)
        (act_few (label_at at) (stmt place (StmtKind-F.Call f inputs outputs)))

    return_case : (e : Option Expr) → S (stmt place (StmtKind-F.Return e))
    return_case e fitted at =
        as_many _ 1 _ _ (rw (fold-roll-Stmt, fold-roll-StmtKind) refl) (return_plain e at)
        (act_few (label_at at) (stmt place (StmtKind-F.Return e)))

    await_case : (e : Expr) → S (stmt place (StmtKind-F.Await e))
    await_case e fitted at =
        as_many _ 1 _ _ (rw (fold-roll-Stmt, fold-roll-StmtKind) refl) (await_plain e at) (record { low = omega arith; rests = omega arith })

    run_case : (target : Option Path) (a : ℕ) (inputs : List Expr) (outputs : List Path) → S (stmt place (StmtKind-F.Run target a inputs outputs))
    run_case target a inputs outputs fitted at =
        as_many _ 1 _ _ (rw (fold-roll-Stmt, fold-roll-StmtKind) refl) (run_plain target a inputs outputs at)
        (record { low = omega arith; rests = omega arith })

    if_count : (arms : List Arm) (other : List Stmt) → cell_statements_in (stmt place (StmtKind-F.If arms other))
        ≡ 1 + (length (map cell_statements_in_arm arms) - 1) + total (map cell_statements_in_arm arms) + cell_statements_in_block other
    if_count arms other = rw (fold-roll-Stmt, fold-roll-StmtKind) refl

    cobegin_count : (branches : List Branch) → cell_statements_in (stmt place (StmtKind-F.Cobegin branches))
        ≡ 1 + total (map cell_statements_in_branch branches)
    cobegin_count branches = rw (fold-roll-Stmt, fold-roll-StmtKind) refl

    when_count : (guard : Guard) (e : Expr) (body : List Stmt) → cell_statements_in (stmt place (StmtKind-F.When guard e body))
        ≡ 1 + cell_statements_in_block body
    when_count guard e body = rw (fold-roll-Stmt, fold-roll-StmtKind) refl

    repeat_count : (body : List Stmt) → cell_statements_in (stmt place (StmtKind-F.Repeat body)) ≡ 1 + cell_statements_in_block body
    repeat_count body = rw (fold-roll-Stmt, fold-roll-StmtKind) refl

    until_count : (body : List Stmt) (e : Expr) → cell_statements_in (stmt place (StmtKind-F.Until body e)) ≡ 1 + cell_statements_in_block body
    until_count body e = rw (fold-roll-Stmt, fold-roll-StmtKind) refl

    while_count : (e : Expr) (body : List Stmt) → cell_statements_in (stmt place (StmtKind-F.While e body)) ≡ 1 + cell_statements_in_block body
    while_count e body = rw (fold-roll-Stmt, fold-roll-StmtKind) refl

    branching_case : (arms : List Arm) (other : List Stmt) → EachArm S arms → Each S other → S (stmt place (StmtKind-F.If arms other))
    branching_case arms other each others fitted at =
        let parts = rw (fold-roll-Stmt, fold-roll-StmtKind) at fitted in
        let some = and_first (is_inhabited (map arm_fitted arms)) (all_of (map arm_fitted arms) && all_of (map (fits site) other)) parts in
        let more = and_second (is_inhabited (map arm_fitted arms)) (all_of (map arm_fitted arms) && all_of (map (fits site) other)) parts in
        as_many _ _ _ _ (if_count arms other) (if_plain arms other at)
        (with_few (label_at at) place (map cell_statements_in_arm arms) (cell_statements_in_block other) (map plain_arm arms) (block_at (map plain_stmt other))
        (some_there arm_fitted plain_arm arms some)
        (arms_few arms each (and_first (all_of (map arm_fitted arms)) (all_of (map (fits site) other)) more))
        (λ at. blocks_few other others (and_second (all_of (map arm_fitted arms)) (all_of (map (fits site) other)) more) 0 at))

    cobegin_case : (branches : List Branch) → EachBranch S branches → S (stmt place (StmtKind-F.Cobegin branches))
    cobegin_case branches each fitted at =
        let parts = rw (fold-roll-Stmt, fold-roll-StmtKind) at fitted in
        let all = and_second (is_inhabited (map branch_fitted branches)) (all_of (map branch_fitted branches))
        (and_second (is_activity site.kind) (is_inhabited (map branch_fitted branches) && all_of (map branch_fitted branches)) parts) in
        let l : Label = label_at at in
        let bodies : Bodies = bodies_from (map plain_branch branches) 0 l in
        as_many _ _ _ _ (cobegin_count branches) (cobegin_plain branches at)
        (subst (λ k. Few (1 + total (map cell_statements_in_branch branches)) (suc k) (places_in_each bodies))
        (sym (length-append (where_so (is_instant (Cobegin l place bodies)) (SurfaceJoinAt l place)) (DepthJoinAt l place ∷ nodes_in_each bodies)))
        (wide_few (total (map cell_statements_in_branch branches)) (suc (length (nodes_in_each bodies))) (length (nodes_in_each bodies))
        (places_in_each bodies) (is_instant (Cobegin l place bodies)) (SurfaceJoinAt l place) (omega arith)
        (bodies_few (map cell_statements_in_branch branches) (map plain_branch branches) 0 l (branches_few branches each all))))

    guarded_case : (guard : Guard) (e : Expr) (body : List Stmt) → Each S body → S (stmt place (StmtKind-F.When guard e body))
    guarded_case guard e body each fitted at =
        let parts = and_second (is_activity site.kind) (is_truth (type_of site e) && all_of (map (fits site) body))
        (rw (fold-roll-Stmt, fold-roll-StmtKind) at fitted) in
        let l : Label = label_at at in
        let inner : Block = block_at (map plain_stmt body) (inside l 0) in
        as_many _ _ _ _ (when_count guard e body) (when_plain guard e body at)
        (subst (λ k. Few (1 + cell_statements_in_block body) (suc k) (places_in inner))
        (sym (length-append (where_so (are_instant inner) (SurfaceEndAt l place)) (CheckAt l place e ∷ DepthEndAt l place ∷ nodes_in inner)))
        (wide_few (cell_statements_in_block body) (suc (suc (length (nodes_in inner)))) (length (nodes_in inner)) (places_in inner) (are_instant inner)
        (SurfaceEndAt l place) (omega arith)
        (blocks_few body each (and_second (is_truth (type_of site e)) (all_of (map (fits site) body)) parts) 0 (inside l 0))))

    repeat_case : (body : List Stmt) → Each S body → S (stmt place (StmtKind-F.Repeat body))
    repeat_case body each fitted at =
        let inner : Block = block_at (map plain_stmt body) (inside (label_at at) 0) in
        as_many _ _ _ _ (repeat_count body) (repeat_plain body at)
        (loop_few (cell_statements_in_block body) (length (nodes_in inner)) (places_in inner)
        (blocks_few body each (rw (fold-roll-Stmt, fold-roll-StmtKind) at fitted) 0 (inside (label_at at) 0)))

    until_case : (body : List Stmt) (e : Expr) → Each S body → S (stmt place (StmtKind-F.Until body e))
    until_case body e each fitted at =
        let parts = rw (fold-roll-Stmt, fold-roll-StmtKind) at fitted in
        let inner : Block = block_at (map plain_stmt body) (inside (label_at at) 0) in
        as_many _ _ _ _ (until_count body e) (until_plain body e at)
        (test_few (cell_statements_in_block body) (length (nodes_in inner)) (places_in inner)
        (blocks_few body each (and_first (all_of (map (fits site) body)) (is_truth (type_of site e)) parts) 0 (inside (label_at at) 0)))

    while_case : (e : Expr) (body : List Stmt) → Each S body → S (stmt place (StmtKind-F.While e body))
    while_case e body each fitted at =
        let parts = rw (fold-roll-Stmt, fold-roll-StmtKind) at fitted in
        let inner : Block = block_at (map plain_stmt body) (inside (label_at at) 0) in
        as_many _ _ _ _ (while_count e body) (while_plain e body at)
        (loop_few (cell_statements_in_block body) (length (nodes_in inner)) (places_in inner)
        (blocks_few body each (and_second (is_truth (type_of site e)) (all_of (map (fits site) body)) parts) 0 (inside (label_at at) 0)))

  cases : Cases S
  cases = record {
    declare = declare_case;
    assign = assign_case;
    call = call_case;
    await = await_case;
    run = run_case;
    branching = branching_case;
    cobegin = cobegin_case;
    guarded = guarded_case;
    repeat = repeat_case;
    until = until_case;
    while = while_case;
    returns = return_case;
  }

  -- a body has so few nodes and resting places
  pub body-few : (body : List Stmt) → all_of (map (fits site) body) ≡ true → SmallIn (cell_statements_in_block body) (plain_body body)
  body-few body fitted = blocks_few body (λ k d within. induct S cases _) fitted 0 []
