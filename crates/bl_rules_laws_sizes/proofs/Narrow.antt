-- Statements with few arms and branches side by side: how many statements they have for each that counts, and that first turns add none.
use Rattle.std.proofs.Common.{◌≡◌, ℕ, suc, ◌+◌, ◌*◌, ◌≤◌, Bool, true, ◌&&◌, List, [], ◌∷◌, ◌++◌, map, length, refl, sym, ap, subst, ◌∙◌, arith}
use Rattle.std.specs.Prelude.{nat_le}
use Rattle.std.proofs.Math.Nat.{add-mul}
use Rattle.std.proofs.lemmas.Bool.{le-leb, leb-true}
use Rattle.std.proofs.lemmas.List.{map-append}
use Rattle.std.proofs.lemmas.List.Elements.{All-head, All-tail}
use Rattle.std.proofs.lemmas.Bool.{and_from}
use Rattle.bl_tree.proofs.Basics.{and_first, and_second}
use Rattle.bl_tree.specs.declared.place.Place.{Place}
use Rattle.bl_tree.specs.declared.tree.Arm.{Arm, fold-Arm, fold-roll-Arm, fold_out-Arm, out-Arm}
use Rattle.bl_tree.specs.declared.tree.Branch.{Branch, fold-Branch, fold-roll-Branch, fold_out-Branch, out-Branch}
use Rattle.bl_tree.specs.declared.tree.Expr.{Expr}
use Rattle.bl_tree.specs.declared.tree.Stmt.{Stmt, fold-Stmt, fold-roll-Stmt}
use Rattle.bl_tree.specs.declared.tree.StmtKind.{StmtKind, fold-StmtKind, fold-roll-StmtKind}
use Rattle.bl_tree.specs.declared.tree.StmtKind.TheFolds.{map-StmtKind}
use Rattle.bl_tree.specs.declared.tree.StmtKind.TheOpen.{StmtKind-F, Arm-F, Branch-F, Stmt-F}
use Rattle.bl_tree.specs.Reduce.{all_of, total}
use Rattle.bl_tree.proofs.ReduceLemmas.{all_of-append}
use Rattle.bl_tree.proofs.StmtInduction.{Each, EachArm, EachBranch, induct, stmt}
use Rattle.bl_limits_measures.specs.Statements.{arm_cell_statements, branch_cell_statements, cell_statements_in, cell_statements_in_arm}
use Rattle.bl_limits_measures.specs.Statements.{cell_statements_in_block, cell_statements_in_branch, kind_cell_statements, layer_cell_statements}
use Rattle.bl_peel.specs.Count.{arm_statement_count, branch_statement_count, kind_statement_count, statement_count, stmt_count, stmt_layer_count}
use Rattle.bl_peel.specs.inner.Parts.{arm_count, branch_count}
use Rattle.bl_peel.specs.Peeled.{made_arm, made_if, peeled, place_of_expr}
use Rattle.bl_peel.proofs.Equations.{count_at, count_parts, made_branch}
use Rattle.bl_peel_laws_typing.proofs.Copying.{ArmsCopy, BranchesCopy, Copies, body_copied, more_arms, more_branches, no_arms, no_branches}
use Rattle.bl_limits_measures.proofs.StatementLemmas.{arm_out as arm_cells, branch_out as branch_cells}
use Rattle.bl_types_laws.proofs.Occurrences.{Layer}

-- ---- statements as they count for cells

abbrev pub cells_of_kind : StmtKind → ℕ
cells_of_kind = fold-StmtKind ℕ ℕ ℕ ℕ kind_cell_statements arm_cell_statements branch_cell_statements layer_cell_statements

abbrev pub cells_below : Layer → StmtKind-F ℕ ℕ ℕ ℕ
cells_below = map-StmtKind StmtKind Arm Branch Stmt ℕ ℕ ℕ ℕ cells_of_kind cell_statements_in_arm cell_statements_in_branch cell_statements_in

cells_at : (place : Place) (layer : Layer) → cell_statements_in (stmt place layer) ≡ kind_cell_statements (cells_below layer)
cells_at place layer = rw (fold-roll-Stmt, fold-roll-StmtKind) refl

-- ---- as each counts once

arm_counts : (arm : Arm) → arm_count arm ≡ statement_count (out-Arm arm).body
arm_counts = fold_out-Arm ℕ ℕ ℕ ℕ kind_statement_count arm_statement_count branch_statement_count stmt_layer_count

branch_counts : (branch : Branch) → branch_count branch ≡ statement_count (out-Branch branch).body
branch_counts = fold_out-Branch ℕ ℕ ℕ ℕ kind_statement_count arm_statement_count branch_statement_count stmt_layer_count

-- ---- few arms and branches side by side

-- whether an `if` or a `cobegin` has at most `w + 1` arms or branches, and so have those in it
abbrev kind_narrow : ℕ → StmtKind-F Bool Bool Bool Bool → Bool
kind_narrow w (StmtKind-F.Declare k initial) = true
kind_narrow w (StmtKind-F.Assign path e) = true
kind_narrow w (StmtKind-F.Call f inputs outputs) = true
kind_narrow w (StmtKind-F.Await e) = true
kind_narrow w (StmtKind-F.Run target a inputs outputs) = true
kind_narrow w (StmtKind-F.If arms other) = nat_le (length arms) (w + 1) && (all_of arms && all_of other)
kind_narrow w (StmtKind-F.Cobegin branches) = nat_le (length branches) (w + 1) && all_of branches
kind_narrow w (StmtKind-F.When guard e body) = all_of body
kind_narrow w (StmtKind-F.Repeat body) = all_of body
kind_narrow w (StmtKind-F.Until body e) = all_of body
kind_narrow w (StmtKind-F.While e body) = all_of body
kind_narrow w (StmtKind-F.Return e) = true

abbrev arm_narrow : Arm-F Bool Bool Bool Bool → Bool
arm_narrow arm = all_of arm.body

abbrev branch_narrow : Branch-F Bool Bool Bool Bool → Bool
branch_narrow branch = all_of branch.body

abbrev layer_narrow : Stmt-F Bool Bool Bool Bool → Bool
layer_narrow s = s.what

module _ (w : ℕ) where
  abbrev narrow : Stmt → Bool
  narrow = fold-Stmt Bool Bool Bool Bool (kind_narrow w) arm_narrow branch_narrow layer_narrow

  abbrev narrow_kind : StmtKind → Bool
  narrow_kind = fold-StmtKind Bool Bool Bool Bool (kind_narrow w) arm_narrow branch_narrow layer_narrow

  abbrev narrow_arm : Arm → Bool
  narrow_arm = fold-Arm Bool Bool Bool Bool (kind_narrow w) arm_narrow branch_narrow layer_narrow

  abbrev narrow_branch : Branch → Bool
  narrow_branch = fold-Branch Bool Bool Bool Bool (kind_narrow w) arm_narrow branch_narrow layer_narrow

  abbrev pub narrow_block : List Stmt → Bool
  narrow_block body = all_of (map narrow body)

  abbrev narrow_below : Layer → StmtKind-F Bool Bool Bool Bool
  narrow_below = map-StmtKind StmtKind Arm Branch Stmt Bool Bool Bool Bool narrow_kind narrow_arm narrow_branch narrow

  narrow_at : (place : Place) (layer : Layer) → narrow (stmt place layer) ≡ kind_narrow w (narrow_below layer)
  narrow_at place layer = rw (fold-roll-Stmt, fold-roll-StmtKind) refl

  arm_out : (arm : Arm) → narrow_arm arm ≡ narrow_block (out-Arm arm).body
  arm_out = fold_out-Arm Bool Bool Bool Bool (kind_narrow w) arm_narrow branch_narrow layer_narrow

  branch_out : (branch : Branch) → narrow_branch branch ≡ narrow_block (out-Branch branch).body
  branch_out = fold_out-Branch Bool Bool Bool Bool (kind_narrow w) arm_narrow branch_narrow layer_narrow

  arm_at : (e : Expr) (body : List Stmt) → narrow_arm (made_arm e body) ≡ narrow_block body
  arm_at e body = rw fold-roll-Arm refl

  branch_at : (weak : Bool) (body : List Stmt) → narrow_branch (made_branch weak body) ≡ narrow_block body
  branch_at weak body = rw fold-roll-Branch refl

  -- ---- what has few statements is narrow

  abbrev Small : Stmt → Type 0
  Small s = cell_statements_in s ≤ w → narrow s ≡ true

  small_block : (body : List Stmt) → Each Small body → cell_statements_in_block body ≤ w → narrow_block body ≡ true
  small_block [] each few = refl
  small_block (s ∷ body) each few =
      and_from (narrow s) (narrow_block body) (All-head Small s body each (omega (arith, few)))
      (small_block body (All-tail Small s body each) (omega (arith, few)))

  abbrev ArmSmall : Arm → Type 0
  ArmSmall arm = Each Small (out-Arm arm).body

  small_arms : (arms : List Arm) → EachArm Small arms → total (map cell_statements_in_arm arms) ≤ w → all_of (map narrow_arm arms) ≡ true
  small_arms [] each few = refl
  small_arms (arm ∷ arms) each few =
      let is = arm_cells arm in
      and_from (narrow_arm arm) (all_of (map narrow_arm arms))
      (arm_out arm ∙ small_block (out-Arm arm).body (All-head ArmSmall arm arms each) (omega (arith, is, few)))
      (small_arms arms (All-tail ArmSmall arm arms each) (omega (arith, few)))

  abbrev BranchSmall : Branch → Type 0
  BranchSmall branch = Each Small (out-Branch branch).body

  small_branches : (branches : List Branch) → EachBranch Small branches → total (map cell_statements_in_branch branches) ≤ w →
      (all_of (map narrow_branch branches) ≡ true) × (length branches ≤ total (map cell_statements_in_branch branches))
  small_branches [] each few = (refl, omega arith)
  small_branches (branch ∷ branches) each few =
      let is = branch_cells branch in
      let rest = small_branches branches (All-tail BranchSmall branch branches each) (omega (arith, few)) in
      let others = rest.1 in (
        and_from (narrow_branch branch) (all_of (map narrow_branch branches))
            (branch_out branch ∙ small_block (out-Branch branch).body (All-head BranchSmall branch branches each) (omega (arith, is, few))) rest.0,
        omega (arith, is, others),
      )

  mapped : {A B : Type 0} (f : A → B) (xs : List A) → length (map f xs) ≡ length xs
  mapped f [] = refl
  mapped f (x ∷ xs) = ap suc (mapped f xs)

  small_if : (place : Place) (arms : List Arm) (other : List Stmt) → EachArm Small arms → Each Small other → Small (stmt place (StmtKind-F.If arms other))
  small_if place arms other in_arms in_other few =
      let is = cells_at place (StmtKind-F.If arms other) in
      let long = mapped cell_statements_in_arm arms in
      let wide = mapped narrow_arm arms in
      narrow_at place (StmtKind-F.If arms other)
      ∙ and_from (nat_le (length (map narrow_arm arms)) (w + 1)) (all_of (map narrow_arm arms) && narrow_block other)
      (le-leb (length (map narrow_arm arms)) (w + 1) (omega (arith, is, few, long, wide)))
      (and_from (all_of (map narrow_arm arms)) (narrow_block other) (small_arms arms in_arms (omega (arith, is, few)))
      (small_block other in_other (omega (arith, is, few))))

  small_cobegin : (place : Place) (branches : List Branch) → EachBranch Small branches → Small (stmt place (StmtKind-F.Cobegin branches))
  small_cobegin place branches each few =
      let is = cells_at place (StmtKind-F.Cobegin branches) in
      let inner = small_branches branches each (omega (arith, is, few)) in
      let most = inner.1 in
      let wide = mapped narrow_branch branches in
      narrow_at place (StmtKind-F.Cobegin branches)
      ∙ and_from (nat_le (length (map narrow_branch branches)) (w + 1)) (all_of (map narrow_branch branches))
      (le-leb (length (map narrow_branch branches)) (w + 1) (omega (arith, is, few, most, wide))) inner.0

  -- a statement around one block
  small_around : (place : Place) (layer : Layer) (body : List Stmt) → kind_cell_statements (cells_below layer) ≡ 1 + cell_statements_in_block body →
      kind_narrow w (narrow_below layer) ≡ narrow_block body → Each Small body → Small (stmt place layer)
  small_around place layer body counts is each few =
      let at = cells_at place layer in
      narrow_at place layer ∙ is ∙ small_block body each (omega (arith, at, counts, few))

  all_small : (s : Stmt) → Small s
  all_small = induct Small (record {
    declare = λ place k initial few. narrow_at place (StmtKind-F.Declare k initial);
    assign = λ place path e few. narrow_at place (StmtKind-F.Assign path e);
    call = λ place f inputs outputs few. narrow_at place (StmtKind-F.Call f inputs outputs);
    await = λ place e few. narrow_at place (StmtKind-F.Await e);
    run = λ place target a inputs outputs few. narrow_at place (StmtKind-F.Run target a inputs outputs);
    branching = small_if;
    cobegin = small_cobegin;
    guarded = λ place guard e body each. small_around place (StmtKind-F.When guard e body) body refl refl each;
    repeat = λ place body each. small_around place (StmtKind-F.Repeat body) body refl refl each;
    until = λ place body e each. small_around place (StmtKind-F.Until body e) body refl refl each;
    while = λ place e body each. small_around place (StmtKind-F.While e body) body refl refl each;
    returns = λ place e few. narrow_at place (StmtKind-F.Return e);
  })

  pub few_are_narrow : (body : List Stmt) → cell_statements_in_block body ≤ w → narrow_block body ≡ true
  few_are_narrow body few = small_block body (λ k d within. all_small _) few

  -- ---- first turns stay narrow

  abbrev Stays : List Stmt → List Stmt → Type 0
  Stays a b = narrow_block a ≡ true → narrow_block b ≡ true

  joins : (a b : List Stmt) → narrow_block (a ++ b) ≡ (narrow_block a && narrow_block b)
  joins a b = ap all_of (map-append narrow a b) ∙ all_of-append (map narrow a) (map narrow b)

  -- a block of one statement
  alone : (place : Place) (layer : Layer) → narrow_block (stmt place layer ∷ []) ≡ (kind_narrow w (narrow_below layer) && true)
  alone place layer = ap (λ (one : Bool). one && true) (narrow_at place layer)

  inside : (place : Place) (layer : Layer) → narrow_block (stmt place layer ∷ []) ≡ true → kind_narrow w (narrow_below layer) ≡ true
  inside place layer h = and_first (kind_narrow w (narrow_below layer)) true (sym (alone place layer) ∙ h)

  outside : (place : Place) (layer : Layer) → kind_narrow w (narrow_below layer) ≡ true → narrow_block (stmt place layer ∷ []) ≡ true
  outside place layer h = alone place layer ∙ and_from (kind_narrow w (narrow_below layer)) true h refl

  arms_stay : {arms others : List Arm} → ArmsCopy Stays arms others → all_of (map narrow_arm arms) ≡ true → all_of (map narrow_arm others) ≡ true
  arms_stay no_arms h = refl
  arms_stay (more_arms e a b {arms} {others} one more) h =
      and_from (narrow_arm (made_arm e b)) (all_of (map narrow_arm others))
      (arm_at e b ∙ one (sym (arm_at e a) ∙ and_first (narrow_arm (made_arm e a)) (all_of (map narrow_arm arms)) h))
      (arms_stay more (and_second (narrow_arm (made_arm e a)) (all_of (map narrow_arm arms)) h))

  arms_long : {arms others : List Arm} → ArmsCopy Stays arms others → length (map narrow_arm others) ≡ length (map narrow_arm arms)
  arms_long no_arms = refl
  arms_long (more_arms e a b one more) = ap suc (arms_long more)

  branches_stay : {branches others : List Branch} → BranchesCopy Stays branches others → all_of (map narrow_branch branches) ≡ true →
      all_of (map narrow_branch others) ≡ true
  branches_stay no_branches h = refl
  branches_stay (more_branches weak a b {branches} {others} one more) h =
      and_from (narrow_branch (made_branch weak b)) (all_of (map narrow_branch others))
      (branch_at weak b ∙ one (sym (branch_at weak a) ∙ and_first (narrow_branch (made_branch weak a)) (all_of (map narrow_branch branches)) h))
      (branches_stay more (and_second (narrow_branch (made_branch weak a)) (all_of (map narrow_branch branches)) h))

  branches_long : {branches others : List Branch} → BranchesCopy Stays branches others → length (map narrow_branch others) ≡ length (map narrow_branch branches)
  branches_long no_branches = refl
  branches_long (more_branches weak a b one more) = ap suc (branches_long more)

  -- an `if` with one arm
  tests : (e : Expr) (body other : List Stmt) → narrow_block body ≡ true → narrow_block other ≡ true → narrow_block (made_if e body other ∷ []) ≡ true
  tests e body other one rest =
      outside (place_of_expr e) (StmtKind-F.If (made_arm e body ∷ []) other)
      (and_from (nat_le 1 (w + 1)) ((narrow_arm (made_arm e body) && true) && narrow_block other) (le-leb 1 (w + 1) (omega arith))
      (and_from (narrow_arm (made_arm e body) && true) (narrow_block other) (and_from (narrow_arm (made_arm e body)) true (arm_at e body ∙ one) refl) rest))

  joined : (a b : List Stmt) → narrow_block a ≡ true → narrow_block b ≡ true → narrow_block (a ++ b) ≡ true
  joined a b one other = joins a b ∙ and_from (narrow_block a) (narrow_block b) one other

  narrow_copies : Copies Stays
  narrow_copies = record {
    same = λ body h. h;
    append = λ a b c d one other h.
        let each : (narrow_block a && narrow_block c) ≡ true = sym (joins a c) ∙ h in
        joined b d (one (and_first (narrow_block a) (narrow_block c) each)) (other (and_second (narrow_block a) (narrow_block c) each));
    branching = λ place arms others a b in_arms same h.
        let all = inside place (StmtKind-F.If arms a) h in
        let few = and_first (nat_le (length (map narrow_arm arms)) (w + 1)) (all_of (map narrow_arm arms) && narrow_block a) all in
        let rest = and_second (nat_le (length (map narrow_arm arms)) (w + 1)) (all_of (map narrow_arm arms) && narrow_block a) all in
        outside place (StmtKind-F.If others b)
        (and_from (nat_le (length (map narrow_arm others)) (w + 1)) (all_of (map narrow_arm others) && narrow_block b)
        (subst (λ n. nat_le n (w + 1) ≡ true) (sym (arms_long in_arms)) few)
        (and_from (all_of (map narrow_arm others)) (narrow_block b) (arms_stay in_arms (and_first (all_of (map narrow_arm arms)) (narrow_block a) rest))
        (same (and_second (all_of (map narrow_arm arms)) (narrow_block a) rest))));
    cobegin = λ place branches others each h.
        let all = inside place (StmtKind-F.Cobegin branches) h in
        let few = and_first (nat_le (length (map narrow_branch branches)) (w + 1)) (all_of (map narrow_branch branches)) all in
        let rest = and_second (nat_le (length (map narrow_branch branches)) (w + 1)) (all_of (map narrow_branch branches)) all in
        outside place (StmtKind-F.Cobegin others)
        (and_from (nat_le (length (map narrow_branch others)) (w + 1)) (all_of (map narrow_branch others))
        (subst (λ n. nat_le n (w + 1) ≡ true) (sym (branches_long each)) few) (branches_stay each rest));
    guarded = λ place guard e a b same h. outside place (StmtKind-F.When guard e b) (same (inside place (StmtKind-F.When guard e a) h));
    repeat = λ place a b same h. outside place (StmtKind-F.Repeat b) (same (inside place (StmtKind-F.Repeat a) h));
    until = λ place e a b same h. outside place (StmtKind-F.Until b e) (same (inside place (StmtKind-F.Until a e) h));
    while = λ place e a b same h. outside place (StmtKind-F.While e b) (same (inside place (StmtKind-F.While e a) h));
    repeat_turn = λ place a b c first rest h.
        let all = inside place (StmtKind-F.Repeat a) h in
        joined b (stmt place (StmtKind-F.Repeat c) ∷ []) (first all) (outside place (StmtKind-F.Repeat c) (rest all));
    until_turn = λ place e a b c first rest h.
        let all = inside place (StmtKind-F.Until a e) h in
        joined b (made_if e [] (stmt place (StmtKind-F.Until c e) ∷ []) ∷ []) (first all)
        (tests e [] (stmt place (StmtKind-F.Until c e) ∷ []) refl (outside place (StmtKind-F.Until c e) (rest all)));
    while_turn = λ place e a b c first rest h.
        let all = inside place (StmtKind-F.While e a) h in
        tests e (b ++ stmt place (StmtKind-F.While e c) ∷ []) []
        (joined b (stmt place (StmtKind-F.While e c) ∷ []) (first all) (outside place (StmtKind-F.While e c) (rest all))) refl;
  }

  pub peeled_is_narrow : (body : List Stmt) → narrow_block body ≡ true → narrow_block (peeled body) ≡ true
  peeled_is_narrow body h = body_copied Stays narrow_copies body h

  -- ---- what is narrow has few statements for each that counts

  -- so many statements count for one
  abbrev times : ℕ → ℕ
  times n = n * (w + 2)

  times_sum : (a b : ℕ) → times (a + b) ≡ times a + times b
  times_sum a b = add-mul a b (w + 2)

  times_one : (n : ℕ) → times (1 + n) ≡ w + 2 + times n
  times_one n = let split = add-mul 1 n (w + 2) in omega (arith, split)

  abbrev Few : Stmt → Type 0
  Few s = narrow s ≡ true → cell_statements_in s ≤ times (stmt_count s)

  few_block : (body : List Stmt) → Each Few body → narrow_block body ≡ true → cell_statements_in_block body ≤ times (statement_count body)
  few_block [] each h = omega arith
  few_block (s ∷ body) each h =
      let first = All-head Few s body each (and_first (narrow s) (narrow_block body) h) in
      let rest = few_block body (All-tail Few s body each) (and_second (narrow s) (narrow_block body) h) in
      let sum = times_sum (stmt_count s) (statement_count body) in
      omega (arith, first, rest, sum)

  abbrev ArmFew : Arm → Type 0
  ArmFew arm = Each Few (out-Arm arm).body

  few_arms : (arms : List Arm) → EachArm Few arms → all_of (map narrow_arm arms) ≡ true →
      total (map cell_statements_in_arm arms) ≤ times (total (map arm_count arms))
  few_arms [] each h = omega arith
  few_arms (arm ∷ arms) each h =
      let cells = arm_cells arm in
      let counts = ap times (arm_counts arm) in
      let first = few_block (out-Arm arm).body (All-head ArmFew arm arms each)
      (sym (arm_out arm) ∙ and_first (narrow_arm arm) (all_of (map narrow_arm arms)) h) in
      let rest = few_arms arms (All-tail ArmFew arm arms each) (and_second (narrow_arm arm) (all_of (map narrow_arm arms)) h) in
      let sum = times_sum (arm_count arm) (total (map arm_count arms)) in
      omega (arith, cells, counts, first, rest, sum)

  abbrev BranchFew : Branch → Type 0
  BranchFew branch = Each Few (out-Branch branch).body

  few_branches : (branches : List Branch) → EachBranch Few branches → all_of (map narrow_branch branches) ≡ true →
      total (map cell_statements_in_branch branches) ≤ length branches + times (total (map branch_count branches))
  few_branches [] each h = omega arith
  few_branches (branch ∷ branches) each h =
      let cells = branch_cells branch in
      let counts = ap times (branch_counts branch) in
      let first = few_block (out-Branch branch).body (All-head BranchFew branch branches each)
      (sym (branch_out branch) ∙ and_first (narrow_branch branch) (all_of (map narrow_branch branches)) h) in
      let rest = few_branches branches (All-tail BranchFew branch branches each) (and_second (narrow_branch branch) (all_of (map narrow_branch branches)) h) in
      let sum = times_sum (branch_count branch) (total (map branch_count branches)) in
      omega (arith, cells, counts, first, rest, sum)

  few_if : (place : Place) (arms : List Arm) (other : List Stmt) → EachArm Few arms → Each Few other → Few (stmt place (StmtKind-F.If arms other))
  few_if place arms other in_arms in_other h =
      let all = sym (narrow_at place (StmtKind-F.If arms other)) ∙ h in
      let wide = leb-true (length (map narrow_arm arms)) (w + 1)
      (and_first (nat_le (length (map narrow_arm arms)) (w + 1)) (all_of (map narrow_arm arms) && narrow_block other) all) in
      let parts = and_second (nat_le (length (map narrow_arm arms)) (w + 1)) (all_of (map narrow_arm arms) && narrow_block other) all in
      let first = few_arms arms in_arms (and_first (all_of (map narrow_arm arms)) (narrow_block other) parts) in
      let rest = few_block other in_other (and_second (all_of (map narrow_arm arms)) (narrow_block other) parts) in
      let long = mapped cell_statements_in_arm arms in
      let same = mapped narrow_arm arms in
      let cells = cells_at place (StmtKind-F.If arms other) in
      let counts = ap times (count_at place (StmtKind-F.If arms other)) in
      let one = times_one (total (map arm_count arms) + statement_count other) in
      let sum = times_sum (total (map arm_count arms)) (statement_count other) in
      omega (arith, wide, first, rest, long, same, cells, counts, one, sum)

  few_cobegin : (place : Place) (branches : List Branch) → EachBranch Few branches → Few (stmt place (StmtKind-F.Cobegin branches))
  few_cobegin place branches each h =
      let all = sym (narrow_at place (StmtKind-F.Cobegin branches)) ∙ h in
      let wide = leb-true (length (map narrow_branch branches)) (w + 1)
      (and_first (nat_le (length (map narrow_branch branches)) (w + 1)) (all_of (map narrow_branch branches)) all) in
      let inner = few_branches branches each (and_second (nat_le (length (map narrow_branch branches)) (w + 1)) (all_of (map narrow_branch branches)) all) in
      let same = mapped narrow_branch branches in
      let cells = cells_at place (StmtKind-F.Cobegin branches) in
      let counts = ap times (count_at place (StmtKind-F.Cobegin branches)) in
      let one = times_one (total (map branch_count branches)) in
      omega (arith, wide, inner, same, cells, counts, one)

  few_around : (place : Place) (layer : Layer) (body : List Stmt) → kind_cell_statements (cells_below layer) ≡ 1 + cell_statements_in_block body →
      kind_statement_count (count_parts layer) ≡ 1 + statement_count body → kind_narrow w (narrow_below layer) ≡ narrow_block body → Each Few body →
      Few (stmt place layer)
  few_around place layer body cells counts is each h =
      let inner = few_block body each (sym is ∙ sym (narrow_at place layer) ∙ h) in
      let at = cells_at place layer in
      let many = ap times (count_at place layer ∙ counts) in
      let one = times_one (statement_count body) in
      omega (arith, inner, at, cells, many, one)

  few_alone : (place : Place) (layer : Layer) → kind_cell_statements (cells_below layer) ≡ 1 → kind_statement_count (count_parts layer) ≡ 1 →
      Few (stmt place layer)
  few_alone place layer cells counts h =
      let at = cells_at place layer in
      let many = ap times (count_at place layer ∙ counts) in
      let one = times_one 0 in
      omega (arith, at, cells, many, one)

  all_few : (s : Stmt) → Few s
  all_few = induct Few (record {
    declare = λ place k initial. few_alone place (StmtKind-F.Declare k initial) refl refl;
    assign = λ place path e. few_alone place (StmtKind-F.Assign path e) refl refl;
    call = λ place f inputs outputs. few_alone place (StmtKind-F.Call f inputs outputs) refl refl;
    await = λ place e. few_alone place (StmtKind-F.Await e) refl refl;
    run = λ place target a inputs outputs. few_alone place (StmtKind-F.Run target a inputs outputs) refl refl;
    branching = few_if;
    cobegin = few_cobegin;
    guarded = λ place guard e body each. few_around place (StmtKind-F.When guard e body) body refl refl refl each;
    repeat = λ place body each. few_around place (StmtKind-F.Repeat body) body refl refl refl each;
    until = λ place body e each. few_around place (StmtKind-F.Until body e) body refl refl refl each;
    while = λ place e body each. few_around place (StmtKind-F.While e body) body refl refl refl each;
    returns = λ place e. few_alone place (StmtKind-F.Return e) refl refl;
  })

  pub narrow_has_few : (body : List Stmt) → narrow_block body ≡ true → cell_statements_in_block body ≤ statement_count body * (w + 2)
  narrow_has_few body h = few_block body (λ k d within. all_few _) h
