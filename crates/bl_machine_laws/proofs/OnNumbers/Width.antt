-- A body that is laid out from counter 0 on takes its width of counters.
use Rattle.std.proofs.Common.{◌≡◌, ℕ, suc, ◌+◌, ◌<◌, ◌≤◌, max, List, [], ◌∷◌, ◌++◌, ◌⊎◌, ⊎_elim, map, refl, ap, sym, subst, ◌∙◌, arith}
use Rattle.std.specs.Prelude.{All, Contains}
use Rattle.std.proofs.lemmas.Bool.{cases_lt}
use Rattle.std.proofs.lemmas.List.Elements.{All-append, All-cons, All-head, All-nil, All-tail, All-weaker, Contains-append_left, Contains-append_right}
use Rattle.bl_tree.specs.declared.place.Place.{Place}
use Rattle.bl_tree.specs.declared.tree.Arm.{Arm, out-Arm, fold-Arm, fold_out-Arm}
use Rattle.bl_tree.specs.declared.tree.Branch.{Branch, out-Branch, fold-Branch, fold_out-Branch}
use Rattle.bl_tree.specs.declared.tree.Stmt.{Stmt, fold-roll-Stmt}
use Rattle.bl_tree.specs.declared.tree.StmtKind.{fold-roll-StmtKind}
use Rattle.bl_tree.specs.declared.tree.StmtKind.TheOpen.{StmtKind-F}
use Rattle.bl_tree.specs.Reduce.{greatest, total}
use Rattle.bl_tree.proofs.StmtInduction.{Cases, Each, EachArm, EachBranch, induct, stmt}
use Rattle.bl_effects.specs.Surface.{arm_width, branch_width, kind_width, stmt_layer_width, stmt_width, width}
use Rattle.bl_graph_nodes.specs.Laws.{PlainStatements, plain_arm, plain_branch}
use Rattle.bl_graph_nodes.specs.Plain.{Act, Again, Await, Block, Bodies, Body, Cobegin, Done, If, Label, Last, Plain, Position, Repeat, Run, Then, Until, When}
use Rattle.bl_graph_nodes.specs.Plain.{While, block_from, bodies_from, else_at, inside, label_at, passed_one, plain_block, plain_body, plain_stmt}
use Rattle.bl_machine.specs.Layout.{counters_in, counters_in_each, counters_of, width_in, width_in_each, width_of}
use Rattle.bl_machine_laws.specs.Numbers.Width.{TakesItsWidth}
use Rattle.bl_machine.proofs.Laying.{max_apart, max_none}

-- ---- the width of a body is that of its plain statements

abbrev Same : Stmt → Type 0
Same s = (at : Position) → width_of (plain_stmt s at) ≡ stmt_width s

none_max : (n : ℕ) → n ≡ max 0 n
none_max n = omega arith

max_self : (n : ℕ) → max n n ≡ max 0 n
max_self n = omega arith

block_same : (body : List Stmt) (k : ℕ) (block : Position) → Each Same body →
    width_in (block_from (map plain_stmt body) k block) ≡ greatest (map stmt_width body)
block_same [] k block each = refl
block_same (s ∷ rest) k block each =
    ap (λ first. max first (width_in (block_from (map plain_stmt rest) (suc k) block))) (All-head Same s rest each (block ++ k ∷ []))
    ∙ ap (λ others. max (stmt_width s) others) (block_same rest (suc k) block (All-tail Same s rest each))

abbrev body_width : Arm → ℕ
body_width arm = greatest (map stmt_width (out-Arm arm).body)

arms_same : (at : Label) (arms : List Arm) (other : List Stmt) → EachArm Same arms → Each Same other →
    width_in (else_at at (map plain_arm arms) (plain_block other)) ≡ max (greatest (map body_width arms)) (greatest (map stmt_width other))
arms_same at [] other each others = block_same other 0 (inside at at.passed) others ∙ none_max (greatest (map stmt_width other))
arms_same at (arm ∷ rest) other each others =
    max_none _
    ∙ ap (λ first. max first (width_in (else_at (passed_one at) (map plain_arm rest) (plain_block other))))
    (block_same (out-Arm arm).body 0 (inside at at.passed) (All-head (λ arm. Each Same (out-Arm arm).body) arm rest each))
    ∙ ap (λ last. max (body_width arm) last)
    (arms_same (passed_one at) rest other (All-tail (λ arm. Each Same (out-Arm arm).body) arm rest each) others)
    ∙ sym (max_apart (body_width arm) (greatest (map body_width rest)) (greatest (map stmt_width other)))

abbrev folded_arm : Arm → ℕ
folded_arm = fold-Arm ℕ ℕ ℕ ℕ kind_width arm_width branch_width stmt_layer_width

abbrev folded_branch : Branch → ℕ
folded_branch = fold-Branch ℕ ℕ ℕ ℕ kind_width arm_width branch_width stmt_layer_width

arms_are : (arms : List Arm) → map folded_arm arms ≡ map body_width arms
arms_are [] = refl
arms_are (arm ∷ rest) = λ i. fold_out-Arm ℕ ℕ ℕ ℕ kind_width arm_width branch_width stmt_layer_width arm i ∷ arms_are rest i

abbrev one_width : Branch → ℕ
one_width branch = max 1 (greatest (map stmt_width (out-Branch branch).body))

branches_are : (branches : List Branch) → map folded_branch branches ≡ map one_width branches
branches_are [] = refl
branches_are (branch ∷ rest) = λ i. fold_out-Branch ℕ ℕ ℕ ℕ kind_width arm_width branch_width stmt_layer_width branch i ∷ branches_are rest i

bodies_same : (branches : List Branch) (k : ℕ) (at : Label) → EachBranch Same branches →
    width_in_each (bodies_from (map plain_branch branches) k at) ≡ total (map one_width branches)
bodies_same [] k at each = refl
bodies_same (b ∷ rest) k at each =
    ap (λ body. max 1 body + width_in_each (bodies_from (map plain_branch rest) (suc k) at))
    (block_same (out-Branch b).body 0 (inside at k) (All-head (λ b. Each Same (out-Branch b).body) b rest each))
    ∙ ap (λ others. one_width b + others) (bodies_same rest (suc k) at (All-tail (λ b. Each Same (out-Branch b).body) b rest each))

module _ (laws : PlainStatements) where
  branching_same : (place : Place) (arms : List Arm) (other : List Stmt) → EachArm Same arms → Each Same other →
      Same (stmt place (StmtKind-F.If arms other))
  branching_same place [] other each others at = rw (fold-roll-Stmt, fold-roll-StmtKind, fold-roll-Stmt, fold-roll-StmtKind)
      (ap (λ a. max a (width_in (plain_block other (inside (label_at at) 1)))) (block_same other 0 (inside (label_at at) 0) others)
      ∙ ap (λ a. max (greatest (map stmt_width other)) a) (block_same other 0 (inside (label_at at) 1) others)
      ∙ max_self (greatest (map stmt_width other)))
  branching_same place (arm ∷ rest) other each others at =
      ap width_of (laws.branching place at arm rest other)
      ∙ ap (λ first. max first (width_in (else_at (passed_one (label_at at)) (map plain_arm rest) (plain_block other))))
      (block_same (out-Arm arm).body 0 (inside (label_at at) 0) (All-head (λ arm. Each Same (out-Arm arm).body) arm rest each))
      ∙ ap (λ last. max (body_width arm) last) (arms_same (passed_one (label_at at)) rest other
      (All-tail (λ arm. Each Same (out-Arm arm).body) arm rest each) others)
      ∙ sym (max_apart (body_width arm) (greatest (map body_width rest)) (greatest (map stmt_width other)))
      ∙ ap (λ all. max (greatest all) (greatest (map stmt_width other))) (sym (arms_are (arm ∷ rest)))
      ∙ sym (rw (fold-roll-Stmt, fold-roll-StmtKind) refl)

  cobegin_same : (place : Place) (branches : List Branch) → EachBranch Same branches → Same (stmt place (StmtKind-F.Cobegin branches))
  cobegin_same place branches each at =
      ap width_of (laws.parallel place at branches)
      ∙ bodies_same branches 0 (label_at at) each
      ∙ ap total (sym (branches_are branches))
      ∙ sym (rw (fold-roll-Stmt, fold-roll-StmtKind) refl)

  cases : Cases Same
  cases = record {
    declare = λ place k initial at. rw (fold-roll-Stmt, fold-roll-StmtKind, fold-roll-Stmt, fold-roll-StmtKind) refl;
    assign = λ place path e at. rw (fold-roll-Stmt, fold-roll-StmtKind, fold-roll-Stmt, fold-roll-StmtKind) refl;
    call = λ place f inputs outputs at. rw (fold-roll-Stmt, fold-roll-StmtKind, fold-roll-Stmt, fold-roll-StmtKind) refl;
    await = λ place e at. rw (fold-roll-Stmt, fold-roll-StmtKind, fold-roll-Stmt, fold-roll-StmtKind) refl;
    run = λ place target a inputs outputs at. rw (fold-roll-Stmt, fold-roll-StmtKind, fold-roll-Stmt, fold-roll-StmtKind) refl;
    branching = branching_same;
    cobegin = cobegin_same;
    guarded = λ place guard e body each at. rw (fold-roll-Stmt, fold-roll-StmtKind, fold-roll-Stmt, fold-roll-StmtKind) (block_same body 0 _ each);
    repeat = λ place body each at. rw (fold-roll-Stmt, fold-roll-StmtKind, fold-roll-Stmt, fold-roll-StmtKind) (block_same body 0 _ each);
    until = λ place body e each at. rw (fold-roll-Stmt, fold-roll-StmtKind, fold-roll-Stmt, fold-roll-StmtKind) (block_same body 0 _ each);
    while = λ place e body each at. rw (fold-roll-Stmt, fold-roll-StmtKind, fold-roll-Stmt, fold-roll-StmtKind) (block_same body 0 _ each);
    returns = λ place e at. rw (fold-roll-Stmt, fold-roll-StmtKind, fold-roll-Stmt, fold-roll-StmtKind) refl;
  }

  each_same : (body : List Stmt) → Each Same body
  each_same body k s lt = induct Same cases _

  pub widths_are : (body : List Stmt) → width_in (plain_body body) ≡ width body
  widths_are body = block_same body 0 [] (each_same body)

-- ---- counters are below the width

abbrev Below : ℕ → ℕ → Type 0
Below high counter = counter < high

both_below : (high m n : ℕ) (xs ys : List ℕ) → m ≤ high → n ≤ high → All (Below m) xs → All (Below n) ys → All (Below high) (xs ++ ys)
both_below high m n xs ys a b h k =
    All-append (Below high) xs ys (All-weaker (Below m) (Below high) (lower m high a) xs h) (All-weaker (Below n) (Below high) (lower n high b) ys k)
  where
    lower : (m high : ℕ) → m ≤ high → (counter : ℕ) → counter < m → counter < high
    lower m high le counter lt = omega arith

mutual
  below_of : (s : Plain) (low : ℕ) → All (Below (low + width_of s)) (counters_of s low)
  below_of (Act l s) low = All-nil _
  below_of (Await l at e) low = All-cons (Below (low + 1)) low [] (omega arith) (All-nil _)
  below_of (Run l at target a inputs outputs) low = All-cons (Below (low + 1)) low [] (omega arith) (All-nil _)
  below_of (If l at e body other) low =
      both_below (low + max (width_in body) (width_in other)) (low + width_in body) (low + width_in other) (counters_in body low) (counters_in other low)
      (omega arith) (omega arith) (below_in body low) (below_in other low)
  below_of (Cobegin l at bodies) low = below_each bodies low
  below_of (When l at guard e body) low = below_in body low
  below_of (Repeat l at body) low = below_in body low
  below_of (Until l at body e) low = below_in body low
  below_of (While l at e body) low = below_in body low
  below_of (Again l at body e) low = below_in body low

  below_in : (body : Block) (low : ℕ) → All (Below (low + width_in body)) (counters_in body low)
  below_in Done low = All-nil _
  below_in (Then s rest) low =
      both_below (low + max (width_of s) (width_in rest)) (low + width_of s) (low + width_in rest) (counters_of s low) (counters_in rest low)
      (omega arith) (omega arith) (below_of s low) (below_in rest low)

  below_each : (bodies : Bodies) (low : ℕ) → All (Below (low + width_in_each bodies)) (counters_in_each bodies low)
  below_each Last low = All-nil _
  below_each (Body weak body rest) low =
      let next = low + max 1 (width_in body) in
      All-cons (Below (low + (max 1 (width_in body) + width_in_each rest))) low (counters_in body low ++ counters_in_each rest next) (omega arith)
      (both_below (low + (max 1 (width_in body) + width_in_each rest)) (low + width_in body) (next + width_in_each rest) (counters_in body low)
      (counters_in_each rest next) (omega arith) (omega arith) (below_in body low) (below_each rest next))

-- ---- and each is taken

here : (x : ℕ) (xs : List ℕ) (k : ℕ) → x ≡ k → Contains (x ∷ xs) k
here x xs k is = (0, omega arith, is)

there : (x : ℕ) (xs : List ℕ) (k : ℕ) → Contains xs k → Contains (x ∷ xs) k
there x xs k h = let lt = h.1 in (suc h.0, omega arith, h.2)

mutual
  taken_of : (s : Plain) (low k : ℕ) → low ≤ k → k < low + width_of s → Contains (counters_of s low) k
  taken_of (Act l s) low k a b = absurd (omega arith)
  taken_of (Await l at e) low k a b = here low [] k (omega arith)
  taken_of (Run l at target x inputs outputs) low k a b = here low [] k (omega arith)
  taken_of (If l at e body other) low k a b =
      ⊎_elim
      (λ (first : k < low + width_in body). Contains-append_left (counters_in body low) (counters_in other low) k (taken_in body low k a first))
      (λ (behind : low + width_in body ≤ k).
      Contains-append_right (counters_in body low) (counters_in other low) k (taken_in other low k a (omega arith)))
      (cases_lt k (low + width_in body))
  taken_of (Cobegin l at bodies) low k a b = taken_each bodies low k a b
  taken_of (When l at guard e body) low k a b = taken_in body low k a b
  taken_of (Repeat l at body) low k a b = taken_in body low k a b
  taken_of (Until l at body e) low k a b = taken_in body low k a b
  taken_of (While l at e body) low k a b = taken_in body low k a b
  taken_of (Again l at body e) low k a b = taken_in body low k a b

  taken_in : (body : Block) (low k : ℕ) → low ≤ k → k < low + width_in body → Contains (counters_in body low) k
  taken_in Done low k a b = absurd (omega arith)
  taken_in (Then s rest) low k a b =
      ⊎_elim
      (λ (first : k < low + width_of s). Contains-append_left (counters_of s low) (counters_in rest low) k (taken_of s low k a first))
      (λ (behind : low + width_of s ≤ k).
      Contains-append_right (counters_of s low) (counters_in rest low) k (taken_in rest low k a (omega arith)))
      (cases_lt k (low + width_of s))

  taken_each : (bodies : Bodies) (low k : ℕ) → low ≤ k → k < low + width_in_each bodies → Contains (counters_in_each bodies low) k
  taken_each Last low k a b = absurd (omega arith)
  taken_each (Body weak body rest) low k a b =
      let next = low + max 1 (width_in body) in
      ⊎_elim
      (λ (inner : k < low + width_in body).
      there low (counters_in body low ++ counters_in_each rest next) k
      (Contains-append_left (counters_in body low) (counters_in_each rest next) k (taken_in body low k a inner)))
      (λ (outer : low + width_in body ≤ k).
      ⊎_elim
      (λ (own : k < next). here low (counters_in body low ++ counters_in_each rest next) k (omega arith))
      (λ (behind : next ≤ k).
      there low (counters_in body low ++ counters_in_each rest next) k
      (Contains-append_right (counters_in body low) (counters_in_each rest next) k (taken_each rest next k behind (omega arith))))
      (cases_lt k next))
      (cases_lt k (low + width_in body))

pub takes_its_width : PlainStatements → (body : List Stmt) → TakesItsWidth body
takes_its_width laws body =
    let e = widths_are laws body in record {
      many = e;
      below = subst (λ n. All (λ counter. counter < n) (counters_in (plain_body body) 0)) e
          (All-weaker (Below (0 + width_in (plain_body body))) (Below (width_in (plain_body body))) (λ counter lt. omega arith)
          (counters_in (plain_body body) 0) (below_in (plain_body body) 0));
      each = λ counter lt. taken_in (plain_body body) 0 counter (omega arith) (omega arith);
    }
