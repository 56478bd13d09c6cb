-- The greatest number of what a body names, and of what its peeled body does.
use Rattle.std.proofs.Common.{◌≡◌, ◌∙◌, ℕ, Bool, true, false, max, List, [], ◌∷◌, ◌++◌, map, ap, ap₂, append-nil, arith, refl, sym}
use Rattle.std.specs.Prelude.{if◌then◌else◌}
use Rattle.std.proofs.lemmas.List.{map-append}
use Rattle.std.proofs.lemmas.List.Elements.{All-head, All-tail}
use Rattle.bl_tree.specs.declared.place.Place.{Place}
use Rattle.bl_tree.specs.declared.tree.Arm.{Arm, fold-Arm, fold_out-Arm, fold-roll-Arm, out-Arm}
use Rattle.bl_tree.specs.declared.tree.Branch.{Branch, fold-Branch, fold_out-Branch, fold-roll-Branch, out-Branch, roll-Branch}
use Rattle.bl_tree.specs.declared.tree.Expr.{Expr}
use Rattle.bl_tree.specs.declared.tree.Guard.{Guard}
use Rattle.bl_tree.specs.declared.tree.Stmt.{Stmt, fold-Stmt, fold-roll-Stmt}
use Rattle.bl_tree.specs.declared.tree.StmtKind.{StmtKind, fold-StmtKind, fold-roll-StmtKind}
use Rattle.bl_tree.specs.declared.tree.StmtKind.TheFolds.{map-StmtKind}
use Rattle.bl_tree.specs.declared.tree.StmtKind.TheOpen.{Arm-F, Branch-F, StmtKind-F}
use Rattle.bl_tree.specs.Reduce.{greatest, joined}
use Rattle.bl_tree.proofs.ReduceLemmas.{greatest-append, joined-append}
use Rattle.bl_tree.proofs.StmtInduction.{Cases, Each, EachArm, EachBranch, induct, stmt}
use Rattle.bl_peel.specs.Peeled.{Peeling, deep_of, front_of, made_arm, made_if, peeled, peeling, place_of_expr}
use Rattle.bl_ctree_laws_peeled.proofs.Peeling.{arm_out, branch_out, peeling_at, peeling_of_arm, peeling_of_branch}

abbrev pub Named : Type 0
Named = List ℕ

-- the greatest of what each number that is named counts
abbrev pub most : (ℕ → ℕ) → Named → ℕ
most f named = greatest (map f named)

pub most_both : (f : ℕ → ℕ) (xs ys : Named) → most f (xs ++ ys) ≡ max (most f xs) (most f ys)
most_both f xs ys = ap greatest (map-append f xs ys) ∙ greatest-append (map f xs) (map f ys)

max_same : (a : ℕ) → max a a ≡ a
max_same a = omega arith

max_until : (a b : ℕ) → max b (max (max a 0) (max a b)) ≡ max a b
max_until a b = omega arith

max_while : (a b : ℕ) → max (max a (max b (max a b))) 0 ≡ max a b
max_while a b = omega arith

-- what statements name, from what their parts name
pub record Naming : Type 0 where
  pub kind : StmtKind-F Named Named Named Named → Named
  pub arm : Arm-F Named Named Named Named → Named
  pub branch : Branch-F Named Named Named Named → Named
  -- what a condition names
  pub test : Expr → Named

abbrev pub named_in : Naming → Stmt → Named
named_in n = fold-Stmt Named Named Named Named n.kind n.arm n.branch (λ s. s.what)

-- what names is what stands in the parts, in whatever order
pub record NamesParts (f : ℕ → ℕ) (n : Naming) : Type 0 where
  pub arm : (e : Expr) (body : List Named) → most f (n.arm (record { test = e; body = body })) ≡ max (most f (n.test e)) (most f (joined body))
  pub branch : (weak : Bool) (body : List Named) → most f (n.branch (record { weak = weak; body = body })) ≡ most f (joined body)
  pub branching : (arms other : List Named) → most f (n.kind (StmtKind-F.If arms other)) ≡ max (most f (joined arms)) (most f (joined other))
  pub cobegin : (branches : List Named) → most f (n.kind (StmtKind-F.Cobegin branches)) ≡ most f (joined branches)
  pub when : (guard : Guard) (e : Expr) (body : List Named) →
      most f (n.kind (StmtKind-F.When guard e body)) ≡ max (most f (n.test e)) (most f (joined body))
  pub repeat : (body : List Named) → most f (n.kind (StmtKind-F.Repeat body)) ≡ most f (joined body)
  pub until : (body : List Named) (e : Expr) → most f (n.kind (StmtKind-F.Until body e)) ≡ max (most f (n.test e)) (most f (joined body))
  pub while : (e : Expr) (body : List Named) → most f (n.kind (StmtKind-F.While e body)) ≡ max (most f (n.test e)) (most f (joined body))

module _ (f : ℕ → ℕ) (n : Naming) (is : NamesParts f n) where
  abbrev c : Stmt → Named
  c = named_in n

  abbrev c_arm : Arm → Named
  c_arm = fold-Arm Named Named Named Named n.kind n.arm n.branch (λ s. s.what)

  abbrev c_branch : Branch → Named
  c_branch = fold-Branch Named Named Named Named n.kind n.arm n.branch (λ s. s.what)

  abbrev c_kind : StmtKind → Named
  c_kind = fold-StmtKind Named Named Named Named n.kind n.arm n.branch (λ s. s.what)

  abbrev parts : StmtKind-F StmtKind Arm Branch Stmt → StmtKind-F Named Named Named Named
  parts = map-StmtKind StmtKind Arm Branch Stmt Named Named Named Named c_kind c_arm c_branch c

  at : (place : Place) (layer : StmtKind-F StmtKind Arm Branch Stmt) → c (stmt place layer) ≡ n.kind (parts layer)
  at place layer = rw (fold-roll-Stmt, fold-roll-StmtKind) refl

  abbrev g : Named → ℕ
  g named = most f named

  abbrev block : List Stmt → Named
  block body = joined (map c body)

  g_at : (place : Place) (layer : StmtKind-F StmtKind Arm Branch Stmt) → g (c (stmt place layer)) ≡ g (n.kind (parts layer))
  g_at place layer = ap g (at place layer)

  block_both : (xs ys : List Stmt) → g (block (xs ++ ys)) ≡ max (g (block xs)) (g (block ys))
  block_both xs ys = ap g (ap joined (map-append c xs ys) ∙ joined-append (map c xs) (map c ys)) ∙ most_both f (block xs) (block ys)

  block_one : (s : Stmt) → g (block (s ∷ [])) ≡ g (c s)
  block_one s = ap g (append-nil (c s))

  in_arm : (arm : Arm) → g (c_arm arm) ≡ max (g (n.test (out-Arm arm).test)) (g (block (out-Arm arm).body))
  in_arm arm = ap g (fold_out-Arm Named Named Named Named n.kind n.arm n.branch (λ s. s.what) arm) ∙ is.arm (out-Arm arm).test (map c (out-Arm arm).body)

  in_branch : (branch : Branch) → g (c_branch branch) ≡ g (block (out-Branch branch).body)
  in_branch branch =
      ap g (fold_out-Branch Named Named Named Named n.kind n.arm n.branch (λ s. s.what) branch)
      ∙ is.branch (out-Branch branch).weak (map c (out-Branch branch).body)

  in_made_arm : (e : Expr) (body : List Stmt) → g (c_arm (made_arm e body)) ≡ max (g (n.test e)) (g (block body))
  in_made_arm e body =
      let made : c_arm (made_arm e body) ≡ n.arm (record { test = e; body = map c body }) = rw fold-roll-Arm refl in
      ap g made ∙ is.arm e (map c body)

  in_made_branch : (weak : Bool) (body : List Stmt) → g (c_branch (roll-Branch (record { weak = weak; body = body }))) ≡ g (block body)
  in_made_branch weak body =
      let made : c_branch (roll-Branch (record { weak = weak; body = body })) ≡ n.branch (record { weak = weak; body = map c body }) =
      rw fold-roll-Branch refl in
      ap g made ∙ is.branch weak (map c body)

  in_made_if : (e : Expr) (body other : List Stmt) → g (c (made_if e body other)) ≡ max (max (g (n.test e)) (g (block body))) (g (block other))
  in_made_if e body other =
      g_at (place_of_expr e) (StmtKind-F.If (made_arm e body ∷ []) other) ∙ is.branching (c_arm (made_arm e body) ∷ []) (map c other)
      ∙ ap (λ k. max k (g (block other))) (ap g (append-nil (c_arm (made_arm e body))) ∙ in_made_arm e body)

  -- ---- what becomes of a statement

  record Alike (s : Stmt) (made : Peeling) : Type 0 where
    deep : g (c made.deep) ≡ g (c s)
    front : g (block made.front) ≡ g (c s)

  abbrev P : Stmt → Type 0
  P s = Alike s (peeling s)

  deep_block : (body : List Stmt) → Each P body → g (block (deep_of (map peeling body))) ≡ g (block body)
  deep_block [] each = refl
  deep_block (s ∷ body) each =
      most_both f (c (peeling s).deep) (block (deep_of (map peeling body)))
      ∙ ap₂ max (All-head P s body each).deep (deep_block body (All-tail P s body each)) ∙ sym (most_both f (c s) (block body))

  either : (b : Bool) (one other : List Stmt) (k : ℕ) → g (block one) ≡ k → g (block other) ≡ k → g (block (if b then one else other)) ≡ k
  either true one other k first second = first
  either false one other k first second = second

  front_block : (body : List Stmt) → Each P body → g (block (front_of (map peeling body))) ≡ g (block body)
  front_block [] each = refl
  front_block (s ∷ body) each =
      let tail = All-tail P s body each in
      block_both (peeling s).front (if (peeling s).instant then front_of (map peeling body) else deep_of (map peeling body))
      ∙ ap₂ max (All-head P s body each).front
      (either (peeling s).instant (front_of (map peeling body)) (deep_of (map peeling body)) (g (block body)) (front_block body tail)
      (deep_block body tail))
      ∙ sym (most_both f (c s) (block body))

  -- a statement that stays as it is
  itself : (place : Place) (layer : StmtKind-F StmtKind Arm Branch Stmt) → (peeling (stmt place layer)).deep ≡ stmt place layer →
      (peeling (stmt place layer)).front ≡ stmt place layer ∷ [] → P (stmt place layer)
  itself place layer deep front = record {
    deep = ap (λ s. g (c s)) deep;
    front = ap (λ body. g (block body)) front ∙ block_one (stmt place layer);
  }

  -- one that becomes one statement
  lone : (place : Place) (layer deep front : StmtKind-F StmtKind Arm Branch Stmt) → (peeling (stmt place layer)).deep ≡ stmt place deep →
      (peeling (stmt place layer)).front ≡ stmt place front ∷ [] → g (n.kind (parts deep)) ≡ g (n.kind (parts layer)) →
      g (n.kind (parts front)) ≡ g (n.kind (parts layer)) → P (stmt place layer)
  lone place layer deep front deep_is front_is one other = record {
    deep = ap (λ s. g (c s)) deep_is ∙ g_at place deep ∙ one ∙ sym (g_at place layer);
    front = ap (λ body. g (block body)) front_is ∙ block_one (stmt place front) ∙ g_at place front ∙ other ∙ sym (g_at place layer);
  }

  -- ---- arms and branches

  deep_arms : (arms : List Arm) → EachArm P arms →
      g (joined (map c_arm (map (λ arm. arm.deep) (map peeling_of_arm arms)))) ≡ g (joined (map c_arm arms))
  deep_arms [] each = refl
  deep_arms (arm ∷ arms) each =
      let body = (out-Arm arm).body in
      most_both f (c_arm (peeling_of_arm arm).deep) (joined (map c_arm (map (λ arm. arm.deep) (map peeling_of_arm arms))))
      ∙ ap₂ max
      (ap (λ made. g (c_arm made.deep)) (arm_out arm) ∙ in_made_arm (out-Arm arm).test (deep_of (map peeling body))
      ∙ ap (max (g (n.test (out-Arm arm).test))) (deep_block body (All-head (λ arm. Each P (out-Arm arm).body) arm arms each)) ∙ sym (in_arm arm))
      (deep_arms arms (All-tail (λ arm. Each P (out-Arm arm).body) arm arms each))
      ∙ sym (most_both f (c_arm arm) (joined (map c_arm arms)))

  front_arms : (arms : List Arm) → EachArm P arms →
      g (joined (map c_arm (map (λ arm. arm.front) (map peeling_of_arm arms)))) ≡ g (joined (map c_arm arms))
  front_arms [] each = refl
  front_arms (arm ∷ arms) each =
      let body = (out-Arm arm).body in
      most_both f (c_arm (peeling_of_arm arm).front) (joined (map c_arm (map (λ arm. arm.front) (map peeling_of_arm arms))))
      ∙ ap₂ max
      (ap (λ made. g (c_arm made.front)) (arm_out arm) ∙ in_made_arm (out-Arm arm).test (front_of (map peeling body))
      ∙ ap (max (g (n.test (out-Arm arm).test))) (front_block body (All-head (λ arm. Each P (out-Arm arm).body) arm arms each)) ∙ sym (in_arm arm))
      (front_arms arms (All-tail (λ arm. Each P (out-Arm arm).body) arm arms each))
      ∙ sym (most_both f (c_arm arm) (joined (map c_arm arms)))

  all_branches : (branches : List Branch) → EachBranch P branches →
      g (joined (map c_branch (map (λ branch. branch.branch) (map peeling_of_branch branches)))) ≡ g (joined (map c_branch branches))
  all_branches [] each = refl
  all_branches (branch ∷ branches) each =
      let body = (out-Branch branch).body in
      most_both f (c_branch (peeling_of_branch branch).branch) (joined (map c_branch (map (λ branch. branch.branch) (map peeling_of_branch branches))))
      ∙ ap₂ max
      (ap (λ made. g (c_branch made.branch)) (branch_out branch) ∙ in_made_branch (out-Branch branch).weak (front_of (map peeling body))
      ∙ front_block body (All-head (λ branch. Each P (out-Branch branch).body) branch branches each) ∙ sym (in_branch branch))
      (all_branches branches (All-tail (λ branch. Each P (out-Branch branch).body) branch branches each))
      ∙ sym (most_both f (c_branch branch) (joined (map c_branch branches)))

  -- ---- loops and their first turns

  repeats : (place : Place) (body : List Stmt) → Each P body → P (stmt place (StmtKind-F.Repeat body))
  repeats place body each =
      let deep = deep_of (map peeling body) in
      let front = front_of (map peeling body) in
      let loop = stmt place (StmtKind-F.Repeat deep) in
      let whole : g (c (stmt place (StmtKind-F.Repeat body))) ≡ g (block body) = g_at place (StmtKind-F.Repeat body) ∙ is.repeat (map c body) in
      let inner : g (c loop) ≡ g (block body) = g_at place (StmtKind-F.Repeat deep) ∙ is.repeat (map c deep) ∙ deep_block body each in
      let turn = front_block body each in
      record {
        deep = ap (λ made. g (c made.deep)) (peeling_at place (StmtKind-F.Repeat body)) ∙ inner ∙ sym whole;
        front =
            ap (λ made. g (block made.front)) (peeling_at place (StmtKind-F.Repeat body)) ∙ block_both front (loop ∷ [])
            ∙ ap₂ max turn (block_one loop ∙ inner) ∙ max_same (g (block body)) ∙ sym whole;
      }

  untils : (place : Place) (body : List Stmt) (e : Expr) → Each P body → P (stmt place (StmtKind-F.Until body e))
  untils place body e each =
      let deep = deep_of (map peeling body) in
      let front = front_of (map peeling body) in
      let loop = stmt place (StmtKind-F.Until deep e) in
      let whole : g (c (stmt place (StmtKind-F.Until body e))) ≡ max (g (n.test e)) (g (block body)) =
      g_at place (StmtKind-F.Until body e) ∙ is.until (map c body) e in
      let inner : g (c loop) ≡ max (g (n.test e)) (g (block body)) =
      g_at place (StmtKind-F.Until deep e) ∙ is.until (map c deep) e ∙ ap (max (g (n.test e))) (deep_block body each) in
      let turn = front_block body each in
      record {
        deep = ap (λ made. g (c made.deep)) (peeling_at place (StmtKind-F.Until body e)) ∙ inner ∙ sym whole;
        front =
            ap (λ made. g (block made.front)) (peeling_at place (StmtKind-F.Until body e)) ∙ block_both front (made_if e [] (loop ∷ []) ∷ [])
            ∙ ap₂ max turn (block_one (made_if e [] (loop ∷ [])) ∙ in_made_if e [] (loop ∷ [])
            ∙ ap (max (max (g (n.test e)) (g (block [])))) (block_one loop ∙ inner))
            ∙ max_until (g (n.test e)) (g (block body)) ∙ sym whole;
      }

  whiles : (place : Place) (e : Expr) (body : List Stmt) → Each P body → P (stmt place (StmtKind-F.While e body))
  whiles place e body each =
      let deep = deep_of (map peeling body) in
      let front = front_of (map peeling body) in
      let loop = stmt place (StmtKind-F.While e deep) in
      let whole : g (c (stmt place (StmtKind-F.While e body))) ≡ max (g (n.test e)) (g (block body)) =
      g_at place (StmtKind-F.While e body) ∙ is.while e (map c body) in
      let inner : g (c loop) ≡ max (g (n.test e)) (g (block body)) =
      g_at place (StmtKind-F.While e deep) ∙ is.while e (map c deep) ∙ ap (max (g (n.test e))) (deep_block body each) in
      let turn = front_block body each in
      record {
        deep = ap (λ made. g (c made.deep)) (peeling_at place (StmtKind-F.While e body)) ∙ inner ∙ sym whole;
        front =
            ap (λ made. g (block made.front)) (peeling_at place (StmtKind-F.While e body)) ∙ block_one (made_if e (front ++ loop ∷ []) [])
            ∙ in_made_if e (front ++ loop ∷ []) []
            ∙ ap (λ k. max (max (g (n.test e)) k) (g (block []))) (block_both front (loop ∷ []) ∙ ap₂ max turn (block_one loop ∙ inner))
            ∙ max_while (g (n.test e)) (g (block body)) ∙ sym whole;
      }

  -- ---- all statements

  cases : Cases P
  cases = record {
    declare = λ place k initial. itself place (StmtKind-F.Declare k initial) (ap (λ made. made.deep) (peeling_at place (StmtKind-F.Declare k initial))) (ap (λ made. made.front) (peeling_at place (StmtKind-F.Declare k initial)));
    assign = λ place path e. itself place (StmtKind-F.Assign path e) (ap (λ made. made.deep) (peeling_at place (StmtKind-F.Assign path e))) (ap (λ made. made.front) (peeling_at place (StmtKind-F.Assign path e)));
    call = λ place u inputs outputs. itself place (StmtKind-F.Call u inputs outputs) (ap (λ made. made.deep) (peeling_at place (StmtKind-F.Call u inputs outputs)))
        (ap (λ made. made.front) (peeling_at place (StmtKind-F.Call u inputs outputs)));
    await = λ place e. itself place (StmtKind-F.Await e) (ap (λ made. made.deep) (peeling_at place (StmtKind-F.Await e))) (ap (λ made. made.front) (peeling_at place (StmtKind-F.Await e)));
    run = λ place target a inputs outputs. itself place (StmtKind-F.Run target a inputs outputs) (ap (λ made. made.deep) (peeling_at place (StmtKind-F.Run target a inputs outputs)))
        (ap (λ made. made.front) (peeling_at place (StmtKind-F.Run target a inputs outputs)));
    branching = λ place arms other each others.
        lone place (StmtKind-F.If arms other) (StmtKind-F.If (map (λ arm. arm.deep) (map peeling_of_arm arms)) (deep_of (map peeling other)))
        (StmtKind-F.If (map (λ arm. arm.front) (map peeling_of_arm arms)) (front_of (map peeling other)))
        (ap (λ made. made.deep) (peeling_at place (StmtKind-F.If arms other))) (ap (λ made. made.front) (peeling_at place (StmtKind-F.If arms other)))
        (is.branching _ _ ∙ ap₂ max (deep_arms arms each) (deep_block other others) ∙ sym (is.branching _ _))
        (is.branching _ _ ∙ ap₂ max (front_arms arms each) (front_block other others) ∙ sym (is.branching _ _));
    cobegin = λ place branches each.
        lone place (StmtKind-F.Cobegin branches) (StmtKind-F.Cobegin (map (λ branch. branch.branch) (map peeling_of_branch branches)))
        (StmtKind-F.Cobegin (map (λ branch. branch.branch) (map peeling_of_branch branches)))
        (ap (λ made. made.deep) (peeling_at place (StmtKind-F.Cobegin branches))) (ap (λ made. made.front) (peeling_at place (StmtKind-F.Cobegin branches)))
        (is.cobegin _ ∙ all_branches branches each ∙ sym (is.cobegin _)) (is.cobegin _ ∙ all_branches branches each ∙ sym (is.cobegin _));
    guarded = λ place guard e body each.
        lone place (StmtKind-F.When guard e body) (StmtKind-F.When guard e (deep_of (map peeling body)))
        (StmtKind-F.When guard e (front_of (map peeling body))) (ap (λ made. made.deep) (peeling_at place (StmtKind-F.When guard e body)))
        (ap (λ made. made.front) (peeling_at place (StmtKind-F.When guard e body)))
        (is.when guard e _ ∙ ap (max (g (n.test e))) (deep_block body each) ∙ sym (is.when guard e _))
        (is.when guard e _ ∙ ap (max (g (n.test e))) (front_block body each) ∙ sym (is.when guard e _));
    repeat = repeats;
    until = untils;
    while = whiles;
    returns = λ place e. itself place (StmtKind-F.Return e) (ap (λ made. made.deep) (peeling_at place (StmtKind-F.Return e))) (ap (λ made. made.front) (peeling_at place (StmtKind-F.Return e)));
  }

  each_alike : (body : List Stmt) → Each P body
  each_alike body k s lt = induct P cases _

  -- a peeled body names what the body names
  pub peeled_names : (body : List Stmt) → g (block (peeled body)) ≡ g (block body)
  peeled_names body = deep_block body (each_alike body)
