-- What stands in the trees that may be left of a body: statements of the body, each where its kind may be.
use Rattle.std.proofs.Common.{◌≡◌, ◌∙◌, ℕ, suc, ◌+◌, Bool, List, [], ◌∷◌, ◌++◌, Option, Some, None, refl, sym, ap, subst, arith}
use Rattle.std.specs.Prelude.{⊤, option_map, slice_get, unwrap_or}
use Rattle.bl_tree.proofs.Basics.{none_plus}
use Rattle.bl_tree.specs.declared.tree.Branch.{Branch, out-Branch}
use Rattle.bl_tree.specs.declared.tree.Expr.{Expr}
use Rattle.bl_tree.specs.declared.tree.Guard.{Guard as GuardKind}
use Rattle.bl_tree.specs.declared.tree.Path.{Path}
use Rattle.bl_tree.specs.declared.tree.Stmt.{Stmt}
use Rattle.bl_tree.specs.declared.tree.StmtKind.TheOpen.{StmtKind-F}
use Rattle.bl_tree.specs.declared.tree.Unit.{Unit as UnitDef}
use Rattle.bl_ctree.specs.Control.{Branches, Control, Nil, Wait, Test, Idle, Do, Turn, Seq, Par, Guard, Run, branch, no_branch}
use Rattle.bl_ctree.specs.Instances.{Setting, unit_at}
use Rattle.bl_ctree.specs.Means.{entry_items}
use Rattle.bl_ctree.specs.Positions.{Again, Begin, Item, Located, Position, block_items, body_items, items_from, kind_of}
use Rattle.bl_ctree.specs.Residual as residual
use Rattle.bl_ctree.specs.Residual.{Residual, ResidualEach, ResidualOf, ResidualTree, SplitsAt, here, there}
use Rattle.bl_ctree_laws_plain.proofs.Finding.{HasBlock, Stands, arm_has, branch_block, else_has, further_stands, kind_has, stands_first}
use Rattle.bl_ctree_laws_plain.proofs.Finding.{stmt_at}

-- ---- kinds

pub record IsAwait (s : Located) : Type 0 where
  pub test : Expr
  pub is : kind_of s ≡ StmtKind-F.Await test

pub record IsUntil (s : Located) : Type 0 where
  pub body : List Stmt
  pub test : Expr
  pub is : kind_of s ≡ StmtKind-F.Until body test

pub record IsCobegin (s : Located) : Type 0 where
  pub branches : List Branch
  pub is : kind_of s ≡ StmtKind-F.Cobegin branches

pub record IsWhen (s : Located) : Type 0 where
  pub guard : GuardKind
  pub test : Expr
  pub body : List Stmt
  pub is : kind_of s ≡ StmtKind-F.When guard test body

pub record IsRun (s : Located) : Type 0 where
  pub target : Option Path
  pub unit : ℕ
  pub inputs : List Expr
  pub outputs : List Path
  pub is : kind_of s ≡ StmtKind-F.Run target unit inputs outputs

-- ---- items and trees

-- the item stands in the body: a statement that is to begin, or the test of a `repeat .. until`
abbrev pub ItemStands : List Stmt → Item → Type 0
ItemStands body (Begin s) = Stands body s
ItemStands body (Again s) = Stands body s × IsUntil s

-- each of them does
abbrev pub AllStand : List Stmt → List Item → Type 0
AllStand body [] = ⊤
AllStand body (item ∷ rest) = ItemStands body item × AllStand body rest

-- the statements of the instance's unit
abbrev pub body_of : Setting → ℕ → List Stmt
body_of w i = unwrap_or (option_map (λ (unit : UnitDef). unit.body) (unit_at w i)) []

abbrev mutual
  -- each statement in the tree of the instance stands in the body of its unit, and its kind fits
  pub TreeStands : Setting → ℕ → Control → Type 0
  TreeStands w i Nil = ⊤
  TreeStands w i (Wait s) = Stands (body_of w i) s × IsAwait s
  TreeStands w i (Test s) = Stands (body_of w i) s × IsAwait s
  TreeStands w i (Idle items) = AllStand (body_of w i) items
  TreeStands w i (Do s) = Stands (body_of w i) s
  TreeStands w i (Turn s) = Stands (body_of w i) s × IsUntil s
  TreeStands w i (Seq c rest) = TreeStands w i c × AllStand (body_of w i) rest
  TreeStands w i (Par s stood branches) = Stands (body_of w i) s × IsCobegin s × BranchesStand w i branches
  TreeStands w i (Guard s phase stood c) = Stands (body_of w i) s × IsWhen s × TreeStands w i c
  TreeStands w i (Run s callee phase stood c) = Stands (body_of w i) s × IsRun s × TreeStands w callee c

  -- and so do those in the branches
  pub BranchesStand : Setting → ℕ → Branches → Type 0
  BranchesStand w i no_branch = ⊤
  BranchesStand w i (branch weak c rest) = TreeStands w i c × BranchesStand w i rest

-- ---- blocks

next_number : (k j : ℕ) → suc k + j ≡ k + suc j
next_number k j = omega arith

-- statements stand from a number on
items_stand : (body : List Stmt) (position : Position) (k : ℕ) (xs : List Stmt) →
    ((j : ℕ) → stmt_at body (position ++ (k + j) ∷ []) ≡ slice_get xs j) → AllStand body (items_from position k xs)
items_stand body position k [] at = tt
items_stand body position k (s ∷ rest) at =
    let same : k + 0 ≡ k = omega arith in (
      stands_first body (position ++ k ∷ []) s (ap (λ (n : ℕ). stmt_at body (position ++ n ∷ [])) (sym same) ∙ at 0),
      items_stand body position (suc k) rest
          (λ j. ap (λ (n : ℕ). stmt_at body (position ++ n ∷ [])) (next_number k j) ∙ at (suc j)),
    )

block_stands : (body : List Stmt) (s : Located) (b : ℕ) (block : List Stmt) → HasBlock body s b block → AllStand body (block_items s b block)
block_stands body s b block has =
    items_stand body (s.position ++ b ∷ []) 0 block
    (λ j. ap (λ (n : ℕ). stmt_at body ((s.position ++ b ∷ []) ++ n ∷ [])) (none_plus j) ∙ has.there j)

body_stands : (body : List Stmt) → AllStand body (body_items body)
body_stands body = items_stand body [] 0 body (λ j. ap (λ (n : ℕ). stmt_at body ([] ++ n ∷ [])) (none_plus j))

turn_stands : (body : List Stmt) (items : List Item) (next : Item) → AllStand body items → ItemStands body next → AllStand body (items ++ next ∷ [])
turn_stands body [] next all one = (one, tt)
turn_stands body (item ∷ items) next all one = (all.0, turn_stands body items next all.1 one)

item_there : {item : Item} {rest items : List Item} → SplitsAt item rest items → (body : List Stmt) → AllStand body items → ItemStands body item
item_there here body all = all.0
item_there (there splits) body all = item_there splits body all.1

rest_there : {item : Item} {rest items : List Item} → SplitsAt item rest items → (body : List Stmt) → AllStand body items → AllStand body rest
rest_there here body all = all.1
rest_there (there splits) body all = rest_there splits body all.1

-- the body of what a `run` begins
callee_stands : (w : Setting) (callee : ℕ) (unit : UnitDef) → unit_at w callee ≡ Some unit → AllStand (body_of w callee) (body_items unit.body)
callee_stands w callee unit is =
    subst (λ (body : List Stmt). AllStand body (body_items unit.body))
    (sym (ap (λ (found : Option UnitDef). unwrap_or (option_map (λ (unit : UnitDef). unit.body) found) []) is)) (body_stands unit.body)

-- ---- what may be left

mutual
  left_stands : {w : Setting} {stood : Bool} {i : ℕ} {items : List Item} {c : Control} → Residual w stood i items c → AllStand (body_of w i) items →
      TreeStands w i c
  left_stands residual.nothing all = tt
  left_stands {w} {i = i} (residual.of_last splits of) all = of_stands of (item_there splits (body_of w i) all)
  left_stands {w} {i = i} (residual.of_one splits fit of busy) all =
      (of_stands of (item_there splits (body_of w i) all), rest_there splits (body_of w i) all)

  of_stands : {w : Setting} {stood : Bool} {i : ℕ} {item : Item} {c : Control} → ResidualOf w stood i item c → ItemStands (body_of w i) item →
      TreeStands w i c
  of_stands residual.to_begin stands = stands
  of_stands (residual.to_turn e) stands = stands
  of_stands residual.ended stands = tt
  of_stands (residual.paused {e = e} is) stands = (stands, record { test = e; is = is })
  of_stands (residual.tested {e = e} is) stands = (stands, record { test = e; is = is })
  of_stands {w} {i = i} (residual.of_arm {s = s} {arm = arm} {arms = arms} {other = other} is left) stands =
      left_stands left (block_stands (body_of w i) s s.passed _ (arm_has (body_of w i) s arm arms other stands is))
  of_stands {w} {i = i} (residual.of_further {s = s} {arm = arm} {next = next} {arms = arms} {other = other} is of) stands =
      of_stands of (further_stands (body_of w i) s arm next arms other stands is)
  of_stands {w} {i = i} (residual.of_else {s = s} {arm = arm} {other = other} is left) stands =
      left_stands left (block_stands (body_of w i) s (suc s.passed) other (else_has (body_of w i) s arm other stands is))
  of_stands {w} {i = i} (residual.of_repeat {s = s} {body = body} is left) stands =
      left_stands left (turn_stands (body_of w i) (block_items s 0 body) (Begin s)
      (block_stands (body_of w i) s 0 body (kind_has (body_of w i) s 0 (StmtKind-F.Repeat body) stands refl is)) stands)
  of_stands {w} {i = i} (residual.of_until {s = s} {body = body} {e = e} is left) stands =
      left_stands left (turn_stands (body_of w i) (block_items s 0 body) (Again s)
      (block_stands (body_of w i) s 0 body (kind_has (body_of w i) s 0 (StmtKind-F.Until body e) stands refl is))
      (stands, record { body = body; test = e; is = is }))
  of_stands {w} {i = i} (residual.of_while {s = s} {e = e} {body = body} is left) stands =
      left_stands left (turn_stands (body_of w i) (block_items s 0 body) (Begin s)
      (block_stands (body_of w i) s 0 body (kind_has (body_of w i) s 0 (StmtKind-F.While e body) stands refl is)) stands)
  of_stands (residual.of_again is of) stands = of_stands of stands.0
  of_stands {w} {i = i} (residual.of_par {s = s} {written = written} is around each) stands = (
    stands,
    record { branches = written; is = is },
    each_stands each (λ j. subst (λ (n : ℕ). HasBlock (body_of w i) s n (branch_block written j)) (sym (none_plus j))
        (kind_has (body_of w i) s j (StmtKind-F.Cobegin written) stands refl is)),
  )
  of_stands {w} {i = i} (residual.of_guard {s = s} {guard = guard} {e = e} {body = body} is around check left) stands = (
    stands,
    record { guard = guard; test = e; body = body; is = is },
    left_stands left (block_stands (body_of w i) s 0 body (kind_has (body_of w i) s 0 (StmtKind-F.When guard e body) stands refl is)),
  )
  of_stands {w} (residual.of_run {target = target} {a = a} {inputs = inputs} {outputs = outputs} {callee = callee} {unit = unit} is at of around check left)
      stands = (
        stands,
        record { target = target; unit = a; inputs = inputs; outputs = outputs; is = is },
        left_stands left (callee_stands w callee unit of),
      )

  each_stands : {w : Setting} {stood : Bool} {i : ℕ} {s : Located} {k : ℕ} {written : List Branch} {branches : Branches} →
      ResidualEach w stood i s k written branches → ((j : ℕ) → HasBlock (body_of w i) s (k + j) (branch_block written j)) → BranchesStand w i branches
  each_stands residual.no_branch_left has = tt
  each_stands {w} {i = i} {s = s} {k = k} (residual.one_branch_left {b = b} {written = written} left each) has =
      let same : k + 0 ≡ k = omega arith in (
        left_stands left (block_stands (body_of w i) s k (out-Branch b).body
            (subst (λ (n : ℕ). HasBlock (body_of w i) s n (out-Branch b).body) same (has 0))),
        each_stands each (λ j. subst (λ (n : ℕ). HasBlock (body_of w i) s n (branch_block written j)) (sym (next_number k j)) (has (suc j))),
      )

-- ---- whole trees

-- the items of the entry stand in its body
entry_stands : (w : Setting) → AllStand (body_of w 0) (entry_items w)
entry_stands w = by_unit (unit_at w 0)
  where
    by_unit : (found : Option UnitDef) → AllStand (unwrap_or (option_map (λ (unit : UnitDef). unit.body) found) [])
        (unwrap_or (option_map (λ (unit : UnitDef). body_items unit.body) found) [])
    by_unit None = tt
    by_unit (Some unit) = body_stands unit.body

pub tree_stands : (w : Setting) (c : Control) → ResidualTree w c → TreeStands w 0 c
tree_stands w _ residual.not_begun = entry_stands w
tree_stands w _ (residual.has_begun left) = left_stands left (entry_stands w)
