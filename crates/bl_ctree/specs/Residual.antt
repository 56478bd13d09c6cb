-- What steps and waking leave of a body: the trees that a run can reach.
use Rattle.std.specs.Prelude.{ℕ, suc, Bool, true, false, List, [], ◌∷◌, Option, Some, ◌≡◌}
use Rattle.bl_tree.specs.declared.tree.Arm.{Arm}
use Rattle.bl_tree.specs.declared.tree.Branch.{Branch, out-Branch}
use Rattle.bl_tree.specs.declared.tree.Expr.{Expr}
use Rattle.bl_tree.specs.declared.tree.Guard.{Guard as GuardKind}
use Rattle.bl_tree.specs.declared.tree.Path.{Path}
use Rattle.bl_tree.specs.declared.tree.Stmt.{Stmt}
use Rattle.bl_tree.specs.declared.tree.StmtKind.TheOpen.{StmtKind-F}
use Rattle.bl_tree.specs.declared.tree.Unit.{Unit as UnitDef}
use Rattle.bl_ctree.specs.Control.{Control, Branches, Nil, Wait, Test, Idle, Do, Turn, Seq, Par, Guard, Run, no_branch, branch, Phase, Check, is_nil}
use Rattle.bl_ctree.specs.Instances.{Setting, callee_of, unit_at}
use Rattle.bl_ctree.specs.Means.{entry_items}
use Rattle.bl_ctree.specs.Positions.{Item, Begin, Again, Located, block_items, body_items, further, kind_of, place_of}
use Rattle.bl_ctree.specs.Steps.{arm_items, else_items, turn_items}

-- each test at the end of a turn is that of a `repeat .. until`
pub data TestsFit : List Item → Type 0 where
  no_item : TestsFit []
  a_begin : {s : Located} {rest : List Item} → TestsFit rest → TestsFit (Begin s ∷ rest)
  an_again : {s : Located} {body : List Stmt} {e : Expr} {rest : List Item} →
      kind_of s ≡ StmtKind-F.Until body e → TestsFit rest → TestsFit (Again s ∷ rest)

-- the item stands in the list, and this is what follows it there
pub data SplitsAt (item : Item) (rest : List Item) : List Item → Type 0 where
  here : SplitsAt item rest (item ∷ rest)
  there : {other : Item} {items : List Item} → SplitsAt item rest items → SplitsAt item rest (other ∷ items)

mutual
  -- a tree is a residual of items in an instance; nothing stands below what has not stood, and there is no Idle in it
  pub data Residual (w : Setting) : (stood : Bool) → ℕ → List Item → Control → Type 0 where
    nothing : {stood : Bool} {i : ℕ} {items : List Item} → Residual w stood i items Nil
    -- a residual of the last item
    of_last : {stood : Bool} {i : ℕ} {item : Item} {items : List Item} {c : Control} →
        SplitsAt item [] items → ResidualOf w stood i item c → Residual w stood i items c
    -- what is left of an item that has still to end, and what follows it
    of_one : {stood : Bool} {i : ℕ} {item next : Item} {rest items : List Item} {c : Control} →
        SplitsAt item (next ∷ rest) items → TestsFit (next ∷ rest) → ResidualOf w stood i item c → is_nil c ≡ false →
        Residual w stood i items (Seq c (next ∷ rest))

  -- a tree is a residual of an item
  pub data ResidualOf (w : Setting) : (stood : Bool) → ℕ → Item → Control → Type 0 where
    to_begin : {stood : Bool} {i : ℕ} {s : Located} → ResidualOf w stood i (Begin s) (Do s)
    to_turn : {stood : Bool} {i : ℕ} {s : Located} {body : List Stmt} {e : Expr} →
        kind_of s ≡ StmtKind-F.Until body e → ResidualOf w stood i (Again s) (Turn s)
    ended : {stood : Bool} {i : ℕ} {item : Item} → ResidualOf w stood i item Nil
    paused : {stood : Bool} {i : ℕ} {s : Located} {e : Expr} → kind_of s ≡ StmtKind-F.Await e → ResidualOf w stood i (Begin s) (Wait s)
    -- a woken `await`, which only a part that stood has
    tested : {i : ℕ} {s : Located} {e : Expr} → kind_of s ≡ StmtKind-F.Await e → ResidualOf w true i (Begin s) (Test s)
    -- the first arm of an `if`
    of_arm : {stood : Bool} {i : ℕ} {s : Located} {arm : Arm} {arms : List Arm} {other : List Stmt} {c : Control} →
        kind_of s ≡ StmtKind-F.If (arm ∷ arms) other → Residual w stood i (arm_items s arm) c → ResidualOf w stood i (Begin s) c
    -- the further arms of an `if`
    of_further : {stood : Bool} {i : ℕ} {s : Located} {arm next : Arm} {arms : List Arm} {other : List Stmt} {c : Control} →
        kind_of s ≡ StmtKind-F.If (arm ∷ next ∷ arms) other → ResidualOf w stood i (Begin (further s next arms other)) c → ResidualOf w stood i (Begin s) c
    -- the `else` of an `if`, after its last arm
    of_else : {stood : Bool} {i : ℕ} {s : Located} {arm : Arm} {other : List Stmt} {c : Control} →
        kind_of s ≡ StmtKind-F.If (arm ∷ []) other → Residual w stood i (else_items s other) c → ResidualOf w stood i (Begin s) c
    -- the body of a loop, with what ends its turn
    of_repeat : {stood : Bool} {i : ℕ} {s : Located} {body : List Stmt} {c : Control} →
        kind_of s ≡ StmtKind-F.Repeat body → Residual w stood i (turn_items s body (Begin s)) c → ResidualOf w stood i (Begin s) c
    of_until : {stood : Bool} {i : ℕ} {s : Located} {body : List Stmt} {e : Expr} {c : Control} →
        kind_of s ≡ StmtKind-F.Until body e → Residual w stood i (turn_items s body (Again s)) c → ResidualOf w stood i (Begin s) c
    of_while : {stood : Bool} {i : ℕ} {s : Located} {e : Expr} {body : List Stmt} {c : Control} →
        kind_of s ≡ StmtKind-F.While e body → Residual w stood i (turn_items s body (Begin s)) c → ResidualOf w stood i (Begin s) c
    -- a loop that begins again after the test at the end of a turn
    of_again : {stood : Bool} {i : ℕ} {s : Located} {body : List Stmt} {e : Expr} {c : Control} →
        kind_of s ≡ StmtKind-F.Until body e → ResidualOf w stood i (Begin s) c → ResidualOf w stood i (Again s) c
    of_par : {around stood : Bool} {i : ℕ} {s : Located} {written : List Branch} {branches : Branches} →
        kind_of s ≡ StmtKind-F.Cobegin written → (stood ≡ true → around ≡ true) → ResidualEach w stood i s 0 written branches →
        ResidualOf w around i (Begin s) (Par s stood branches)
    -- a guard, which is still to be checked only where it stood
    of_guard : {around stood : Bool} {i : ℕ} {s : Located} {guard : GuardKind} {e : Expr} {body : List Stmt} {phase : Phase} {c : Control} →
        kind_of s ≡ StmtKind-F.When guard e body → (stood ≡ true → around ≡ true) → (phase ≡ Check → stood ≡ true) →
        Residual w stood i (block_items s 0 body) c → ResidualOf w around i (Begin s) (Guard s phase stood c)
    -- a Run over the instance that the `run` begins, with a residual of its body
    of_run : {around stood : Bool} {i : ℕ} {s : Located} {target : Option Path} {a : ℕ} {inputs : List Expr} {outputs : List Path}
        {callee : ℕ} {unit : UnitDef} {phase : Phase} {c : Control} →
        kind_of s ≡ StmtKind-F.Run target a inputs outputs → callee_of w i (place_of s) ≡ Some callee → unit_at w callee ≡ Some unit →
        (stood ≡ true → around ≡ true) → (phase ≡ Check → stood ≡ true) → Residual w stood callee (body_items unit.body) c →
        ResidualOf w around i (Begin s) (Run s callee phase stood c)

  -- branch by branch, from the block with number k of the statement on, each weak where its branch is
  pub data ResidualEach (w : Setting) : (stood : Bool) → ℕ → Located → ℕ → List Branch → Branches → Type 0 where
    no_branch_left : {stood : Bool} {i : ℕ} {s : Located} {k : ℕ} → ResidualEach w stood i s k [] no_branch
    one_branch_left : {stood : Bool} {i : ℕ} {s : Located} {k : ℕ} {b : Branch} {written : List Branch} {c : Control} {others : Branches} →
        Residual w stood i (block_items s k (out-Branch b).body) c → ResidualEach w stood i s (suc k) written others →
        ResidualEach w stood i s k (b ∷ written) (branch (out-Branch b).weak c others)

-- what may be left of the entry's body: a whole tree, before the first tick or later
pub data ResidualTree (w : Setting) : Control → Type 0 where
  not_begun : ResidualTree w (Idle (entry_items w))
  has_begun : {stood : Bool} {c : Control} → Residual w stood 0 (entry_items w) c → ResidualTree w c
