-- Control trees: what of a program is paused, has begun or is to begin.
use Rattle.std.specs.Prelude.{ℕ, suc, Bool, true, false, not, ◌&&◌, ◌||◌, List, [], ◌∷◌, if◌then◌else◌}
use Rattle.bl_tree.specs.declared.tree.Branch.{Branch, out-Branch}
use Rattle.bl_ctree.specs.Positions.{Located, Item, Begin, Again, block_items}

-- the phase of a Guard or Run in a tick; Check: the condition or the inputs are still to be evaluated
pub data Phase : Type 0 where
  Check : Phase
  Body : Phase

-- A control tree: each node has its statement; `stood` of a Par, Guard or Run says that it stood when the tick began.
mutual
  -- what of a statement, a list of statements or an activity is left
  pub data Control : Type 0 where
    -- a part that has ended
    Nil : Control
    -- a part that paused at an `await`
    Wait : Located → Control
    -- an `await` that was woken
    Test : Located → Control
    -- the whole tree before the first tick: the entry's body
    Idle : List Item → Control
    -- a statement that is to begin
    Do : Located → Control
    -- the test of a `repeat .. until`
    Turn : Located → Control
    -- the rest follows when the tree has ended
    Seq : Control → List Item → Control
    -- the branches of a `cobegin`
    Par : Located → (stood : Bool) → Branches → Control
    -- a `when` over what of its body is left
    Guard : Located → Phase → (stood : Bool) → Control → Control
    -- a `run`, the instance that it began, and what of its body is left
    Run : Located → ℕ → Phase → (stood : Bool) → Control → Control

  -- the branches of a `cobegin`, in source order
  pub data Branches : Type 0 where
    no_branch : Branches
    -- a branch, weak or not, before further ones
    branch : (weak : Bool) → Control → Branches → Branches

-- ---- equalities: an empty list is Nil, what follows Nil is the rest, and an empty rest vanishes

-- an item that is to begin
abbrev pub do_item : Item → Control
do_item (Begin s) = Do s
do_item (Again s) = Turn s

-- a tree and what follows it, where the tree hasn't ended
abbrev pub followed : Control → List Item → Control
followed c [] = c
followed c (item ∷ rest) = Seq c (item ∷ rest)

-- a list that is to begin
abbrev pub do_all : List Item → Control
do_all [] = Nil
do_all (item ∷ rest) = followed (do_item item) rest

-- a tree and what follows it
abbrev pub seq : Control → List Item → Control
seq Nil rest = do_all rest
seq c rest = followed c rest

-- the branches of a `cobegin` as they begin, from the one with number k on
abbrev pub branches_begun : Located → ℕ → List Branch → Branches
branches_begun s k [] = no_branch
branches_begun s k (b ∷ rest) = branch (out-Branch b).weak (do_all (block_items s k (out-Branch b).body)) (branches_begun s (suc k) rest)

-- ---- settled: all that is due only has to end, such as a Par of finished branches, or a Guard or Run over Nil

-- whether the tree has ended
abbrev pub is_nil : Control → Bool
is_nil Nil = true
is_nil _ = false

-- whether some branch is strong
abbrev pub has_strong : Branches → Bool
has_strong no_branch = false
has_strong (branch weak c rest) = not weak || has_strong rest

-- whether all strong branches have ended
abbrev pub strong_ended : Branches → Bool
strong_ended no_branch = true
strong_ended (branch weak c rest) = (weak || is_nil c) && strong_ended rest

-- whether some branch has ended
abbrev pub some_ended : Branches → Bool
some_ended no_branch = false
some_ended (branch weak c rest) = is_nil c || some_ended rest

-- whether so many have ended that the `cobegin` ends: all strong ones, or some one where none is strong
abbrev pub are_done : Branches → Bool
are_done branches = if has_strong branches then strong_ended branches else some_ended branches

-- whether a Guard or a Run let its body go on in this tick
abbrev pub in_body : Phase → Bool
in_body Check = false
in_body Body = true

abbrev mutual
  -- nothing is left to do in this tick
  pub is_settled : Control → Bool
  is_settled Nil = true
  is_settled (Wait s) = true
  is_settled (Test s) = false
  is_settled (Idle items) = true
  is_settled (Do s) = false
  is_settled (Turn s) = false
  is_settled (Seq c rest) = is_settled c
  is_settled (Par s stood branches) = are_settled branches && not (are_done branches)
  is_settled (Guard s phase stood c) = in_body phase && (is_settled c && not (is_nil c))
  is_settled (Run s i phase stood c) = in_body phase && (is_settled c && not (is_nil c))

  -- each branch is settled
  pub are_settled : Branches → Bool
  are_settled no_branch = true
  are_settled (branch weak c rest) = is_settled c && are_settled rest

-- ---- the start of a tick

abbrev mutual
  -- Idle begins, each Wait is tested, each Guard checks and each Run copies its inputs
  pub woken : Control → Control
  woken Nil = Nil
  woken (Wait s) = Test s
  woken (Test s) = Test s
  woken (Idle items) = do_all items
  woken (Do s) = Do s
  woken (Turn s) = Turn s
  woken (Seq c rest) = seq (woken c) rest
  woken (Par s stood branches) = Par s true (all_woken branches)
  woken (Guard s phase stood c) = Guard s Check true (woken c)
  woken (Run s i phase stood c) = Run s i Check true (woken c)

  -- each branch is woken
  pub all_woken : Branches → Branches
  all_woken no_branch = no_branch
  all_woken (branch weak c rest) = branch weak (woken c) (all_woken rest)

-- ---- between ticks

abbrev mutual
  -- the tree without its `stood` marks, which waking sets anew: trees between ticks are compared up to them
  pub forget : Control → Control
  forget Nil = Nil
  forget (Wait s) = Wait s
  forget (Test s) = Test s
  forget (Idle items) = Idle items
  forget (Do s) = Do s
  forget (Turn s) = Turn s
  forget (Seq c rest) = Seq (forget c) rest
  forget (Par s stood branches) = Par s false (all_forgotten branches)
  forget (Guard s phase stood c) = Guard s phase false (forget c)
  forget (Run s i phase stood c) = Run s i phase false (forget c)

  -- the branches without their `stood` marks
  pub all_forgotten : Branches → Branches
  all_forgotten no_branch = no_branch
  all_forgotten (branch weak c rest) = branch weak (forget c) (all_forgotten rest)
