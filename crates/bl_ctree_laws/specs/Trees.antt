-- Control trees over plain statements: each node has what it needs of its statement, so no tree is made of a wrong one.
use Rattle.std.specs.Prelude.{ℕ, Bool, true, false, not, ◌&&◌, ◌||◌, if◌then◌else◌}
use Rattle.bl_tree.specs.declared.place.Place.{Place}
use Rattle.bl_tree.specs.declared.tree.Expr.{Expr}
use Rattle.bl_tree.specs.declared.tree.Guard.{Guard as GuardKind}
use Rattle.bl_graph_nodes.specs.Nodes.{Arguments}
use Rattle.bl_graph_nodes.specs.Plain.{Block, Bodies, Label, Plain, Body as BodyOf, Done, Last, Then}
use Rattle.bl_ctree.specs.Control.{Phase, Check, Body}

-- an `await`
pub record Pause : Type 0 where
  pub label : Label
  pub place : Place
  pub test : Expr

-- a `cobegin`, with its branches as they are written
pub record Fork : Type 0 where
  pub label : Label
  pub place : Place
  pub bodies : Bodies

-- a `when`, with its body as it is written
pub record Watch : Type 0 where
  pub label : Label
  pub place : Place
  pub guard : GuardKind
  pub test : Expr
  pub body : Block

-- a `run` of the activity at this position
pub record Call : Type 0 where
  pub label : Label
  pub place : Place
  pub unit : ℕ
  pub arguments : Arguments

-- `stood` of a Par, a Guard and a Run says that it stood in the tree when the tick began
mutual
  -- a control tree
  pub data Tree : Type 0 where
    -- a part that has ended
    Nil : Tree
    -- a part that paused at an `await`
    Wait : Pause → Tree
    -- an `await` that was woken
    Test : Pause → Tree
    -- the whole tree before the first tick: the entry's body
    Idle : Block → Tree
    -- a statement that is to begin
    Do : Plain → Tree
    -- the rest follows when the tree has ended
    Seq : Tree → Block → Tree
    -- the branches of a `cobegin`
    Par : Fork → (stood : Bool) → Trees → Tree
    -- a `when` over what of its body is left
    Guard : Watch → Phase → (stood : Bool) → Tree → Tree
    -- a `run`, the instance that it began, and what of its body is left
    Run : Call → ℕ → Phase → (stood : Bool) → Tree → Tree

  -- the branches of a `cobegin`
  pub data Trees : Type 0 where
    no_tree : Trees
    -- a branch, weak or not, beside further ones
    beside : (weak : Bool) → Tree → Trees → Trees

-- ---- an empty block is Nil, what follows Nil is the rest, and an empty rest vanishes

-- a tree and what follows it, where the tree has not ended
abbrev pub followed : Tree → Block → Tree
followed c Done = c
followed c (Then s rest) = Seq c (Then s rest)

-- a block that is to begin
abbrev pub do_block : Block → Tree
do_block Done = Nil
do_block (Then s rest) = followed (Do s) rest

-- a tree and what follows it
abbrev pub seq : Tree → Block → Tree
seq Nil rest = do_block rest
seq c rest = followed c rest

-- the branches of a `cobegin` as they begin
abbrev pub trees_begun : Bodies → Trees
trees_begun Last = no_tree
trees_begun (BodyOf weak body rest) = beside weak (do_block body) (trees_begun rest)

-- a block before another
abbrev pub before : Block → Block → Block
before Done after = after
before (Then s rest) after = Then s (before rest after)

-- ---- settled

-- whether the tree has ended
abbrev pub is_nil : Tree → Bool
is_nil Nil = true
is_nil _ = false

-- whether some branch is strong
abbrev pub has_strong : Trees → Bool
has_strong no_tree = false
has_strong (beside weak c rest) = not weak || has_strong rest

-- whether all strong branches have ended
abbrev pub strong_ended : Trees → Bool
strong_ended no_tree = true
strong_ended (beside weak c rest) = (weak || is_nil c) && strong_ended rest

-- whether some branch has ended
abbrev pub some_ended : Trees → Bool
some_ended no_tree = false
some_ended (beside weak c rest) = is_nil c || some_ended rest

-- whether so many have ended that the `cobegin` ends: all strong ones, or some one where none is strong
abbrev pub are_done : Trees → Bool
are_done branches = if has_strong branches then strong_ended branches else some_ended branches

-- whether the phase is that of the body
abbrev pub in_body : Phase → Bool
in_body Check = false
in_body Body = true

abbrev mutual
  -- nothing is left to do in this tick
  pub is_settled : Tree → Bool
  is_settled Nil = true
  is_settled (Wait s) = true
  is_settled (Test s) = false
  is_settled (Idle body) = true
  is_settled (Do s) = false
  is_settled (Seq c rest) = is_settled c
  is_settled (Par s stood branches) = are_settled branches && not (are_done branches)
  is_settled (Guard s phase stood c) = in_body phase && (is_settled c && not (is_nil c))
  is_settled (Run s callee phase stood c) = in_body phase && (is_settled c && not (is_nil c))

  -- each branch is settled
  pub are_settled : Trees → Bool
  are_settled no_tree = true
  are_settled (beside weak c rest) = is_settled c && are_settled rest

-- ---- the start of a tick

abbrev mutual
  -- Idle begins, each Wait is tested, each Guard checks and each Run copies its inputs
  pub woken : Tree → Tree
  woken Nil = Nil
  woken (Wait s) = Test s
  woken (Test s) = Test s
  woken (Idle body) = do_block body
  woken (Do s) = Do s
  woken (Seq c rest) = Seq (woken c) rest
  woken (Par s stood branches) = Par s true (all_woken branches)
  woken (Guard s phase stood c) = Guard s Check true (woken c)
  woken (Run s callee phase stood c) = Run s callee Check true (woken c)

  -- each branch is woken
  pub all_woken : Trees → Trees
  all_woken no_tree = no_tree
  all_woken (beside weak c rest) = beside weak (woken c) (all_woken rest)
