-- A tree with a place for another in it, which may act there.
use Rattle.std.proofs.Common.{◌≡◌, ◌⊎◌, inl, inr, ⊎_elim, ℕ, Bool, true, false, not, ◌&&◌, List, refl, sym, ap, ◌∙◌, subst}
use Rattle.bl_tree.proofs.Basics.{second_false, true_false_any}
use Rattle.bl_graph_nodes.specs.Nodes.{Node}
use Rattle.bl_graph_nodes.specs.Plain.{Block, Plain, Then}
use Rattle.bl_graph_nodes.specs.Steps.{StepLabel}
use Rattle.bl_ctree.specs.Control.{Body}
use Rattle.bl_ctree.specs.Instances.{Setting}
use Rattle.bl_ctree.specs.Store.{Store}
use Rattle.bl_ctree_laws.specs.Pending.{Deed}
use Rattle.bl_ctree_laws.specs.Steps as moves
use Rattle.bl_ctree_laws.specs.Steps.{Anyway, Moves, OneMoves}
use Rattle.bl_ctree_laws.specs.Trees.{Fork, Tree, Trees, Watch, Nil, Wait, Test, Idle, Do, Seq, Par, Guard, Run, are_done, are_settled, beside, is_nil}
use Rattle.bl_ctree_laws.specs.Trees.{is_settled, seq}
use Rattle.bl_machine_laws.specs.Numbers.Turns as turns
use Rattle.bl_machine_laws.specs.Numbers.Turns.{AnsweredDeed, OneTurns, Turns}
use Rattle.bl_machine_laws.specs.Passes.Follows as follows
use Rattle.bl_machine_laws.specs.Passes.Follows.{OneTurnSteps, OneTurnTraps, TurnSteps, TurnTraps}
use Rattle.bl_ctree_laws_traces.proofs.OnProgress.Beginning.{seq_unended}

mutual
  -- what stands around a tree that may act
  pub data Hole : Type 0 where
    top : Hole
    in_block : Hole → Plain → Block → Hole
    in_fork : Fork → Bool → Holes → Hole
    in_watch : Watch → Bool → Hole → Hole

  pub data Holes : Type 0 where
    this : Bool → Hole → Trees → Holes
    next : Bool → Tree → Holes → Holes

abbrev mutual
  -- the whole tree
  pub fill : Hole → Tree → Tree
  fill top t = t
  fill (in_block h s rest) t = seq (fill h t) (Then s rest)
  fill (in_fork s stood hs) t = Par s stood (fill_one hs t)
  fill (in_watch s stood h) t = Guard s Body stood (fill h t)

  pub fill_one : Holes → Tree → Trees
  fill_one (this weak h others) t = beside weak (fill h t) others
  fill_one (next weak c hs) t = beside weak c (fill_one hs t)

-- ---- what has not ended, and what is not settled

pub seq_is : (c : Tree) (s : Plain) (rest : Block) → is_nil c ≡ false → seq c (Then s rest) ≡ Seq c (Then s rest)
seq_is Nil s rest e = true_false_any true refl e
seq_is (Wait p) s rest e = refl
seq_is (Test p) s rest e = refl
seq_is (Idle body) s rest e = refl
seq_is (Do p) s rest e = refl
seq_is (Seq c after) s rest e = refl
seq_is (Par p stood branches) s rest e = refl
seq_is (Guard p phase stood c) s rest e = refl
seq_is (Run p callee phase stood c) s rest e = refl

pub unsettled_open : (c : Tree) → is_settled c ≡ false → is_nil c ≡ false
unsettled_open Nil e = true_false_any true refl e
unsettled_open (Wait p) e = refl
unsettled_open (Test p) e = refl
unsettled_open (Idle body) e = refl
unsettled_open (Do p) e = refl
unsettled_open (Seq c after) e = refl
unsettled_open (Par p stood branches) e = refl
unsettled_open (Guard p phase stood c) e = refl
unsettled_open (Run p callee phase stood c) e = refl

pub fill_open : (h : Hole) (t : Tree) → is_nil t ≡ false → is_nil (fill h t) ≡ false
fill_open top t e = e
fill_open (in_block h s rest) t e = seq_unended (fill h t) s rest
fill_open (in_fork s stood hs) t e = refl
fill_open (in_watch s stood h) t e = refl

mutual
  pub fill_left : (h : Hole) (t : Tree) → is_settled t ≡ false → is_settled (fill h t) ≡ false
  fill_left top t e = e
  fill_left (in_block h s rest) t e =
      ap is_settled (seq_is (fill h t) s rest (fill_open h t (unsettled_open t e))) ∙ fill_left h t e
  fill_left (in_fork s stood hs) t e = ap (λ b. b && not (are_done (fill_one hs t))) (fill_one_left hs t e)
  fill_left (in_watch s stood h) t e = ap (λ b. b && not (is_nil (fill h t))) (fill_left h t e)

  fill_one_left : (hs : Holes) (t : Tree) → is_settled t ≡ false → are_settled (fill_one hs t) ≡ false
  fill_one_left (this weak h others) t e = ap (λ b. b && are_settled others) (fill_left h t e)
  fill_one_left (next weak c hs) t e = second_false (is_settled c) (are_settled (fill_one hs t)) (fill_one_left hs t e)

-- ---- what acts in the place acts in the whole tree

module _ {w : Setting} {i : ℕ} {d : Bool} {a : Deed} {n : StepLabel} where
  mutual
    pub lift_moves : (h : Hole) (t t' : Tree) → is_nil t ≡ false → Moves Anyway w i t d a n t' → Moves Anyway w i (fill h t) d a n (fill h t')
    lift_moves top t t' e move = move
    lift_moves (in_block h s rest) t t' e move =
        subst (λ (x : Tree). Moves Anyway w i x d a n (seq (fill h t') (Then s rest))) (sym (seq_is (fill h t) s rest (fill_open h t e)))
        (moves.in_seq (lift_moves h t t' e move))
    lift_moves (in_fork s stood hs) t t' e move = moves.in_par (lift_one_moves hs t t' e move)
    lift_moves (in_watch s stood h) t t' e move = moves.in_guard (lift_moves h t t' e move)

    lift_one_moves : (hs : Holes) (t t' : Tree) → is_nil t ≡ false → Moves Anyway w i t d a n t' →
        OneMoves Anyway w i (fill_one hs t) d a n (fill_one hs t')
    lift_one_moves (this weak h others) t t' e move = moves.first (lift_moves h t t' e move) tt
    lift_one_moves (next weak c hs) t t' e move = moves.later (lift_one_moves hs t t' e move) tt

module _ {w : Setting} {rank : ℕ → Node → ℕ} {i : ℕ} {done : List AnsweredDeed} {n : Node} where
  mutual
    pub lift_turn : (h : Hole) (t t' : Tree) → is_nil t ≡ false → Turns w rank i t done n t' → Turns w rank i (fill h t) done n (fill h t')
    lift_turn top t t' e turn = turn
    lift_turn (in_block h s rest) t t' e turn =
        subst (λ (x : Tree). Turns w rank i x done n (seq (fill h t') (Then s rest))) (sym (seq_is (fill h t) s rest (fill_open h t e)))
        (turns.in_seq (lift_turn h t t' e turn))
    lift_turn (in_fork s stood hs) t t' e turn = turns.in_par (lift_one_turn hs t t' e turn)
    lift_turn (in_watch s stood h) t t' e turn = turns.in_guard (lift_turn h t t' e turn)

    lift_one_turn : (hs : Holes) (t t' : Tree) → is_nil t ≡ false → Turns w rank i t done n t' →
        OneTurns w rank i (fill_one hs t) done n (fill_one hs t')
    lift_one_turn (this weak h others) t t' e turn = turns.first (lift_turn h t t' e turn)
    lift_one_turn (next weak c hs) t t' e turn = turns.later (lift_one_turn hs t t' e turn)

module _ {w : Setting} {rank : ℕ → Node → ℕ} {i : ℕ} {store left : Store} {n : Node} where
  mutual
    pub lift_takes : (h : Hole) (t t' : Tree) → is_nil t ≡ false → TurnSteps w rank i t store n t' left →
        TurnSteps w rank i (fill h t) store n (fill h t') left
    lift_takes top t t' e turn = turn
    lift_takes (in_block h s rest) t t' e turn =
        subst (λ (x : Tree). TurnSteps w rank i x store n (seq (fill h t') (Then s rest)) left) (sym (seq_is (fill h t) s rest (fill_open h t e)))
        (follows.in_seq (lift_takes h t t' e turn))
    lift_takes (in_fork s stood hs) t t' e turn = follows.in_par (lift_one_takes hs t t' e turn)
    lift_takes (in_watch s stood h) t t' e turn = follows.in_guard (lift_takes h t t' e turn)

    lift_one_takes : (hs : Holes) (t t' : Tree) → is_nil t ≡ false → TurnSteps w rank i t store n t' left →
        OneTurnSteps w rank i (fill_one hs t) store n (fill_one hs t') left
    lift_one_takes (this weak h others) t t' e turn = follows.first (lift_takes h t t' e turn)
    lift_one_takes (next weak c hs) t t' e turn = follows.later (lift_one_takes hs t t' e turn)

module _ {w : Setting} {rank : ℕ → Node → ℕ} {i : ℕ} {store : Store} {n : Node} where
  mutual
    pub lift_breaks : (h : Hole) (t : Tree) → is_nil t ≡ false → TurnTraps w rank i t store n → TurnTraps w rank i (fill h t) store n
    lift_breaks top t e turn = turn
    lift_breaks (in_block h s rest) t e turn =
        subst (λ (x : Tree). TurnTraps w rank i x store n) (sym (seq_is (fill h t) s rest (fill_open h t e)))
        (follows.seq_traps (lift_breaks h t e turn))
    lift_breaks (in_fork s stood hs) t e turn = follows.par_traps (lift_one_breaks hs t e turn)
    lift_breaks (in_watch s stood h) t e turn = follows.guard_traps (lift_breaks h t e turn)

    lift_one_breaks : (hs : Holes) (t : Tree) → is_nil t ≡ false → TurnTraps w rank i t store n → OneTurnTraps w rank i (fill_one hs t) store n
    lift_one_breaks (this weak h others) t e turn = follows.first_traps (lift_breaks h t e turn)
    lift_one_breaks (next weak c hs) t e turn = follows.later_traps (lift_one_breaks hs t e turn)

-- ---- what acts in the whole tree acts in the place, or beside it, whatever stands in the place

-- a step with this label could be taken in the tree
pub record Has (w : Setting) (i : ℕ) (c : Tree) (m : StepLabel) : Type 0 where
  pub answer : Bool
  pub deed : Deed
  pub after : Tree
  pub moves : Moves Anyway w i c answer deed m after

-- in one of the branches
record HasOne (w : Setting) (i : ℕ) (branches : Trees) (m : StepLabel) : Type 0 where
  answer : Bool
  deed : Deed
  after : Trees
  moves : OneMoves Anyway w i branches answer deed m after

module _ {w : Setting} {i : ℕ} where
  pub this_has : {c : Tree} {d : Bool} {a : Deed} {m : StepLabel} {c' : Tree} → Moves Anyway w i c d a m c' → Has w i c m
  this_has {d = d} {a = a} {c' = c'} move = record { answer = d; deed = a; after = c'; moves = move }

  one_has : {branches : Trees} {d : Bool} {a : Deed} {m : StepLabel} {branches' : Trees} → OneMoves Anyway w i branches d a m branches' →
      HasOne w i branches m
  one_has {d = d} {a = a} {branches' = branches'} move = record { answer = d; deed = a; after = branches'; moves = move }

  seq_inner : {d : Bool} {a : Deed} {n : StepLabel} {c' : Tree} {c : Tree} {rest : Block} → Moves Anyway w i (Seq c rest) d a n c' → Has w i c n
  seq_inner (moves.in_seq move) = this_has move

  par_inner : {d : Bool} {a : Deed} {n : StepLabel} {c' : Tree} {s : Fork} {stood : Bool} {branches : Trees} →
      are_settled branches ≡ false → Moves Anyway w i (Par s stood branches) d a n c' → HasOne w i branches n
  par_inner {branches = branches} moving (moves.joins settled done) = true_false_any (are_settled branches) settled moving
  par_inner moving (moves.in_par move) = one_has move

  guard_inner : {d : Bool} {a : Deed} {n : StepLabel} {c' : Tree} {s : Watch} {stood : Bool} {c : Tree} → is_settled c ≡ false →
      Moves Anyway w i (Guard s Body stood c) d a n c' → Has w i c n
  guard_inner moving moves.guard_ends = true_false_any true refl moving
  guard_inner moving (moves.in_guard move) = this_has move

  -- of the first branch or of another
  one_inner : {d : Bool} {a : Deed} {n : StepLabel} {branches' : Trees} {weak : Bool} {c : Tree} {others : Trees} →
      OneMoves Anyway w i (beside weak c others) d a n branches' → Has w i c n ⊎ HasOne w i others n
  one_inner (moves.first move free) = inl (this_has move)
  one_inner (moves.later move free) = inr (one_has move)

  mutual
    pub hole_moves : (h : Hole) (t other : Tree) {m : StepLabel} → is_settled t ≡ false → is_nil other ≡ false → Has w i (fill h t) m →
        Has w i t m ⊎ Has w i (fill h other) m
    hole_moves top t other left unended has = inl has
    hole_moves (in_block h s rest) t other {m} left unended has =
        let inner = seq_inner (subst (λ (x : Tree). Moves Anyway w i x has.answer has.deed m has.after)
        (seq_is (fill h t) s rest (fill_open h t (unsettled_open t left))) has.moves) in
        ⊎_elim (λ own. inl own)
        (λ more. inr (this_has (subst (λ (x : Tree). Moves Anyway w i x more.answer more.deed m (seq more.after (Then s rest)))
        (sym (seq_is (fill h other) s rest (fill_open h other unended))) (moves.in_seq more.moves))))
        (hole_moves h t other left unended inner)
    hole_moves (in_fork s stood hs) t other left unended has =
        ⊎_elim (λ own. inl own) (λ more. inr (this_has (moves.in_par more.moves)))
        (holes_move hs t other left unended (par_inner (fill_one_left hs t left) has.moves))
    hole_moves (in_watch s stood h) t other left unended has =
        ⊎_elim (λ own. inl own) (λ more. inr (this_has (moves.in_guard more.moves)))
        (hole_moves h t other left unended (guard_inner (fill_left h t left) has.moves))

    holes_move : (hs : Holes) (t other : Tree) {m : StepLabel} → is_settled t ≡ false → is_nil other ≡ false → HasOne w i (fill_one hs t) m →
        Has w i t m ⊎ HasOne w i (fill_one hs other) m
    holes_move (this weak h others) t other left unended has =
        ⊎_elim
        (λ inner. ⊎_elim (λ own. inl own) (λ more. inr (one_has (moves.first more.moves tt))) (hole_moves h t other left unended inner))
        (λ beyond. inr (one_has (moves.later beyond.moves tt)))
        (one_inner has.moves)
    holes_move (next weak c hs) t other left unended has =
        ⊎_elim
        (λ here. inr (one_has (moves.first here.moves tt)))
        (λ inner. ⊎_elim (λ own. inl own) (λ more. inr (one_has (moves.later more.moves tt))) (holes_move hs t other left unended inner))
        (one_inner has.moves)
