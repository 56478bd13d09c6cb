-- Two steps that may act in one tree are one step, or steps of different branches, and then they lead to one tree in either
-- order.
use Rattle.std.specs.Prelude.{ℕ, Bool, false, ◌⊎◌, ◌≡◌}
use Rattle.bl_graph_nodes.specs.Plain.{Block}
use Rattle.bl_graph_nodes.specs.Steps.{StepLabel}
use Rattle.bl_ctree.specs.Control.{Body}
use Rattle.bl_ctree.specs.Instances.{Setting}
use Rattle.bl_ctree_laws.specs.Pending.{Deed, any_meets, meets}
use Rattle.bl_ctree_laws.specs.Shrinks.{Paces}
use Rattle.bl_ctree_laws.specs.Steps.{Moves, OneMoves, Unmet}
use Rattle.bl_ctree_laws.specs.Trees.{Call, Fork, Tree, Trees, Watch, Guard, Par, Run, Seq, beside}

-- two steps of one point: a test has two answers, and each leads to one tree
pub record OneStep (A : Type 0) (d e : Bool) (a b : Deed) (n m : StepLabel) (after after' : A) : Type 0 where
  pub deed : a ≡ b
  pub label : n ≡ m
  pub leads : d ≡ e → after ≡ after'

mutual
  -- two deeds are of steps that may act in different branches of a `cobegin` in the tree
  pub data Apart (w : Setting) : ℕ → Tree → Deed → Deed → Type 0 where
    in_sequence : {i : ℕ} {c : Tree} {rest : Block} {a b : Deed} → Apart w i c a b → Apart w i (Seq c rest) a b
    in_branches : {i : ℕ} {s : Fork} {stood : Bool} {branches : Trees} {a b : Deed} → ApartIn w i branches a b → Apart w i (Par s stood branches) a b
    under_guard : {i : ℕ} {s : Watch} {stood : Bool} {c : Tree} {a b : Deed} → Apart w i c a b → Apart w i (Guard s Body stood c) a b
    under_run : {i : ℕ} {s : Call} {callee : ℕ} {stood : Bool} {c : Tree} {a b : Deed} →
        Apart w callee c a b → Apart w i (Run s callee Body stood c) a b

  -- two deeds are of steps in different branches of a `cobegin`, either within one of the branches or across two of them
  pub data ApartIn (w : Setting) : ℕ → Trees → Deed → Deed → Type 0 where
    in_first : {i : ℕ} {weak : Bool} {c : Tree} {others : Trees} {a b : Deed} → Apart w i c a b → ApartIn w i (beside weak c others) a b
    in_others : {i : ℕ} {weak : Bool} {c : Tree} {others : Trees} {a b : Deed} → ApartIn w i others a b → ApartIn w i (beside weak c others) a b
    left_right : {i : ℕ} {weak : Bool} {c : Tree} {others : Trees} {a b : Deed} {d e : Bool} {n m : StepLabel} {c' : Tree} {others' : Trees} →
        Moves Unmet w i c d a n c' → any_meets w i others a ≡ false → OneMoves Unmet w i others e b m others' → meets w i c b ≡ false →
        ApartIn w i (beside weak c others) a b
    right_left : {i : ℕ} {weak : Bool} {c : Tree} {others : Trees} {a b : Deed} {d e : Bool} {n m : StepLabel} {c' : Tree} {others' : Trees} →
        OneMoves Unmet w i others d a n others' → meets w i c a ≡ false → Moves Unmet w i c e b m c' → any_meets w i others b ≡ false →
        ApartIn w i (beside weak c others) a b

-- two steps of different branches: each may still act after the other, and both orders lead to one tree
pub record Swapped (w : Setting) (i : ℕ) (c : Tree) (d e : Bool) (a b : Deed) (n m : StepLabel) (after after' : Tree) : Type 0 where
  pub both : Tree
  pub second : Moves Unmet w i after e b m both
  pub first : Moves Unmet w i after' d a n both
  pub apart : Apart w i c a b

-- two steps that may act in one tree are one, or are swapped
abbrev pub StepsCommute : Type 0
StepsCommute =
    (w : Setting) (i : ℕ) (c : Tree) (d e : Bool) (a b : Deed) (n m : StepLabel) (after after' : Tree) → Paces w →
    Moves Unmet w i c d a n after → Moves Unmet w i c e b m after' →
    OneStep Tree d e a b n m after after' ⊎ Swapped w i c d e a b n m after after'
