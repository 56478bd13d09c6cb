-- Steps each of which is the lowest that could be taken, over a store.
use Rattle.std.specs.Prelude.{◌≡◌, ℕ, Bool, List, [], ◌∷◌, Some, None}
use Rattle.bl_graph_nodes.specs.Nodes.{Node}
use Rattle.bl_graph_nodes.specs.Steps.{StepLabel}
use Rattle.bl_ctree.specs.Instances.{Setting}
use Rattle.bl_ctree.specs.Store.{Store}
use Rattle.bl_ctree_laws.specs.Ends.{done_by}
use Rattle.bl_ctree_laws.specs.Pending.{Deed}
use Rattle.bl_ctree_laws.specs.Steps.{Anyway, Moves}
use Rattle.bl_ctree_laws.specs.Trees.{Tree}
use Rattle.bl_ctree_laws_traces.specs.Ready.Ranks.{Lower, ranks_in}
use Rattle.bl_machine_laws.specs.Numbers.Turns.{AnsweredDeed}

-- no step that could be taken is lower than the one with this label
abbrev pub Lowest : Setting → (ℕ → Node → ℕ) → ℕ → Tree → StepLabel → Type 0
Lowest w rank i c n = (d : Bool) (a : Deed) (m : StepLabel) (c' : Tree) → Moves Anyway w i c d a m c' →
    Lower (ranks_in w rank i m) (ranks_in w rank i n) → ⊥

-- LowSteps w rank i c store done c' store': steps lead from the tree c of the instance i to c', and from the store to store'. Each step is the lowest possible
-- one, and its deed has the answer that the store gives
pub data LowSteps (w : Setting) (rank : ℕ → Node → ℕ) : ℕ → Tree → Store → List AnsweredDeed → Tree → Store → Type 0 where
  stay : {i : ℕ} {c : Tree} {store : Store} → LowSteps w rank i c store [] c store
  on : {i : ℕ} {c : Tree} {store : Store} {d : Bool} {a : Deed} {n : StepLabel} {c' : Tree} {store' : Store} {done : List AnsweredDeed}
      {c'' : Tree} {store'' : Store} →
      Moves Anyway w i c d a n c' → Lowest w rank i c n → done_by w a store ≡ Some (record { answer = d; store = store' }) →
      LowSteps w rank i c' store' done c'' store'' →
      LowSteps w rank i c store (record { deed = a; answer = d } ∷ done) c'' store''

-- steps that are each the lowest possible one lead to a tree and a store in which the lowest step traps
pub record LowTrap (w : Setting) (rank : ℕ → Node → ℕ) (i : ℕ) (c : Tree) (store : Store) : Type 0 where
  pub done : List AnsweredDeed
  pub tree : Tree
  pub left : Store
  pub steps : LowSteps w rank i c store done tree left
  pub answer : Bool
  pub deed : Deed
  pub label : StepLabel
  pub after : Tree
  pub moves : Moves Anyway w i tree answer deed label after
  pub lowest : Lowest w rank i tree label
  pub fails : done_by w deed left ≡ None
