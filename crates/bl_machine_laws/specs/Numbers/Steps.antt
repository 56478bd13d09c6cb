-- What a turn is made of: steps that could be taken.
use Rattle.std.specs.Prelude.{ℕ, Bool, List, [], ◌∷◌, Option}
use Rattle.bl_graph_nodes.specs.Nodes.{Node}
use Rattle.bl_graph_nodes.specs.Steps.{StepLabel}
use Rattle.bl_ctree.specs.Instances.{Setting}
use Rattle.bl_ctree_laws.specs.Pending.{Deed}
use Rattle.bl_ctree_laws.specs.Steps.{Anyway, Moves}
use Rattle.bl_ctree_laws.specs.Trees.{Tree}
use Rattle.bl_machine_laws.specs.Numbers.Turns.{AnsweredDeed, Passes, Turns}
use Rattle.bl_machine_laws.specs.Numbers.Waiting.{Waits}

-- steps that could be taken one after another, with their deeds and the answers of these
pub data Walks (w : Setting) : ℕ → Tree → List AnsweredDeed → Tree → Type 0 where
  stay : {i : ℕ} {c : Tree} → Walks w i c [] c
  on : {i : ℕ} {c : Tree} {d : Bool} {a : Deed} {n : StepLabel} {c' : Tree} {done : List AnsweredDeed} {c'' : Tree} →
      Moves Anyway w i c d a n c' → Walks w i c' done c'' → Walks w i c (record { deed = a; answer = d } ∷ done) c''

-- turns and passes are made of steps that could be taken one after another
pub record TurnsAreWalks : Type 0 where
  pub turns : (w : Setting) (rank : ℕ → Node → ℕ) (i : ℕ) (c : Tree) (done : List AnsweredDeed) (n : Node) (c' : Tree) →
      Turns w rank i c done n c' → Walks w i c done c'
  pub passes : (w : Setting) (rank : ℕ → Node → ℕ) (i k : ℕ) (c : Tree) (done : List AnsweredDeed) (c' : Tree) →
      Passes w rank i k c done c' → Walks w i c done c'

-- what has a turn waits for it, whatever follows the tree
abbrev pub TurnsWait : Type 0
TurnsWait =
    (w : Setting) (rank : ℕ → Node → ℕ) (i : ℕ) (c : Tree) (done : List AnsweredDeed) (n : Node) (c' : Tree) (next : Option Node) →
    Turns w rank i c done n c' → Waits c next n
