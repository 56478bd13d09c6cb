-- Trees in which a `when` whose condition is still to be tested stands over what rested.
use Rattle.std.specs.Prelude.{◌≡◌, ℕ, true, List, Bool, None, ⊤}
use Rattle.bl_graph_nodes.specs.Nodes.{Node}
use Rattle.bl_graph_nodes.specs.Plain.{Block}
use Rattle.bl_ctree.specs.Control.{Body, Check}
use Rattle.bl_ctree.specs.Instances.{Setting}
use Rattle.bl_ctree_laws.specs.Trees.{Tree, Trees, Nil, Wait, Test, Idle, Do, Seq, Par, Guard, Run, beside, do_block, is_settled, no_tree, woken}
use Rattle.bl_ctree_laws_traces.specs.Progress.FitsGraph.{FitsGraph}
use Rattle.bl_ctree_laws_traces.specs.Progress.Places.{whole}
use Rattle.bl_machine_laws.specs.Numbers.Turns.{AnsweredDeed, Turns}
use Rattle.bl_machine_laws.specs.Numbers.Waiting.{Sleeps, Waits}

abbrev mutual
  -- under each `when` whose condition is still to be tested nothing waits but what rested when the tick began
  pub Dozes : Tree → Type 0
  Dozes Nil = ⊤
  Dozes (Wait s) = ⊤
  Dozes (Test s) = ⊤
  Dozes (Idle body) = ⊤
  Dozes (Do s) = ⊤
  Dozes (Seq c rest) = Dozes c
  Dozes (Par s stood branches) = AllDoze branches
  Dozes (Guard s Body stood c) = Dozes c
  Dozes (Guard s Check stood c) = ((n : Node) → Waits c None n → Sleeps c n) × Dozes c
  Dozes (Run s callee phase stood c) = ⊤

  -- only what rested when the tick began waits under each untested `when` of the branches
  pub AllDoze : Trees → Type 0
  AllDoze no_tree = ⊤
  AllDoze (beside weak c branches) = Dozes c × AllDoze branches

-- a body that begins is dozing, so is a tree that rested once it is woken, and each turn keeps this
pub record StaysDozing : Type 0 where
  pub begins : (body : Block) → Dozes (do_block body)
  pub wakes : (w : Setting) (i : ℕ) (stood : Bool) (body : Block) (c : Tree) → FitsGraph w i c (whole stood body) → is_settled c ≡ true → Dozes (woken c)
  pub turns : (w : Setting) (rank : ℕ → Node → ℕ) (i : ℕ) (c : Tree) (done : List AnsweredDeed) (n : Node) (c' : Tree) →
      Turns w rank i c done n c' → Dozes c → Dozes c'
