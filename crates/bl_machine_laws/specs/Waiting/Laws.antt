-- What waits in trees that stand in the tick graph of their body.
use Rattle.std.specs.Prelude.{◌≡◌, ◌⊎◌, ℕ, Bool, true, false, List, None, ⊤}
use Rattle.bl_tree.specs.declared.tree.Unit.{Unit as UnitDef}
use Rattle.bl_graph_nodes.specs.Nodes.{Node}
use Rattle.bl_graph_nodes.specs.Plain.{Block, plain_body}
use Rattle.bl_graph.specs.Edges.{EdgeAll, In}
use Rattle.bl_graph.specs.Walks.{After}
use Rattle.bl_ctree.specs.Control.{Body, Check}
use Rattle.bl_ctree.specs.Instances.{Setting}
use Rattle.bl_ctree_laws.specs.Shrinks.{Paces}
use Rattle.bl_ctree_laws.specs.Trees.{Tree, Trees, Nil, Wait, Test, Idle, Do, Seq, Par, Guard, Run, beside, is_nil, is_settled, no_tree}
use Rattle.bl_ctree_laws_traces.specs.Progress.FitsGraph.{FitsGraph}
use Rattle.bl_ctree_laws_traces.specs.Progress.Places.{whole}
use Rattle.bl_machine_laws.specs.Numbers.Turns.{AnsweredDeed, Turns}
use Rattle.bl_machine_laws.specs.Numbers.Waiting.{Waits}

-- nothing waits in a tree in which nothing is left to do
abbrev pub SettledIsQuiet : Type 0
SettledIsQuiet =
    (w : Setting) (i : ℕ) (stood : Bool) (body : Block) (c : Tree) (n : Node) → FitsGraph w i c (whole stood body) → is_settled c ≡ true →
    Waits c None n → ⊥

abbrev mutual
  -- each `run` in the tree that has its inputs has been passed: nothing is left to do in what it called
  pub RunsArePassed : Tree → Type 0
  RunsArePassed Nil = ⊤
  RunsArePassed (Wait s) = ⊤
  RunsArePassed (Test s) = ⊤
  RunsArePassed (Idle body) = ⊤
  RunsArePassed (Do s) = ⊤
  RunsArePassed (Seq c rest) = RunsArePassed c
  RunsArePassed (Par s stood branches) = AllPassed branches
  RunsArePassed (Guard s phase stood c) = RunsArePassed c
  RunsArePassed (Run s callee Check stood c) = ⊤
  RunsArePassed (Run s callee Body stood c) = (is_settled c ≡ true) × (is_nil c ≡ false)

  -- each `run` in the branches that has its inputs has been passed
  pub AllPassed : Trees → Type 0
  AllPassed no_tree = ⊤
  AllPassed (beside weak c branches) = RunsArePassed c × AllPassed branches

-- something waits in the tree
pub record SomethingWaits (c : Tree) : Type 0 where
  pub node : Node
  pub waits : Waits c None node

-- a node waits in every tree in which something is left to do and each called instance has had its pass
abbrev pub UnsettledWaits : Type 0
UnsettledWaits =
    (w : Setting) (i : ℕ) (stood : Bool) (body : Block) (c : Tree) → FitsGraph w i c (whole stood body) → RunsArePassed c → is_settled c ≡ false →
    SomethingWaits c

-- what waits is a node of the depth where the body stood when the tick began, else of the surface
abbrev pub WaitsInPart : Type 0
WaitsInPart =
    (w : Setting) (i : ℕ) (stood : Bool) (body : Block) (c : Tree) (n : Node) → FitsGraph w i c (whole stood body) → Waits c None n → In stood body n

-- what waits after a turn waited before it at another node, or control edges lead to it from the turn's node. With numbers that rise along control edges no
-- node waits again after its turn
abbrev pub TurnsLeadOn : Type 0
TurnsLeadOn =
    (w : Setting) (rank : ℕ → Node → ℕ) (i : ℕ) (stood : Bool) (unit : UnitDef) (c : Tree) (done : List AnsweredDeed) (n : Node) (c' : Tree)
    (y : Node) →
    Paces w → FitsGraph w i c (whole stood (plain_body unit.body)) → Turns w rank i c done n c' → Waits c' None y →
    (Waits c None y × (y ≡ n → ⊥)) ⊎ After (EdgeAll (plain_body unit.body)) n y
