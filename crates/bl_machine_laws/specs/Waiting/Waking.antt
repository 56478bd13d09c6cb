-- Waking a tree that stands in the tick graph of its body.
use Rattle.std.specs.Prelude.{◌≡◌, ℕ, Bool, true, None}
use Rattle.bl_graph_nodes.specs.Nodes.{Node}
use Rattle.bl_graph_nodes.specs.Plain.{Block}
use Rattle.bl_ctree.specs.Instances.{Setting}
use Rattle.bl_ctree_laws.specs.Trees.{Tree, is_settled, woken}
use Rattle.bl_ctree_laws_traces.specs.Progress.FitsGraph.{FitsGraph}
use Rattle.bl_ctree_laws_traces.specs.Progress.Places.{whole}
use Rattle.bl_machine.specs.Uses.{Slots}
use Rattle.bl_machine_laws.specs.Numbers.Numbers.{Over, numbers_of}
use Rattle.bl_machine_laws.specs.Numbers.Waiting.{Sleeps, Waits}

-- only what rested waits when a tick goes on, each part at its resume node
abbrev pub WokenRested : Type 0
WokenRested =
    (w : Setting) (i : ℕ) (stood : Bool) (body : Block) (c : Tree) (n : Node) → FitsGraph w i c (whole stood body) → is_settled c ≡ true →
    Waits (woken c) None n → Sleeps (woken c) n

-- waking a tree leaves its numbers
abbrev pub WakingKeepsNumbers : Type 0
WakingKeepsNumbers =
    (w : Setting) (i : ℕ) (stood : Bool) (body : Block) (slots : Slots) (c : Tree) (counter : ℕ) → FitsGraph w i c (whole stood body) →
    numbers_of slots (woken c) Over counter ≡ numbers_of slots c Over counter
