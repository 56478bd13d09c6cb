-- What rested when the tick began.
use Rattle.std.specs.Prelude.{ℕ, List, Option}
use Rattle.bl_graph_nodes.specs.Nodes.{Node}
use Rattle.bl_ctree.specs.Instances.{Setting}
use Rattle.bl_ctree_laws.specs.Trees.{Tree}
use Rattle.bl_machine_laws.specs.Numbers.Turns.{AnsweredDeed, Turns}
use Rattle.bl_machine_laws.specs.Numbers.Waiting.{Sleeps, Waits}

-- what rested when the tick began, and has not gone on, waits for its resume node
abbrev pub SleepersWait : Type 0
SleepersWait = (c : Tree) (next : Option Node) (n : Node) → Sleeps c n → Waits c next n

-- what has not gone on after a turn had not before it: no turn puts anything to sleep
abbrev pub TurnsOnlyWake : Type 0
TurnsOnlyWake =
    (w : Setting) (rank : ℕ → Node → ℕ) (i : ℕ) (c : Tree) (done : List AnsweredDeed) (n : Node) (c' : Tree) (y : Node) →
    Turns w rank i c done n c' → Sleeps c' y → Sleeps c y
