-- What of a tree waits for its node in a pass of its instance.
use Rattle.std.specs.Prelude.{◌≡◌, ◌⊎◌, true, Option, Some, None}
use Rattle.bl_graph_nodes.specs.Nodes.{CheckAt, Node, TestAt, entry}
use Rattle.bl_graph_nodes.specs.Plain.{Block, Done, Then}
use Rattle.bl_graph_nodes.specs.Steps.{end_node, join_node, run_node}
use Rattle.bl_ctree.specs.Control.{Body, Check}
use Rattle.bl_ctree_laws.specs.Trees.{Pause, Tree, Trees, Watch, Nil, Wait, Test, Idle, Do, Seq, Par, Guard, Run, are_done, beside, no_tree}

-- the node at which an `await` goes on in a later tick
abbrev pub test_of : Pause → Node
test_of s = TestAt s.label s.place s.test

-- the node at which a `when` goes on in a later tick
abbrev pub check_of : Watch → Node
check_of s = CheckAt s.label s.place s.test

-- the node that acts where a block begins: its entry, or the one behind an empty block
abbrev pub first_in : Block → Option Node → Option Node
first_in Done next = next
first_in (Then s rest) next = Some (entry s)

-- the node is the one given by the option
abbrev pub Is : Option Node → Node → Type 0
Is (Some n) m = m ≡ n
Is None m = ⊥

abbrev mutual
  -- Waits c next n: something in the tree waits for its turn at the node n, where `next` is the node that acts when the tree has ended. What begins waits at
  -- its entry, what has ended at what follows it, and what was woken at its resume node. A `cobegin` waits at its join once enough of its branches have ended.
  -- A `run` waits while its inputs are still to be copied: its body and its end belong to that turn
  pub Waits : Tree → Option Node → Node → Type 0
  Waits Nil next n = Is next n
  Waits (Wait s) next n = ⊥
  Waits (Test s) next n = n ≡ test_of s
  Waits (Idle body) next n = ⊥
  Waits (Do s) next n = n ≡ entry s
  Waits (Seq c rest) next n = Waits c (first_in rest next) n
  Waits (Par s stood branches) next n = SomeWaits branches n ⊎ ((are_done branches ≡ true) × (n ≡ join_node stood s.label s.place))
  Waits (Guard s Body stood c) next n = Waits c (Some (end_node stood s.label s.place)) n
  Waits (Guard s Check stood c) next n = (n ≡ check_of s) ⊎ Waits c (Some (end_node stood s.label s.place)) n
  Waits (Run s callee Body stood c) next n = ⊥
  Waits (Run s callee Check stood c) next n = n ≡ run_node stood s.label s.place s.arguments

  -- SomeWaits branches n: something in a branch waits for its turn at the node n
  pub SomeWaits : Trees → Node → Type 0
  SomeWaits no_tree n = ⊥
  SomeWaits (beside weak c branches) n = Waits c None n ⊎ SomeWaits branches n

abbrev mutual
  -- Sleeps c n: something in the tree rested when the tick began, and has not gone on at its resume node
  pub Sleeps : Tree → Node → Type 0
  Sleeps Nil n = ⊥
  Sleeps (Wait s) n = ⊥
  Sleeps (Test s) n = n ≡ test_of s
  Sleeps (Idle body) n = ⊥
  Sleeps (Do s) n = ⊥
  Sleeps (Seq c rest) n = Sleeps c n
  Sleeps (Par s stood branches) n = SomeSleeps branches n
  Sleeps (Guard s Body stood c) n = Sleeps c n
  Sleeps (Guard s Check stood c) n = (n ≡ check_of s) ⊎ Sleeps c n
  Sleeps (Run s callee Body stood c) n = ⊥
  Sleeps (Run s callee Check stood c) n = n ≡ run_node stood s.label s.place s.arguments

  -- SomeSleeps branches n: something in a branch rested when the tick began, and has not gone on at its resume node n
  pub SomeSleeps : Trees → Node → Type 0
  SomeSleeps no_tree n = ⊥
  SomeSleeps (beside weak c branches) n = Sleeps c n ⊎ SomeSleeps branches n
