-- The numbers of a tree: what the counters of an instance hold where it stands.
use Rattle.std.specs.Prelude.{ℕ, suc, if◌then◌else◌}
use Rattle.bl_graph_nodes.specs.Nodes.{Node, entry}
use Rattle.bl_graph_nodes.specs.Plain.{Block, Bodies, Body as BodyOf, Done, Label, Last, Then}
use Rattle.bl_ctree_laws.specs.Trees.{Tree, Trees, Nil, Wait, Test, Idle, Do, Seq, Par, Guard, Run, beside, no_tree}
use Rattle.bl_machine.specs.declared.slots.Slot.{Slot}
use Rattle.bl_machine.specs.Uses.{Slots, is_of, uses_in_branch}

-- ---- what follows

-- where an instance goes on after a part of its body has ended
pub data Next : Type 0 where
  -- the instance goes on at this node
  At : Node → Next
  -- the branch has ended and rests at its number
  Rests : Slot → Next
  -- the body of the activity has ended
  Over : Next

-- where an instance goes on in a block: at its entry, or at what follows an empty one
abbrev pub into : Block → Next → Next
into Done next = next
into (Then s rest) next = At (entry s)

-- ---- numbers

-- the value of the number at its counter, and 0 at others
abbrev pub value_at_counter : Slot → ℕ → ℕ
value_at_counter slot counter = if is_of slot counter then slot.value else 0

-- what the counters hold where a part of the body has ended
abbrev pub at_next : Next → ℕ → ℕ
at_next (At n) counter = 0
at_next (Rests slot) counter = value_at_counter slot counter
at_next Over counter = 0

abbrev mutual
  -- the value of a counter of an instance with this tree: that of the place at which the tree rests there, else 0. A `run` has its place in its caller; the
  -- callee has counters of its own
  pub numbers_of : Slots → Tree → Next → ℕ → ℕ
  numbers_of slots Nil next counter = at_next next counter
  numbers_of slots (Wait s) next counter = value_at_counter (slots.rest s.label) counter
  numbers_of slots (Test s) next counter = value_at_counter (slots.rest s.label) counter
  numbers_of slots (Idle body) next counter = 0
  numbers_of slots (Do s) next counter = 0
  numbers_of slots (Seq c rest) next counter = numbers_of slots c (into rest next) counter
  numbers_of slots (Par s stood branches) next counter = numbers_in slots s.label 0 s.bodies branches counter
  numbers_of slots (Guard s phase stood c) next counter = numbers_of slots c Over counter
  numbers_of slots (Run s callee phase stood c) next counter = value_at_counter (slots.rest s.label) counter

  -- the value of a counter of branches: that of the branch that has the counter. A branch that has ended rests at its end
  pub numbers_in : Slots → Label → ℕ → Bodies → Trees → ℕ → ℕ
  numbers_in slots l k (BodyOf weak body bodies) (beside weak' c branches) counter =
      if uses_in_branch slots l k body counter
      then numbers_of slots c (Rests (slots.ending l k)) counter
      else numbers_in slots l (suc k) bodies branches counter
  numbers_in slots l k Last branches counter = 0
  numbers_in slots l k bodies no_tree counter = 0
