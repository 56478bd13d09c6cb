-- The rules of a body in source order, where nodes and resting places are told by their positions in that order.
use Rattle.std.specs.Prelude.{ℕ, zero, suc, ◌+◌, Bool, true, false, List, [], ◌∷◌, ◌++◌, length, map, nat_eq, slice_get, unwrap_or}
use Rattle.std.specs.Prelude.{if◌then◌else◌}
use Rattle.bl_tree.specs.declared.tree.Guard.{Guard}
use Rattle.bl_tree.specs.declared.tree.Guard.TheVariants.{Abort, Reset}
use Rattle.bl_graph_nodes.specs.Nodes.{are_instant, arguments_of, is_instant, nodes_in, nodes_of, some_strong}
use Rattle.bl_graph_nodes.specs.Plain.{Act, Again, Await, Block, Bodies, Body as BodyOf, Cobegin, Done, If, Last, Plain, Repeat, Run as RunOf, Then, Until}
use Rattle.bl_graph_nodes.specs.Plain.{When, While}
use Rattle.bl_machine.specs.declared.slots.Slot.{Slot}
use Rattle.bl_machine_pass.specs.SlotLayout.{spots_in, spots_of}
use Rattle.bl_machine_pass.specs.Numbered.{no_slot, position_where}
use Rattle.bl_machine_pass.specs.Transitions.{once}
use Rattle.bl_machine_transitions.specs.declared.transition.Age.{Age}
use Rattle.bl_machine_transitions.specs.declared.transition.Age.TheVariants.{New, Old, Any}
use Rattle.bl_machine_transitions.specs.declared.transition.Condition.TheVariants.{Flagged, Rested, RestedIn, Ended}
use Rattle.bl_machine_transitions.specs.declared.transition.Change.{Change}
use Rattle.bl_machine_transitions.specs.declared.transition.Change.TheVariants.{SetFlag, SetCounter, ClearCounter, ClearBoth, SetMark, EndWhen, Finish}
use Rattle.bl_machine_transitions.specs.declared.transition.Needed.{Needed}
use Rattle.bl_machine_transitions.specs.declared.transition.Silent.TheVariants as silent
use Rattle.bl_machine_transitions.specs.Told.{Acts, Enters, Nothing, NumberedTransition, Resumes, Task, Tests}

-- ---- positions

-- the numbers by positions: of nodes, and of the resting places of an instance
pub record Layout : Type 0 where
  pub number : ℕ → ℕ
  pub slot : ℕ → Slot

-- the layout where an order of blocks has the positions of nodes, and a list has the numbers of places in source order
abbrev pub layout_of : List ℕ → List Slot → Layout
layout_of order slots = record {
  number = λ k. position_where (nat_eq k) order;
  slot = λ p. unwrap_or (slice_get slots p) no_slot;
}

-- how many nodes and resting places stand in a block
abbrev pub node_count : Block → ℕ
node_count body = length (nodes_in body)

abbrev pub place_count : Block → ℕ
place_count body = length (spots_in body)

-- how many nodes and resting places stand in a statement
abbrev pub nodes_within : Plain → ℕ
nodes_within s = length (nodes_of s)

abbrev pub places_within : Plain → ℕ
places_within s = length (spots_of s)

-- ---- the resting places of a part, of which the first one has the position

abbrev mutual
  -- the numbers at which a statement rests as long as it is paused; for a `cobegin` those of the first branch
  pub rests_of : Layout → ℕ → Plain → List Slot
  rests_of layout p (Act l s) = []
  rests_of layout p (Await l at e) = layout.slot p ∷ []
  rests_of layout p (RunOf l at target a inputs outputs) = layout.slot p ∷ []
  rests_of layout p (If l at e body other) = rests_in layout p body ++ rests_in layout (p + place_count body) other
  rests_of layout p (Cobegin l at bodies) = rests_in_first layout p bodies
  rests_of layout p (When l at guard e body) = rests_in layout p body
  rests_of layout p (Repeat l at body) = rests_in layout p body
  rests_of layout p (Until l at body e) = rests_in layout p body
  rests_of layout p (While l at e body) = rests_in layout p body
  rests_of layout p (Again l at body e) = rests_in layout p body

  -- the numbers at which a block rests as long as it is paused
  pub rests_in : Layout → ℕ → Block → List Slot
  rests_in layout p Done = []
  rests_in layout p (Then s rest) = rests_of layout p s ++ rests_in layout (p + places_within s) rest

  -- the numbers at which the first branch rests as long as it is paused: its end, which has the position, and those of its body
  pub rests_in_first : Layout → ℕ → Bodies → List Slot
  rests_in_first layout p Last = []
  rests_in_first layout p (BodyOf weak body rest) = layout.slot p ∷ rests_in layout (suc p) body

-- the counters of n places from a position on
abbrev pub counters_from : Layout → ℕ → ℕ → List ℕ
counters_from layout p zero = []
counters_from layout p (suc n) = (layout.slot p).counter ∷ counters_from layout (suc p) n

-- how many places stand in branches, with their ends
abbrev pub places_in_branches : Bodies → ℕ
places_in_branches Last = 0
places_in_branches (BodyOf weak body rest) = suc (place_count body + places_in_branches rest)

-- the numbers of the ends of all branches
abbrev pub endings : Layout → ℕ → Bodies → List Slot
endings layout p Last = []
endings layout p (BodyOf weak body rest) = layout.slot p ∷ endings layout (suc (p + place_count body)) rest

-- the numbers of the ends of strong branches
abbrev pub strong_endings : Layout → ℕ → Bodies → List Slot
strong_endings layout p Last = []
strong_endings layout p (BodyOf weak body rest) =
    if weak then strong_endings layout (suc (p + place_count body)) rest
    else layout.slot p ∷ strong_endings layout (suc (p + place_count body)) rest

-- the ends that a `cobegin` waits for: those of all strong branches, or any one where none is strong
abbrev pub needed : Layout → ℕ → Bodies → Needed
needed layout p bodies =
    if some_strong bodies
    then record { all = true; slots = strong_endings layout p bodies }
    else record { all = false; slots = endings layout p bodies }

-- ---- changes

-- the change where a block is entered, whose first node has the position
abbrev pub enter_block : Layout → ℕ → Block → Change → Change
enter_block layout k Done next = next
enter_block layout k (Then s rest) next = SetFlag (layout.number k)

-- the changes by which branches begin, where the first node and place in them have these positions
abbrev pub enter_each : Layout → ℕ → ℕ → Bodies → List Change
enter_each layout k p Last = []
enter_each layout k p (BodyOf weak body rest) =
    enter_block layout k body (SetCounter (layout.slot p)) ∷ enter_each layout (k + node_count body) (suc (p + place_count body)) rest

-- the change where the body of a `when` ends, which begins at the node with the position
abbrev pub when_body_end : Layout → ℕ → Bool → Change
when_body_end layout k true = EndWhen (layout.number k) (layout.number (k + 1)) (layout.number (k + 3))
when_body_end layout k false = SetFlag (layout.number (k + 2))

-- the change of a condition that was true: `abort` goes on behind the body, and `reset` begins it anew
abbrev pub fires : Layout → ℕ → Guard → Block → Change → Change → Change
fires layout k Abort body ends next = next
fires layout k Reset body ends next = enter_block layout k body ends

-- a mark, where the test is true
abbrev pub mark_change : Bool → ℕ → List Change → List Change
mark_change true number rest = SetMark number ∷ rest
mark_change false number rest = rest

-- the changes that free or forget counters, each once
abbrev pub freed : Layout → ℕ → ℕ → List Change
freed layout p n = map ClearCounter (once (counters_from layout p n))

abbrev pub forgotten : Layout → ℕ → ℕ → List Change
forgotten layout p n = map ClearBoth (once (counters_from layout p n))

-- ---- rules

-- the rule of the node at the position, which waits by its flag and has one way on
abbrev pub flagged_rule : Layout → ℕ → Task → List Change → NumberedTransition
flagged_rule layout k task on_true = record { number = layout.number k; condition = Flagged; task = task; on_true = on_true; on_false = [] }

-- the rule of a node with a test at the position, which waits by its flag
abbrev pub tested_rule : Layout → ℕ → Task → List Change → List Change → NumberedTransition
tested_rule layout k task on_true on_false =
    record { number = layout.number k; condition = Flagged; task = task; on_true = on_true; on_false = on_false }

-- the rule of a node that asks whether the instance rested at the number
abbrev pub resting_rule : Layout → ℕ → Slot → Task → Change → NumberedTransition
resting_rule layout k slot task next =
    record { number = layout.number k; condition = Rested slot; task = task; on_true = next ∷ []; on_false = [] }

-- the rule of the node at which a `cobegin` ends: it asks for the ends of branches, and clears the counters of all their places
abbrev pub joining_rule : Layout → ℕ → ℕ → Bodies → Age → Change → NumberedTransition
joining_rule layout k p bodies age next = record {
  number = layout.number k;
  condition = Ended age (needed layout p bodies);
  task = Nothing silent.Join;
  on_true = freed layout p (places_in_branches bodies) ++ next ∷ [];
  on_false = [];
}

-- the rules of the joins of a `cobegin` that begins at the node with the position: two if it may end in the tick in which it begins
abbrev pub joins_of : Layout → Bool → ℕ → ℕ → Bodies → Change → List NumberedTransition
joins_of layout true k p bodies next =
    joining_rule layout (k + 1) p bodies (New (layout.number k)) next ∷ joining_rule layout (k + 2) p bodies (Old (layout.number k)) next ∷ []
joins_of layout false k p bodies next = joining_rule layout (k + 1) p bodies Any next ∷ []

-- the rule of the check of a `when` at the node with the position, where its body's first node has the second position
abbrev pub checked : Layout → ℕ → ℕ → ℕ → Guard → Task → Block → Change → Change → NumberedTransition
checked layout k inner p guard task body ends next = record {
  number = layout.number k;
  condition = RestedIn (rests_in layout p body);
  task = task;
  on_true = forgotten layout p (place_count body) ++ fires layout inner guard body ends next ∷ [];
  on_false = [];
}

-- the rules of the nodes of a `when` itself, which begins at the node with the position
abbrev pub when_rules : Layout → Bool → ℕ → ℕ → Guard → Task → Block → Change → List NumberedTransition
when_rules layout true k p guard task body next =
    flagged_rule layout k (Nothing silent.Start) (SetMark (layout.number k) ∷ enter_block layout (k + 4) body (when_body_end layout k true) ∷ [])
    ∷ flagged_rule layout (k + 1) (Nothing silent.End) (next ∷ [])
    ∷ checked layout (k + 2) (k + 4) p guard task body (when_body_end layout k true) next
    ∷ flagged_rule layout (k + 3) (Nothing silent.End) (next ∷ [])
    ∷ []
when_rules layout false k p guard task body next =
    flagged_rule layout k (Nothing silent.Start) (enter_block layout (k + 3) body (when_body_end layout k false) ∷ [])
    ∷ checked layout (k + 1) (k + 3) p guard task body (when_body_end layout k false) next
    ∷ flagged_rule layout (k + 2) (Nothing silent.End) (next ∷ [])
    ∷ []

-- the rules of the nodes of a loop with its test at the end, which the change flags
abbrev pub loop_rules : Layout → ℕ → Task → Block → Change → Change → List NumberedTransition
loop_rules layout k task body test next =
    flagged_rule layout k (Nothing silent.Head) (enter_block layout (k + 2) body test ∷ [])
    ∷ tested_rule layout (k + 1) task (next ∷ []) (SetFlag (layout.number k) ∷ [])
    ∷ []

-- how many nodes stand before the branches of a `cobegin`, and before the body of a `when`
abbrev pub fork_nodes : Bool → ℕ
fork_nodes true = 3
fork_nodes false = 2

abbrev pub guard_nodes : Bool → ℕ
guard_nodes true = 4
guard_nodes false = 3

abbrev mutual
  -- the rules of a statement's nodes, in their order, where that change follows the statement. Its first node and place have these positions
  pub rules_of : Layout → ℕ → ℕ → Plain → Change → List NumberedTransition
  rules_of layout k p (Act l s) next = flagged_rule layout k (Acts s) (next ∷ []) ∷ []
  rules_of layout k p (Await l at e) next =
      flagged_rule layout k (Nothing silent.Pause) (SetCounter (layout.slot p) ∷ []) ∷ resting_rule layout (k + 1) (layout.slot p) (Tests e) next ∷ []
  rules_of layout k p (RunOf l at target a inputs outputs) next =
      let arguments = arguments_of target inputs outputs in
      flagged_rule layout k (Enters at a arguments) (SetCounter (layout.slot p) ∷ [])
      ∷ resting_rule layout (k + 1) (layout.slot p) (Resumes at a arguments) next
      ∷ []
  rules_of layout k p (If l at e body other) next =
      let after = k + 1 + node_count body in
      tested_rule layout k (Tests e) (enter_block layout (k + 1) body next ∷ []) (enter_block layout after other next ∷ [])
      ∷ (rules_in layout (k + 1) p body next ++ rules_in layout after (p + place_count body) other next)
  rules_of layout k p (Cobegin l at bodies) next =
      let instant = is_instant (Cobegin l at bodies) in
      let inner = k + fork_nodes instant in
      flagged_rule layout k (Nothing silent.Fork) (mark_change instant (layout.number k) (enter_each layout inner p bodies))
      ∷ (joins_of layout instant k p bodies next ++ rules_in_each layout inner p bodies)
  rules_of layout k p (When l at guard e body) next =
      let instant = are_instant body in
      when_rules layout instant k p guard (Tests e) body next ++ rules_in layout (k + guard_nodes instant) p body (when_body_end layout k instant)
  rules_of layout k p (Repeat l at body) next =
      flagged_rule layout k (Nothing silent.Head) (enter_block layout (k + 1) body (SetFlag (layout.number k)) ∷ [])
      ∷ rules_in layout (k + 1) p body (SetFlag (layout.number k))
  rules_of layout k p (Until l at body e) next =
      loop_rules layout k (Tests e) body (SetFlag (layout.number (k + 1))) next ++ rules_in layout (k + 2) p body (SetFlag (layout.number (k + 1)))
  rules_of layout k p (While l at e body) next =
      tested_rule layout k (Tests e) (enter_block layout (k + 1) body (SetFlag (layout.number k)) ∷ []) (next ∷ [])
      ∷ rules_in layout (k + 1) p body (SetFlag (layout.number k))
  rules_of layout k p (Again l at body e) next =
      loop_rules layout k (Tests e) body (SetFlag (layout.number (k + 1))) next ++ rules_in layout (k + 2) p body (SetFlag (layout.number (k + 1)))

  -- the rules of the nodes of a block, in their order, where that change follows it and its first node and place have these positions
  pub rules_in : Layout → ℕ → ℕ → Block → Change → List NumberedTransition
  rules_in layout k p Done next = []
  rules_in layout k p (Then s rest) next =
      rules_of layout k p s (enter_block layout (k + nodes_within s) rest next)
      ++ rules_in layout (k + nodes_within s) (p + places_within s) rest next

  -- the rules of the nodes of branches, in their order, where the first node and place have these positions
  pub rules_in_each : Layout → ℕ → ℕ → Bodies → List NumberedTransition
  rules_in_each layout k p Last = []
  rules_in_each layout k p (BodyOf weak body rest) =
      rules_in layout k (suc p) body (SetCounter (layout.slot p))
      ++ rules_in_each layout (k + node_count body) (suc (p + place_count body)) rest

-- the rules of the nodes of an activity's body, in their order
abbrev pub listed : Layout → Block → List NumberedTransition
listed layout body = rules_in layout 0 0 body Finish
