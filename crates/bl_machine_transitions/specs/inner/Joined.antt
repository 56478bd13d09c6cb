-- What is listed of a construct, where it is known what its parts come to.
use Rattle.std.specs.List.{list_any}
use Rattle.std.specs.Prelude.{◌≡◌, ◌<◌, length, nat_eq, slice_index_or}
use Rattle.std.specs.Prelude.{ℕ, ◌+◌, Bool, true, false, not, ◌&&◌, ◌||◌, List}
use Rattle.std.specs.Prelude.{[], ◌∷◌, ◌++◌, slice_get, unwrap_or, if◌then◌else◌}
use Rattle.bl_tree.specs.declared.tree.Guard.{Guard}
use Rattle.bl_tree.specs.declared.tree.Guard.TheVariants.{Abort, Reset}
use Rattle.bl_machine.specs.declared.slots.Slot.{Slot}
use Rattle.bl_machine_pass.specs.Numbered.{no_slot}
use Rattle.bl_machine_transitions.specs.declared.transition.Age.{Age}
use Rattle.bl_machine_transitions.specs.declared.transition.Age.TheVariants.{New, Old, Any}
use Rattle.bl_machine_transitions.specs.declared.transition.Condition.TheVariants.{RestedIn, Ended}
use Rattle.bl_machine_transitions.specs.declared.transition.Change.{Change}
use Rattle.bl_machine_transitions.specs.declared.transition.Change.TheVariants.{SetCounter, SetFlag}
use Rattle.bl_machine_transitions.specs.declared.transition.Needed.{Needed}
use Rattle.bl_machine_transitions.specs.declared.size.Fork.{Fork}
use Rattle.bl_machine_transitions.specs.declared.size.Size.{Size}
use Rattle.bl_machine_transitions.specs.declared.table.Table.{Table}
use Rattle.bl_machine_transitions.specs.Listed.{Layout, when_body_end, flagged_rule, fork_nodes, forgotten, freed, guard_nodes, mark_change, tested_rule}
use Rattle.bl_machine_transitions.specs.Listed.{resting_rule}
use Rattle.bl_machine_transitions.specs.declared.transition.Silent.TheVariants as silent
use Rattle.bl_machine_transitions.specs.Told.{Nothing, NumberedTransition, Task}

-- the numbers that a table has
abbrev pub layout_in : Table → Layout
layout_in t = record {
  number = λ k. unwrap_or (slice_get t.ranks.now k) t.count;
  slot = λ p. unwrap_or (slice_get t.slots.now p) no_slot;
}

-- ---- how many nodes and resting places

-- a part of which so many nodes stand before those of its body
abbrev pub sized : ℕ → Bool → Size → Size
sized own instant inner = record { nodes = own + inner.nodes; places = inner.places; instant = instant }

-- two parts one after another
abbrev pub then_size : Size → Size → Size
then_size a b = record { nodes = a.nodes + b.nodes; places = a.places + b.places; instant = a.instant && b.instant }

-- two parts of which one is chosen
abbrev pub or_size : Size → Size → Size
or_size a b = record { nodes = a.nodes + b.nodes; places = a.places + b.places; instant = a.instant || b.instant }

-- the size of a `when` with this body
abbrev pub guarded_size : Size → Size
guarded_size body = sized (guard_nodes body.instant) body.instant body

-- branches beside others
abbrev pub join_fork : Fork → Fork → Fork
join_fork a b = record {
  nodes = a.nodes + b.nodes;
  places = a.places + b.places;
  strong = a.strong || b.strong;
  all = a.all && b.all;
  some = a.some || b.some;
}

-- one branch, and none
abbrev pub fork_of : Bool → Size → Fork
fork_of weak body = record {
  nodes = body.nodes;
  places = body.places + 1;
  strong = not weak;
  all = weak || body.instant;
  some = body.instant;
}

abbrev pub no_fork : Fork
no_fork = record { nodes = 0; places = 0; strong = false; all = true; some = false }

-- whether a `cobegin` with these branches may end in the tick in which it begins
abbrev pub fork_instant : Fork → Bool
fork_instant fork = if fork.strong then fork.all else fork.some

-- the `cobegin`
abbrev pub fork_size : Fork → Size
fork_size fork = record { nodes = fork_nodes (fork_instant fork) + fork.nodes; places = fork.places; instant = fork_instant fork }

-- ---- changes

-- the change where a block is entered, whose first node has the position, if it isn't empty
abbrev pub enter_unless_empty : Layout → Bool → ℕ → Change → Change
enter_unless_empty layout true k next = next
enter_unless_empty layout false k next = SetFlag (layout.number k)

-- a condition that was true, where the body may be empty
abbrev pub fired : Layout → ℕ → Guard → Bool → Change → Change → Change
fired layout k Abort empty ends next = next
fired layout k Reset empty ends next = enter_unless_empty layout empty k ends

-- ---- counters that were found

-- the table says for each counter from the low one on whether it is among those found
abbrev pub Seen : ℕ → List Bool → List ℕ → Type 0
Seen low seen found = (j : ℕ) → j < length seen → slice_index_or seen j false ≡ list_any (nat_eq (low + j)) found

-- ---- rules

-- the rule, where the test is true
abbrev pub where_so : Bool → NumberedTransition → List NumberedTransition
where_so true rule = rule ∷ []
where_so false rule = []

-- the end of a `cobegin` at the node, with these ends and so many places
abbrev pub joined : Layout → ℕ → ℕ → ℕ → Needed → Age → Change → NumberedTransition
joined layout k p places needed age next = record {
  number = layout.number k;
  condition = Ended age needed;
  task = Nothing silent.Join;
  on_true = freed layout p places ++ next ∷ [];
  on_false = [];
}

-- how far behind the first node of a construct its resume node stands
abbrev pub later : Bool → ℕ
later true = 2
later false = 1

-- how far behind the first node of a construct its end in a later tick stands
abbrev pub last : Bool → ℕ
last true = 3
last false = 2

-- the age of a `cobegin` in a later tick
abbrev pub old : Bool → ℕ → Age
old true number = Old number
old false number = Any

-- the ends of a `cobegin` that begins at the node with the position
abbrev pub all_joined : Layout → Bool → ℕ → ℕ → ℕ → Needed → Change → List NumberedTransition
all_joined layout instant k p places needed next =
    where_so instant (joined layout (k + 1) p places needed (New (layout.number k)) next)
    ++ joined layout (k + later instant) p places needed (old instant (layout.number k)) next ∷ []

-- the check of a `when` at the node with the position, of whose body this is known
abbrev pub looked : Layout → ℕ → ℕ → ℕ → List Slot → Task → Change → NumberedTransition
looked layout k p places rests task fires = record {
  number = layout.number k;
  condition = RestedIn rests;
  task = task;
  on_true = forgotten layout p places ++ fires ∷ [];
  on_false = [];
}

-- the nodes of a `when` that begins at the node with the position
abbrev pub watched : Layout → ℕ → ℕ → Guard → Task → Bool → Size → List Slot → Change → List NumberedTransition
watched layout k p guard task empty body rests next =
    let ends = when_body_end layout k body.instant in
    let inner = k + guard_nodes body.instant in
    flagged_rule layout k (Nothing silent.Start) (mark_change body.instant (layout.number k) (enter_unless_empty layout empty inner ends ∷ []))
    ∷ (where_so body.instant (flagged_rule layout (k + 1) (Nothing silent.End) (next ∷ []))
    ++ looked layout (k + later body.instant) p body.places rests task (fired layout inner guard empty ends next)
    ∷ flagged_rule layout (k + last body.instant) (Nothing silent.End) (next ∷ [])
    ∷ [])

-- a node that waits, and one at which the activity is woken
abbrev pub paused : Layout → ℕ → ℕ → Task → Task → Change → List NumberedTransition
paused layout k p first second next =
    flagged_rule layout k first (SetCounter (layout.slot p) ∷ []) ∷ resting_rule layout (k + 1) (layout.slot p) second next ∷ []

-- the nodes of a loop with its test at the end
abbrev pub turned : Layout → ℕ → Task → Bool → Change → List NumberedTransition
turned layout k task empty next =
    flagged_rule layout k (Nothing silent.Head) (enter_unless_empty layout empty (k + 2) (SetFlag (layout.number (k + 1))) ∷ [])
    ∷ tested_rule layout (k + 1) task (next ∷ []) (SetFlag (layout.number k) ∷ [])
    ∷ []
