-- What a pass keeps of where its instance stands, and how the changes of its rules change it.
use Rattle.std.specs.List.{list_all, list_any}
use Rattle.std.specs.Prelude.{ℕ, Bool, true, false, ◌&&◌, not, List, [], ◌∷◌, if◌then◌else◌, nat_eq}
use Rattle.bl_graph_nodes.specs.Nodes.{Node}
use Rattle.bl_machine.specs.declared.slots.Slot.{Slot}
use Rattle.bl_machine_pass.specs.Transitions.{Age, Change, Condition, Needed, Transition}
use Rattle.bl_machine_pass.specs.Transitions.{ClearsBoth, ClearsCounter, Ended, EndsWhen, Finishes, Flagged, IsAny, IsNew, IsOld, Rested, RestedIn, SetsCounter, SetsFlag, SetsMark}

-- the registers of a pass, by the numbers of nodes, which differ for the nodes of a body
pub record Registers : Type 0 where
  -- what each counter of the instance holds: 0 where it doesn't rest there
  pub counters : ℕ → ℕ
  -- what each counter held when the tick began, where that still matters
  pub rested : ℕ → ℕ
  -- the nodes that wait by their flags, or have had their turn
  pub flags : ℕ → Bool
  -- the `cobegin`s and `when`s that have begun in this tick, by the numbers of their first nodes
  pub marks : ℕ → Bool
  -- whether the body has ended
  pub over : Bool

-- a function with another value at one number
abbrev pub with_at : {X : Type 0} → ℕ → X → (ℕ → X) → ℕ → X
with_at k x f j = if nat_eq j k then x else f j

-- ---- changes

-- the registers with a flag set
abbrev pub with_flag : ℕ → Registers → Registers
with_flag k r = record { counters = r.counters; rested = r.rested; flags = with_at k true r.flags; marks = r.marks; over = r.over }

-- the registers with a counter that holds the value
abbrev pub with_counter : ℕ → ℕ → Registers → Registers
with_counter k v r = record { counters = with_at k v r.counters; rested = r.rested; flags = r.flags; marks = r.marks; over = r.over }

-- the registers with a counter that neither holds nor held a place
abbrev pub with_none : ℕ → Registers → Registers
with_none k r = record { counters = with_at k 0 r.counters; rested = with_at k 0 r.rested; flags = r.flags; marks = r.marks; over = r.over }

-- the registers with a mark
abbrev pub with_mark : ℕ → Registers → Registers
with_mark k r = record { counters = r.counters; rested = r.rested; flags = r.flags; marks = with_at k true r.marks; over = r.over }

-- the registers with the body at its end
abbrev pub finished : Registers → Registers
finished r = record { counters = r.counters; rested = r.rested; flags = r.flags; marks = r.marks; over = true }

-- the registers after a change, where nodes have these numbers
abbrev pub changed : (Node → ℕ) → Change → Registers → Registers
changed number (SetsFlag n) r = with_flag (number n) r
changed number (SetsCounter slot) r = with_counter slot.counter slot.value r
changed number (ClearsCounter k) r = with_counter k 0 r
changed number (ClearsBoth k) r = with_none k r
changed number (SetsMark n) r = with_mark (number n) r
changed number (EndsWhen start surface depth) r = if r.marks (number start) then with_flag (number surface) r else with_flag (number depth) r
changed number Finishes r = finished r

-- changes one after another
abbrev pub all_changed : (Node → ℕ) → List Change → Registers → Registers
all_changed number [] r = r
all_changed number (change ∷ rest) r = all_changed number rest (changed number change r)

-- the registers after a rule whose node has acted with this answer
abbrev pub after_rule : (Node → ℕ) → Transition → Bool → Registers → Registers
after_rule number rule answer r = all_changed number (if answer then rule.on_true else rule.on_false) r

-- ---- what is asked

-- whether the counter holds the number
abbrev pub is_at : (ℕ → ℕ) → Slot → Bool
is_at counters slot = nat_eq (counters slot.counter) slot.value

-- whether as many branches rest at their ends as are needed
abbrev pub are_ended : (ℕ → ℕ) → Needed → Bool
are_ended counters needed = if needed.all then list_all (is_at counters) needed.slots else list_any (is_at counters) needed.slots

-- whether a `cobegin` is of that age
abbrev pub is_aged : (Node → ℕ) → (ℕ → Bool) → Age → Bool
is_aged number marks (IsNew n) = marks (number n)
is_aged number marks (IsOld n) = not (marks (number n))
is_aged number marks IsAny = true

-- whether the answer to what is asked before a node acts is true
abbrev pub due_by : (Node → ℕ) → Registers → Node → Condition → Bool
due_by number r n Flagged = r.flags (number n)
due_by number r n (Rested slot) = is_at r.rested slot
due_by number r n (RestedIn slots) = list_any (is_at r.rested) slots
due_by number r n (Ended age needed) = is_aged number r.marks age && are_ended r.counters needed

-- whether the node of a rule is to act
abbrev pub is_due : (Node → ℕ) → Transition → Registers → Bool
is_due number rule r = due_by number r rule.node rule.condition

-- ---- the start of a pass

-- the registers at the start of a pass: counters hold these values, only the given flags are set, no mark is, and the body has not ended
abbrev pub started : (ℕ → ℕ) → (ℕ → Bool) → Registers
started counters flags = record { counters = counters; rested = counters; flags = flags; marks = λ k. false; over = false }
