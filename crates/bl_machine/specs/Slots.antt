-- Numbers for resting places: a counter, and the value that it has while the activity rests there.
use Rattle.std.specs.Prelude.{◌≡◌, ℕ, suc, List, [], ◌∷◌, ◌++◌, count_by, length, map, nat_eq, slice_index}
use Rattle.bl_graph_nodes.specs.Plain.{Block}
use Rattle.bl_machine.specs.declared.slots.Slot.{Slot}
use Rattle.bl_machine.specs.Counters.{AllRestAt}
use Rattle.bl_machine.specs.Layout.{places_in}

-- the counter of each
abbrev pub counters_at : List Slot → List ℕ
counters_at slots = map (λ slot. slot.counter) slots

-- how often the counter stands among these
abbrev pub times : ℕ → List ℕ → ℕ
times counter counters = count_by (λ other. nat_eq other counter) counters

-- the values of each counter count up from one behind those that it had before
abbrev pub numbered_after : List ℕ → List ℕ → List Slot
numbered_after before [] = []
numbered_after before (counter ∷ rest) = record { counter = counter; value = suc (times counter before) } ∷ numbered_after (before ++ counter ∷ []) rest

-- the values of each counter count up from one, so no two places have one number, and 0 is the number of none
abbrev pub numbered_slots : List ℕ → List Slot
numbered_slots counters = numbered_after [] counters

-- the places of the body have these numbers, one each: whatever rests one after another or instead of one another is at one counter, and
-- branches that rest at once are at different ones
pub record Counters (body : Block) (slots : List Slot) : Type 0 where
  pub one_each : length slots ≡ places_in body
  pub rest : AllRestAt (slice_index (counters_at slots)) 0 0 body
  pub values : slots ≡ numbered_slots (counters_at slots)
