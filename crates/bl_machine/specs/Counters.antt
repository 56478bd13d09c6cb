-- What the counters of resting places keep. Places are told by their numbers in the body, in source order.
use Rattle.std.specs.Prelude.{◌≡◌, ℕ, suc, ◌+◌, ◌<◌, ◌≤◌, ⊤}
use Rattle.bl_graph_nodes.specs.Plain.{Act, Again, Await, Block, Bodies, Body, Cobegin, Done, If, Last, Plain, Repeat, Run, Then, Until, When, While}
use Rattle.bl_machine.specs.Layout.{places_in, places_in_each, resting_places}

-- no place from `first` on and before `middle` has the counter of one from `middle` on and before `last`
abbrev pub AreApart : (ℕ → ℕ) → ℕ → ℕ → ℕ → Type 0
AreApart counter first middle last = (i j : ℕ) → first ≤ i → i < middle → middle ≤ j → j < last → counter i ≡ counter j → ⊥

-- the first branch ends at the counter
abbrev pub BeginsAt : (ℕ → ℕ) → ℕ → ℕ → Bodies → Type 0
BeginsAt counter low first Last = ⊤
BeginsAt counter low first (Body weak body rest) = counter first ≡ low

abbrev mutual
  -- RestsAt counter low first s: the places of the statement are numbered from `first` on, and the statement rests at the counter `low` wherever it is paused.
  -- An `await` and a `run` rest there themselves, and a `cobegin` by its first branch
  pub RestsAt : (ℕ → ℕ) → ℕ → ℕ → Plain → Type 0
  RestsAt counter low first (Act l s) = ⊤
  RestsAt counter low first (Await l at e) = counter first ≡ low
  RestsAt counter low first (Run l at target a inputs outputs) = counter first ≡ low
  RestsAt counter low first (If l at e body other) = AllRestAt counter low first body × AllRestAt counter low (first + places_in body) other
  RestsAt counter low first (Cobegin l at bodies) = BeginsAt counter low first bodies × EachRests counter first bodies
  RestsAt counter low first (When l at guard e body) = AllRestAt counter low first body
  RestsAt counter low first (Repeat l at body) = AllRestAt counter low first body
  RestsAt counter low first (Until l at body e) = AllRestAt counter low first body
  RestsAt counter low first (While l at e body) = AllRestAt counter low first body
  RestsAt counter low first (Again l at body e) = AllRestAt counter low first body

  -- AllRestAt counter low first body: each statement of the block, whose places are numbered from `first` on, rests at the counter `low`
  pub AllRestAt : (ℕ → ℕ) → ℕ → ℕ → Block → Type 0
  AllRestAt counter low first Done = ⊤
  AllRestAt counter low first (Then s rest) = RestsAt counter low first s × AllRestAt counter low (first + resting_places s) rest

  -- each branch rests at the counter of its end, and no two branches have places with one counter, as they rest at once
  pub EachRests : (ℕ → ℕ) → ℕ → Bodies → Type 0
  EachRests counter first Last = ⊤
  EachRests counter first (Body weak body rest) = AllRestAt counter (counter first) (suc first) body
      × AreApart counter first (suc first + places_in body) ((suc first + places_in body) + places_in_each rest)
      × EachRests counter (suc first + places_in body) rest
