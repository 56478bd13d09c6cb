-- Where the statements of a body may rest between ticks, and a counter for each of these places: how an activity is laid out.
use Rattle.std.specs.Prelude.{ℕ, suc, ◌+◌, max, List, [], ◌∷◌, ◌++◌}
use Rattle.bl_graph_nodes.specs.Plain.{Act, Again, Await, Block, Bodies, Body, Cobegin, Done, If, Last, Plain, Repeat, Run, Then, Until, When, While}

-- ---- places

abbrev mutual
  -- how many resting places stand in a statement, in source order. An `await`, a `run` and the end of a branch are one each; the end stands before its branch's
  -- places
  pub resting_places : Plain → ℕ
  resting_places (Act l s) = 0
  resting_places (Await l at e) = 1
  resting_places (Run l at target a inputs outputs) = 1
  resting_places (If l at e body other) = places_in body + places_in other
  resting_places (Cobegin l at bodies) = places_in_each bodies
  resting_places (When l at guard e body) = places_in body
  resting_places (Repeat l at body) = places_in body
  resting_places (Until l at body e) = places_in body
  resting_places (While l at e body) = places_in body
  resting_places (Again l at body e) = places_in body

  -- how many resting places stand in a block
  pub places_in : Block → ℕ
  places_in Done = 0
  places_in (Then s rest) = resting_places s + places_in rest

  -- how many resting places stand in branches, their ends among them
  pub places_in_each : Bodies → ℕ
  places_in_each Last = 0
  places_in_each (Body weak body rest) = suc (places_in body) + places_in_each rest

-- ---- counters

abbrev mutual
  -- how many counters a statement takes: one for all places that never rest at once, and others for branches beside it
  pub width_of : Plain → ℕ
  width_of (Act l s) = 0
  width_of (Await l at e) = 1
  width_of (Run l at target a inputs outputs) = 1
  width_of (If l at e body other) = max (width_in body) (width_in other)
  width_of (Cobegin l at bodies) = width_in_each bodies
  width_of (When l at guard e body) = width_in body
  width_of (Repeat l at body) = width_in body
  width_of (Until l at body e) = width_in body
  width_of (While l at e body) = width_in body
  width_of (Again l at body e) = width_in body

  -- how many counters a block takes: as many as the widest of its statements
  pub width_in : Block → ℕ
  width_in Done = 0
  width_in (Then s rest) = max (width_of s) (width_in rest)

  -- how many counters branches take: the sum of theirs, at least one each, since the end of a branch is a place
  pub width_in_each : Bodies → ℕ
  width_in_each Last = 0
  width_in_each (Body weak body rest) = max 1 (width_in body) + width_in_each rest

abbrev mutual
  -- the counter of each place of a statement that is laid out from a counter on. Branches behind the first of a `cobegin` have counters of their own; all else
  -- has that counter
  pub counters_of : Plain → ℕ → List ℕ
  counters_of (Act l s) low = []
  counters_of (Await l at e) low = low ∷ []
  counters_of (Run l at target a inputs outputs) low = low ∷ []
  counters_of (If l at e body other) low = counters_in body low ++ counters_in other low
  counters_of (Cobegin l at bodies) low = counters_in_each bodies low
  counters_of (When l at guard e body) low = counters_in body low
  counters_of (Repeat l at body) low = counters_in body low
  counters_of (Until l at body e) low = counters_in body low
  counters_of (While l at e body) low = counters_in body low
  counters_of (Again l at body e) low = counters_in body low

  -- all statements of a block are laid out from one counter on
  pub counters_in : Block → ℕ → List ℕ
  counters_in Done low = []
  counters_in (Then s rest) low = counters_of s low ++ counters_in rest low

  -- each branch is laid out behind the counters of those before it
  pub counters_in_each : Bodies → ℕ → List ℕ
  counters_in_each Last low = []
  counters_in_each (Body weak body rest) low = low ∷ (counters_in body low ++ counters_in_each rest (low + max 1 (width_in body)))
