-- What the numbers of an activity's resting places keep, where they are told by labels.
use Rattle.std.specs.Prelude.{◌≡◌, ℕ, suc, true, false, List, [], ◌∷◌, ◌++◌, Contains, ⊤}
use Rattle.bl_graph_nodes.specs.Plain.{Act, Again, Await, Block, Bodies, Body as BodyOf, Cobegin, Done, If, Label, Last, Plain, Repeat, Run as RunOf, Then}
use Rattle.bl_graph_nodes.specs.Plain.{Until, When, While}
use Rattle.bl_machine.specs.declared.slots.Slot.{Slot}
use Rattle.bl_machine.specs.Uses.{Slots, uses_in_branch, uses_in_each}

-- ---- resting places

-- a place at which an activity may rest
pub data Spot : Type 0 where
  -- an `await` or a `run`
  RestOf : Label → Spot
  -- the end of a branch of a `cobegin`
  EndOf : Label → ℕ → Spot

-- the number of a resting place
abbrev pub slot_at : Slots → Spot → Slot
slot_at slots (RestOf l) = slots.rest l
slot_at slots (EndOf l k) = slots.ending l k

abbrev mutual
  -- the resting places of a statement, in source order, the end of a branch before what stands in the branch
  pub spots_of : Plain → List Spot
  spots_of (Act l s) = []
  spots_of (Await l at e) = RestOf l ∷ []
  spots_of (RunOf l at target a inputs outputs) = RestOf l ∷ []
  spots_of (If l at e body other) = spots_in body ++ spots_in other
  spots_of (Cobegin l at bodies) = spots_in_each l 0 bodies
  spots_of (When l at guard e body) = spots_in body
  spots_of (Repeat l at body) = spots_in body
  spots_of (Until l at body e) = spots_in body
  spots_of (While l at e body) = spots_in body
  spots_of (Again l at body e) = spots_in body

  -- the resting places of a block, in source order
  pub spots_in : Block → List Spot
  spots_in Done = []
  spots_in (Then s rest) = spots_of s ++ spots_in rest

  -- the resting places of branches, from the one with this number on, each branch after its end
  pub spots_in_each : Label → ℕ → Bodies → List Spot
  spots_in_each l k Last = []
  spots_in_each l k (BodyOf weak body rest) = EndOf l k ∷ (spots_in body ++ spots_in_each l (suc k) rest)

-- ---- counters

-- the first branch exists and its end has the counter
abbrev pub BeginsAt : Slots → Label → ℕ → Bodies → Type 0
BeginsAt slots l low Last = ⊥
BeginsAt slots l low (BodyOf weak body rest) = (slots.ending l 0).counter ≡ low

abbrev mutual
  -- the statement rests at the counter wherever it is paused: an `await` and a `run` themselves, and a `cobegin` by its first branch
  pub StatementRestsAt : Slots → ℕ → Plain → Type 0
  StatementRestsAt slots low (Act l s) = ⊤
  StatementRestsAt slots low (Await l at e) = (slots.rest l).counter ≡ low
  StatementRestsAt slots low (RunOf l at target a inputs outputs) = (slots.rest l).counter ≡ low
  StatementRestsAt slots low (If l at e body other) = BlockRestsAt slots low body × BlockRestsAt slots low other
  StatementRestsAt slots low (Cobegin l at bodies) = BeginsAt slots l low bodies × BranchesRestAt slots l 0 bodies
  StatementRestsAt slots low (When l at guard e body) = BlockRestsAt slots low body
  StatementRestsAt slots low (Repeat l at body) = BlockRestsAt slots low body
  StatementRestsAt slots low (Until l at body e) = BlockRestsAt slots low body
  StatementRestsAt slots low (While l at e body) = BlockRestsAt slots low body
  StatementRestsAt slots low (Again l at body e) = BlockRestsAt slots low body

  -- every statement of the block rests at the counter wherever it is paused
  pub BlockRestsAt : Slots → ℕ → Block → Type 0
  BlockRestsAt slots low Done = ⊤
  BlockRestsAt slots low (Then s rest) = StatementRestsAt slots low s × BlockRestsAt slots low rest

  -- each branch rests at the counter of its end, and no two branches use one counter, as they rest at once
  pub BranchesRestAt : Slots → Label → ℕ → Bodies → Type 0
  BranchesRestAt slots l k Last = ⊤
  BranchesRestAt slots l k (BodyOf weak body rest) = BlockRestsAt slots (slots.ending l k).counter body
      × ((counter : ℕ) → uses_in_branch slots l k body counter ≡ true → uses_in_each slots l (suc k) rest counter ≡ false)
      × BranchesRestAt slots l (suc k) rest

-- the resting places of a body have different numbers
pub record SlotsAreDistinct (slots : Slots) (body : Block) : Type 0 where
  -- the activity rests at its first counter
  pub rests : BlockRestsAt slots 0 body
  -- no two places have one number
  pub alone : (p q : Spot) → Contains (spots_in body) p → Contains (spots_in body) q → slot_at slots p ≡ slot_at slots q → p ≡ q
  -- no place has the value 0, which stands for no place
  pub counted : (p : Spot) → Contains (spots_in body) p → (slot_at slots p).value ≡ 0 → ⊥
