-- What the counters of an instance may hold in the middle of a pass. An `await` or a `run` that has gone on leaves its number in its counter, until the list
-- of statements in which it stands rests again.
use Rattle.std.specs.Prelude.{◌≡◌, ◌⊎◌, ℕ, suc, Bool, true, false, List, Contains}
use Rattle.bl_graph_nodes.specs.Plain.{Block, Bodies, Body as BodyOf, Label, Last}
use Rattle.bl_ctree.specs.Instances.{Setting}
use Rattle.bl_ctree_laws.specs.Trees.{Tree, Trees, Nil, Wait, Test, Idle, Do, Seq, Par, Guard, Run, beside, is_nil, is_settled, no_tree}
use Rattle.bl_ctree_laws_traces.specs.Progress.FitsGraph.{FitsGraph}
use Rattle.bl_ctree_laws_traces.specs.Progress.Places.{whole}
use Rattle.bl_machine.specs.declared.slots.Slot.{Slot}
use Rattle.bl_machine.specs.Uses.{Slots, uses_in_branch}
use Rattle.bl_machine_laws.specs.Numbers.Numbers.{At, Next, Over, Rests, into, numbers_of, value_at_counter}
use Rattle.bl_machine_pass.specs.SlotLayout.{RestOf, spots_in}
use Rattle.bl_machine_pass.specs.Transitions.{Rested, Transition, rules}

-- some rule asks whether the instance rested at the value v of the counter j: the number is that of an `await` or a `run`
pub record IsRest (all : List Transition) (j v : ℕ) : Type 0 where
  pub rule : Transition
  pub there : Contains all rule
  pub slot : Slot
  pub asks : rule.condition ≡ Rested slot
  pub counter : slot.counter ≡ j
  pub value : slot.value ≡ v

-- the counter holds 0, or at the counter `low` the number of an `await` or a `run`
abbrev pub Lingers : List Transition → ℕ → ℕ → ℕ → Type 0
Lingers all low j v = (v ≡ 0) ⊎ ((j ≡ low) × IsRest all j v)

-- what the counter j may hold where a part of the body that rests at the counter `low` has ended
abbrev pub NextMayHold : List Transition → ℕ → Next → ℕ → ℕ → Type 0
NextMayHold all low (At n) j v = Lingers all low j v
NextMayHold all low (Rests slot) j v = v ≡ value_at_counter slot j
NextMayHold all low Over j v = Lingers all low j v

abbrev mutual
  -- MayHold slots all low c next j v: in a pass the counter j may hold v where the tree c is left of statements that rest at the counter `low`. Where the
  -- tree rests at the counter it is the number of that place; where it has something to do it may be the number of a place that it left
  pub MayHold : Slots → List Transition → ℕ → Tree → Next → ℕ → ℕ → Type 0
  MayHold slots all low Nil next j v = NextMayHold all low next j v
  MayHold slots all low (Wait s) next j v = v ≡ value_at_counter (slots.rest s.label) j
  MayHold slots all low (Test s) next j v = v ≡ value_at_counter (slots.rest s.label) j
  MayHold slots all low (Idle body) next j v = Lingers all low j v
  MayHold slots all low (Do s) next j v = Lingers all low j v
  MayHold slots all low (Seq c rest) next j v = MayHold slots all low c (into rest next) j v
  MayHold slots all low (Par s stood branches) next j v = BranchesMayHold slots all s.label 0 s.bodies branches j v
  MayHold slots all low (Guard s phase stood c) next j v = MayHold slots all low c Over j v
  MayHold slots all low (Run s callee phase stood c) next j v = v ≡ value_at_counter (slots.rest s.label) j

  -- the counter j may hold v where these branches are left, from the one with the number k on: the branch that uses the counter tells
  pub BranchesMayHold : Slots → List Transition → Label → ℕ → Bodies → Trees → ℕ → ℕ → Type 0
  BranchesMayHold slots all l k (BodyOf weak body bodies) (beside weak' c branches) j v =
      (uses_in_branch slots l k body j ≡ true → MayHold slots all (slots.ending l k).counter c (Rests (slots.ending l k)) j v)
      × (uses_in_branch slots l k body j ≡ false → BranchesMayHold slots all l (suc k) bodies branches j v)
  BranchesMayHold slots all l k Last branches j v = v ≡ 0
  BranchesMayHold slots all l k bodies no_tree j v = v ≡ 0

-- each counter holds what it may where the tree is left of the body
abbrev pub CountersMayBe : Slots → Block → (ℕ → ℕ) → Tree → Type 0
CountersMayBe slots body counters c = (j : ℕ) → MayHold slots (rules slots body) 0 c Over j (counters j)

-- the number is that of an `await` or a `run` of the body
pub record RestsThere (slots : Slots) (body : Block) (j v : ℕ) : Type 0 where
  pub label : Label
  pub there : Contains (spots_in body) (RestOf label)
  pub is : slots.rest label ≡ record { counter = j; value = v }

-- how the counters of a pass are related to the numbers of the tree
pub record CountersLinger : Type 0 where
  -- the numbers of a tree are what its counters may hold
  pub exact : (slots : Slots) (body : Block) (counters : ℕ → ℕ) (c : Tree) → ((j : ℕ) → counters j ≡ numbers_of slots c Over j) →
      CountersMayBe slots body counters c
  -- a counter holds the number of the tree, or the tree has none there, and it is the number of an `await` or a `run`
  pub left : (slots : Slots) (body : Block) (counters : ℕ → ℕ) (c : Tree) → CountersMayBe slots body counters c → (j : ℕ) →
      (counters j ≡ numbers_of slots c Over j) ⊎ ((numbers_of slots c Over j ≡ 0) × RestsThere slots body j (counters j))
  -- where nothing is left to do in the tick, and the body hasn't ended, counters hold the numbers of the tree
  pub settled : (w : Setting) (i : ℕ) (slots : Slots) (stood : Bool) (body : Block) (counters : ℕ → ℕ) (c : Tree) → FitsGraph w i c (whole stood body) →
      is_settled c ≡ true → is_nil c ≡ false → CountersMayBe slots body counters c → (j : ℕ) → counters j ≡ numbers_of slots c Over j
