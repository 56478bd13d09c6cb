-- Trees in which what rests stands under the `when`s that it stands in as the body is written.
use Rattle.std.specs.Prelude.{◌≡◌, ◌⊎◌, ℕ, zero, suc, List, Contains, ⊤}
use Rattle.bl_tree.specs.declared.place.Place.{Place}
use Rattle.bl_tree.specs.declared.tree.Expr.{Expr}
use Rattle.bl_tree.specs.declared.tree.Unit.{Unit as UnitDef}
use Rattle.bl_graph_nodes.specs.Nodes.{CheckAt, Node}
use Rattle.bl_graph_nodes.specs.Plain.{Act, Again, Await, Block, Bodies, Body as BodyOf, Cobegin, Done, If, Label, Last, Plain, Repeat, Run as RunOf, Then}
use Rattle.bl_graph_nodes.specs.Plain.{Until, When, While, plain_body}
use Rattle.bl_ctree.specs.Instances.{Setting}
use Rattle.bl_ctree_laws.specs.Trees.{Tree, Trees, Nil, Wait, Test, Idle, Do, Seq, Par, Guard, Run, beside, do_block, no_tree, woken}
use Rattle.bl_ctree_laws_traces.specs.Progress.FitsGraph.{fork_stmt}
use Rattle.bl_machine.specs.declared.slots.Slot.{Slot}
use Rattle.bl_machine.specs.Uses.{Slots}
use Rattle.bl_machine_laws.specs.Numbers.Turns.{AnsweredDeed, Turns}
use Rattle.bl_machine_pass.specs.SlotLayout.{EndOf, RestOf, SlotsAreDistinct, Spot, slot_at, spots_in}
use Rattle.bl_machine_pass.specs.Transitions.{Condition, Ended, Flagged, Rested, RestedIn, Transition, rests_in, rules}

-- the `when`s around a part of a body
pub record Around : Type 1 where
  -- the resting places of the body
  pub spots : Spot → Type 0
  -- the nodes of the conditions of these `when`s
  pub checks : Node → Type 0
  -- the numbers that these `when`s take for places of their bodies, where the part rests at their counter
  pub home : Slot → Type 0

-- a part of the body that stands in none
abbrev pub in_none : Block → Around
in_none body = record { spots = Contains (spots_in body); checks = λ n. ⊥; home = λ slot. ⊤ }

-- the body of a `when`
abbrev pub in_when : Slots → Label → Place → Expr → Block → Around → Around
in_when slots l at e body around = record {
  spots = around.spots;
  checks = λ n. (n ≡ CheckAt l at e) ⊎ around.checks n;
  home = λ slot. Contains (rests_in slots body) slot × around.home slot;
}

-- the `when`s around a branch: only the first branch rests at the counter of what is around
abbrev pub in_branch : ℕ → Around → Around
in_branch zero around = around
in_branch (suc k) around = record { spots = around.spots; checks = around.checks; home = λ slot. ⊤ }

-- a rule asks whether the instance rested at one of some numbers, of which this is one
abbrev pub AsksOf : Condition → Slot → Type 0
AsksOf Flagged slot = ⊥
AsksOf (Rested other) slot = ⊥
AsksOf (RestedIn slots) slot = Contains slots slot
AsksOf (Ended age needed) slot = ⊥

-- the place is one of the body, and only the `when`s around it ask for its number
pub record Held (slots : Slots) (all : List Transition) (around : Around) (spot : Spot) : Type 0 where
  pub inside : around.spots spot
  pub home : around.home (slot_at slots spot)
  pub only_checks : (rule : Transition) → Contains all rule → AsksOf rule.condition (slot_at slots spot) → around.checks rule.node

abbrev mutual
  -- each place of the statement is held: it is one of the body, and only the `when`s around it ask for its number
  pub HeldOf : Slots → List Transition → Around → Plain → Type 0
  HeldOf slots all around (Act l s) = ⊤
  HeldOf slots all around (Await l at e) = Held slots all around (RestOf l)
  HeldOf slots all around (RunOf l at target a inputs outputs) = Held slots all around (RestOf l)
  HeldOf slots all around (If l at e body other) = HeldIn slots all around body × HeldIn slots all around other
  HeldOf slots all around (Cobegin l at bodies) = HeldEach slots all around l 0 bodies
  HeldOf slots all around (When l at guard e body) = HeldIn slots all (in_when slots l at e body around) body
  HeldOf slots all around (Repeat l at body) = HeldIn slots all around body
  HeldOf slots all around (Until l at body e) = HeldIn slots all around body
  HeldOf slots all around (While l at e body) = HeldIn slots all around body
  HeldOf slots all around (Again l at body e) = HeldIn slots all around body

  -- each place of the block is held by the `when`s around it
  pub HeldIn : Slots → List Transition → Around → Block → Type 0
  HeldIn slots all around Done = ⊤
  HeldIn slots all around (Then s rest) = HeldOf slots all around s × HeldIn slots all around rest

  -- each place of the branches, from the one with this number on, is held by the `when`s around it
  pub HeldEach : Slots → List Transition → Around → Label → ℕ → Bodies → Type 0
  HeldEach slots all around l k Last = ⊤
  HeldEach slots all around l k (BodyOf weak body rest) =
      Held slots all (in_branch k around) (EndOf l k) × HeldIn slots all (in_branch k around) body × HeldEach slots all around l (suc k) rest

abbrev mutual
  -- each place of the residual tree is held by the `when`s around it, for which `Guard`s stand in the tree
  pub Rooted : Slots → List Transition → Around → Tree → Type 0
  Rooted slots all around Nil = ⊤
  Rooted slots all around (Wait s) = Held slots all around (RestOf s.label)
  Rooted slots all around (Test s) = Held slots all around (RestOf s.label)
  Rooted slots all around (Idle body) = HeldIn slots all around body
  Rooted slots all around (Do s) = HeldOf slots all around s
  Rooted slots all around (Seq c rest) = Rooted slots all around c × HeldIn slots all around rest
  Rooted slots all around (Par s stood branches) = HeldOf slots all around (fork_stmt s) × AllRooted slots all around s.label 0 branches
  Rooted slots all around (Guard s phase stood c) =
      HeldIn slots all (in_when slots s.label s.place s.test s.body around) s.body
      × Rooted slots all (in_when slots s.label s.place s.test s.body around) c
  Rooted slots all around (Run s callee phase stood c) = Held slots all around (RestOf s.label)

  -- each place in the branches, from the one with this number on, is held by the `when`s around it
  pub AllRooted : Slots → List Transition → Around → Label → ℕ → Trees → Type 0
  AllRooted slots all around l k no_tree = ⊤
  AllRooted slots all around l k (beside weak c branches) =
      Rooted slots all (in_branch k around) c × AllRooted slots all around l (suc k) branches

-- the tree with which a body begins is rooted, and waking and turns keep this
pub record StaysRooted : Type 0 where
  pub begins : (slots : Slots) (unit : UnitDef) → SlotsAreDistinct slots (plain_body unit.body) →
      Rooted slots (rules slots (plain_body unit.body)) (in_none (plain_body unit.body)) (do_block (plain_body unit.body))
  pub wakes : (slots : Slots) (body : Block) (c : Tree) → Rooted slots (rules slots body) (in_none body) c → Rooted slots
      (rules slots body) (in_none body) (woken c)
  pub turns : (w : Setting) (rank : ℕ → Node → ℕ) (i : ℕ) (slots : Slots) (body : Block) (c : Tree) (done : List AnsweredDeed) (n : Node) (c' : Tree) →
      Turns w rank i c done n c' → Rooted slots (rules slots body) (in_none body) c → Rooted slots (rules slots body) (in_none body) c'
