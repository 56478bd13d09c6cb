-- The numbers of an activity's resting places by the labels of their statements, and which counters a part of its body uses.
use Rattle.std.specs.Prelude.{ℕ, suc, Bool, false, ◌||◌, nat_eq}
use Rattle.bl_graph_nodes.specs.Plain.{Act, Again, Await, Block, Bodies, Body as BodyOf, Cobegin, Done, If, Label, Last, Plain, Repeat, Run as RunOf, Then}
use Rattle.bl_graph_nodes.specs.Plain.{Until, When, While}
use Rattle.bl_machine.specs.declared.slots.Slot.{Slot}

-- the numbers of an activity's resting places, by the labels of their statements
pub record Slots : Type 0 where
  -- the number of the resting place of an `await` or a `run`, by its label
  pub rest : Label → Slot
  -- the number of the end of a branch of a `cobegin`, by the label of the `cobegin` and the number of the branch
  pub ending : Label → ℕ → Slot

-- ---- the counters of a part

-- whether the number is one of the counter
abbrev pub is_of : Slot → ℕ → Bool
is_of slot counter = nat_eq counter slot.counter

abbrev mutual
  -- whether some place of the statement is at the counter
  pub uses : Slots → Plain → ℕ → Bool
  uses slots (Act l s) counter = false
  uses slots (Await l at e) counter = is_of (slots.rest l) counter
  uses slots (RunOf l at target a inputs outputs) counter = is_of (slots.rest l) counter
  uses slots (If l at e body other) counter = uses_in slots body counter || uses_in slots other counter
  uses slots (Cobegin l at bodies) counter = uses_in_each slots l 0 bodies counter
  uses slots (When l at guard e body) counter = uses_in slots body counter
  uses slots (Repeat l at body) counter = uses_in slots body counter
  uses slots (Until l at body e) counter = uses_in slots body counter
  uses slots (While l at e body) counter = uses_in slots body counter
  uses slots (Again l at body e) counter = uses_in slots body counter

  -- whether some place of the block is at the counter
  pub uses_in : Slots → Block → ℕ → Bool
  uses_in slots Done counter = false
  uses_in slots (Then s rest) counter = uses slots s counter || uses_in slots rest counter

  -- whether some place of the branches of a `cobegin`, from the one with this number on, is at the counter, their ends among them
  pub uses_in_each : Slots → Label → ℕ → Bodies → ℕ → Bool
  uses_in_each slots l k Last counter = false
  uses_in_each slots l k (BodyOf weak body rest) counter =
      (is_of (slots.ending l k) counter || uses_in slots body counter) || uses_in_each slots l (suc k) rest counter

-- whether some place of one branch, its end among them, is at the counter
abbrev pub uses_in_branch : Slots → Label → ℕ → Block → ℕ → Bool
uses_in_branch slots l k body counter = is_of (slots.ending l k) counter || uses_in slots body counter
