-- What counters may hold of trees that begin and that go on, and where a tree doesn't use a counter.
use Rattle.std.proofs.Common.{◌≡◌, inl, inr, ℕ, suc, Bool, true, false, if◌then◌else◌, nat_eq, refl, sym, ap, ◌∙◌, Contains, List}
use Rattle.bl_tree.proofs.Basics.{neither_first, neither_second, same_number}
use Rattle.bl_graph_nodes.specs.Nodes.{entry}
use Rattle.bl_graph_nodes.specs.Plain.{Block, Bodies, Body as BodyOf, Done, Label, Last, Plain, Then}
use Rattle.bl_ctree_laws.specs.Trees.{Tree, Trees, Nil, Wait, Test, Idle, Do, Seq, Par, Guard, Run, beside, do_block, is_nil, no_tree, seq}
use Rattle.bl_machine.specs.declared.slots.Slot.{Slot}
use Rattle.bl_machine.specs.Uses.{Slots, uses_in, uses_in_branch, uses_in_each}
use Rattle.bl_machine_laws.specs.Numbers.Numbers.{At, Next, Over, into, value_at_counter}
use Rattle.bl_machine_pass.specs.Transitions.{Rested, Transition}
use Rattle.bl_machine_pass_laws.specs.Turns.Holds.{BranchesMayHold, Lingers, MayHold, NextMayHold}
use Rattle.bl_machine_pass_laws.specs.Turns.Sits.{UsesOnly}
use Rattle.bl_machine_pass_laws.proofs.OnNumbers.Bools.{if_false, if_true}
use Rattle.bl_machine_pass_laws.proofs.OnNumbers.Changing.{last_in}
use Rattle.bl_ctree_laws.proofs.Tests.{not_less}

-- ---- what has ended

pub block_nil : (body : Block) (last : Bool) → last_in body last ≡ (if is_nil (do_block body) then last else false)
block_nil Done last = refl
block_nil (Then s Done) last = refl
block_nil (Then s (Then t rest)) last = refl

-- ---- what begins, and what goes on

module _ (slots : Slots) (all : List Transition) where
  -- the number of an `await` or a `run` may stay in its counter
  pub rest_lingers : (low : ℕ) (slot : Slot) (rule : Transition) → Contains all rule → rule.condition ≡ Rested slot → slot.counter ≡ low →
      (j v : ℕ) → v ≡ value_at_counter slot j → Lingers all low j v
  rest_lingers low slot rule there asks lies j v e = by_test (nat_eq j slot.counter) refl
    where
      by_test : (b : Bool) → nat_eq j slot.counter ≡ b → Lingers all low j v
      by_test true test =
          let at : j ≡ slot.counter = same_number j slot.counter test in
          inr (
            at ∙ lies,
            record {
              rule = rule;
              there = there;
              slot = slot;
              asks = asks;
              counter = sym at;
              value = sym (e ∙ if_true (nat_eq j slot.counter) slot.value 0 test);
            },
          )
      by_test false test = inl (e ∙ if_false (nat_eq j slot.counter) slot.value 0 test)

  pub block_may : (low : ℕ) (body : Block) (next : Next) (j v : ℕ) → NextMayHold all low (into body next) j v →
      MayHold slots all low (do_block body) next j v
  block_may low Done next j v h = h
  block_may low (Then s Done) next j v h = h
  block_may low (Then s (Then t rest)) next j v h = h

  pub seq_may : (low : ℕ) (c : Tree) (s : Plain) (rest : Block) (next : Next) (j v : ℕ) → MayHold slots all low c (At (entry s)) j v →
      MayHold slots all low (seq c (Then s rest)) next j v
  seq_may low Nil s rest next j v h = block_may low (Then s rest) next j v h
  seq_may low (Wait p) s rest next j v h = h
  seq_may low (Test p) s rest next j v h = h
  seq_may low (Idle body) s rest next j v h = h
  seq_may low (Do p) s rest next j v h = h
  seq_may low (Seq c after) s rest next j v h = h
  seq_may low (Par p stood branches) s rest next j v h = h
  seq_may low (Guard p phase stood c) s rest next j v h = h
  seq_may low (Run p callee phase stood c) s rest next j v h = h

  -- ---- counters that aren't used

  shown_none : (used : ℕ → Bool) (slot : Slot) (j : ℕ) → used slot.counter ≡ true → used j ≡ false → value_at_counter slot j ≡ 0
  shown_none used slot j there off =
      if_false (nat_eq j slot.counter) slot.value 0 (not_less (nat_eq j slot.counter) (used j) (λ e. ap used (same_number j slot.counter e) ∙ there) off)

  into_lingers : (low : ℕ) (rest : Block) (next : Next) (j v : ℕ) → (NextMayHold all low next j v → Lingers all low j v) →
      NextMayHold all low (into rest next) j v → Lingers all low j v
  into_lingers low Done next j v opens h = opens h
  into_lingers low (Then s rest) next j v opens h = h

  -- branches hold nothing in a counter that they don't use
  pub none_may : (l : Label) (k : ℕ) (bodies : Bodies) (branches : Trees) (j v : ℕ) → uses_in_each slots l k bodies j ≡ false →
      BranchesMayHold slots all l k bodies branches j v → v ≡ 0
  none_may l k Last no_tree j v off h = h
  none_may l k Last (beside weak c branches) j v off h = h
  none_may l k (BodyOf weak body rest) no_tree j v off h = h
  none_may l k (BodyOf weak body rest) (beside weak' c branches) j v off h =
      none_may l (suc k) rest branches j v (neither_second (uses_in_branch slots l k body j) (uses_in_each slots l (suc k) rest j) off)
      (h.1 (neither_first (uses_in_branch slots l k body j) (uses_in_each slots l (suc k) rest j) off))

  -- a tree holds no number of its own in a counter that it doesn't use
  pub unused_lingers : (used : ℕ → Bool) (low : ℕ) (c : Tree) (next : Next) (j v : ℕ) → UsesOnly slots used c → used j ≡ false →
      (NextMayHold all low next j v → Lingers all low j v) → MayHold slots all low c next j v → Lingers all low j v
  unused_lingers used low Nil next j v within off opens h = opens h
  unused_lingers used low (Wait s) next j v within off opens h = inl (h ∙ shown_none used (slots.rest s.label) j within off)
  unused_lingers used low (Test s) next j v within off opens h = inl (h ∙ shown_none used (slots.rest s.label) j within off)
  unused_lingers used low (Idle body) next j v within off opens h = h
  unused_lingers used low (Do s) next j v within off opens h = h
  unused_lingers used low (Seq c rest) next j v within off opens h =
      unused_lingers used low c (into rest next) j v within.0 off (into_lingers low rest next j v opens) h
  unused_lingers used low (Par s stood branches) next j v within off opens h =
      inl (none_may s.label 0 s.bodies branches j v (not_less (uses_in_each slots s.label 0 s.bodies j) (used j) (within.0 j) off) h)
  unused_lingers used low (Guard s phase stood c) next j v within off opens h =
      unused_lingers (uses_in slots s.body) low c Over j v within.1 (not_less (uses_in slots s.body j) (used j) (within.0 j) off) (λ x. x) h
  unused_lingers used low (Run s callee phase stood c) next j v within off opens h = inl (h ∙ shown_none used (slots.rest s.label) j within off)
