-- A pass over a body that begins: its entry alone waits, by its flag.
use Rattle.std.proofs.Common.{◌≡◌, ◌⊎◌, inl, inr, ℕ, true, false, Some, None, refl, sym, ap, subst, ◌∙◌, zero-le, eqb-true, eq-eqb}
use Rattle.std.specs.Prelude.{Contains}
use Rattle.bl_tree.specs.declared.tree.Unit.{Unit as UnitDef}
use Rattle.bl_graph_nodes.specs.Laws.{EachOnce}
use Rattle.bl_graph_nodes.specs.Nodes.{Node, entry, nodes_in}
use Rattle.bl_graph_nodes.specs.Plain.{Block, Done, Then, plain_body}
use Rattle.bl_graph.specs.Laws.{StaysWithin}
use Rattle.bl_ctree.specs.Instances.{Setting, unit_at}
use Rattle.bl_ctree_laws.specs.Trees.{do_block}
use Rattle.bl_machine.specs.declared.slots.Slot.{Slot}
use Rattle.bl_machine.specs.Uses.{Slots}
use Rattle.bl_machine_laws.specs.Numbers.Numbers.{Over, numbers_of}
use Rattle.bl_machine_laws.specs.Numbers.Waiting.{Sleeps, Waits}
use Rattle.bl_machine_laws.specs.Passes.Orders.{Orders}
use Rattle.bl_machine_pass.specs.SlotLayout.{SlotsAreDistinct}
use Rattle.bl_machine_pass.specs.Registers.{Registers, is_at, is_due, started}
use Rattle.bl_machine_pass.specs.Transitions.{Condition, Finishes, Transition, rules}
use Rattle.bl_machine_pass_laws.specs.Turns.Holds.{CountersLinger}
use Rattle.bl_machine_pass_laws.specs.Turns.Invariant.{Exactly, IsFlagged, IsResume}
use Rattle.bl_machine_pass_laws.specs.Turns.Laws.{StaysPlaced, entry_flag}
use Rattle.bl_machine_pass_laws_turns.specs.Waiting.{BodiesBegin}
use Rattle.bl_machine_pass_laws_turns.proofs.OnWaiting.Keeping.{asks_counted, one_rule, rule_known, rule_node}
use Rattle.bl_machine_pass_laws_turns.proofs.OnWaiting.Rules.{AsksFor, RuleAt, due_at, flag_is_due, no_end, not_both}
use Rattle.bl_machine_pass_laws_turns.proofs.OnWaiting.Sleeping.{Other, waits_other}
use Rattle.bl_machine_pass_laws_turns.proofs.OnWaiting.Trees.{waits_block}
use Rattle.bl_machine_laws.proofs.OnNumbers.Sleeping.{block_awake}
use Rattle.bl_machine_laws.proofs.OnWaiting.Fresh.{block_waits}
use Rattle.bl_machine_pass_laws_turns.proofs.OnJoins.Marking.{marked_block}

block_numbers : (slots : Slots) (body : Block) (j : ℕ) → numbers_of slots (do_block body) Over j ≡ 0
block_numbers slots Done j = refl
block_numbers slots (Then s Done) j = refl
block_numbers slots (Then s (Then t rest)) j = refl

-- the entry's flag alone is set, and the entry alone waits
entry_waits : (number : Node → ℕ) (body : Block) → StaysWithin body →
    ((n m : Node) → Contains (nodes_in body) n → Contains (nodes_in body) m → number n ≡ number m → n ≡ m) → (y : Node) →
    Contains (nodes_in body) y →
    entry_flag number body (number y) ≡ true → Waits (do_block body) None y
entry_waits number Done within apart y there e = absurd cc
entry_waits number (Then s rest) within apart y there e =
    waits_block (Then s rest) None y (apart y (entry s) there (within.entries (entry s) refl) (eqb-true (number y) (number (entry s)) e))

waits_flagged : (number : Node → ℕ) (body : Block) (y : Node) → Waits (do_block body) None y → entry_flag number body (number y) ≡ true
waits_flagged number Done y h = absurd h
waits_flagged number (Then s rest) y h = eq-eqb (number y) (number (entry s)) (ap number (block_waits (Then s rest) None y h))

module _ (linger : CountersLinger) (within : (body : Block) → StaysWithin body)
    (once : (unit : UnitDef) → EachOnce (nodes_in (plain_body unit.body))) where
  module _ (placing : StaysPlaced) (w : Setting) (rank : ℕ → Node → ℕ) (i : ℕ) (slots : Slots) (unit : UnitDef) (counters : ℕ → ℕ)
      (orders : Orders w rank) (is : unit_at w i ≡ Some unit) (laid : SlotsAreDistinct slots (plain_body unit.body)) (none : (j : ℕ) → counters j ≡ 0) where
    abbrev body : Block
    body = plain_body unit.body

    abbrev at_start : Registers
    at_start = started counters (entry_flag (rank i) body)

    flags_begin : (rule : Transition) → Contains (rules slots body) rule → IsFlagged rule.condition →
        Exactly (is_due (rank i) rule at_start) (Waits (do_block body) None rule.node)
    flags_begin rule there flag = (
      λ due. entry_waits (rank i) body (within body) (λ n m one other same. orders.apart i unit n m is one other same) rule.node
          (rule_node placing.nodes slots body rule there) (sym (flag_is_due (rank i) at_start rule.node rule.condition flag) ∙ due),
      λ h. flag_is_due (rank i) at_start rule.node rule.condition flag ∙ waits_flagged (rank i) body rule.node h,
    )

    resumes_begin : (rule : Transition) → Contains (rules slots body) rule → IsResume rule.condition →
        Exactly (is_due (rank i) rule at_start) (Waits (do_block body) None rule.node)
    resumes_begin rule there resume = (
      λ due. let one = due_at (rank i) at_start rule.node rule.condition resume due in absurd (holds_none one.0 one.1 one.2),
      λ h. absurd (by_other
          (waits_other slots (rules slots body) Finishes (do_block body) None rule.node (placing.begins slots body laid).sits (λ nothing. absurd nothing) h)),
    )
      where
        holds_none : (slot : Slot) → AsksFor rule.condition slot → is_at counters slot ≡ true → ⊥
        holds_none slot asks at =
            asks_counted slots body rule laid there slot asks (sym (eqb-true (counters slot.counter) slot.value at) ∙ none slot.counter)

        is_rule : {P : Condition → Type 0} → RuleAt (rules slots body) rule.node P → P rule.condition
        is_rule {P} one = subst (λ other. P other.condition) (one_rule placing.nodes slots body (once unit) one.rule rule one.there there one.of_node) one.is

        by_other : Sleeps (do_block body) rule.node ⊎ Other (rules slots body) rule.node → ⊥
        by_other (inl sleeps) = block_awake body rule.node sleeps
        by_other (inr (inl flag)) = not_both rule.condition (is_rule flag) resume
        by_other (inr (inr end)) = no_end rule.condition rule.node (rule_known slots body rule there).0 resume end

  pub bodies_begin : BodiesBegin
  bodies_begin placing w rank i slots unit counters orders is laid unended none = record {
    counters = linger.exact slots (plain_body unit.body) counters (do_block (plain_body unit.body))
        (λ j. none j ∙ sym (block_numbers slots (plain_body unit.body) j));
    ahead = λ n h. zero-le;
    flags = λ rule there flag most. flags_begin placing w rank i slots unit counters orders is laid none rule there flag;
    resumes = λ rule there resume most. resumes_begin placing w rank i slots unit counters orders is laid none rule there resume;
    marks = marked_block (rank i) (λ k. false) (plain_body unit.body);
    over = sym unended;
  }
