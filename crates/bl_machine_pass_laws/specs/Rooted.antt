-- What is due as a pass goes on over a tree that rested.
use Rattle.std.specs.Prelude.{◌≡◌, ℕ, Bool, true, false, Contains, None}
use Rattle.bl_tree.specs.declared.tree.Unit.{Unit as UnitDef}
use Rattle.bl_graph_nodes.specs.Nodes.{Node}
use Rattle.bl_graph_nodes.specs.Plain.{plain_body}
use Rattle.bl_ctree.specs.Instances.{Setting}
use Rattle.bl_ctree_laws.specs.Trees.{Tree, is_nil, is_settled, woken}
use Rattle.bl_ctree_laws_traces.specs.Progress.FitsGraph.{FitsGraph}
use Rattle.bl_ctree_laws_traces.specs.Progress.Places.{whole}
use Rattle.bl_machine.specs.Uses.{Slots}
use Rattle.bl_machine_laws.specs.Numbers.Numbers.{Over, numbers_of}
use Rattle.bl_machine_laws.specs.Numbers.Waiting.{Waits}
use Rattle.bl_machine_pass.specs.SlotLayout.{SlotsAreDistinct}
use Rattle.bl_machine_pass.specs.Registers.{is_due, started}
use Rattle.bl_machine_pass.specs.Transitions.{Transition, rules}
use Rattle.bl_machine_pass_laws.specs.Turns.Invariant.{Exactly, IsResume}
use Rattle.bl_machine_pass_laws.specs.Turns.Laws.{Placed}
use Rattle.bl_machine_pass_laws.specs.Turns.Rooted.{Rooted, in_none}

-- a resume node is due iff something waits for it in the woken tree, where the counters hold the numbers of the tree that rested
abbrev pub ResumesBegin : Type 0
ResumesBegin =
    (w : Setting) (number : Node → ℕ) (i : ℕ) (slots : Slots) (unit : UnitDef) (stood : Bool) (c : Tree) (counters : ℕ → ℕ)
    (flags : ℕ → Bool) →
    FitsGraph w i c (whole stood (plain_body unit.body)) → SlotsAreDistinct slots (plain_body unit.body) → Placed slots (plain_body unit.body) c →
    Rooted slots (rules slots (plain_body unit.body)) (in_none (plain_body unit.body)) c → is_settled c ≡ true → is_nil c ≡ false →
    ((j : ℕ) → counters j ≡ numbers_of slots c Over j) → (rule : Transition) → Contains (rules slots (plain_body unit.body)) rule →
    IsResume rule.condition →
    Exactly (is_due number rule (started counters flags)) (Waits (woken c) None rule.node)

-- nothing waits at nodes other than resume nodes as a pass goes on over a tree that rested
abbrev pub OnlyResumesBegin : Type 0
OnlyResumesBegin =
    (w : Setting) (number : Node → ℕ) (i : ℕ) (slots : Slots) (unit : UnitDef) (stood : Bool) (c : Tree) (counters : ℕ → ℕ)
    (flags : ℕ → Bool) →
    FitsGraph w i c (whole stood (plain_body unit.body)) → SlotsAreDistinct slots (plain_body unit.body) → Placed slots (plain_body unit.body) c →
    Rooted slots (rules slots (plain_body unit.body)) (in_none (plain_body unit.body)) c → is_settled c ≡ true → is_nil c ≡ false →
    ((j : ℕ) → counters j ≡ numbers_of slots c Over j) → (rule : Transition) → Contains (rules slots (plain_body unit.body)) rule →
    Waits (woken c) None rule.node → IsResume rule.condition
