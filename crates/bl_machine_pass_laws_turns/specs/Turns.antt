-- A pass by registers, from its start through each of its turns.
use Rattle.std.specs.Prelude.{◌≡◌, ◌≤◌, ℕ, suc, Bool, true, false, List, Contains, None, Some}
use Rattle.bl_tree.specs.declared.tree.Unit.{Unit as UnitDef}
use Rattle.bl_graph_nodes.specs.Nodes.{Node}
use Rattle.bl_graph_nodes.specs.Plain.{Block, plain_body}
use Rattle.bl_ctree.specs.Instances.{Setting, unit_at}
use Rattle.bl_ctree_laws.specs.Shrinks.{Paces}
use Rattle.bl_ctree_laws.specs.Trees.{Tree, do_block, is_nil, is_settled, woken}
use Rattle.bl_ctree_laws_traces.specs.Progress.FitsGraph.{FitsGraph}
use Rattle.bl_ctree_laws_traces.specs.Progress.Places.{whole}
use Rattle.bl_machine.specs.Uses.{Slots}
use Rattle.bl_machine_laws.specs.Numbers.Numbers.{Over, numbers_of}
use Rattle.bl_machine_laws.specs.Numbers.Turns.{AnsweredDeed, Turns}
use Rattle.bl_machine_laws.specs.Numbers.Waiting.{Waits}
use Rattle.bl_machine_laws.specs.Passes.Follows.{First}
use Rattle.bl_machine_laws.specs.Passes.Orders.{Orders}
use Rattle.bl_machine_pass.specs.SlotLayout.{SlotsAreDistinct}
use Rattle.bl_machine_pass.specs.Registers.{Registers, after_rule, is_due, started}
use Rattle.bl_machine_pass.specs.Transitions.{Transition, rules}
use Rattle.bl_machine_pass_laws.specs.Turns.Dozes.{Dozes}
use Rattle.bl_machine_pass_laws.specs.Turns.Invariant.{Exactly, PassInvariant}
use Rattle.bl_machine_pass_laws.specs.Turns.Laws.{Placed, answer_of, entry_flag}
use Rattle.bl_machine_pass_laws.specs.Turns.Rooted.{Rooted, in_none}
use Rattle.bl_machine_pass_laws_turns.specs.Joins.Stems.{Stemmed}

-- ---- trees that stand in a body

-- a tree of an instance stands in the body: its places have its numbers, untested `when`s have only rested parts, and its statements have no node in common
pub record FitsBody (slots : Slots) (body : Block) (c : Tree) : Type 0 where
  pub placed : Placed slots body c
  pub dozes : Dozes c
  pub rooted : Rooted slots (rules slots body) (in_none body) c
  pub stemmed : Stemmed body c

-- the tree with which a body begins fits it, so does a woken tree that rested, and each turn keeps this
pub record TreesFitBodies : Type 0 where
  pub begins : (slots : Slots) (unit : UnitDef) → SlotsAreDistinct slots (plain_body unit.body) → FitsBody slots (plain_body unit.body) (do_block (plain_body unit.body))
  pub wakes : (w : Setting) (i : ℕ) (stood : Bool) (slots : Slots) (unit : UnitDef) (c : Tree) → FitsGraph w i c (whole stood (plain_body unit.body)) →
      is_settled c ≡ true → FitsBody slots (plain_body unit.body) c → FitsBody slots (plain_body unit.body) (woken c)
  pub turns : (w : Setting) (rank : ℕ → Node → ℕ) (i : ℕ) (slots : Slots) (unit : UnitDef) (c : Tree) (done : List AnsweredDeed) (n : Node)
      (c' : Tree) →
      SlotsAreDistinct slots (plain_body unit.body) → Turns w rank i c done n c' → FitsBody slots (plain_body unit.body) c →
      FitsBody slots (plain_body unit.body) c'

-- ---- what all turns of an instance have in common

-- an instance of the unit, whose resting places have these numbers, in a program whose tick graphs have orders
pub record TurnContext (w : Setting) (rank : ℕ → Node → ℕ) (i : ℕ) (slots : Slots) (unit : UnitDef) : Type 0 where
  pub paces : Paces w
  pub orders : Orders w rank
  pub is : unit_at w i ≡ Some unit
  pub laid : SlotsAreDistinct slots (plain_body unit.body)

-- ---- the pass

-- a pass begins with the flag of the entry over a body that begins, and with no flag over a tree that rested
pub record PassesBegin : Type 0 where
  pub begins : (w : Setting) (rank : ℕ → Node → ℕ) (i : ℕ) (slots : Slots) (unit : UnitDef) (counters : ℕ → ℕ) →
      TurnContext w rank i slots unit → is_nil (do_block (plain_body unit.body)) ≡ false → ((j : ℕ) → counters j ≡ 0) →
      PassInvariant slots (rank i) (plain_body unit.body) 0 (do_block (plain_body unit.body)) (started counters (entry_flag (rank i) (plain_body unit.body)))
  pub resumes : (w : Setting) (rank : ℕ → Node → ℕ) (i : ℕ) (slots : Slots) (unit : UnitDef) (stood : Bool) (c : Tree) (counters : ℕ → ℕ) →
      TurnContext w rank i slots unit → FitsGraph w i c (whole stood (plain_body unit.body)) → FitsBody slots (plain_body unit.body) c → is_settled c ≡ true →
      is_nil c ≡ false → ((j : ℕ) → counters j ≡ numbers_of slots c Over j) →
      PassInvariant slots (rank i) (plain_body unit.body) 0 (woken c) (started counters (λ k. false))

-- the turn of a node keeps the invariant of a pass, from the next number on
abbrev pub TurnsKeepInvariant : Type 0
TurnsKeepInvariant =
    (w : Setting) (rank : ℕ → Node → ℕ) (i : ℕ) (slots : Slots) (unit : UnitDef) (stood : Bool) (c : Tree) (done : List AnsweredDeed) (n : Node)
    (c' : Tree)
    (rule : Transition) (r : Registers) (turn : Turns w rank i c done n c') → TurnContext w rank i slots unit → FitsGraph w i c (whole stood (plain_body unit.body)) →
    FitsBody slots (plain_body unit.body) c → Contains (rules slots (plain_body unit.body)) rule → rule.node ≡ n →
    PassInvariant slots (rank i) (plain_body unit.body) (rank i n) c r →
    PassInvariant slots (rank i) (plain_body unit.body) (suc (rank i n)) c' (after_rule (rank i) rule (answer_of turn) r)

-- the invariant of a pass holds from the number of the first waiting node on, where it holds from a lower number on
abbrev pub NumbersPass : Type 0
NumbersPass =
    (rank : ℕ → Node → ℕ) (i : ℕ) (slots : Slots) (body : Block) (k : ℕ) (c : Tree) (n : Node) (r : Registers) → k ≤ rank i n →
    First rank i c n →
    PassInvariant slots (rank i) body k c r → PassInvariant slots (rank i) body (rank i n) c r

-- each rule is due iff something waits at its node, if the node is still to have its turn
abbrev pub DueWaits : Type 0
DueWaits =
    (w : Setting) (rank : ℕ → Node → ℕ) (i : ℕ) (slots : Slots) (unit : UnitDef) (stood : Bool) (k : ℕ) (c : Tree) (rule : Transition) (r : Registers) →
    TurnContext w rank i slots unit → FitsGraph w i c (whole stood (plain_body unit.body)) → FitsBody slots (plain_body unit.body) c →
    Contains (rules slots (plain_body unit.body)) rule → PassInvariant slots (rank i) (plain_body unit.body) k c r → k ≤ rank i rule.node →
    Exactly (is_due (rank i) rule r) (Waits c None rule.node)
