-- The laws of a pass by registers: how each turn changes what they tell.
use Rattle.std.specs.Prelude.{◌≡◌, ℕ, Bool, true, false, List, Contains, Some, map, nat_eq}
use Rattle.bl_tree.specs.declared.tree.Unit.{Unit as UnitDef}
use Rattle.bl_graph_nodes.specs.Nodes.{Node, entry, nodes_in}
use Rattle.bl_graph_nodes.specs.Plain.{Block, Done, Then, plain_body}
use Rattle.bl_ctree.specs.Instances.{Setting, unit_at}
use Rattle.bl_ctree_laws.specs.Shrinks.{Paces}
use Rattle.bl_ctree_laws.specs.Trees.{Tree, Trees, do_block, is_nil, is_settled, woken}
use Rattle.bl_ctree_laws_traces.specs.Progress.FitsGraph.{FitsGraph}
use Rattle.bl_ctree_laws_traces.specs.Progress.Places.{whole}
use Rattle.bl_machine.specs.Uses.{Slots, uses_in}
use Rattle.bl_machine_laws.specs.Numbers.Numbers.{Over, numbers_of}
use Rattle.bl_machine_laws.specs.Numbers.Turns.{AnsweredDeed, OneTurns, Turns, first, in_guard, in_par, in_seq, later, point, resumes, returns, runs}
use Rattle.bl_machine_laws.specs.Passes.Orders.{Orders}
use Rattle.bl_machine_pass.specs.SlotLayout.{SlotsAreDistinct}
use Rattle.bl_machine_pass.specs.Registers.{Registers, after_rule}
use Rattle.bl_machine_pass.specs.Transitions.{Finishes, Transition, rules}
use Rattle.bl_machine_pass_laws.specs.Turns.Dozes.{Dozes}
use Rattle.bl_machine_pass_laws.specs.Turns.Holds.{CountersMayBe}
use Rattle.bl_machine_pass_laws.specs.Turns.Sits.{Lies, Sits, UsesOnly}

-- ---- turns

abbrev mutual
  -- the answer by which a rule goes on: that of the deed, or for a `run` that goes on, whether its callee's body has ended
  pub answer_of : {w : Setting} {rank : ℕ → Node → ℕ} {i : ℕ} {c : Tree} {done : List AnsweredDeed} {n : Node} {c' : Tree} →
      Turns w rank i c done n c' → Bool
  answer_of (point {d = d} p) = d
  answer_of (runs called is passes unended) = true
  answer_of (resumes passes unended) = false
  answer_of (returns passes) = true
  answer_of (in_seq t) = answer_of t
  answer_of (in_par t) = one_answer_of t
  answer_of (in_guard t) = answer_of t

  -- the answer by which the rule of a node in a branch goes on
  pub one_answer_of : {w : Setting} {rank : ℕ → Node → ℕ} {i : ℕ} {c : Trees} {done : List AnsweredDeed} {n : Node} {c' : Trees} →
      OneTurns w rank i c done n c' → Bool
  one_answer_of (first t) = answer_of t
  one_answer_of (later t) = one_answer_of t

-- ---- how a tree stands in its body

-- a tree of an instance of the activity stands in the body, with its rules and counters
pub record Placed (slots : Slots) (body : Block) (c : Tree) : Type 0 where
  pub sits : Sits slots (rules slots body) c Finishes
  pub lies : Lies slots 0 c
  pub uses : UsesOnly slots (uses_in slots body) c

-- the rules of a body are those of its nodes, in order. The tree with which a body begins is placed, and waking and turns keep that
pub record StaysPlaced : Type 0 where
  pub nodes : (slots : Slots) (body : Block) → map (λ rule. rule.node) (rules slots body) ≡ nodes_in body
  pub begins : (slots : Slots) (body : Block) → SlotsAreDistinct slots body → Placed slots body (do_block body)
  pub wakes : (slots : Slots) (body : Block) (c : Tree) → Placed slots body c → Placed slots body (woken c)
  pub turns : (w : Setting) (rank : ℕ → Node → ℕ) (i : ℕ) (slots : Slots) (body : Block) (c : Tree) (done : List AnsweredDeed) (n : Node) (c' : Tree) →
      SlotsAreDistinct slots body → Turns w rank i c done n c' → Placed slots body c → Placed slots body c'

-- ---- what a turn changes

-- the premises of the laws of a turn: a turn of an instance of a unit, with the rule of its node
pub record Turning (w : Setting) (rank : ℕ → Node → ℕ) (i : ℕ) (slots : Slots) (unit : UnitDef) (stood : Bool) (c : Tree) (n : Node) (rule : Transition) :
    Type 0 where
  pub paces : Paces w
  pub orders : Orders w rank
  pub is : unit_at w i ≡ Some unit
  pub live : FitsGraph w i c (whole stood (plain_body unit.body))
  pub laid : SlotsAreDistinct slots (plain_body unit.body)
  pub placed : Placed slots (plain_body unit.body) c
  pub dozes : Dozes c
  pub there : Contains (rules slots (plain_body unit.body)) rule
  pub of_node : rule.node ≡ n

-- a turn keeps the counters what they may be for the tree, and the end of the body told
abbrev pub TurnsChangeNumbers : Type 0
TurnsChangeNumbers =
    (w : Setting) (rank : ℕ → Node → ℕ) (i : ℕ) (slots : Slots) (unit : UnitDef) (stood : Bool) (c : Tree) (done : List AnsweredDeed) (n : Node)
    (c' : Tree)
    (rule : Transition) (r : Registers) (turn : Turns w rank i c done n c') → Turning w rank i slots unit stood c n rule →
    CountersMayBe slots (plain_body unit.body) r.counters c → r.over ≡ is_nil c →
    let r' = after_rule (rank i) rule (answer_of turn) r in
    CountersMayBe slots (plain_body unit.body) r'.counters c' × (r'.over ≡ is_nil c')

-- ---- the start of a pass

-- the flags as a pass begins over counters that hold 0 alone: only the entry waits
abbrev pub entry_flag : (Node → ℕ) → Block → ℕ → Bool
entry_flag number Done k = false
entry_flag number (Then s rest) k = nat_eq k (number (entry s))

-- between ticks the first counter of an instance that is running doesn't hold 0
abbrev pub FirstCounterTells : Type 0
FirstCounterTells =
    (w : Setting) (i : ℕ) (slots : Slots) (unit : UnitDef) (stood : Bool) (c : Tree) → FitsGraph w i c (whole stood (plain_body unit.body)) →
    SlotsAreDistinct slots (plain_body unit.body) → Placed slots (plain_body unit.body) c → is_settled c ≡ true → is_nil c ≡ false →
    numbers_of slots c Over 0 ≡ 0 → ⊥
