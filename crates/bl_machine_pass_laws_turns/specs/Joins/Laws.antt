-- The laws of marks and joins.
use Rattle.std.specs.Prelude.{◌≤◌, ℕ, Bool, List, None}
use Rattle.bl_tree.specs.declared.tree.Unit.{Unit as UnitDef}
use Rattle.bl_graph_nodes.specs.Nodes.{Node}
use Rattle.bl_graph_nodes.specs.Plain.{Block, plain_body}
use Rattle.bl_ctree.specs.Instances.{Setting}
use Rattle.bl_ctree_laws.specs.Trees.{Tree, do_block, woken}
use Rattle.bl_machine.specs.Uses.{Slots}
use Rattle.bl_machine_laws.specs.Numbers.Turns.{AnsweredDeed, Turns}
use Rattle.bl_machine_laws.specs.Numbers.Waiting.{Waits}
use Rattle.bl_machine_pass.specs.Registers.{Registers, after_rule, is_due, started}
use Rattle.bl_machine_pass.specs.Transitions.{Transition}
use Rattle.bl_machine_pass_laws.specs.Turns.Holds.{CountersMayBe}
use Rattle.bl_machine_pass_laws.specs.Turns.Invariant.{Exactly, IsJoin, Marked, PassInvariant}
use Rattle.bl_machine_pass_laws.specs.Turns.Laws.{StaysPlaced, Turning, answer_of}
use Rattle.bl_machine_pass_laws_turns.specs.Joins.Stems.{Stemmed}

-- the tree with which an instance begins is left of its body, and waking and turns keep that
pub record StaysStemmed : Type 0 where
  pub begins : (unit : UnitDef) → Stemmed (plain_body unit.body) (do_block (plain_body unit.body))
  pub wakes : (body : Block) (c : Tree) → Stemmed body c → Stemmed body (woken c)
  pub turns : (w : Setting) (rank : ℕ → Node → ℕ) (i : ℕ) (body : Block) (c : Tree) (done : List AnsweredDeed) (n : Node) (c' : Tree) →
      Turns w rank i c done n c' → Stemmed body c → Stemmed body c'

-- the marks at the start of a pass say that nothing has begun in this tick: they fit a woken tree and a body that begins
pub record MarksBegin : Type 0 where
  pub resumes : (number : Node → ℕ) (c : Tree) (counters : ℕ → ℕ) (flags : ℕ → Bool) → Marked number (started counters flags).marks (woken c)
  pub begins : (number : Node → ℕ) (body : Block) (counters : ℕ → ℕ) (flags : ℕ → Bool) →
      Marked number (started counters flags).marks (do_block body)

-- a turn keeps the marks telling what began in this tick
abbrev pub TurnsKeepMarks : Type 0
TurnsKeepMarks =
    (w : Setting) (rank : ℕ → Node → ℕ) (i : ℕ) (slots : Slots) (unit : UnitDef) (stood : Bool) (c : Tree) (done : List AnsweredDeed) (n : Node)
    (c' : Tree)
    (rule : Transition) (r : Registers) (turn : Turns w rank i c done n c') → StaysPlaced → Turning w rank i slots unit stood c n rule →
    Stemmed (plain_body unit.body) c → Marked (rank i) r.marks c → Marked (rank i) (after_rule (rank i) rule (answer_of turn) r).marks c'

-- a rule of a join is due iff something waits at its node, where the counters and the marks fit the tree
abbrev pub JoinsWait : Type 0
JoinsWait =
    (w : Setting) (rank : ℕ → Node → ℕ) (i : ℕ) (slots : Slots) (unit : UnitDef) (stood : Bool) (c : Tree) (rule : Transition) (r : Registers) →
    StaysPlaced → Turning w rank i slots unit stood c rule.node rule → Stemmed (plain_body unit.body) c →
    CountersMayBe slots (plain_body unit.body) r.counters c → Marked (rank i) r.marks c → IsJoin rule.condition →
    Exactly (is_due (rank i) rule r) (Waits c None rule.node)

-- a rule of any kind is due iff something waits at its node, where the node has not been passed
abbrev pub RulesWait : Type 0
RulesWait =
    (w : Setting) (rank : ℕ → Node → ℕ) (i : ℕ) (slots : Slots) (unit : UnitDef) (stood : Bool) (k : ℕ) (c : Tree) (rule : Transition) (r : Registers) →
    StaysPlaced → Turning w rank i slots unit stood c rule.node rule → Stemmed (plain_body unit.body) c →
    PassInvariant slots (rank i) (plain_body unit.body) k c r → k ≤ rank i rule.node → Exactly (is_due (rank i) rule r) (Waits c None rule.node)
