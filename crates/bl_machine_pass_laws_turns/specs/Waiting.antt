-- What waits after a turn, by flags and by what rested, and where a body begins.
use Rattle.std.specs.Prelude.{◌≡◌, ◌≤◌, ℕ, suc, Bool, false, List, Contains, None, Some}
use Rattle.bl_tree.specs.declared.tree.Unit.{Unit as UnitDef}
use Rattle.bl_graph_nodes.specs.Nodes.{Node}
use Rattle.bl_graph_nodes.specs.Plain.{plain_body}
use Rattle.bl_ctree.specs.Instances.{Setting, unit_at}
use Rattle.bl_ctree_laws.specs.Trees.{Tree, do_block, is_nil}
use Rattle.bl_machine.specs.Uses.{Slots}
use Rattle.bl_machine_laws.specs.Numbers.Turns.{AnsweredDeed, Turns}
use Rattle.bl_machine_laws.specs.Numbers.Waiting.{Waits}
use Rattle.bl_machine_laws.specs.Passes.Orders.{Orders}
use Rattle.bl_machine_pass.specs.SlotLayout.{SlotsAreDistinct}
use Rattle.bl_machine_pass.specs.Registers.{Registers, after_rule, is_due, started}
use Rattle.bl_machine_pass.specs.Transitions.{Condition, Transition, rules}
use Rattle.bl_machine_pass_laws.specs.Turns.Invariant.{Exactly, IsFlagged, IsResume, PassInvariant}
use Rattle.bl_machine_pass_laws.specs.Turns.Laws.{StaysPlaced, Turning, answer_of, entry_flag}

-- a turn keeps each later rule with such a question due iff something waits at its node
abbrev pub KeepsDue : (Condition → Type 0) → Type 0
KeepsDue Asks =
    (w : Setting) (rank : ℕ → Node → ℕ) (i : ℕ) (slots : Slots) (unit : UnitDef) (stood : Bool) (c : Tree) (done : List AnsweredDeed) (n : Node)
    (c' : Tree)
    (rule : Transition) (r : Registers) (turn : Turns w rank i c done n c') → Turning w rank i slots unit stood c n rule →
    PassInvariant slots (rank i) (plain_body unit.body) (rank i n) c r → (other : Transition) → Contains (rules slots (plain_body unit.body)) other →
    Asks other.condition → suc (rank i n) ≤ rank i other.node →
    Exactly (is_due (rank i) other (after_rule (rank i) rule (answer_of turn) r)) (Waits c' None other.node)

-- the turn of the first waiting node leaves only nodes with greater numbers waiting
abbrev pub TurnsLeaveMore : Type 0
TurnsLeaveMore =
    (w : Setting) (rank : ℕ → Node → ℕ) (i : ℕ) (slots : Slots) (unit : UnitDef) (stood : Bool) (c : Tree) (done : List AnsweredDeed) (n : Node)
    (c' : Tree)
    (rule : Transition) (r : Registers) → Turns w rank i c done n c' → Turning w rank i slots unit stood c n rule →
    PassInvariant slots (rank i) (plain_body unit.body) (rank i n) c r → (m : Node) → Waits c' None m → suc (rank i n) ≤ rank i m

-- a turn keeps the flags telling what waits, and the resting places telling it at resume nodes
abbrev pub TurnsKeepFlags : Type 0
TurnsKeepFlags = StaysPlaced → KeepsDue IsFlagged

abbrev pub TurnsKeepResumes : Type 0
TurnsKeepResumes = StaysPlaced → KeepsDue IsResume

-- a pass over a body that begins, with counters that hold 0, begins with the flag of its entry
abbrev pub BodiesBegin : Type 0
BodiesBegin =
    StaysPlaced → (w : Setting) (rank : ℕ → Node → ℕ) (i : ℕ) (slots : Slots) (unit : UnitDef) (counters : ℕ → ℕ) →
    Orders w rank → unit_at w i ≡ Some unit → SlotsAreDistinct slots (plain_body unit.body) → is_nil (do_block (plain_body unit.body)) ≡ false →
    ((j : ℕ) → counters j ≡ 0) →
    PassInvariant slots (rank i) (plain_body unit.body) 0 (do_block (plain_body unit.body)) (started counters (entry_flag (rank i) (plain_body unit.body)))
