-- What holds between the turns of a pass: its registers tell where the tree stands, and at which nodes something waits.
use Rattle.std.specs.Prelude.{◌≡◌, ◌≤◌, ℕ, Bool, true, not, Contains, None, ⊤}
use Rattle.bl_graph_nodes.specs.Nodes.{ForkAt, Node, StartAt, are_instant, is_instant}
use Rattle.bl_graph_nodes.specs.Plain.{Block}
use Rattle.bl_ctree_laws.specs.Trees.{Tree, Trees, Nil, Wait, Test, Idle, Do, Seq, Par, Guard, Run, beside, is_nil, no_tree}
use Rattle.bl_ctree_laws_traces.specs.Progress.FitsGraph.{fork_stmt}
use Rattle.bl_machine.specs.Uses.{Slots}
use Rattle.bl_machine_laws.specs.Numbers.Waiting.{Waits}
use Rattle.bl_machine_pass.specs.Registers.{Registers, is_due}
use Rattle.bl_machine_pass.specs.Transitions.{Condition, Ended, Flagged, Rested, RestedIn, Transition, rules}
use Rattle.bl_machine_pass_laws.specs.Turns.Holds.{CountersMayBe}

-- whether a rule asks for the flag of its node
abbrev pub IsFlagged : Condition → Type 0
IsFlagged Flagged = ⊤
IsFlagged (Rested slot) = ⊥
IsFlagged (RestedIn slots) = ⊥
IsFlagged (Ended age needed) = ⊥

-- whether the question is where the instance rested when the tick began
abbrev pub IsResume : Condition → Type 0
IsResume Flagged = ⊥
IsResume (Rested slot) = ⊤
IsResume (RestedIn slots) = ⊤
IsResume (Ended age needed) = ⊥

-- whether the question is for the ends of branches
abbrev pub IsJoin : Condition → Type 0
IsJoin Flagged = ⊥
IsJoin (Rested slot) = ⊥
IsJoin (RestedIn slots) = ⊥
IsJoin (Ended age needed) = ⊤

abbrev mutual
  -- the marks tell which `cobegin`s and `when`s of the tree began in this tick, among those that may end in the tick in which they begin
  pub Marked : (Node → ℕ) → (ℕ → Bool) → Tree → Type 0
  Marked number marks Nil = ⊤
  Marked number marks (Wait s) = ⊤
  Marked number marks (Test s) = ⊤
  Marked number marks (Idle body) = ⊤
  Marked number marks (Do s) = ⊤
  Marked number marks (Seq c rest) = Marked number marks c
  Marked number marks (Par s stood branches) =
      (is_instant (fork_stmt s) ≡ true → marks (number (ForkAt s.label s.place)) ≡ not stood) × MarkEach number marks branches
  Marked number marks (Guard s phase stood c) =
      (are_instant s.body ≡ true → marks (number (StartAt s.label s.place)) ≡ not stood) × Marked number marks c
  Marked number marks (Run s callee phase stood c) = ⊤

  -- the marks tell what began in this tick in each branch
  pub MarkEach : (Node → ℕ) → (ℕ → Bool) → Trees → Type 0
  MarkEach number marks no_tree = ⊤
  MarkEach number marks (beside weak c branches) = Marked number marks c × MarkEach number marks branches

-- the test is true iff the proposition holds
abbrev pub Exactly : Bool → Type 0 → Type 0
Exactly test there = (test ≡ true → there) × (there → test ≡ true)

-- PassInvariant slots number body k c r: the registers represent the tree c before the node number k has its turn; what lies below k no longer matters
pub record PassInvariant (slots : Slots) (number : Node → ℕ) (body : Block) (k : ℕ) (c : Tree) (r : Registers) : Type 0 where
  -- each counter holds the number of the tree there, or that of an `await` or a `run` that has gone on
  pub counters : CountersMayBe slots body r.counters c
  -- what waits is still to have its turn
  pub ahead : (n : Node) → Waits c None n → k ≤ number n
  -- the flag of a node is set iff something waits at it
  pub flags : (rule : Transition) → Contains (rules slots body) rule → IsFlagged rule.condition → k ≤ number rule.node →
      Exactly (is_due number rule r) (Waits c None rule.node)
  -- a resume node is due iff what rested there still waits
  pub resumes : (rule : Transition) → Contains (rules slots body) rule → IsResume rule.condition → k ≤ number rule.node →
      Exactly (is_due number rule r) (Waits c None rule.node)
  pub marks : Marked number r.marks c
  pub over : r.over ≡ is_nil c
