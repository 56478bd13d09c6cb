-- What is left of called instances, in the trees to which turns and passes lead.
use Rattle.std.proofs.Common.{◌≡◌, ℕ, Bool, true, false, List, Some}
use Rattle.std.specs.Prelude.{⊤}
use Rattle.bl_tree.specs.declared.tree.Unit.{Unit as UnitDef}
use Rattle.bl_graph_nodes.specs.Nodes.{Node}
use Rattle.bl_graph_nodes.specs.Plain.{Again, Block, Bodies, Body as BodyOf, Done, Last, Plain, Repeat, Then, While, plain_body}
use Rattle.bl_ctree.specs.Instances.{Setting, unit_at}
use Rattle.bl_ctree_laws.specs.Pending.{Deed}
use Rattle.bl_ctree_laws.specs.Steps.{turn}
use Rattle.bl_ctree_laws.specs.Trees.{Tree, Trees, Nil, Wait, Test, Idle, Do, Seq, Par, Guard, Run, all_woken, beside, do_block, no_tree, seq, trees_begun}
use Rattle.bl_ctree_laws.specs.Trees.{woken}
use Rattle.bl_machine.specs.Uses.{Slots}
use Rattle.bl_machine_laws.specs.Numbers.Turns as turns
use Rattle.bl_machine_laws.specs.Numbers.Turns.{AnsweredDeed, InstancePoint, OneTurns, Passes, Turns}
use Rattle.bl_machine_pass.specs.SlotLayout.{SlotsAreDistinct}
use Rattle.bl_machine_pass_laws.specs.Same.Laws.{StaysResidual}
use Rattle.bl_machine_pass_laws.specs.Same.Residual.{InstanceResidual}
use Rattle.bl_machine_pass_laws.specs.Turns.Laws.{Placed, StaysPlaced}

-- the tree of an instance of the unit is left of its body, with its rules and counters
pub record Left (w : Setting) (slots : ℕ → Slots) (i : ℕ) (unit : UnitDef) (c : Tree) : Type 0 where
  pub residual : InstanceResidual w i (plain_body unit.body) c
  pub placed : Placed (slots i) (plain_body unit.body) c

-- the tree of a called instance is left of the body of its unit
pub record Called (w : Setting) (slots : ℕ → Slots) (i : ℕ) (c : Tree) : Type 0 where
  pub unit : UnitDef
  pub is : unit_at w i ≡ Some unit
  pub left : Left w slots i unit c

abbrev mutual
  -- each `run` in the tree, at every depth of calls, has called what is left of the body of its unit. A tree before the first tick has none
  pub CallsLeft : Setting → (ℕ → Slots) → Tree → Type 0
  CallsLeft w slots Nil = ⊤
  CallsLeft w slots (Wait s) = ⊤
  CallsLeft w slots (Test s) = ⊤
  CallsLeft w slots (Idle body) = ⊥
  CallsLeft w slots (Do s) = ⊤
  CallsLeft w slots (Seq c rest) = CallsLeft w slots c
  CallsLeft w slots (Par s stood branches) = AllCallsLeft w slots branches
  CallsLeft w slots (Guard s phase stood c) = CallsLeft w slots c
  CallsLeft w slots (Run s callee phase stood c) = Called w slots callee c × CallsLeft w slots c

  -- and so has each `run` in the branches
  pub AllCallsLeft : Setting → (ℕ → Slots) → Trees → Type 0
  AllCallsLeft w slots no_tree = ⊤
  AllCallsLeft w slots (beside weak c branches) = CallsLeft w slots c × AllCallsLeft w slots branches

-- ---- points

block_left : (w : Setting) (slots : ℕ → Slots) (body : Block) → CallsLeft w slots (do_block body)
block_left w slots Done = tt
block_left w slots (Then s Done) = tt
block_left w slots (Then s (Then next rest)) = tt

begun_left : (w : Setting) (slots : ℕ → Slots) (bodies : Bodies) → AllCallsLeft w slots (trees_begun bodies)
begun_left w slots Last = tt
begun_left w slots (BodyOf weak body rest) = (block_left w slots body, begun_left w slots rest)

seq_left : (w : Setting) (slots : ℕ → Slots) (c : Tree) (s : Plain) (rest : Block) → CallsLeft w slots c → CallsLeft w slots (seq c (Then s rest))
seq_left w slots Nil s rest calls = block_left w slots (Then s rest)
seq_left w slots (Wait x) s rest calls = calls
seq_left w slots (Test x) s rest calls = calls
seq_left w slots (Idle body) s rest calls = calls
seq_left w slots (Do x) s rest calls = calls
seq_left w slots (Seq c more) s rest calls = calls
seq_left w slots (Par x stood branches) s rest calls = calls
seq_left w slots (Guard x phase stood c) s rest calls = calls
seq_left w slots (Run x callee phase stood c) s rest calls = calls

point_left : {w : Setting} {i : ℕ} {c : Tree} {d : Bool} {a : Deed} {n : Node} {c' : Tree} → InstancePoint w i c d a n c' → (slots : ℕ → Slots) →
    CallsLeft w slots c → CallsLeft w slots c'
point_left turns.acts slots calls = tt
point_left {w} (turns.takes {body = body}) slots calls = block_left w slots body
point_left {w} (turns.passes {other = other}) slots calls = block_left w slots other
point_left turns.pauses slots calls = tt
point_left {w} (turns.repeats {l = l} {at = at} {body = body}) slots calls = block_left w slots (turn body (Repeat l at body))
point_left {w} (turns.repeats_until {l = l} {at = at} {body = body} {e = e}) slots calls = block_left w slots (turn body (Again l at body e))
point_left turns.leaves slots calls = tt
point_left turns.turns slots calls = tt
point_left {w} (turns.enters {l = l} {at = at} {e = e} {body = body}) slots calls = block_left w slots (turn body (While l at e body))
point_left turns.skips slots calls = tt
point_left {w} (turns.forks {bodies = bodies}) slots calls = begun_left w slots bodies
point_left {w} (turns.guards {body = body}) slots calls = block_left w slots body
point_left turns.goes_on slots calls = tt
point_left turns.waits slots calls = tt
point_left turns.lets slots calls = calls
point_left (turns.aborts is) slots calls = tt
point_left {w} (turns.resets {s = s} is) slots calls = block_left w slots s.body
point_left turns.guard_ends slots calls = tt
point_left (turns.joins settled done) slots calls = tt

-- ---- turns, passes, and the start of a tick

-- what a pass leaves of an instance of the unit
pub record After (w : Setting) (slots : ℕ → Slots) (i : ℕ) (unit : UnitDef) (c : Tree) : Type 0 where
  pub left : Left w slots i unit c
  pub calls : CallsLeft w slots c

module _ (residual : StaysResidual) (placed : StaysPlaced) (w : Setting) (rank : ℕ → Node → ℕ) (slots : ℕ → Slots)
    (laid : (i : ℕ) (unit : UnitDef) → unit_at w i ≡ Some unit → SlotsAreDistinct (slots i) (plain_body unit.body)) where
  pub begun : (i : ℕ) (unit : UnitDef) → unit_at w i ≡ Some unit → After w slots i unit (do_block (plain_body unit.body))
  begun i unit is = record {
    left = record {
      residual = residual.begins w i (plain_body unit.body);
      placed = placed.begins (slots i) (plain_body unit.body) (laid i unit is);
    };
    calls = block_left w slots (plain_body unit.body);
  }

  woken_left : (i : ℕ) (unit : UnitDef) (c : Tree) → Left w slots i unit c → Left w slots i unit (woken c)
  woken_left i unit c left = record {
    residual = residual.wakes w i (plain_body unit.body) c left.residual;
    placed = placed.wakes (slots i) (plain_body unit.body) c left.placed;
  }

  mutual
    calls_woken : (c : Tree) → CallsLeft w slots c → CallsLeft w slots (woken c)
    calls_woken Nil calls = tt
    calls_woken (Wait s) calls = tt
    calls_woken (Test s) calls = tt
    calls_woken (Idle body) calls = absurd calls
    calls_woken (Do s) calls = tt
    calls_woken (Seq c rest) calls = calls_woken c calls
    calls_woken (Par s stood branches) calls = all_calls_woken branches calls
    calls_woken (Guard s phase stood c) calls = calls_woken c calls
    calls_woken (Run s callee phase stood c) calls =
        let own = calls.0 in
        (record { unit = own.unit; is = own.is; left = woken_left callee own.unit c own.left }, calls_woken c calls.1)

    all_calls_woken : (branches : Trees) → AllCallsLeft w slots branches → AllCallsLeft w slots (all_woken branches)
    all_calls_woken no_tree calls = tt
    all_calls_woken (beside weak c branches) calls = (calls_woken c calls.0, all_calls_woken branches calls.1)

  pub woken_after : (i : ℕ) (unit : UnitDef) (c : Tree) → After w slots i unit c → After w slots i unit (woken c)
  woken_after i unit c after = record { left = woken_left i unit c after.left; calls = calls_woken c after.calls }

  turned : {i : ℕ} {c : Tree} {done : List AnsweredDeed} {n : Node} {c' : Tree} → Turns w rank i c done n c' → (unit : UnitDef) → unit_at w i ≡ Some unit →
      Left w slots i unit c → Left w slots i unit c'
  turned {i = i} {c = c} {done = done} {n = n} {c' = c'} t unit is left = record {
    residual = residual.turns w rank i (plain_body unit.body) c done n c' t left.residual;
    placed = placed.turns w rank i (slots i) (plain_body unit.body) c done n c' (laid i unit is) t left.placed;
  }

  mutual
    turn_left : {i : ℕ} {c : Tree} {done : List AnsweredDeed} {n : Node} {c' : Tree} → Turns w rank i c done n c' → CallsLeft w slots c →
        CallsLeft w slots c'
    turn_left (turns.point p) calls = point_left p slots calls
    turn_left (turns.runs {callee = callee} {unit = unit} called is passes unended) calls =
        let after = pass_left passes unit is (begun callee unit is) in
        (record { unit = unit; is = is; left = after.left }, after.calls)
    turn_left (turns.resumes passes unended) calls =
        let own = calls.0 in
        let after = pass_left passes own.unit own.is (record { left = own.left; calls = calls.1 }) in
        (record { unit = own.unit; is = own.is; left = after.left }, after.calls)
    turn_left (turns.returns passes) calls = tt
    turn_left (turns.in_seq {s = s} {rest = rest} {c' = c'} t) calls = seq_left w slots c' s rest (turn_left t calls)
    turn_left (turns.in_par t) calls = one_turn_left t calls
    turn_left (turns.in_guard t) calls = turn_left t calls

    one_turn_left : {i : ℕ} {c : Trees} {done : List AnsweredDeed} {n : Node} {c' : Trees} → OneTurns w rank i c done n c' → AllCallsLeft w slots c →
        AllCallsLeft w slots c'
    one_turn_left (turns.first t) calls = (turn_left t calls.0, calls.1)
    one_turn_left (turns.later t) calls = (calls.0, one_turn_left t calls.1)

    pub pass_left : {i k : ℕ} {c : Tree} {done : List AnsweredDeed} {c' : Tree} → Passes w rank i k c done c' → (unit : UnitDef) →
        unit_at w i ≡ Some unit → After w slots i unit c → After w slots i unit c'
    pass_left (turns.rests settled) unit is before = before
    pass_left (turns.goes less t more) unit is before =
        pass_left more unit is (record { left = turned t unit is before.left; calls = turn_left t before.calls })
