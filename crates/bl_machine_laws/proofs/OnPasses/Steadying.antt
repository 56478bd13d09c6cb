-- Steady trees: what can act in them waits, and turns keep them steady.
use Rattle.std.proofs.Common.{◌≡◌, ℕ, Bool, true, List, Option, Some, None, inl, inr, refl}
use Rattle.bl_tree.proofs.Basics.{true_false_any}
use Rattle.bl_graph_nodes.specs.Nodes.{Node}
use Rattle.bl_graph_nodes.specs.Plain.{Block, Bodies, Plain, Body as BodyOf, Done, Last, Then}
use Rattle.bl_graph_nodes.specs.Steps.{Here, StepLabel, end_node}
use Rattle.bl_ctree.specs.Control.{Body, Check}
use Rattle.bl_ctree.specs.Instances.{Setting}
use Rattle.bl_ctree_laws.specs.Pending.{Deed}
use Rattle.bl_ctree_laws.specs.Shrinks.{MovingIsUnsettled}
use Rattle.bl_ctree_laws.specs.Steps as moves
use Rattle.bl_ctree_laws.specs.Steps.{Anyway, Moves, OneMoves, turn}
use Rattle.bl_ctree_laws.specs.Trees.{Tree, Trees, Nil, Wait, Test, Idle, Do, Seq, Par, Guard, Run, all_woken, trees_begun, beside, do_block, is_settled}
use Rattle.bl_ctree_laws.specs.Trees.{no_tree, seq, woken}
use Rattle.bl_machine_laws.specs.Numbers.Turns as turns
use Rattle.bl_machine_laws.specs.Numbers.Turns.{AnsweredDeed, InstancePoint, OneTurns, Passes, Turns}
use Rattle.bl_machine_laws.specs.Numbers.Waiting.{SomeWaits, Waits, check_of, first_in}
use Rattle.bl_machine_laws.specs.Waiting.Laws.{AllPassed, RunsArePassed}
use Rattle.bl_machine_laws.specs.Passes.Steady.{AllSteady, Steady}

-- ---- steady trees

mutual
  pub steady_passed : (c : Tree) → Steady c → RunsArePassed c
  steady_passed Nil steady = tt
  steady_passed (Wait s) steady = tt
  steady_passed (Test s) steady = tt
  steady_passed (Idle body) steady = tt
  steady_passed (Do s) steady = tt
  steady_passed (Seq c rest) steady = steady_passed c steady
  steady_passed (Par s stood branches) steady = all_passed branches steady
  steady_passed (Guard s phase stood c) steady = steady_passed c steady
  steady_passed (Run s callee Check stood c) steady = tt
  steady_passed (Run s callee Body stood c) steady = steady

  all_passed : (branches : Trees) → AllSteady branches → AllPassed branches
  all_passed no_tree steady = tt
  all_passed (beside weak c branches) steady = (steady_passed c steady.0, all_passed branches steady.1)

pub block_steady : (body : Block) → Steady (do_block body)
block_steady Done = tt
block_steady (Then s Done) = tt
block_steady (Then s (Then t rest)) = tt

begun_steady : (bodies : Bodies) → AllSteady (trees_begun bodies)
begun_steady Last = tt
begun_steady (BodyOf weak body rest) = (block_steady body, begun_steady rest)

seq_steady : (c : Tree) (s : Plain) (rest : Block) → Steady c → Steady (seq c (Then s rest))
seq_steady Nil s rest steady = block_steady (Then s rest)
seq_steady (Wait p) s rest steady = steady
seq_steady (Test p) s rest steady = steady
seq_steady (Idle body) s rest steady = steady
seq_steady (Do p) s rest steady = steady
seq_steady (Seq c after) s rest steady = steady
seq_steady (Par p stood branches) s rest steady = steady
seq_steady (Guard p phase stood c) s rest steady = steady
seq_steady (Run p callee phase stood c) s rest steady = steady

mutual
  pub woken_steady : (c : Tree) → Steady (woken c)
  woken_steady Nil = tt
  woken_steady (Wait s) = tt
  woken_steady (Test s) = tt
  woken_steady (Idle body) = block_steady body
  woken_steady (Do s) = tt
  woken_steady (Seq c rest) = woken_steady c
  woken_steady (Par s stood branches) = all_woken_steady branches
  woken_steady (Guard s phase stood c) = woken_steady c
  woken_steady (Run s callee phase stood c) = woken_steady c

  all_woken_steady : (branches : Trees) → AllSteady (all_woken branches)
  all_woken_steady no_tree = tt
  all_woken_steady (beside weak c branches) = (woken_steady c, all_woken_steady branches)

point_steady : {w : Setting} {i : ℕ} {c : Tree} {d : Bool} {a : Deed} {n : Node} {c' : Tree} → InstancePoint w i c d a n c' → Steady c → Steady c'
point_steady turns.acts steady = tt
point_steady (turns.takes {body = body}) steady = block_steady body
point_steady (turns.passes {other = other}) steady = block_steady other
point_steady turns.pauses steady = tt
point_steady (turns.repeats {body = body}) steady = block_steady (turn body _)
point_steady (turns.repeats_until {body = body}) steady = block_steady (turn body _)
point_steady turns.leaves steady = tt
point_steady turns.turns steady = tt
point_steady (turns.enters {body = body}) steady = block_steady (turn body _)
point_steady turns.skips steady = tt
point_steady (turns.forks {bodies = bodies}) steady = begun_steady bodies
point_steady (turns.guards {body = body}) steady = block_steady body
point_steady turns.goes_on steady = tt
point_steady turns.waits steady = tt
point_steady turns.lets steady = steady
point_steady (turns.aborts is) steady = tt
point_steady (turns.resets {s = s} is) steady = block_steady s.body
point_steady turns.guard_ends steady = tt
point_steady (turns.joins settled done) steady = tt

-- a pass leaves nothing to do
pub pass_settles : {w : Setting} {rank : ℕ → Node → ℕ} {i k : ℕ} {c : Tree} {done : List AnsweredDeed} {c' : Tree} →
    Passes w rank i k c done c' → is_settled c' ≡ true
pass_settles (turns.rests settled) = settled
pass_settles (turns.goes before t more) = pass_settles more

mutual
  pub turn_steady : {w : Setting} {rank : ℕ → Node → ℕ} {i : ℕ} {c : Tree} {done : List AnsweredDeed} {n : Node} {c' : Tree} →
      Turns w rank i c done n c' → Steady c → Steady c'
  turn_steady (turns.point p) steady = point_steady p steady
  turn_steady (turns.runs called is passes lasts) steady = (pass_settles passes, lasts)
  turn_steady (turns.resumes passes lasts) steady = (pass_settles passes, lasts)
  turn_steady (turns.returns passes) steady = tt
  turn_steady (turns.in_seq {s = s} {rest = rest} {c' = c'} t) steady = seq_steady c' s rest (turn_steady t steady)
  turn_steady (turns.in_par t) steady = one_steady t steady
  turn_steady (turns.in_guard t) steady = turn_steady t steady

  one_steady : {w : Setting} {rank : ℕ → Node → ℕ} {i : ℕ} {branches : Trees} {done : List AnsweredDeed} {n : Node} {branches' : Trees} →
      OneTurns w rank i branches done n branches' → AllSteady branches → AllSteady branches'
  one_steady (turns.first t) steady = (turn_steady t steady.0, steady.1)
  one_steady (turns.later t) steady = (steady.0, one_steady t steady.1)

-- ---- what can act waits

-- the label is that of a node of the instance itself, for which something waits
pub record Candidate (c : Tree) (next : Option Node) (m : StepLabel) : Type 0 where
  pub node : Node
  pub is : m ≡ Here node
  pub waits : Waits c next node

record OneCandidate (branches : Trees) (m : StepLabel) : Type 0 where
  node : Node
  is : m ≡ Here node
  waits : SomeWaits branches node

module _ {w : Setting} (moving : MovingIsUnsettled) where
  mutual
    pub candidate : {i : ℕ} {c : Tree} {d : Bool} {a : Deed} {m : StepLabel} {c' : Tree} (next : Option Node) → Moves Anyway w i c d a m c' → Steady c →
        Candidate c next m
    candidate next moves.acts steady = record { node = _; is = refl; waits = refl }
    candidate next moves.takes steady = record { node = _; is = refl; waits = refl }
    candidate next moves.passes steady = record { node = _; is = refl; waits = refl }
    candidate next moves.pauses steady = record { node = _; is = refl; waits = refl }
    candidate next (moves.runs called is) steady = record { node = _; is = refl; waits = refl }
    candidate next moves.repeats steady = record { node = _; is = refl; waits = refl }
    candidate next moves.repeats_until steady = record { node = _; is = refl; waits = refl }
    candidate next moves.leaves steady = record { node = _; is = refl; waits = refl }
    candidate next moves.turns steady = record { node = _; is = refl; waits = refl }
    candidate next moves.enters steady = record { node = _; is = refl; waits = refl }
    candidate next moves.skips steady = record { node = _; is = refl; waits = refl }
    candidate next moves.forks steady = record { node = _; is = refl; waits = refl }
    candidate next moves.guards steady = record { node = _; is = refl; waits = refl }
    candidate next moves.goes_on steady = record { node = _; is = refl; waits = refl }
    candidate next moves.waits steady = record { node = _; is = refl; waits = refl }
    candidate next (moves.lets {s = s}) steady = record { node = check_of s; is = refl; waits = inl refl }
    candidate next (moves.aborts {s = s} is) steady = record { node = check_of s; is = refl; waits = inl refl }
    candidate next (moves.resets {s = s} is) steady = record { node = check_of s; is = refl; waits = inl refl }
    candidate next moves.guard_ends steady = record { node = _; is = refl; waits = refl }
    candidate next moves.copies steady = record { node = _; is = refl; waits = refl }
    candidate next moves.run_ends steady = true_false_any true refl steady.1
    candidate next (moves.joins settled done) steady = record { node = _; is = refl; waits = inr (done, refl) }
    candidate next (moves.in_seq {rest = rest} move) steady =
        let one = candidate (first_in rest next) move steady in record { node = one.node; is = one.is; waits = one.waits }
    candidate next (moves.in_par move) steady =
        let one = one_candidate move steady in record { node = one.node; is = one.is; waits = inl one.waits }
    candidate next (moves.in_guard {s = s} {stood = stood} move) steady =
        let one = candidate (Some (end_node stood s.label s.place)) move steady in record { node = one.node; is = one.is; waits = one.waits }
    candidate next (moves.in_run {callee = callee} {c = c} {d = d} {a = a} {n = n} {c' = c'} move) steady =
        true_false_any (is_settled c) steady.0 (moving w callee c d a n c' move)

    one_candidate : {i : ℕ} {branches : Trees} {d : Bool} {a : Deed} {m : StepLabel} {branches' : Trees} → OneMoves Anyway w i branches d a m branches' →
        AllSteady branches → OneCandidate branches m
    one_candidate (moves.first move free) steady =
        let one = candidate None move steady.0 in record { node = one.node; is = one.is; waits = inl one.waits }
    one_candidate (moves.later move free) steady =
        let one = one_candidate move steady.1 in record { node = one.node; is = one.is; waits = inr one.waits }
