-- What rested when the tick began waits, and no turn makes more of it.
use Rattle.std.proofs.Common.{ℕ, Bool, List, Option, Some, None, inl, inr}
use Rattle.bl_graph_nodes.specs.Nodes.{Node}
use Rattle.bl_graph_nodes.specs.Plain.{Block, Bodies, Body as BodyOf, Done, Last, Plain, Then}
use Rattle.bl_graph_nodes.specs.Steps.{end_node}
use Rattle.bl_ctree.specs.Control.{Body, Check}
use Rattle.bl_ctree.specs.Instances.{Setting}
use Rattle.bl_ctree_laws.specs.Pending.{Deed}
use Rattle.bl_ctree_laws.specs.Steps.{turn}
use Rattle.bl_ctree_laws.specs.Trees.{Tree, Trees, Nil, Wait, Test, Idle, Do, Seq, Par, Guard, Run, trees_begun, beside, do_block, no_tree, seq}
use Rattle.bl_machine_laws.specs.Numbers.Turns as turns
use Rattle.bl_machine_laws.specs.Numbers.Turns.{AnsweredDeed, InstancePoint, OneTurns, Turns}
use Rattle.bl_machine_laws.specs.Numbers.Waiting.{Sleeps, SomeSleeps, SomeWaits, Waits, first_in}

mutual
  pub sleeper_waits : (c : Tree) (next : Option Node) (n : Node) → Sleeps c n → Waits c next n
  sleeper_waits Nil next n h = absurd h
  sleeper_waits (Wait s) next n h = h
  sleeper_waits (Test s) next n h = h
  sleeper_waits (Idle body) next n h = h
  sleeper_waits (Do s) next n h = absurd h
  sleeper_waits (Seq c rest) next n h = sleeper_waits c (first_in rest next) n h
  sleeper_waits (Par s stood branches) next n h = inl (some_waits branches n h)
  sleeper_waits (Guard s Body stood c) next n h = sleeper_waits c (Some (end_node stood s.label s.place)) n h
  sleeper_waits (Guard s Check stood c) next n (inl h) = inl h
  sleeper_waits (Guard s Check stood c) next n (inr h) = inr (sleeper_waits c (Some (end_node stood s.label s.place)) n h)
  sleeper_waits (Run s callee Body stood c) next n h = h
  sleeper_waits (Run s callee Check stood c) next n h = h

  some_waits : (branches : Trees) (n : Node) → SomeSleeps branches n → SomeWaits branches n
  some_waits no_tree n h = h
  some_waits (beside weak c branches) n (inl h) = inl (sleeper_waits c None n h)
  some_waits (beside weak c branches) n (inr h) = inr (some_waits branches n h)

-- ---- nothing sleeps in what begins

pub block_awake : (body : Block) (y : Node) → Sleeps (do_block body) y → ⊥
block_awake Done y h = h
block_awake (Then s Done) y h = h
block_awake (Then s (Then t rest)) y h = h

pub begun_awake : (bodies : Bodies) (y : Node) → SomeSleeps (trees_begun bodies) y → ⊥
begun_awake Last y h = h
begun_awake (BodyOf weak body rest) y (inl h) = block_awake body y h
begun_awake (BodyOf weak body rest) y (inr h) = begun_awake rest y h

pub seq_sleeps : (c : Tree) (s : Plain) (rest : Block) (y : Node) → Sleeps (seq c (Then s rest)) y → Sleeps c y
seq_sleeps Nil s rest y h = block_awake (Then s rest) y h
seq_sleeps (Wait p) s rest y h = h
seq_sleeps (Test p) s rest y h = h
seq_sleeps (Idle body) s rest y h = h
seq_sleeps (Do p) s rest y h = h
seq_sleeps (Seq c after) s rest y h = h
seq_sleeps (Par p stood branches) s rest y h = h
seq_sleeps (Guard p phase stood c) s rest y h = h
seq_sleeps (Run p callee phase stood c) s rest y h = h

-- ---- turns

point_wakes : {w : Setting} {i : ℕ} {c : Tree} {d : Bool} {a : Deed} {n : Node} {c' : Tree} (y : Node) → InstancePoint w i c d a n c' →
    Sleeps c' y → Sleeps c y
point_wakes y turns.acts h = h
point_wakes y (turns.takes {body = body}) h = block_awake body y h
point_wakes y (turns.passes {other = other}) h = block_awake other y h
point_wakes y turns.pauses h = h
point_wakes y (turns.repeats {body = body}) h = block_awake (turn body _) y h
point_wakes y (turns.repeats_until {body = body}) h = block_awake (turn body _) y h
point_wakes y turns.leaves h = h
point_wakes y turns.turns h = h
point_wakes y (turns.enters {body = body}) h = block_awake (turn body _) y h
point_wakes y turns.skips h = h
point_wakes y (turns.forks {bodies = bodies}) h = begun_awake bodies y h
point_wakes y (turns.guards {body = body}) h = block_awake body y h
point_wakes y turns.goes_on h = absurd h
point_wakes y turns.waits h = absurd h
point_wakes y turns.lets h = inr h
point_wakes y (turns.aborts is) h = absurd h
point_wakes y (turns.resets {s = s} is) h = absurd (block_awake s.body y h)
point_wakes y turns.guard_ends h = h
point_wakes y (turns.joins settled done) h = absurd h

mutual
  pub turn_wakes : {w : Setting} {rank : ℕ → Node → ℕ} {i : ℕ} {c : Tree} {done : List AnsweredDeed} {n : Node} {c' : Tree} (y : Node) →
      Turns w rank i c done n c' → Sleeps c' y → Sleeps c y
  turn_wakes y (turns.point p) h = point_wakes y p h
  turn_wakes y (turns.runs called is passes lasts) h = h
  turn_wakes y (turns.resumes passes lasts) h = absurd h
  turn_wakes y (turns.returns passes) h = absurd h
  turn_wakes y (turns.in_seq {s = s} {rest = rest} {c' = c'} t) h = turn_wakes y t (seq_sleeps c' s rest y h)
  turn_wakes y (turns.in_par t) h = one_wakes y t h
  turn_wakes y (turns.in_guard t) h = turn_wakes y t h

  one_wakes : {w : Setting} {rank : ℕ → Node → ℕ} {i : ℕ} {branches : Trees} {done : List AnsweredDeed} {n : Node} {branches' : Trees} (y : Node) →
      OneTurns w rank i branches done n branches' → SomeSleeps branches' y → SomeSleeps branches y
  one_wakes y (turns.first t) (inl h) = inl (turn_wakes y t h)
  one_wakes y (turns.first t) (inr h) = inr h
  one_wakes y (turns.later t) (inl h) = inl h
  one_wakes y (turns.later t) (inr h) = inr (one_wakes y t h)
