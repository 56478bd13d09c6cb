-- Under a condition that is still to be tested nothing waits but what rested: so it is where a tick begins, and after each turn.
use Rattle.std.proofs.Common.{◌≡◌, ℕ, Bool, true, not, List}
use Rattle.bl_tree.proofs.Basics.{and_first, and_second}
use Rattle.bl_graph_nodes.specs.Nodes.{Node, entry}
use Rattle.bl_graph_nodes.specs.Plain.{Block, Bodies, Body as BodyOf, Done, Last, Plain, Then}
use Rattle.bl_ctree.specs.Control.{Body, Check}
use Rattle.bl_ctree.specs.Instances.{Setting}
use Rattle.bl_ctree_laws.specs.Pending.{Deed}
use Rattle.bl_ctree_laws.specs.Steps.{turn}
use Rattle.bl_ctree_laws.specs.Trees.{Tree, Trees, Nil, Wait, Test, Idle, Do, Seq, Par, Guard, Run, are_done, are_settled, trees_begun, beside, do_block}
use Rattle.bl_ctree_laws.specs.Trees.{is_nil, is_settled, no_tree, seq, woken, all_woken}
use Rattle.bl_ctree_laws_traces.specs.Progress.FitsGraph.{AllFitGraph, FitsGraph}
use Rattle.bl_ctree_laws_traces.specs.Progress.Places.{Place, ahead_of, guarded, in_branch, whole}
use Rattle.bl_machine_laws.specs.Numbers.Turns as turns
use Rattle.bl_machine_laws.specs.Numbers.Turns.{AnsweredDeed, InstancePoint, OneTurns, Turns}
use Rattle.bl_machine_laws.proofs.OnWaiting.Waking.{branch_rested}
use Rattle.bl_machine_pass_laws.specs.Turns.Dozes.{AllDoze, Dozes, StaysDozing}
use Rattle.bl_machine_pass_laws_turns.proofs.OnWaiting.Trees.{seq_by}

-- ---- what begins

pub block_dozes : (body : Block) → Dozes (do_block body)
block_dozes Done = tt
block_dozes (Then s Done) = tt
block_dozes (Then s (Then t rest)) = tt

begun_doze : (bodies : Bodies) → AllDoze (trees_begun bodies)
begun_doze Last = tt
begun_doze (BodyOf weak body rest) = (block_dozes body, begun_doze rest)

-- ---- what is woken

mutual
  woken_dozes : (w : Setting) (i : ℕ) (g : Place) (c : Tree) → FitsGraph w i c g → is_settled c ≡ true → Dozes (woken c)
  woken_dozes w i g Nil live settled = tt
  woken_dozes w i g (Wait s) live settled = tt
  woken_dozes w i g (Test s) live settled = tt
  woken_dozes w i g (Idle body) live settled = absurd live
  woken_dozes w i g (Do s) live settled = tt
  woken_dozes w i g (Seq c Done) live settled = absurd live
  woken_dozes w i g (Seq c (Then s rest)) live settled = woken_dozes w i (ahead_of (entry s) g) c live.0 settled
  woken_dozes w i g (Par s stood branches) live settled =
      each_dozes w i g stood branches s.bodies live.0 (and_first (are_settled branches) (not (are_done branches)) settled)
  woken_dozes w i g (Guard s Body stood c) live settled = (
    λ n h. branch_rested w i (guarded s g) c n live.0 (and_first (is_settled c) (not (is_nil c)) settled) h,
    woken_dozes w i (guarded s g) c live.0 (and_first (is_settled c) (not (is_nil c)) settled),
  )
  woken_dozes w i g (Guard s Check stood c) live settled = absurd cc
  woken_dozes w i g (Run s callee phase stood c) live settled = tt

  each_dozes : (w : Setting) (i : ℕ) (g : Place) (stood : Bool) (branches : Trees) (bodies : Bodies) → AllFitGraph w i branches bodies stood g →
      are_settled branches ≡ true → AllDoze (all_woken branches)
  each_dozes w i g stood no_tree bodies live settled = tt
  each_dozes w i g stood (beside weak c branches) Last live settled = absurd live
  each_dozes w i g stood (beside weak c branches) (BodyOf weak' body rest) live settled = (
    woken_dozes w i (in_branch stood body g) c live.0 (and_first (is_settled c) (are_settled branches) settled),
    each_dozes w i g stood branches rest live.2 (and_second (is_settled c) (are_settled branches) settled),
  )

-- ---- turns

seq_dozes : (c : Tree) (s : Plain) (rest : Block) → Dozes c → Dozes (seq c (Then s rest))
seq_dozes c s rest dozes = seq_by (λ t d. Dozes t → Dozes d) s rest (λ k. block_dozes (Then s rest)) (λ t k. k) c dozes

point_dozes : {w : Setting} {i : ℕ} {c : Tree} {d : Bool} {a : Deed} {n : Node} {c' : Tree} → InstancePoint w i c d a n c' → Dozes c → Dozes c'
point_dozes turns.acts dozes = tt
point_dozes (turns.takes {body = body}) dozes = block_dozes body
point_dozes (turns.passes {other = other}) dozes = block_dozes other
point_dozes turns.pauses dozes = tt
point_dozes (turns.repeats {body = body}) dozes = block_dozes (turn body _)
point_dozes (turns.repeats_until {body = body}) dozes = block_dozes (turn body _)
point_dozes turns.leaves dozes = tt
point_dozes turns.turns dozes = tt
point_dozes (turns.enters {body = body}) dozes = block_dozes (turn body _)
point_dozes turns.skips dozes = tt
point_dozes (turns.forks {bodies = bodies}) dozes = begun_doze bodies
point_dozes (turns.guards {body = body}) dozes = block_dozes body
point_dozes turns.goes_on dozes = tt
point_dozes turns.waits dozes = tt
point_dozes turns.lets dozes = dozes.1
point_dozes (turns.aborts is) dozes = tt
point_dozes (turns.resets {s = s} is) dozes = block_dozes s.body
point_dozes turns.guard_ends dozes = tt
point_dozes (turns.joins settled done) dozes = tt

mutual
  turn_dozes : {w : Setting} {rank : ℕ → Node → ℕ} {i : ℕ} {c : Tree} {done : List AnsweredDeed} {n : Node} {c' : Tree} →
      Turns w rank i c done n c' → Dozes c → Dozes c'
  turn_dozes (turns.point p) dozes = point_dozes p dozes
  turn_dozes (turns.runs called is passes lasts) dozes = tt
  turn_dozes (turns.resumes passes lasts) dozes = tt
  turn_dozes (turns.returns passes) dozes = tt
  turn_dozes (turns.in_seq {s = s} {rest = rest} {c' = c'} t) dozes = seq_dozes c' s rest (turn_dozes t dozes)
  turn_dozes (turns.in_par t) dozes = one_dozes t dozes
  turn_dozes (turns.in_guard t) dozes = turn_dozes t dozes

  one_dozes : {w : Setting} {rank : ℕ → Node → ℕ} {i : ℕ} {branches : Trees} {done : List AnsweredDeed} {n : Node} {branches' : Trees} →
      OneTurns w rank i branches done n branches' → AllDoze branches → AllDoze branches'
  one_dozes (turns.first t) dozes = (turn_dozes t dozes.0, dozes.1)
  one_dozes (turns.later t) dozes = (dozes.0, one_dozes t dozes.1)

pub stays_dozing : StaysDozing
stays_dozing = record {
  begins = λ body. block_dozes body;
  wakes = λ w i stood body c live settled. woken_dozes w i (whole stood body) c live settled;
  turns = λ w rank i c done n c' t dozes. turn_dozes t dozes;
}
