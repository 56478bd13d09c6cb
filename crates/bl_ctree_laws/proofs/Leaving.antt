-- Steps and waking lead from what may be left of a body to what may be left of it.
use Rattle.std.proofs.Common.{◌≡◌, ℕ, Bool, true, false, refl}
use Rattle.bl_tree.proofs.Basics.{from_false}
use Rattle.bl_graph_nodes.specs.Plain.{Block, Bodies, Plain, Body as BodyOf, Done, Last, Then, plain_body}
use Rattle.bl_graph_nodes.specs.Steps.{StepLabel}
use Rattle.bl_ctree.specs.Instances.{Setting}
use Rattle.bl_ctree_laws.specs.ResidualLaws.{BlocksArePlainResidual, StepsKeepPlainResidual, WakingKeepsPlainResidual}
use Rattle.bl_ctree_laws.specs.Residual.{BlockSplitsAt, PlainResidual, PlainResidualEach, PlainResidualOf, ended, has_begun, here, none_left, not_begun}
use Rattle.bl_ctree_laws.specs.Residual.{nothing, of_again, of_else, of_guard, of_last, of_one, of_par, of_repeat, of_run, of_then, of_until, of_while}
use Rattle.bl_ctree_laws.specs.Residual.{one_left, paused, tested, there, to_begin}
use Rattle.bl_ctree_laws.specs.Pending.{Deed}
use Rattle.bl_ctree_laws.specs.Steps.{Moves, OneMoves, acts, takes, passes, pauses, runs, repeats, repeats_until, leaves, turns, enters, skips, forks, guards}
use Rattle.bl_ctree_laws.specs.Steps.{goes_on, waits, lets, aborts, resets, guard_ends, copies, run_ends, joins, in_seq, in_par, in_guard, in_run, first, later}
use Rattle.bl_ctree_laws.specs.Trees.{Tree, Trees, Nil, Wait, Test, Idle, Do, Seq, Par, Guard, Run, all_woken, trees_begun, do_block, is_nil, seq, woken}
use Rattle.bl_ctree.proofs.Leaving.{unchecked}

-- ---- what begins

next : {s t : Plain} {rest body : Block} → BlockSplitsAt s (Then t rest) body → BlockSplitsAt t rest body
next here = there here
next (there stands) = there (next stands)

-- what follows a statement is left where it begins
pub rest_left : {w : Setting} {stood : Bool} {i : ℕ} {s : Plain} {body : Block} (rest : Block) → BlockSplitsAt s rest body → PlainResidual w stood i body (do_block rest)
rest_left Done stands = nothing
rest_left (Then t Done) stands = of_last (next stands) to_begin
rest_left (Then t (Then u rest)) stands = of_one (next stands) to_begin refl

pub block_left : {w : Setting} {stood : Bool} {i : ℕ} (body : Block) → PlainResidual w stood i body (do_block body)
block_left Done = nothing
block_left (Then s Done) = of_last here to_begin
block_left (Then s (Then t rest)) = of_one here to_begin refl

pub each_left : {w : Setting} {stood : Bool} {i : ℕ} (bodies : Bodies) → PlainResidualEach w stood i bodies (trees_begun bodies)
each_left Last = none_left
each_left (BodyOf weak body rest) = one_left (block_left body) (each_left rest)

-- what is left of a statement, and what follows it
pub seq_left : {w : Setting} {stood : Bool} {i : ℕ} {s t : Plain} {rest body : Block} (c : Tree) → BlockSplitsAt s (Then t rest) body →
    PlainResidualOf w stood i s c → PlainResidual w stood i body (seq c (Then t rest))
seq_left {t = t} {rest} Nil stands of = rest_left (Then t rest) stands
seq_left (Wait p) stands of = of_one stands of refl
seq_left (Test p) stands of = of_one stands of refl
seq_left (Idle p) stands of = of_one stands of refl
seq_left (Do p) stands of = of_one stands of refl
seq_left (Seq c p) stands of = of_one stands of refl
seq_left (Par p stood branches) stands of = of_one stands of refl
seq_left (Guard p phase stood c) stands of = of_one stands of refl
seq_left (Run p callee phase stood c) stands of = of_one stands of refl

-- ---- steps

module _ {T : Bool → Type 0} {w : Setting} where
  mutual
    pub keeps : {stood : Bool} {i : ℕ} {body : Block} {c : Tree} {d : Bool} {a : Deed} {n : StepLabel} {c' : Tree} →
        PlainResidual w stood i body c → Moves T w i c d a n c' → PlainResidual w stood i body c'
    keeps nothing move = elim move [ ]
    keeps (of_last stands of) move = of_last stands (keeps_of of move)
    keeps (of_one stands of busy) (in_seq {c' = c'} move) = seq_left c' stands (keeps_of of move)

    keeps_of : {stood : Bool} {i : ℕ} {s : Plain} {c : Tree} {d : Bool} {a : Deed} {n : StepLabel} {c' : Tree} →
        PlainResidualOf w stood i s c → Moves T w i c d a n c' → PlainResidualOf w stood i s c'
    keeps_of to_begin acts = ended
    keeps_of to_begin (takes {body = body}) = of_then (block_left body)
    keeps_of to_begin (passes {other = other}) = of_else (block_left other)
    keeps_of to_begin pauses = paused
    keeps_of to_begin (runs {unit = unit} at is) = of_run at is from_false unchecked (block_left (plain_body unit.body))
    keeps_of to_begin repeats = of_repeat (block_left _)
    keeps_of to_begin repeats_until = of_until (block_left _)
    keeps_of to_begin leaves = ended
    keeps_of to_begin turns = of_again to_begin
    keeps_of to_begin enters = of_while (block_left _)
    keeps_of to_begin skips = ended
    keeps_of to_begin (forks {bodies = bodies}) = of_par from_false (each_left bodies)
    keeps_of to_begin (guards {body = body}) = of_guard from_false unchecked (block_left body)
    keeps_of ended move = elim move [ ]
    keeps_of paused move = elim move [ ]
    keeps_of tested goes_on = ended
    keeps_of tested waits = paused
    keeps_of (of_then left) move = of_then (keeps left move)
    keeps_of (of_else left) move = of_else (keeps left move)
    keeps_of (of_repeat left) move = of_repeat (keeps left move)
    keeps_of (of_until left) move = of_until (keeps left move)
    keeps_of (of_while left) move = of_while (keeps left move)
    keeps_of (of_again of) move = of_again (keeps_of of move)
    keeps_of (of_par around each) (joins still done) = ended
    keeps_of (of_par around each) (in_par move) = of_par around (keeps_each each move)
    keeps_of (of_guard around check left) lets = of_guard around unchecked left
    keeps_of (of_guard around check left) (aborts is) = ended
    keeps_of (of_guard {body = body} around check left) (resets is) = of_guard around unchecked (block_left body)
    keeps_of (of_guard around check left) guard_ends = ended
    keeps_of (of_guard around check left) (in_guard move) = of_guard around check (keeps left move)
    keeps_of (of_run at is around check left) copies = of_run at is around unchecked left
    keeps_of (of_run at is around check left) run_ends = ended
    keeps_of (of_run at is around check left) (in_run move) = of_run at is around check (keeps left move)

    keeps_each : {stood : Bool} {i : ℕ} {bodies : Bodies} {branches : Trees} {d : Bool} {a : Deed} {n : StepLabel} {branches' : Trees} →
        PlainResidualEach w stood i bodies branches → OneMoves T w i branches d a n branches' → PlainResidualEach w stood i bodies branches'
    keeps_each none_left move = elim move [ ]
    keeps_each (one_left left each) (first move free) = one_left (keeps left move) each
    keeps_each (one_left left each) (later move free) = one_left left (keeps_each each move)

-- ---- waking

mutual
  still_busy : {w : Setting} {stood : Bool} {i : ℕ} {body : Block} {c : Tree} → PlainResidual w stood i body c → is_nil c ≡ false → is_nil (woken c) ≡ false
  still_busy nothing e = absurd cc
  still_busy (of_last stands of) e = busy_of of e
  still_busy (of_one stands of busy) e = refl

  busy_of : {w : Setting} {stood : Bool} {i : ℕ} {s : Plain} {c : Tree} → PlainResidualOf w stood i s c → is_nil c ≡ false → is_nil (woken c) ≡ false
  busy_of to_begin e = refl
  busy_of ended e = absurd cc
  busy_of paused e = refl
  busy_of tested e = refl
  busy_of (of_then left) e = still_busy left e
  busy_of (of_else left) e = still_busy left e
  busy_of (of_repeat left) e = still_busy left e
  busy_of (of_until left) e = still_busy left e
  busy_of (of_while left) e = still_busy left e
  busy_of (of_again of) e = busy_of of e
  busy_of (of_par around each) e = refl
  busy_of (of_guard around check left) e = refl
  busy_of (of_run at is around check left) e = refl

mutual
  wakes : {w : Setting} {stood : Bool} {i : ℕ} {body : Block} {c : Tree} → PlainResidual w stood i body c → PlainResidual w true i body (woken c)
  wakes nothing = nothing
  wakes (of_last stands of) = of_last stands (wakes_of of)
  wakes (of_one stands of busy) = of_one stands (wakes_of of) (busy_of of busy)

  wakes_of : {w : Setting} {stood : Bool} {i : ℕ} {s : Plain} {c : Tree} → PlainResidualOf w stood i s c → PlainResidualOf w true i s (woken c)
  wakes_of to_begin = to_begin
  wakes_of ended = ended
  wakes_of paused = tested
  wakes_of tested = tested
  wakes_of (of_then left) = of_then (wakes left)
  wakes_of (of_else left) = of_else (wakes left)
  wakes_of (of_repeat left) = of_repeat (wakes left)
  wakes_of (of_until left) = of_until (wakes left)
  wakes_of (of_while left) = of_while (wakes left)
  wakes_of (of_again of) = of_again (wakes_of of)
  wakes_of (of_par around each) = of_par (λ e. refl) (wakes_each each)
  wakes_of (of_guard around check left) = of_guard (λ e. refl) (λ e. refl) (wakes left)
  wakes_of (of_run at is around check left) = of_run at is (λ e. refl) (λ e. refl) (wakes left)

  wakes_each : {w : Setting} {stood : Bool} {i : ℕ} {bodies : Bodies} {branches : Trees} → PlainResidualEach w stood i bodies branches →
      PlainResidualEach w true i bodies (all_woken branches)
  wakes_each none_left = none_left
  wakes_each (one_left left each) = one_left (wakes left) (wakes_each each)

pub blocks_are_left : BlocksArePlainResidual
blocks_are_left w stood i body = block_left body

pub steps_keep_left : StepsKeepPlainResidual
steps_keep_left w stood i body c d a n c' left move = keeps left move

pub waking_keeps_left : WakingKeepsPlainResidual
waking_keeps_left w body c not_begun = block_left body
waking_keeps_left w body c (has_begun left) = wakes left
