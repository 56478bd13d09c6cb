-- A step is inside no more calls than stand in its tree.
use Rattle.std.proofs.Common.{◌≡◌, ℕ, suc, ◌+◌, ◌≤◌, Bool, length, refl, ap, arith}
use Rattle.bl_graph_nodes.specs.Nodes.{Node}
use Rattle.bl_graph_nodes.specs.Steps.{Gives, Here, Inside, StepLabel}
use Rattle.bl_ctree.specs.Instances.{Setting}
use Rattle.bl_ctree_laws.specs.Pending.{Deed}
use Rattle.bl_ctree_laws.specs.Steps.{Moves, OneMoves, acts, takes, passes, pauses, runs, repeats, repeats_until, leaves, turns, enters, skips, forks, guards}
use Rattle.bl_ctree_laws.specs.Steps.{goes_on, waits, lets, aborts, resets, guard_ends, copies, run_ends, joins, in_seq, in_par, in_guard, in_run, first, later}
use Rattle.bl_ctree_laws.specs.Trees.{Tree, Trees, Nil, Wait, Test, Idle, Do, Seq, Par, Guard, Run, beside, no_tree}
use Rattle.bl_ctree_laws_traces.specs.Ready.Ranks.{callee_there, ranks_in}

-- the calls around what acts
abbrev pub calls_around : StepLabel → ℕ
calls_around (Here n) = 0
calls_around (Gives n) = 0
calls_around (Inside n u step) = suc (calls_around step)

abbrev mutual
  -- the calls in a tree
  pub calls_in : Tree → ℕ
  calls_in Nil = 0
  calls_in (Wait s) = 0
  calls_in (Test s) = 0
  calls_in (Idle body) = 0
  calls_in (Do s) = 0
  calls_in (Seq c rest) = calls_in c
  calls_in (Par s stood branches) = all_calls_in branches
  calls_in (Guard s phase stood c) = calls_in c
  calls_in (Run s callee phase stood c) = suc (calls_in c)

  pub all_calls_in : Trees → ℕ
  all_calls_in no_tree = 0
  all_calls_in (beside weak c rest) = calls_in c + all_calls_in rest

module _ {T : Bool → Type 0} {w : Setting} where
  mutual
    pub no_deeper : {i : ℕ} {c : Tree} {d : Bool} {a : Deed} {n : StepLabel} {c' : Tree} → Moves T w i c d a n c' → calls_around n ≤ calls_in c
    no_deeper acts = omega arith
    no_deeper takes = omega arith
    no_deeper passes = omega arith
    no_deeper pauses = omega arith
    no_deeper (runs here there) = omega arith
    no_deeper repeats = omega arith
    no_deeper repeats_until = omega arith
    no_deeper leaves = omega arith
    no_deeper turns = omega arith
    no_deeper enters = omega arith
    no_deeper skips = omega arith
    no_deeper forks = omega arith
    no_deeper guards = omega arith
    no_deeper goes_on = omega arith
    no_deeper waits = omega arith
    no_deeper lets = omega arith
    no_deeper (aborts is) = omega arith
    no_deeper (resets is) = omega arith
    no_deeper guard_ends = omega arith
    no_deeper copies = omega arith
    no_deeper run_ends = omega arith
    no_deeper (joins still done) = omega arith
    no_deeper (in_seq move) = no_deeper move
    no_deeper (in_par move) = one_no_deeper move
    no_deeper (in_guard move) = no_deeper move
    no_deeper (in_run move) = let more = no_deeper move in omega arith

    one_no_deeper : {i : ℕ} {branches : Trees} {d : Bool} {a : Deed} {n : StepLabel} {branches' : Trees} → OneMoves T w i branches d a n branches' →
        calls_around n ≤ all_calls_in branches
    one_no_deeper (first move free) = let more = no_deeper move in omega arith
    one_no_deeper (later move free) = let more = one_no_deeper move in omega arith

-- a step has a number for each of these and one for its own node
pub ranks_long : (w : Setting) (rank : ℕ → Node → ℕ) (i : ℕ) (n : StepLabel) → length (ranks_in w rank i n) ≡ suc (calls_around n)
ranks_long w rank i (Here n) = refl
ranks_long w rank i (Gives n) = refl
ranks_long w rank i (Inside n u step) = ap suc (ranks_long w rank (callee_there w i n) step)
