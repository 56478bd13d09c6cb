-- Deeds stay inside the instance of their tree.
use Rattle.std.proofs.Common.{ℕ, Bool}
use Rattle.bl_graph_nodes.specs.Steps.{StepLabel}
use Rattle.bl_ctree.specs.Instances.{Setting}
use Rattle.bl_ctree_laws.specs.Pending.{Deed}
use Rattle.bl_ctree_laws.specs.Steps.{Anyway, Moves, OneMoves, acts, takes, passes, pauses, runs, repeats, repeats_until, leaves, turns, enters, skips, forks}
use Rattle.bl_ctree_laws.specs.Steps.{guards, goes_on, waits, lets, aborts, resets, guard_ends, copies, run_ends, joins, in_seq, in_par, in_guard, in_run}
use Rattle.bl_ctree_laws.specs.Steps.{first, later}
use Rattle.bl_ctree_laws.specs.Trees.{Tree, Trees}
use Rattle.bl_ctree_laws_confluence.specs.Deeds.Nesting.{Inside, deeper, itself}
use Rattle.bl_ctree_laws_confluence.specs.Apart.Seen.{AllCallsMatchCallees, CallsMatchCallees, DeedsStayInside}

-- what is inside what is inside is inside
pub inside_both : {w : Setting} {i j k : ℕ} → Inside w i j → Inside w j k → Inside w i k
inside_both one itself = one
inside_both one (deeper j place more begun) = deeper j place (inside_both one more) begun

mutual
  pub stays : {w : Setting} {i : ℕ} {c : Tree} {d : Bool} {a : Deed} {n : StepLabel} {c' : Tree} → CallsMatchCallees w i c → Moves Anyway w i c d a n c' →
      Inside w i a.instance
  stays stand acts = itself
  stays stand takes = itself
  stays stand passes = itself
  stays stand pauses = itself
  stays stand (runs at there) = itself
  stays stand repeats = itself
  stays stand repeats_until = itself
  stays stand leaves = itself
  stays stand turns = itself
  stays stand enters = itself
  stays stand skips = itself
  stays stand forks = itself
  stays stand guards = itself
  stays stand goes_on = itself
  stays stand waits = itself
  stays stand lets = itself
  stays stand (aborts is) = itself
  stays stand (resets is) = itself
  stays stand guard_ends = itself
  stays stand copies = itself
  stays stand run_ends = itself
  stays stand (joins settled done) = itself
  stays stand (in_seq move) = stays stand move
  stays stand (in_par move) = one_stays stand move
  stays stand (in_guard move) = stays stand move
  stays {i = i} stand (in_run {s = s} move) = inside_both (deeper i s.place itself stand.0) (stays stand.1.1 move)

  one_stays : {w : Setting} {i : ℕ} {branches : Trees} {d : Bool} {a : Deed} {n : StepLabel} {branches' : Trees} → AllCallsMatchCallees w i branches →
      OneMoves Anyway w i branches d a n branches' → Inside w i a.instance
  one_stays stand (first move free) = stays stand.0 move
  one_stays stand (later move free) = one_stays stand.1 move

pub deeds_stay_inside_so : DeedsStayInside
deeds_stay_inside_so w i c d a n c' stand move = stays stand move
