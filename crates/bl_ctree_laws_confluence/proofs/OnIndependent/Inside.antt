-- The frames and results that deeds touch are of instances inside the deed's own.
use Rattle.std.proofs.Common.{◌⊎◌, inl, inr, ℕ, Bool, [], sym, subst}
use Rattle.std.specs.Prelude.{Contains}
use Rattle.bl_graph_nodes.specs.Steps.{StepLabel}
use Rattle.bl_ctree.specs.Actions.{Effect}
use Rattle.bl_ctree.specs.Instances.{Setting}
use Rattle.bl_ctree.specs.Positions.{stmt_kind}
use Rattle.bl_ctree_laws.specs.Pending.{Deed}
use Rattle.bl_ctree_laws.specs.Steps.{Anyway, Moves, OneMoves, acts, takes, passes, pauses, runs, repeats, repeats_until, leaves, turns, enters, skips, forks}
use Rattle.bl_ctree_laws.specs.Steps.{guards, goes_on, waits, lets, aborts, resets, guard_ends, copies, run_ends, joins, in_seq, in_par, in_guard, in_run}
use Rattle.bl_ctree_laws.specs.Steps.{first, later}
use Rattle.bl_ctree_laws.specs.Trees.{Tree, Trees}
use Rattle.bl_ctree_laws_confluence.specs.Deeds.Deeds.{effect_frames, effect_results}
use Rattle.bl_ctree_laws_confluence.specs.Deeds.Nesting.{Inside, deeper, itself}
use Rattle.bl_ctree_laws_confluence.specs.Apart.Seen.{AllCallsMatchCallees, CallsMatchCallees}
use Rattle.bl_ctree_laws_confluence.proofs.OnApart.Frames.{none_of, returned, sole}
use Rattle.bl_ctree_laws_confluence.specs.Independent.Inside.{FramesAreInside}

-- the frame is one that the effect touches
abbrev Touched : ℕ → Effect → ℕ → Type 0
Touched i e frame = Contains (effect_frames i e) frame ⊎ Contains (effect_results e) frame

neither : {A : Type 0} (frame : ℕ) → Contains [] frame ⊎ Contains [] frame → A
neither frame (inl none) = none_of frame none
neither frame (inr none) = none_of frame none

mutual
  within : {w : Setting} {i : ℕ} {c : Tree} {d : Bool} {a : Deed} {n : StepLabel} {c' : Tree} (frame : ℕ) → CallsMatchCallees w i c →
      Moves Anyway w i c d a n c' → Touched a.instance a.effect frame → Inside w a.instance frame
  within {w} {i} frame stand (acts {s = s}) (inl one) = subst (Inside w i) (sym (returned i frame (stmt_kind s) one).0) itself
  within frame stand acts (inr none) = none_of frame none
  within frame stand takes none = neither frame none
  within frame stand passes none = neither frame none
  within frame stand pauses none = neither frame none
  within {w} {i} frame stand (runs {at = at} {callee = callee} begins there) (inl one) =
      subst (Inside w i) (sole callee frame one) (deeper i at itself begins)
  within frame stand (runs begins there) (inr none) = none_of frame none
  within frame stand repeats none = neither frame none
  within frame stand repeats_until none = neither frame none
  within frame stand leaves none = neither frame none
  within frame stand turns none = neither frame none
  within frame stand enters none = neither frame none
  within frame stand skips none = neither frame none
  within frame stand forks none = neither frame none
  within frame stand guards none = neither frame none
  within frame stand goes_on none = neither frame none
  within frame stand waits none = neither frame none
  within frame stand lets none = neither frame none
  within frame stand (aborts is) none = neither frame none
  within frame stand (resets is) none = neither frame none
  within frame stand guard_ends none = neither frame none
  within {w} {i} frame stand (copies {s = s} {callee = callee}) (inl one) = subst (Inside w i) (sole callee frame one) (deeper i s.place itself stand.0)
  within frame stand copies (inr none) = none_of frame none
  within frame stand run_ends (inl none) = none_of frame none
  within {w} {i} frame stand (run_ends {s = s} {callee = callee}) (inr one) = subst (Inside w i) (sole callee frame one) (deeper i s.place itself stand.0)
  within frame stand (joins settled done) none = neither frame none
  within frame stand (in_seq move) touched = within frame stand move touched
  within frame stand (in_par move) touched = within_one frame stand move touched
  within frame stand (in_guard move) touched = within frame stand move touched
  within frame stand (in_run move) touched = within frame stand.1.1 move touched

  within_one : {w : Setting} {i : ℕ} {branches : Trees} {d : Bool} {a : Deed} {n : StepLabel} {branches' : Trees} (frame : ℕ) →
      AllCallsMatchCallees w i branches → OneMoves Anyway w i branches d a n branches' → Touched a.instance a.effect frame → Inside w a.instance frame
  within_one frame stand (first move free) touched = within frame stand.0 move touched
  within_one frame stand (later move free) touched = within_one frame stand.1 move touched

pub frames_are_inside_so : FramesAreInside
frames_are_inside_so w i c d a n c' frame stand move touched = within frame stand move touched
