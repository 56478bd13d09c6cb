-- Frames nest as the calls of their instances do.
use Rattle.std.proofs.Common.{◌≡◌, inl, inr, ℕ, ◌<◌, Bool, true, false, List, Some, refl, sym, ap, ◌∙◌, subst, arith, eq-eqb, eqb-true}
use Rattle.std.specs.Prelude.{nat_eq, if◌then◌else◌}
use Rattle.bl_tree.specs.declared.place.Place.{Place as Source}
use Rattle.bl_tree.specs.declared.tree.StructDef.{StructDef}
use Rattle.bl_tree.specs.declared.tree.Unit.{Unit as UnitDef}
use Rattle.bl_graph_nodes.specs.Nodes.{entry}
use Rattle.bl_graph_nodes.specs.Plain.{Bodies, Body as BodyOf, Done, Last, Then, plain_body}
use Rattle.bl_ctree.specs.Control.{Body, Check}
use Rattle.bl_ctree.specs.Instances.{Setting, callee_of, setting_of}
use Rattle.bl_ctree_laws.specs.Trees.{Tree, Trees, Nil, Wait, Test, Idle, Do, Seq, Par, Guard, Run, all_woken, beside, no_tree, woken}
use Rattle.bl_ctree_laws_confluence.specs.Deeds.Nesting.{Inside, InstancesNest, ProgramsNest, itself}
use Rattle.bl_ctree_laws_confluence.specs.Apart.Seen.{InCall}
use Rattle.bl_ctree_laws_traces.specs.Progress.FitsGraph.{AllFitGraph, FitsGraph}
use Rattle.bl_ctree_laws_traces.specs.Progress.Places.{Place, ahead_of, guarded, in_branch, later_on, whole}
use Rattle.bl_machine.specs.Uses.{Slots}
use Rattle.bl_machine_laws.specs.Waiting.Waking.{WakingKeepsNumbers}
use Rattle.bl_machine_pass.specs.Registers.{with_at}
use Rattle.bl_machine_pass_laws_execution.specs.Frames.{AllCallsMatchTree, AllFramesNest, CalledIn, CallsMatchTree, ChangeOnly, Frames, FramesMatchTree}
use Rattle.bl_machine_pass_laws_execution.specs.Frames.{FramesNest, OneCalledIn}
use Rattle.bl_machine_pass_laws_execution.proofs.OnPerforms.Touching.{inside_callee}
use Rattle.bl_machine_pass_laws_execution.proofs.OnPerforms.Keeping.{block_holds as begins}

-- ---- what isn't called doesn't matter

abbrev Agree : (ℕ → Type 0) → Frames → Frames → Type 0
Agree These frames frames' = (k : ℕ) → These k → (j : ℕ) → frames' k j ≡ frames k j

mutual
  others : (slots : ℕ → Slots) (frames frames' : Frames) (c : Tree) → Agree (CalledIn c) frames frames' → CallsMatchTree slots frames c →
      CallsMatchTree slots frames' c
  others slots frames frames' Nil agree hold = tt
  others slots frames frames' (Wait s) agree hold = tt
  others slots frames frames' (Test s) agree hold = tt
  others slots frames frames' (Idle body) agree hold = tt
  others slots frames frames' (Do s) agree hold = tt
  others slots frames frames' (Seq c rest) agree hold = others slots frames frames' c agree hold
  others slots frames frames' (Par s stood branches) agree hold = each_other slots frames frames' branches agree hold
  others slots frames frames' (Guard s phase stood c) agree hold = others slots frames frames' c agree hold
  others slots frames frames' (Run s callee phase stood c) agree hold =
      (λ j. agree callee (inl refl) j ∙ hold.0 j, others slots frames frames' c (λ k there. agree k (inr there)) hold.1)

  each_other : (slots : ℕ → Slots) (frames frames' : Frames) (branches : Trees) → Agree (OneCalledIn branches) frames frames' →
      AllCallsMatchTree slots frames branches → AllCallsMatchTree slots frames' branches
  each_other slots frames frames' no_tree agree hold = tt
  each_other slots frames frames' (beside weak c branches) agree hold = (
    others slots frames frames' c (λ k there. agree k (inl there)) hold.0,
    each_other slots frames frames' branches (λ k there. agree k (inr there)) hold.1,
  )

-- ---- what is called is inside

in_call : (w : Setting) (i callee k : ℕ) (place : Source) → callee_of w i place ≡ Some callee → Inside w callee k → InCall w i k
in_call w i callee k place runs inside = record { place = place; callee = callee; runs = runs; inside = inside }

at_call : (w : Setting) (i callee k : ℕ) (place : Source) → callee_of w i place ≡ Some callee → k ≡ callee → InCall w i k
at_call w i callee k place runs is = in_call w i callee k place runs (subst (λ x. Inside w callee x) (sym is) itself)

mutual
  called : (w : Setting) (i k : ℕ) (c : Tree) (g : Place) → FitsGraph w i c g → CalledIn c k → InCall w i k
  called w i k Nil g live there = absurd there
  called w i k (Wait s) g live there = absurd there
  called w i k (Test s) g live there = absurd there
  called w i k (Idle body) g live there = absurd there
  called w i k (Do s) g live there = absurd there
  called w i k (Seq c Done) g live there = absurd live
  called w i k (Seq c (Then s rest)) g live there = called w i k c (ahead_of (entry s) g) live.0 there
  called w i k (Par s stood branches) g live there = one_called w i k branches s.bodies stood g live.0 there
  called w i k (Guard s Body stood c) g live there = called w i k c (guarded s g) live.0 there
  called w i k (Guard s Check stood c) g live there = called w i k c (later_on (guarded s g)) live.0 there
  called w i k (Run s callee Body stood c) g live (inl is) = at_call w i callee k s.place live.2.called is
  called w i k (Run s callee Body stood c) g live (inr there) =
      in_call w i callee k s.place live.2.called
      (inside_callee w callee k (called w callee k c (whole stood (plain_body live.0.body)) live.1 there))
  called w i k (Run s callee Check stood c) g live (inl is) = at_call w i callee k s.place live.2.called is
  called w i k (Run s callee Check stood c) g live (inr there) =
      in_call w i callee k s.place live.2.called
      (inside_callee w callee k (called w callee k c (whole stood (plain_body live.0.body)) live.1 there))

  one_called : (w : Setting) (i k : ℕ) (branches : Trees) (bodies : Bodies) (stood : Bool) (g : Place) → AllFitGraph w i branches bodies stood g →
      OneCalledIn branches k → InCall w i k
  one_called w i k no_tree bodies stood g live there = absurd there
  one_called w i k (beside weak c branches) Last stood g live there = absurd live
  one_called w i k (beside weak c branches) (BodyOf weak' body rest) stood g live (inl there) =
      called w i k c (in_branch stood body g) live.0 there
  one_called w i k (beside weak c branches) (BodyOf weak' body rest) stood g live (inr there) =
      one_called w i k branches rest stood g live.2 there

-- ---- another frame at one number

at_another : (i k : ℕ) (counters : ℕ → ℕ) (frames : Frames) → i < k → (j : ℕ) → with_at i counters frames k j ≡ frames k j
at_another i k counters frames lt j = by_test (nat_eq k i) refl
  where
    by_test : (b : Bool) → nat_eq k i ≡ b → with_at i counters frames k j ≡ frames k j
    by_test true test = let same : k ≡ i = eqb-true k i test in absurd (omega (arith, same, lt))
    by_test false test = ap (λ b. (if b then counters else frames k) j) test

pub at_itself : (i : ℕ) (counters : ℕ → ℕ) (frames : Frames) (j : ℕ) → with_at i counters frames i j ≡ counters j
at_itself i counters frames j = ap (λ b. (if b then counters else frames i) j) (eq-eqb i i refl)

-- ---- a body that begins, and a new tick

mutual
  wakes : WakingKeepsNumbers → (w : Setting) (slots : ℕ → Slots) (frames : Frames) (i : ℕ) (c : Tree) (g : Place) → FitsGraph w i c g →
      CallsMatchTree slots frames c → CallsMatchTree slots frames (woken c)
  wakes keep w slots frames i Nil g live hold = tt
  wakes keep w slots frames i (Wait s) g live hold = tt
  wakes keep w slots frames i (Test s) g live hold = tt
  wakes keep w slots frames i (Idle body) g live hold = absurd live
  wakes keep w slots frames i (Do s) g live hold = tt
  wakes keep w slots frames i (Seq c Done) g live hold = absurd live
  wakes keep w slots frames i (Seq c (Then s rest)) g live hold = wakes keep w slots frames i c (ahead_of (entry s) g) live.0 hold
  wakes keep w slots frames i (Par s stood branches) g live hold = each_wakes keep w slots frames i branches s.bodies stood g live.0 hold
  wakes keep w slots frames i (Guard s Body stood c) g live hold = wakes keep w slots frames i c (guarded s g) live.0 hold
  wakes keep w slots frames i (Guard s Check stood c) g live hold = wakes keep w slots frames i c (later_on (guarded s g)) live.0 hold
  wakes keep w slots frames i (Run s callee Body stood c) g live hold = (
    λ j. hold.0 j ∙ sym (keep w callee stood (plain_body live.0.body) (slots callee) c j live.1),
    wakes keep w slots frames callee c (whole stood (plain_body live.0.body)) live.1 hold.1,
  )
  wakes keep w slots frames i (Run s callee Check stood c) g live hold = (
    λ j. hold.0 j ∙ sym (keep w callee stood (plain_body live.0.body) (slots callee) c j live.1),
    wakes keep w slots frames callee c (whole stood (plain_body live.0.body)) live.1 hold.1,
  )

  each_wakes : WakingKeepsNumbers → (w : Setting) (slots : ℕ → Slots) (frames : Frames) (i : ℕ) (branches : Trees) (bodies : Bodies) (stood : Bool)
      (g : Place) → AllFitGraph w i branches bodies stood g → AllCallsMatchTree slots frames branches → AllCallsMatchTree slots frames (all_woken branches)
  each_wakes keep w slots frames i no_tree bodies stood g live hold = tt
  each_wakes keep w slots frames i (beside weak c branches) Last stood g live hold = absurd live
  each_wakes keep w slots frames i (beside weak c branches) (BodyOf weak' body rest) stood g live hold =
      (wakes keep w slots frames i c (in_branch stood body g) live.0 hold.0, each_wakes keep w slots frames i branches rest stood g live.2 hold.1)

-- ---- the laws

module _ (structs : List StructDef) (units : List UnitDef) (entry_at : ℕ) (nest : InstancesNest structs units entry_at) where
  abbrev W : Setting
  W = setting_of structs units entry_at

  greater : (i k : ℕ) → InCall W i k → i < k
  greater i k call =
      let one = nest.later i call.callee call.place call.runs in
      let two = nest.inside call.callee k call.inside in omega (arith, one, two)

  pub own : (slots : ℕ → Slots) (frames : Frames) (i : ℕ) (c : Tree) (g : Place) (counters : ℕ → ℕ) → FitsGraph W i c g →
      CallsMatchTree slots frames c →
      CallsMatchTree slots (with_at i counters frames) c
  own slots frames i c g counters live =
      others slots frames (with_at i counters frames) c
      (λ k there. at_another i k counters frames (greater i k (called W i k c g live there)))

  pub apart : (slots : ℕ → Slots) (frames frames' : Frames) (i one two : ℕ) (place other : Source) (c : Tree) (g : Place) →
      callee_of W i place ≡ Some one → callee_of W i other ≡ Some two → (one ≡ two → ⊥) → FitsGraph W two c g →
      ChangeOnly (Inside W one) frames frames' →
      FramesMatchTree slots frames two c → FramesMatchTree slots frames' two c
  apart slots frames frames' i one two place other c g runs runs' differ live change hold = (
    λ j. same two itself j ∙ hold.0 j,
    others slots frames frames' c (λ k there. same k (inside_callee W two k (called W two k c g live there))) hold.1,
  )
    where
      same : (k : ℕ) → Inside W two k → (j : ℕ) → frames' k j ≡ frames k j
      same k inside = change k (λ meets. differ (nest.apart i one two k place other runs runs' meets inside))

  pub frames_nest : WakingKeepsNumbers → FramesNest structs units entry_at
  frames_nest keep = record {
    called = λ i k c stood body live there. (let call = called W i k c (whole stood body) live there in (call, greater i k call));
    others = others;
    own = λ slots frames i c stood body counters live hold. own slots frames i c (whole stood body) counters live hold;
    holds = λ slots frames i c stood body counters live calls hold.
        (λ j. at_itself i counters frames j ∙ hold j, own slots frames i c (whole stood body) counters live calls);
    apart = λ slots frames frames' i one two place other c stood body runs runs' differ live change hold.
        apart slots frames frames' i one two place other c (whole stood body) runs runs' differ live change hold;
    begins = begins;
    wakes = λ slots frames i c stood body live hold.
        (λ j. hold.0 j ∙ sym (keep W i stood body (slots i) c j live), wakes keep W slots frames i c (whole stood body) live hold.1);
  }

pub all_frames_nest : ProgramsNest → WakingKeepsNumbers → AllFramesNest
all_frames_nest nest keep structs units entry_at = frames_nest structs units entry_at (nest structs units entry_at) keep
