-- What counters may hold, beside the numbers of the tree.
use Rattle.std.proofs.Common.{◌≡◌, ◌⊎◌, inl, inr, ⊎_elim, ℕ, suc, Bool, true, false, not, List, refl, sym, ap, subst, ◌∙◌}
use Rattle.std.proofs.lemmas.Bool.{not-true}
use Rattle.bl_tree.proofs.Basics.{and_first, and_second, true_false_any}
use Rattle.bl_tree.proofs.FirstLemmas.{contains_in}
use Rattle.bl_graph_nodes.specs.Nodes.{entry}
use Rattle.bl_graph_nodes.specs.Plain.{Block, Bodies, Body as BodyOf, Done, Label, Last, Then}
use Rattle.bl_ctree.specs.Control.{Body, Check}
use Rattle.bl_ctree.specs.Instances.{Setting}
use Rattle.bl_ctree_laws.specs.Trees.{Tree, Trees, Nil, Wait, Test, Idle, Do, Seq, Par, Guard, Run, are_done, are_settled, beside, is_nil, is_settled, no_tree}
use Rattle.bl_ctree_laws_traces.specs.Progress.FitsGraph.{AllFitGraph, FitsGraph}
use Rattle.bl_ctree_laws_traces.specs.Progress.Places.{Place, ahead_of, guarded, in_branch, whole}
use Rattle.bl_machine.specs.declared.slots.Slot.{Slot}
use Rattle.bl_machine.specs.Uses.{Slots, uses_in_branch}
use Rattle.bl_machine_laws.specs.Numbers.Numbers.{At, Next, Over, Rests, into, numbers_in, numbers_of}
use Rattle.bl_machine_pass.specs.SlotLayout.{RestOf, spots_in}
use Rattle.bl_machine_pass.specs.Transitions.{Finishes, Transition, rules}
use Rattle.bl_machine_pass_laws.specs.Turns.Holds.{BranchesMayHold, CountersLinger, IsRest, Lingers, MayHold, RestsThere}
use Rattle.bl_machine_pass_laws.proofs.OnNumbers.Bools.{either, if_false, if_true}
use Rattle.bl_machine_pass_laws.proofs.OnRooted.Resuming.{all_rest_from, slot_of}
use Rattle.bl_machine_pass_laws.proofs.OnRooted.Rooting.{has_contains}

module _ (slots : Slots) (all : List Transition) where
  -- ---- the numbers of a tree

  mutual
    pub exact : (low : ℕ) (c : Tree) (next : Next) (j : ℕ) → MayHold slots all low c next j (numbers_of slots c next j)
    exact low Nil (At n) j = inl refl
    exact low Nil (Rests slot) j = refl
    exact low Nil Over j = inl refl
    exact low (Wait s) next j = refl
    exact low (Test s) next j = refl
    exact low (Idle body) next j = inl refl
    exact low (Do s) next j = inl refl
    exact low (Seq c rest) next j = exact low c (into rest next) j
    exact low (Par s stood branches) next j = exact_each s.label 0 s.bodies branches j
    exact low (Guard s phase stood c) next j = exact low c Over j
    exact low (Run s callee phase stood c) next j = refl

    exact_each : (l : Label) (k : ℕ) (bodies : Bodies) (branches : Trees) (j : ℕ) →
        BranchesMayHold slots all l k bodies branches j (numbers_in slots l k bodies branches j)
    exact_each l k Last no_tree j = refl
    exact_each l k Last (beside weak c branches) j = refl
    exact_each l k (BodyOf weak body rest) no_tree j = refl
    exact_each l k (BodyOf weak body rest) (beside weak' c branches) j = (
      λ on. subst (MayHold slots all (slots.ending l k).counter c (Rests (slots.ending l k)) j)
          (sym (if_true (uses_in_branch slots l k body j) (numbers_of slots c (Rests (slots.ending l k)) j) (numbers_in slots l (suc k) rest branches j) on))
          (exact (slots.ending l k).counter c (Rests (slots.ending l k)) j),
      λ off. subst (BranchesMayHold slots all l (suc k) rest branches j)
          (sym (if_false (uses_in_branch slots l k body j) (numbers_of slots c (Rests (slots.ending l k)) j) (numbers_in slots l (suc k) rest branches j) off))
          (exact_each l (suc k) rest branches j),
    )

  -- ---- the number of the tree, or of a place that was left

  -- a counter holds this number, or that of a place that was left
  abbrev Left : ℕ → ℕ → ℕ → Type 0
  Left number j v = (v ≡ number) ⊎ ((number ≡ 0) × IsRest all j v)

  lingers_left : (low j v : ℕ) → Lingers all low j v → Left 0 j v
  lingers_left low j v (inl none) = inl none
  lingers_left low j v (inr there) = inr (refl, there.1)

  mutual
    pub left : (low : ℕ) (c : Tree) (next : Next) (j v : ℕ) → MayHold slots all low c next j v → Left (numbers_of slots c next j) j v
    left low Nil (At n) j v h = lingers_left low j v h
    left low Nil (Rests slot) j v h = inl h
    left low Nil Over j v h = lingers_left low j v h
    left low (Wait s) next j v h = inl h
    left low (Test s) next j v h = inl h
    left low (Idle body) next j v h = lingers_left low j v h
    left low (Do s) next j v h = lingers_left low j v h
    left low (Seq c rest) next j v h = left low c (into rest next) j v h
    left low (Par s stood branches) next j v h = left_each s.label 0 s.bodies branches j v h
    left low (Guard s phase stood c) next j v h = left low c Over j v h
    left low (Run s callee phase stood c) next j v h = inl h

    left_each : (l : Label) (k : ℕ) (bodies : Bodies) (branches : Trees) (j v : ℕ) → BranchesMayHold slots all l k bodies branches j v →
        Left (numbers_in slots l k bodies branches j) j v
    left_each l k Last no_tree j v h = inl h
    left_each l k Last (beside weak c branches) j v h = inl h
    left_each l k (BodyOf weak body rest) no_tree j v h = inl h
    left_each l k (BodyOf weak body rest) (beside weak' c branches) j v h =
        either (uses_in_branch slots l k body j)
        (λ on. subst (λ x. Left x j v)
        (sym (if_true (uses_in_branch slots l k body j) (numbers_of slots c (Rests (slots.ending l k)) j) (numbers_in slots l (suc k) rest branches j) on))
        (left (slots.ending l k).counter c (Rests (slots.ending l k)) j v (h.0 on)))
        (λ off. subst (λ x. Left x j v)
        (sym (if_false (uses_in_branch slots l k body j) (numbers_of slots c (Rests (slots.ending l k)) j) (numbers_in slots l (suc k) rest branches j) off))
        (left_each l (suc k) rest branches j v (h.1 off)))

  -- ---- where nothing is left to do

  ended : (low : ℕ) (slot : Slot) (c : Tree) (j v : ℕ) → is_nil c ≡ true → MayHold slots all low c (Rests slot) j v →
      v ≡ numbers_of slots c (Rests slot) j
  ended low slot Nil j v nil h = h
  ended low slot (Wait s) j v nil h = true_false_any false nil refl
  ended low slot (Test s) j v nil h = true_false_any false nil refl
  ended low slot (Idle body) j v nil h = true_false_any false nil refl
  ended low slot (Do s) j v nil h = true_false_any false nil refl
  ended low slot (Seq c rest) j v nil h = true_false_any false nil refl
  ended low slot (Par s stood branches) j v nil h = true_false_any false nil refl
  ended low slot (Guard s phase stood c) j v nil h = true_false_any false nil refl
  ended low slot (Run s callee phase stood c) j v nil h = true_false_any false nil refl

  module _ (w : Setting) (i : ℕ) where
    mutual
      pub settled : (g : Place) (low : ℕ) (c : Tree) (next : Next) (j v : ℕ) → FitsGraph w i c g → is_settled c ≡ true → is_nil c ≡ false →
          MayHold slots all low c next j v → v ≡ numbers_of slots c next j
      settled g low Nil next j v live rests unended h = true_false_any true refl unended
      settled g low (Wait s) next j v live rests unended h = h
      settled g low (Test s) next j v live rests unended h = true_false_any false rests refl
      settled g low (Idle body) next j v live rests unended h = absurd live
      settled g low (Do s) next j v live rests unended h = true_false_any false rests refl
      settled g low (Seq c Done) next j v live rests unended h = absurd live
      settled g low (Seq c (Then s rest)) next j v live rests unended h =
          settled (ahead_of (entry s) g) low c (At (entry s)) j v live.0 rests live.1.unended h
      settled g low (Par s stood branches) next j v live rests unended h =
          all_settled g stood s.label 0 s.bodies branches j v live.0 (and_first (are_settled branches) (not (are_done branches)) rests) h
      settled g low (Guard s Body stood c) next j v live rests unended h =
          settled (guarded s g) low c Over j v live.0 (and_first (is_settled c) (not (is_nil c)) rests)
          (not-true (is_nil c) (and_second (is_settled c) (not (is_nil c)) rests)) h
      settled g low (Guard s Check stood c) next j v live rests unended h = true_false_any false rests refl
      settled g low (Run s callee phase stood c) next j v live rests unended h = h

      all_settled : (g : Place) (stood : Bool) (l : Label) (k : ℕ) (bodies : Bodies) (branches : Trees) (j v : ℕ) →
          AllFitGraph w i branches bodies stood g → are_settled branches ≡ true → BranchesMayHold slots all l k bodies branches j v →
          v ≡ numbers_in slots l k bodies branches j
      all_settled g stood l k Last no_tree j v live rests h = h
      all_settled g stood l k Last (beside weak c branches) j v live rests h = h
      all_settled g stood l k (BodyOf weak body rest) no_tree j v live rests h = h
      all_settled g stood l k (BodyOf weak body rest) (beside weak' c branches) j v live rests h =
          either (uses_in_branch slots l k body j)
          (λ on. either (is_nil c)
          (λ nil. ended (slots.ending l k).counter (slots.ending l k) c j v nil (h.0 on))
          (λ unended. settled (in_branch stood body g) (slots.ending l k).counter c (Rests (slots.ending l k)) j v live.0
          (and_first (is_settled c) (are_settled branches) rests) unended (h.0 on))
          ∙ sym (if_true (uses_in_branch slots l k body j) (numbers_of slots c (Rests (slots.ending l k)) j)
          (numbers_in slots l (suc k) rest branches j) on))
          (λ off. all_settled g stood l (suc k) rest branches j v live.2 (and_second (is_settled c) (are_settled branches) rests) (h.1 off)
          ∙ sym (if_false (uses_in_branch slots l k body j) (numbers_of slots c (Rests (slots.ending l k)) j)
          (numbers_in slots l (suc k) rest branches j) off))

-- ---- the law

rest_there : (slots : Slots) (body : Block) (j v : ℕ) → IsRest (rules slots body) j v → RestsThere slots body j v
rest_there slots body j v rest =
    let from = all_rest_from slots body Finishes rest.rule rest.slot (contains_in rest.rule (rules slots body) rest.there) rest.asks in
    record {
      label = from.label;
      there = has_contains (spots_in body) (RestOf from.label) from.there;
      is = from.is ∙ ap (λ k. slot_of k rest.slot.value) rest.counter ∙ ap (slot_of j) rest.value;
    }

pub counters_linger : CountersLinger
counters_linger = record {
  exact = λ slots body counters c are j.
      subst (MayHold slots (rules slots body) 0 c Over j) (sym (are j)) (exact slots (rules slots body) 0 c Over j);
  left = λ slots body counters c may j.
      ⊎_elim (λ is. inl is) (λ other. inr (other.0, rest_there slots body j (counters j) other.1))
      (left slots (rules slots body) 0 c Over j (counters j) (may j));
  settled = λ w i slots stood body counters c live rests unended may j.
      settled slots (rules slots body) w i (whole stood body) 0 c Over j (counters j) live rests unended (may j);
}
