-- What waits in a woken tree, and its numbers.
use Rattle.std.proofs.Common.{◌≡◌, ℕ, suc, Bool, true, false, not, ◌&&◌, ◌||◌, if◌then◌else◌, Option, Some}
use Rattle.std.proofs.Common.{None, inl, inr, refl, sym, ap, ◌∙◌}
use Rattle.std.proofs.lemmas.Bool.{not-true}
use Rattle.bl_tree.proofs.Basics.{and_first, and_second, true_false_any}
use Rattle.bl_graph_nodes.specs.Nodes.{Node, entry}
use Rattle.bl_graph_nodes.specs.Plain.{Bodies, Body as BodyOf, Done, Label, Last, Then}
use Rattle.bl_graph_nodes.specs.Steps.{end_node}
use Rattle.bl_ctree.specs.Control.{Body, Check}
use Rattle.bl_ctree.specs.Instances.{Setting}
use Rattle.bl_ctree_laws.specs.Trees.{Tree, Trees, Nil, Wait, Test, Idle, Do, Seq, Par, Guard, Run, all_woken, are_done, are_settled, beside, has_strong}
use Rattle.bl_ctree_laws.specs.Trees.{is_nil, is_settled, no_tree, some_ended, strong_ended, woken}
use Rattle.bl_ctree_laws_traces.specs.Progress.FitsGraph.{AllFitGraph, FitsGraph}
use Rattle.bl_ctree_laws_traces.specs.Progress.Places.{Place, ahead_of, guarded, in_branch, later_on}
use Rattle.bl_machine.specs.Uses.{Slots, uses_in_branch}
use Rattle.bl_machine_laws.specs.Numbers.Numbers.{Next, Over, Rests, into, numbers_in, numbers_of}
use Rattle.bl_machine_laws.specs.Numbers.Waiting.{Sleeps, SomeSleeps, SomeWaits, Waits, first_in}

-- ---- ends are the same in a woken tree

woken_nil : (w : Setting) (i : ℕ) (g : Place) (c : Tree) → FitsGraph w i c g → is_nil (woken c) ≡ is_nil c
woken_nil w i g Nil live = refl
woken_nil w i g (Wait s) live = refl
woken_nil w i g (Test s) live = refl
woken_nil w i g (Idle body) live = absurd live
woken_nil w i g (Do s) live = refl
woken_nil w i g (Seq c rest) live = refl
woken_nil w i g (Par s stood branches) live = refl
woken_nil w i g (Guard s phase stood c) live = refl
woken_nil w i g (Run s callee phase stood c) live = refl

strong_woken : (w : Setting) (i : ℕ) (g : Place) (stood : Bool) (branches : Trees) (bodies : Bodies) → AllFitGraph w i branches bodies stood g →
    has_strong (all_woken branches) ≡ has_strong branches
strong_woken w i g stood no_tree bodies live = refl
strong_woken w i g stood (beside weak c branches) Last live = absurd live
strong_woken w i g stood (beside weak c branches) (BodyOf weak' body rest) live =
    ap (λ b. not weak || b) (strong_woken w i g stood branches rest live.2)

strong_ends : (w : Setting) (i : ℕ) (g : Place) (stood : Bool) (branches : Trees) (bodies : Bodies) → AllFitGraph w i branches bodies stood g →
    strong_ended (all_woken branches) ≡ strong_ended branches
strong_ends w i g stood no_tree bodies live = refl
strong_ends w i g stood (beside weak c branches) Last live = absurd live
strong_ends w i g stood (beside weak c branches) (BodyOf weak' body rest) live =
    ap (λ b. (weak || b) && strong_ended (all_woken branches)) (woken_nil w i (in_branch stood body g) c live.0)
    ∙ ap (λ b. (weak || is_nil c) && b) (strong_ends w i g stood branches rest live.2)

some_ends : (w : Setting) (i : ℕ) (g : Place) (stood : Bool) (branches : Trees) (bodies : Bodies) → AllFitGraph w i branches bodies stood g →
    some_ended (all_woken branches) ≡ some_ended branches
some_ends w i g stood no_tree bodies live = refl
some_ends w i g stood (beside weak c branches) Last live = absurd live
some_ends w i g stood (beside weak c branches) (BodyOf weak' body rest) live =
    ap (λ b. b || some_ended (all_woken branches)) (woken_nil w i (in_branch stood body g) c live.0)
    ∙ ap (λ b. is_nil c || b) (some_ends w i g stood branches rest live.2)

woken_done : (w : Setting) (i : ℕ) (g : Place) (stood : Bool) (branches : Trees) (bodies : Bodies) → AllFitGraph w i branches bodies stood g →
    are_done (all_woken branches) ≡ are_done branches
woken_done w i g stood branches bodies live =
    ap (λ b. if b then strong_ended (all_woken branches) else some_ended (all_woken branches)) (strong_woken w i g stood branches bodies live)
    ∙ ap (λ b. if has_strong branches then b else some_ended (all_woken branches)) (strong_ends w i g stood branches bodies live)
    ∙ ap (λ b. if has_strong branches then strong_ended branches else b) (some_ends w i g stood branches bodies live)

-- ---- what waits in a woken tree rested between ticks

-- of a whole branch or body, also where it has ended
either_rested : (c : Tree) (n : Node) → (is_nil c ≡ false → Waits (woken c) None n → Sleeps (woken c) n) → Waits (woken c) None n →
    Sleeps (woken c) n
either_rested Nil n rested h = h
either_rested (Wait s) n rested h = rested refl h
either_rested (Test s) n rested h = rested refl h
either_rested (Idle body) n rested h = rested refl h
either_rested (Do s) n rested h = rested refl h
either_rested (Seq c rest) n rested h = rested refl h
either_rested (Par s stood branches) n rested h = rested refl h
either_rested (Guard s phase stood c) n rested h = rested refl h
either_rested (Run s callee phase stood c) n rested h = rested refl h

mutual
  rested : (w : Setting) (i : ℕ) (g : Place) (c : Tree) (next : Option Node) (n : Node) → FitsGraph w i c g → is_settled c ≡ true → is_nil c ≡ false →
      Waits (woken c) next n → Sleeps (woken c) n
  rested w i g Nil next n live settled unended h = true_false_any true refl unended
  rested w i g (Wait s) next n live settled unended h = h
  rested w i g (Test s) next n live settled unended h = h
  rested w i g (Idle body) next n live settled unended h = absurd live
  rested w i g (Do s) next n live settled unended h = true_false_any false settled refl
  rested w i g (Seq c Done) next n live settled unended h = absurd live
  rested w i g (Seq c (Then s rest)) next n live settled unended h =
      rested w i (ahead_of (entry s) g) c (first_in (Then s rest) next) n live.0 settled live.1.unended h
  rested w i g (Par s stood branches) next n live settled unended (inl h) =
      each_rested w i g stood branches s.bodies n live.0 (and_first (are_settled branches) (not (are_done branches)) settled) h
  rested w i g (Par s stood branches) next n live settled unended (inr h) =
      true_false_any (are_done branches) (sym (woken_done w i g stood branches s.bodies live.0) ∙ h.0)
      (not-true (are_done branches) (and_second (are_settled branches) (not (are_done branches)) settled))
  rested w i g (Guard s Body stood c) next n live settled unended (inl h) = inl h
  rested w i g (Guard s Body stood c) next n live settled unended (inr h) =
      inr (rested w i (guarded s g) c (Some (end_node true s.label s.place)) n live.0 (and_first (is_settled c) (not (is_nil c)) settled)
      (not-true (is_nil c) (and_second (is_settled c) (not (is_nil c)) settled)) h)
  rested w i g (Guard s Check stood c) next n live settled unended h = true_false_any false settled refl
  rested w i g (Run s callee phase stood c) next n live settled unended h = h

  each_rested : (w : Setting) (i : ℕ) (g : Place) (stood : Bool) (branches : Trees) (bodies : Bodies) (n : Node) → AllFitGraph w i branches bodies stood g →
      are_settled branches ≡ true → SomeWaits (all_woken branches) n → SomeSleeps (all_woken branches) n
  each_rested w i g stood no_tree bodies n live settled h = h
  each_rested w i g stood (beside weak c branches) Last n live settled h = absurd live
  each_rested w i g stood (beside weak c branches) (BodyOf weak' body rest) n live settled (inl h) =
      inl (either_rested c n
      (λ unended k. rested w i (in_branch stood body g) c None n live.0 (and_first (is_settled c) (are_settled branches) settled) unended k) h)
  each_rested w i g stood (beside weak c branches) (BodyOf weak' body rest) n live settled (inr h) =
      inr (each_rested w i g stood branches rest n live.2 (and_second (is_settled c) (are_settled branches) settled) h)

pub branch_rested : (w : Setting) (i : ℕ) (g : Place) (c : Tree) (n : Node) → FitsGraph w i c g → is_settled c ≡ true → Waits (woken c) None n →
    Sleeps (woken c) n
branch_rested w i g c n live settled h = either_rested c n (λ unended k. rested w i g c None n live settled unended k) h

-- ---- waking keeps numbers

mutual
  pub numbers_woken : (w : Setting) (i : ℕ) (g : Place) (slots : Slots) (c : Tree) (next : Next) (counter : ℕ) → FitsGraph w i c g →
      numbers_of slots (woken c) next counter ≡ numbers_of slots c next counter
  numbers_woken w i g slots Nil next counter live = refl
  numbers_woken w i g slots (Wait s) next counter live = refl
  numbers_woken w i g slots (Test s) next counter live = refl
  numbers_woken w i g slots (Idle body) next counter live = absurd live
  numbers_woken w i g slots (Do s) next counter live = refl
  numbers_woken w i g slots (Seq c Done) next counter live = absurd live
  numbers_woken w i g slots (Seq c (Then s rest)) next counter live =
      numbers_woken w i (ahead_of (entry s) g) slots c (into (Then s rest) next) counter live.0
  numbers_woken w i g slots (Par s stood branches) next counter live = each_woken w i g stood slots s.label 0 s.bodies branches counter live.0
  numbers_woken w i g slots (Guard s Body stood c) next counter live = numbers_woken w i (guarded s g) slots c Over counter live.0
  numbers_woken w i g slots (Guard s Check stood c) next counter live = numbers_woken w i (later_on (guarded s g)) slots c Over counter live.0
  numbers_woken w i g slots (Run s callee phase stood c) next counter live = refl

  each_woken : (w : Setting) (i : ℕ) (g : Place) (stood : Bool) (slots : Slots) (l : Label) (k : ℕ) (bodies : Bodies) (branches : Trees) (counter : ℕ) →
      AllFitGraph w i branches bodies stood g → numbers_in slots l k bodies (all_woken branches) counter ≡ numbers_in slots l k bodies branches counter
  each_woken w i g stood slots l k Last no_tree counter live = refl
  each_woken w i g stood slots l k Last (beside weak c branches) counter live = absurd live
  each_woken w i g stood slots l k (BodyOf weak body rest) no_tree counter live = absurd live
  each_woken w i g stood slots l k (BodyOf weak body rest) (beside weak' c branches) counter live =
      ap (λ m. if uses_in_branch slots l k body counter then m else numbers_in slots l (suc k) rest (all_woken branches) counter)
      (numbers_woken w i (in_branch stood body g) slots c (Rests (slots.ending l k)) counter live.0)
      ∙ ap (λ m. if uses_in_branch slots l k body counter then numbers_of slots c (Rests (slots.ending l k)) counter else m)
      (each_woken w i g stood slots l (suc k) rest branches counter live.2)
