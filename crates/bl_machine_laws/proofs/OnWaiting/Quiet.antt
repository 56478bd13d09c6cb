-- What waits in live trees.
use Rattle.std.proofs.Common.{◌≡◌, inl, inr, ℕ, Bool, true, false, not, ◌&&◌, ◌||◌, if◌then◌else◌, Option, Some, None, refl, sym, ap, subst, ◌∙◌}
use Rattle.std.proofs.lemmas.Bool.{not-false, not-true}
use Rattle.bl_tree.proofs.Basics.{and_first, and_second, true_false_any}
use Rattle.bl_graph_nodes.specs.Nodes.{Node, entry}
use Rattle.bl_graph_nodes.specs.Plain.{Block, Bodies, Body as BodyOf, Done, Last, Then}
use Rattle.bl_graph_nodes.specs.Steps.{end_node, join_node, run_node}
use Rattle.bl_graph.specs.Edges.{In, InEach}
use Rattle.bl_ctree.specs.Control.{Body, Check}
use Rattle.bl_ctree.specs.Instances.{Setting}
use Rattle.bl_ctree_laws.specs.Trees.{Fork, Tree, Trees, Watch, Nil, Wait, Test, Idle, Do, Seq, Par, Guard, Run, are_done, are_settled, beside}
use Rattle.bl_ctree_laws.specs.Trees.{is_nil, is_settled, no_tree}
use Rattle.bl_ctree_laws_traces.specs.Progress.FitsGraph.{AllFitGraph, FitsGraph}
use Rattle.bl_ctree_laws_traces.specs.Progress.Places.{Place, ahead_of, guarded, in_branch, later_on, whole}
use Rattle.bl_machine_laws.specs.Numbers.Waiting.{Is, SomeWaits, Waits, check_of, first_in, test_of}
use Rattle.bl_machine_laws.specs.Waiting.Laws.{AllPassed, RunsArePassed, SomethingWaits}
use Rattle.bl_ctree_laws.proofs.Less.{done_join, nil_ends}
use Rattle.bl_ctree_laws_traces.proofs.OnProgress.Beginning.{Closed, walks_stay}
use Rattle.bl_ctree_laws_traces.proofs.OnProgress.Keeping.{part_closed, after_closed}

-- ---- between ticks nothing waits

-- what a branch, or the body of an activity, has waiting: nothing where it has ended
either_quiet : (c : Tree) (n : Node) → (is_nil c ≡ false → Waits c None n → ⊥) → Waits c None n → ⊥
either_quiet Nil n quiet h = h
either_quiet (Wait s) n quiet h = quiet refl h
either_quiet (Test s) n quiet h = quiet refl h
either_quiet (Idle body) n quiet h = quiet refl h
either_quiet (Do s) n quiet h = quiet refl h
either_quiet (Seq c rest) n quiet h = quiet refl h
either_quiet (Par s stood branches) n quiet h = quiet refl h
either_quiet (Guard s phase stood c) n quiet h = quiet refl h
either_quiet (Run s callee phase stood c) n quiet h = quiet refl h

mutual
  quiet : (w : Setting) (i : ℕ) (g : Place) (c : Tree) (next : Option Node) (n : Node) → FitsGraph w i c g → is_settled c ≡ true → is_nil c ≡ false →
      Waits c next n → ⊥
  quiet w i g Nil next n live settled unended h = true_false_any true refl unended
  quiet w i g (Wait s) next n live settled unended h = h
  quiet w i g (Test s) next n live settled unended h = true_false_any false settled refl
  quiet w i g (Idle body) next n live settled unended h = h
  quiet w i g (Do s) next n live settled unended h = true_false_any false settled refl
  quiet w i g (Seq c Done) next n live settled unended h = live
  quiet w i g (Seq c (Then s rest)) next n live settled unended h =
      quiet w i (ahead_of (entry s) g) c (first_in (Then s rest) next) n live.0 settled live.1.unended h
  quiet w i g (Par s stood branches) next n live settled unended (inl h) =
      quiet_each w i g stood branches s.bodies n live.0 (and_first (are_settled branches) (not (are_done branches)) settled) h
  quiet w i g (Par s stood branches) next n live settled unended (inr h) =
      true_false_any (are_done branches) h.0 (not-true (are_done branches) (and_second (are_settled branches) (not (are_done branches)) settled))
  quiet w i g (Guard s Body stood c) next n live settled unended h =
      quiet w i (guarded s g) c (Some (end_node stood s.label s.place)) n live.0 (and_first (is_settled c) (not (is_nil c)) settled)
      (not-true (is_nil c) (and_second (is_settled c) (not (is_nil c)) settled)) h
  quiet w i g (Guard s Check stood c) next n live settled unended h = true_false_any false settled refl
  quiet w i g (Run s callee Body stood c) next n live settled unended h = h
  quiet w i g (Run s callee Check stood c) next n live settled unended h = true_false_any false settled refl

  quiet_each : (w : Setting) (i : ℕ) (g : Place) (stood : Bool) (branches : Trees) (bodies : Bodies) (n : Node) → AllFitGraph w i branches bodies stood g →
      are_settled branches ≡ true → SomeWaits branches n → ⊥
  quiet_each w i g stood no_tree bodies n live settled h = h
  quiet_each w i g stood (beside weak c branches) Last n live settled h = live
  quiet_each w i g stood (beside weak c branches) (BodyOf weak' body rest) n live settled (inl h) =
      either_quiet c n
      (λ unended k. quiet w i (in_branch stood body g) c None n live.0 (and_first (is_settled c) (are_settled branches) settled) unended k) h
  quiet_each w i g stood (beside weak c branches) (BodyOf weak' body rest) n live settled (inr h) =
      quiet_each w i g stood branches rest n live.2 (and_second (is_settled c) (are_settled branches) settled) h

-- of a whole body, also where it has ended
pub quiet_branch : (w : Setting) (i : ℕ) (g : Place) (c : Tree) (n : Node) → FitsGraph w i c g → is_settled c ≡ true → Waits c None n → ⊥
quiet_branch w i g c n live settled h = either_quiet c n (λ unended k. quiet w i g c None n live settled unended k) h

-- ---- where something is left to do something waits

-- a node at which something waits, where the next node is told
record Some_at (c : Tree) (next : Option Node) : Type 0 where
  node : Node
  waits : Waits c next node

record Some_in (branches : Trees) : Type 0 where
  node : Node
  waits : SomeWaits branches node

-- what has ended waits at what follows it
ended_waits : (c : Tree) (n : Node) → is_nil c ≡ true → Waits c (Some n) n
ended_waits Nil n e = refl
ended_waits (Wait s) n e = true_false_any false e refl
ended_waits (Test s) n e = true_false_any false e refl
ended_waits (Idle body) n e = true_false_any false e refl
ended_waits (Do s) n e = true_false_any false e refl
ended_waits (Seq c rest) n e = true_false_any false e refl
ended_waits (Par s stood branches) n e = true_false_any false e refl
ended_waits (Guard s phase stood c) n e = true_false_any false e refl
ended_waits (Run s callee phase stood c) n e = true_false_any false e refl

-- a `cobegin` whose branches are settled is done, so its join waits
par_stirs : (s : Fork) (stood : Bool) (branches : Trees) (next : Option Node) → (are_settled branches && not (are_done branches)) ≡ false →
    (are_settled branches ≡ false → Some_in branches) → Some_at (Par s stood branches) next
par_stirs s stood branches next left inner = by_branches (are_settled branches) refl
  where
    by_branches : (b : Bool) → are_settled branches ≡ b → Some_at (Par s stood branches) next
    by_branches true e = record {
      node = join_node stood s.label s.place;
      waits = inr (not-false (are_done branches) (ap (λ b. b && not (are_done branches)) (sym e) ∙ left), refl);
    }
    by_branches false e = record { node = (inner e).node; waits = inl (inner e).waits }

-- a `when` whose body is settled has ended, so its end waits
guard_stirs : (s : Watch) (stood : Bool) (c : Tree) (next : Option Node) → (is_settled c && not (is_nil c)) ≡ false →
    (is_settled c ≡ false → Some_at c (Some (end_node stood s.label s.place))) → Some_at (Guard s Body stood c) next
guard_stirs s stood c next left inner = by_end (is_settled c) refl
  where
    by_end : (b : Bool) → is_settled c ≡ b → Some_at (Guard s Body stood c) next
    by_end true e = record {
      node = end_node stood s.label s.place;
      waits = ended_waits c (end_node stood s.label s.place) (not-false (is_nil c) (ap (λ b. b && not (is_nil c)) (sym e) ∙ left));
    }
    by_end false e = record { node = (inner e).node; waits = (inner e).waits }

-- one of the branches has something waiting
first_stirs : (weak : Bool) (c : Tree) (branches : Trees) → (is_settled c && are_settled branches) ≡ false →
    (is_settled c ≡ false → Some_at c None) →
    (are_settled branches ≡ false → Some_in branches) → Some_in (beside weak c branches)
first_stirs weak c branches left inner others = by_first (is_settled c) refl
  where
    by_first : (b : Bool) → is_settled c ≡ b → Some_in (beside weak c branches)
    by_first true e =
        let more = others (ap (λ b. b && are_settled branches) (sym e) ∙ left) in record { node = more.node; waits = inr more.waits }
    by_first false e = record { node = (inner e).node; waits = inl (inner e).waits }

settled_so : (a b : Bool) → a ≡ true → b ≡ false → (a && not b) ≡ true
settled_so true b e f = ap not f
settled_so false b e f = absurd cc

mutual
  stirs : (w : Setting) (i : ℕ) (g : Place) (c : Tree) (next : Option Node) → FitsGraph w i c g → RunsArePassed c → is_settled c ≡ false → Some_at c next
  stirs w i g Nil next live passed left = true_false_any true refl left
  stirs w i g (Wait s) next live passed left = true_false_any true refl left
  stirs w i g (Test s) next live passed left = record { node = test_of s; waits = refl }
  stirs w i g (Idle body) next live passed left = true_false_any true refl left
  stirs w i g (Do s) next live passed left = record { node = entry s; waits = refl }
  stirs w i g (Seq c Done) next live passed left = absurd live
  stirs w i g (Seq c (Then s rest)) next live passed left =
      let inner = stirs w i (ahead_of (entry s) g) c (first_in (Then s rest) next) live.0 passed left in
      record { node = inner.node; waits = inner.waits }
  stirs w i g (Par s stood branches) next live passed left =
      par_stirs s stood branches next left (λ e. stirs_each w i g stood branches s.bodies live.0 passed e)
  stirs w i g (Guard s Body stood c) next live passed left =
      guard_stirs s stood c next left (λ e. stirs w i (guarded s g) c (Some (end_node stood s.label s.place)) live.0 passed e)
  stirs w i g (Guard s Check stood c) next live passed left = record { node = check_of s; waits = inl refl }
  stirs w i g (Run s callee Body stood c) next live passed left =
      true_false_any (is_settled c && not (is_nil c)) (settled_so (is_settled c) (is_nil c) passed.0 passed.1) left
  stirs w i g (Run s callee Check stood c) next live passed left = record { node = run_node stood s.label s.place s.arguments; waits = refl }

  stirs_each : (w : Setting) (i : ℕ) (g : Place) (stood : Bool) (branches : Trees) (bodies : Bodies) → AllFitGraph w i branches bodies stood g →
      AllPassed branches → are_settled branches ≡ false → Some_in branches
  stirs_each w i g stood no_tree bodies live passed left = true_false_any true refl left
  stirs_each w i g stood (beside weak c branches) Last live passed left = absurd live
  stirs_each w i g stood (beside weak c branches) (BodyOf weak' body rest) live passed left =
      first_stirs weak c branches left (λ e. stirs w i (in_branch stood body g) c None live.0 passed.0 e)
      (λ e. stirs_each w i g stood branches rest live.2 passed.1 e)

pub something_waits : (w : Setting) (i : ℕ) (g : Place) (c : Tree) → FitsGraph w i c g → RunsArePassed c → is_settled c ≡ false → SomethingWaits c
something_waits w i g c live passed left =
    let some = stirs w i g c None live passed left in record { node = some.node; waits = some.waits }

-- ---- what waits may act in this tick

-- where the tree has ended, what follows it may act
abbrev pub NextNow : Tree → Option Node → (Node → Type 0) → Type 0
NextNow c next now = is_nil c ≡ true → (n : Node) → Is next n → now n

mutual
  pub in_part : (w : Setting) (i : ℕ) (g : Place) (c : Tree) (next : Option Node) (n : Node) → FitsGraph w i c g → Closed g.edges g.now →
      NextNow c next g.now → Waits c next n → g.now n
  in_part w i g Nil next n live closed follows h = follows refl n h
  in_part w i g (Wait s) next n live closed follows h = absurd h
  in_part w i g (Test s) next n live closed follows h = subst g.now (sym h) live.2
  in_part w i g (Idle body) next n live closed follows h = absurd h
  in_part w i g (Do s) next n live closed follows h = subst g.now (sym h) live.1
  in_part w i g (Seq c Done) next n live closed follows h = absurd live
  in_part w i g (Seq c (Then s rest)) next n live closed follows h =
      in_part w i (ahead_of (entry s) g) c (first_in (Then s rest) next) n live.0 closed (λ nil. true_false_any (is_nil c) nil live.1.unended) h
  in_part w i g (Par s stood branches) next n live closed follows (inl h) =
      live.1.holds.now n (each_in_part w i g stood branches s.bodies n live.0 h)
  in_part w i g (Par s stood branches) next n live closed follows (inr h) =
      subst g.now (sym h.1) (live.1.joins (done_join branches h.0)).1
  in_part w i g (Guard s Body stood c) next n live closed follows h =
      in_part w i (guarded s g) c (Some (end_node stood s.label s.place)) n live.0 closed
      (λ nil m is. subst g.now (sym is) (live.1.closes (nil_ends c nil)).1) h
  in_part w i g (Guard s Check stood c) next n live closed follows (inl h) = subst g.now (sym h) live.1.checks
  in_part w i g (Guard s Check stood c) next n live closed follows (inr h) =
      let after = in_part w i (later_on (guarded s g)) c (Some (end_node stood s.label s.place)) n live.0 after_closed
      (λ nil. true_false_any (is_nil c) nil live.1.unended) h in walks_stay closed (closed (check_of s) after.by live.1.checks after.edge) after.rest
  in_part w i g (Run s callee Body stood c) next n live closed follows h = absurd h
  in_part w i g (Run s callee Check stood c) next n live closed follows h = subst g.now (sym h) live.2.now

  pub each_in_part : (w : Setting) (i : ℕ) (g : Place) (stood : Bool) (branches : Trees) (bodies : Bodies) (n : Node) →
      AllFitGraph w i branches bodies stood g →
      SomeWaits branches n → InEach stood bodies n
  each_in_part w i g stood no_tree bodies n live h = absurd h
  each_in_part w i g stood (beside weak c branches) Last n live h = absurd live
  each_in_part w i g stood (beside weak c branches) (BodyOf weak' body rest) n live (inl h) =
      inl (in_part w i (in_branch stood body g) c None n live.0 (part_closed stood body) (λ nil m is. absurd is) h)
  each_in_part w i g stood (beside weak c branches) (BodyOf weak' body rest) n live (inr h) =
      inr (each_in_part w i g stood branches rest n live.2 h)

pub waits_now : (w : Setting) (i : ℕ) (stood : Bool) (body : Block) (c : Tree) (n : Node) → FitsGraph w i c (whole stood body) → Waits c None n →
    In stood body n
waits_now w i stood body c n live h = in_part w i (whole stood body) c None n live (part_closed stood body) (λ nil m is. absurd is) h
