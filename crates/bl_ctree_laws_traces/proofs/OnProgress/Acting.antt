-- What could act in a tree that stands at a place: a node that may act there now, and where something is left to do some node.
use Rattle.std.proofs.Common.{◌≡◌, ℕ, Bool, true, false, not, ◌&&◌, ◌||◌, ◌⊎◌, inl, inr, refl, sym, subst}
use Rattle.bl_graph_nodes.specs.Nodes.{entry}
use Rattle.bl_graph_nodes.specs.Plain.{Bodies, Plain, Act, Again, Await, Body as BodyOf, Cobegin, Done, If, Last, Repeat, Run as RunOf, Then, Until, When}
use Rattle.bl_graph_nodes.specs.Plain.{While, plain_body}
use Rattle.bl_graph_nodes.specs.Steps.{StepLabel, head_of}
use Rattle.bl_graph.specs.Edges.{InEach}
use Rattle.bl_ctree.specs.Control.{Check, Body}
use Rattle.bl_ctree.specs.Instances.{Setting}
use Rattle.bl_ctree_laws.specs.Pending.{Deed}
use Rattle.bl_ctree_laws.specs.Steps.{Anyway, Moves, OneMoves, acts, takes, passes, pauses, runs, repeats, repeats_until, leaves, turns, enters, skips, forks}
use Rattle.bl_ctree_laws.specs.Steps.{guards, goes_on, waits, lets, aborts, resets, guard_ends, copies, run_ends, joins, in_seq, in_par, in_guard, in_run}
use Rattle.bl_ctree_laws.specs.Steps.{first, later}
use Rattle.bl_ctree_laws.specs.Trees.{Call, Fork, Tree, Trees, Watch, Nil, Wait, Test, Idle, Do, Seq, Par, Guard, Run, are_done, are_settled, beside}
use Rattle.bl_ctree_laws.specs.Trees.{is_nil, is_settled, no_tree}
use Rattle.bl_ctree_laws_traces.specs.Progress.Laws.{Could, NodesAreInPart, UnsettledCould}
use Rattle.bl_ctree_laws_traces.specs.Progress.FitsGraph.{AllFitGraph, FitsGraph}
use Rattle.bl_ctree_laws_traces.specs.Progress.Places.{Callable, Place, ahead_of, guarded, in_branch, whole}
use Rattle.bl_ctree_laws.proofs.Less.{done_join}

-- ---- so many have ended that the `cobegin` may end

-- ---- the node that acts may act

module _ {T : Bool → Type 0} {w : Setting} where
  mutual
    pub region : {i : ℕ} {c : Tree} {d : Bool} {a : Deed} {n : StepLabel} {c' : Tree} → Moves T w i c d a n c' → (g : Place) → FitsGraph w i c g →
        g.now (head_of n)
    region acts g live = live.1
    region takes g live = live.1
    region passes g live = live.1
    region pauses g live = live.1
    region (runs at there) g live = live.1
    region repeats g live = live.1
    region repeats_until g live = live.1
    region leaves g live = live.1
    region turns g live = live.1
    region enters g live = live.1
    region skips g live = live.1
    region forks g live = live.1
    region guards g live = live.1
    region goes_on g live = live.2
    region waits g live = live.2
    region lets g live = live.1.checks
    region (aborts is) g live = live.1.checks
    region (resets is) g live = live.1.checks
    region guard_ends g live = (live.1.closes refl).1
    region copies g live = live.2.now
    region run_ends g live = live.2.now
    region (joins {branches = branches} still done) g live = (live.1.joins (done_join branches done)).1
    region (in_seq {rest = Done} move) g live = elim live [ ]
    region (in_seq {rest = Then s rest} move) g live = region move (ahead_of (entry s) g) live.0
    region (in_par {s = s} {stood = stood} move) g live = live.1.holds.now _ (one_region move s.bodies stood g live.0)
    region (in_guard {s = s} move) g live = region move (guarded s g) live.0
    region (in_run move) g live = live.2.now

    pub one_region : {i : ℕ} {branches : Trees} {d : Bool} {a : Deed} {n : StepLabel} {branches' : Trees} → OneMoves T w i branches d a n branches' →
        (bodies : Bodies) (stood : Bool) (g : Place) → AllFitGraph w i branches bodies stood g → InEach stood bodies (head_of n)
    one_region (first move free) Last stood g lives = elim lives [ ]
    one_region (first move free) (BodyOf weak body rest) stood g lives = inl (region move (in_branch stood body g) lives.0)
    one_region (later move free) Last stood g lives = elim lives [ ]
    one_region (later move free) (BodyOf weak body rest) stood g lives = inr (one_region move rest stood g lives.2)

pub nodes_are_in_part : NodesAreInPart
nodes_are_in_part w i stood body c d a n c' live move = region move (whole stood body) live

-- ---- something could act

-- a branch could
pub record OneCould (w : Setting) (i : ℕ) (branches : Trees) : Type 0 where
  pub answer : Bool
  pub deed : Deed
  pub label : StepLabel
  pub after : Trees
  pub moves : OneMoves Anyway w i branches answer deed label after

abbrev pub this_could : {w : Setting} {i : ℕ} {c : Tree} {answer : Bool} {deed : Deed} {label : StepLabel} {after : Tree} →
    Moves Anyway w i c answer deed label after → Could w i c
this_could {answer = answer} {deed = deed} {label = label} {after = after} move =
    record { answer = answer; deed = deed; label = label; after = after; moves = move }

abbrev pub this_one_could : {w : Setting} {i : ℕ} {branches : Trees} {answer : Bool} {deed : Deed} {label : StepLabel} {after : Trees} →
    OneMoves Anyway w i branches answer deed label after → OneCould w i branches
this_one_could {answer = answer} {deed = deed} {label = label} {after = after} move =
    record { answer = answer; deed = deed; label = label; after = after; moves = move }

-- a statement that is to begin does so at its entry
pub record Begun (w : Setting) (i : ℕ) (s : Plain) : Type 0 where
  pub could : Could w i (Do s)
  pub is : head_of could.label ≡ entry s

pub begins : (w : Setting) (i : ℕ) (s : Plain) → Callable w i s → Begun w i s
begins w i (Act l s) calls = record { could = this_could acts; is = refl }
begins w i (Await l at e) calls = record { could = this_could pauses; is = refl }
begins w i (RunOf l at target a inputs outputs) calls = record { could = this_could (runs calls.called calls.is); is = refl }
begins w i (If l at e body other) calls = record { could = this_could takes; is = refl }
begins w i (Cobegin l at bodies) calls = record { could = this_could forks; is = refl }
begins w i (When l at guard e body) calls = record { could = this_could guards; is = refl }
begins w i (Repeat l at body) calls = record { could = this_could repeats; is = refl }
begins w i (Until l at body e) calls = record { could = this_could repeats_until; is = refl }
begins w i (While l at e body) calls = record { could = this_could enters; is = refl }
begins w i (Again l at body e) calls = record { could = this_could leaves; is = refl }

yes_and : (b : Bool) → (b && true) ≡ false → b ≡ false
yes_and true e = e
yes_and false e = e

-- what is not both settled and moving: not settled, or ended
pub ended_or : (c : Tree) → (is_settled c && not (is_nil c)) ≡ false → (is_settled c ≡ false) ⊎ (c ≡ Nil)
ended_or Nil e = inr refl
ended_or (Wait s) e = absurd cc
ended_or (Test s) e = inl refl
ended_or (Idle body) e = absurd cc
ended_or (Do s) e = inl refl
ended_or (Seq c rest) e = inl (yes_and (is_settled (Seq c rest)) e)
ended_or (Par s stood branches) e = inl (yes_and (is_settled (Par s stood branches)) e)
ended_or (Guard s phase stood c) e = inl (yes_and (is_settled (Guard s phase stood c)) e)
ended_or (Run s callee phase stood c) e = inl (yes_and (is_settled (Run s callee phase stood c)) e)

-- a body that could act or has ended, in a `when` and in a `run`
in_watch : (w : Setting) (i : ℕ) (s : Watch) (stood : Bool) (c : Tree) → (is_settled c ≡ false → Could w i c) →
    (is_settled c && not (is_nil c)) ≡ false → Could w i (Guard s Body stood c)
in_watch w i s stood c more e = elim (ended_or c e) [
  | inl moving ↦ this_could (in_guard (more moving).moves)
  | inr is ↦ subst (λ x. Could w i (Guard s Body stood x)) (sym is) (this_could guard_ends)
]

in_call : (w : Setting) (i : ℕ) (s : Call) (callee : ℕ) (stood : Bool) (c : Tree) → (is_settled c ≡ false → Could w callee c) →
    (is_settled c && not (is_nil c)) ≡ false → Could w i (Run s callee Body stood c)
in_call w i s callee stood c more e = elim (ended_or c e) [
  | inl moving ↦ this_could (in_run (more moving).moves)
  | inr is ↦ subst (λ x. Could w i (Run s callee Body stood x)) (sym is) (this_could run_ends)
]

-- branches of which one could, or which are all settled and as many ended as are needed
in_fork : (w : Setting) (i : ℕ) (s : Fork) (stood : Bool) (branches : Trees) → (are_settled branches ≡ false → OneCould w i branches) →
    (are_settled branches && not (are_done branches)) ≡ false → Could w i (Par s stood branches)
in_fork w i s stood branches more e = by_test (are_settled branches) refl (are_done branches) refl e
  where
    by_test : (a : Bool) → are_settled branches ≡ a → (b : Bool) → are_done branches ≡ b → (a && not b) ≡ false →
        Could w i (Par s stood branches)
    by_test true still true done e = this_could (joins still done)
    by_test true still false done e = absurd cc
    by_test false moving b done e = this_could (in_par (more moving).moves)

-- one of two is not settled
one_of : (w : Setting) (i : ℕ) (weak : Bool) (c : Tree) (rest : Trees) → (is_settled c ≡ false → Could w i c) →
    (are_settled rest ≡ false → OneCould w i rest) → (is_settled c && are_settled rest) ≡ false → OneCould w i (beside weak c rest)
one_of w i weak c rest one others e = by_test (is_settled c) refl e
  where
    by_test : (a : Bool) → is_settled c ≡ a → (a && are_settled rest) ≡ false → OneCould w i (beside weak c rest)
    by_test true still e = this_one_could (later (others e).moves tt)
    by_test false moving e = this_one_could (first (one moving).moves tt)

module _ {w : Setting} where
  mutual
    pub point : (c : Tree) (i : ℕ) (g : Place) → FitsGraph w i c g → is_settled c ≡ false → Could w i c
    point Nil i g live e = absurd cc
    point (Wait s) i g live e = absurd cc
    point (Test s) i g live e = this_could goes_on
    point (Idle body) i g live e = absurd cc
    point (Do s) i g live e = (begins w i s live.0.calls).could
    point (Seq c Done) i g live e = elim live [ ]
    point (Seq c (Then s rest)) i g live e = this_could (in_seq (point c i (ahead_of (entry s) g) live.0 e).moves)
    point (Par s stood branches) i g live e = in_fork w i s stood branches (points branches i s.bodies stood g live.0) e
    point (Guard s Check stood c) i g live e = this_could lets
    point (Guard s Body stood c) i g live e = in_watch w i s stood c (point c i (guarded s g) live.0) e
    point (Run s callee Check stood c) i g live e = this_could copies
    point (Run s callee Body stood c) i g live e =
        in_call w i s callee stood c (point c callee (whole stood (plain_body live.0.body)) live.1) e

    pub points : (branches : Trees) (i : ℕ) (bodies : Bodies) (stood : Bool) (g : Place) → AllFitGraph w i branches bodies stood g →
        are_settled branches ≡ false → OneCould w i branches
    points no_tree i bodies stood g lives e = absurd cc
    points (beside weak c rest) i Last stood g lives e = elim lives [ ]
    points (beside weak c rest) i (BodyOf weak' body bodies) stood g lives e =
        one_of w i weak c rest (point c i (in_branch stood body g) lives.0) (points rest i bodies stood g lives.2) e

pub unsettled_could : UnsettledCould
unsettled_could w i stood body c live e = point c i (whole stood body) live e
