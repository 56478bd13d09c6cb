-- What could act may act or waits for a writer.
use Rattle.std.proofs.Common.{◌≡◌, ℕ, Bool, true, false, ◌||◌, List, [], ◌∷◌, ◌⊎◌, inl, inr, refl, ap, ◌∙◌}
use Rattle.std.specs.List.{list_any}
use Rattle.bl_tree.proofs.Basics.{or_true}
use Rattle.bl_tree.specs.declared.place.Place.{Place as Source}
use Rattle.bl_graph_nodes.specs.Nodes.{Node, entry, is_instant, node_writes, place_of_node}
use Rattle.bl_graph_nodes.specs.Plain.{Block, Bodies, Cobegin, Label, Body as BodyOf, Done, Last, Then, plain_body}
use Rattle.bl_graph_nodes.specs.Steps.{Gives, Here, Inside, StepLabel, head_of, run_node}
use Rattle.bl_graph.specs.DataEdges.{BesideEach}
use Rattle.bl_graph.specs.Edges.{EdgeAll, EdgeEach, In, InEach}
use Rattle.bl_graph.specs.Laws.{InstantsPass, WritersAreReached}
use Rattle.bl_graph.proofs.Walking.{walk_more}
use Rattle.bl_graph.proofs.Passing.{later as rest_edges}
use Rattle.bl_ctree.specs.Instances.{Setting, callee_of}
use Rattle.bl_ctree.specs.Store.{Location}
use Rattle.bl_ctree_laws.specs.Pending.{Deed, any_meets, any_writes, deed_reads, leads_over, may_write, meets}
use Rattle.bl_ctree_laws.specs.Soon.{SoonIsSurface}
use Rattle.bl_ctree_laws.specs.Steps.{Anyway, Moves, OneMoves, Unmet, acts, takes, passes, pauses, runs, repeats, repeats_until, leaves, turns, enters, skips}
use Rattle.bl_ctree_laws.specs.Steps.{forks, guards, goes_on, waits, lets, aborts, resets, guard_ends, copies, run_ends, joins, in_seq, in_par, in_guard}
use Rattle.bl_ctree_laws.specs.Steps.{in_run, first, later}
use Rattle.bl_ctree_laws.specs.Trees.{Call, Tree, Trees, beside}
use Rattle.bl_ctree_laws_traces.specs.Progress.Blocked.{ActsOrWaits, Blocked, WaitsFor, Writer}
use Rattle.bl_ctree_laws_traces.specs.Progress.FitsGraph.{AllFitGraph, FitsGraph}
use Rattle.bl_ctree_laws_traces.specs.Progress.Places.{Place, ahead_of, guarded, in_branch, whole}
use Rattle.bl_ctree_laws_traces.proofs.OnProgress.Acting.{OneCould, one_region, region, this_could, this_one_could}
use Rattle.bl_ctree_laws_traces.proofs.OnProgress.Leading.{in_on}
use Rattle.bl_ctree_laws_traces.proofs.OnProgress.Writing.{one_writer, writer}
use Rattle.bl_ctree_laws_traces.proofs.OnBounded.Stepping.{crossing}

-- the node of a `run` has its place
pub run_place : (stood : Bool) (s : Call) → place_of_node (run_node stood s.label s.place s.arguments) ≡ s.place
run_place true s = refl
run_place false s = refl

-- ---- what waits

more_writer : {w : Setting} {i : ℕ} {a : Deed} {E E' L L' : Node → Node → Type 0} {from node : Node} → ((n m : Node) → E n m → E' n m) →
    ((n m : Node) → L n m → L' n m) → Writer w i a E L from node → Writer w i a E' L' from node
more_writer more links h = record { writer = h.writer; walk = walk_more more h.walk; beside = links _ _ h.beside; writes = h.writes }

-- along more edges and beside more
more_waits : (w : Setting) (n p : StepLabel) (i : ℕ) (a : Deed) (E E' L L' : Node → Node → Type 0) → ((n m : Node) → E n m → E' n m) →
    ((n m : Node) → L n m → L' n m) → WaitsFor w n p i a E L → WaitsFor w n p i a E' L'
more_waits w (Here n) p i a E E' L L' more links h = more_writer more links h
more_waits w (Gives n) p i a E E' L L' more links h = more_writer more links h
more_waits w (Inside n u step) p i a E E' L L' more links (inl h) = inl (more_writer more links h)
more_waits w (Inside n u step) p i a E E' L L' more links (inr h) = inr h

-- for a writer beside the outermost node
waits_beside : (w : Setting) (n p : StepLabel) (i : ℕ) (a : Deed) (E L : Node → Node → Type 0) → Writer w i a E L (head_of p) (head_of n) →
    WaitsFor w n p i a E L
waits_beside w (Here n) p i a E L h = h
waits_beside w (Gives n) p i a E L h = h
waits_beside w (Inside n u step) p i a E L h = inl h

record OneBlocked (w : Setting) (i : ℕ) (branches : Trees) (a : Deed) (n : StepLabel) (E L : Node → Node → Type 0) : Type 0 where
  could : OneCould w i branches
  waits : WaitsFor w n could.label i a E L

-- a location that passes, for which each other test that it passes is passed too
record Found (f : Location → Bool) (xs : List Location) : Type 0 where
  one : Location
  is : f one ≡ true
  also : (g : Location → Bool) → g one ≡ true → list_any g xs ≡ true

found : (f : Location → Bool) (xs : List Location) → list_any f xs ≡ true → Found f xs
found f [] e = absurd cc
found f (x ∷ xs) e = by_test (f x) refl e (found f xs)
  where
    by_test : (b : Bool) → f x ≡ b → (b || list_any f xs) ≡ true → (list_any f xs ≡ true → Found f xs) → Found f (x ∷ xs)
    by_test true is e more = record { one = x; is = is; also = λ g h. ap (λ b. b || list_any g xs) h }
    by_test false is e more = let rest = more e in record { one = rest.one; is = rest.is; also = λ g h. ap (λ b. g x || b) (rest.also g h) ∙ or_true (g x) }

later_beside : (stood weak : Bool) (body : Block) (rest : Bodies) (n m : Node) → InEach stood rest n → In stood body m →
    BesideEach (BodyOf weak body rest) n m
later_beside false weak body rest n m h k = inr (inl (inr (h, k)))
later_beside true weak body rest n m h k = inr (inr (inl (inr (h, k))))

module _ {w : Setting} (pass : InstantsPass) (reach : WritersAreReached) (surfaces : SoonIsSurface) where
  -- the first branch waits for a writer in the others
  first_waits : {i : ℕ} {weak : Bool} {c : Tree} {others : Trees} {d : Bool} {a : Deed} {n : StepLabel} {c' : Tree} (weak' : Bool) (body : Block)
      (rest : Bodies) (l : Label) (at : Source) (so stood : Bool) (g : Place) → Moves Anyway w i c d a n c' → FitsGraph w i c (in_branch stood body g) →
      AllFitGraph w i others rest stood g → ((n m : Node) → BesideEach (BodyOf weak' body rest) n m → g.links n m) → any_meets w i others a ≡ true →
      OneBlocked w i (beside weak c others) a n (EdgeEach (BodyOf weak' body rest) l at so) g.links
  first_waits {i = i} {weak = weak} {c = c} {others = others} {a = a} {n = n} weak' body rest l at so stood g move live lives links met =
      let over = found (any_writes w i others) (deed_reads w a) met in
      let one = one_writer pass reach surfaces (leads_over w i over.one) others i rest l at so stood g lives over.is in
      record {
        could = this_one_could (later one.could.moves tt);
        waits = waits_beside w n one.could.label i a (EdgeEach (BodyOf weak' body rest) l at so) g.links (record {
          writer = one.end;
          walk = walk_more (rest_edges weak' body rest l at so) one.walk;
          beside = links _ _ (later_beside stood weak' body rest one.end (head_of n) one.leads.1 (region move (in_branch stood body g) live));
          writes = over.also (λ x. list_any (leads_over w i x) (node_writes one.end)) one.leads.0;
        });
      }

  -- the others wait for a writer in the first
  later_waits : {i : ℕ} {weak : Bool} {c : Tree} {others : Trees} {d : Bool} {a : Deed} {n : StepLabel} {others' : Trees} (weak' : Bool) (body : Block)
      (rest : Bodies) (l : Label) (at : Source) (so stood : Bool) (g : Place) → OneMoves Anyway w i others d a n others' →
      FitsGraph w i c (in_branch stood body g) → AllFitGraph w i others rest stood g → ((n m : Node) → BesideEach (BodyOf weak' body rest) n m → g.links n m) →
      meets w i c a ≡ true → OneBlocked w i (beside weak c others) a n (EdgeEach (BodyOf weak' body rest) l at so) g.links
  later_waits {i = i} {weak = weak} {c = c} {others = others} {a = a} {n = n} weak' body rest l at so stood g move live lives links met =
      let over = found (may_write w i c) (deed_reads w a) met in
      let one = writer pass reach surfaces (leads_over w i over.one) c i (in_branch stood body g) live over.is in
      record {
        could = this_one_could (first one.could.moves tt);
        waits = waits_beside w n one.could.label i a (EdgeEach (BodyOf weak' body rest) l at so) g.links (record {
          writer = one.end;
          walk = walk_more (λ n m h. inl h) one.walk;
          beside = links _ _ (crossing stood weak' body rest one.end (head_of n)
              (in_on stood body (region one.could.moves (in_branch stood body g) live) one.walk) (one_region move rest stood g lives));
          writes = over.also (λ x. list_any (leads_over w i x) (node_writes one.end)) one.leads;
        });
      }

  -- by whether the others may still write what is read
  first_free : {i : ℕ} {weak : Bool} {c : Tree} {others : Trees} {d : Bool} {a : Deed} {n : StepLabel} {c' : Tree} (weak' : Bool) (body : Block)
      (rest : Bodies) (l : Label) (at : Source) (so stood : Bool) (g : Place) → Moves Anyway w i c d a n c' → FitsGraph w i c (in_branch stood body g) →
      AllFitGraph w i others rest stood g → ((n m : Node) → BesideEach (BodyOf weak' body rest) n m → g.links n m) →
      Moves Unmet w i c d a n c' ⊎ Blocked w i c a n (EdgeAll body) g.links → (b : Bool) → any_meets w i others a ≡ b →
      OneMoves Unmet w i (beside weak c others) d a n (beside weak c' others)
      ⊎ OneBlocked w i (beside weak c others) a n (EdgeEach (BodyOf weak' body rest) l at so) g.links
  first_free weak' body rest l at so stood g move live lives links (inl able) false met = inl (first able met)
  first_free weak' body rest l at so stood g move live lives links (inl able) true met =
      inr (first_waits weak' body rest l at so stood g move live lives links met)
  first_free {i = i} {a = a} {n = n} weak' body rest l at so stood g move live lives links (inr b) t met = inr (record {
    could = this_one_could (first b.could.moves tt);
    waits = more_waits w n b.could.label i a (EdgeAll body) (EdgeEach (BodyOf weak' body rest) l at so) g.links g.links (λ n m h. inl h) (λ n m h. h) b.waits;
  })

  later_free : {i : ℕ} {weak : Bool} {c : Tree} {others : Trees} {d : Bool} {a : Deed} {n : StepLabel} {others' : Trees} (weak' : Bool) (body : Block)
      (rest : Bodies) (l : Label) (at : Source) (so stood : Bool) (g : Place) → OneMoves Anyway w i others d a n others' →
      FitsGraph w i c (in_branch stood body g) → AllFitGraph w i others rest stood g → ((n m : Node) → BesideEach (BodyOf weak' body rest) n m → g.links n m) →
      OneMoves Unmet w i others d a n others' ⊎ OneBlocked w i others a n (EdgeEach rest l at so) g.links → (b : Bool) → meets w i c a ≡ b →
      OneMoves Unmet w i (beside weak c others) d a n (beside weak c others')
      ⊎ OneBlocked w i (beside weak c others) a n (EdgeEach (BodyOf weak' body rest) l at so) g.links
  later_free weak' body rest l at so stood g move live lives links (inl able) false met = inl (later able met)
  later_free weak' body rest l at so stood g move live lives links (inl able) true met =
      inr (later_waits weak' body rest l at so stood g move live lives links met)
  later_free {i = i} {a = a} {n = n} weak' body rest l at so stood g move live lives links (inr b) t met = inr (record {
    could = this_one_could (later b.could.moves tt);
    waits = more_waits w n b.could.label i a (EdgeEach rest l at so) (EdgeEach (BodyOf weak' body rest) l at so) g.links g.links
        (rest_edges weak' body rest l at so) (λ n m h. h) b.waits;
  })

  mutual
    pub free : {i : ℕ} {c : Tree} {d : Bool} {a : Deed} {n : StepLabel} {c' : Tree} → Moves Anyway w i c d a n c' → (g : Place) → FitsGraph w i c g →
        Moves Unmet w i c d a n c' ⊎ Blocked w i c a n g.edges g.links
    free acts g live = inl acts
    free takes g live = inl takes
    free passes g live = inl passes
    free pauses g live = inl pauses
    free repeats g live = inl repeats
    free repeats_until g live = inl repeats_until
    free leaves g live = inl leaves
    free turns g live = inl turns
    free enters g live = inl enters
    free skips g live = inl skips
    free forks g live = inl forks
    free guards g live = inl guards
    free goes_on g live = inl goes_on
    free waits g live = inl waits
    free lets g live = inl lets
    free guard_ends g live = inl guard_ends
    free copies g live = inl copies
    free run_ends g live = inl run_ends
    free (runs here there) g live = inl (runs here there)
    free (aborts is) g live = inl (aborts is)
    free (resets is) g live = inl (resets is)
    free (joins still done) g live = inl (joins still done)
    free (in_seq {rest = Done} move) g live = elim live [ ]
    free (in_seq {rest = Then s rest} move) g live = elim (free move (ahead_of (entry s) g) live.0) [
      | inl able ↦ inl (in_seq able)
      | inr b ↦ inr (record { could = this_could (in_seq b.could.moves); waits = b.waits })
    ]
    free {i = i} {a = a} {n = n} (in_par {s = s} {stood = stood} move) g live =
        elim (one_free move s.bodies s.label s.place (is_instant (Cobegin s.label s.place s.bodies)) stood g live.0 live.1.fits.beside) [
          | inl able ↦ inl (in_par able)
          | inr b ↦ inr (record {
            could = this_could (in_par b.could.moves);
            waits = more_waits w n b.could.label i a _ g.edges g.links g.links live.1.fits.edges (λ n m h. h) b.waits;
          })
        ]
    free (in_guard {s = s} move) g live = elim (free move (guarded s g) live.0) [
      | inl able ↦ inl (in_guard able)
      | inr b ↦ inr (record { could = this_could (in_guard b.could.moves); waits = b.waits })
    ]
    free {i = i} (in_run {s = s} {callee = callee} {stood = stood} move) g live = elim (free move (whole stood (plain_body live.0.body)) live.1) [
      | inl able ↦ inl (in_run able)
      | inr b ↦ inr (record {
        could = this_could (in_run b.could.moves);
        waits = inr (callee, live.0, b.could.label, ap (callee_of w i) (run_place stood s) ∙ live.2.called, live.2.is, refl, b.waits);
      })
    ]

    one_free : {i : ℕ} {branches : Trees} {d : Bool} {a : Deed} {n : StepLabel} {branches' : Trees} → OneMoves Anyway w i branches d a n branches' →
        (bodies : Bodies) (l : Label) (at : Source) (so stood : Bool) (g : Place) → AllFitGraph w i branches bodies stood g →
        ((n m : Node) → BesideEach bodies n m → g.links n m) →
        OneMoves Unmet w i branches d a n branches' ⊎ OneBlocked w i branches a n (EdgeEach bodies l at so) g.links
    one_free (first move met) Last l at so stood g lives links = elim lives [ ]
    one_free {i = i} {a = a} {n = n} (first {others = others} move met) (BodyOf weak body rest) l at so stood g lives links =
        first_free weak body rest l at so stood g move lives.0 lives.2 links (free move (in_branch stood body g) lives.0) (any_meets w i others a) refl
    one_free (later move met) Last l at so stood g lives links = elim lives [ ]
    one_free {i = i} {a = a} (later {c = c} move met) (BodyOf weak body rest) l at so stood g lives links =
        later_free weak body rest l at so stood g move lives.0 lives.2 links
        (one_free move rest l at so stood g lives.2 (λ n m h. links n m (inr (inr (inr h))))) (meets w i c a) refl

pub acts_or_waits : InstantsPass → WritersAreReached → SoonIsSurface → ActsOrWaits
acts_or_waits pass reach surfaces w i stood body c d a n c' live move = free pass reach surfaces move (whole stood body) live
