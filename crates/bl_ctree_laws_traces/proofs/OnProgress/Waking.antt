-- Waking keeps a settled tree at its place, in the next tick.
use Rattle.std.proofs.Common.{◌≡◌, ℕ, Bool, true, false, not, ◌&&◌, ◌||◌, cond, ◌⊎◌, inl, inr, refl, ap, ◌∙◌, subst}
use Rattle.std.proofs.lemmas.Bool.{not-true}
use Rattle.bl_graph_nodes.specs.Nodes.{DepthJoinAt, entry, is_instant}
use Rattle.bl_graph_nodes.specs.Plain.{Bodies, Body as BodyOf, Cobegin, Done, Last, Then, plain_body}
use Rattle.bl_graph.specs.Edges.{EdgeEach}
use Rattle.bl_graph.specs.Laws.{InstantsPass}
use Rattle.bl_graph.proofs.Walking.{walk_more}
use Rattle.bl_graph.proofs.Passing.{both_are}
use Rattle.bl_ctree.specs.Control.{Check, Body}
use Rattle.bl_ctree.specs.Instances.{Setting}
use Rattle.bl_ctree_laws.specs.Trees.{Fork, Tree, Trees, Nil, Wait, Test, Idle, Do, Seq, Par, Guard, Run, all_woken, are_done, are_settled, beside, has_strong}
use Rattle.bl_ctree_laws.specs.Trees.{is_nil, is_settled, no_tree, some_ended, strong_ended, woken}
use Rattle.bl_ctree_laws_traces.specs.Progress.Laws.{WakingKeepsFitsGraph}
use Rattle.bl_ctree_laws_traces.specs.Progress.FitsGraph.{AllFitGraph, FitsGraph, ForkFitsGraph}
use Rattle.bl_ctree_laws_traces.specs.Progress.Places.{Place, ahead_of, guarded, in_branch, later_on, whole}
use Rattle.bl_ctree_laws_traces.proofs.OnProgress.Acting.{one_region}
use Rattle.bl_ctree_laws_traces.proofs.OnProgress.Beginning.{Closed, walks_stay}
use Rattle.bl_ctree_laws_traces.proofs.OnProgress.Keeping.{after_closed, part_closed}
use Rattle.bl_ctree_laws_traces.proofs.OnProgress.Leading.{Ended, OneLeads, ways_out}

-- ---- waking ends nothing

module _ (w : Setting) where
  woken_nil : (c : Tree) (i : ℕ) (g : Place) → FitsGraph w i c g → is_nil (woken c) ≡ is_nil c
  woken_nil Nil i g live = refl
  woken_nil (Wait s) i g live = refl
  woken_nil (Test s) i g live = refl
  woken_nil (Idle body) i g live = elim live [ ]
  woken_nil (Do s) i g live = refl
  woken_nil (Seq c rest) i g live = refl
  woken_nil (Par s stood branches) i g live = refl
  woken_nil (Guard s phase stood c) i g live = refl
  woken_nil (Run s callee phase stood c) i g live = refl

  woken_strong : (branches : Trees) → has_strong (all_woken branches) ≡ has_strong branches
  woken_strong no_tree = refl
  woken_strong (beside weak c rest) = ap (λ b. not weak || b) (woken_strong rest)

  woken_strong_ended : (branches : Trees) (i : ℕ) (bodies : Bodies) (stood : Bool) (g : Place) → AllFitGraph w i branches bodies stood g →
      strong_ended (all_woken branches) ≡ strong_ended branches
  woken_strong_ended no_tree i bodies stood g lives = refl
  woken_strong_ended (beside weak c rest) i Last stood g lives = elim lives [ ]
  woken_strong_ended (beside weak c rest) i (BodyOf weak' body bodies) stood g lives =
      ap (λ b. (weak || b) && strong_ended (all_woken rest)) (woken_nil c i (in_branch stood body g) lives.0)
      ∙ ap (λ b. (weak || is_nil c) && b) (woken_strong_ended rest i bodies stood g lives.2)

  woken_some_ended : (branches : Trees) (i : ℕ) (bodies : Bodies) (stood : Bool) (g : Place) → AllFitGraph w i branches bodies stood g →
      some_ended (all_woken branches) ≡ some_ended branches
  woken_some_ended no_tree i bodies stood g lives = refl
  woken_some_ended (beside weak c rest) i Last stood g lives = elim lives [ ]
  woken_some_ended (beside weak c rest) i (BodyOf weak' body bodies) stood g lives =
      ap (λ b. b || some_ended (all_woken rest)) (woken_nil c i (in_branch stood body g) lives.0)
      ∙ ap (λ b. is_nil c || b) (woken_some_ended rest i bodies stood g lives.2)

  woken_done : (branches : Trees) (i : ℕ) (bodies : Bodies) (stood : Bool) (g : Place) → AllFitGraph w i branches bodies stood g →
      are_done (all_woken branches) ≡ are_done branches
  woken_done branches i bodies stood g lives =
      ap (λ b. cond b (strong_ended (all_woken branches)) (some_ended (all_woken branches))) (woken_strong branches)
      ∙ ap (λ b. cond (has_strong branches) b (some_ended (all_woken branches))) (woken_strong_ended branches i bodies stood g lives)
      ∙ ap (λ b. cond (has_strong branches) (strong_ended branches) b) (woken_some_ended branches i bodies stood g lives)

  -- the depth join of a `cobegin` that may end in the next tick is one of its depth
  depth_join : (i : ℕ) (s : Fork) (stood ends : Bool) (branches : Trees) (g : Place) → ForkFitsGraph w i s stood ends g → Closed g.edges g.deep →
      AllFitGraph w i branches s.bodies true (later_on g) → are_done branches ≡ false →
      Ended (has_strong branches) branches ⊎ OneLeads w i branches (EdgeEach s.bodies s.label s.place (is_instant (Cobegin s.label s.place s.bodies)))
      (λ n. n ≡ DepthJoinAt s.label s.place) → g.deep (DepthJoinAt s.label s.place)
  depth_join i s stood ends branches g has closed lives unended (inl done) = absurd (cc (done, unended))
  depth_join i s stood ends branches g has closed lives unended (inr one) =
      subst g.deep one.leads
      (walks_stay closed (has.holds.deep _ (one_region one.could.moves s.bodies true (later_on g) lives)) (walk_more has.fits.edges one.walk))

  module _ (pass : InstantsPass) where
    mutual
      pub wakes : (c : Tree) (i : ℕ) (g : Place) → is_settled c ≡ true → FitsGraph w i c g → Closed g.edges g.deep → FitsGraph w i (woken c) (later_on g)
      wakes Nil i g settled live closed = tt
      wakes (Wait s) i g settled live closed = (live.0, live.1, live.1)
      wakes (Test s) i g settled live closed = absurd cc
      wakes (Idle body) i g settled live closed = elim live [ ]
      wakes (Do s) i g settled live closed = absurd cc
      wakes (Seq c Done) i g settled live closed = elim live [ ]
      wakes (Seq c (Then s rest)) i g settled live closed = (
        wakes c i (ahead_of (entry s) g) settled live.0 closed,
        record {
          fits = record {
            edges = live.1.fits.edges;
            outs = live.1.fits.outs;
            resumes = live.1.fits.resumes;
            beside = live.1.fits.beside;
            calls = live.1.fits.calls;
          };
          unended = woken_nil c i (ahead_of (entry s) g) live.0 ∙ live.1.unended;
        },
      )
      wakes (Par s stood branches) i g settled live closed =
          let both = both_are (are_settled branches) (not (are_done branches)) settled in
          let lives : AllFitGraph w i (all_woken branches) s.bodies true (later_on g) = wake_all branches i s.bodies stood g both.0 live.0 in (
            lives,
            record {
              fits = record {
                edges = live.1.fits.edges;
                outs = live.1.fits.outs;
                resumes = live.1.fits.resumes;
                beside = live.1.fits.beside;
                calls = live.1.fits.calls;
              };
              holds = record { now = live.1.holds.deep; deep = live.1.holds.deep };
              joins = λ e. (
                (λ not_stood. absurd (cc (not_stood))),
                depth_join i s stood _ (all_woken branches) g live.1 closed lives
                    (woken_done branches i s.bodies stood g live.0 ∙ not-true (are_done branches) both.1)
                    (ways_out pass (all_woken branches) i s.bodies (has_strong (all_woken branches)) s.label s.place
                    (is_instant (Cobegin s.label s.place s.bodies)) true (later_on g) lives (λ not_stood. absurd (cc (not_stood))) e),
              );
            },
          )
      wakes (Guard s Check stood c) i g settled live closed = absurd cc
      wakes (Guard s Body stood c) i g settled live closed =
          let both = both_are (is_settled c) (not (is_nil c)) settled in (
            wakes c i (guarded s g) both.0 live.0 after_closed,
            record {
              fits = record {
                edges = live.1.fits.edges;
                outs = live.1.fits.outs;
                resumes = live.1.fits.resumes;
                beside = live.1.fits.beside;
                calls = live.1.fits.calls;
              };
              has_stood = refl;
              checks = live.1.fits.resumes _ refl;
              unended = woken_nil c i (guarded s g) live.0 ∙ not-true (is_nil c) both.1;
            },
          )
      wakes (Run s callee Check stood c) i g settled live closed = absurd cc
      wakes (Run s callee Body stood c) i g settled live closed =
          let both = both_are (is_settled c) (not (is_nil c)) settled in (
            live.0,
            wakes c callee (whole stood (plain_body live.0.body)) both.0 live.1 (part_closed true (plain_body live.0.body)),
            record {
              fits = record {
                edges = live.2.fits.edges;
                outs = live.2.fits.outs;
                resumes = live.2.fits.resumes;
                beside = live.2.fits.beside;
                calls = live.2.fits.calls;
              };
              called = live.2.called;
              is = live.2.is;
              now = live.2.fits.resumes _ refl;
              has_stood = refl;
              unended = woken_nil c callee (whole stood (plain_body live.0.body)) live.1 ∙ not-true (is_nil c) both.1;
            },
          )

      wake_all : (branches : Trees) (i : ℕ) (bodies : Bodies) (stood : Bool) (g : Place) → are_settled branches ≡ true →
          AllFitGraph w i branches bodies stood g → AllFitGraph w i (all_woken branches) bodies true (later_on g)
      wake_all no_tree i Last stood g settled lives = tt
      wake_all no_tree i (BodyOf weak body rest) stood g settled lives = elim lives [ ]
      wake_all (beside weak c rest) i Last stood g settled lives = elim lives [ ]
      wake_all (beside weak c rest) i (BodyOf weak' body bodies) stood g settled lives =
          let both = both_are (is_settled c) (are_settled rest) settled in (
            wakes c i (in_branch stood body g) both.0 lives.0 (part_closed true body),
            lives.1,
            wake_all rest i bodies stood g both.1 lives.2,
          )

pub waking_keeps_fits_graph : InstantsPass → WakingKeepsFitsGraph
waking_keeps_fits_graph pass w i stood body c settled live = wakes w pass c i (whole stood body) settled live (part_closed true body)
