-- What could act keeps a tree at its place.
use Rattle.std.proofs.Common.{◌≡◌, ℕ, Bool, true, false, ◌⊎◌, inl, inr, refl, sym, subst}
use Rattle.bl_tree.specs.declared.place.Place.{Place as Source}
use Rattle.bl_tree.specs.declared.tree.Expr.{Expr}
use Rattle.bl_tree.specs.declared.tree.Guard.{Guard as GuardKind}
use Rattle.bl_tree.specs.declared.tree.Guard.TheVariants.{Abort, Reset}
use Rattle.bl_graph_nodes.specs.Nodes.{DepthEndAt, ForkAt, HeadAt, Node, StartAt, SurfaceEndAt, TestAt, are_instant, entry, is_instant}
use Rattle.bl_graph_nodes.specs.Plain.{Act, Again, Block, Bodies, Body as BodyOf, Cobegin, Done, Label, Last, Plain, Repeat, Run as RunOf, Then, When, While}
use Rattle.bl_graph_nodes.specs.Plain.{is_empty, plain_body}
use Rattle.bl_graph_nodes.specs.Steps.{StepLabel, end_node, join_node, run_node}
use Rattle.bl_graph.specs.Edges.{BodyEnd, EdgeAll, Entry, Guarded, In, Into, OutAll}
use Rattle.bl_graph.specs.Laws.{InstantsPass, WayThroughAll}
use Rattle.bl_graph.specs.Walks.{After, Walk, on, stay}
use Rattle.bl_graph.proofs.Passing.{joins_at_once}
use Rattle.bl_graph.proofs.Walking.{walk_more}
use Rattle.bl_ctree.specs.Control.{Check, Body}
use Rattle.bl_ctree.specs.Instances.{Setting}
use Rattle.bl_ctree_laws.specs.Pending.{Deed, may_end}
use Rattle.bl_ctree_laws.specs.Shrinks.{EndsShrink, Paces}
use Rattle.bl_ctree_laws.specs.Steps.{Anyway, Moves, OneMoves, acts, takes, passes, pauses, runs, repeats, repeats_until, leaves, turns, enters, skips, forks}
use Rattle.bl_ctree_laws.specs.Steps.{guards, goes_on, waits, lets, aborts, resets, guard_ends, copies, run_ends, joins, in_seq, in_par, in_guard, in_run}
use Rattle.bl_ctree_laws.specs.Steps.{first, later, fork, turn, watch}
use Rattle.bl_ctree_laws.specs.Trees.{Tree, Trees, Watch, Nil, Wait, Test, Idle, Do, Seq, Par, Guard, Run, trees_begun, beside, do_block, is_nil, no_tree, seq}
use Rattle.bl_ctree_laws_traces.specs.Progress.Laws.{StepsKeepFitsGraph}
use Rattle.bl_ctree_laws_traces.specs.Progress.FitsGraph.{AllFitGraph, CheckFitsGraph, FitsGraph, check_of, test_of}
use Rattle.bl_ctree_laws_traces.specs.Progress.Places.{AllCallable, AreSubgraphs, IsSubgraph, Place, ahead_of, guarded, in_branch, later_on, whole}
use Rattle.bl_ctree_laws_traces.proofs.OnProgress.Acting.{region}
use Rattle.bl_ctree_laws_traces.proofs.OnProgress.Beginning.{Closed, again_fits, begun_live, body_lives, depth_reached, do_lives, else_fits, fits_join}
use Rattle.bl_ctree_laws_traces.proofs.OnProgress.Beginning.{nil_is_empty, repeat_body, seq_lives, seq_unended, surface_reached, then_fits, turn_begins}
use Rattle.bl_ctree_laws_traces.proofs.OnProgress.Beginning.{turn_unended, until_body, until_fits, walks_stay, watch_fits, while_body}
use Rattle.bl_ctree_laws_traces.proofs.OnProgress.Leading.{body_walk, end_out, in_on, join_out, one_on, run_out, way_out}
use Rattle.bl_ctree_laws.proofs.Less.{done_join}

-- ---- more nodes may act

abbrev pub with_now : Place → (Node → Type 0) → Place
with_now g now' = record { links = g.links; edges = g.edges; out = g.out; now = now'; deep = g.deep }

module _ (w : Setting) where
  mutual
    pub more_now : (c : Tree) (i : ℕ) (g : Place) (now' : Node → Type 0) → ((n : Node) → g.now n → now' n) → FitsGraph w i c g →
        FitsGraph w i c (with_now g now')
    more_now Nil i g now' more live = tt
    more_now (Wait s) i g now' more live = live
    more_now (Test s) i g now' more live = (live.0, live.1, more (test_of s) live.2)
    more_now (Idle body) i g now' more live = elim live [ ]
    more_now (Do s) i g now' more live =
        (record { edges = live.0.edges; outs = live.0.outs; resumes = live.0.resumes; beside = live.0.beside; calls = live.0.calls }, more (entry s) live.1)
    more_now (Seq c Done) i g now' more live = elim live [ ]
    more_now (Seq c (Then s rest)) i g now' more live = (
      more_now c i (ahead_of (entry s) g) now' more live.0,
      record {
        fits = record {
          edges = live.1.fits.edges;
          outs = live.1.fits.outs;
          resumes = live.1.fits.resumes;
          beside = live.1.fits.beside;
          calls = live.1.fits.calls;
        };
        unended = live.1.unended;
      },
    )
    more_now (Par s stood branches) i g now' more live = (
      same_lives branches i s.bodies stood g now' live.0,
      record {
        fits = record {
          edges = live.1.fits.edges;
          outs = live.1.fits.outs;
          resumes = live.1.fits.resumes;
          beside = live.1.fits.beside;
          calls = live.1.fits.calls;
        };
        holds = record { now = λ n h. more n (live.1.holds.now n h); deep = live.1.holds.deep };
        joins = λ e. ((live.1.joins e).0, more _ (live.1.joins e).1);
      },
    )
    more_now (Guard s Body stood c) i g now' more live = (
      more_now c i (guarded s g) now' more live.0,
      record {
        fits = record {
          edges = live.1.fits.edges;
          outs = live.1.fits.outs;
          resumes = live.1.fits.resumes;
          beside = live.1.fits.beside;
          calls = live.1.fits.calls;
        };
        closes = λ e. ((live.1.closes e).0, more _ (live.1.closes e).1);
      },
    )
    more_now (Guard s Check stood c) i g now' more live = (
      live.0,
      record {
        fits = record {
          edges = live.1.fits.edges;
          outs = live.1.fits.outs;
          resumes = live.1.fits.resumes;
          beside = live.1.fits.beside;
          calls = live.1.fits.calls;
        };
        has_stood = live.1.has_stood;
        checks = more (check_of s) live.1.checks;
        unended = live.1.unended;
      },
    )
    more_now (Run s callee Body stood c) i g now' more live = (
      live.0,
      live.1,
      record {
        fits = record {
          edges = live.2.fits.edges;
          outs = live.2.fits.outs;
          resumes = live.2.fits.resumes;
          beside = live.2.fits.beside;
          calls = live.2.fits.calls;
        };
        called = live.2.called;
        is = live.2.is;
        now = more _ live.2.now;
        stays = live.2.stays;
      },
    )
    more_now (Run s callee Check stood c) i g now' more live = (
      live.0,
      live.1,
      record {
        fits = record {
          edges = live.2.fits.edges;
          outs = live.2.fits.outs;
          resumes = live.2.fits.resumes;
          beside = live.2.fits.beside;
          calls = live.2.fits.calls;
        };
        called = live.2.called;
        is = live.2.is;
        now = more _ live.2.now;
        has_stood = live.2.has_stood;
        unended = live.2.unended;
      },
    )

    same_lives : (branches : Trees) (i : ℕ) (bodies : Bodies) (stood : Bool) (g : Place) (now' : Node → Type 0) → AllFitGraph w i branches bodies stood g →
        AllFitGraph w i branches bodies stood (with_now g now')
    same_lives no_tree i Last stood g now' lives = tt
    same_lives no_tree i (BodyOf weak body rest) stood g now' lives = elim lives [ ]
    same_lives (beside weak c rest) i Last stood g now' lives = elim lives [ ]
    same_lives (beside weak c rest) i (BodyOf weak' body bodies) stood g now' lives =
        (lives.0, lives.1, same_lives rest i bodies stood g now' lives.2)

-- ---- what a step leaves

-- a node that may act and leads out
pub record Exit (g : Place) : Type 0 where
  pub node : Node
  pub now : g.now node
  pub out : g.out node

-- a tree at its place; one that has ended was left by a node that leads out
pub record Kept (w : Setting) (i : ℕ) (c : Tree) (g : Place) : Type 0 where
  pub lives : FitsGraph w i c g
  pub exits : is_nil c ≡ true → Exit g

-- ended
left_by : {w : Setting} {i : ℕ} (g : Place) (n : Node) → g.now n → g.out n → Kept w i Nil g
left_by g n now out = record { lives = tt; exits = λ e. record { node = n; now = now; out = out } }

-- an arm
arm_kept : {w : Setting} {i : ℕ} (body : Block) (g : Place) (n : Node) → AreSubgraphs w i body g → g.now n → Closed g.edges g.now →
    ((m : Node) → Entry body m → g.edges n m) → (is_empty body ≡ true → g.out n) → Kept w i (do_block body) g
arm_kept body g n fits now closed edges out = record {
  lives = do_lives body g fits (λ m h. closed n m now (edges m h));
  exits = λ e. record { node = n; now = now; out = out (nil_is_empty body e) };
}

-- a turn
turn_kept : {w : Setting} {i : ℕ} (body : Block) (next : Plain) (g : Place) (n : Node) → AreSubgraphs w i body (ahead_of (entry next) g) → IsSubgraph w i next g →
    g.now n → Closed g.edges g.now → ((m : Node) → Into body (λ k. k ≡ entry next) m → g.edges n m) → Kept w i (do_block (turn body next)) g
turn_kept body next g n fits last now closed edges = record {
  lives = do_lives (turn body next) g (fits_join body next g fits last) (λ m h. closed n m now (edges m (turn_begins body next m h)));
  exits = λ e. absurd (cc (turn_unended body next));
}

-- edges stay in a part of a branch
pub part_closed : (stood : Bool) (body : Block) → Closed (EdgeAll body) (In stood body)
part_closed stood body n m inside edge = in_on stood body inside (on n m m edge (stay m))

-- ---- bodies of `when`

pub after_closed : {E : Node → Node → Type 0} {n : Node} → Closed E (After E n)
after_closed m k after edge = record { by = after.by; edge = after.edge; rest = one_on after.rest edge }

-- from the start of a `when` whose body may end at once to its end
start_ends : (s : Watch) (E : Node → Node → Type 0) → ((n m : Node) → EdgeAll s.body n m → E n m) →
    ((m : Node) → Into s.body (BodyEnd s.label s.place s.body) m → E (StartAt s.label s.place) m) →
    ((n m : Node) → OutAll s.body n → BodyEnd s.label s.place s.body m → E n m) → are_instant s.body ≡ true →
    (is_empty s.body ≡ true) ⊎ WayThroughAll s.body → Walk E (StartAt s.label s.place) (SurfaceEndAt s.label s.place)
start_ends s E inside begins ends instant (inl empty) = one_on (stay (StartAt s.label s.place)) (begins _ (inr (empty, inl (instant, refl))))
start_ends s E inside begins ends instant (inr way) =
    on (StartAt s.label s.place) way.is_reached.from (SurfaceEndAt s.label s.place) (begins _ (inl way.is_reached.begins))
    (one_on (walk_more inside way.is_reached.walk) (ends _ _ way.leads_on (inl (instant, refl))))

-- what may end of a body leads to the end of its `when`
body_ends : (w : Setting) (i : ℕ) (pass : InstantsPass) (s : Watch) (c : Tree) (g : Place) → FitsGraph w i c (guarded s g) → Closed g.edges g.now →
    may_end c ≡ true → (is_nil c ≡ true → g.now (DepthEndAt s.label s.place)) → g.now (DepthEndAt s.label s.place)
body_ends w i pass s c g live closed ends ended = elim (way_out pass c i (guarded s g) live ends) [
  | inl nil ↦ ended nil
  | inr leads ↦ walks_stay closed (region leads.could.moves (guarded s g) live) (one_on leads.walk leads.leads.1)
]

-- a reset begins the body anew
anew_kept : {w : Setting} {i : ℕ} (pass : InstantsPass) (s : Watch) (stood : Bool) (c : Tree) (g : Place) → CheckFitsGraph w i s stood (is_nil c) g →
    Closed g.edges g.now → s.guard ≡ Reset → Kept w i (Guard s Body stood (do_block s.body)) g
anew_kept {w = w} {i = i} pass s stood c g has closed is =
    let into : (m : Node) → Into s.body (BodyEnd s.label s.place s.body) m → g.now m =
    λ m h. closed (check_of s) m has.checks (has.fits.edges _ _
    (inr (inr (inr (inl (refl, subst (λ k. Guarded k s.label s.place s.body m) (sym is) h)))))) in
    let live : FitsGraph w i (do_block s.body) (guarded s g) = do_lives s.body (guarded s g) (watch_fits s g has.fits) (λ m h. into m (inl h)) in
    record {
      lives = (
        live,
        record {
          fits = has.fits;
          closes = λ e. (
            (λ not_stood. absurd (cc (has.has_stood, not_stood))),
            subst (λ b. g.now (end_node b s.label s.place)) (sym has.has_stood)
                (body_ends w i pass s (do_block s.body) g live closed e (λ nil. into _ (inr (nil_is_empty s.body nil, inr refl)))),
          );
        },
      );
      exits = λ e. absurd (cc (e));
    }

-- a check that is false lets the body go on
lets_kept : {w : Setting} {i : ℕ} (pass : InstantsPass) (s : Watch) (stood : Bool) (c : Tree) (g : Place) → FitsGraph w i c (later_on (guarded s g)) →
    CheckFitsGraph w i s stood (is_nil c) g → Closed g.edges g.now → Kept w i (Guard s Body stood c) g
lets_kept {w = w} {i = i} pass s stood c g live has closed = record {
  lives = (
    more_now w c i (later_on (guarded s g)) g.now (λ n after. walks_stay closed has.checks (on (check_of s) after.by n after.edge after.rest)) live,
    record {
      fits = has.fits;
      closes = λ e. (
        (λ not_stood. absurd (cc (has.has_stood, not_stood))),
        subst (λ b. g.now (end_node b s.label s.place)) (sym has.has_stood)
            (walks_stay closed has.checks (body_walk w i s c g live has.unended (way_out pass c i (later_on (guarded s g)) live e))),
      );
    },
  );
  exits = λ e. absurd (cc (e));
}

aborts_kept : {w : Setting} {i : ℕ} (s : Watch) (stood nil : Bool) (g : Place) → CheckFitsGraph w i s stood nil g → Closed g.edges g.now →
    s.guard ≡ Abort →
    Kept w i Nil g
aborts_kept s stood nil g has closed is = left_by g (DepthEndAt s.label s.place)
    (closed (check_of s) _ has.checks (has.fits.edges _ _
    (inr (inr (inr (inl (refl, subst (λ k. Guarded k s.label s.place s.body (DepthEndAt s.label s.place)) (sym is) refl)))))))
    (has.fits.outs _ (inr refl))

module _ {w : Setting} (pass : InstantsPass) (shrink : EndsShrink) (pace : Paces w) (all : AllCallable w) where
  -- a `when` begins
  guards_kept : {i : ℕ} (l : Label) (at : Source) (guard : GuardKind) (e : Expr) (body : Block) (g : Place) → IsSubgraph w i (When l at guard e body) g →
      g.now (StartAt l at) → Closed g.edges g.now → Kept w i (Guard (watch l at guard e body) Body false (do_block body)) g
  guards_kept {i = i} l at guard e body g fits now closed = record {
    lives = (
      do_lives body (guarded (watch l at guard e body) g) (watch_fits (watch l at guard e body) g fits)
          (λ m h. closed (StartAt l at) m now (fits.edges _ _ (inr (inl (refl, inl h))))),
      record {
        fits = fits;
        closes = λ ends.
            let instant : are_instant body ≡ true =
            shrink w i (Do (When l at guard e body)) true _ _ (Guard (watch l at guard e body) Body false (do_block body)) pace guards ends in (
              (λ h. instant),
              walks_stay closed now (start_ends (watch l at guard e body) g.edges (λ n m h. fits.edges n m (inl h))
                  (λ m h. fits.edges _ m (inr (inl (refl, h)))) (λ n m h k. fits.edges n m (inr (inr (inr (inr (h, k)))))) instant
                  (pass.blocks body instant)),
            );
      },
    );
    exits = λ ended. absurd (cc (ended));
  }

  -- the branches of a `cobegin` begin
  forks_kept : {i : ℕ} (l : Label) (at : Source) (bodies : Bodies) (g : Place) → IsSubgraph w i (Cobegin l at bodies) g → g.now (ForkAt l at) →
      Closed g.edges g.now → Closed g.edges g.deep → Kept w i (Par (fork l at bodies) false (trees_begun bodies)) g
  forks_kept {i = i} l at bodies g fits now closed deep = record {
    lives = (
      begun_live w i bodies g fits.beside fits.calls,
      record {
        fits = fits;
        holds = record {
          now = λ n h. walks_stay closed now (walk_more fits.edges (surface_reached bodies l at (is_instant (Cobegin l at bodies)) n h));
          deep = λ n h.
              let reached = depth_reached bodies l at (is_instant (Cobegin l at bodies)) n h in
              walks_stay deep (fits.resumes reached.from reached.begins) (walk_more fits.edges reached.walk);
        };
        joins = λ ends.
            let instant : is_instant (Cobegin l at bodies) ≡ true =
            shrink w i (Do (Cobegin l at bodies)) true _ _ (Par (fork l at bodies) false (trees_begun bodies)) pace forks ends in
            ((λ h. instant), walks_stay closed now (walk_more fits.edges (joins_at_once l at bodies instant)));
      },
    );
    exits = λ ended. absurd (cc (ended));
  }

  -- what stands before a block has ended, so the block begins
  seq_kept : {i : ℕ} (c' : Tree) (s : Plain) (rest : Block) (g : Place) → AreSubgraphs w i (Then s rest) g → Closed g.edges g.now →
      Kept w i c' (ahead_of (entry s) g) → Kept w i (seq c' (Then s rest)) g
  seq_kept c' s rest g fits closed kept = record {
    lives = seq_lives c' s rest g kept.lives fits (λ nil. let exit = kept.exits nil in closed exit.node (entry s) exit.now exit.out);
    exits = λ e. absurd (cc (e, seq_unended c' s rest));
  }

  mutual
    pub kept : {i : ℕ} {c : Tree} {d : Bool} {a : Deed} {n : StepLabel} {c' : Tree} → Moves Anyway w i c d a n c' → (g : Place) → FitsGraph w i c g →
        Closed g.edges g.now → Closed g.edges g.deep → Kept w i c' g
    kept (acts {l = l} {s = s}) g live closed deep = left_by g (entry (Act l s)) live.1 (live.0.outs _ refl)
    kept (takes {l = l} {at = at} {e = e} {body = body} {other = other}) g live closed deep =
        arm_kept body g (TestAt l at e) (then_fits l at e body other g live.0) live.1 closed (λ m h. live.0.edges _ _ (inr (inr (refl, inl h))))
        (λ empty. live.0.outs _ (inr (inr (inl empty, refl))))
    kept (passes {l = l} {at = at} {e = e} {body = body} {other = other}) g live closed deep =
        arm_kept other g (TestAt l at e) (else_fits l at e body other g live.0) live.1 closed (λ m h. live.0.edges _ _ (inr (inr (refl, inr h))))
        (λ empty. live.0.outs _ (inr (inr (inr empty, refl))))
    kept pauses g live closed deep = record { lives = (live.0.outs _ refl, live.0.resumes _ refl); exits = λ e. absurd (cc (e)) }
    kept {i = i} (runs {l = l} {at = at} {target = target} {a = a} {inputs = inputs} {outputs = outputs} {callee = callee} {unit = unit} here there)
        g live closed deep = record {
          lives = (
            unit,
            body_lives w callee all unit there,
            record {
              fits = live.0;
              called = here;
              is = there;
              now = live.1;
              stays = λ ends. absurd (cc (shrink w i (Do (RunOf l at target a inputs outputs)) true _ _ _ pace (runs here there) ends));
            },
          );
          exits = λ e. absurd (cc (e));
        }
    kept (repeats {l = l} {at = at} {body = body}) g live closed deep =
        turn_kept body (Repeat l at body) g (HeadAt l at) (repeat_body l at body g live.0) live.0 live.1 closed
        (λ m h. live.0.edges _ _ (inr (inl (refl, h))))
    kept (repeats_until {l = l} {at = at} {body = body} {e = e}) g live closed deep =
        turn_kept body (Again l at body e) g (HeadAt l at) (until_body l at body e g live.0) (again_fits l at body e g live.0) live.1 closed
        (λ m h. live.0.edges _ _ (inr (inl (inl (refl, h)))))
    kept (leaves {l = l} {at = at} {e = e}) g live closed deep = left_by g (TestAt l at e) live.1 (live.0.outs _ refl)
    kept (turns {l = l} {at = at} {body = body} {e = e}) g live closed deep = record {
      lives = (until_fits l at body e g live.0, closed _ _ live.1 (live.0.edges _ _ (inr (inr (refl, refl)))));
      exits = λ ended. absurd (cc (ended));
    }
    kept (enters {l = l} {at = at} {e = e} {body = body}) g live closed deep =
        turn_kept body (While l at e body) g (TestAt l at e) (while_body l at e body g live.0) live.0 live.1 closed
        (λ m h. live.0.edges _ _ (inr (inl (refl, h))))
    kept (skips {l = l} {at = at} {e = e}) g live closed deep = left_by g (TestAt l at e) live.1 (live.0.outs _ refl)
    kept (forks {l = l} {at = at} {bodies = bodies}) g live closed deep = forks_kept l at bodies g live.0 live.1 closed deep
    kept (guards {l = l} {at = at} {guard = guard} {e = e} {body = body}) g live closed deep = guards_kept l at guard e body g live.0 live.1 closed
    kept (goes_on {s = s}) g live closed deep = left_by g (test_of s) live.2 live.0
    kept waits g live closed deep = record { lives = (live.0, live.1); exits = λ e. absurd (cc (e)) }
    kept (lets {s = s} {stood = stood} {c = c}) g live closed deep = lets_kept pass s stood c g live.0 live.1 closed
    kept (aborts {s = s} {stood = stood} {c = c} is) g live closed deep = aborts_kept s stood (is_nil c) g live.1 closed is
    kept (resets {s = s} {stood = stood} {c = c} is) g live closed deep = anew_kept pass s stood c g live.1 closed is
    kept (guard_ends {s = s} {stood = stood}) g live closed deep =
        left_by g (end_node stood s.label s.place) (live.1.closes refl).1 (live.1.fits.outs _ (end_out s stood (live.1.closes refl).0))
    kept copies g live closed deep = record {
      lives = (live.0, live.1, record { fits = live.2.fits; called = live.2.called; is = live.2.is; now = live.2.now; stays = λ e. live.2.has_stood });
      exits = λ e. absurd (cc (e));
    }
    kept {i = i} (run_ends {s = s} {stood = stood}) g live closed deep =
        left_by g (run_node stood s.label s.place s.arguments) live.2.now (run_out w i s stood g live.2.fits (live.2.stays refl))
    kept (joins {s = s} {stood = stood} {branches = branches} still done) g live closed deep =
        let ends = live.1.joins (done_join branches done) in
        left_by g (join_node stood s.label s.place) ends.1 (live.1.fits.outs _ (join_out s.label s.place s.bodies stood ends.0))
    kept (in_seq {rest = Done} move) g live closed deep = elim live [ ]
    kept (in_seq {rest = Then s rest} {c' = c'} move) g live closed deep =
        seq_kept c' s rest g live.1.fits closed (kept move (ahead_of (entry s) g) live.0 closed deep)
    kept {i = i} (in_par {s = s} {stood = stood} {branches = branches} {branches' = branches'} move) g live closed deep = record {
      lives = (
        ones_kept move s.bodies stood g live.0,
        record {
          fits = live.1.fits;
          holds = live.1.holds;
          joins = λ ends. live.1.joins (shrink w i (Par s stood branches) _ _ _ (Par s stood branches') pace (in_par move) ends);
        },
      );
      exits = λ e. absurd (cc (e));
    }
    kept {i = i} (in_guard {s = s} {stood = stood} {c = c} {c' = c'} move) g live closed deep = record {
      lives = (
        (kept move (guarded s g) live.0 closed after_closed).lives,
        record { fits = live.1.fits; closes = λ ends. live.1.closes (shrink w i c _ _ _ c' pace move ends) },
      );
      exits = λ e. absurd (cc (e));
    }
    kept (in_run {s = s} {callee = callee} {stood = stood} {c = c} {c' = c'} move) g live closed deep = record {
      lives = (
        live.0,
        (kept move (whole stood (plain_body live.0.body)) live.1 (part_closed stood (plain_body live.0.body))
            (part_closed true (plain_body live.0.body))).lives,
        record {
          fits = live.2.fits;
          called = live.2.called;
          is = live.2.is;
          now = live.2.now;
          stays = λ ends. live.2.stays (shrink w callee c _ _ _ c' pace move ends);
        },
      );
      exits = λ e. absurd (cc (e));
    }

    ones_kept : {i : ℕ} {branches : Trees} {d : Bool} {a : Deed} {n : StepLabel} {branches' : Trees} → OneMoves Anyway w i branches d a n branches' →
        (bodies : Bodies) (stood : Bool) (g : Place) → AllFitGraph w i branches bodies stood g → AllFitGraph w i branches' bodies stood g
    ones_kept (first move free) Last stood g lives = elim lives [ ]
    ones_kept (first move free) (BodyOf weak body rest) stood g lives = (
      (kept move (in_branch stood body g) lives.0 (part_closed stood body) (part_closed true body)).lives,
      lives.1,
      lives.2,
    )
    ones_kept (later move free) Last stood g lives = elim lives [ ]
    ones_kept (later move free) (BodyOf weak body rest) stood g lives = (lives.0, lives.1, ones_kept move rest stood g lives.2)

pub steps_keep_fits_graph : InstantsPass → EndsShrink → StepsKeepFitsGraph
steps_keep_fits_graph pass shrink w i stood body c d a n c' pace all live move =
    (kept pass shrink pace all move (whole stood body) live (part_closed stood body) (part_closed true body)).lives
