-- A step is one of those that its tree can do, and after it the tree can do no more than before, and not this step again.
use Rattle.std.proofs.Common.{◌≡◌, ℕ, ◌<◌, ◌≤◌, Bool, true, false, [], Some, ◌⊎◌, inl, inr, refl, sym, ap, ◌∙◌, subst, arith}
use Rattle.bl_tree.specs.declared.place.Place.{Place as Source}
use Rattle.bl_tree.specs.declared.tree.Expr.{Expr}
use Rattle.bl_graph_nodes.specs.Nodes.{CheckAt, DepthEndAt, ForkAt, HeadAt, Node, StartAt, SurfaceEndAt, TestAt, are_instant, entry, is_instant, label_of}
use Rattle.bl_graph_nodes.specs.Plain.{Again, Block, Bodies, Cobegin, Label, Plain, Repeat, Body as BodyOf, Done, Last, Then, While, is_empty, plain_body}
use Rattle.bl_graph_nodes.specs.Steps.{Here, Inside, StepLabel, head_of, end_node, join_node, run_node}
use Rattle.bl_graph.specs.DataEdges.{BesideEach}
use Rattle.bl_graph.specs.Edges.{BodyEnd, EdgeAll, EdgeEach, Guarded, In, InEach, Into, OutAll}
use Rattle.bl_graph.specs.Laws.{BranchesPart, InstantsPass, WayThroughAll}
use Rattle.bl_graph.specs.Walks.{After, Reached, Rises, Walk, on, stay}
use Rattle.bl_graph.proofs.Passing.{joins_at_once, through, later as rest_edges}
use Rattle.bl_graph.proofs.Walking.{walk_more}
use Rattle.bl_ctree.specs.Control.{Body}
use Rattle.bl_ctree.specs.Instances.{Setting, unit_at}
use Rattle.bl_ctree_laws.specs.Pending.{Deed, may_end, may_join}
use Rattle.bl_ctree_laws.specs.Shrinks.{EndsShrink, Paces}
use Rattle.bl_ctree_laws.specs.Steps.{Anyway, Moves, OneMoves, acts, takes, passes, pauses, runs, repeats, repeats_until, leaves, turns, enters, skips, forks}
use Rattle.bl_ctree_laws.specs.Steps.{fork, guards, goes_on, waits, watch, lets, aborts, resets, guard_ends, copies, run_ends, joins, in_seq, in_par, in_guard}
use Rattle.bl_ctree_laws.specs.Steps.{in_run, first, later, turn}
use Rattle.bl_ctree_laws.specs.Trees.{Call, Tree, Trees, Watch, Do, Par, Guard, Run, trees_begun, do_block, is_nil}
use Rattle.bl_ctree_laws.proofs.Less.{do_ends}
use Rattle.bl_ctree_laws_traces.specs.Progress.FitsGraph.{AllFitGraph, CheckFitsGraph, FitsGraph, check_of, watch_stmt}
use Rattle.bl_ctree_laws_traces.specs.Progress.Places.{AreSubgraphs, IsSubgraph, Place, ahead_of, guarded, in_branch, later_on, whole}
use Rattle.bl_ctree_laws_traces.proofs.OnProgress.Acting.{one_region, region}
use Rattle.bl_ctree_laws_traces.proofs.OnProgress.Beginning.{again_fits, begun_live, else_fits, fits_join, repeat_body, then_fits, turn_begins, until_body}
use Rattle.bl_ctree_laws_traces.proofs.OnProgress.Beginning.{watch_fits, while_body}
use Rattle.bl_ctree_laws_traces.proofs.OnProgress.Keeping.{after_closed, part_closed}
use Rattle.bl_ctree_laws_traces.proofs.OnProgress.Leading.{body_walk, one_on, to_end, way_out}
use Rattle.bl_ctree_laws_traces.specs.Bounded.Differ.{AllNumbered}
use Rattle.bl_ctree_laws_traces.proofs.OnBounded.Ahead.{Ahead, AheadEach, ahead_now, do_ahead, each_now, seq_ahead}
use Rattle.bl_ctree_laws_traces.proofs.OnBounded.Onward.{Onward, one_onward, one_strong, onward}
use Rattle.bl_ctree_laws.proofs.Less.{done_join}
use Rattle.bl_ctree_laws_traces.proofs.OnBounded.Listed.{some_same}

-- ---- a step is one of those that its tree can do

module _ {w : Setting} where
  mutual
    pub starts_ahead : {i : ℕ} {c : Tree} {d : Bool} {a : Deed} {n : StepLabel} {c' : Tree} → Moves Anyway w i c d a n c' → (g : Place) →
        FitsGraph w i c g →
        Ahead w g.edges c n
    starts_ahead acts g live = stay _
    starts_ahead takes g live = stay _
    starts_ahead passes g live = stay _
    starts_ahead pauses g live = stay _
    starts_ahead (runs at there) g live = stay _
    starts_ahead repeats g live = stay _
    starts_ahead repeats_until g live = stay _
    starts_ahead leaves g live = stay _
    starts_ahead turns g live = stay _
    starts_ahead enters g live = stay _
    starts_ahead skips g live = stay _
    starts_ahead forks g live = stay _
    starts_ahead guards g live = stay _
    starts_ahead goes_on g live = refl
    starts_ahead waits g live = refl
    starts_ahead lets g live = stay _
    starts_ahead (aborts is) g live = stay _
    starts_ahead (resets is) g live = stay _
    starts_ahead guard_ends g live = inr (refl, refl)
    starts_ahead copies g live = refl
    starts_ahead run_ends g live = inr refl
    starts_ahead (joins {branches = branches} still done) g live = inr (done_join branches done, refl)
    starts_ahead (in_seq {rest = Done} move) g live = elim live [ ]
    starts_ahead (in_seq {rest = Then s rest} move) g live = inl (starts_ahead move (ahead_of (entry s) g) live.0)
    starts_ahead (in_par {s = s} {stood = stood} move) g live = inl (one_ahead move s.bodies stood g live.0)
    starts_ahead (in_guard {s = s} move) g live = inl (starts_ahead move (guarded s g) live.0)
    starts_ahead (in_run {stood = stood} {n = n} move) g live =
        inl (live.0, n, live.2.is, refl, starts_ahead move (whole stood (plain_body live.0.body)) live.1)

    pub one_ahead : {i : ℕ} {branches : Trees} {d : Bool} {a : Deed} {n : StepLabel} {branches' : Trees} → OneMoves Anyway w i branches d a n branches' →
        (bodies : Bodies) (stood : Bool) (g : Place) → AllFitGraph w i branches bodies stood g → AheadEach w bodies branches n
    one_ahead (first move free) Last stood g lives = elim lives [ ]
    one_ahead (first move free) (BodyOf weak body rest) stood g lives = inl (starts_ahead move (in_branch stood body g) lives.0)
    one_ahead (later move free) Last stood g lives = elim lives [ ]
    one_ahead (later move free) (BodyOf weak body rest) stood g lives = inr (one_ahead move rest stood g lives.2)

-- ---- numbers along walks

walk_rises : {number : Node → ℕ} {E : Node → Node → Type 0} {n m : Node} → Rises number E → Walk E n m → number n ≤ number m
walk_rises up (stay n) = omega arith
walk_rises up (on n by m edge rest) = let one = up n by edge in let more = walk_rises up rest in omega arith

lesser_differ : (number : Node → ℕ) (n m : StepLabel) → number (head_of n) < number (head_of m) → m ≡ n → ⊥
lesser_differ number n m less is =
    let same : number (head_of m) ≡ number (head_of n) = ap (λ x. number (head_of x)) is in omega arith

-- where edges lead from a step to another, they are two
edges_differ : {number : Node → ℕ} {E : Node → Node → Type 0} {by : Node} (n m : StepLabel) → Rises number E → E (head_of n) by →
    Walk E by (head_of m) →
    m ≡ n → ⊥
edges_differ {number = number} {by = by} n m up edge walk =
    let one = up (head_of n) by edge in
    let more = walk_rises up walk in
    lesser_differ number n m (omega arith)

onward_differ : {number : Node → ℕ} {E : Node → Node → Type 0} {by : Node} (n m : StepLabel) → Rises number E →
    Onward E (λ x. E x by) (head_of n) →
    Walk E by (head_of m) → m ≡ n → ⊥
onward_differ {number = number} {by = by} n m up out walk =
    let before = walk_rises up out.walk in
    let one = up out.end by out.leads in
    let more = walk_rises up walk in
    lesser_differ number n m (omega arith)

-- at the node of a step
at_node : (E : Node → Node → Type 0) (n : Node) (m : StepLabel) → m ≡ Here n → Walk E n (head_of m)
at_node E n m is = subst (λ x. Walk E n (head_of x)) (sym is) (stay n)

-- what a walk from the first node of a step leads to, by at least one edge
record Later (E : Node → Node → Type 0) (n m : StepLabel) : Type 0 where
  walk : Walk E (head_of n) (head_of m)
  differ : m ≡ n → ⊥

by_edge : {number : Node → ℕ} {E : Node → Node → Type 0} {by : Node} (n m : StepLabel) → Rises number E → E (head_of n) by →
    Walk E by (head_of m) →
    Later E n m
by_edge {by = by} n m up edge walk = record { walk = on (head_of n) by (head_of m) edge walk; differ = edges_differ n m up edge walk }

by_reached : {number : Node → ℕ} {E : Node → Node → Type 0} {F : Node → Type 0} (n m : StepLabel) → Rises number E →
    ((k : Node) → F k → E (head_of n) k) →
    Reached F E (head_of m) → Later E n m
by_reached n m up begins reached = by_edge n m up (begins reached.from reached.begins) reached.walk

by_after : {number : Node → ℕ} {E : Node → Node → Type 0} (n m : StepLabel) → Rises number E → After E (head_of n) (head_of m) → Later E n m
by_after n m up after = by_edge n m up after.edge after.rest

-- ---- branches

-- from the fork to what is in a surface
surface_after : (bodies : Bodies) (l : Label) (at : Source) (so : Bool) (n : Node) → InEach false bodies n → After (EdgeEach bodies l at so) (ForkAt l at) n
surface_after Last l at so n h = elim h [ ]
surface_after (BodyOf weak body rest) l at so n (inl here) =
    record { by = here.from; edge = inr (inl (refl, inl here.begins)); rest = walk_more (λ n m h. inl h) here.walk }
surface_after (BodyOf weak body rest) l at so n (inr there) =
    let more = surface_after rest l at so n there in
    record {
      by = more.by;
      edge = rest_edges weak body rest l at so (ForkAt l at) more.by more.edge;
      rest = walk_more (rest_edges weak body rest l at so) more.rest;
    }

-- nodes of two branches
pub crossing : (stood weak : Bool) (body : Block) (rest : Bodies) (n m : Node) → In stood body n → InEach stood rest m →
    BesideEach (BodyOf weak body rest) n m
crossing false weak body rest n m one other = inr (inl (inl (one, other)))
crossing true weak body rest n m one other = inr (inr (inl (inl (one, other))))

-- the positions of nodes that stand in different branches differ
abbrev pub Parted : (Node → Node → Type 0) → Type 0
Parted links = (n m : Node) → links n m → (label_of n).position ≡ (label_of m).position → ⊥

parted_differ : {links : Node → Node → Type 0} (n m : StepLabel) → Parted links → links (head_of n) (head_of m) → m ≡ n → ⊥
parted_differ n m parted link is = parted (head_of n) (head_of m) link (ap (λ x. (label_of (head_of x)).position) (sym is))

differ_parted : {links : Node → Node → Type 0} (n m : StepLabel) → Parted links → links (head_of m) (head_of n) → m ≡ n → ⊥
differ_parted n m parted link is = parted (head_of m) (head_of n) link (ap (λ x. (label_of (head_of x)).position) is)

-- ---- calls

-- what can be done in a call that has its inputs, or to end it, is of its node and is no copying of inputs
in_call : (w : Setting) (E : Node → Node → Type 0) (s : Call) (callee : ℕ) (stood : Bool) (c : Tree) (m : StepLabel) →
    Ahead w E (Run s callee Body stood c) m →
    (head_of m ≡ run_node stood s.label s.place s.arguments) × (m ≡ Here (run_node stood s.label s.place s.arguments) → ⊥)
in_call w E s callee stood c m (inl a) = (ap head_of a.3, λ is. let clash = sym a.3 ∙ is in cc)
in_call w E s callee stood c m (inr a) = (ap head_of a, λ is. let clash = sym a ∙ is in cc)

-- ---- ends of a `when`

end_of_body : (stood : Bool) (l : Label) (at : Source) (m : StepLabel) (n : Node) → (n ≡ SurfaceEndAt l at → ⊥) → (n ≡ DepthEndAt l at → ⊥) →
    m ≡ Here (end_node stood l at) → m ≡ Here n → ⊥
end_of_body false l at m n one other is same = one (head_same _ _ (sym same ∙ is))
  where
    head_same : (x y : Node) → Here x ≡ Here y → x ≡ y
    head_same x y e = cc
end_of_body true l at m n one other is same = other (head_same _ _ (sym same ∙ is))
  where
    head_same : (x y : Node) → Here x ≡ Here y → x ≡ y
    head_same x y e = cc

-- from where its body begins to its end, where the body may end at once
begin_end : (s : Watch) (E : Node → Node → Type 0) (start last : Node) → ((n m : Node) → EdgeAll s.body n m → E n m) →
    ((m : Node) → Into s.body (λ k. k ≡ last) m → E start m) → ((n : Node) → OutAll s.body n → E n last) →
    (is_empty s.body ≡ true) ⊎ WayThroughAll s.body → Walk E start last
begin_end s E start last inside begins ends (inl empty) = one_on (stay start) (begins last (inr (empty, refl)))
begin_end s E start last inside begins ends (inr way) = through s.body start last inside (λ m h. begins m (inl h)) ends way

checks_end : (l : Label) (at : Source) (e : Expr) (stood : Bool) (m : StepLabel) → m ≡ Here (end_node stood l at) → m ≡ Here (CheckAt l at e) → ⊥
checks_end l at e stood m is same =
    end_of_body stood l at m (CheckAt l at e) (λ clash. cc) (λ clash. cc) is same

pub inside_same : (n : Node) (u : ℕ) (one other : StepLabel) → Inside n u one ≡ Inside n u other → one ≡ other
inside_same n u one other e = cc

pub empty_instant : (body : Block) → is_empty body ≡ true → are_instant body ≡ true
empty_instant Done e = refl
empty_instant (Then s rest) e = absurd cc

-- what follows a step, as what its tree could do before
pub record Less (w : Setting) (E : Node → Node → Type 0) (c : Tree) (n m : StepLabel) : Type 0 where
  pub ahead : Ahead w E c m
  pub differ : m ≡ n → ⊥

module _ (pass : InstantsPass) (part : BranchesPart) (shrink : EndsShrink) (w : Setting) (pace : Paces w) (all : AllNumbered w) where
  -- a turn of a loop
  turn_later : {number : Node → ℕ} {i : ℕ} (body : Block) (next : Plain) (g : Place) (n m : StepLabel) → AreSubgraphs w i body (ahead_of (entry next) g) →
      IsSubgraph w i next g → Rises number g.edges → ((k : Node) → Into body (λ k. k ≡ entry next) k → g.edges (head_of n) k) →
      Ahead w g.edges (do_block (turn body next)) m → Later g.edges n m
  turn_later body next g n m fits last up begins a =
      by_reached n m up (λ k h. begins k (turn_begins body next k h)) (do_ahead pass (turn body next) g m (fits_join body next g fits last) a)

  -- the body of a `when` that begins now, from the node
  body_later : {number : Node → ℕ} {i : ℕ} (s : Watch) (g : Place) (stood : Bool) (n : Node) (m : StepLabel) → IsSubgraph w i (watch_stmt s) g →
      Rises number g.edges → ((k : Node) → Into s.body (λ x. x ≡ end_node stood s.label s.place) k → g.edges n k) →
      ((k : Node) → OutAll s.body k → may_end (do_block s.body) ≡ true → g.edges k (end_node stood s.label s.place)) →
      (n ≡ SurfaceEndAt s.label s.place → ⊥) → (n ≡ DepthEndAt s.label s.place → ⊥) →
      Ahead w g.edges (Guard s Body stood (do_block s.body)) m → Later g.edges (Here n) m
  body_later s g stood n m fits up begins ends one other (inl a) =
      by_reached (Here n) m up (λ k h. begins k (inl h)) (do_ahead pass s.body (guarded s g) m (watch_fits s g fits) a)
  body_later s g stood n m fits up begins ends one other (inr a) = record {
    walk = subst (λ x. Walk g.edges n (head_of x)) (sym a.1)
        (begin_end s g.edges n (end_node stood s.label s.place) (λ n m h. fits.edges n m (inl h)) begins (λ k h. ends k h a.0)
        (pass.blocks s.body (sym (do_ends s.body) ∙ a.0)));
    differ = end_of_body stood s.label s.place m n one other a.1;
  }

  -- the body of a `when` that is checked, and its end
  let_later : {number : Node → ℕ} {i : ℕ} (s : Watch) (stood : Bool) (c : Tree) (g : Place) (n m : StepLabel) → head_of n ≡ check_of s →
      Here (check_of s) ≡ n → FitsGraph w i c (later_on (guarded s g)) → CheckFitsGraph w i s stood (is_nil c) g → Rises number g.edges →
      Ahead w g.edges (Guard s Body stood c) m → Later g.edges n m
  let_later {i = i} s stood c g n m at is live has up (inl a) =
      subst (λ x. Later g.edges x m) is (by_after (Here (check_of s)) m up (ahead_now pass w c i (later_on (guarded s g)) live after_closed m a))
  let_later {i = i} s stood c g n m at is live has up (inr a) =
      subst (λ x. Later g.edges x m) is (record {
        walk = subst (λ x. Walk g.edges (check_of s) (head_of x)) (sym a.1)
            (subst (λ b. Walk g.edges (check_of s) (end_node b s.label s.place)) (sym has.has_stood)
            (body_walk w i s c g live has.unended (way_out pass c i (later_on (guarded s g)) live a.0)));
        differ = checks_end s.label s.place s.test stood m a.1;
      })

  mutual
    pub step_less : {i : ℕ} {c : Tree} {d : Bool} {a : Deed} {n : StepLabel} {c' : Tree} → Moves Anyway w i c d a n c' → (g : Place) → FitsGraph w i c g →
        (number : Node → ℕ) → Rises number g.edges → Parted g.links → (m : StepLabel) → Ahead w g.edges c' m → Less w g.edges c n m
    step_less acts g live number up parted m a = elim a [ ]
    step_less (takes {l = l} {at = at} {e = e} {body = body} {other = other}) g live number up parted m a =
        let next = by_reached (Here (TestAt l at e)) m up (λ k h. live.0.edges _ _ (inr (inr (refl, inl h))))
        (do_ahead pass body g m (then_fits l at e body other g live.0) a) in
        record { ahead = next.walk; differ = next.differ }
    step_less (passes {l = l} {at = at} {e = e} {body = body} {other = other}) g live number up parted m a =
        let next = by_reached (Here (TestAt l at e)) m up (λ k h. live.0.edges _ _ (inr (inr (refl, inr h))))
        (do_ahead pass other g m (else_fits l at e body other g live.0) a) in
        record { ahead = next.walk; differ = next.differ }
    step_less pauses g live number up parted m a = elim a [ ]
    step_less (runs {l = l} {at = at} {target = target} {a = u} {inputs = inputs} {outputs = outputs} {callee = callee} {unit = unit} here there)
        g live number up parted m a =
        let is = in_call w g.edges _ callee false (do_block (plain_body unit.body)) m a in
        record { ahead = subst (Walk g.edges (run_node false l at _)) (sym is.0) (stay (run_node false l at _)); differ = is.1 }
    step_less (repeats {l = l} {at = at} {body = body}) g live number up parted m a =
        let next = turn_later body (Repeat l at body) g (Here (HeadAt l at)) m (repeat_body l at body g live.0) live.0 up
        (λ k h. live.0.edges _ _ (inr (inl (refl, h)))) a in
        record { ahead = next.walk; differ = next.differ }
    step_less (repeats_until {l = l} {at = at} {body = body} {e = e}) g live number up parted m a =
        let next = turn_later body (Again l at body e) g (Here (HeadAt l at)) m (until_body l at body e g live.0) (again_fits l at body e g live.0) up
        (λ k h. live.0.edges _ _ (inr (inl (inl (refl, h))))) a in
        record { ahead = next.walk; differ = next.differ }
    step_less leaves g live number up parted m a = elim a [ ]
    step_less (turns {l = l} {at = at} {body = body} {e = e}) g live number up parted m a =
        let next = by_edge (Here (TestAt l at e)) m up (live.0.edges _ _ (inr (inr (refl, refl)))) a in
        record { ahead = next.walk; differ = next.differ }
    step_less (enters {l = l} {at = at} {e = e} {body = body}) g live number up parted m a =
        let next = turn_later body (While l at e body) g (Here (TestAt l at e)) m (while_body l at e body g live.0) live.0 up
        (λ k h. live.0.edges _ _ (inr (inl (refl, h)))) a in
        record { ahead = next.walk; differ = next.differ }
    step_less skips g live number up parted m a = elim a [ ]
    step_less {i = i} (forks {l = l} {at = at} {bodies = bodies}) g live number up parted m (inl a) =
        let after = surface_after bodies l at (is_instant (Cobegin l at bodies)) (head_of m)
        (each_now pass w (trees_begun bodies) i bodies false g (begun_live w i bodies g live.0.beside live.0.calls) m a) in
        let next = by_edge (Here (ForkAt l at)) m up (live.0.edges _ _ after.edge) (walk_more live.0.edges after.rest) in
        record { ahead = next.walk; differ = next.differ }
    step_less {i = i} (forks {l = l} {at = at} {bodies = bodies}) g live number up parted m (inr a) = record {
      ahead = subst (λ x. Walk g.edges (ForkAt l at) (head_of x)) (sym a.1) (walk_more live.0.edges (joins_at_once l at bodies
          (shrink w i (Do (Cobegin l at bodies)) true _ _ (Par (fork l at bodies) false (trees_begun bodies)) pace forks a.0)));
      differ = λ is. let clash = sym a.1 ∙ is in cc;
    }
    step_less (guards {l = l} {at = at} {guard = guard} {e = e} {body = body}) g live number up parted m a =
        let next = body_later (watch l at guard e body) g false (StartAt l at) m live.0 up
        (λ k h. elim h [
          | inl entry ↦ live.0.edges _ _ (inr (inl (refl, inl entry)))
          | inr none ↦ live.0.edges _ _ (inr (inl (refl, inr (none.0, inl (empty_instant body none.0, none.1)))))
        ])
        (λ k h ends. live.0.edges _ _ (inr (inr (inr (inr (h, inl (sym (do_ends body) ∙ ends, refl)))))))
        (λ clash. cc) (λ clash. cc) a in
        record { ahead = next.walk; differ = next.differ }
    step_less goes_on g live number up parted m a = elim a [ ]
    step_less waits g live number up parted m a = elim a [ ]
    step_less (lets {s = s} {stood = stood} {c = c}) g live number up parted m a =
        let next = let_later s stood c g (Here (check_of s)) m refl refl live.0 live.1 up a in
        record { ahead = next.walk; differ = next.differ }
    step_less (aborts is) g live number up parted m a = elim a [ ]
    step_less (resets {s = s} {stood = stood} {c = c} is) g live number up parted m a =
        let begins : (k : Node) → Into s.body (BodyEnd s.label s.place s.body) k → g.edges (check_of s) k =
        λ k h. live.1.fits.edges _ _ (inr (inr (inr (inl (refl, subst (λ x. Guarded x s.label s.place s.body k) (sym is) h))))) in
        let next = body_later s g stood (check_of s) m live.1.fits up
        (λ k h. elim h [
          | inl entry ↦ begins k (inl entry)
          | inr none ↦ begins k (inr (none.0, inr (none.1 ∙ ap (λ b. end_node b s.label s.place) live.1.has_stood)))
        ])
        (λ k h ends. subst (λ b. g.edges k (end_node b s.label s.place)) (sym live.1.has_stood)
        (live.1.fits.edges _ _ (inr (inr (inr (inr (h, inr refl)))))))
        (λ clash. cc) (λ clash. cc) a in
        record { ahead = next.walk; differ = next.differ }
    step_less guard_ends g live number up parted m a = elim a [ ]
    step_less (copies {s = s} {callee = callee} {stood = stood} {c = c}) g live number up parted m a =
        let is = in_call w g.edges s callee stood c m a in
        record { ahead = is.0; differ = is.1 }
    step_less run_ends g live number up parted m a = elim a [ ]
    step_less (joins still done) g live number up parted m a = elim a [ ]
    step_less (in_seq {rest = Done} move) g live number up parted m a = elim live [ ]
    step_less {i = i} (in_seq {c = c} {rest = Then s rest} {n = n} {c' = c'} move) g live number up parted m a =
        elim (seq_ahead pass c' s rest g m live.1.fits a) [
          | inl here ↦
              let less = step_less move (ahead_of (entry s) g) live.0 number up parted m here in
              record { ahead = inl less.ahead; differ = less.differ }
          | inr more ↦ record {
            ahead = inr (shrink w i c _ _ _ c' pace move more.0, more.1);
            differ = onward_differ n m up (onward pass shrink pace move (ahead_of (entry s) g) live.0 more.0) more.1;
          }
        ]
    step_less (in_par {s = s} {stood = stood} move) g live number up parted m (inl a) =
        let less = one_less move s.bodies stood g live.0 s.label s.place (is_instant (Cobegin s.label s.place s.bodies)) number
        (λ n m h. up n m (live.1.fits.edges n m h)) parted live.1.fits.beside m a in
        record { ahead = inl less.0; differ = less.1 }
    step_less {i = i} (in_par {s = s} {stood = stood} {branches = branches} {n = n} {branches' = branches'} move) g live number up parted m (inr a) =
        let ends = shrink w i (Par s stood branches) _ _ _ (Par s stood branches') pace (in_par move) a.0 in
        let out = one_onward pass shrink pace move s.bodies stood g s.label s.place (is_instant (Cobegin s.label s.place s.bodies)) live.0
        (live.1.joins ends).0 (λ strong. subst (λ b. may_join b branches' ≡ true) (one_strong move ∙ strong) a.0) in
        record {
          ahead = inr (ends, a.1);
          differ = onward_differ n m (λ n m h. up n m (live.1.fits.edges n m h)) out
              (at_node (EdgeEach s.bodies s.label s.place (is_instant (Cobegin s.label s.place s.bodies))) (join_node stood s.label s.place) m a.1);
        }
    step_less (in_guard {s = s} move) g live number up parted m (inl a) =
        let less = step_less move (guarded s g) live.0 number up parted m a in
        record { ahead = inl less.ahead; differ = less.differ }
    step_less {i = i} (in_guard {s = s} {stood = stood} {c = c} {n = n} {c' = c'} move) g live number up parted m (inr a) =
        let ends = shrink w i c _ _ _ c' pace move a.0 in
        let out = onward pass shrink pace move (guarded s g) live.0 a.0 in
        record {
          ahead = inr (ends, a.1);
          differ = onward_differ n m up
              (record { end = out.end; walk = out.walk; leads = to_end s g.edges stood out.end out.leads (live.1.closes ends).0 })
              (at_node g.edges (end_node stood s.label s.place) m a.1);
        }
    step_less (in_run {s = s} {callee = callee} {stood = stood} {n = n} move) g live number up parted m (inl a) =
        let unit = live.0 in
        let is : unit_at w callee ≡ Some unit = live.2.is in
        let same : a.0 ≡ unit = some_same a.0 unit (sym a.2 ∙ is) in
        let ranks = all callee unit is in
        let less = step_less move (whole stood (plain_body unit.body)) live.1 ranks.number ranks.rises
        (λ n m h. part unit.body [] n m h) a.1 (subst (λ u. Ahead w (EdgeAll (plain_body u.body)) _ a.1) same a.4) in
        record {
          ahead = inl (unit, a.1, is, a.3, less.ahead);
          differ = λ e. less.differ (inside_same _ s.unit a.1 n (sym a.3 ∙ e));
        }
    step_less (in_run {n = n} move) g live number up parted m (inr a) = record { ahead = inr a; differ = λ e. let clash = sym a ∙ e in cc }

    -- a step in a branch
    pub one_less : {i : ℕ} {branches : Trees} {d : Bool} {a : Deed} {n : StepLabel} {branches' : Trees} → OneMoves Anyway w i branches d a n branches' →
        (bodies : Bodies) (stood : Bool) (g : Place) → AllFitGraph w i branches bodies stood g → (l : Label) (at : Source) (so : Bool) (number : Node → ℕ) →
        Rises number (EdgeEach bodies l at so) → Parted g.links → ((n m : Node) → BesideEach bodies n m → g.links n m) → (m : StepLabel) →
        AheadEach w bodies branches' m → AheadEach w bodies branches m × (m ≡ n → ⊥)
    one_less (first move free) Last stood g lives l at so number up parted links m a = elim lives [ ]
    one_less (first move free) (BodyOf weak body rest) stood g lives l at so number up parted links m (inl a) =
        let less = step_less move (in_branch stood body g) lives.0 number (λ n m h. up n m (inl h)) parted m a in
        (inl less.ahead, less.differ)
    one_less {i = i} (first {others = others} {n = n} move free) (BodyOf weak body rest) stood g lives l at so number up parted links m (inr a) = (
      inr a,
      parted_differ n m parted (links (head_of n) (head_of m) (crossing stood weak body rest (head_of n) (head_of m)
          (region move (in_branch stood body g) lives.0) (each_now pass w others i rest stood g lives.2 m a))),
    )
    one_less (later move free) Last stood g lives l at so number up parted links m a = elim lives [ ]
    one_less {i = i} (later {c = c} {n = n} move free) (BodyOf weak body rest) stood g lives l at so number up parted links m (inl a) = (
      inl a,
      differ_parted n m parted (links (head_of m) (head_of n) (crossing stood weak body rest (head_of m) (head_of n)
          (ahead_now pass w c i (in_branch stood body g) lives.0 (part_closed stood body) m a) (one_region move rest stood g lives.2))),
    )
    one_less (later move free) (BodyOf weak body rest) stood g lives l at so number up parted links m (inr a) =
        let less = one_less move rest stood g lives.2 l at so number (λ n m h. up n m (rest_edges weak body rest l at so n m h)) parted
        (λ n m h. links n m (inr (inr (inr h)))) m a in
        (inr less.0, less.1)
