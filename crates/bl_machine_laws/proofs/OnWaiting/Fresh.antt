-- What waits after a turn waited before it at another node, or edges lead to it from the node that had the turn.
use Rattle.std.proofs.Common.{◌≡◌, ◌⊎◌, inl, inr, ⊎_elim, ℕ, Bool, true, false, not, ◌&&◌, ◌||◌, if◌then◌else◌, Option, Some, None, List, refl, sym, ap, subst}
use Rattle.std.proofs.Common.{◌∙◌}
use Rattle.bl_tree.proofs.Basics.{and_first, and_second, true_false_any}
use Rattle.bl_tree.specs.declared.place.Place.{Place as Source}
use Rattle.bl_graph_nodes.specs.Nodes.{DepthEndAt, DepthJoinAt, ForkAt, Node, SurfaceJoinAt, are_instant, entry, is_instant, label_of, some_instant}
use Rattle.bl_graph_nodes.specs.Nodes.{some_strong, strong_instant}
use Rattle.bl_graph_nodes.specs.Plain.{Block, Bodies, Body as BodyOf, Cobegin, Done, Label, Last, Plain, Then, is_empty}
use Rattle.bl_graph_nodes.specs.Steps.{end_node, join_node, run_node}
use Rattle.bl_graph.specs.DataEdges.{BesideEach}
use Rattle.bl_graph.specs.Edges.{EdgeEach, Guarded, In, InEach, Into, OutAll}
use Rattle.bl_graph.specs.Walks.{After, Walk, on, stay}
use Rattle.bl_ctree.specs.Instances.{Setting}
use Rattle.bl_ctree_laws.specs.Pending.{Deed, may_end}
use Rattle.bl_ctree_laws.specs.Shrinks.{EndsShrink, Paces}
use Rattle.bl_ctree_laws.specs.Steps.{turn}
use Rattle.bl_ctree_laws.specs.Trees.{Fork, Tree, Trees, Watch, Nil, Wait, Test, Idle, Do, Seq, Par, Guard, Run, are_done, trees_begun, beside, do_block}
use Rattle.bl_ctree_laws.specs.Trees.{has_strong, is_nil, seq, some_ended, strong_ended}
use Rattle.bl_ctree_laws_traces.specs.Progress.FitsGraph.{AllFitGraph, FitsGraph, fork_stmt}
use Rattle.bl_ctree_laws_traces.specs.Progress.Places.{Place, ahead_of, guarded, in_branch, later_on}
use Rattle.bl_machine_laws.specs.Numbers.Steps.{TurnsAreWalks, TurnsWait, Walks}
use Rattle.bl_machine_laws.specs.Numbers.Steps as walks
use Rattle.bl_machine_laws.specs.Numbers.Turns as turns
use Rattle.bl_machine_laws.specs.Numbers.Turns.{AnsweredDeed, InstancePoint, OneTurns, Turns}
use Rattle.bl_machine_laws.specs.Numbers.Waiting.{Is, SomeWaits, Waits, check_of, first_in}
use Rattle.bl_machine_laws.proofs.OnWaiting.Quiet.{each_in_part, in_part}
use Rattle.bl_ctree_laws.proofs.Less.{begun_strong, done_join, nil_ends}
use Rattle.bl_ctree_laws_traces.proofs.OnProgress.Leading.{done_strong, is_the_nil}
use Rattle.bl_ctree_laws_traces.proofs.OnBounded.Stepping.{crossing, Parted}
use Rattle.bl_ctree_laws_traces.proofs.OnProgress.Beginning.{seq_unended, turn_unended, walks_stay}
use Rattle.bl_ctree_laws_traces.proofs.OnProgress.Keeping.{part_closed, after_closed}

-- ---- walks

walk_edge : {E : Node → Node → Type 0} {n m y : Node} → Walk E n m → E m y → After E n y
walk_edge {y = y} (stay n) edge = record { by = y; edge = edge; rest = stay y }
walk_edge {y = y} (on n by m first walk) edge =
    let after = walk_edge walk edge in record { by = by; edge = first; rest = on by after.by y after.edge after.rest }

walk_map : {E F : Node → Node → Type 0} {n m : Node} → ((a b : Node) → E a b → F a b) → Walk E n m → Walk F n m
walk_map into (stay n) = stay n
walk_map into (on n by m edge walk) = on n by m (into n by edge) (walk_map into walk)

after_map : {E F : Node → Node → Type 0} {n m : Node} → ((a b : Node) → E a b → F a b) → After E n m → After F n m
after_map {n = n} into after = record { by = after.by; edge = into n after.by after.edge; rest = walk_map into after.rest }

-- ---- trees that begin

pub block_nil : (body : Block) → is_nil (do_block body) ≡ is_empty body
block_nil Done = refl
block_nil (Then s Done) = refl
block_nil (Then s (Then t rest)) = refl

-- what waits in a block that begins is its first node
pub block_waits : (body : Block) (next : Option Node) (y : Node) → Waits (do_block body) next y → Is (first_in body next) y
block_waits Done next y h = h
block_waits (Then s Done) next y h = h
block_waits (Then s (Then t rest)) next y h = h

pub seq_waits : (c : Tree) (s : Plain) (rest : Block) (next : Option Node) (y : Node) → Waits (seq c (Then s rest)) next y → Waits c (Some (entry s)) y
seq_waits Nil s rest next y h = block_waits (Then s rest) next y h
seq_waits (Wait p) s rest next y h = h
seq_waits (Test p) s rest next y h = h
seq_waits (Idle body) s rest next y h = h
seq_waits (Do p) s rest next y h = h
seq_waits (Seq c after) s rest next y h = h
seq_waits (Par p stood branches) s rest next y h = h
seq_waits (Guard p phase stood c) s rest next y h = h
seq_waits (Run p callee phase stood c) s rest next y h = h

nil_waits : (c : Tree) (next : Option Node) (y : Node) → is_nil c ≡ true → Waits c next y → Is next y
nil_waits Nil next y e h = h
nil_waits (Wait s) next y e h = true_false_any false e refl
nil_waits (Test s) next y e h = true_false_any false e refl
nil_waits (Idle body) next y e h = true_false_any false e refl
nil_waits (Do s) next y e h = true_false_any false e refl
nil_waits (Seq c rest) next y e h = true_false_any false e refl
nil_waits (Par s stood branches) next y e h = true_false_any false e refl
nil_waits (Guard s phase stood c) next y e h = true_false_any false e refl
nil_waits (Run s callee phase stood c) next y e h = true_false_any false e refl

-- where a block begins or, where nothing stands in it, what follows
first_into : (body : Block) (next : Option Node) (y : Node) → Is (first_in body next) y → Into body (λ k. Is next k) y
first_into Done next y h = inr (refl, h)
first_into (Then s rest) next y h = inl h

turn_into : (body : Block) (next : Plain) (follows : Option Node) (y : Node) → Is (first_in (turn body next) follows) y →
    Into body (λ k. k ≡ entry next) y
turn_into Done next follows y h = inr (refl, h)
turn_into (Then s rest) next follows y h = inl h

turn_waits_into : (body : Block) (next : Plain) (follows : Option Node) (y : Node) → Waits (do_block (turn body next)) follows y →
    Into body (λ k. k ≡ entry next) y
turn_waits_into body next follows y h = turn_into body next follows y (block_waits (turn body next) follows y h)

-- ---- what has ended leads out

pub record LeadsOut (E : Node → Node → Type 0) (F : Node → Type 0) (n : Node) : Type 0 where
  pub end : Node
  pub walk : Walk E n end
  pub out : F end

at_once : {E : Node → Node → Type 0} {F : Node → Type 0} (n : Node) → F n → LeadsOut E F n
at_once n out = record { end = n; walk = stay n; out = out }

join_out : (w : Setting) (i : ℕ) (s : Fork) (stood : Bool) (g : Place) → (stood ≡ false → is_instant (fork_stmt s) ≡ true) →
    ((n : Node) → (((is_instant (fork_stmt s) ≡ true) × (n ≡ SurfaceJoinAt s.label s.place)) ⊎ (n ≡ DepthJoinAt s.label s.place)) → g.out n) →
    g.out (join_node stood s.label s.place)
join_out w i s true g instant outs = outs (DepthJoinAt s.label s.place) (inr refl)
join_out w i s false g instant outs = outs (SurfaceJoinAt s.label s.place) (inl (instant refl, refl))

end_out : (s : Watch) (stood : Bool) (g : Place) → (stood ≡ false → are_instant s.body ≡ true) →
    ((n : Node) → (((are_instant s.body ≡ true) × (n ≡ end_node false s.label s.place)) ⊎ (n ≡ end_node true s.label s.place)) → g.out n) →
    g.out (end_node stood s.label s.place)
end_out s true g instant outs = outs (end_node true s.label s.place) (inr refl)
end_out s false g instant outs = outs (end_node false s.label s.place) (inl (instant refl, refl))

point_leads : {w : Setting} {i : ℕ} {c : Tree} {d : Bool} {a : Deed} {n : Node} {c' : Tree} (g : Place) → FitsGraph w i c g → InstancePoint w i c d a n c' →
    is_nil c' ≡ true → LeadsOut g.edges g.out n
point_leads g live turns.acts nil = at_once _ (live.0.outs _ refl)
point_leads g live (turns.takes {body = body}) nil = at_once _ (live.0.outs _ (inr (inr (inl (sym (block_nil body) ∙ nil), refl))))
point_leads g live (turns.passes {other = other}) nil = at_once _ (live.0.outs _ (inr (inr (inr (sym (block_nil other) ∙ nil), refl))))
point_leads g live turns.pauses nil = true_false_any false nil refl
point_leads g live (turns.repeats {l = l} {at = at} {body = body}) nil = true_false_any _ nil (turn_unended body _)
point_leads g live (turns.repeats_until {body = body}) nil = true_false_any _ nil (turn_unended body _)
point_leads g live turns.leaves nil = at_once _ (live.0.outs _ refl)
point_leads g live turns.turns nil = true_false_any false nil refl
point_leads g live (turns.enters {body = body}) nil = true_false_any _ nil (turn_unended body _)
point_leads g live turns.skips nil = at_once _ (live.0.outs _ refl)
point_leads g live turns.forks nil = true_false_any false nil refl
point_leads g live turns.guards nil = true_false_any false nil refl
point_leads g live turns.goes_on nil = at_once _ live.0
point_leads g live turns.waits nil = true_false_any false nil refl
point_leads g live turns.lets nil = true_false_any false nil refl
point_leads g live (turns.aborts {s = s} is) nil = record {
  end = DepthEndAt s.label s.place;
  walk = on (check_of s) (DepthEndAt s.label s.place) (DepthEndAt s.label s.place)
      (live.1.fits.edges (check_of s) (DepthEndAt s.label s.place)
      (inr (inr (inr (inl (refl, subst (λ k. Guarded k s.label s.place s.body (DepthEndAt s.label s.place)) (sym is) refl))))))
      (stay (DepthEndAt s.label s.place));
  out = live.1.fits.outs (DepthEndAt s.label s.place) (inr refl);
}
point_leads g live (turns.resets is) nil = true_false_any false nil refl
point_leads g live (turns.guard_ends {s = s} {stood = stood}) nil =
    at_once _ (end_out s stood g (live.1.closes refl).0 live.1.fits.outs)
point_leads {w} {i} g live (turns.joins {s = s} {stood = stood} {branches = branches} settled done) nil =
    at_once _ (join_out w i s stood g (live.1.joins (done_join branches done)).0 live.1.fits.outs)

pub turn_leads : {w : Setting} {rank : ℕ → Node → ℕ} {i : ℕ} {c : Tree} {done : List AnsweredDeed} {n : Node} {c' : Tree} (g : Place) → FitsGraph w i c g →
    Turns w rank i c done n c' → is_nil c' ≡ true → LeadsOut g.edges g.out n
turn_leads g live (turns.point p) nil = point_leads g live p nil
turn_leads g live (turns.runs called is passes lasts) nil = true_false_any false nil refl
turn_leads g live (turns.resumes passes lasts) nil = true_false_any false nil refl
turn_leads g live (turns.returns {s = s} {stood = stood} passes) nil =
    at_once _ (subst (λ b. g.out (run_node b s.label s.place s.arguments)) (sym live.2.has_stood) (live.2.fits.outs _ refl))
turn_leads g live (turns.in_seq {s = s} {rest = rest} {c' = c'} t) nil = true_false_any _ nil (seq_unended c' s rest)
turn_leads g live (turns.in_par t) nil = true_false_any false nil refl
turn_leads g live (turns.in_guard t) nil = true_false_any false nil refl

-- ---- what a point leaves waits at the end of an edge

-- a branch that is empty lets its `cobegin` end at once
data HasEmpty : Bodies → Type 0 where
  here : {weak : Bool} {rest : Bodies} → HasEmpty (BodyOf weak Done rest)
  there : {weak : Bool} {body : Block} {rest : Bodies} → HasEmpty rest → HasEmpty (BodyOf weak body rest)

-- all strong branches are empty: so all may end at once, and one is empty where one is strong
strong_begun : (bodies : Bodies) → strong_ended (trees_begun bodies) ≡ true → strong_instant bodies ≡ true
strong_begun Last e = refl
strong_begun (BodyOf true body rest) e = strong_begun rest e
strong_begun (BodyOf false Done rest) e = strong_begun rest e
strong_begun (BodyOf false (Then s after) rest) e = true_false_any _ e (ap (λ b. b && strong_ended (trees_begun rest)) (block_nil (Then s after)))

strong_empty : (bodies : Bodies) → strong_ended (trees_begun bodies) ≡ true → some_strong bodies ≡ true → HasEmpty bodies
strong_empty Last e f = true_false_any false f refl
strong_empty (BodyOf true body rest) e f = there (strong_empty rest e f)
strong_empty (BodyOf false Done rest) e f = here
strong_empty (BodyOf false (Then s after) rest) e f = true_false_any _ e (ap (λ b. b && strong_ended (trees_begun rest)) (block_nil (Then s after)))

some_begun : (bodies : Bodies) → some_ended (trees_begun bodies) ≡ true → some_instant bodies ≡ true
some_begun Last e = e
some_begun (BodyOf weak Done rest) e = refl
some_begun (BodyOf weak (Then s after) rest) e =
    or_last (are_instant (Then s after)) (some_instant rest)
    (some_begun rest (ap (λ b. b || some_ended (trees_begun rest)) (sym (block_nil (Then s after))) ∙ e))
  where
    or_last : (a b : Bool) → b ≡ true → (a || b) ≡ true
    or_last true b f = refl
    or_last false b f = f

some_empty : (bodies : Bodies) → some_ended (trees_begun bodies) ≡ true → HasEmpty bodies
some_empty Last e = true_false_any false e refl
some_empty (BodyOf weak Done rest) e = here
some_empty (BodyOf weak (Then s after) rest) e = there (some_empty rest (ap (λ b. b || some_ended (trees_begun rest)) (sym (block_nil (Then s after))) ∙ e))

done_instant : (l : Label) (at : Source) (bodies : Bodies) → are_done (trees_begun bodies) ≡ true → is_instant (Cobegin l at bodies) ≡ true
done_instant l at bodies e = by_strong (some_strong bodies) (begun_strong bodies)
  where
    by_strong : (b : Bool) → has_strong (trees_begun bodies) ≡ b → (if b then strong_instant bodies else some_instant bodies) ≡ true
    by_strong true is = strong_begun bodies (ap (λ b. if b then strong_ended (trees_begun bodies) else some_ended (trees_begun bodies)) (sym is) ∙ e)
    by_strong false is = some_begun bodies (ap (λ b. if b then strong_ended (trees_begun bodies) else some_ended (trees_begun bodies)) (sym is) ∙ e)

done_empty : (bodies : Bodies) → are_done (trees_begun bodies) ≡ true → HasEmpty bodies
done_empty bodies e = by_strong (some_strong bodies) refl
  where
    by_strong : (b : Bool) → some_strong bodies ≡ b → HasEmpty bodies
    by_strong true is =
        strong_empty bodies (ap (λ b. if b then strong_ended (trees_begun bodies) else some_ended (trees_begun bodies)) (sym (begun_strong bodies ∙ is)) ∙ e) is
    by_strong false is =
        some_empty bodies (ap (λ b. if b then strong_ended (trees_begun bodies) else some_ended (trees_begun bodies)) (sym (begun_strong bodies ∙ is)) ∙ e)

empty_joins : (bodies : Bodies) (l : Label) (at : Source) → HasEmpty bodies → EdgeEach bodies l at true (ForkAt l at) (SurfaceJoinAt l at)
empty_joins Last l at has = elim has [ ]
empty_joins (BodyOf weak Done rest) l at here = inr (inl (refl, inr (refl, (refl, refl))))
empty_joins (BodyOf weak body rest) l at (there later) = inr (inr (inr (inr (empty_joins rest l at later))))

-- the fork leads to what begins in its branches
fork_leads : (bodies : Bodies) (l : Label) (at : Source) (instant : Bool) (y : Node) → SomeWaits (trees_begun bodies) y →
    EdgeEach bodies l at instant (ForkAt l at) y
fork_leads Last l at instant y h = absurd h
fork_leads (BodyOf weak body rest) l at instant y (inl h) = inr (inl (refl, begins body (block_waits body None y h)))
  where
    begins : (body : Block) → Is (first_in body None) y → Into body (λ k. (instant ≡ true) × (k ≡ SurfaceJoinAt l at)) y
    begins Done none = absurd none
    begins (Then s after) is = inl is
fork_leads (BodyOf weak body rest) l at instant y (inr h) = inr (inr (inr (inr (fork_leads rest l at instant y h))))

at_edge : {E : Node → Node → Type 0} {n y : Node} → E n y → After E n y
at_edge {y = y} edge = record { by = y; edge = edge; rest = stay y }

-- what waits in what a point leaves comes after it
point_fresh : {w : Setting} {i : ℕ} {c : Tree} {d : Bool} {a : Deed} {n : Node} {c' : Tree} (g : Place) (next : Option Node) (y : Node) →
    FitsGraph w i c g → InstancePoint w i c d a n c' → is_nil c' ≡ false → Waits c' next y → After g.edges n y
point_fresh g next y live turns.acts lasts h = true_false_any true refl lasts
point_fresh g next y live (turns.takes {body = body}) lasts h =
    ⊎_elim
    (λ begins. at_edge (live.0.edges _ y (inr (inr (refl, inl begins)))))
    (λ empty. true_false_any (is_empty body) empty.0 (sym (block_nil body) ∙ lasts))
    (first_into body next y (block_waits body next y h))
point_fresh g next y live (turns.passes {other = other}) lasts h =
    ⊎_elim
    (λ begins. at_edge (live.0.edges _ y (inr (inr (refl, inr begins)))))
    (λ empty. true_false_any (is_empty other) empty.0 (sym (block_nil other) ∙ lasts))
    (first_into other next y (block_waits other next y h))
point_fresh g next y live turns.pauses lasts h = absurd h
point_fresh g next y live (turns.repeats {body = body}) lasts h =
    at_edge (live.0.edges _ y (inr (inl (refl, turn_waits_into body _ next y h))))
point_fresh g next y live (turns.repeats_until {body = body}) lasts h =
    at_edge (live.0.edges _ y (inr (inl (inl (refl, turn_waits_into body _ next y h)))))
point_fresh g next y live turns.leaves lasts h = true_false_any true refl lasts
point_fresh g next y live turns.turns lasts h = at_edge (live.0.edges _ y (inr (inr (refl, h))))
point_fresh g next y live (turns.enters {body = body}) lasts h =
    at_edge (live.0.edges _ y (inr (inl (refl, turn_waits_into body _ next y h))))
point_fresh g next y live turns.skips lasts h = true_false_any true refl lasts
point_fresh g next y live (turns.forks {l = l} {at = at} {bodies = bodies}) lasts (inl h) =
    at_edge (live.0.edges _ y (fork_leads bodies l at (is_instant (Cobegin l at bodies)) y h))
point_fresh g next y live (turns.forks {l = l} {at = at} {bodies = bodies}) lasts (inr h) =
    at_edge (subst (g.edges (ForkAt l at)) (sym h.1) (live.0.edges (ForkAt l at) (SurfaceJoinAt l at)
    (subst (λ b. EdgeEach bodies l at b (ForkAt l at) (SurfaceJoinAt l at)) (sym (done_instant l at bodies h.0))
    (empty_joins bodies l at (done_empty bodies h.0)))))
point_fresh g next y live (turns.guards {l = l} {at = at} {body = body}) lasts h =
    at_edge (live.0.edges _ y (inr (inl (refl, ends body (block_waits body _ y h)))))
  where
    ends : (body : Block) → Is (first_in body (Some (end_node false l at))) y →
        Into body (λ k. ((are_instant body ≡ true) × (k ≡ end_node false l at)) ⊎ (k ≡ end_node true l at)) y
    ends Done is = inr (refl, inl (refl, is))
    ends (Then s rest) is = inl is
point_fresh g next y live turns.goes_on lasts h = true_false_any true refl lasts
point_fresh g next y live turns.waits lasts h = absurd h
point_fresh {w} {i} g next y live (turns.lets {s = s} {stood = stood} {c = c}) lasts h =
    in_part w i (later_on (guarded s g)) c (Some (end_node stood s.label s.place)) y live.0 after_closed
    (λ nil. true_false_any (is_nil c) nil live.1.unended) h
point_fresh g next y live (turns.aborts is) lasts h = true_false_any true refl lasts
point_fresh g next y live (turns.resets {s = s} {stood = stood} is) lasts h =
    at_edge (live.1.fits.edges (check_of s) y (inr (inr (inr (inl (
      refl,
      subst (λ k. Guarded k s.label s.place s.body y) (sym is) (anew s.body (block_waits s.body _ y (subst (λ b.
          Waits (do_block s.body) (Some (end_node b s.label s.place)) y) live.1.has_stood h))),
    ))))))
  where
    anew : (body : Block) → Is (first_in body (Some (end_node true s.label s.place))) y →
        Into body (λ k. ((are_instant body ≡ true) × (k ≡ end_node false s.label s.place)) ⊎ (k ≡ end_node true s.label s.place)) y
    anew Done is = inr (refl, inr is)
    anew (Then t rest) is = inl is
point_fresh g next y live turns.guard_ends lasts h = true_false_any true refl lasts
point_fresh g next y live (turns.joins settled done) lasts h = true_false_any true refl lasts

-- ---- turns

-- what has a turn has not ended
pub unended : {w : Setting} {rank : ℕ → Node → ℕ} {i : ℕ} {c : Tree} {done : List AnsweredDeed} {n : Node} {c' : Tree} →
    Turns w rank i c done n c' → is_nil c ≡ false
unended {w} {rank} {i} {c} {done} {n} {c'} t = by_test (is_nil c) refl
  where
    nil_point : {d : Bool} {a : Deed} {m : Node} {tree : Tree} → InstancePoint w i Nil d a m tree → ⊥
    nil_point p = elim p [ ]

    nil_rests : {acts : List AnsweredDeed} {m : Node} {tree : Tree} → Turns w rank i Nil acts m tree → ⊥
    nil_rests (turns.point p) = nil_point p

    by_test : (b : Bool) → is_nil c ≡ b → is_nil c ≡ false
    by_test true e = absurd (nil_rests (subst (λ (tree : Tree). Turns w rank i tree done n c') (is_the_nil c e) t))
    by_test false e = e

-- what leads to both ends of a `when` leads to the one that it has now
end_edge : (s : Watch) (stood : Bool) (E : Node → Type 0) → (stood ≡ false → are_instant s.body ≡ true) →
    (are_instant s.body ≡ true → E (end_node false s.label s.place)) × E (end_node true s.label s.place) → E (end_node stood s.label s.place)
end_edge s true E instant both = both.1
end_edge s false E instant both = both.0 (instant refl)

-- where what follows the tree may act, edges lead to it from what leads out
abbrev pub FollowsBy : Tree → Option Node → Place → Type 0
FollowsBy c next g = may_end c ≡ true → (m : Node) → g.out m → (y : Node) → Is next y → g.edges m y

pub is_weak : (weak : Bool) (c : Tree) → (weak || is_nil c) ≡ true → is_nil c ≡ false → weak ≡ true
is_weak true c e unended = refl
is_weak false c e unended = true_false_any (is_nil c) e unended

-- ---- turns

module _ {w : Setting} (rank : ℕ → Node → ℕ) (paces : Paces w) (shrinks : EndsShrink) (lists : TurnsAreWalks) (waiting : TurnsWait) where
  pub ends_walk : {i : ℕ} {c : Tree} {done : List AnsweredDeed} {c' : Tree} → Walks w i c done c' → may_end c' ≡ true → may_end c ≡ true
  ends_walk walks.stay e = e
  ends_walk {i} {c} (walks.on {d = d} {a = a} {n = n} {c' = c'} m more) e = shrinks w i c d a n c' paces m (ends_walk more e)

  ends_before : {i : ℕ} {c : Tree} {done : List AnsweredDeed} {n : Node} {c' : Tree} → Turns w rank i c done n c' → may_end c' ≡ true → may_end c ≡ true
  ends_before {i} {c} {done} {n} {c'} t e = ends_walk (lists.turns w rank i c done n c' t) e

  -- where a branch ends, edges lead to the join
  branch_joins : {i : ℕ} {c : Tree} {done : List AnsweredDeed} {n : Node} {c' : Tree} (g : Place) (stood weak instant : Bool) (body : Block) (rest : Bodies)
      (l : Label) (at : Source) → (stood ≡ false → instant ≡ true) → FitsGraph w i c (in_branch stood body g) → Turns w rank i c done n c' →
      is_nil c' ≡ true → After (EdgeEach (BodyOf weak body rest) l at instant) n (join_node stood l at)
  branch_joins {i} {c} {done} {n} {c'} g stood weak instant body rest l at instantly live t nil =
      let leads = turn_leads (in_branch stood body g) live t nil in
      let inside : In stood body n =
      in_part w i (in_branch stood body g) c None n live (part_closed stood body) (λ e m is. absurd is)
      (waiting w rank i c done n c' None t) in
      let end_inside : In stood body leads.end = walks_stay (part_closed stood body) inside leads.walk in
      walk_edge (walk_map (λ a b edge. inl edge) leads.walk) (join_edge stood instantly leads.end end_inside leads.out)
    where
      join_edge : (stood : Bool) → (stood ≡ false → instant ≡ true) → (m : Node) → In stood body m → OutAll body m →
          EdgeEach (BodyOf weak body rest) l at instant m (join_node stood l at)
      join_edge true instantly m inside out = inr (inr (inr (inl ((inside, inr out), refl))))
      join_edge false instantly m inside out = inr (inr (inl ((inside, inr out), (instantly refl, refl))))

  -- what has a turn in a branch is of the branch
  inside : {i : ℕ} {c : Tree} {done : List AnsweredDeed} {n : Node} {c' : Tree} (g : Place) (stood : Bool) (body : Block) →
      FitsGraph w i c (in_branch stood body g) → Turns w rank i c done n c' → In stood body n
  inside {i} {c} {done} {n} {c'} g stood body live t =
      in_part w i (in_branch stood body g) c None n live (part_closed stood body) (λ e m is. absurd is) (waiting w rank i c done n c' None t)

  one_inside : {i : ℕ} {branches : Trees} {done : List AnsweredDeed} {n : Node} {branches' : Trees} (g : Place) (stood : Bool) (bodies : Bodies) →
      AllFitGraph w i branches bodies stood g → OneTurns w rank i branches done n branches' → InEach stood bodies n
  one_inside g stood Last live (turns.first t) = absurd live
  one_inside g stood Last live (turns.later t) = absurd live
  one_inside g stood (BodyOf weak body rest) live (turns.first t) = inl (inside g stood body live.0 t)
  one_inside g stood (BodyOf weak body rest) live (turns.later t) = inr (one_inside g stood rest live.2 t)

  -- where after a turn so many branches have ended as are needed, edges lead from its node to the join: each node of a weak branch has one,
  -- and a strong branch has ended
  joins_after : {i : ℕ} {branches : Trees} {done : List AnsweredDeed} {n : Node} {branches' : Trees} (g : Place) (stood instant : Bool)
      (bodies : Bodies) (l : Label) (at : Source) → (stood ≡ false → instant ≡ true) → AllFitGraph w i branches bodies stood g →
      OneTurns w rank i branches done n branches' → strong_ended branches' ≡ true → After (EdgeEach bodies l at instant) n (join_node stood l at)
  joins_after g stood instant Last l at instantly live (turns.first t) ended = absurd live
  joins_after g stood instant Last l at instantly live (turns.later t) ended = absurd live
  joins_after {n = n} g stood instant (BodyOf weak body rest) l at instantly live
      (turns.first {weak = weak'} {c = c} {others = others} {c' = c'} t) ended =
      by_end (is_nil c') refl
    where
      weak_edge : (stood : Bool) → (stood ≡ false → instant ≡ true) → In stood body n → weak ≡ true →
          EdgeEach (BodyOf weak body rest) l at instant n (join_node stood l at)
      weak_edge true instantly within is = inr (inr (inr (inl ((within, inl is), refl))))
      weak_edge false instantly within is = inr (inr (inl ((within, inl is), (instantly refl, refl))))

      by_end : (b : Bool) → is_nil c' ≡ b → After (EdgeEach (BodyOf weak body rest) l at instant) n (join_node stood l at)
      by_end true e = branch_joins g stood weak instant body rest l at instantly live.0 t e
      by_end false e =
          at_edge (weak_edge stood instantly (inside g stood body live.0 t)
          (sym live.1 ∙ is_weak weak' c' (and_first (weak' || is_nil c') (strong_ended others) ended) e))
  joins_after g stood instant (BodyOf weak body rest) l at instantly live (turns.later {weak = weak'} {c = c} {others' = others'} t) ended =
      after_map (λ a b edge. inr (inr (inr (inr edge))))
      (joins_after g stood instant rest l at instantly live.2 t (and_second (weak' || is_nil c) (strong_ended others') ended))

  mutual
    -- what waits after a turn waited before it at another node, or edges lead to it from the turn's node
    pub fresh : {i : ℕ} {c : Tree} {done : List AnsweredDeed} {n : Node} {c' : Tree} (g : Place) (next : Option Node) (y : Node) → FitsGraph w i c g →
        Parted g.links → FollowsBy c next g → Turns w rank i c done n c' → Waits c' next y →
        (Waits c next y × (y ≡ n → ⊥)) ⊎ After g.edges n y
    fresh {c = c} {n = n} {c' = c'} g next y live parted follows (turns.point p) h = by_end (is_nil c') refl
      where
        by_end : (b : Bool) → is_nil c' ≡ b → (Waits c next y × (y ≡ n → ⊥)) ⊎ After g.edges n y
        by_end true e =
            let leads = turn_leads {rank = rank} g live (turns.point p) e in
            inr (walk_edge leads.walk (follows (ends_before (turns.point p) (nil_ends c' e)) leads.end leads.out y (nil_waits c' next y e h)))
        by_end false e = inr (point_fresh g next y live p e h)
    fresh g next y live parted follows (turns.runs called is passes lasts) h = absurd h
    fresh g next y live parted follows (turns.resumes passes lasts) h = absurd h
    fresh {i} {c} {done} {n} {c'} g next y live parted follows
        (turns.returns {s = s} {callee = callee} {stood = stood} {c = inner} {done = acts} passes) h =
        let whole_turn : Turns w rank i c done n c' = turns.returns {s = s} {callee = callee} {stood = stood} {c = inner} {done = acts} passes in
        let leads = turn_leads {rank = rank} g live whole_turn refl in
        inr (walk_edge leads.walk (follows (ends_before whole_turn refl) leads.end leads.out y h))
    fresh g next y live parted follows (turns.in_seq {s = s} {rest = rest} {c' = c'} t) h =
        fresh (ahead_of (entry s) g) (Some (entry s)) y live.0 parted (λ may m out k is. subst (g.edges m) (sym is) out) t (seq_waits c' s rest next y h)
    fresh g next y live parted follows (turns.in_par {s = s} {stood = stood} t) (inl h) =
        ⊎_elim (λ waited. inl (inl waited.0, waited.1)) (λ after. inr (after_map (λ a b edge. live.1.fits.edges a b edge) after))
        (one_fresh g stood s.bodies s.label s.place (is_instant (fork_stmt s)) y live.0 parted live.1.fits.beside t h)
    fresh {n = n} g next y live parted follows (turns.in_par {s = s} {stood = stood} {branches = branches} {branches' = branches'} t) (inr h) =
        inr (subst (After g.edges n) (sym h.1) (after_map (λ a b edge. live.1.fits.edges a b edge)
        (joins_after g stood (is_instant (fork_stmt s)) s.bodies s.label s.place
        (live.1.joins (ends_before (turns.in_par {s = s} {stood = stood} t) (done_join branches' h.0))).0 live.0 t (done_strong branches' h.0))))
    fresh g next y live parted follows (turns.in_guard {s = s} {stood = stood} t) h =
        fresh (guarded s g) (Some (end_node stood s.label s.place)) y live.0 parted (λ may m out k is. subst (g.edges m) (sym is)
        (end_edge s stood (g.edges m) (λ e. (live.1.closes may).0 e) out)) t h

    one_fresh : {i : ℕ} {branches : Trees} {done : List AnsweredDeed} {n : Node} {branches' : Trees} (g : Place) (stood : Bool) (bodies : Bodies) (l : Label)
        (at : Source) (instant : Bool) (y : Node) → AllFitGraph w i branches bodies stood g → Parted g.links →
        ((n m : Node) → BesideEach bodies n m → g.links n m) → OneTurns w rank i branches done n branches' →
        SomeWaits branches' y → (SomeWaits branches y × (y ≡ n → ⊥)) ⊎ After (EdgeEach bodies l at instant) n y
    one_fresh g stood Last l at instant y live parted links (turns.first t) h = absurd live
    one_fresh g stood Last l at instant y live parted links (turns.later t) h = absurd live
    one_fresh g stood (BodyOf weak body rest) l at instant y live parted links (turns.first t) (inl h) =
        ⊎_elim (λ waited. inl (inl waited.0, waited.1)) (λ after. inr (after_map (λ a b edge. inl edge) after))
        (fresh (in_branch stood body g) None y live.0 parted (λ may m out k is. absurd is) t h)
    one_fresh {i} {n = n} g stood (BodyOf weak body rest) l at instant y live parted links (turns.first {others = others} t) (inr h) =
        let link = links n y (crossing stood weak body rest n y (inside g stood body live.0 t) (each_in_part w i g stood others rest y live.2 h)) in
        inl (inr h, λ is. parted n y link (ap (λ x. (label_of x).position) (sym is)))
    one_fresh {i} {n = n} g stood (BodyOf weak body rest) l at instant y live parted links (turns.later {c = c} t) (inl h) =
        let within : In stood body y =
        in_part w i (in_branch stood body g) c None y live.0 (part_closed stood body) (λ e m is. absurd is) h in
        let link = links y n (crossing stood weak body rest y n within (one_inside g stood rest live.2 t)) in
        inl (inl h, λ is. parted y n link (ap (λ x. (label_of x).position) is))
    one_fresh g stood (BodyOf weak body rest) l at instant y live parted links (turns.later t) (inr h) =
        ⊎_elim (λ waited. inl (inr waited.0, waited.1)) (λ after. inr (after_map (λ a b edge. inr (inr (inr (inr edge)))) after))
        (one_fresh g stood rest l at instant y live.2 parted (λ n m k. links n m (inr (inr (inr k)))) t h)
