-- Where a tree may end what could act in it leads to its end.
use Rattle.std.proofs.Common.{◌≡◌, ℕ, Bool, true, false, ◌&&◌, ◌||◌, cond, ◌⊎◌, inl, inr, refl, sym, ap, ◌∙◌, subst}
use Rattle.bl_tree.proofs.Basics.{or_true, either_of}
use Rattle.bl_tree.specs.declared.place.Place.{Place as Source}
use Rattle.bl_tree.specs.declared.tree.Guard.{Guard as GuardKind}
use Rattle.bl_tree.specs.declared.tree.Guard.TheVariants.{Abort, Reset}
use Rattle.bl_graph_nodes.specs.Nodes.{DepthEndAt, Node, are_instant, entry, is_instant}
use Rattle.bl_graph_nodes.specs.Plain.{Block, Bodies, Label, Plain, Body as BodyOf, Cobegin, Done, Last, Then, is_empty, plain_body}
use Rattle.bl_graph_nodes.specs.Steps.{head_of, end_node, join_node, run_node}
use Rattle.bl_graph.specs.Edges.{BodyEnd, EdgeAll, EdgeEach, Guarded, In, Out, OutAll}
use Rattle.bl_graph.specs.Laws.{InstantsPass, WayThroughAll}
use Rattle.bl_graph.specs.Walks.{After, Reached, Walk, on, stay}
use Rattle.bl_graph.proofs.Walking.{walk_more, walk_on}
use Rattle.bl_graph.proofs.Passing.{both_are, later as rest_edges}
use Rattle.bl_ctree.specs.Control.{Check, Body}
use Rattle.bl_ctree.specs.Instances.{Setting}
use Rattle.bl_ctree.specs.Pending.{is_reset_kind}
use Rattle.bl_ctree_laws.specs.Pending.{guard_may_end, may_end, may_join}
use Rattle.bl_ctree_laws.specs.Steps.{goes_on, lets, guard_ends, copies, run_ends, joins, in_seq, in_par, in_guard, in_run, first, later}
use Rattle.bl_ctree_laws.specs.Trees.{Call, Fork, Tree, Trees, Watch, Nil, Wait, Test, Idle, Do, Seq, Par, Guard, Run, are_done, are_settled, beside}
use Rattle.bl_ctree_laws.specs.Trees.{has_strong, is_nil, is_settled, no_tree, some_ended, strong_ended}
use Rattle.bl_ctree_laws_traces.specs.Progress.Laws.{Could, StepLeadsTo}
use Rattle.bl_ctree_laws_traces.specs.Progress.FitsGraph.{MayReachEnd, FitsGraph, AllFitGraph, WatchFitsGraph, CheckFitsGraph, call_stmt, check_of, test_of}
use Rattle.bl_ctree_laws_traces.specs.Progress.Places.{AreSubgraphs, BothEnds, IsSubgraph, Place, ahead_of, guarded, in_branch, later_on, whole}
use Rattle.bl_ctree_laws_traces.proofs.OnProgress.Acting.{OneCould, begins, point, region, this_could, this_one_could}

-- ---- truth

pub is_the_nil : (c : Tree) → is_nil c ≡ true → c ≡ Nil
is_the_nil Nil e = refl
is_the_nil c e = absurd cc

-- ---- walks in what contains them

pub reached_on : {F : Node → Type 0} {E : Node → Node → Type 0} {n m : Node} → Reached F E n → Walk E n m → Reached F E m
reached_on reached more = record { from = reached.from; begins = reached.begins; walk = walk_on reached.walk more }

pub in_on : (stood : Bool) (body : Block) {n m : Node} → In stood body n → Walk (EdgeAll body) n m → In stood body m
in_on false body reached more = reached_on reached more
in_on true body reached more = reached_on reached more

-- one more edge
pub one_on : {E : Node → Node → Type 0} {n by m : Node} → Walk E n by → E by m → Walk E n m
one_on {by = by} {m = m} walk edge = walk_on walk (on by m m edge (stay m))

pub after_walk : {E : Node → Node → Type 0} {n m : Node} → After E n m → Walk E n m
after_walk {n = n} {m = m} after = on n after.by m after.edge after.rest

-- ---- what leads on

-- a candidate of branches leads on
pub record OneLeads (w : Setting) (i : ℕ) (branches : Trees) (E : Node → Node → Type 0) (F : Node → Type 0) : Type 0 where
  pub could : OneCould w i branches
  pub end : Node
  pub walk : Walk E (head_of could.label) end
  pub leads : F end

-- ---- ends

-- the join that a `cobegin` has is where it leads out
pub join_out : (l : Label) (at : Source) (bodies : Bodies) (stood : Bool) → (stood ≡ false → is_instant (Cobegin l at bodies) ≡ true) →
    Out (Cobegin l at bodies) (join_node stood l at)
join_out l at bodies true so = inr refl
join_out l at bodies false so = inl (so refl, refl)

-- so is the end of a `when`
pub end_out : (s : Watch) (stood : Bool) → (stood ≡ false → are_instant s.body ≡ true) →
    BodyEnd s.label s.place s.body (end_node stood s.label s.place)
end_out s true so = inr refl
end_out s false so = inl (so refl, refl)

-- what leads to both ends leads to this one
pub to_end : (s : Watch) (E : Node → Node → Type 0) (stood : Bool) (n : Node) → BothEnds s E n → (stood ≡ false → are_instant s.body ≡ true) →
    E n (end_node stood s.label s.place)
to_end s E true n both so = both.1
to_end s E false n both so = both.0 (so refl)

-- an edge from a branch to the join
pub to_join : (weak : Bool) (body : Block) (rest : Bodies) (l : Label) (at : Source) (so stood : Bool) (n : Node) → (stood ≡ false → so ≡ true) →
    In stood body n → (weak ≡ true) ⊎ OutAll body n → EdgeEach (BodyOf weak body rest) l at so n (join_node stood l at)
to_join weak body rest l at so true n is inside ends = inr (inr (inr (inl ((inside, ends), refl))))
to_join weak body rest l at so false n is inside ends = inr (inr (inl ((inside, ends), (is refl, refl))))

-- of branches of which one leads on, the later ones
pub later_leads : {w : Setting} {i : ℕ} {branches : Trees} {E G : Node → Node → Type 0} {F H : Node → Type 0} (weak : Bool) (c : Tree) →
    ((n m : Node) → E n m → G n m) → ((n : Node) → F n → H n) → OneLeads w i branches E F → OneLeads w i (beside weak c branches) G H
later_leads weak c more so leads = record {
  could = this_one_could (later leads.could.moves tt);
  end = leads.end;
  walk = walk_more more leads.walk;
  leads = so leads.end leads.leads;
}

-- a branch leads to the join from what leads out of it
first_joins : (w : Setting) (i : ℕ) (weak : Bool) (c : Tree) (branches : Trees) (body : Block) (rest : Bodies) (l : Label) (at : Source)
    (so stood : Bool) (g : Place) → FitsGraph w i c (in_branch stood body g) → (stood ≡ false → so ≡ true) → StepLeadsTo w i c (EdgeAll body) (OutAll body) →
    OneLeads w i (beside weak c branches) (EdgeEach (BodyOf weak body rest) l at so) (λ n. n ≡ join_node stood l at)
first_joins w i weak c branches body rest l at so stood g live is leads = record {
  could = this_one_could (first leads.could.moves tt);
  end = join_node stood l at;
  walk = one_on (walk_more (λ n m h. inl h) leads.walk)
      (to_join weak body rest l at so stood leads.end is
      (in_on stood body (region leads.could.moves (in_branch stood body g) live) leads.walk) (inr leads.leads));
  leads = refl;
}

-- what could act in a weak one does
weak_joins : (w : Setting) (i : ℕ) (c : Tree) (branches : Trees) (body : Block) (rest : Bodies) (l : Label) (at : Source)
    (so stood : Bool) (g : Place) → FitsGraph w i c (in_branch stood body g) → (stood ≡ false → so ≡ true) → Could w i c →
    OneLeads w i (beside true c branches) (EdgeEach (BodyOf true body rest) l at so) (λ n. n ≡ join_node stood l at)
weak_joins w i c branches body rest l at so stood g live is could = record {
  could = this_one_could (first could.moves tt);
  end = join_node stood l at;
  walk = one_on (stay (head_of could.label))
      (to_join true body rest l at so stood (head_of could.label) is (region could.moves (in_branch stood body g) live) (inl refl));
  leads = refl;
}

nil_settled : (c : Tree) → is_nil c ≡ true → is_settled c ≡ true
nil_settled Nil e = refl
nil_settled c e = absurd cc

pub rest_open : (c rest : Bool) → c ≡ true → (c && rest) ≡ false → rest ≡ false
rest_open true rest is e = e
rest_open false rest is e = absurd cc

-- where all strong branches have ended, one that is not settled is weak
unsettled_joins : (w : Setting) (i : ℕ) (branches : Trees) (bodies : Bodies) (l : Label) (at : Source) (so stood : Bool) (g : Place) →
    AllFitGraph w i branches bodies stood g → (stood ≡ false → so ≡ true) → strong_ended branches ≡ true → are_settled branches ≡ false →
    OneLeads w i branches (EdgeEach bodies l at so) (λ n. n ≡ join_node stood l at)
unsettled_joins w i no_tree bodies l at so stood g lives is ended e = absurd cc
unsettled_joins w i (beside weak c rest) Last l at so stood g lives is ended e = elim lives [ ]
unsettled_joins w i (beside false c rest) (BodyOf weak' body bodies) l at so stood g lives is ended e =
    let both = both_are (is_nil c) (strong_ended rest) ended in
    later_leads false c (rest_edges weak' body bodies l at so) (λ n h. h)
    (unsettled_joins w i rest bodies l at so stood g lives.2 is both.1 (rest_open (is_settled c) (are_settled rest) (nil_settled c both.0) e))
unsettled_joins w i (beside true c rest) (BodyOf weak' body bodies) l at so stood g lives is ended e = by_test (is_settled c) refl e
    (λ h. unsettled_joins w i rest bodies l at so stood g lives.2 is ended h)
  where
    by_test : (a : Bool) → is_settled c ≡ a → (a && are_settled rest) ≡ false →
        (are_settled rest ≡ false → OneLeads w i rest (EdgeEach bodies l at so) (λ n. n ≡ join_node stood l at)) →
        OneLeads w i (beside true c rest) (EdgeEach (BodyOf weak' body bodies) l at so) (λ n. n ≡ join_node stood l at)
    by_test true still e more = later_leads true c (rest_edges weak' body bodies l at so) (λ n h. h) (more e)
    by_test false moving e more =
        subst (λ b. OneLeads w i (beside true c rest) (EdgeEach (BodyOf b body bodies) l at so) (λ n. n ≡ join_node stood l at)) lives.1
        (weak_joins w i c rest body bodies l at so stood g lives.0 is (point c i (in_branch stood body g) lives.0 moving))

pub none_strong : (branches : Trees) → has_strong branches ≡ false → strong_ended branches ≡ true
none_strong no_tree e = refl
none_strong (beside true c rest) e = none_strong rest e
none_strong (beside false c rest) e = absurd cc

-- so many have ended as are needed, then all strong ones have
pub done_strong : (branches : Trees) → are_done branches ≡ true → strong_ended branches ≡ true
done_strong branches e = by_kind (has_strong branches) refl e
  where
    by_kind : (b : Bool) → has_strong branches ≡ b → cond b (strong_ended branches) (some_ended branches) ≡ true → strong_ended branches ≡ true
    by_kind true is e = e
    by_kind false is e = none_strong branches is

abbrev pub Ended : Bool → Trees → Type 0
Ended strong branches = cond strong (strong_ended branches) (some_ended branches) ≡ true

-- a `cobegin` that is done is due, or something weak in it could act
done_leads : (w : Setting) (i : ℕ) (s : Fork) (stood : Bool) (branches : Trees) (g : Place) → AllFitGraph w i branches s.bodies stood g →
    MayReachEnd stood (is_instant (Cobegin s.label s.place s.bodies)) (join_node stood s.label s.place) g → IsSubgraph w i (Cobegin s.label s.place s.bodies) g →
    are_done branches ≡ true → StepLeadsTo w i (Par s stood branches) g.edges g.out
done_leads w i s stood branches g lives ends fits done = by_test (are_settled branches) refl
  where
    by_test : (b : Bool) → are_settled branches ≡ b → StepLeadsTo w i (Par s stood branches) g.edges g.out
    by_test true still = record {
      could = this_could (joins still done);
      end = join_node stood s.label s.place;
      walk = stay (join_node stood s.label s.place);
      leads = fits.outs _ (join_out s.label s.place s.bodies stood ends.0);
    }
    by_test false moving =
        let one = unsettled_joins w i branches s.bodies s.label s.place (is_instant (Cobegin s.label s.place s.bodies)) stood g lives ends.0
        (done_strong branches done) moving in
        record {
          could = this_could (in_par one.could.moves);
          end = one.end;
          walk = walk_more fits.edges one.walk;
          leads = subst g.out (sym one.leads) (fits.outs _ (join_out s.label s.place s.bodies stood ends.0));
        }

fork_leads : (w : Setting) (i : ℕ) (s : Fork) (stood : Bool) (branches : Trees) (g : Place) → AllFitGraph w i branches s.bodies stood g →
    MayReachEnd stood (is_instant (Cobegin s.label s.place s.bodies)) (join_node stood s.label s.place) g → IsSubgraph w i (Cobegin s.label s.place s.bodies) g →
    Ended (has_strong branches) branches
    ⊎ OneLeads w i branches (EdgeEach s.bodies s.label s.place (is_instant (Cobegin s.label s.place s.bodies)))
    (λ n. n ≡ join_node stood s.label s.place) →
    StepLeadsTo w i (Par s stood branches) g.edges g.out
fork_leads w i s stood branches g lives ends fits (inl done) = done_leads w i s stood branches g lives ends fits done
fork_leads w i s stood branches g lives ends fits (inr one) = record {
  could = this_could (in_par one.could.moves);
  end = one.end;
  walk = walk_more fits.edges one.walk;
  leads = subst g.out (sym one.leads) (fits.outs _ (join_out s.label s.place s.bodies stood ends.0));
}

-- from what leads out of the first statement through the block after it
seq_leads : (w : Setting) (i : ℕ) (c : Tree) (s : Plain) (rest : Block) (g : Place) → is_nil c ≡ false → AreSubgraphs w i (Then s rest) g →
    (is_nil c ≡ true) ⊎ StepLeadsTo w i c g.edges (λ n. g.edges n (entry s)) → (is_empty (Then s rest) ≡ true) ⊎ WayThroughAll (Then s rest) →
    StepLeadsTo w i (Seq c (Then s rest)) g.edges g.out
seq_leads w i c s rest g unended fits (inl nil) way = absurd cc
seq_leads w i c s rest g unended fits (inr leads) (inl empty) = absurd cc
seq_leads w i c s rest g unended fits (inr leads) (inr way) = record {
  could = this_could (in_seq leads.could.moves);
  end = way.end;
  walk = walk_on (one_on leads.walk leads.leads)
      (subst (λ n. Walk g.edges n way.end) way.is_reached.begins (walk_more fits.edges way.is_reached.walk));
  leads = fits.outs way.end way.leads_on;
}

-- from what leads out of the body to the end of the `when`
watch_leads : (w : Setting) (i : ℕ) (s : Watch) (stood : Bool) (c : Tree) (g : Place) → WatchFitsGraph w i s stood (may_end c) g → may_end c ≡ true →
    (is_nil c ≡ true) ⊎ StepLeadsTo w i c g.edges (BothEnds s g.edges) → StepLeadsTo w i (Guard s Body stood c) g.edges g.out
watch_leads w i s stood c g has ends (inl nil) =
    subst (λ x. StepLeadsTo w i (Guard s Body stood x) g.edges g.out) (sym (is_the_nil c nil)) (record {
      could = this_could guard_ends;
      end = end_node stood s.label s.place;
      walk = stay (end_node stood s.label s.place);
      leads = has.fits.outs _ (end_out s stood (has.closes ends).0);
    })
watch_leads w i s stood c g has ends (inr leads) = record {
  could = this_could (in_guard leads.could.moves);
  end = end_node stood s.label s.place;
  walk = one_on leads.walk (to_end s g.edges stood leads.end leads.leads (has.closes ends).0);
  leads = has.fits.outs _ (end_out s stood (has.closes ends).0);
}

-- the check of an abort leads to its end, that of a reset to the body and through it
check_leads : (w : Setting) (i : ℕ) (s : Watch) (stood : Bool) (c : Tree) (g : Place) → CheckFitsGraph w i s stood (is_nil c) g →
    Walk g.edges (check_of s) (DepthEndAt s.label s.place) → StepLeadsTo w i (Guard s Check stood c) g.edges g.out
check_leads w i s stood c g has walk = record {
  could = this_could lets;
  end = DepthEndAt s.label s.place;
  walk = walk;
  leads = has.fits.outs _ (inr refl);
}

abort_walk : (w : Setting) (i : ℕ) (s : Watch) (stood nil : Bool) (g : Place) → CheckFitsGraph w i s stood nil g → s.guard ≡ Abort →
    Walk g.edges (check_of s) (DepthEndAt s.label s.place)
abort_walk w i s stood nil g has is =
    one_on (stay (check_of s)) (has.fits.edges _ _
    (inr (inr (inr (inl (refl, subst (λ k. Guarded k s.label s.place s.body (DepthEndAt s.label s.place)) (sym is) refl))))))

-- from the check of a reset to its end, where its body may end at once
reset_walk : (w : Setting) (i : ℕ) (s : Watch) (stood nil : Bool) (g : Place) → CheckFitsGraph w i s stood nil g → s.guard ≡ Reset →
    (is_empty s.body ≡ true) ⊎ WayThroughAll s.body → Walk g.edges (check_of s) (DepthEndAt s.label s.place)
reset_walk w i s stood nil g has is (inl empty) =
    one_on (stay (check_of s)) (has.fits.edges _ _
    (inr (inr (inr (inl (refl, subst (λ k. Guarded k s.label s.place s.body (DepthEndAt s.label s.place)) (sym is) (inr (empty, inr refl))))))))
reset_walk w i s stood nil g has is (inr way) =
    on (check_of s) way.is_reached.from (DepthEndAt s.label s.place) (has.fits.edges _ _
    (inr (inr (inr (inl (refl, subst (λ k. Guarded k s.label s.place s.body way.is_reached.from) (sym is) (inl way.is_reached.begins)))))))
    (one_on (walk_more (λ n m h. has.fits.edges n m (inl h)) way.is_reached.walk)
    (has.fits.edges _ _ (inr (inr (inr (inr (way.leads_on, inr refl)))))))

-- from the check to what of the body could act, and on to the end
pub body_walk : (w : Setting) (i : ℕ) (s : Watch) (c : Tree) (g : Place) → FitsGraph w i c (later_on (guarded s g)) → is_nil c ≡ false →
    (is_nil c ≡ true) ⊎ StepLeadsTo w i c g.edges (BothEnds s g.edges) → Walk g.edges (check_of s) (DepthEndAt s.label s.place)
body_walk w i s c g live unended (inl nil) = absurd cc
body_walk w i s c g live unended (inr leads) =
    one_on (walk_on (after_walk (region leads.could.moves (later_on (guarded s g)) live)) leads.walk) leads.leads.1

-- a `when` that is still to be checked may end: by its kind
guard_walk : (w : Setting) (i : ℕ) (s : Watch) (stood : Bool) (c : Tree) (g : Place) → CheckFitsGraph w i s stood (is_nil c) g →
    FitsGraph w i c (later_on (guarded s g)) → guard_may_end Check s (may_end c) ≡ true →
    (may_end c ≡ true → (is_nil c ≡ true) ⊎ StepLeadsTo w i c g.edges (BothEnds s g.edges)) →
    (are_instant s.body ≡ true → (is_empty s.body ≡ true) ⊎ WayThroughAll s.body) → Walk g.edges (check_of s) (DepthEndAt s.label s.place)
guard_walk w i s stood c g has live e more through = by_kind s.guard refl e
  where
    by_kind : (k : GuardKind) → s.guard ≡ k → cond (is_reset_kind k) (may_end c || are_instant s.body) true ≡ true →
        Walk g.edges (check_of s) (DepthEndAt s.label s.place)
    by_kind Abort is e = abort_walk w i s stood (is_nil c) g has is
    by_kind Reset is e = elim (either_of (may_end c) (are_instant s.body) e) [
      | inl ends ↦ body_walk w i s c g live has.unended (more ends)
      | inr instant ↦ reset_walk w i s stood (is_nil c) g has is (through instant)
    ]

-- a `run` that may end has stood, and its node leads out
pub run_out : (w : Setting) (i : ℕ) (s : Call) (stood : Bool) (g : Place) → IsSubgraph w i (call_stmt s) g → stood ≡ true →
    g.out (run_node stood s.label s.place s.arguments)
run_out w i s true g fits is = fits.outs _ refl
run_out w i s false g fits is = absurd cc

call_leads : (w : Setting) (i : ℕ) (s : Call) (callee : ℕ) (stood : Bool) (c : Tree) (g : Place) → IsSubgraph w i (call_stmt s) g → stood ≡ true →
    {E : Node → Node → Type 0} {F : Node → Type 0} → (is_nil c ≡ true) ⊎ StepLeadsTo w callee c E F →
    StepLeadsTo w i (Run s callee Body stood c) g.edges g.out
call_leads w i s callee stood c g fits is (inl nil) =
    subst (λ x. StepLeadsTo w i (Run s callee Body stood x) g.edges g.out) (sym (is_the_nil c nil)) (record {
      could = this_could run_ends;
      end = run_node stood s.label s.place s.arguments;
      walk = stay (run_node stood s.label s.place s.arguments);
      leads = run_out w i s stood g fits is;
    })
call_leads w i s callee stood c g fits is (inr leads) = record {
  could = this_could (in_run leads.could.moves);
  end = run_node stood s.label s.place s.arguments;
  walk = stay (run_node stood s.label s.place s.arguments);
  leads = run_out w i s stood g fits is;
}

-- all strong branches may end: they have ended, or one leads to the join
strong_leads : (w : Setting) (i : ℕ) (weak : Bool) (c : Tree) (branches : Trees) (body : Block) (rest : Bodies) (l : Label) (at : Source)
    (so stood : Bool) (g : Place) → FitsGraph w i c (in_branch stood body g) → (stood ≡ false → so ≡ true) →
    (may_end c ≡ true → (is_nil c ≡ true) ⊎ StepLeadsTo w i c (EdgeAll body) (OutAll body)) →
    (may_join true branches ≡ true → Ended true branches ⊎ OneLeads w i branches (EdgeEach rest l at so) (λ n. n ≡ join_node stood l at)) →
    ((weak || may_end c) && may_join true branches) ≡ true →
    Ended true (beside weak c branches)
    ⊎ OneLeads w i (beside weak c branches) (EdgeEach (BodyOf weak body rest) l at so) (λ n. n ≡ join_node stood l at)
strong_leads w i true c branches body rest l at so stood g live is one more e = elim (more e) [
  | inl ended ↦ inl ended
  | inr leads ↦ inr (later_leads true c (rest_edges true body rest l at so) (λ n h. h) leads)
]
strong_leads w i false c branches body rest l at so stood g live is one more e =
    let both = both_are (may_end c) (may_join true branches) e in
    elim (one both.0) [
      | inl nil ↦ elim (more both.1) [
        | inl ended ↦ inl (ap (λ b. b && strong_ended branches) nil ∙ ended)
        | inr leads ↦ inr (later_leads false c (rest_edges false body rest l at so) (λ n h. h) leads)
      ]
      | inr leads ↦ inr (first_joins w i false c branches body rest l at so stood g live is leads)
    ]

-- some branch may end: it has ended, or leads to the join
some_leads : (w : Setting) (i : ℕ) (weak : Bool) (c : Tree) (branches : Trees) (body : Block) (rest : Bodies) (l : Label) (at : Source)
    (so stood : Bool) (g : Place) → FitsGraph w i c (in_branch stood body g) → (stood ≡ false → so ≡ true) →
    (may_end c ≡ true → (is_nil c ≡ true) ⊎ StepLeadsTo w i c (EdgeAll body) (OutAll body)) →
    (may_join false branches ≡ true → Ended false branches ⊎ OneLeads w i branches (EdgeEach rest l at so) (λ n. n ≡ join_node stood l at)) →
    (may_end c || may_join false branches) ≡ true →
    Ended false (beside weak c branches)
    ⊎ OneLeads w i (beside weak c branches) (EdgeEach (BodyOf weak body rest) l at so) (λ n. n ≡ join_node stood l at)
some_leads w i weak c branches body rest l at so stood g live is one more e = elim (either_of (may_end c) (may_join false branches) e) [
  | inl ends ↦ elim (one ends) [
    | inl nil ↦ inl (ap (λ b. b || some_ended branches) nil)
    | inr leads ↦ inr (first_joins w i weak c branches body rest l at so stood g live is leads)
  ]
  | inr others ↦ elim (more others) [
    | inl ended ↦ inl (ap (λ b. is_nil c || b) ended ∙ or_true (is_nil c))
    | inr leads ↦ inr (later_leads weak c (rest_edges weak body rest l at so) (λ n h. h) leads)
  ]
]

module _ {w : Setting} (pass : InstantsPass) where
  mutual
    pub way_out : (c : Tree) (i : ℕ) (g : Place) → FitsGraph w i c g → may_end c ≡ true → (is_nil c ≡ true) ⊎ StepLeadsTo w i c g.edges g.out
    way_out Nil i g live e = inl refl
    way_out (Wait s) i g live e = absurd cc
    way_out (Test s) i g live e = inr (record { could = this_could goes_on; end = test_of s; walk = stay (test_of s); leads = live.0 })
    way_out (Idle body) i g live e = elim live [ ]
    way_out (Do s) i g live e =
        let way = pass.statements s e in
        let begun = begins w i s live.0.calls in
        inr (record {
          could = begun.could;
          end = way.end;
          walk = subst (λ n. Walk g.edges n way.end) (sym begun.is) (walk_more live.0.edges way.walk);
          leads = live.0.outs way.end way.leads_on;
        })
    way_out (Seq c Done) i g live e = elim live [ ]
    way_out (Seq c (Then s rest)) i g live e =
        let both = both_are (may_end c) (are_instant (Then s rest)) e in
        inr (seq_leads w i c s rest g live.1.unended live.1.fits (way_out c i (ahead_of (entry s) g) live.0 both.0) (pass.blocks (Then s rest) both.1))
    way_out (Par s stood branches) i g live e =
        inr (fork_leads w i s stood branches g live.0 (live.1.joins e) live.1.fits
        (ways_out branches i s.bodies (has_strong branches) s.label s.place (is_instant (Cobegin s.label s.place s.bodies)) stood g live.0
        (live.1.joins e).0 e))
    way_out (Guard s Body stood c) i g live e = inr (watch_leads w i s stood c g live.1 e (way_out c i (guarded s g) live.0 e))
    way_out (Guard s Check stood c) i g live e =
        inr (check_leads w i s stood c g live.1
        (guard_walk w i s stood c g live.1 live.0 e (way_out c i (later_on (guarded s g)) live.0) (pass.blocks s.body)))
    way_out (Run s callee Body stood c) i g live e =
        inr (call_leads w i s callee stood c g live.2.fits (live.2.stays e)
        (way_out c callee (whole stood (plain_body live.0.body)) live.1 e))
    way_out (Run s callee Check stood c) i g live e = inr (record {
      could = this_could copies;
      end = run_node stood s.label s.place s.arguments;
      walk = stay (run_node stood s.label s.place s.arguments);
      leads = run_out w i s stood g live.2.fits live.2.has_stood;
    })

    pub ways_out : (branches : Trees) (i : ℕ) (bodies : Bodies) (strong : Bool) (l : Label) (at : Source) (so stood : Bool) (g : Place) →
        AllFitGraph w i branches bodies stood g → (stood ≡ false → so ≡ true) → may_join strong branches ≡ true →
        Ended strong branches ⊎ OneLeads w i branches (EdgeEach bodies l at so) (λ n. n ≡ join_node stood l at)
    ways_out no_tree i bodies true l at so stood g lives is e = inl refl
    ways_out no_tree i bodies false l at so stood g lives is e = absurd cc
    ways_out (beside weak c rest) i Last strong l at so stood g lives is e = elim lives [ ]
    ways_out (beside weak c rest) i (BodyOf weak' body bodies) true l at so stood g lives is e =
        subst (λ b. Ended true (beside weak c rest)
        ⊎ OneLeads w i (beside weak c rest) (EdgeEach (BodyOf b body bodies) l at so) (λ n. n ≡ join_node stood l at)) lives.1
        (strong_leads w i weak c rest body bodies l at so stood g lives.0 is (way_out c i (in_branch stood body g) lives.0)
        (ways_out rest i bodies true l at so stood g lives.2 is) e)
    ways_out (beside weak c rest) i (BodyOf weak' body bodies) false l at so stood g lives is e =
        subst (λ b. Ended false (beside weak c rest)
        ⊎ OneLeads w i (beside weak c rest) (EdgeEach (BodyOf b body bodies) l at so) (λ n. n ≡ join_node stood l at)) lives.1
        (some_leads w i weak c rest body bodies l at so stood g lives.0 is (way_out c i (in_branch stood body g) lives.0)
        (ways_out rest i bodies false l at so stood g lives.2 is) e)
