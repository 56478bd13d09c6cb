-- Where a tree may write something what could act in it leads to a node that writes it.
use Rattle.std.proofs.Common.{◌≡◌, ℕ, Bool, true, false, not, ◌&&◌, ◌||◌, ◌++◌, map, ◌⊎◌, inl, inr, refl, sym, ◌∙◌, subst}
use Rattle.std.specs.List.{list_any}
use Rattle.std.proofs.lemmas.Bool.{not-true}
use Rattle.bl_tree.proofs.Basics.{first_of_or, either_of}
use Rattle.bl_tree.specs.declared.place.Place.{Place as Source}
use Rattle.bl_tree.specs.declared.static_path.Static.{Static}
use Rattle.bl_tree.specs.declared.tree.Guard.{Guard as GuardKind}
use Rattle.bl_tree.specs.declared.tree.Guard.TheVariants.{Abort, Reset}
use Rattle.bl_tree.specs.Effects.{target_static}
use Rattle.bl_tree.specs.Static.{static_of}
use Rattle.bl_graph_nodes.specs.Nodes.{Node, entry, is_instant, node_writes}
use Rattle.bl_graph_nodes.specs.Plain.{Block, Bodies, Label, Plain, Body as BodyOf, Cobegin, Done, Last, Then}
use Rattle.bl_graph_nodes.specs.Steps.{StepLabel, head_of, run_node}
use Rattle.bl_graph_nodes.specs.Writes.{surface_writes, surface_writes_in}
use Rattle.bl_graph.specs.Edges.{EdgeAll, EdgeEach, Guarded, In, InEach}
use Rattle.bl_graph.specs.Laws.{InstantsPass, WritersAreReached}
use Rattle.bl_graph.specs.Walks.{Walk, on, stay}
use Rattle.bl_graph.proofs.Walking.{walk_more, walk_on}
use Rattle.bl_graph.proofs.Passing.{both_are, later}
use Rattle.bl_ctree.specs.Control.{Check, Body}
use Rattle.bl_ctree.specs.Instances.{Setting}
use Rattle.bl_ctree.specs.Pending.{is_reset_kind}
use Rattle.bl_ctree_laws.specs.Pending.{Deed, any_writes_path, anew, may_end, may_write_path, soon, soon_in}
use Rattle.bl_ctree_laws.specs.Soon.{SoonIsSurface}
use Rattle.bl_ctree_laws.specs.Steps.{Anyway, Moves, copies, first, in_guard, in_par, in_run, in_seq, lets, run_ends}
use Rattle.bl_ctree_laws.specs.Trees.{Call, Tree, Trees, Watch, Nil, Wait, Test, Idle, Do, Seq, Par, Guard, Run, beside, is_nil, is_settled, no_tree}
use Rattle.bl_ctree_laws_traces.specs.Progress.Laws.{Could, StepLeadsTo, NodeWrites}
use Rattle.bl_ctree_laws_traces.specs.Progress.FitsGraph.{AllFitGraph, CheckFitsGraph, FitsGraph, check_of}
use Rattle.bl_ctree_laws_traces.specs.Progress.Places.{AreSubgraphs, IsSubgraph, Place, ahead_of, guarded, in_branch, later_on}
use Rattle.bl_ctree_laws_traces.proofs.OnProgress.Acting.{begins, point, region, this_could, this_one_could}
use Rattle.bl_ctree_laws_traces.proofs.OnProgress.Leading.{OneLeads, after_walk, in_on, later_leads, one_on, way_out}
use Rattle.bl_ctree_laws_traces.proofs.OnProgress.Paths.{any_left, any_right, contained, member, set_passes}
use Rattle.bl_ctree_laws.proofs.Surfaces.{passed, passing}

-- ---- what begins

-- a node that is reached from the entry of a statement, and one that is reached in a block
record Writer (E : Node → Node → Type 0) (n : Node) (test : Static → Bool) : Type 0 where
  end : Node
  walk : Walk E n end
  writes : NodeWrites test end

record WriterAt (body : Block) (test : Static → Bool) : Type 0 where
  end : Node
  reached : In false body end
  writes : NodeWrites test end

writer_of : SoonIsSurface → WritersAreReached → (w : Setting) (i : ℕ) (test : Static → Bool) (s : Plain) (g : Place) → IsSubgraph w i s g →
    soon test s ≡ true → Writer g.edges (entry s) test
writer_of surfaces writers w i test s g fits e =
    let p = passing test (surface_writes s) (sym (surfaces.statements test s) ∙ e) in
    let way = writers.statements s p.one (contained (surface_writes s) p.one p.among) in
    record {
      end = way.writer;
      walk = walk_more fits.edges way.walk;
      writes = passed test (node_writes way.writer) p.one (member (node_writes way.writer) p.one way.writes) p.passes;
    }

writer_in : SoonIsSurface → WritersAreReached → (test : Static → Bool) (body : Block) → soon_in test body ≡ true → WriterAt body test
writer_in surfaces writers test body e =
    let p = passing test (surface_writes_in body) (sym (surfaces.blocks test body) ∙ e) in
    let way = writers.blocks body p.one (contained (surface_writes_in body) p.one p.among) in
    record {
      end = way.writer;
      reached = way.is_reached;
      writes = passed test (node_writes way.writer) p.one (member (node_writes way.writer) p.one way.writes) p.passes;
    }

-- ---- parts

-- what is ahead in the block after what leads out of the first
seq_writes : {w : Setting} {i : ℕ} {c : Tree} {s : Plain} {rest : Block} (g : Place) (test : Static → Bool) → is_nil c ≡ false →
    AreSubgraphs w i (Then s rest) g → (is_nil c ≡ true) ⊎ StepLeadsTo w i c g.edges (λ n. g.edges n (entry s)) → WriterAt (Then s rest) test →
    StepLeadsTo w i (Seq c (Then s rest)) g.edges (NodeWrites test)
seq_writes g test unended fits (inl nil) way = absurd cc
seq_writes g test unended fits (inr leads) way = record {
  could = this_could (in_seq leads.could.moves);
  end = way.end;
  walk = walk_on (one_on leads.walk leads.leads)
      (subst (λ n. Walk g.edges n way.end) way.reached.begins (walk_more fits.edges way.reached.walk));
  leads = way.writes;
}

-- a check that is true of a reset leads to what its body writes
anew_writes : (w : Setting) (i : ℕ) (s : Watch) (stood : Bool) (c : Tree) (g : Place) (test : Static → Bool) → CheckFitsGraph w i s stood (is_nil c) g →
    s.guard ≡ Reset → WriterAt s.body test → StepLeadsTo w i (Guard s Check stood c) g.edges (NodeWrites test)
anew_writes w i s stood c g test has is way = record {
  could = this_could lets;
  end = way.end;
  walk = on (check_of s) way.reached.from way.end (has.fits.edges _ _
      (inr (inr (inr (inl (refl, subst (λ k. Guarded k s.label s.place s.body way.reached.from) (sym is) (inl way.reached.begins)))))))
      (walk_more (λ n m h. has.fits.edges n m (inl h)) way.reached.walk);
  leads = way.writes;
}

check_writes : (w : Setting) (i : ℕ) (s : Watch) (stood : Bool) (c : Tree) (g : Place) (test : Static → Bool) → CheckFitsGraph w i s stood (is_nil c) g →
    FitsGraph w i c (later_on (guarded s g)) → (may_write_path test c ≡ true → StepLeadsTo w i c g.edges (NodeWrites test)) →
    (soon_in test s.body ≡ true → WriterAt s.body test) → (may_write_path test c || anew test s Check) ≡ true →
    StepLeadsTo w i (Guard s Check stood c) g.edges (NodeWrites test)
check_writes w i s stood c g test has live more begun e = elim (either_of (may_write_path test c) (anew test s Check) e) [
  | inl inner ↦ let leads = more inner in record {
    could = this_could lets;
    end = leads.end;
    walk = walk_on (after_walk (region leads.could.moves (later_on (guarded s g)) live)) leads.walk;
    leads = leads.leads;
  }
  | inr outer ↦ by_kind s.guard refl (both_are (is_reset_kind s.guard) (soon_in test s.body) outer)
]
  where
    by_kind : (k : GuardKind) → s.guard ≡ k → (is_reset_kind k ≡ true) × (soon_in test s.body ≡ true) →
        StepLeadsTo w i (Guard s Check stood c) g.edges (NodeWrites test)
    by_kind Abort is both = absurd (cc (both.0))
    by_kind Reset is both = anew_writes w i s stood c g test has is (begun both.1)

body_writes : {w : Setting} {i : ℕ} {s : Watch} {stood : Bool} {c : Tree} (g : Place) (test : Static → Bool) → StepLeadsTo w i c g.edges (NodeWrites test) →
    StepLeadsTo w i (Guard s Body stood c) g.edges (NodeWrites test)
body_writes g test leads = record { could = this_could (in_guard leads.could.moves); end = leads.end; walk = leads.walk; leads = leads.leads }

-- ---- a `run`

-- the node of a `run` writes its outputs, and where it has stood its target
run_node_writes : (test : Static → Bool) (s : Call) (stood ends : Bool) → (ends ≡ true → stood ≡ true) →
    (list_any test (map static_of s.arguments.outputs) || (ends && list_any test (target_static s.arguments.target))) ≡ true →
    NodeWrites test (run_node stood s.label s.place s.arguments)
run_node_writes test s true ends has e =
    set_passes test (target_static s.arguments.target ++ map static_of s.arguments.outputs)
    (elim (either_of (list_any test (map static_of s.arguments.outputs)) (ends && list_any test (target_static s.arguments.target)) e) [
      | inl outputs ↦ any_right test (target_static s.arguments.target) (map static_of s.arguments.outputs) outputs
      | inr target ↦ any_left test (target_static s.arguments.target) (map static_of s.arguments.outputs)
          (both_are ends (list_any test (target_static s.arguments.target)) target).1
    ])
run_node_writes test s false ends has e =
    set_passes test (map static_of s.arguments.outputs)
    (elim (either_of (list_any test (map static_of s.arguments.outputs)) (ends && list_any test (target_static s.arguments.target)) e) [
      | inl outputs ↦ outputs
      | inr target ↦ absurd (cc (has (both_are ends (list_any test (target_static s.arguments.target)) target).0))
    ])

-- its node is that of whatever could act in it
at_run_node : {w : Setting} {i : ℕ} {s : Call} {callee : ℕ} {stood : Bool} {c : Tree} (could : Could w i (Run s callee Body stood c)) →
    head_of could.label ≡ run_node stood s.label s.place s.arguments
at_run_node could = by_move could.moves
  where
    by_move : {w : Setting} {i : ℕ} {s : Call} {callee : ℕ} {stood : Bool} {c c' : Tree} {d : Bool} {a : Deed} {n : StepLabel} →
        Moves Anyway w i (Run s callee Body stood c) d a n c' → head_of n ≡ run_node stood s.label s.place s.arguments
    by_move run_ends = refl
    by_move (in_run move) = refl

run_writer : (w : Setting) (i : ℕ) (s : Call) (callee : ℕ) (stood : Bool) (c : Tree) (g : Place) (test : Static → Bool) →
    FitsGraph w i (Run s callee Body stood c) g → (not (is_settled (Run s callee Body stood c)) ≡ true)
    × ((list_any test (map static_of s.arguments.outputs) || (may_end c && list_any test (target_static s.arguments.target))) ≡ true) →
    StepLeadsTo w i (Run s callee Body stood c) g.edges (NodeWrites test)
run_writer w i s callee stood c g test live both =
    let could = point (Run s callee Body stood c) i g live (not-true (is_settled (Run s callee Body stood c)) both.0) in
    record {
      could = could;
      end = run_node stood s.label s.place s.arguments;
      walk = subst (λ n. Walk g.edges n (run_node stood s.label s.place s.arguments)) (sym (at_run_node could))
          (stay (run_node stood s.label s.place s.arguments));
      leads = run_node_writes test s stood (may_end c) live.2.stays both.1;
    }

-- ---- branches

-- a branch leads to a node that writes, which is of the part that acts
first_writes : (w : Setting) (i : ℕ) (weak : Bool) (c : Tree) (branches : Trees) (weak' : Bool) (body : Block) (rest : Bodies) (l : Label) (at : Source)
    (so stood : Bool) (g : Place) (test : Static → Bool) → FitsGraph w i c (in_branch stood body g) → StepLeadsTo w i c (EdgeAll body) (NodeWrites test) →
    OneLeads w i (beside weak c branches) (EdgeEach (BodyOf weak' body rest) l at so) (λ n. NodeWrites test n × InEach stood (BodyOf weak' body rest) n)
first_writes w i weak c branches weak' body rest l at so stood g test live leads = record {
  could = this_one_could (first leads.could.moves tt);
  end = leads.end;
  walk = walk_more (λ n m h. inl h) leads.walk;
  leads = (leads.leads, inl (in_on stood body (region leads.could.moves (in_branch stood body g) live) leads.walk));
}

module _ {w : Setting} (pass : InstantsPass) (writers : WritersAreReached) (surfaces : SoonIsSurface) (test : Static → Bool) where
  mutual
    pub writer : (c : Tree) (i : ℕ) (g : Place) → FitsGraph w i c g → may_write_path test c ≡ true → StepLeadsTo w i c g.edges (NodeWrites test)
    writer Nil i g live e = absurd cc
    writer (Wait s) i g live e = absurd cc
    writer (Test s) i g live e = absurd cc
    writer (Idle body) i g live e = absurd cc
    writer (Do s) i g live e =
        let way = writer_of surfaces writers w i test s g live.0 e in
        let begun = begins w i s live.0.calls in
        record {
          could = begun.could;
          end = way.end;
          walk = subst (λ n. Walk g.edges n way.end) (sym begun.is) way.walk;
          leads = way.writes;
        }
    writer (Seq c Done) i g live e = elim live [ ]
    writer (Seq c (Then s rest)) i g live e =
        elim (either_of (may_write_path test c) (may_end c && soon_in test (Then s rest)) e) [
          | inl inner ↦ let leads = writer c i (ahead_of (entry s) g) live.0 inner in record {
            could = this_could (in_seq leads.could.moves);
            end = leads.end;
            walk = leads.walk;
            leads = leads.leads;
          }
          | inr outer ↦
              let both = both_are (may_end c) (soon_in test (Then s rest)) outer in
              seq_writes g test live.1.unended live.1.fits (way_out pass c i (ahead_of (entry s) g) live.0 both.0)
              (writer_in surfaces writers test (Then s rest) both.1)
        ]
    writer (Par s stood branches) i g live e =
        let one = one_writer branches i s.bodies s.label s.place (is_instant (Cobegin s.label s.place s.bodies)) stood g live.0 e in
        record {
          could = this_could (in_par one.could.moves);
          end = one.end;
          walk = walk_more live.1.fits.edges one.walk;
          leads = one.leads.0;
        }
    writer (Guard s Body stood c) i g live e = body_writes g test (writer c i (guarded s g) live.0 (first_of_or (may_write_path test c) e))
    writer (Guard s Check stood c) i g live e =
        check_writes w i s stood c g test live.1 live.0 (writer c i (later_on (guarded s g)) live.0) (writer_in surfaces writers test s.body) e
    writer (Run s callee Check stood c) i g live e = record {
      could = this_could copies;
      end = run_node stood s.label s.place s.arguments;
      walk = stay (run_node stood s.label s.place s.arguments);
      leads = run_node_writes test s stood true (λ h. live.2.has_stood) e;
    }
    writer (Run s callee Body stood c) i g live e =
        let both = both_are (not (is_settled (Run s callee Body stood c)))
        (list_any test (map static_of s.arguments.outputs) || (may_end c && list_any test (target_static s.arguments.target))) e in
        run_writer w i s callee stood c g test live both

    pub one_writer : (branches : Trees) (i : ℕ) (bodies : Bodies) (l : Label) (at : Source) (so stood : Bool) (g : Place) →
        AllFitGraph w i branches bodies stood g → any_writes_path test branches ≡ true →
        OneLeads w i branches (EdgeEach bodies l at so) (λ n. NodeWrites test n × InEach stood bodies n)
    one_writer no_tree i bodies l at so stood g lives e = absurd cc
    one_writer (beside weak c rest) i Last l at so stood g lives e = elim lives [ ]
    one_writer (beside weak c rest) i (BodyOf weak' body bodies) l at so stood g lives e =
        elim (either_of (may_write_path test c) (any_writes_path test rest) e) [
          | inl here ↦ first_writes w i weak c rest weak' body bodies l at so stood g test lives.0 (writer c i (in_branch stood body g) lives.0 here)
          | inr there ↦ later_leads weak c (later weak' body bodies l at so) (λ n h. (h.0, inr h.1))
              (one_writer rest i bodies l at so stood g lives.2 there)
        ]
