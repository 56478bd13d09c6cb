-- Where a tree may still end after a step, what acted leads out of it.
use Rattle.std.proofs.Common.{◌≡◌, ℕ, Bool, true, false, ◌&&◌, ◌||◌, not, ◌⊎◌, inl, inr, refl, sym, ap, ◌∙◌, subst}
use Rattle.std.proofs.lemmas.Bool.{or_right}
use Rattle.bl_tree.proofs.Basics.{and_first, and_second}
use Rattle.bl_tree.specs.declared.place.Place.{Place as Source}
use Rattle.bl_graph_nodes.specs.Nodes.{Node, are_instant, entry, is_instant}
use Rattle.bl_graph_nodes.specs.Plain.{Block, Bodies, Label, Plain, Body as BodyOf, Cobegin, Done, Last, Then}
use Rattle.bl_graph_nodes.specs.Steps.{StepLabel, head_of, end_node, join_node, run_node}
use Rattle.bl_graph.specs.Edges.{EdgeAll, EdgeEach, In, OutAll}
use Rattle.bl_graph.specs.Laws.{InstantsPass}
use Rattle.bl_graph.specs.Walks.{Walk, stay}
use Rattle.bl_graph.proofs.Walking.{walk_more, walk_on}
use Rattle.bl_graph.proofs.Passing.{later as rest_edges}
use Rattle.bl_ctree.specs.Control.{Check}
use Rattle.bl_ctree.specs.Instances.{Setting}
use Rattle.bl_ctree_laws.specs.Pending.{Deed, may_end, may_join}
use Rattle.bl_ctree_laws.specs.Shrinks.{EndsShrink, Paces}
use Rattle.bl_ctree_laws.specs.Steps.{Anyway, Moves, OneMoves, acts, takes, passes, pauses, runs, repeats, repeats_until, leaves, turns, enters, skips, forks}
use Rattle.bl_ctree_laws.specs.Steps.{guards, goes_on, waits, lets, aborts, resets, guard_ends, copies, run_ends, joins, in_seq, in_par, in_guard, in_run}
use Rattle.bl_ctree_laws.specs.Steps.{first, later}
use Rattle.bl_ctree_laws.specs.Trees.{Tree, Trees, Watch, Do, Par, Guard, has_strong, seq}
use Rattle.bl_ctree_laws.proofs.Less.{seq_ends}
use Rattle.bl_ctree_laws_traces.specs.Progress.FitsGraph.{AllFitGraph, FitsGraph, check_of, test_of}
use Rattle.bl_ctree_laws_traces.specs.Progress.Places.{AreSubgraphs, Place, ahead_of, guarded, in_branch}
use Rattle.bl_ctree_laws_traces.proofs.OnProgress.Acting.{region}
use Rattle.bl_ctree_laws_traces.proofs.OnProgress.Leading.{end_out, in_on, join_out, one_on, run_out, to_end, way_out}
use Rattle.bl_ctree_laws.proofs.Less.{done_join}
use Rattle.bl_ctree_laws_traces.proofs.OnProgress.Leading.{to_join}

-- edges lead from the node to one with the property
pub record Onward (E : Node → Node → Type 0) (F : Node → Type 0) (n : Node) : Type 0 where
  pub end : Node
  pub walk : Walk E n end
  pub leads : F end

-- ---- labels of steps that begin or check something

pub from_do : {T : Bool → Type 0} {w : Setting} {i : ℕ} {s : Plain} {d : Bool} {a : Deed} {n : StepLabel} {c' : Tree} → Moves T w i (Do s) d a n c' →
    head_of n ≡ entry s
from_do acts = refl
from_do takes = refl
from_do passes = refl
from_do pauses = refl
from_do (runs at there) = refl
from_do repeats = refl
from_do repeats_until = refl
from_do leaves = refl
from_do turns = refl
from_do enters = refl
from_do skips = refl
from_do forks = refl
from_do guards = refl

from_check : {T : Bool → Type 0} {w : Setting} {i : ℕ} {s : Watch} {stood : Bool} {c : Tree} {d : Bool} {a : Deed} {n : StepLabel} {c' : Tree} →
    Moves T w i (Guard s Check stood c) d a n c' → head_of n ≡ check_of s
from_check lets = refl
from_check (aborts is) = refl
from_check (resets is) = refl

-- ---- branches

-- a step changes no branch's kind
pub one_strong : {T : Bool → Type 0} {w : Setting} {i : ℕ} {branches : Trees} {d : Bool} {a : Deed} {n : StepLabel} {branches' : Trees} →
    OneMoves T w i branches d a n branches' → has_strong branches' ≡ has_strong branches
one_strong (first move free) = refl
one_strong (later {weak = weak} move free) = ap (λ b. not weak || b) (one_strong move)

-- of a weak branch all nodes have such an edge, of a strong one those that lead out of it
branch_joins : (weak : Bool) (body : Block) (rest : Bodies) (l : Label) (at : Source) (so stood : Bool) (n : Node) → (stood ≡ false → so ≡ true) →
    In stood body n → (weak ≡ false → Onward (EdgeAll body) (OutAll body) n) →
    Onward (EdgeEach (BodyOf weak body rest) l at so) (λ x. EdgeEach (BodyOf weak body rest) l at so x (join_node stood l at)) n
branch_joins true body rest l at so stood n is inside ends =
    record { end = n; walk = stay n; leads = to_join true body rest l at so stood n is inside (inl refl) }
branch_joins false body rest l at so stood n is inside ends =
    let out = ends refl in
    record {
      end = out.end;
      walk = walk_more (λ n m h. inl h) out.walk;
      leads = to_join false body rest l at so stood out.end is (in_on stood body inside out.walk) (inr out.leads);
    }

module _ {w : Setting} (pass : InstantsPass) (shrink : EndsShrink) (pace : Paces w) where
  -- what begins
  by_do : {i : ℕ} {s : Plain} {d : Bool} {a : Deed} {n : StepLabel} {c' : Tree} → Moves Anyway w i (Do s) d a n c' → (g : Place) → FitsGraph w i (Do s) g →
      may_end c' ≡ true → Onward g.edges g.out (head_of n)
  by_do {i} {s} {d} {a} {n} {c'} move g live ends =
      let way = pass.statements s (shrink w i (Do s) d a n c' pace move ends) in
      subst (Onward g.edges g.out) (sym (from_do move))
      (record { end = way.end; walk = walk_more live.0.edges way.walk; leads = live.0.outs way.end way.leads_on })

  -- what is checked
  by_check : {i : ℕ} {s : Watch} {stood : Bool} {c : Tree} {d : Bool} {a : Deed} {n : StepLabel} {c' : Tree} →
      Moves Anyway w i (Guard s Check stood c) d a n c' → (g : Place) → FitsGraph w i (Guard s Check stood c) g → may_end c' ≡ true →
      Onward g.edges g.out (head_of n)
  by_check {i} {s} {stood} {c} {d} {a} {n} {c'} move g live ends =
      elim (way_out pass (Guard s Check stood c) i g live (shrink w i (Guard s Check stood c) d a n c' pace move ends)) [
        | inl nil ↦ absurd (cc (nil))
        | inr out ↦ record {
          end = out.end;
          walk = subst (λ k. Walk g.edges k out.end) (from_check out.could.moves ∙ sym (from_check move)) out.walk;
          leads = out.leads;
        }
      ]

  -- what stands before a block
  seq_onward : (i : ℕ) (c : Tree) (s : Plain) (rest : Block) (g : Place) (n : Node) → AreSubgraphs w i (Then s rest) g →
      (may_end c ≡ true → Onward g.edges (λ x. g.edges x (entry s)) n) → may_end (seq c (Then s rest)) ≡ true → Onward g.edges g.out n
  seq_onward i c s rest g n fits inner ends =
      let both : (may_end c && are_instant (Then s rest)) ≡ true = sym (seq_ends c (Then s rest)) ∙ ends in
      let out = inner (and_first (may_end c) (are_instant (Then s rest)) both) in
      elim (pass.blocks (Then s rest) (and_second (may_end c) (are_instant (Then s rest)) both)) [
        | inl empty ↦ absurd (cc (empty))
        | inr way ↦ record {
          end = way.end;
          walk = walk_on (one_on out.walk out.leads)
              (subst (λ k. Walk g.edges k way.end) way.is_reached.begins (walk_more fits.edges way.is_reached.walk));
          leads = fits.outs way.end way.leads_on;
        }
      ]

  mutual
    pub onward : {i : ℕ} {c : Tree} {d : Bool} {a : Deed} {n : StepLabel} {c' : Tree} → Moves Anyway w i c d a n c' → (g : Place) → FitsGraph w i c g →
        may_end c' ≡ true → Onward g.edges g.out (head_of n)
    onward acts g live ends = by_do acts g live ends
    onward takes g live ends = by_do takes g live ends
    onward passes g live ends = by_do passes g live ends
    onward pauses g live ends = by_do pauses g live ends
    onward (runs at there) g live ends = by_do (runs at there) g live ends
    onward repeats g live ends = by_do repeats g live ends
    onward repeats_until g live ends = by_do repeats_until g live ends
    onward leaves g live ends = by_do leaves g live ends
    onward turns g live ends = by_do turns g live ends
    onward enters g live ends = by_do enters g live ends
    onward skips g live ends = by_do skips g live ends
    onward forks g live ends = by_do forks g live ends
    onward guards g live ends = by_do guards g live ends
    onward (goes_on {s = s}) g live ends = record { end = test_of s; walk = stay (test_of s); leads = live.0 }
    onward waits g live ends = absurd (cc (ends))
    onward lets g live ends = by_check lets g live ends
    onward (aborts is) g live ends = by_check (aborts is) g live ends
    onward (resets is) g live ends = by_check (resets is) g live ends
    onward (guard_ends {s = s} {stood = stood}) g live ends = record {
      end = end_node stood s.label s.place;
      walk = stay (end_node stood s.label s.place);
      leads = live.1.fits.outs _ (end_out s stood (live.1.closes refl).0);
    }
    onward {i = i} (copies {s = s} {stood = stood}) g live ends = record {
      end = run_node stood s.label s.place s.arguments;
      walk = stay (run_node stood s.label s.place s.arguments);
      leads = run_out w i s stood g live.2.fits live.2.has_stood;
    }
    onward {i = i} (run_ends {s = s} {stood = stood}) g live ends = record {
      end = run_node stood s.label s.place s.arguments;
      walk = stay (run_node stood s.label s.place s.arguments);
      leads = run_out w i s stood g live.2.fits (live.2.stays refl);
    }
    onward (joins {s = s} {stood = stood} {branches = branches} still done) g live ends = record {
      end = join_node stood s.label s.place;
      walk = stay (join_node stood s.label s.place);
      leads = live.1.fits.outs _ (join_out s.label s.place s.bodies stood (live.1.joins (done_join branches done)).0);
    }
    onward (in_seq {rest = Done} move) g live ends = elim live [ ]
    onward {i = i} (in_seq {rest = Then s rest} {n = n} {c' = c'} move) g live ends =
        seq_onward i c' s rest g (head_of n) live.1.fits (onward move (ahead_of (entry s) g) live.0) ends
    onward {i = i} (in_par {s = s} {stood = stood} {branches = branches} {branches' = branches'} move) g live ends =
        let is = (live.1.joins (shrink w i (Par s stood branches) _ _ _ (Par s stood branches') pace (in_par move) ends)).0 in
        let out = one_onward move s.bodies stood g s.label s.place (is_instant (Cobegin s.label s.place s.bodies)) live.0 is
        (λ strong. subst (λ b. may_join b branches' ≡ true) (one_strong move ∙ strong) ends) in
        record {
          end = join_node stood s.label s.place;
          walk = walk_more live.1.fits.edges (one_on out.walk out.leads);
          leads = live.1.fits.outs _ (join_out s.label s.place s.bodies stood is);
        }
    onward {i = i} (in_guard {s = s} {stood = stood} {c = c} {c' = c'} move) g live ends =
        let is = (live.1.closes (shrink w i c _ _ _ c' pace move ends)).0 in
        let out = onward move (guarded s g) live.0 ends in
        record {
          end = end_node stood s.label s.place;
          walk = one_on out.walk (to_end s g.edges stood out.end out.leads is);
          leads = live.1.fits.outs _ (end_out s stood is);
        }
    onward {i = i} (in_run {s = s} {callee = callee} {stood = stood} {c = c} {c' = c'} move) g live ends = record {
      end = run_node stood s.label s.place s.arguments;
      walk = stay (run_node stood s.label s.place s.arguments);
      leads = run_out w i s stood g live.2.fits (live.2.stays (shrink w callee c _ _ _ c' pace move ends));
    }

    -- what acts in a branch leads to the join, where that may still be reached
    pub one_onward : {i : ℕ} {branches : Trees} {d : Bool} {a : Deed} {n : StepLabel} {branches' : Trees} → OneMoves Anyway w i branches d a n branches' →
        (bodies : Bodies) (stood : Bool) (g : Place) (l : Label) (at : Source) (so : Bool) → AllFitGraph w i branches bodies stood g →
        (stood ≡ false → so ≡ true) → (has_strong branches ≡ true → may_join true branches' ≡ true) →
        Onward (EdgeEach bodies l at so) (λ x. EdgeEach bodies l at so x (join_node stood l at)) (head_of n)
    one_onward (first move free) Last stood g l at so lives is ends = elim lives [ ]
    one_onward (first {weak = weak} {others = others} {n = n} {c' = c'} move free) (BodyOf weak' body rest) stood g l at so lives is ends =
        subst (λ b. Onward (EdgeEach (BodyOf b body rest) l at so) (λ x. EdgeEach (BodyOf b body rest) l at so x (join_node stood l at)) (head_of n)) lives.1
        (branch_joins weak body rest l at so stood (head_of n) is (region move (in_branch stood body g) lives.0)
        (λ strong. onward move (in_branch stood body g) lives.0 (strong_ends weak c' others strong ends)))
      where
        strong_ends : (weak : Bool) (c' : Tree) (others : Trees) → weak ≡ false →
            ((not weak || has_strong others) ≡ true → ((weak || may_end c') && may_join true others) ≡ true) → may_end c' ≡ true
        strong_ends true c' others strong ends = absurd cc
        strong_ends false c' others strong ends = and_first (may_end c') (may_join true others) (ends refl)
    one_onward (later move free) Last stood g l at so lives is ends = elim lives [ ]
    one_onward (later {weak = weak} {c = c} {others = others} {others' = others'} move free) (BodyOf weak' body rest) stood g l at so lives is ends =
        let out = one_onward move rest stood g l at so lives.2 is
        (λ strong. and_second (weak || may_end c) (may_join true others') (ends (or_right (not weak) (has_strong others) strong))) in
        record {
          end = out.end;
          walk = walk_more (rest_edges weak' body rest l at so) out.walk;
          leads = rest_edges weak' body rest l at so out.end _ out.leads;
        }
