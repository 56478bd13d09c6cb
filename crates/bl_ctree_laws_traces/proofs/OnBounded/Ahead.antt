-- What a tree can still do in its tick, by the labels of steps: all that is reached from what is to begin, or may follow.
use Rattle.std.proofs.Common.{◌≡◌, ℕ, Bool, true, Some, ◌⊎◌, inl, inr, refl, sym, subst}
use Rattle.bl_tree.specs.declared.tree.Unit.{Unit as UnitDef}
use Rattle.bl_graph_nodes.specs.Nodes.{Node, entry}
use Rattle.bl_graph_nodes.specs.Plain.{Block, Bodies, Plain, Body as BodyOf, Done, Last, Then, plain_body}
use Rattle.bl_graph_nodes.specs.Steps.{Gives, Here, Inside, StepLabel, head_of, end_node, join_node, run_node}
use Rattle.bl_graph.specs.Edges.{EdgeAll, Entry, InEach}
use Rattle.bl_graph.specs.Laws.{InstantsPass}
use Rattle.bl_graph.specs.Walks.{Reached, Walk}
use Rattle.bl_graph.proofs.Walking.{walk_more, walk_on}
use Rattle.bl_ctree.specs.Control.{Check, Body}
use Rattle.bl_ctree.specs.Instances.{Setting, unit_at}
use Rattle.bl_ctree_laws.specs.Pending.{may_end, may_join}
use Rattle.bl_ctree_laws.specs.Trees.{Tree, Trees, Nil, Wait, Test, Idle, Do, Seq, Par, Guard, Run, beside, do_block, has_strong, no_tree, seq}
use Rattle.bl_ctree_laws_traces.specs.Progress.FitsGraph.{AllFitGraph, FitsGraph, check_of, test_of}
use Rattle.bl_ctree_laws_traces.specs.Progress.Places.{AreSubgraphs, Place, ahead_of, guarded, in_branch}
use Rattle.bl_ctree_laws_traces.proofs.OnProgress.Acting.{region}
use Rattle.bl_ctree_laws_traces.proofs.OnProgress.Beginning.{Closed, fits_first, walks_stay}
use Rattle.bl_ctree_laws_traces.proofs.OnProgress.Keeping.{part_closed}
use Rattle.bl_ctree_laws_traces.proofs.OnProgress.Leading.{one_on, way_out}

abbrev mutual
  -- the edges are those of the innermost branch around the tree
  pub Ahead : Setting → (Node → Node → Type 0) → Tree → StepLabel → Type 0
  Ahead w E Nil m = ⊥
  Ahead w E (Wait s) m = ⊥
  Ahead w E (Test s) m = head_of m ≡ test_of s
  Ahead w E (Idle body) m = ⊥
  Ahead w E (Do s) m = Walk E (entry s) (head_of m)
  Ahead w E (Seq c Done) m = ⊥
  Ahead w E (Seq c (Then s rest)) m = Ahead w E c m ⊎ ((may_end c ≡ true) × Walk E (entry s) (head_of m))
  Ahead w E (Par s stood branches) m =
      AheadEach w s.bodies branches m ⊎ ((may_join (has_strong branches) branches ≡ true) × (m ≡ Here (join_node stood s.label s.place)))
  Ahead w E (Guard s Body stood c) m = Ahead w E c m ⊎ ((may_end c ≡ true) × (m ≡ Here (end_node stood s.label s.place)))
  Ahead w E (Guard s Check stood c) m = Walk E (check_of s) (head_of m)
  Ahead w E (Run s callee Body stood c) m =
      ((unit : UnitDef) × (inner : StepLabel) × (unit_at w callee ≡ Some unit)
      × (m ≡ Inside (run_node stood s.label s.place s.arguments) s.unit inner) × Ahead w (EdgeAll (plain_body unit.body)) c inner)
      ⊎ (m ≡ Gives (run_node stood s.label s.place s.arguments))
  Ahead w E (Run s callee Check stood c) m = head_of m ≡ run_node stood s.label s.place s.arguments

  pub AheadEach : Setting → Bodies → Trees → StepLabel → Type 0
  AheadEach w Last branches m = ⊥
  AheadEach w (BodyOf weak body rest) no_tree m = ⊥
  AheadEach w (BodyOf weak body rest) (beside weak' c branches) m = Ahead w (EdgeAll body) c m ⊎ AheadEach w rest branches m

module _ (pass : InstantsPass) where
  -- what a block that begins can do is reached from its entry
  pub do_ahead : {w : Setting} {i : ℕ} (body : Block) (g : Place) (m : StepLabel) → AreSubgraphs w i body g → Ahead w g.edges (do_block body) m →
      Reached (Entry body) g.edges (head_of m)
  do_ahead Done g m fits a = elim a [ ]
  do_ahead (Then s Done) g m fits a = record { from = entry s; begins = refl; walk = a }
  do_ahead (Then s (Then t rest)) g m fits (inl a) = record { from = entry s; begins = refl; walk = a }
  do_ahead (Then s (Then t rest)) g m fits (inr a) =
      let way = pass.statements s a.0 in
      let one = fits_first g fits in
      record {
        from = entry s;
        begins = refl;
        walk = walk_on (one_on (walk_more one.edges way.walk) (one.outs way.end way.leads_on)) a.1;
      }

  -- what a tree and what follows it can do
  pub seq_ahead : {w : Setting} {i : ℕ} (c : Tree) (s : Plain) (rest : Block) (g : Place) (m : StepLabel) → AreSubgraphs w i (Then s rest) g →
      Ahead w g.edges (seq c (Then s rest)) m → Ahead w g.edges c m ⊎ ((may_end c ≡ true) × Walk g.edges (entry s) (head_of m))
  seq_ahead Nil s rest g m fits a =
      let from = do_ahead (Then s rest) g m fits a in
      inr (refl, subst (λ n. Walk g.edges n (head_of m)) from.begins from.walk)
  seq_ahead c s rest g m fits a = a

  module _ (w : Setting) where
    mutual
      -- it is of the part of the graph that acts in this tick
      pub ahead_now : (c : Tree) (i : ℕ) (g : Place) → FitsGraph w i c g → Closed g.edges g.now → (m : StepLabel) → Ahead w g.edges c m →
          g.now (head_of m)
      ahead_now Nil i g live closed m a = elim a [ ]
      ahead_now (Wait s) i g live closed m a = elim a [ ]
      ahead_now (Test s) i g live closed m a = subst g.now (sym a) live.2
      ahead_now (Idle body) i g live closed m a = elim a [ ]
      ahead_now (Do s) i g live closed m a = walks_stay closed live.1 a
      ahead_now (Seq c Done) i g live closed m a = elim a [ ]
      ahead_now (Seq c (Then s rest)) i g live closed m (inl a) = ahead_now c i (ahead_of (entry s) g) live.0 closed m a
      ahead_now (Seq c (Then s rest)) i g live closed m (inr a) = elim (way_out pass c i (ahead_of (entry s) g) live.0 a.0) [
        | inl nil ↦ absurd (cc (nil, live.1.unended))
        | inr leads ↦ walks_stay closed (region leads.could.moves (ahead_of (entry s) g) live.0) (walk_on (one_on leads.walk leads.leads) a.1)
      ]
      ahead_now (Par s stood branches) i g live closed m (inl a) = live.1.holds.now (head_of m) (each_now branches i s.bodies stood g live.0 m a)
      ahead_now (Par s stood branches) i g live closed m (inr a) = subst (λ x. g.now (head_of x)) (sym a.1) (live.1.joins a.0).1
      ahead_now (Guard s Body stood c) i g live closed m (inl a) = ahead_now c i (guarded s g) live.0 closed m a
      ahead_now (Guard s Body stood c) i g live closed m (inr a) = subst (λ x. g.now (head_of x)) (sym a.1) (live.1.closes a.0).1
      ahead_now (Guard s Check stood c) i g live closed m a = walks_stay closed live.1.checks a
      ahead_now (Run s callee Body stood c) i g live closed m (inl a) = subst (λ x. g.now (head_of x)) (sym a.3) live.2.now
      ahead_now (Run s callee Body stood c) i g live closed m (inr a) = subst (λ x. g.now (head_of x)) (sym a) live.2.now
      ahead_now (Run s callee Check stood c) i g live closed m a = subst g.now (sym a) live.2.now

      pub each_now : (branches : Trees) (i : ℕ) (bodies : Bodies) (stood : Bool) (g : Place) → AllFitGraph w i branches bodies stood g → (m : StepLabel) →
          AheadEach w bodies branches m → InEach stood bodies (head_of m)
      each_now no_tree i Last stood g lives m a = elim a [ ]
      each_now no_tree i (BodyOf weak body rest) stood g lives m a = elim a [ ]
      each_now (beside weak c branches) i Last stood g lives m a = elim a [ ]
      each_now (beside weak c branches) i (BodyOf weak' body rest) stood g lives m (inl a) =
          inl (ahead_now c i (in_branch stood body g) lives.0 (part_closed stood body) m a)
      each_now (beside weak c branches) i (BodyOf weak' body rest) stood g lives m (inr a) = inr (each_now branches i rest stood g lives.2 m a)
