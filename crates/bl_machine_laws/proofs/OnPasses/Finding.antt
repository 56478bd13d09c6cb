-- What waits first can act: where it stands in its tree.
use Rattle.std.proofs.Common.{◌≡◌, inl, inr, ℕ, ◌<◌, ◌≤◌, Bool, true, false, not, ◌&&◌, ◌||◌, List, Option}
use Rattle.std.proofs.Common.{Some, None, refl, sym, ap, ◌∙◌, subst, arith}
use Rattle.bl_tree.proofs.Basics.{and_first, and_second, true_false_any}
use Rattle.bl_tree.specs.declared.place.Place.{Place as Source}
use Rattle.bl_tree.specs.declared.tree.Expr.{Expr}
use Rattle.bl_tree.specs.declared.tree.Path.{Path}
use Rattle.bl_tree.specs.declared.tree.Unit.{Unit as UnitDef}
use Rattle.bl_graph_nodes.specs.Nodes.{Node, entry, is_instant}
use Rattle.bl_graph_nodes.specs.Plain.{Act, Again, Await, Bodies, Block, Body as BodyOf, Cobegin, Done, If, Label, Last, Plain, Repeat, Run as RunOf, Then}
use Rattle.bl_graph_nodes.specs.Plain.{Until, When, While, plain_body}
use Rattle.bl_graph_nodes.specs.Steps.{end_node, join_node, run_node}
use Rattle.bl_graph.specs.Edges.{EdgeEach, In}
use Rattle.bl_graph.specs.Walks.{Rises}
use Rattle.bl_ctree.specs.Control.{Body, Check}
use Rattle.bl_ctree.specs.Instances.{Setting, callee_of, unit_at}
use Rattle.bl_ctree_laws.specs.Trees.{Call, Fork, Tree, Trees, Watch, Nil, Wait, Test, Idle, Do, Seq, Par, Guard, Run, are_done, are_settled, beside, is_nil}
use Rattle.bl_ctree_laws.specs.Trees.{is_settled, no_tree, seq, strong_ended}
use Rattle.bl_ctree_laws_traces.specs.Progress.FitsGraph.{AllFitGraph, FitsGraph, fork_stmt}
use Rattle.bl_ctree_laws_traces.specs.Progress.Places.{Place, ahead_of, guarded, in_branch, later_on, whole}
use Rattle.bl_machine_laws.specs.Numbers.Waiting.{SomeWaits, Waits, check_of}
use Rattle.bl_machine_laws.proofs.OnWaiting.Fresh.{is_weak}
use Rattle.bl_machine_laws.proofs.OnWaiting.Quiet.{in_part, something_waits}
use Rattle.bl_machine_laws.specs.Passes.Steady.{AllSteady, Steady}
use Rattle.bl_machine_laws.proofs.OnPasses.Holes.{Hole, Holes, fill, fill_one, in_block, in_fork, in_watch, next, seq_is, this, top, unsettled_open}
use Rattle.bl_machine_laws.proofs.OnPasses.Numbers.{after_rises}
use Rattle.bl_machine_laws.proofs.OnPasses.Points.{Simple, begins, checks, closes, joins, tests}
use Rattle.bl_machine_laws.proofs.OnPasses.Steadying.{steady_passed}
use Rattle.bl_ctree_laws.proofs.Less.{done_join, done_unsettled}
use Rattle.bl_ctree_laws_traces.proofs.OnProgress.Leading.{done_strong}
use Rattle.bl_ctree_laws_traces.proofs.OnReady.Before.{not_itself}
use Rattle.bl_ctree_laws_traces.proofs.OnProgress.Keeping.{part_closed, after_closed}

-- ---- trees that act at a node

-- the tree acts at the node: as a point, or as a `run` that begins or goes on
pub data Ready (w : Setting) (i : ℕ) : Tree → Node → Type 0 where
  simple : {t : Tree} {n : Node} → Simple t n → Ready w i t n
  calls : {l : Label} {at : Source} {target : Option Path} {a : ℕ} {inputs : List Expr} {outputs : List Path} {callee : ℕ} {unit : UnitDef} →
      callee_of w i at ≡ Some callee → unit_at w callee ≡ Some unit →
      Ready w i (Do (RunOf l at target a inputs outputs)) (entry (RunOf l at target a inputs outputs))
  copies : {s : Call} {callee : ℕ} {stood : Bool} {c : Tree} {unit : UnitDef} → callee_of w i s.place ≡ Some callee → unit_at w callee ≡ Some unit →
      FitsGraph w callee c (whole stood (plain_body unit.body)) → Steady c →
      Ready w i (Run s callee Check stood c) (run_node stood s.label s.place s.arguments)

pub ready_left : {w : Setting} {i : ℕ} {t : Tree} {n : Node} → Ready w i t n → is_settled t ≡ false
ready_left (simple (begins e)) = refl
ready_left (simple tests) = refl
ready_left (simple checks) = refl
ready_left (simple closes) = refl
ready_left (simple (joins {branches = branches} settled done)) = done_unsettled (are_settled branches) (are_done branches) done
ready_left (calls called is) = refl
ready_left (copies called is live steady) = refl

-- where in the tree it stands
pub record Found (w : Setting) (i : ℕ) (c : Tree) (n : Node) : Type 0 where
  pub hole : Hole
  pub tree : Tree
  pub is : c ≡ fill hole tree
  pub ready : Ready w i tree n

record FoundOne (w : Setting) (i : ℕ) (branches : Trees) (n : Node) : Type 0 where
  holes : Holes
  tree : Tree
  is : branches ≡ fill_one holes tree
  ready : Ready w i tree n

module _ {w : Setting} {i : ℕ} where
  -- the whole tree acts, at a node that is the one
  here : {n m : Node} (t : Tree) → m ≡ n → Ready w i t n → Found w i t m
  here t is ready = record { hole = top; tree = t; is = refl; ready = subst (Ready w i t) (sym is) ready }

  found_do : (g : Place) (s : Plain) (n : Node) → FitsGraph w i (Do s) g → n ≡ entry s → Found w i (Do s) n
  found_do g (Act l s) n live is = here _ is (simple (begins refl))
  found_do g (Await l at e) n live is = here _ is (simple (begins refl))
  found_do g (RunOf l at target a inputs outputs) n live is =
      let call = live.0.calls in here _ is (calls call.called call.is)
  found_do g (If l at e body other) n live is = here _ is (simple (begins refl))
  found_do g (Cobegin l at bodies) n live is = here _ is (simple (begins refl))
  found_do g (When l at guard e body) n live is = here _ is (simple (begins refl))
  found_do g (Repeat l at body) n live is = here _ is (simple (begins refl))
  found_do g (Until l at body e) n live is = here _ is (simple (begins refl))
  found_do g (While l at e body) n live is = here _ is (simple (begins refl))
  found_do g (Again l at body e) n live is = here _ is (simple (begins refl))

  found_end : (s : Watch) (stood : Bool) (c : Tree) (n : Node) → is_nil c ≡ true → Waits c (Some (end_node stood s.label s.place)) n →
      Found w i (Guard s Body stood c) n
  found_end s stood Nil n e h = here _ h (simple closes)
  found_end s stood (Wait p) n e h = true_false_any false e refl
  found_end s stood (Test p) n e h = true_false_any false e refl
  found_end s stood (Idle body) n e h = true_false_any false e refl
  found_end s stood (Do p) n e h = true_false_any false e refl
  found_end s stood (Seq c rest) n e h = true_false_any false e refl
  found_end s stood (Par p before branches) n e h = true_false_any false e refl
  found_end s stood (Guard p phase before c) n e h = true_false_any false e refl
  found_end s stood (Run p callee phase before c) n e h = true_false_any false e refl

  -- where its body has ended or not
  found_watch : (s : Watch) (stood : Bool) (c : Tree) (n : Node) → Waits c (Some (end_node stood s.label s.place)) n →
      (is_nil c ≡ false → Found w i c n) → Found w i (Guard s Body stood c) n
  found_watch s stood c n h inner = by_end (is_nil c) refl
    where
      by_end : (b : Bool) → is_nil c ≡ b → Found w i (Guard s Body stood c) n
      by_end true e = found_end s stood c n e h
      by_end false e =
          let one = inner e in
          record { hole = in_watch s stood one.hole; tree = one.tree; is = ap (Guard s Body stood) one.is; ready = one.ready }

-- a branch that waits has not ended
branch_open : (c : Tree) (n : Node) → Waits c None n → is_nil c ≡ false
branch_open Nil n h = absurd h
branch_open (Wait p) n h = refl
branch_open (Test p) n h = refl
branch_open (Idle body) n h = refl
branch_open (Do p) n h = refl
branch_open (Seq c rest) n h = refl
branch_open (Par p stood branches) n h = refl
branch_open (Guard p phase stood c) n h = refl
branch_open (Run p callee phase stood c) n h = refl

-- ---- a join waits for what is left in weak branches

-- something waits in a branch, with an edge to the join
record Late (branches : Trees) (E : Node → Node → Type 0) (join : Node) : Type 0 where
  node : Node
  waits : SomeWaits branches node
  edge : E node join

weak_edge : (stood weak : Bool) (body : Block) (rest : Bodies) (l : Label) (at : Source) (instant : Bool) (n : Node) →
    (stood ≡ false → instant ≡ true) → In stood body n → weak ≡ true → EdgeEach (BodyOf weak body rest) l at instant n (join_node stood l at)
weak_edge true weak body rest l at instant n instantly there is = inr (inr (inr (inl ((there, inl is), refl))))
weak_edge false weak body rest l at instant n instantly there is = inr (inr (inl ((there, inl is), (instantly refl, refl))))

late_first : (w : Setting) (i : ℕ) (g : Place) (stood instant weak : Bool) (c : Tree) (branches : Trees) (weak' : Bool) (body : Block)
    (rest : Bodies) (l : Label) (at : Source) → (stood ≡ false → instant ≡ true) →
    AllFitGraph w i (beside weak c branches) (BodyOf weak' body rest) stood g →
    Steady c → (weak || is_nil c) ≡ true → (is_settled c ≡ true → Late branches (EdgeEach rest l at instant) (join_node stood l at)) →
    Late (beside weak c branches) (EdgeEach (BodyOf weak' body rest) l at instant) (join_node stood l at)
late_first w i g stood instant weak c branches weak' body rest l at instantly live steady ended others = by_first (is_settled c) refl
  where
    by_first : (b : Bool) → is_settled c ≡ b → Late (beside weak c branches) (EdgeEach (BodyOf weak' body rest) l at instant) (join_node stood l at)
    by_first false e =
        let some = something_waits w i (in_branch stood body g) c live.0 (steady_passed c steady) e in
        let within : In stood body some.node =
        in_part w i (in_branch stood body g) c None some.node live.0 (part_closed stood body) (λ nil m is. absurd is) some.waits in
        record {
          node = some.node;
          waits = inl some.waits;
          edge = weak_edge stood weak' body rest l at instant some.node instantly within
              (sym live.1 ∙ is_weak weak c ended (unsettled_open c e));
        }
    by_first true e =
        let more = others e in record { node = more.node; waits = inr more.waits; edge = inr (inr (inr (inr more.edge))) }

late : (w : Setting) (i : ℕ) (g : Place) (stood instant : Bool) (branches : Trees) (bodies : Bodies) (l : Label) (at : Source) →
    (stood ≡ false → instant ≡ true) → AllFitGraph w i branches bodies stood g → AllSteady branches → strong_ended branches ≡ true →
    are_settled branches ≡ false → Late branches (EdgeEach bodies l at instant) (join_node stood l at)
late w i g stood instant no_tree bodies l at instantly live steady ended left = true_false_any true refl left
late w i g stood instant (beside weak c branches) Last l at instantly live steady ended left = absurd live
late w i g stood instant (beside weak c branches) (BodyOf weak' body rest) l at instantly live steady ended left =
    late_first w i g stood instant weak c branches weak' body rest l at instantly live steady.0
    (and_first (weak || is_nil c) (strong_ended branches) ended)
    (λ e. late w i g stood instant branches rest l at instantly live.2 steady.1
    (and_second (weak || is_nil c) (strong_ended branches) ended) (ap (λ b. b && are_settled branches) (sym e) ∙ left))

-- ---- what waits with the least number is ready

-- nothing that waits has a lesser number
abbrev pub IsFirst : (Node → ℕ) → Tree → Option Node → Node → Type 0
IsFirst number c follows n = (y : Node) → Waits c follows y → number n ≤ number y

module _ {w : Setting} (number : Node → ℕ) where
  found_join : {i : ℕ} (g : Place) (s : Fork) (stood : Bool) (branches : Trees) (follows : Option Node) (n : Node) →
      FitsGraph w i (Par s stood branches) g → AllSteady branches → Rises number g.edges → IsFirst number (Par s stood branches) follows n →
      are_done branches ≡ true → n ≡ join_node stood s.label s.place → Found w i (Par s stood branches) n
  found_join {i} g s stood branches follows n live steady up first done is = by_left (are_settled branches) refl
    where
      before : are_settled branches ≡ false → ⊥
      before left =
          let some = late w i g stood (is_instant (fork_stmt s)) branches s.bodies s.label s.place (live.1.joins (done_join branches done)).0 live.0 steady
          (done_strong branches done) left in
          let less : number some.node < number (join_node stood s.label s.place) =
          up some.node (join_node stood s.label s.place) (live.1.fits.edges some.node (join_node stood s.label s.place) some.edge) in
          let most : number n ≤ number some.node = first some.node (inl some.waits) in
          let same : number n ≡ number (join_node stood s.label s.place) = ap number is in
          absurd (omega arith)

      by_left : (b : Bool) → are_settled branches ≡ b → Found w i (Par s stood branches) n
      by_left true e = here (Par s stood branches) is (simple (joins e done))
      by_left false e = absurd (before e)

  mutual
    pub find : {i : ℕ} (g : Place) (c : Tree) (follows : Option Node) (n : Node) → FitsGraph w i c g → Steady c → Rises number g.edges →
        is_nil c ≡ false → Waits c follows n → IsFirst number c follows n → Found w i c n
    find g Nil follows n live steady up unended h first = true_false_any true refl unended
    find g (Wait s) follows n live steady up unended h first = absurd h
    find g (Test s) follows n live steady up unended h first = here (Test s) h (simple tests)
    find g (Idle body) follows n live steady up unended h first = absurd h
    find g (Do s) follows n live steady up unended h first = found_do g s n live h
    find g (Seq c Done) follows n live steady up unended h first = absurd live
    find g (Seq c (Then s rest)) follows n live steady up unended h first =
        let inner = find (ahead_of (entry s) g) c (Some (entry s)) n live.0 steady up live.1.unended h first in
        record {
          hole = in_block inner.hole s rest;
          tree = inner.tree;
          is = sym (seq_is c s rest live.1.unended) ∙ ap (λ x. seq x (Then s rest)) inner.is;
          ready = inner.ready;
        }
    find g (Par s stood branches) follows n live steady up unended (inl h) first =
        let inner = find_one g stood branches s.bodies s.label s.place (is_instant (fork_stmt s)) n live.0 steady
        (λ a b edge. up a b (live.1.fits.edges a b edge)) h (λ y k. first y (inl k)) in
        record { hole = in_fork s stood inner.holes; tree = inner.tree; is = ap (Par s stood) inner.is; ready = inner.ready }
    find g (Par s stood branches) follows n live steady up unended (inr h) first =
        found_join g s stood branches follows n live steady up first h.0 h.1
    find g (Guard s Body stood c) follows n live steady up unended h first =
        found_watch s stood c n h (λ e. find (guarded s g) c (Some (end_node stood s.label s.place)) n live.0 steady up e h first)
    find g (Guard s Check stood c) follows n live steady up unended (inl h) first = here (Guard s Check stood c) h (simple checks)
    find {i} g (Guard s Check stood c) follows n live steady up unended (inr h) first =
        let after = in_part w i (later_on (guarded s g)) c (Some (end_node stood s.label s.place)) n live.0 after_closed
        (λ nil. true_false_any (is_nil c) nil live.1.unended) h in
        let less : number (check_of s) < number n = after_rises number up after in
        let most : number n ≤ number (check_of s) = first (check_of s) (inl refl) in
        not_itself (number n) (omega arith)
    find g (Run s callee Body stood c) follows n live steady up unended h first = absurd h
    find g (Run s callee Check stood c) follows n live steady up unended h first =
        here (Run s callee Check stood c) h (copies live.2.called live.2.is live.1 steady)

    find_one : {i : ℕ} (g : Place) (stood : Bool) (branches : Trees) (bodies : Bodies) (l : Label) (at : Source) (instant : Bool) (n : Node) →
        AllFitGraph w i branches bodies stood g → AllSteady branches → Rises number (EdgeEach bodies l at instant) → SomeWaits branches n →
        ((y : Node) → SomeWaits branches y → number n ≤ number y) → FoundOne w i branches n
    find_one g stood no_tree bodies l at instant n live steady up h first = absurd h
    find_one g stood (beside weak c branches) Last l at instant n live steady up h first = absurd live
    find_one g stood (beside weak c branches) (BodyOf weak' body rest) l at instant n live steady up (inl h) first =
        let inner = find (in_branch stood body g) c None n live.0 steady.0 (λ a b edge. up a b (inl edge)) (branch_open c n h) h
        (λ y k. first y (inl k)) in
        record { holes = this weak inner.hole branches; tree = inner.tree; is = ap (λ x. beside weak x branches) inner.is; ready = inner.ready }
    find_one g stood (beside weak c branches) (BodyOf weak' body rest) l at instant n live steady up (inr h) first =
        let inner = find_one g stood branches rest l at instant n live.2 steady.1 (λ a b edge. up a b (inr (inr (inr (inr edge))))) h
        (λ y k. first y (inr k)) in
        record { holes = next weak c inner.holes; tree = inner.tree; is = ap (beside weak c) inner.is; ready = inner.ready }
