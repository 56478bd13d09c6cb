-- What begins stands at its place: blocks, the turns of loops, branches, and the bodies of `when` and `run`.
use Rattle.std.proofs.Common.{◌≡◌, ℕ, Bool, true, false, Some, inl, inr, refl, sym, subst}
use Rattle.bl_tree.specs.declared.place.Place.{Place as Source}
use Rattle.bl_tree.specs.declared.tree.Expr.{Expr}
use Rattle.bl_tree.specs.declared.tree.Unit.{Unit as UnitDef}
use Rattle.bl_graph_nodes.specs.Nodes.{ForkAt, Node, entry}
use Rattle.bl_graph_nodes.specs.Plain.{Block, Bodies, Label, Plain, Again, Body as BodyOf, Done, If, Last, Repeat, Then, Until, While, is_empty, plain_body}
use Rattle.bl_graph.specs.DataEdges.{BesideEach}
use Rattle.bl_graph.specs.Edges.{EdgeEach, Entry, InEach, Into, Out, ResumeEach}
use Rattle.bl_graph.specs.Walks.{Reached, Walk, on, stay}
use Rattle.bl_graph.proofs.Walking.{walk_keeps_both, walk_more}
use Rattle.bl_graph.proofs.Passing.{later}
use Rattle.bl_ctree.specs.Instances.{Setting, unit_at}
use Rattle.bl_ctree_laws.specs.Steps.{turn}
use Rattle.bl_ctree_laws.specs.Trees.{Tree, Nil, Watch, before, trees_begun, do_block, is_nil, seq}
use Rattle.bl_ctree_laws_traces.specs.Progress.Laws.{BodiesFitGraph}
use Rattle.bl_ctree_laws_traces.specs.Progress.FitsGraph.{AllFitGraph, FitsGraph, check_of, watch_stmt}
use Rattle.bl_ctree_laws_traces.specs.Progress.Places.{AllCallable, AreSubgraphs, CallableEach, IsSubgraph, Place, ahead_of, guarded, in_branch, whole}

-- ---- sets of nodes that edges stay in

abbrev pub Closed : (Node → Node → Type 0) → (Node → Type 0) → Type 0
Closed E F = (n m : Node) → F n → E n m → F m

pub walks_stay : {E : Node → Node → Type 0} {F : Node → Type 0} {n m : Node} → Closed E F → F n → Walk E n m → F m
walks_stay {F = F} closed h walk = walk_keeps_both F closed walk h

-- ---- blocks

pub fits_first : {w : Setting} {i : ℕ} {s t : Plain} {rest : Block} (g : Place) → AreSubgraphs w i (Then s (Then t rest)) g → IsSubgraph w i s (ahead_of (entry t) g)
fits_first g fits = record {
  edges = λ n m h. fits.edges n m (inl h);
  outs = λ n h. fits.edges n _ (inr (inr (h, refl)));
  resumes = λ n h. fits.resumes n (inl h);
  beside = λ n m h. fits.beside n m (inl h);
  calls = fits.calls.0;
}

pub fits_only : {w : Setting} {i : ℕ} {s : Plain} (g : Place) → AreSubgraphs w i (Then s Done) g → IsSubgraph w i s g
fits_only g fits = record {
  edges = λ n m h. fits.edges n m (inl h);
  outs = λ n h. fits.outs n (inr (refl, h));
  resumes = λ n h. fits.resumes n (inl h);
  beside = λ n m h. fits.beside n m (inl h);
  calls = fits.calls.0;
}

pub fits_rest : {w : Setting} {i : ℕ} {s : Plain} {rest : Block} (g : Place) → AreSubgraphs w i (Then s rest) g → AreSubgraphs w i rest g
fits_rest g fits = record {
  edges = λ n m h. fits.edges n m (inr (inl h));
  outs = λ n h. fits.outs n (inl h);
  resumes = λ n h. fits.resumes n (inr h);
  beside = λ n m h. fits.beside n m (inr h);
  calls = fits.calls.1;
}

-- a block that fits begins where its entry may act
pub do_lives : {w : Setting} {i : ℕ} (body : Block) (g : Place) → AreSubgraphs w i body g → ((n : Node) → Entry body n → g.now n) →
    FitsGraph w i (do_block body) g
do_lives Done g fits begins = tt
do_lives (Then s Done) g fits begins = (fits_only g fits, begins (entry s) refl)
do_lives (Then s (Then t rest)) g fits begins = ((fits_first g fits, begins (entry s) refl), record { fits = fits_rest g fits; unended = refl })

pub nil_is_empty : (body : Block) → is_nil (do_block body) ≡ true → is_empty body ≡ true
nil_is_empty Done e = refl
nil_is_empty (Then s Done) e = absurd cc
nil_is_empty (Then s (Then t rest)) e = absurd cc

-- what is left of a statement, and what follows it
pub seq_lives : {w : Setting} {i : ℕ} (c : Tree) (s : Plain) (rest : Block) (g : Place) → FitsGraph w i c (ahead_of (entry s) g) →
    AreSubgraphs w i (Then s rest) g →
    (is_nil c ≡ true → g.now (entry s)) → FitsGraph w i (seq c (Then s rest)) g
seq_lives Nil s rest g live fits begins = do_lives (Then s rest) g fits (λ n h. subst g.now (sym h) (begins refl))
seq_lives c s rest g live fits begins = (live, record { fits = fits; unended = refl })

pub seq_unended : (c : Tree) (s : Plain) (rest : Block) → is_nil (seq c (Then s rest)) ≡ false
seq_unended Nil s Done = refl
seq_unended Nil s (Then t rest) = refl
seq_unended c s rest = refl

-- ---- turns of loops

-- a statement by itself as a block
fits_one : {w : Setting} {i : ℕ} {s : Plain} (g : Place) → IsSubgraph w i s g → AreSubgraphs w i (Then s Done) g
fits_one g fits = record {
  edges = λ n m h. elim h [
    | inl here ↦ fits.edges n m here
    | inr more ↦ elim more [
      | inl none ↦ elim none [ ]
      | inr none ↦ elim none.1 [ ]
    ]
  ];
  outs = λ n h. elim h [
    | inl none ↦ elim none [ ]
    | inr here ↦ fits.outs n here.1
  ];
  resumes = λ n h. elim h [
    | inl here ↦ fits.resumes n here
    | inr none ↦ elim none [ ]
  ];
  beside = λ n m h. elim h [
    | inl here ↦ fits.beside n m here
    | inr none ↦ elim none [ ]
  ];
  calls = (fits.calls, tt);
}

not_empty : (body : Block) (next : Plain) → is_empty (before body (Then next Done)) ≡ false
not_empty Done next = refl
not_empty (Then s rest) next = refl

-- the edge from a statement of a turn to what follows it there
turn_edge : {w : Setting} {i : ℕ} (s : Plain) (rest : Block) (next : Plain) (g : Place) → AreSubgraphs w i (Then s rest) (ahead_of (entry next) g) →
    (n m : Node) → Out s n → Entry (before rest (Then next Done)) m → g.edges n m
turn_edge s Done next g fits n m out is = subst (g.edges n) (sym is) (fits.outs n (inr (refl, out)))
turn_edge s (Then t rest) next g fits n m out is = fits.edges n m (inr (inr (out, is)))

-- a body, and what follows it, as one block
pub fits_join : {w : Setting} {i : ℕ} (body : Block) (next : Plain) (g : Place) → AreSubgraphs w i body (ahead_of (entry next) g) → IsSubgraph w i next g →
    AreSubgraphs w i (turn body next) g
fits_join Done next g fits last = fits_one g last
fits_join (Then s rest) next g fits last =
    let more = fits_join rest next g (fits_rest (ahead_of (entry next) g) fits) last in
    record {
      edges = λ n m h. elim h [
        | inl here ↦ fits.edges n m (inl here)
        | inr others ↦ elim others [
          | inl there ↦ more.edges n m there
          | inr next_one ↦ turn_edge s rest next g fits n m next_one.0 next_one.1
        ]
      ];
      outs = λ n h. elim h [
        | inl there ↦ more.outs n there
        | inr here ↦ absurd (cc (here.0, not_empty rest next))
      ];
      resumes = λ n h. elim h [
        | inl here ↦ fits.resumes n (inl here)
        | inr there ↦ more.resumes n there
      ];
      beside = λ n m h. elim h [
        | inl here ↦ fits.beside n m (inl here)
        | inr there ↦ more.beside n m there
      ];
      calls = (fits.calls.0, more.calls);
    }

-- a turn begins with its body or, where that is empty, with what follows it
pub turn_begins : (body : Block) (next : Plain) (m : Node) → Entry (turn body next) m → Into body (λ k. k ≡ entry next) m
turn_begins Done next m h = inr (refl, h)
turn_begins (Then s rest) next m h = inl h

pub turn_unended : (body : Block) (next : Plain) → is_nil (do_block (turn body next)) ≡ false
turn_unended Done next = refl
turn_unended (Then s Done) next = refl
turn_unended (Then s (Then t rest)) next = refl

pub repeat_body : {w : Setting} {i : ℕ} (l : Label) (at : Source) (body : Block) (g : Place) → IsSubgraph w i (Repeat l at body) g →
    AreSubgraphs w i body (ahead_of (entry (Repeat l at body)) g)
repeat_body l at body g fits = record {
  edges = λ n m h. fits.edges n m (inl h);
  outs = λ n h. fits.edges n _ (inr (inr (h, refl)));
  resumes = fits.resumes;
  beside = fits.beside;
  calls = fits.calls;
}

pub until_body : {w : Setting} {i : ℕ} (l : Label) (at : Source) (body : Block) (e : Expr) (g : Place) → IsSubgraph w i (Until l at body e) g →
    AreSubgraphs w i body (ahead_of (entry (Again l at body e)) g)
until_body l at body e g fits = record {
  edges = λ n m h. fits.edges n m (inl h);
  outs = λ n h. fits.edges n _ (inr (inl (inr (h, refl))));
  resumes = fits.resumes;
  beside = fits.beside;
  calls = fits.calls;
}

pub while_body : {w : Setting} {i : ℕ} (l : Label) (at : Source) (e : Expr) (body : Block) (g : Place) → IsSubgraph w i (While l at e body) g →
    AreSubgraphs w i body (ahead_of (entry (While l at e body)) g)
while_body l at e body g fits = record {
  edges = λ n m h. fits.edges n m (inl h);
  outs = λ n h. fits.edges n _ (inr (inr (h, refl)));
  resumes = fits.resumes;
  beside = fits.beside;
  calls = fits.calls;
}

-- a loop and the test after its turn have one graph
pub again_fits : {w : Setting} {i : ℕ} (l : Label) (at : Source) (body : Block) (e : Expr) (g : Place) → IsSubgraph w i (Until l at body e) g →
    IsSubgraph w i (Again l at body e) g
again_fits l at body e g fits = record { edges = fits.edges; outs = fits.outs; resumes = fits.resumes; beside = fits.beside; calls = fits.calls }

pub until_fits : {w : Setting} {i : ℕ} (l : Label) (at : Source) (body : Block) (e : Expr) (g : Place) → IsSubgraph w i (Again l at body e) g →
    IsSubgraph w i (Until l at body e) g
until_fits l at body e g fits = record { edges = fits.edges; outs = fits.outs; resumes = fits.resumes; beside = fits.beside; calls = fits.calls }

-- ---- arms

pub then_fits : {w : Setting} {i : ℕ} (l : Label) (at : Source) (e : Expr) (body other : Block) (g : Place) → IsSubgraph w i (If l at e body other) g →
    AreSubgraphs w i body g
then_fits l at e body other g fits = record {
  edges = λ n m h. fits.edges n m (inl h);
  outs = λ n h. fits.outs n (inl h);
  resumes = λ n h. fits.resumes n (inl h);
  beside = λ n m h. fits.beside n m (inl h);
  calls = fits.calls.0;
}

pub else_fits : {w : Setting} {i : ℕ} (l : Label) (at : Source) (e : Expr) (body other : Block) (g : Place) → IsSubgraph w i (If l at e body other) g →
    AreSubgraphs w i other g
else_fits l at e body other g fits = record {
  edges = λ n m h. fits.edges n m (inr (inl h));
  outs = λ n h. fits.outs n (inr (inl h));
  resumes = λ n h. fits.resumes n (inr h);
  beside = λ n m h. fits.beside n m (inr h);
  calls = fits.calls.1;
}

-- ---- bodies

-- the body of a `when`
pub watch_fits : {w : Setting} {i : ℕ} (s : Watch) (g : Place) → IsSubgraph w i (watch_stmt s) g → AreSubgraphs w i s.body (guarded s g)
watch_fits s g fits = record {
  edges = λ n m h. fits.edges n m (inl h);
  outs = λ n h. (λ instant. fits.edges n _ (inr (inr (inr (inr (h, inl (instant, refl)))))), fits.edges n _ (inr (inr (inr (inr (h, inr refl))))));
  resumes = λ n h. record { by = n; edge = fits.edges (check_of s) n (inr (inr (inl (refl, h)))); rest = stay n };
  beside = fits.beside;
  calls = fits.calls;
}

-- a unit's body in its own graph
pub body_lives : (w : Setting) (i : ℕ) → AllCallable w → (unit : UnitDef) → unit_at w i ≡ Some unit →
    FitsGraph w i (do_block (plain_body unit.body)) (whole false (plain_body unit.body))
body_lives w i all unit is = do_lives (plain_body unit.body) (whole false (plain_body unit.body)) (record {
  edges = λ n m h. h;
  outs = λ n h. h;
  resumes = λ n h. record { from = n; begins = h; walk = stay n };
  beside = λ n m h. h;
  calls = all i unit is;
}) (λ n h. record { from = n; begins = h; walk = stay n })

-- the branches of a `cobegin`
pub begun_live : (w : Setting) (i : ℕ) (bodies : Bodies) (g : Place) → ((n m : Node) → BesideEach bodies n m → g.links n m) →
    CallableEach w i bodies →
    AllFitGraph w i (trees_begun bodies) bodies false g
begun_live w i Last g links calls = tt
begun_live w i (BodyOf weak body rest) g links calls = (
  do_lives body (in_branch false body g) (record {
    edges = λ n m h. h;
    outs = λ n h. h;
    resumes = λ n h. record { from = n; begins = h; walk = stay n };
    beside = λ n m h. links n m (inl h);
    calls = calls.0;
  }) (λ n h. record { from = n; begins = h; walk = stay n }),
  refl,
  begun_live w i rest g (λ n m h. links n m (inr (inr (inr h)))) calls.1,
)

-- surfaces of branches are reached from the fork, and depths from the resume nodes
pub surface_reached : (bodies : Bodies) (l : Label) (at : Source) (so : Bool) (n : Node) → InEach false bodies n →
    Walk (EdgeEach bodies l at so) (ForkAt l at) n
surface_reached Last l at so n h = elim h [ ]
surface_reached (BodyOf weak body rest) l at so n (inl here) =
    on (ForkAt l at) here.from n (inr (inl (refl, inl here.begins))) (walk_more (λ n m h. inl h) here.walk)
surface_reached (BodyOf weak body rest) l at so n (inr there) =
    walk_more (later weak body rest l at so) (surface_reached rest l at so n there)

pub depth_reached : (bodies : Bodies) (l : Label) (at : Source) (so : Bool) (n : Node) → InEach true bodies n →
    Reached (ResumeEach bodies) (EdgeEach bodies l at so) n
depth_reached Last l at so n h = elim h [ ]
depth_reached (BodyOf weak body rest) l at so n (inl here) =
    record { from = here.from; begins = inl here.begins; walk = walk_more (λ n m h. inl h) here.walk }
depth_reached (BodyOf weak body rest) l at so n (inr there) =
    let deep = depth_reached rest l at so n there in
    record { from = deep.from; begins = inr deep.begins; walk = walk_more (later weak body rest l at so) deep.walk }

pub bodies_fit_graph : BodiesFitGraph
bodies_fit_graph w i unit all is = body_lives w i all unit is
