-- The branches of a `cobegin`, and one more.
use Rattle.std.proofs.Common.{◌≡◌, ℕ, suc, ◌+◌, Bool, true, false, cond, List, [], ◌∷◌, ◌++◌, map, length, Some, refl, ap, sym, ◌∙◌, subst, arith}
use Rattle.std.proofs.Common.{append_assoc, append-nil, zero-add}
use Rattle.std.proofs.lemmas.List.{length-append, length-map}
use Rattle.bl_tree.proofs.Basics.{or_false, or_regroup}
use Rattle.bl_tree.specs.declared.graph.Edge.{Edge}
use Rattle.bl_tree.specs.declared.place.Place.{Place}
use Rattle.bl_graph_nodes.specs.Nodes.{DepthJoinAt, ForkAt, Node, SurfaceJoinAt, nodes_in, nodes_in_each, where_so}
use Rattle.bl_graph_nodes.specs.Plain.{Block, Bodies, Body, Branch, Label, Last, bodies_from, inside, is_empty}
use Rattle.bl_graph.specs.declared.flow.Span.{Span}
use Rattle.bl_graph.specs.declared.part.Branches.{Branches}
use Rattle.bl_graph.specs.declared.part.Links.{Links}
use Rattle.bl_graph.specs.declared.part.Out.{Out}
use Rattle.bl_graph.specs.declared.part.Part.{Part as Made}
use Rattle.bl_graph.specs.Listed.{Pair, depth_to, edges_in, edges_in_each, entry_of, flows_in, from_to, leaving_of, resumes_in, resumes_in_each, surface_to}
use Rattle.bl_graph.specs.Marks.{Mark, Marked, either, leaves, part_in, parts_of, unreached}
use Rattle.bl_graph.specs.inner.Made.{Adds, IsEdge, IsNode, IsOut, Makes, MakesEach, Names, NamesEntry, Naming, Pairwise, flow_of, flows_within, spans_of}
use Rattle.bl_graph.specs.inner.Made.{whole_in}
use Rattle.bl_graph.specs.inner.Parts.{branch_links, joined_branch, leaving_outs, number_if, numbered, surface_links}
use Rattle.bl_graph.proofs.Making.{flows_append}
use Rattle.bl_graph.proofs.Marking.{names_in}
use Rattle.bl_graph.proofs.Numbering.{adds_listed, adds_then, depth_pairs, from_pairs, into_pairs, leave_same, number_pairs, numbered_pairs}
use Rattle.bl_graph.proofs.Numbering.{pairs_append, surface_pairs}

-- one more branch
abbrev pub with_branch : Bodies → Bool → Block → Bodies
with_branch Last weak b = Body weak b Last
with_branch (Body w c rest) weak b = Body w c (with_branch rest weak b)

-- the edges of a branch but for those in it
abbrev pub edges_around : Bool → Block → Label → Place → Bool → List Pair
edges_around weak b l at instant = from_to (ForkAt l at) (entry_of b (where_so instant (SurfaceJoinAt l at)))
    ++ ((cond instant (surface_to (leaving_of weak b) (SurfaceJoinAt l at)) []) ++ depth_to (leaving_of weak b) (DepthJoinAt l at))

either_none : (a : Mark) → either a unreached ≡ either unreached a
either_none a = λ i. record { surface = or_false a.surface i; depth = or_false a.depth i }

either_apart : (a b c : Mark) → either a (either b c) ≡ either (either a b) c
either_apart a b c = λ i. record { surface = or_regroup a.surface b.surface c.surface i; depth = or_regroup a.depth b.depth c.depth i }

abbrev pub leave_of : Bool → Block → Mark
leave_of weak b = leaves (cond weak (part_in b).nodes (part_in b).outs)

pub names_with : (bodies : Bodies) (weak : Bool) (b : Block) → nodes_in_each (with_branch bodies weak b) ≡ nodes_in_each bodies ++ nodes_in b
names_with Last weak b = append-nil (nodes_in b)
names_with (Body w c rest) weak b = ap (λ ns. nodes_in c ++ ns) (names_with rest weak b) ∙ sym (append_assoc (nodes_in c) (nodes_in_each rest) (nodes_in b))

pub nodes_with : (bodies : Bodies) (weak : Bool) (b : Block) → (parts_of (with_branch bodies weak b)).nodes ≡ (parts_of bodies).nodes ++ (part_in b).nodes
nodes_with Last weak b = append-nil (part_in b).nodes
nodes_with (Body w c rest) weak b =
    ap (λ ns. (part_in c).nodes ++ ns) (nodes_with rest weak b) ∙ sym (append_assoc (part_in c).nodes (parts_of rest).nodes (part_in b).nodes)

pub left_with : (bodies : Bodies) (weak : Bool) (b : Block) → (parts_of (with_branch bodies weak b)).left ≡ either (parts_of bodies).left (leave_of weak b)
left_with Last weak b = either_none (leave_of weak b)
left_with (Body w c rest) weak b =
    ap (either (leave_of w c)) (left_with rest weak b) ∙ either_apart (leave_of w c) (parts_of rest).left (leave_of weak b)

pub resumes_with : (bodies : Bodies) (weak : Bool) (b : Block) → resumes_in_each (with_branch bodies weak b) ≡ resumes_in_each bodies ++ resumes_in b
resumes_with Last weak b = append-nil (resumes_in b)
resumes_with (Body w c rest) weak b =
    ap (λ ns. resumes_in c ++ ns) (resumes_with rest weak b) ∙ sym (append_assoc (resumes_in c) (resumes_in_each rest) (resumes_in b))

pub flows_with : (bodies : Bodies) (weak : Bool) (b : Block) → flows_within (with_branch bodies weak b) ≡ flows_within bodies ++ flows_in b
flows_with Last weak b = append-nil (flows_in b)
flows_with (Body w c rest) weak b =
    ap (λ ns. flows_in c ++ ns) (flows_with rest weak b) ∙ sym (append_assoc (flows_in c) (flows_within rest) (flows_in b))

-- five lists one after another
regroup : (a b c d e f : List Pair) → a ++ (b ++ (c ++ (d ++ (e ++ f)))) ≡ (a ++ (b ++ (c ++ (d ++ e)))) ++ f
regroup a b c d e f =
    ap (λ l. a ++ (b ++ (c ++ l))) (sym (append_assoc d e f)) ∙ ap (λ l. a ++ (b ++ l)) (sym (append_assoc c (d ++ e) f))
    ∙ ap (λ l. a ++ l) (sym (append_assoc b (c ++ (d ++ e)) f)) ∙ sym (append_assoc a (b ++ (c ++ (d ++ e))) f)

pub edges_with : (bodies : Bodies) (weak : Bool) (b : Block) (l : Label) (at : Place) (instant : Bool) →
    edges_in_each (with_branch bodies weak b) l at instant ≡ edges_in_each bodies l at instant ++ (edges_in b ++ edges_around weak b l at instant)
edges_with Last weak b l at instant =
    let lead : List Pair = from_to (ForkAt l at) (entry_of b (where_so instant (SurfaceJoinAt l at))) in
    let soon : List Pair = cond instant (surface_to (leaving_of weak b) (SurfaceJoinAt l at)) [] in
    ap (λ ps. edges_in b ++ (lead ++ (soon ++ ps))) (append-nil (depth_to (leaving_of weak b) (DepthJoinAt l at)))
edges_with (Body w c rest) weak b l at instant =
    ap (λ ps. edges_in c ++ (from_to (ForkAt l at) (entry_of c (where_so instant (SurfaceJoinAt l at)))
    ++ ((cond instant (surface_to (leaving_of w c) (SurfaceJoinAt l at)) [])
    ++ (depth_to (leaving_of w c) (DepthJoinAt l at) ++ ps)))) (edges_with rest weak b l at instant)
    ∙ regroup (edges_in c) (from_to (ForkAt l at) (entry_of c (where_so instant (SurfaceJoinAt l at))))
    (cond instant (surface_to (leaving_of w c) (SurfaceJoinAt l at)) []) (depth_to (leaving_of w c) (DepthJoinAt l at))
    (edges_in_each rest l at instant) (edges_in b ++ edges_around weak b l at instant)

-- the nodes of one branch after so many
abbrev pub span_of : ℕ → Block → Span
span_of n b = record { first = n; end = n + length (part_in b).nodes }

pub spans_with : (n : ℕ) (bodies : Bodies) (weak : Bool) (b : Block) →
    spans_of n (with_branch bodies weak b) ≡ spans_of n bodies ++ span_of (n + length (parts_of bodies).nodes) b ∷ []
spans_with n Last weak b = let same : n ≡ n + 0 = omega arith in ap (λ k. span_of k b ∷ []) same
spans_with n (Body w c rest) weak b =
    let more : length ((part_in c).nodes ++ (parts_of rest).nodes) ≡ length (part_in c).nodes + length (parts_of rest).nodes =
    length-append (part_in c).nodes (parts_of rest).nodes in
    let same : (n + length (part_in c).nodes) + length (parts_of rest).nodes ≡ n + length ((part_in c).nodes ++ (parts_of rest).nodes) = omega arith in
    ap (λ spans. span_of n c ∷ spans) (spans_with (n + length (part_in c).nodes) rest weak b
    ∙ ap (λ k. spans_of (n + length (part_in c).nodes) rest ++ span_of k b ∷ []) same)

pub bodies_with : (bs : List Branch) (b : Branch) (k : ℕ) (l : Label) →
    bodies_from (bs ++ b ∷ []) k l ≡ with_branch (bodies_from bs k l) b.weak (b.body (inside l (k + length bs)))
bodies_with [] b k l = let same : k ≡ k + 0 = omega arith in ap (λ n. Body b.weak (b.body (inside l n)) Last) same
bodies_with (a ∷ bs) b k l =
    let same : suc k + length bs ≡ k + suc (length bs) = omega arith in
    ap (Body a.weak (a.body (inside l k))) (bodies_with bs b (suc k) l
    ∙ ap (λ n. with_branch (bodies_from bs (suc k) l) b.weak (b.body (inside l n))) same)

module _ (naming : Naming) where
  -- the nodes of a branch from which its `cobegin` may end
  pub leaving_pairs : (weak : Bool) (b : Block) (start : ℕ) (body : Made) → body.flows ≡ map flow_of (part_in b).nodes
      → Pairwise (IsOut naming) body.outs (part_in b).outs → Names naming start (nodes_in b)
      → Pairwise (IsOut naming) (leaving_outs weak start body) (leaving_of weak b)
  leaving_pairs true b start body flows outs named =
      subst (λ fs. Pairwise (IsOut naming) (numbered start fs) (part_in b).nodes) (sym flows)
      (numbered_pairs naming start (part_in b).nodes (subst (Names naming start) (sym (names_in b)) named))
  leaving_pairs false b start body flows outs named = outs

  lengths : (body : Made) (b : Block) → body.flows ≡ map flow_of (part_in b).nodes → length body.flows ≡ length (part_in b).nodes
  lengths body b flows = ap length flows ∙ length-map (part_in b).nodes flow_of

  soon_pairs : (instant : Bool) (leave : List Out) (ms : List Marked) (k : ℕ) (n : Node) → Pairwise (IsOut naming) leave ms
      → (instant ≡ true → naming k ≡ Some n)
      → Pairwise (IsEdge false naming) (cond instant (surface_links leave k) []) (cond instant (surface_to ms n) [])
  soon_pairs true leave ms k n all is = surface_pairs naming leave ms k n all (is refl)
  soon_pairs false leave ms k n all is = tt

  pub branch_makes : (bodies : Bodies) (weak : Bool) (b : Block) (l : Label) (at : Place) (instant : Bool) (first join start : ℕ) (empty : Bool)
      (made : Branches) (body : Made) (l0 l1 l2 : Links) (after : List Edge) → empty ≡ is_empty b → naming first ≡ Some (ForkAt l at)
      → (instant ≡ true → naming (first + 1) ≡ Some (SurfaceJoinAt l at)) → naming join ≡ Some (DepthJoinAt l at)
      → Names naming start (nodes_in b) → NamesEntry naming start b
      → MakesEach naming bodies l at instant made l0 l1 → Makes naming (whole_in b) body l1 l2
      → after ≡ l2.control ++ branch_links empty instant first join start (leaving_outs weak start body)
      → MakesEach naming (with_branch bodies weak b) l at instant (joined_branch made (leaving_outs weak start body) body) l0
      (record { control = after; by_data = l2.by_data })
  branch_makes bodies weak b l at instant first join start empty made body l0 l1 l2 after empty_is fork surface depth named leads each makes grows =
      let leave : Pairwise (IsOut naming) (leaving_outs weak start body) (leaving_of weak b) =
      leaving_pairs weak b start body makes.flows makes.outs named in
      let counted : length made.flows ≡ length (parts_of bodies).nodes = ap length each.flows ∙ length-map (parts_of bodies).nodes flow_of in
      let before : length made.flows ≡ 0 + length (parts_of bodies).nodes = counted ∙ sym (zero-add (length (parts_of bodies).nodes)) in
      let more : length body.flows ≡ length (part_in b).nodes = lengths body b makes.flows in
      record {
        flows = (λ i. each.flows i ++ makes.flows i) ∙ sym (flows_append (parts_of bodies).nodes (part_in b).nodes)
            ∙ ap (map flow_of) (sym (nodes_with bodies weak b));
        left = (λ i. either (each.left i) (leave_same naming (leaving_outs weak start body) (leaving_of weak b) leave i)) ∙ sym (left_with bodies weak b);
        resumes = subst (Pairwise (IsNode naming) (made.resumes ++ body.resumes)) (sym (resumes_with bodies weak b))
            (pairs_append (IsNode naming) _ _ _ _ each.resumes makes.resumes);
        spans = (λ i. each.spans i ++ record { first = before i; end = before i + more i } ∷ []) ∙ sym (spans_with 0 bodies weak b);
        control = subst (λ ps. Adds false naming ps l0.control after) (sym (edges_with bodies weak b l at instant))
            (adds_then false naming (edges_in_each bodies l at instant) (edges_in b ++ edges_around weak b l at instant) l0.control l1.control after
            each.control
            (adds_then false naming (edges_in b) (edges_around weak b l at instant) l1.control l2.control after makes.control
            (adds_listed false naming (edges_around weak b l at instant) _ l2.control after
            (pairs_append (IsEdge false naming) _ _ _ _
            (from_pairs naming first (ForkAt l at) _ _ fork
            (into_pairs naming b empty start (number_if instant (first + 1)) _ empty_is leads (number_pairs naming instant (first + 1) _ surface)))
            (pairs_append (IsEdge false naming) _ _ _ _
            (soon_pairs instant (leaving_outs weak start body) (leaving_of weak b) (first + 1) (SurfaceJoinAt l at) leave surface)
            (depth_pairs naming (leaving_outs weak start body) (leaving_of weak b) join (DepthJoinAt l at) leave depth)))
            grows)));
        by_data = subst (λ ps. Adds true naming ps l0.by_data l2.by_data) (sym (flows_with bodies weak b))
            (adds_then true naming (flows_within bodies) (flows_in b) l0.by_data l1.by_data l2.by_data each.by_data makes.by_data);
      }
