-- The nodes that a graph speaks of are nodes of its body.
use Rattle.std.proofs.Common.{◌≡◌, Bool, true, false, ◌⊎◌, inl, inr, List, [], ◌∷◌, ◌++◌, refl, sym, subst}
use Rattle.std.specs.Prelude.{Contains}
use Rattle.std.proofs.lemmas.List.Elements.{Contains-append_left, Contains-append_right, Contains-push}
use Rattle.bl_tree.specs.declared.place.Place.{Place}
use Rattle.bl_tree.specs.declared.tree.Expr.{Expr}
use Rattle.bl_tree.specs.declared.tree.Guard.{Guard}
use Rattle.bl_tree.specs.declared.tree.Guard.TheVariants.{Abort, Reset}
use Rattle.bl_graph_nodes.specs.Nodes.{CheckAt, DepthEndAt, DepthJoinAt, ForkAt, HeadAt, Node, SurfaceEndAt, SurfaceJoinAt, TestAt, are_instant, entry}
use Rattle.bl_graph_nodes.specs.Nodes.{is_instant, nodes_in, nodes_in_each, nodes_of, where_so}
use Rattle.bl_graph_nodes.specs.Plain.{Act, Again, Await, Block, Bodies, Body, Cobegin, Done, If, Label, Last, Plain, Repeat, Run, Then, Until, When, While}
use Rattle.bl_graph.specs.DataEdges.{Across, Beside, BesideAll, BesideEach}
use Rattle.bl_graph.specs.Edges.{BodyEnd, Edge, EdgeAll, EdgeEach, Entry, Guarded, In, InEach, Into, LoopEdge, Out, OutAll, Resume, ResumeAll, ResumeEach}
use Rattle.bl_graph.specs.Edges.{SurfaceJoin}
use Rattle.bl_graph.specs.Laws.{StaysWithin}
use Rattle.bl_graph.proofs.Walking.{reached_keeps}

-- ---- members of lists

abbrev pub Has : List Node → Node → Type 0
Has [] n = ⊥
Has (x ∷ xs) n = (n ≡ x) ⊎ Has xs n

abbrev pub HasBoth : List Node → Node → Node → Type 0
HasBoth xs n m = Has xs n × Has xs m

pub has_left : (xs ys : List Node) (n : Node) → Has xs n → Has (xs ++ ys) n
has_left [] ys n h = elim h [ ]
has_left (x ∷ xs) ys n (inl e) = inl e
has_left (x ∷ xs) ys n (inr h) = inr (has_left xs ys n h)

pub has_right : (xs ys : List Node) (n : Node) → Has ys n → Has (xs ++ ys) n
has_right [] ys n h = h
has_right (x ∷ xs) ys n h = inr (has_right xs ys n h)

pub has_cases : (xs ys : List Node) (n : Node) → Has (xs ++ ys) n → Has xs n ⊎ Has ys n
has_cases [] ys n h = inr h
has_cases (x ∷ xs) ys n (inl e) = inl (inl e)
has_cases (x ∷ xs) ys n (inr h) = elim (has_cases xs ys n h) [ inl a ↦ inl (inr a) | inr b ↦ inr b ]

pub contained : (xs : List Node) (n : Node) → Has xs n → Contains xs n
contained [] n h = elim h [ ]
contained (x ∷ xs) n (inl e) = subst (λ y. Contains (x ∷ xs) y) (sym e) (Contains-append_left (x ∷ []) xs x (Contains-push [] x))
contained (x ∷ xs) n (inr h) = Contains-append_right (x ∷ []) xs n (contained xs n h)

pub where_has : (b : Bool) (x n : Node) → b ≡ true → n ≡ x → Has (where_so b x) n
where_has true x n is e = inl e
where_has false x n is e = cc

-- ---- where blocks begin, lead on, and go on later

entry_has : (s : Plain) (n : Node) → n ≡ entry s → Has (nodes_of s) n
entry_has (Act l s) n e = inl e
entry_has (Await l at test) n e = inl e
entry_has (Run l at target a inputs outputs) n e = inl e
entry_has (If l at test body other) n e = inl e
entry_has (Cobegin l at bodies) n e = inl e
entry_has (When l at guard test body) n e = inl e
entry_has (Repeat l at body) n e = inl e
entry_has (Until l at body test) n e = inl e
entry_has (While l at test body) n e = inl e
entry_has (Again l at body test) n e = inr (inl e)

pub entry_in : (body : Block) (n : Node) → Entry body n → Has (nodes_in body) n
entry_in Done n e = elim e [ ]
entry_in (Then s rest) n e = has_left (nodes_of s) (nodes_in rest) n (entry_has s n e)

-- the nodes of a `when` and of a `cobegin` after the first
abbrev after_start : Label → Place → Expr → Block → List Node
after_start l at e body = CheckAt l at e ∷ DepthEndAt l at ∷ nodes_in body

body_end_has : (l : Label) (at : Place) (guard : Guard) (e : Expr) (body : Block) (n : Node) → BodyEnd l at body n →
    Has (nodes_of (When l at guard e body)) n
body_end_has l at guard e body n (inl h) =
    inr (has_left (where_so (are_instant body) (SurfaceEndAt l at)) (after_start l at e body) n (where_has (are_instant body) (SurfaceEndAt l at) n h.0 h.1))
body_end_has l at guard e body n (inr h) = inr (has_right (where_so (are_instant body) (SurfaceEndAt l at)) (after_start l at e body) n (inr (inl h)))

-- from the body of a `when`, and from the branches of a `cobegin`
body_has : (l : Label) (at : Place) (guard : Guard) (e : Expr) (body : Block) (n : Node) → Has (nodes_in body) n → Has (nodes_of (When l at guard e body)) n
body_has l at guard e body n h = inr (has_right (where_so (are_instant body) (SurfaceEndAt l at)) (after_start l at e body) n (inr (inr h)))

check_has : (l : Label) (at : Place) (guard : Guard) (e : Expr) (body : Block) (n : Node) → n ≡ CheckAt l at e → Has (nodes_of (When l at guard e body)) n
check_has l at guard e body n h = inr (has_right (where_so (are_instant body) (SurfaceEndAt l at)) (after_start l at e body) n (inl h))

surface_join_has : (l : Label) (at : Place) (bodies : Bodies) (n : Node) → SurfaceJoin (is_instant (Cobegin l at bodies)) l at n →
    Has (nodes_of (Cobegin l at bodies)) n
surface_join_has l at bodies n h =
    let so : Bool = is_instant (Cobegin l at bodies) in
    inr (has_left (where_so so (SurfaceJoinAt l at)) (DepthJoinAt l at ∷ nodes_in_each bodies) n (where_has so (SurfaceJoinAt l at) n h.0 h.1))

depth_join_has : (l : Label) (at : Place) (bodies : Bodies) (n : Node) → n ≡ DepthJoinAt l at → Has (nodes_of (Cobegin l at bodies)) n
depth_join_has l at bodies n h =
    inr (has_right (where_so (is_instant (Cobegin l at bodies)) (SurfaceJoinAt l at)) (DepthJoinAt l at ∷ nodes_in_each bodies) n (inl h))

branches_have : (l : Label) (at : Place) (bodies : Bodies) (n : Node) → Has (nodes_in_each bodies) n → Has (nodes_of (Cobegin l at bodies)) n
branches_have l at bodies n h =
    inr (has_right (where_so (is_instant (Cobegin l at bodies)) (SurfaceJoinAt l at)) (DepthJoinAt l at ∷ nodes_in_each bodies) n (inr h))

mutual
  pub out_has : (s : Plain) (n : Node) → Out s n → Has (nodes_of s) n
  out_has (Act l s) n e = inl e
  out_has (Await l at test) n e = inr (inl e)
  out_has (Run l at target a inputs outputs) n e = inr (inl e)
  out_has (If l at test body other) n (inl h) = inr (has_left (nodes_in body) (nodes_in other) n (out_in body n h))
  out_has (If l at test body other) n (inr (inl h)) = inr (has_right (nodes_in body) (nodes_in other) n (out_in other n h))
  out_has (If l at test body other) n (inr (inr h)) = inl h.1
  out_has (Cobegin l at bodies) n (inl h) = surface_join_has l at bodies n h
  out_has (Cobegin l at bodies) n (inr h) = depth_join_has l at bodies n h
  out_has (When l at guard test body) n h = body_end_has l at guard test body n h
  out_has (Repeat l at body) n h = elim h [ ]
  out_has (Until l at body test) n e = inr (inl e)
  out_has (While l at test body) n e = inl e
  out_has (Again l at body test) n e = inr (inl e)

  pub out_in : (body : Block) (n : Node) → OutAll body n → Has (nodes_in body) n
  out_in Done n h = elim h [ ]
  out_in (Then s rest) n (inl h) = has_right (nodes_of s) (nodes_in rest) n (out_in rest n h)
  out_in (Then s rest) n (inr h) = has_left (nodes_of s) (nodes_in rest) n (out_has s n h.1)

mutual
  resume_has : (s : Plain) (n : Node) → Resume s n → Has (nodes_of s) n
  resume_has (Act l s) n h = elim h [ ]
  resume_has (Await l at test) n e = inr (inl e)
  resume_has (Run l at target a inputs outputs) n e = inr (inl e)
  resume_has (If l at test body other) n (inl h) = inr (has_left (nodes_in body) (nodes_in other) n (resume_in body n h))
  resume_has (If l at test body other) n (inr h) = inr (has_right (nodes_in body) (nodes_in other) n (resume_in other n h))
  resume_has (Cobegin l at bodies) n h = branches_have l at bodies n (resume_each bodies n h)
  resume_has (When l at guard test body) n h = check_has l at guard test body n h
  resume_has (Repeat l at body) n h = inr (resume_in body n h)
  resume_has (Until l at body test) n h = inr (inr (resume_in body n h))
  resume_has (While l at test body) n h = inr (resume_in body n h)
  resume_has (Again l at body test) n h = inr (inr (resume_in body n h))

  pub resume_in : (body : Block) (n : Node) → ResumeAll body n → Has (nodes_in body) n
  resume_in Done n h = elim h [ ]
  resume_in (Then s rest) n (inl h) = has_left (nodes_of s) (nodes_in rest) n (resume_has s n h)
  resume_in (Then s rest) n (inr h) = has_right (nodes_of s) (nodes_in rest) n (resume_in rest n h)

  resume_each : (bodies : Bodies) (n : Node) → ResumeEach bodies n → Has (nodes_in_each bodies) n
  resume_each Last n h = elim h [ ]
  resume_each (Body weak body rest) n (inl h) = has_left (nodes_in body) (nodes_in_each rest) n (resume_in body n h)
  resume_each (Body weak body rest) n (inr h) = has_right (nodes_in body) (nodes_in_each rest) n (resume_each rest n h)

-- ---- edges

into_has : (H : Node → Type 0) (body : Block) (F : Node → Type 0) → ((n : Node) → Has (nodes_in body) n → H n) → ((n : Node) → F n → H n) →
    (n : Node) → Into body F n → H n
into_has H body F inside follows n (inl e) = inside n (entry_in body n e)
into_has H body F inside follows n (inr h) = follows n h.1

turn_has : (H : Node → Type 0) (body : Block) (first last n m : Node) → H first → H last → ((n : Node) → Has (nodes_in body) n → H n) →
    LoopEdge body first last n m → H n × H m
turn_has H body first last n m begins ends inside (inl h) =
    (subst H (sym h.0) begins, into_has H body (λ k. k ≡ last) inside (λ k is. subst H (sym is) ends) m h.1)
turn_has H body first last n m begins ends inside (inr h) = (inside n (out_in body n h.0), subst H (sym h.1) ends)

guarded_has : (H : Node → Type 0) (guard : Guard) (l : Label) (at : Place) (body : Block) (n : Node) → ((n : Node) → Has (nodes_in body) n → H n) →
    ((n : Node) → BodyEnd l at body n → H n) → Guarded guard l at body n → H n
guarded_has H Abort l at body n inside ends h = ends n (inr h)
guarded_has H Reset l at body n inside ends h = into_has H body (BodyEnd l at body) inside ends n h

test_leads : (l : Label) (at : Place) (e : Expr) (body other : Block) (m : Node) → Entry body m ⊎ Entry other m → Has (nodes_of (If l at e body other)) m
test_leads l at e body other m (inl h) = inr (has_left (nodes_in body) (nodes_in other) m (entry_in body m h))
test_leads l at e body other m (inr h) = inr (has_right (nodes_in body) (nodes_in other) m (entry_in other m h))

mutual
  pub edge_has : (s : Plain) (n m : Node) → Edge s n m → HasBoth (nodes_of s) n m
  edge_has (Act l s) n m h = elim h [ ]
  edge_has (Await l at e) n m h = elim h [ ]
  edge_has (Run l at target a inputs outputs) n m h = elim h [ ]
  edge_has (If l at e body other) n m (inl h) =
      let both = edge_in body n m h in
      (inr (has_left (nodes_in body) (nodes_in other) n both.0), inr (has_left (nodes_in body) (nodes_in other) m both.1))
  edge_has (If l at e body other) n m (inr (inl h)) =
      let both = edge_in other n m h in
      (inr (has_right (nodes_in body) (nodes_in other) n both.0), inr (has_right (nodes_in body) (nodes_in other) m both.1))
  edge_has (If l at e body other) n m (inr (inr h)) = (inl h.0, test_leads l at e body other m h.1)
  edge_has (Cobegin l at bodies) n m h =
      edge_each bodies l at (is_instant (Cobegin l at bodies)) (nodes_of (Cobegin l at bodies)) (λ k is. inl is) (surface_join_has l at bodies)
      (depth_join_has l at bodies) (branches_have l at bodies) n m h
  edge_has (When l at guard e body) n m (inl h) =
      let both = edge_in body n m h in (body_has l at guard e body n both.0, body_has l at guard e body m both.1)
  edge_has (When l at guard e body) n m (inr (inl h)) =
      (inl h.0, into_has (Has (nodes_of (When l at guard e body))) body (BodyEnd l at body) (body_has l at guard e body) (body_end_has l at guard e body) m h.1)
  edge_has (When l at guard e body) n m (inr (inr (inl h))) =
      (check_has l at guard e body n h.0, body_has l at guard e body m (resume_in body m h.1))
  edge_has (When l at guard e body) n m (inr (inr (inr (inl h)))) = (
    check_has l at guard e body n h.0,
    guarded_has (Has (nodes_of (When l at guard e body))) guard l at body m (body_has l at guard e body) (body_end_has l at guard e body) h.1,
  )
  edge_has (When l at guard e body) n m (inr (inr (inr (inr h)))) =
      (body_has l at guard e body n (out_in body n h.0), body_end_has l at guard e body m h.1)
  edge_has (Repeat l at body) n m (inl h) = let both = edge_in body n m h in (inr both.0, inr both.1)
  edge_has (Repeat l at body) n m (inr h) =
      turn_has (Has (nodes_of (Repeat l at body))) body (HeadAt l at) (HeadAt l at) n m (inl refl) (inl refl) (λ k is. inr is) h
  edge_has (Until l at body e) n m (inl h) = let both = edge_in body n m h in (inr (inr both.0), inr (inr both.1))
  edge_has (Until l at body e) n m (inr (inl h)) =
      turn_has (Has (nodes_of (Until l at body e))) body (HeadAt l at) (TestAt l at e) n m (inl refl) (inr (inl refl)) (λ k is. inr (inr is)) h
  edge_has (Until l at body e) n m (inr (inr h)) = (inr (inl h.0), inl h.1)
  edge_has (While l at e body) n m (inl h) = let both = edge_in body n m h in (inr both.0, inr both.1)
  edge_has (While l at e body) n m (inr h) =
      turn_has (Has (nodes_of (While l at e body))) body (TestAt l at e) (TestAt l at e) n m (inl refl) (inl refl) (λ k is. inr is) h
  edge_has (Again l at body e) n m (inl h) = let both = edge_in body n m h in (inr (inr both.0), inr (inr both.1))
  edge_has (Again l at body e) n m (inr (inl h)) =
      turn_has (Has (nodes_of (Until l at body e))) body (HeadAt l at) (TestAt l at e) n m (inl refl) (inr (inl refl)) (λ k is. inr (inr is)) h
  edge_has (Again l at body e) n m (inr (inr h)) = (inr (inl h.0), inl h.1)

  pub edge_in : (body : Block) (n m : Node) → EdgeAll body n m → HasBoth (nodes_in body) n m
  edge_in Done n m h = elim h [ ]
  edge_in (Then s rest) n m (inl h) =
      let both = edge_has s n m h in (has_left (nodes_of s) (nodes_in rest) n both.0, has_left (nodes_of s) (nodes_in rest) m both.1)
  edge_in (Then s rest) n m (inr (inl h)) =
      let both = edge_in rest n m h in (has_right (nodes_of s) (nodes_in rest) n both.0, has_right (nodes_of s) (nodes_in rest) m both.1)
  edge_in (Then s rest) n m (inr (inr h)) =
      (has_left (nodes_of s) (nodes_in rest) n (out_has s n h.0), has_right (nodes_of s) (nodes_in rest) m (entry_in rest m h.1))

  edge_each : (bodies : Bodies) (l : Label) (at : Place) (so : Bool) (all : List Node) → ((n : Node) → n ≡ ForkAt l at → Has all n) →
      ((n : Node) → SurfaceJoin so l at n → Has all n) → ((n : Node) → n ≡ DepthJoinAt l at → Has all n) →
      ((n : Node) → Has (nodes_in_each bodies) n → Has all n) →
      (n m : Node) → EdgeEach bodies l at so n m → HasBoth all n m
  edge_each Last l at so all fork surface depth inside n m h = elim h [ ]
  edge_each (Body weak body rest) l at so all fork surface depth inside n m (inl h) =
      let both = edge_in body n m h in
      (inside n (has_left (nodes_in body) (nodes_in_each rest) n both.0), inside m (has_left (nodes_in body) (nodes_in_each rest) m both.1))
  edge_each (Body weak body rest) l at so all fork surface depth inside n m (inr (inl h)) = (
    fork n h.0,
    into_has (Has all) body (SurfaceJoin so l at) (λ k is. inside k (has_left (nodes_in body) (nodes_in_each rest) k is)) surface m h.1,
  )
  edge_each (Body weak body rest) l at so all fork surface depth inside n m (inr (inr (inl h))) = (
    inside n (has_left (nodes_in body) (nodes_in_each rest) n
        (reached_keeps (Has (nodes_in body)) (entry_in body) (λ k j is. (edge_in body k j is).1) n h.0.0)),
    surface m h.1,
  )
  edge_each (Body weak body rest) l at so all fork surface depth inside n m (inr (inr (inr (inl h)))) = (
    inside n (has_left (nodes_in body) (nodes_in_each rest) n
        (reached_keeps (Has (nodes_in body)) (resume_in body) (λ k j is. (edge_in body k j is).1) n h.0.0)),
    depth m h.1,
  )
  edge_each (Body weak body rest) l at so all fork surface depth inside n m (inr (inr (inr (inr h)))) =
      edge_each rest l at so all fork surface depth (λ k is. inside k (has_right (nodes_in body) (nodes_in_each rest) k is)) n m h

-- ---- surface, depth, and nodes of different branches

pub part_in : (deep : Bool) (body : Block) (n : Node) → In deep body n → Has (nodes_in body) n
part_in false body n h = reached_keeps (Has (nodes_in body)) (entry_in body) (λ k j is. (edge_in body k j is).1) n h
part_in true body n h = reached_keeps (Has (nodes_in body)) (resume_in body) (λ k j is. (edge_in body k j is).1) n h

pub part_each : (deep : Bool) (bodies : Bodies) (n : Node) → InEach deep bodies n → Has (nodes_in_each bodies) n
part_each deep Last n h = elim h [ ]
part_each deep (Body weak body rest) n (inl h) = has_left (nodes_in body) (nodes_in_each rest) n (part_in deep body n h)
part_each deep (Body weak body rest) n (inr h) = has_right (nodes_in body) (nodes_in_each rest) n (part_each deep rest n h)

across_has : (deep weak : Bool) (body : Block) (rest : Bodies) (n m : Node) → Across (In deep body) (InEach deep rest) n m →
    HasBoth (nodes_in_each (Body weak body rest)) n m
across_has deep weak body rest n m (inl h) = (
  has_left (nodes_in body) (nodes_in_each rest) n (part_in deep body n h.0),
  has_right (nodes_in body) (nodes_in_each rest) m (part_each deep rest m h.1),
)
across_has deep weak body rest n m (inr h) = (
  has_right (nodes_in body) (nodes_in_each rest) n (part_each deep rest n h.0),
  has_left (nodes_in body) (nodes_in_each rest) m (part_in deep body m h.1),
)

mutual
  beside_has : (s : Plain) (n m : Node) → Beside s n m → HasBoth (nodes_of s) n m
  beside_has (Act l s) n m h = elim h [ ]
  beside_has (Await l at e) n m h = elim h [ ]
  beside_has (Run l at target a inputs outputs) n m h = elim h [ ]
  beside_has (If l at e body other) n m (inl h) =
      let both = beside_in body n m h in
      (inr (has_left (nodes_in body) (nodes_in other) n both.0), inr (has_left (nodes_in body) (nodes_in other) m both.1))
  beside_has (If l at e body other) n m (inr h) =
      let both = beside_in other n m h in
      (inr (has_right (nodes_in body) (nodes_in other) n both.0), inr (has_right (nodes_in body) (nodes_in other) m both.1))
  beside_has (Cobegin l at bodies) n m h =
      let both = beside_each bodies n m h in (branches_have l at bodies n both.0, branches_have l at bodies m both.1)
  beside_has (When l at guard e body) n m h =
      let both = beside_in body n m h in (body_has l at guard e body n both.0, body_has l at guard e body m both.1)
  beside_has (Repeat l at body) n m h = let both = beside_in body n m h in (inr both.0, inr both.1)
  beside_has (Until l at body e) n m h = let both = beside_in body n m h in (inr (inr both.0), inr (inr both.1))
  beside_has (While l at e body) n m h = let both = beside_in body n m h in (inr both.0, inr both.1)
  beside_has (Again l at body e) n m h = let both = beside_in body n m h in (inr (inr both.0), inr (inr both.1))

  beside_in : (body : Block) (n m : Node) → BesideAll body n m → HasBoth (nodes_in body) n m
  beside_in Done n m h = elim h [ ]
  beside_in (Then s rest) n m (inl h) =
      let both = beside_has s n m h in (has_left (nodes_of s) (nodes_in rest) n both.0, has_left (nodes_of s) (nodes_in rest) m both.1)
  beside_in (Then s rest) n m (inr h) =
      let both = beside_in rest n m h in (has_right (nodes_of s) (nodes_in rest) n both.0, has_right (nodes_of s) (nodes_in rest) m both.1)

  beside_each : (bodies : Bodies) (n m : Node) → BesideEach bodies n m → HasBoth (nodes_in_each bodies) n m
  beside_each Last n m h = elim h [ ]
  beside_each (Body weak body rest) n m (inl h) =
      let both = beside_in body n m h in
      (has_left (nodes_in body) (nodes_in_each rest) n both.0, has_left (nodes_in body) (nodes_in_each rest) m both.1)
  beside_each (Body weak body rest) n m (inr (inl h)) = across_has false weak body rest n m h
  beside_each (Body weak body rest) n m (inr (inr (inl h))) = across_has true weak body rest n m h
  beside_each (Body weak body rest) n m (inr (inr (inr h))) =
      let both = beside_each rest n m h in
      (has_right (nodes_in body) (nodes_in_each rest) n both.0, has_right (nodes_in body) (nodes_in_each rest) m both.1)

contained_both : (xs : List Node) (n m : Node) → HasBoth xs n m → Contains xs n × Contains xs m
contained_both xs n m both = (contained xs n both.0, contained xs m both.1)

pub stays_within : (body : Block) → StaysWithin body
stays_within body = record {
  edges = λ n m h. contained_both (nodes_in body) n m (edge_in body n m h);
  entries = λ n h. contained (nodes_in body) n (entry_in body n h);
  outs = λ n h. contained (nodes_in body) n (out_in body n h);
  resumes = λ n h. contained (nodes_in body) n (resume_in body n h);
  surface = λ n h. contained (nodes_in body) n (part_in false body n h);
  depth = λ n h. contained (nodes_in body) n (part_in true body n h);
  beside = λ n m h. contained_both (nodes_in body) n m (beside_in body n m h);
}
