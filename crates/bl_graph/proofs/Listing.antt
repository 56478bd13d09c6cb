-- The listed edges of a body are its control edges.
use Rattle.std.proofs.Common.{◌≡◌, ℕ, zero, suc, Bool, true, false, cond, ◌⊎◌, inl, inr, List, [], ◌∷◌, ◌++◌, refl, ap, sym, ◌∙◌, subst}
use Rattle.std.specs.Prelude.{Contains, slice_get, Some, None}
use Rattle.std.proofs.lemmas.List.Elements.{Contains-append_left, Contains-append_right, Contains-push}
use Rattle.std.proofs.lemmas.Option.{slice_get-get_or}
use Rattle.bl_tree.proofs.Basics.{from_false}
use Rattle.bl_tree.specs.declared.place.Place.{Place}
use Rattle.bl_tree.specs.declared.tree.Expr.{Expr}
use Rattle.bl_tree.specs.declared.tree.Guard.{Guard}
use Rattle.bl_tree.specs.declared.tree.Guard.TheVariants.{Abort, Reset}
use Rattle.bl_graph_nodes.specs.Laws.{NodesDiffer}
use Rattle.bl_graph_nodes.specs.Nodes.{CheckAt, DepthEndAt, DepthJoinAt, ForkAt, HeadAt, Node, StartAt, SurfaceEndAt, SurfaceJoinAt, TestAt, are_instant}
use Rattle.bl_graph_nodes.specs.Nodes.{is_instant, where_so}
use Rattle.bl_graph_nodes.specs.Plain.{Act, Again, Await, Block, Bodies, Body, Cobegin, Done, If, Label, Last, Plain, Repeat, Run, Then, Until, When, While}
use Rattle.bl_graph_nodes.specs.Plain.{plain_block}
use Rattle.bl_graph.specs.Edges.{BodyEnd, Edge, EdgeAll, EdgeEach, Entry, Guarded, Into, Joins, LoopEdge, Out, OutAll, Resume, ResumeAll, ResumeEach}
use Rattle.bl_graph.specs.Edges.{SurfaceJoin}
use Rattle.bl_graph.specs.Laws.{EdgesAreListed}
use Rattle.bl_graph.specs.Listed.{Pair, depth_to, each_to, each_to_all, edges_in, edges_in_each, edges_of, ends_of, entry_of, from_to, guard_to, leaving_of}
use Rattle.bl_graph.specs.Listed.{pair, resumes_in, resumes_in_each, resumes_of, surface_to, turn_of}
use Rattle.bl_graph.specs.Marks.{Mark, Marked, again_by, moved, part_in, part_of, parts_of, some_of}
use Rattle.bl_graph.specs.Walks.{Reached}
use Rattle.bl_graph.proofs.Enclosing.{all_differ, body_differs, branches_differ, depth_in, first_differ, full_in, full_of, leave_at, moved_differ}
use Rattle.bl_graph.proofs.Enclosing.{second_differ, surface_in}
use Rattle.bl_graph.proofs.Filling.{Full, FullIn}
use Rattle.bl_graph.proofs.Marking.{At, Differ, Holds, Is, has_at, names, names_in, names_of}
use Rattle.bl_graph.proofs.Sounding.{joins_of, sound_in, sound_of}
use Rattle.bl_graph.proofs.Staying.{Has, has_cases, has_left, has_right, out_has, out_in, where_has}

-- ---- pairs in a list

abbrev pub HasPair : List Pair → Node → Node → Type 0
HasPair [] n m = ⊥
HasPair (p ∷ ps) n m = ((n ≡ p.from) × (m ≡ p.to)) ⊎ HasPair ps n m

pub p_left : (ps qs : List Pair) (n m : Node) → HasPair ps n m → HasPair (ps ++ qs) n m
p_left [] qs n m h = elim h [ ]
p_left (p ∷ ps) qs n m (inl h) = inl h
p_left (p ∷ ps) qs n m (inr h) = inr (p_left ps qs n m h)

pub p_right : (ps qs : List Pair) (n m : Node) → HasPair qs n m → HasPair (ps ++ qs) n m
p_right [] qs n m h = h
p_right (p ∷ ps) qs n m h = inr (p_right ps qs n m h)

pub p_cases : (ps qs : List Pair) (n m : Node) → HasPair (ps ++ qs) n m → HasPair ps n m ⊎ HasPair qs n m
p_cases [] qs n m h = inr h
p_cases (p ∷ ps) qs n m (inl h) = inl (inl h)
p_cases (p ∷ ps) qs n m (inr h) = elim (p_cases ps qs n m h) [ inl a ↦ inl (inr a) | inr b ↦ inr b ]

-- ---- what makes them

from_node : (x : Node) (xs : List Node) (n m : Node) → HasPair (from_to x xs) n m → (n ≡ x) × Has xs m
from_node x [] n m h = elim h [ ]
from_node x (y ∷ xs) n m (inl h) = (h.0, inl h.1)
from_node x (y ∷ xs) n m (inr h) = let rest = from_node x xs n m h in (rest.0, inr rest.1)

node_from : (x : Node) (xs : List Node) (n m : Node) → n ≡ x → Has xs m → HasPair (from_to x xs) n m
node_from x [] n m same h = elim h [ ]
node_from x (y ∷ xs) n m same (inl h) = inl (same, h)
node_from x (y ∷ xs) n m same (inr h) = inr (node_from x xs n m same h)

to_node : (ms : List Marked) (t n m : Node) → HasPair (each_to ms t) n m → Holds ms n × (m ≡ t)
to_node [] t n m h = elim h [ ]
to_node (x ∷ ms) t n m (inl h) = (record { mark = x.mark; there = inl (h.0, refl) }, h.1)
to_node (x ∷ ms) t n m (inr h) = let rest = to_node ms t n m h in (record { mark = rest.0.mark; there = inr rest.0.there }, rest.1)

node_to : (ms : List Marked) (t n m : Node) (k : Mark) → At ms n k → m ≡ t → HasPair (each_to ms t) n m
node_to [] t n m k h same = elim h [ ]
node_to (x ∷ ms) t n m k (inl h) same = inl (h.0, same)
node_to (x ∷ ms) t n m k (inr h) same = inr (node_to ms t n m k h same)

to_nodes : (ms : List Marked) (ts : List Node) (n m : Node) → HasPair (each_to_all ms ts) n m → Holds ms n × Has ts m
to_nodes ms [] n m h = elim h [ ]
to_nodes ms (t ∷ ts) n m h = elim (p_cases (each_to ms t) (each_to_all ms ts) n m h) [
  | inl one ↦ let first = to_node ms t n m one in (first.0, inl first.1)
  | inr more ↦ let rest = to_nodes ms ts n m more in (rest.0, inr rest.1)
]

nodes_to : (ms : List Marked) (ts : List Node) (n m : Node) (k : Mark) → At ms n k → Has ts m → HasPair (each_to_all ms ts) n m
nodes_to ms [] n m k there h = elim h [ ]
nodes_to ms (t ∷ ts) n m k there (inl h) = p_left (each_to ms t) (each_to_all ms ts) n m (node_to ms t n m k there h)
nodes_to ms (t ∷ ts) n m k there (inr h) = p_right (each_to ms t) (each_to_all ms ts) n m (nodes_to ms ts n m k there h)

pub maybe_pair : (test : Bool) (p : Pair) (n m : Node) → HasPair (cond test (p ∷ []) []) n m → (test ≡ true) × (n ≡ p.from) × (m ≡ p.to)
maybe_pair true p n m (inl h) = (refl, h.0, h.1)
maybe_pair true p n m (inr h) = elim h [ ]
maybe_pair false p n m h = elim h [ ]

pub pair_maybe : (test : Bool) (p : Pair) (n m : Node) → test ≡ true → n ≡ p.from → m ≡ p.to → HasPair (cond test (p ∷ []) []) n m
pair_maybe true p n m is one two = inl (one, two)
pair_maybe false p n m is one two = from_false is

surface_node : (ms : List Marked) (t n m : Node) → HasPair (surface_to ms t) n m → Is false ms n × (m ≡ t)
surface_node [] t n m h = elim h [ ]
surface_node (x ∷ ms) t n m h = elim (p_cases (cond x.mark.surface (pair x.node t ∷ []) []) (surface_to ms t) n m h) [
  | inl one ↦ let is = maybe_pair x.mark.surface (pair x.node t) n m one in (record { mark = x.mark; there = inl (is.1, refl); so = is.0 }, is.2)
  | inr more ↦ let rest = surface_node ms t n m more in (record { mark = rest.0.mark; there = inr rest.0.there; so = rest.0.so }, rest.1)
]

node_surface : (ms : List Marked) (t n m : Node) (k : Mark) → At ms n k → k.surface ≡ true → m ≡ t → HasPair (surface_to ms t) n m
node_surface [] t n m k there is same = elim there [ ]
node_surface (x ∷ ms) t n m k (inl h) is same = p_left (cond x.mark.surface (pair x.node t ∷ []) []) (surface_to ms t) n m
    (pair_maybe x.mark.surface (pair x.node t) n m (sym (ap (λ j. j.surface) h.1) ∙ is) h.0 same)
node_surface (x ∷ ms) t n m k (inr h) is same =
    p_right (cond x.mark.surface (pair x.node t ∷ []) []) (surface_to ms t) n m (node_surface ms t n m k h is same)

depth_node : (ms : List Marked) (t n m : Node) → HasPair (depth_to ms t) n m → Is true ms n × (m ≡ t)
depth_node [] t n m h = elim h [ ]
depth_node (x ∷ ms) t n m h = elim (p_cases (cond x.mark.depth (pair x.node t ∷ []) []) (depth_to ms t) n m h) [
  | inl one ↦ let is = maybe_pair x.mark.depth (pair x.node t) n m one in (record { mark = x.mark; there = inl (is.1, refl); so = is.0 }, is.2)
  | inr more ↦ let rest = depth_node ms t n m more in (record { mark = rest.0.mark; there = inr rest.0.there; so = rest.0.so }, rest.1)
]

node_depth : (ms : List Marked) (t n m : Node) (k : Mark) → At ms n k → k.depth ≡ true → m ≡ t → HasPair (depth_to ms t) n m
node_depth [] t n m k there is same = elim there [ ]
node_depth (x ∷ ms) t n m k (inl h) is same = p_left (cond x.mark.depth (pair x.node t ∷ []) []) (depth_to ms t) n m
    (pair_maybe x.mark.depth (pair x.node t) n m (sym (ap (λ j. j.depth) h.1) ∙ is) h.0 same)
node_depth (x ∷ ms) t n m k (inr h) is same =
    p_right (cond x.mark.depth (pair x.node t ∷ []) []) (depth_to ms t) n m (node_depth ms t n m k h is same)

into_listed : (body : Block) (next : List Node) (F : Node → Type 0) (m : Node) → ((k : Node) → F k → Has next k) → Into body F m →
    Has (entry_of body next) m
into_listed Done next F m more (inl h) = elim h [ ]
into_listed Done next F m more (inr h) = more m h.1
into_listed (Then s rest) next F m more (inl h) = inl h
into_listed (Then s rest) next F m more (inr h) = from_false h.0

listed_into : (body : Block) (next : List Node) (F : Node → Type 0) (m : Node) → ((k : Node) → Has next k → F k) → Has (entry_of body next) m →
    Into body F m
listed_into Done next F m more h = inr (refl, more m h)
listed_into (Then s rest) next F m more (inl h) = inl h
listed_into (Then s rest) next F m more (inr h) = elim h [ ]

entry_listed : (body : Block) (m : Node) → Entry body m → Has (entry_of body []) m
entry_listed Done m h = elim h [ ]
entry_listed (Then s rest) m h = inl h

listed_entry : (body : Block) (m : Node) → Has (entry_of body []) m → Entry body m
listed_entry Done m h = elim h [ ]
listed_entry (Then s rest) m (inl h) = h
listed_entry (Then s rest) m (inr h) = elim h [ ]

where_is : (test : Bool) (x m : Node) → Has (where_so test x) m → (test ≡ true) × (m ≡ x)
where_is true x m (inl h) = (refl, h)
where_is true x m (inr h) = elim h [ ]
where_is false x m h = elim h [ ]

end_listed : (l : Label) (at : Place) (body : Block) (m : Node) → BodyEnd l at body m → Has (ends_of l at body) m
end_listed l at body m (inl h) = has_left (where_so (are_instant body) (SurfaceEndAt l at)) (DepthEndAt l at ∷ []) m
    (where_has (are_instant body) (SurfaceEndAt l at) m h.0 h.1)
end_listed l at body m (inr h) = has_right (where_so (are_instant body) (SurfaceEndAt l at)) (DepthEndAt l at ∷ []) m (inl h)

listed_end : (l : Label) (at : Place) (body : Block) (m : Node) → Has (ends_of l at body) m → BodyEnd l at body m
listed_end l at body m h = elim (has_cases (where_so (are_instant body) (SurfaceEndAt l at)) (DepthEndAt l at ∷ []) m h) [
  | inl one ↦ inl (where_is (are_instant body) (SurfaceEndAt l at) m one)
  | inr rest ↦ elim rest [ inl same ↦ inr same | inr nil ↦ absurd nil ]
]

guard_listed : (guard : Guard) (l : Label) (at : Place) (body : Block) (m : Node) → Guarded guard l at body m → Has (guard_to guard l at body) m
guard_listed Abort l at body m h = inl h
guard_listed Reset l at body m h = into_listed body (ends_of l at body) (BodyEnd l at body) m (end_listed l at body) h

listed_guard : (guard : Guard) (l : Label) (at : Place) (body : Block) (m : Node) → Has (guard_to guard l at body) m → Guarded guard l at body m
listed_guard Abort l at body m (inl h) = h
listed_guard Abort l at body m (inr h) = elim h [ ]
listed_guard Reset l at body m h = listed_into body (ends_of l at body) (BodyEnd l at body) m (listed_end l at body) h

mutual
  resume_listed : (s : Plain) (n : Node) → Resume s n → Has (resumes_of s) n
  resume_listed (Act l s) n h = elim h [ ]
  resume_listed (Await l at e) n h = inl h
  resume_listed (Run l at target a inputs outputs) n h = inl h
  resume_listed (If l at e body other) n (inl h) = has_left (resumes_in body) (resumes_in other) n (resumes_listed body n h)
  resume_listed (If l at e body other) n (inr h) = has_right (resumes_in body) (resumes_in other) n (resumes_listed other n h)
  resume_listed (Cobegin l at bodies) n h = resumes_each_listed bodies n h
  resume_listed (When l at guard e body) n h = inl h
  resume_listed (Repeat l at body) n h = resumes_listed body n h
  resume_listed (Until l at body e) n h = resumes_listed body n h
  resume_listed (While l at e body) n h = resumes_listed body n h
  resume_listed (Again l at body e) n h = resumes_listed body n h

  resumes_listed : (body : Block) (n : Node) → ResumeAll body n → Has (resumes_in body) n
  resumes_listed Done n h = elim h [ ]
  resumes_listed (Then s rest) n (inl h) = has_left (resumes_of s) (resumes_in rest) n (resume_listed s n h)
  resumes_listed (Then s rest) n (inr h) = has_right (resumes_of s) (resumes_in rest) n (resumes_listed rest n h)

  resumes_each_listed : (bodies : Bodies) (n : Node) → ResumeEach bodies n → Has (resumes_in_each bodies) n
  resumes_each_listed Last n h = elim h [ ]
  resumes_each_listed (Body weak body rest) n (inl h) = has_left (resumes_in body) (resumes_in_each rest) n (resumes_listed body n h)
  resumes_each_listed (Body weak body rest) n (inr h) = has_right (resumes_in body) (resumes_in_each rest) n (resumes_each_listed rest n h)

mutual
  listed_resume : (s : Plain) (n : Node) → Has (resumes_of s) n → Resume s n
  listed_resume (Act l s) n h = elim h [ ]
  listed_resume (Await l at e) n h = elim h [ inl same ↦ same | inr nil ↦ absurd nil ]
  listed_resume (Run l at target a inputs outputs) n h = elim h [ inl same ↦ same | inr nil ↦ absurd nil ]
  listed_resume (If l at e body other) n h = elim (has_cases (resumes_in body) (resumes_in other) n h) [
    | inl a ↦ inl (listed_resumes body n a)
    | inr b ↦ inr (listed_resumes other n b)
  ]
  listed_resume (Cobegin l at bodies) n h = listed_each_resumes bodies n h
  listed_resume (When l at guard e body) n h = elim h [ inl same ↦ same | inr nil ↦ absurd nil ]
  listed_resume (Repeat l at body) n h = listed_resumes body n h
  listed_resume (Until l at body e) n h = listed_resumes body n h
  listed_resume (While l at e body) n h = listed_resumes body n h
  listed_resume (Again l at body e) n h = listed_resumes body n h

  listed_resumes : (body : Block) (n : Node) → Has (resumes_in body) n → ResumeAll body n
  listed_resumes Done n h = elim h [ ]
  listed_resumes (Then s rest) n h = elim (has_cases (resumes_of s) (resumes_in rest) n h) [
    | inl a ↦ inl (listed_resume s n a)
    | inr b ↦ inr (listed_resumes rest n b)
  ]

  listed_each_resumes : (bodies : Bodies) (n : Node) → Has (resumes_in_each bodies) n → ResumeEach bodies n
  listed_each_resumes Last n h = elim h [ ]
  listed_each_resumes (Body weak body rest) n h = elim (has_cases (resumes_in body) (resumes_in_each rest) n h) [
    | inl a ↦ inl (listed_resumes body n a)
    | inr b ↦ inr (listed_each_resumes rest n b)
  ]

out_holds : (body : Block) → FullIn body → (n : Node) → OutAll body n → Holds (part_in body).outs n
out_holds body full n out =
    let held = has_at (part_in body).nodes n (subst (λ l. Has l n) (sym (names_in body)) (out_in body n out)) in
    record { mark = held.mark; there = full.outs n held.mark out held.there }

holds_out : (body : Block) (n : Node) → Holds (part_in body).outs n → OutAll body n
holds_out body n held = ((sound_in body).outs n held.mark held.there).1

turn_listed : (body : Block) (first last n m : Node) → FullIn body → LoopEdge body first last n m → HasPair (turn_of body first last) n m
turn_listed body first last n m full (inl h) = p_left (from_to first (entry_of body (last ∷ []))) (each_to (part_in body).outs last) n m
    (node_from first (entry_of body (last ∷ [])) n m h.0 (into_listed body (last ∷ []) (λ k. k ≡ last) m (λ k same. inl same) h.1))
turn_listed body first last n m full (inr h) = let held = out_holds body full n h.0 in
    p_right (from_to first (entry_of body (last ∷ []))) (each_to (part_in body).outs last) n m
    (node_to (part_in body).outs last n m held.mark held.there h.1)

only : (last k : Node) → Has (last ∷ []) k → k ≡ last
only last k (inl h) = h
only last k (inr h) = elim h [ ]

listed_turn : (body : Block) (first last n m : Node) → HasPair (turn_of body first last) n m → LoopEdge body first last n m
listed_turn body first last n m h =
    elim (p_cases (from_to first (entry_of body (last ∷ []))) (each_to (part_in body).outs last) n m h) [
      | inl a ↦ let is = from_node first (entry_of body (last ∷ [])) n m a in
          inl (is.0, listed_into body (last ∷ []) (λ k. k ≡ last) m (only last) is.1)
      | inr b ↦ let is = to_node (part_in body).outs last n m b in inr (holds_out body n is.0, is.1)
    ]

-- a loop that is tested behind its body
listed_tested : (l : Label) (at : Place) (body : Block) (e : Expr) (n m : Node) → (HasPair (edges_in body) n m → EdgeAll body n m) →
    HasPair (edges_of (Until l at body e)) n m → Edge (Until l at body e) n m
listed_tested l at body e n m inside h =
    let turn = turn_of body (HeadAt l at) (TestAt l at e) in let last = pair (TestAt l at e) (HeadAt l at) ∷ [] in
    elim (p_cases (edges_in body) (turn ++ last) n m h) [
      | inl a ↦ inl (inside a)
      | inr more ↦ elim (p_cases turn last n m more) [
        | inl b ↦ inr (inl (listed_turn body (HeadAt l at) (TestAt l at e) n m b))
        | inr c ↦ elim c [ inl is ↦ inr (inr is) | inr nil ↦ absurd nil ]
      ]
    ]

tested_listed : (l : Label) (at : Place) (body : Block) (e : Expr) (n m : Node) → FullIn body → (EdgeAll body n m → HasPair (edges_in body) n m) →
    Edge (Until l at body e) n m → HasPair (edges_of (Until l at body e)) n m
tested_listed l at body e n m full inside h =
    let turn = turn_of body (HeadAt l at) (TestAt l at e) in let last = pair (TestAt l at e) (HeadAt l at) ∷ [] in
    elim h [
      | inl a ↦ p_left (edges_in body) (turn ++ last) n m (inside a)
      | inr more ↦ p_right (edges_in body) (turn ++ last) n m (elim more [
        | inl b ↦ p_left turn last n m (turn_listed body (HeadAt l at) (TestAt l at e) n m full b)
        | inr c ↦ p_right turn last n m (inl c)
      ])
    ]

statement_holds : (s : Plain) → Full s → (n : Node) → Out s n → Holds (part_of s).outs n
statement_holds s full n out =
    let held = has_at (part_of s).nodes n (subst (λ l. Has l n) (sym (names_of s)) (out_has s n out)) in
    record { mark = held.mark; there = full.outs n held.mark out held.there }

-- the edges of a branch to its joins
listed_surface : (weak : Bool) (body : Block) (l : Label) (at : Place) (so : Bool) (n m : Node) →
    HasPair (cond so (surface_to (leaving_of weak body) (SurfaceJoinAt l at)) []) n m →
    Joins weak (Reached (Entry body) (EdgeAll body)) (OutAll body) n × SurfaceJoin so l at m
listed_surface weak body l at true n m h =
    let is = surface_node (leaving_of weak body) (SurfaceJoinAt l at) n m h in
    let joins = joins_of weak body (sound_in body) n is.0.mark is.0.there in
    (((sound_in body).surface n (record { mark = is.0.mark; there = joins.0; so = is.0.so }), joins.1), (refl, is.1))
listed_surface weak body l at false n m h = elim h [ ]

surface_listed : (weak : Bool) (body : Block) (l : Label) (at : Place) (so : Bool) (n m : Node) → FullIn body →
    Joins weak (Reached (Entry body) (EdgeAll body)) (OutAll body) n × SurfaceJoin so l at m →
    HasPair (cond so (surface_to (leaving_of weak body) (SurfaceJoinAt l at)) []) n m
surface_listed weak body l at true n m full h =
    let is = surface_in body full n h.0.0 in
    node_surface (leaving_of weak body) (SurfaceJoinAt l at) n m is.mark (leave_at weak body full n is.mark h.0.1 is.there) is.so h.1.1
surface_listed weak body l at false n m full h = from_false h.1.0

depth_listed : (weak : Bool) (body : Block) (l : Label) (at : Place) (n m : Node) → FullIn body →
    Joins weak (Reached (ResumeAll body) (EdgeAll body)) (OutAll body) n × (m ≡ DepthJoinAt l at) →
    HasPair (depth_to (leaving_of weak body) (DepthJoinAt l at)) n m
depth_listed weak body l at n m full h =
    let is = depth_in body full n h.0.0 in
    node_depth (leaving_of weak body) (DepthJoinAt l at) n m is.mark (leave_at weak body full n is.mark h.0.1 is.there) is.so h.1

pair_same : (p : Pair) (n m : Node) → n ≡ p.from → m ≡ p.to → pair n m ≡ p
pair_same p n m one two = ap (λ x. pair x m) one ∙ ap (λ y. pair p.from y) two

none_is_pair : (n m : Node) → None ≡ Some (pair n m) → ⊥
none_is_pair n m is = cc

some_pair : (p : Pair) (n m : Node) → Some p ≡ Some (pair n m) → p ≡ pair n m
some_pair p n m is = cc

-- ---- listed edges are edges

mutual
  listed_edge : (s : Plain) (n m : Node) → HasPair (edges_of s) n m → Edge s n m
  listed_edge (Act l s) n m h = elim h [ ]
  listed_edge (Await l at e) n m h = elim h [ ]
  listed_edge (Run l at target a inputs outputs) n m h = elim h [ ]
  listed_edge (If l at e body other) n m h =
      let first = from_to (TestAt l at e) (entry_of body []) in let second = from_to (TestAt l at e) (entry_of other []) in
      elim (p_cases (edges_in body) (edges_in other ++ (first ++ second)) n m h) [
        | inl a ↦ inl (listed_in body n m a)
        | inr rest ↦ elim (p_cases (edges_in other) (first ++ second) n m rest) [
          | inl b ↦ inr (inl (listed_in other n m b))
          | inr tests ↦ elim (p_cases first second n m tests) [
            | inl c ↦ let is = from_node (TestAt l at e) (entry_of body []) n m c in inr (inr (is.0, inl (listed_entry body m is.1)))
            | inr c ↦ let is = from_node (TestAt l at e) (entry_of other []) n m c in inr (inr (is.0, inr (listed_entry other m is.1)))
          ]
        ]
      ]
  listed_edge (Cobegin l at bodies) n m h = listed_each bodies l at (is_instant (Cobegin l at bodies)) n m h
  listed_edge (When l at guard e body) n m h =
      let starts = from_to (StartAt l at) (entry_of body (ends_of l at body)) in
      let goes_on = from_to (CheckAt l at e) (resumes_in body) in
      let guards = from_to (CheckAt l at e) (guard_to guard l at body) in
      let ends = each_to_all (part_in body).outs (ends_of l at body) in
      elim (p_cases (edges_in body) (starts ++ (goes_on ++ (guards ++ ends))) n m h) [
        | inl a ↦ inl (listed_in body n m a)
        | inr h1 ↦ elim (p_cases starts (goes_on ++ (guards ++ ends)) n m h1) [
          | inl b ↦ let is = from_node (StartAt l at) (entry_of body (ends_of l at body)) n m b in
              inr (inl (is.0, listed_into body (ends_of l at body) (BodyEnd l at body) m (listed_end l at body) is.1))
          | inr h2 ↦ elim (p_cases goes_on (guards ++ ends) n m h2) [
            | inl c ↦ let is = from_node (CheckAt l at e) (resumes_in body) n m c in inr (inr (inl (is.0, listed_resumes body m is.1)))
            | inr h3 ↦ elim (p_cases guards ends n m h3) [
              | inl d ↦ let is = from_node (CheckAt l at e) (guard_to guard l at body) n m d in
                  inr (inr (inr (inl (is.0, listed_guard guard l at body m is.1))))
              | inr f ↦ let is = to_nodes (part_in body).outs (ends_of l at body) n m f in
                  inr (inr (inr (inr (holds_out body n is.0, listed_end l at body m is.1))))
            ]
          ]
        ]
      ]
  listed_edge (Repeat l at body) n m h = elim (p_cases (edges_in body) (turn_of body (HeadAt l at) (HeadAt l at)) n m h) [
    | inl a ↦ inl (listed_in body n m a)
    | inr b ↦ inr (listed_turn body (HeadAt l at) (HeadAt l at) n m b)
  ]
  listed_edge (Until l at body e) n m h = listed_tested l at body e n m (λ a. listed_in body n m a) h
  listed_edge (While l at e body) n m h = elim (p_cases (edges_in body) (turn_of body (TestAt l at e) (TestAt l at e)) n m h) [
    | inl a ↦ inl (listed_in body n m a)
    | inr b ↦ inr (listed_turn body (TestAt l at e) (TestAt l at e) n m b)
  ]
  listed_edge (Again l at body e) n m h = listed_tested l at body e n m (λ a. listed_in body n m a) h

  listed_in : (body : Block) (n m : Node) → HasPair (edges_in body) n m → EdgeAll body n m
  listed_in Done n m h = elim h [ ]
  listed_in (Then s rest) n m h =
      let next = each_to_all (part_of s).outs (entry_of rest []) in
      elim (p_cases (edges_of s) (edges_in rest ++ next) n m h) [
        | inl a ↦ inl (listed_edge s n m a)
        | inr more ↦ elim (p_cases (edges_in rest) next n m more) [
          | inl b ↦ inr (inl (listed_in rest n m b))
          | inr c ↦ let is = to_nodes (part_of s).outs (entry_of rest []) n m c in
              inr (inr (((sound_of s).outs n is.0.mark is.0.there).1, listed_entry rest m is.1))
        ]
      ]

  listed_each : (bodies : Bodies) (l : Label) (at : Place) (so : Bool) (n m : Node) → HasPair (edges_in_each bodies l at so) n m →
      EdgeEach bodies l at so n m
  listed_each Last l at so n m h = elim h [ ]
  listed_each (Body weak body rest) l at so n m h =
      let forks = from_to (ForkAt l at) (entry_of body (where_so so (SurfaceJoinAt l at))) in
      let surfaces = cond so (surface_to (leaving_of weak body) (SurfaceJoinAt l at)) [] in
      let depths = depth_to (leaving_of weak body) (DepthJoinAt l at) in
      let others = edges_in_each rest l at so in
      elim (p_cases (edges_in body) (forks ++ (surfaces ++ (depths ++ others))) n m h) [
        | inl a ↦ inl (listed_in body n m a)
        | inr h1 ↦ elim (p_cases forks (surfaces ++ (depths ++ others)) n m h1) [
          | inl b ↦ let is = from_node (ForkAt l at) (entry_of body (where_so so (SurfaceJoinAt l at))) n m b in
              inr (inl (is.0, listed_into body (where_so so (SurfaceJoinAt l at)) (SurfaceJoin so l at) m (λ k. where_is so (SurfaceJoinAt l at) k) is.1))
          | inr h2 ↦ elim (p_cases surfaces (depths ++ others) n m h2) [
            | inl c ↦ inr (inr (inl (listed_surface weak body l at so n m c)))
            | inr h3 ↦ elim (p_cases depths others n m h3) [
              | inl d ↦ let is = depth_node (leaving_of weak body) (DepthJoinAt l at) n m d in
                  let joins = joins_of weak body (sound_in body) n is.0.mark is.0.there in
                  inr (inr (inr (inl (((sound_in body).depth n (record { mark = is.0.mark; there = joins.0; so = is.0.so }), joins.1), is.1))))
              | inr f ↦ inr (inr (inr (inr (listed_each rest l at so n m f))))
            ]
          ]
        ]
      ]

-- ---- edges are listed

mutual
  edge_listed : (s : Plain) → Differ (names (part_of s).nodes) → (n m : Node) → Edge s n m → HasPair (edges_of s) n m
  edge_listed (Act l s) d n m h = elim h [ ]
  edge_listed (Await l at e) d n m h = elim h [ ]
  edge_listed (Run l at target a inputs outputs) d n m h = elim h [ ]
  edge_listed (If l at e body other) d n m h =
      let first = from_to (TestAt l at e) (entry_of body []) in let second = from_to (TestAt l at e) (entry_of other []) in
      elim h [
        | inl a ↦ p_left (edges_in body) (edges_in other ++ (first ++ second)) n m
            (edge_in_listed body (first_differ (part_in body).nodes (part_in other).nodes d.1) n m a)
        | inr rest ↦ p_right (edges_in body) (edges_in other ++ (first ++ second)) n m (elim rest [
          | inl b ↦ p_left (edges_in other) (first ++ second) n m (edge_in_listed other (second_differ (part_in body).nodes (part_in other).nodes d.1) n m b)
          | inr test ↦ p_right (edges_in other) (first ++ second) n m (elim test.1 [
            | inl into ↦ p_left first second n m (node_from (TestAt l at e) (entry_of body []) n m test.0 (entry_listed body m into))
            | inr into ↦ p_right first second n m (node_from (TestAt l at e) (entry_of other []) n m test.0 (entry_listed other m into))
          ])
        ])
      ]
  edge_listed (Cobegin l at bodies) d n m h = edge_each_listed bodies l at (is_instant (Cobegin l at bodies)) (branches_differ l at bodies d) n m h
  edge_listed (When l at guard e body) d n m h =
      let starts = from_to (StartAt l at) (entry_of body (ends_of l at body)) in
      let goes_on = from_to (CheckAt l at e) (resumes_in body) in
      let guards = from_to (CheckAt l at e) (guard_to guard l at body) in
      let ends = each_to_all (part_in body).outs (ends_of l at body) in
      elim h [
        | inl a ↦ p_left (edges_in body) (starts ++ (goes_on ++ (guards ++ ends))) n m (edge_in_listed body (body_differs l at guard e body d) n m a)
        | inr h1 ↦ p_right (edges_in body) (starts ++ (goes_on ++ (guards ++ ends))) n m (elim h1 [
          | inl b ↦ p_left starts (goes_on ++ (guards ++ ends)) n m (node_from (StartAt l at) (entry_of body (ends_of l at body)) n m b.0
              (into_listed body (ends_of l at body) (BodyEnd l at body) m (end_listed l at body) b.1))
          | inr h2 ↦ p_right starts (goes_on ++ (guards ++ ends)) n m (elim h2 [
            | inl c ↦ p_left goes_on (guards ++ ends) n m (node_from (CheckAt l at e) (resumes_in body) n m c.0 (resumes_listed body m c.1))
            | inr h3 ↦ p_right goes_on (guards ++ ends) n m (elim h3 [
              | inl g ↦ p_left guards ends n m (node_from (CheckAt l at e) (guard_to guard l at body) n m g.0 (guard_listed guard l at body m g.1))
              | inr f ↦ let held = out_holds body (full_in body (body_differs l at guard e body d)) n f.0 in
                  p_right guards ends n m (nodes_to (part_in body).outs (ends_of l at body) n m held.mark held.there (end_listed l at body m f.1))
            ])
          ])
        ])
      ]
  edge_listed (Repeat l at body) d n m h =
      let dd = moved_differ (again_by (some_of (part_in body).outs)) (part_in body).nodes d.1 in
      elim h [
        | inl a ↦ p_left (edges_in body) (turn_of body (HeadAt l at) (HeadAt l at)) n m (edge_in_listed body dd n m a)
        | inr b ↦ p_right (edges_in body) (turn_of body (HeadAt l at) (HeadAt l at)) n m
            (turn_listed body (HeadAt l at) (HeadAt l at) n m (full_in body dd) b)
      ]
  edge_listed (Until l at body e) d n m h =
      let dd = moved_differ (again_by (some_of (part_in body).outs)) (part_in body).nodes d.1.1 in
      tested_listed l at body e n m (full_in body dd) (λ a. edge_in_listed body dd n m a) h
  edge_listed (While l at e body) d n m h =
      let dd = moved_differ (again_by (some_of (part_in body).outs)) (part_in body).nodes d.1 in
      elim h [
        | inl a ↦ p_left (edges_in body) (turn_of body (TestAt l at e) (TestAt l at e)) n m (edge_in_listed body dd n m a)
        | inr b ↦ p_right (edges_in body) (turn_of body (TestAt l at e) (TestAt l at e)) n m
            (turn_listed body (TestAt l at e) (TestAt l at e) n m (full_in body dd) b)
      ]
  edge_listed (Again l at body e) d n m h =
      let dd = moved_differ (again_by (some_of (part_in body).outs)) (part_in body).nodes d.1.1 in
      tested_listed l at body e n m (full_in body dd) (λ a. edge_in_listed body dd n m a) h

  edge_in_listed : (body : Block) → Differ (names (part_in body).nodes) → (n m : Node) → EdgeAll body n m → HasPair (edges_in body) n m
  edge_in_listed Done d n m h = elim h [ ]
  edge_in_listed (Then s rest) d n m h =
      let next = each_to_all (part_of s).outs (entry_of rest []) in
      let ds = first_differ (part_of s).nodes (moved (some_of (part_of s).outs) (part_in rest).nodes) d in
      let dr = moved_differ (some_of (part_of s).outs) (part_in rest).nodes
      (second_differ (part_of s).nodes (moved (some_of (part_of s).outs) (part_in rest).nodes) d) in
      elim h [
        | inl a ↦ p_left (edges_of s) (edges_in rest ++ next) n m (edge_listed s ds n m a)
        | inr more ↦ p_right (edges_of s) (edges_in rest ++ next) n m (elim more [
          | inl b ↦ p_left (edges_in rest) next n m (edge_in_listed rest dr n m b)
          | inr c ↦ let held = statement_holds s (full_of s ds) n c.0 in
              p_right (edges_in rest) next n m (nodes_to (part_of s).outs (entry_of rest []) n m held.mark held.there (entry_listed rest m c.1))
        ])
      ]

  edge_each_listed : (bodies : Bodies) (l : Label) (at : Place) (so : Bool) → Differ (names (parts_of bodies).nodes) → (n m : Node) →
      EdgeEach bodies l at so n m → HasPair (edges_in_each bodies l at so) n m
  edge_each_listed Last l at so d n m h = elim h [ ]
  edge_each_listed (Body weak body rest) l at so d n m h =
      let forks = from_to (ForkAt l at) (entry_of body (where_so so (SurfaceJoinAt l at))) in
      let surfaces = cond so (surface_to (leaving_of weak body) (SurfaceJoinAt l at)) [] in
      let depths = depth_to (leaving_of weak body) (DepthJoinAt l at) in
      let others = edges_in_each rest l at so in
      let db = first_differ (part_in body).nodes (parts_of rest).nodes d in
      elim h [
        | inl a ↦ p_left (edges_in body) (forks ++ (surfaces ++ (depths ++ others))) n m (edge_in_listed body db n m a)
        | inr h1 ↦ p_right (edges_in body) (forks ++ (surfaces ++ (depths ++ others))) n m (elim h1 [
          | inl b ↦ p_left forks (surfaces ++ (depths ++ others)) n m
              (node_from (ForkAt l at) (entry_of body (where_so so (SurfaceJoinAt l at))) n m b.0
              (into_listed body (where_so so (SurfaceJoinAt l at)) (SurfaceJoin so l at) m (λ k is. where_has so (SurfaceJoinAt l at) k is.0 is.1) b.1))
          | inr h2 ↦ p_right forks (surfaces ++ (depths ++ others)) n m (elim h2 [
            | inl c ↦ p_left surfaces (depths ++ others) n m (surface_listed weak body l at so n m (full_in body db) c)
            | inr h3 ↦ p_right surfaces (depths ++ others) n m (elim h3 [
              | inl g ↦ p_left depths others n m (depth_listed weak body l at n m (full_in body db) g)
              | inr f ↦ p_right depths others n m
                  (edge_each_listed rest l at so (second_differ (part_in body).nodes (parts_of rest).nodes d) n m f)
            ])
          ])
        ])
      ]

-- ---- the law

pub pair_at : (ps : List Pair) (n m : Node) → HasPair ps n m → Contains ps (pair n m)
pair_at [] n m h = elim h [ ]
pair_at (p ∷ ps) n m (inl h) =
    subst (λ q. Contains (p ∷ ps) q) (sym (pair_same p n m h.0 h.1)) (Contains-append_left (p ∷ []) ps p (Contains-push [] p))
pair_at (p ∷ ps) n m (inr h) = Contains-append_right (p ∷ []) ps (pair n m) (pair_at ps n m h)

at_pair_from : (ps : List Pair) (n m : Node) (k : ℕ) → slice_get ps k ≡ Some (pair n m) → HasPair ps n m
at_pair_from [] n m k is = absurd (none_is_pair n m is)
at_pair_from (p ∷ ps) n m zero is = let same = some_pair p n m is in inl (sym (ap (λ q. q.from) same), sym (ap (λ q. q.to) same))
at_pair_from (p ∷ ps) n m (suc k) is = inr (at_pair_from ps n m k is)

pub at_pair : (ps : List Pair) (n m : Node) → Contains ps (pair n m) → HasPair ps n m
at_pair ps n m there = at_pair_from ps n m there.0 (slice_get-get_or ps there.0 (pair n m) there.1 ∙ ap Some there.2)

pub edges_are_listed : NodesDiffer → EdgesAreListed
edges_are_listed differ body at n m = (
  λ there. listed_in (plain_block body at) n m (at_pair (edges_in (plain_block body at)) n m there),
  λ edge. pair_at (edges_in (plain_block body at)) n m
      (edge_in_listed (plain_block body at) (all_differ (plain_block body at) (differ.blocks body at)) n m edge),
)
