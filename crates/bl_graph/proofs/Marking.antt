-- Marked nodes: what is at them, in what is around them, and in the order of the nodes.
use Rattle.std.proofs.Common.{◌≡◌, Bool, true, false, ◌&&◌, ◌⊎◌, inl, inr, List, [], ◌∷◌, ◌++◌, refl, ap, sym, ◌∙◌, subst}
use Rattle.std.specs.Prelude.{slice_get, Some, ⊤, ℕ, zero, suc}
use Rattle.std.proofs.lemmas.Bool.{and_from, and_parts, or_left, or_right}
use Rattle.bl_tree.proofs.Basics.{either_of, same_suc}
use Rattle.bl_graph_nodes.specs.Laws.{EachOnce}
use Rattle.bl_tree.specs.declared.place.Place.{Place}
use Rattle.bl_tree.specs.declared.tree.Expr.{Expr}
use Rattle.bl_tree.specs.declared.tree.Guard.{Guard}
use Rattle.bl_graph_nodes.specs.Nodes.{CheckAt, DepthEndAt, DepthJoinAt, ForkAt, HeadAt, Node, StartAt, SurfaceEndAt, SurfaceJoinAt, TestAt, are_instant}
use Rattle.bl_graph_nodes.specs.Nodes.{is_instant, nodes_in, nodes_in_each, nodes_of, where_so}
use Rattle.bl_graph_nodes.specs.Plain.{Act, Again, Await, Block, Bodies, Body, Cobegin, Done, If, Label, Last, Plain, Repeat, Run, Then, Until, When, While}
use Rattle.bl_graph.specs.Marks.{Mark, Marked, again_by, begun_by, body_ends, inner, join_mark, last_end, leaves, marked, moved, part_in, part_of, parts_of}
use Rattle.bl_graph.specs.Marks.{resumed, some_of, where_marked}
use Rattle.bl_graph.proofs.Staying.{Has, has_left}

-- ---- truth

-- ---- a node with a mark in a list

abbrev pub At : List Marked → Node → Mark → Type 0
At [] n k = ⊥
At (m ∷ zs) n k = ((n ≡ m.node) × (k ≡ m.mark)) ⊎ At zs n k

-- in the surface, and in the depth
abbrev pub pick : Bool → Mark → Bool
pick false k = k.surface
pick true k = k.depth

pub record Is (deep : Bool) (zs : List Marked) (n : Node) : Type 0 where
  pub mark : Mark
  pub there : At zs n mark
  pub so : pick deep mark ≡ true

abbrev pub Sub : List Marked → List Marked → Type 0
Sub xs zs = (n : Node) (k : Mark) → At xs n k → At zs n k

pub at_left : (xs ys : List Marked) → Sub xs (xs ++ ys)
at_left [] ys n k h = elim h [ ]
at_left (x ∷ xs) ys n k (inl h) = inl h
at_left (x ∷ xs) ys n k (inr h) = inr (at_left xs ys n k h)

pub at_right : (xs ys : List Marked) → Sub ys (xs ++ ys)
at_right [] ys n k h = h
at_right (x ∷ xs) ys n k h = inr (at_right xs ys n k h)

pub at_cases : (xs ys : List Marked) (n : Node) (k : Mark) → At (xs ++ ys) n k → At xs n k ⊎ At ys n k
at_cases [] ys n k h = inr h
at_cases (x ∷ xs) ys n k (inl h) = inl (inl h)
at_cases (x ∷ xs) ys n k (inr h) = elim (at_cases xs ys n k h) [ inl a ↦ inl (inr a) | inr b ↦ inr b ]

pub at_where : (test : Bool) (m : Marked) (n : Node) (k : Mark) → At (where_marked test m) n k → (test ≡ true) × (n ≡ m.node) × (k ≡ m.mark)
at_where true m n k (inl h) = (refl, h.0, h.1)
at_where true m n k (inr h) = elim h [ ]
at_where false m n k h = elim h [ ]

pub where_at : (test : Bool) (m : Marked) (n : Node) → test ≡ true → n ≡ m.node → At (where_marked test m) n m.mark
where_at true m n is same = inl (same, refl)
where_at false m n is same = cc

pub is_in : (deep : Bool) (xs zs : List Marked) (n : Node) → Sub xs zs → Is deep xs n → Is deep zs n
is_in deep xs zs n sub is = record { mark = is.mark; there = sub n is.mark is.there; so = is.so }

pub is_cases : (deep : Bool) (xs ys : List Marked) (n : Node) → Is deep (xs ++ ys) n → Is deep xs n ⊎ Is deep ys n
is_cases deep xs ys n is = elim (at_cases xs ys n is.mark is.there) [
  | inl a ↦ inl (record { mark = is.mark; there = a; so = is.so })
  | inr b ↦ inr (record { mark = is.mark; there = b; so = is.so })
]

pub is_left : (deep : Bool) (xs ys : List Marked) (n : Node) → Is deep xs n → Is deep (xs ++ ys) n
is_left deep xs ys n is = is_in deep xs (xs ++ ys) n (at_left xs ys) is

pub is_right : (deep : Bool) (xs ys : List Marked) (n : Node) → Is deep ys n → Is deep (xs ++ ys) n
is_right deep xs ys n is = is_in deep ys (xs ++ ys) n (at_right xs ys) is

-- the first of a list, and what comes after it
pub is_first : (deep : Bool) (m : Marked) (zs : List Marked) (n : Node) → n ≡ m.node → pick deep m.mark ≡ true → Is deep (m ∷ zs) n
is_first deep m zs n same so = record { mark = m.mark; there = inl (same, refl); so = so }

pub is_later : (deep : Bool) (m : Marked) (zs : List Marked) (n : Node) → Is deep zs n → Is deep (m ∷ zs) n
is_later deep m zs n is = record { mark = is.mark; there = inr is.there; so = is.so }

pub is_split : (deep : Bool) (m : Marked) (zs : List Marked) (n : Node) → Is deep (m ∷ zs) n →
    ((n ≡ m.node) × (pick deep m.mark ≡ true)) ⊎ Is deep zs n
is_split deep m zs n is = elim is.there [
  | inl h ↦ inl (h.0, sym (ap (pick deep) h.1) ∙ is.so)
  | inr h ↦ inr (record { mark = is.mark; there = h; so = is.so })
]

pub is_where : (deep : Bool) (test : Bool) (m : Marked) (n : Node) → Is deep (where_marked test m) n →
    (test ≡ true) × (n ≡ m.node) × (pick deep m.mark ≡ true)
is_where deep test m n is =
    let h = at_where test m n is.mark is.there in (h.0, h.1, sym (ap (pick deep) h.2) ∙ is.so)

-- ---- moved

pub at_moved : (e : Mark) (xs : List Marked) (n : Node) (k : Mark) → At xs n k → At (moved e xs) n (inner e k)
at_moved e [] n k h = elim h [ ]
at_moved e (m ∷ xs) n k (inl h) = inl (h.0, ap (inner e) h.1)
at_moved e (m ∷ xs) n k (inr h) = inr (at_moved e xs n k h)

pub record Before (e : Mark) (xs : List Marked) (n : Node) (j : Mark) : Type 0 where
  pub mark : Mark
  pub there : At xs n mark
  pub same : j ≡ inner e mark

pub moved_at : (e : Mark) (xs : List Marked) (n : Node) (j : Mark) → At (moved e xs) n j → Before e xs n j
moved_at e [] n j h = elim h [ ]
moved_at e (m ∷ xs) n j (inl h) = record { mark = m.mark; there = inl (h.0, refl); same = h.1 }
moved_at e (m ∷ xs) n j (inr h) = let b = moved_at e xs n j h in record { mark = b.mark; there = inr b.there; same = b.same }

pub moved_surface : (e : Mark) (xs : List Marked) (n : Node) → Is false (moved e xs) n → (e.surface ≡ true) × Is false xs n
moved_surface e xs n is =
    let b = moved_at e xs n is.mark is.there in
    let both = and_parts e.surface b.mark.surface (sym (ap (λ k. k.surface) b.same) ∙ is.so) in
    (both.0, record { mark = b.mark; there = b.there; so = both.1 })

pub moved_depth : (e : Mark) (xs : List Marked) (n : Node) → Is true (moved e xs) n → Is true xs n ⊎ ((e.depth ≡ true) × Is false xs n)
moved_depth e xs n is =
    let b = moved_at e xs n is.mark is.there in
    elim (either_of b.mark.depth (e.depth && b.mark.surface) (sym (ap (λ k. k.depth) b.same) ∙ is.so)) [
      | inl deep ↦ inl (record { mark = b.mark; there = b.there; so = deep })
      | inr both ↦ let two = and_parts e.depth b.mark.surface both in inr (two.0, record { mark = b.mark; there = b.there; so = two.1 })
    ]

pub to_surface : (e : Mark) (xs : List Marked) (n : Node) → e.surface ≡ true → Is false xs n → Is false (moved e xs) n
to_surface e xs n so is = record { mark = inner e is.mark; there = at_moved e xs n is.mark is.there; so = and_from e.surface is.mark.surface so is.so }

pub to_depth : (e : Mark) (xs : List Marked) (n : Node) → Is true xs n → Is true (moved e xs) n
to_depth e xs n is = record {
  mark = inner e is.mark;
  there = at_moved e xs n is.mark is.there;
  so = or_left is.mark.depth (e.depth && is.mark.surface) is.so;
}

pub to_depth_entry : (e : Mark) (xs : List Marked) (n : Node) → e.depth ≡ true → Is false xs n → Is true (moved e xs) n
to_depth_entry e xs n so is = record {
  mark = inner e is.mark;
  there = at_moved e xs n is.mark is.there;
  so = or_right is.mark.depth (e.depth && is.mark.surface) (and_from e.depth is.mark.surface so is.so);
}

-- ---- how some are reached

pub some_is : (deep : Bool) (xs : List Marked) (n : Node) (k : Mark) → At xs n k → pick deep k ≡ true → pick deep (some_of xs) ≡ true
some_is deep [] n k h so = elim h [ ]
some_is false (m ∷ xs) n k (inl h) so = or_left m.mark.surface (some_of xs).surface (sym (ap (λ j. j.surface) h.1) ∙ so)
some_is false (m ∷ xs) n k (inr h) so = or_right m.mark.surface (some_of xs).surface (some_is false xs n k h so)
some_is true (m ∷ xs) n k (inl h) so = or_left m.mark.depth (some_of xs).depth (sym (ap (λ j. j.depth) h.1) ∙ so)
some_is true (m ∷ xs) n k (inr h) so = or_right m.mark.depth (some_of xs).depth (some_is true xs n k h so)

pub record SomeMarked (deep : Bool) (xs : List Marked) : Type 0 where
  pub node : Node
  pub is : Is deep xs node

some_more : (deep : Bool) (m : Marked) (xs : List Marked) → SomeMarked deep xs → SomeMarked deep (m ∷ xs)
some_more deep m xs some = record { node = some.node; is = is_later deep m xs some.node some.is }

pub some_from : (deep : Bool) (xs : List Marked) → pick deep (some_of xs) ≡ true → SomeMarked deep xs
some_from false [] so = cc
some_from true [] so = cc
some_from false (m ∷ xs) so = elim (either_of m.mark.surface (some_of xs).surface so) [
  | inl one ↦ record { node = m.node; is = is_first false m xs m.node refl one }
  | inr rest ↦ some_more false m xs (some_from false xs rest)
]
some_from true (m ∷ xs) so = elim (either_of m.mark.depth (some_of xs).depth so) [
  | inl one ↦ record { node = m.node; is = is_first true m xs m.node refl one }
  | inr rest ↦ some_more true m xs (some_from true xs rest)
]

-- ---- how some leave their branch

pub leaves_depth : (xs : List Marked) (n : Node) (k : Mark) → At xs n k → k.depth ≡ true → (leaves xs).depth ≡ true
leaves_depth [] n k h so = elim h [ ]
leaves_depth (m ∷ xs) n k (inl h) so = or_left m.mark.depth (leaves xs).depth (sym (ap (λ j. j.depth) h.1) ∙ so)
leaves_depth (m ∷ xs) n k (inr h) so = or_right m.mark.depth (leaves xs).depth (leaves_depth xs n k h so)

pub leaves_surface : (xs : List Marked) (n : Node) (k : Mark) → At xs n k → k.surface ≡ true → k.depth ≡ true → (leaves xs).surface ≡ true
leaves_surface [] n k h one two = elim h [ ]
leaves_surface (m ∷ xs) n k (inl h) one two =
    or_left (m.mark.surface && m.mark.depth) (leaves xs).surface
    (and_from m.mark.surface m.mark.depth (sym (ap (λ j. j.surface) h.1) ∙ one) (sym (ap (λ j. j.depth) h.1) ∙ two))
leaves_surface (m ∷ xs) n k (inr h) one two =
    or_right (m.mark.surface && m.mark.depth) (leaves xs).surface (leaves_surface xs n k h one two)

pub from_leaves_depth : (xs : List Marked) → (leaves xs).depth ≡ true → SomeMarked true xs
from_leaves_depth [] so = cc
from_leaves_depth (m ∷ xs) so = elim (either_of m.mark.depth (leaves xs).depth so) [
  | inl one ↦ record { node = m.node; is = is_first true m xs m.node refl one }
  | inr rest ↦ some_more true m xs (from_leaves_depth xs rest)
]

-- a node that is in both
pub record Twice (xs : List Marked) : Type 0 where
  pub node : Node
  pub mark : Mark
  pub there : At xs node mark
  pub surface : mark.surface ≡ true
  pub depth : mark.depth ≡ true

pub from_leaves_surface : (xs : List Marked) → (leaves xs).surface ≡ true → Twice xs
from_leaves_surface [] so = cc
from_leaves_surface (m ∷ xs) so = elim (either_of (m.mark.surface && m.mark.depth) (leaves xs).surface so) [
  | inl one ↦ let both = and_parts m.mark.surface m.mark.depth one in
      record { node = m.node; mark = m.mark; there = inl (refl, refl); surface = both.0; depth = both.1 }
  | inr rest ↦ let twice = from_leaves_surface xs rest in
      record { node = twice.node; mark = twice.mark; there = inr twice.there; surface = twice.surface; depth = twice.depth }
]

-- ---- the nodes in their order

abbrev pub names : List Marked → List Node
names [] = []
names (m ∷ zs) = m.node ∷ names zs

pub names_append : (xs ys : List Marked) → names (xs ++ ys) ≡ names xs ++ names ys
names_append [] ys = refl
names_append (x ∷ xs) ys = ap (λ l. x.node ∷ l) (names_append xs ys)

pub names_moved : (e : Mark) (xs : List Marked) → names (moved e xs) ≡ names xs
names_moved e [] = refl
names_moved e (x ∷ xs) = ap (λ l. x.node ∷ l) (names_moved e xs)

pub names_where : (test : Bool) (m : Marked) → names (where_marked test m) ≡ where_so test m.node
names_where true m = refl
names_where false m = refl

cobegin_names : (l : Label) (at : Place) (bodies : Bodies) → names (parts_of bodies).nodes ≡ nodes_in_each bodies →
    names (part_of (Cobegin l at bodies)).nodes ≡ nodes_of (Cobegin l at bodies)
cobegin_names l at bodies is =
    let so = is_instant (Cobegin l at bodies) in
    let surface_join = marked (join_mark (parts_of bodies).left) (SurfaceJoinAt l at) in
    let depth_join = marked (parts_of bodies).left (DepthJoinAt l at) in
    let inside = (parts_of bodies).nodes in
    ap (λ all. ForkAt l at ∷ all)
    (names_append (where_marked so surface_join) (depth_join ∷ inside)
    ∙ ap (λ one. one ++ DepthJoinAt l at ∷ names inside) (names_where so surface_join)
    ∙ ap (λ all. where_so so (SurfaceJoinAt l at) ++ DepthJoinAt l at ∷ all) is)

when_names : (l : Label) (at : Place) (guard : Guard) (e : Expr) (body : Block) → names (part_in body).nodes ≡ nodes_in body →
    names (part_of (When l at guard e body)).nodes ≡ nodes_of (When l at guard e body)
when_names l at guard e body is =
    let so = are_instant body in
    let ends = body_ends guard body (part_in body).outs in
    let surface_end = marked ends (SurfaceEndAt l at) in
    let check = marked resumed (CheckAt l at e) in
    let depth_end = marked (last_end guard ends) (DepthEndAt l at) in
    let inside = moved (begun_by guard) (part_in body).nodes in
    ap (λ all. StartAt l at ∷ all)
    (names_append (where_marked so surface_end) (check ∷ depth_end ∷ inside)
    ∙ ap (λ one. one ++ CheckAt l at e ∷ DepthEndAt l at ∷ names inside) (names_where so surface_end)
    ∙ ap (λ all. where_so so (SurfaceEndAt l at) ++ CheckAt l at e ∷ DepthEndAt l at ∷ all) (names_moved (begun_by guard) (part_in body).nodes ∙ is))

again_names : (body : Block) → names (part_in body).nodes ≡ nodes_in body →
    names (moved (again_by (some_of (part_in body).outs)) (part_in body).nodes) ≡ nodes_in body
again_names body is = names_moved (again_by (some_of (part_in body).outs)) (part_in body).nodes ∙ is

mutual
  pub names_of : (s : Plain) → names (part_of s).nodes ≡ nodes_of s
  names_of (Act l s) = refl
  names_of (Await l at e) = refl
  names_of (Run l at target a inputs outputs) = refl
  names_of (If l at e body other) = ap (λ all. TestAt l at e ∷ all)
      (names_append (part_in body).nodes (part_in other).nodes
      ∙ ap (λ one. one ++ names (part_in other).nodes) (names_in body) ∙ ap (λ two. nodes_in body ++ two) (names_in other))
  names_of (Cobegin l at bodies) = cobegin_names l at bodies (names_each bodies)
  names_of (When l at guard e body) = when_names l at guard e body (names_in body)
  names_of (Repeat l at body) = ap (λ all. HeadAt l at ∷ all) (again_names body (names_in body))
  names_of (Until l at body e) = ap (λ all. HeadAt l at ∷ TestAt l at e ∷ all) (again_names body (names_in body))
  names_of (While l at e body) = ap (λ all. TestAt l at e ∷ all) (again_names body (names_in body))
  names_of (Again l at body e) = ap (λ all. HeadAt l at ∷ TestAt l at e ∷ all) (again_names body (names_in body))

  pub names_in : (body : Block) → names (part_in body).nodes ≡ nodes_in body
  names_in Done = refl
  names_in (Then s rest) =
      names_append (part_of s).nodes (moved (some_of (part_of s).outs) (part_in rest).nodes)
      ∙ ap (λ one. one ++ names (moved (some_of (part_of s).outs) (part_in rest).nodes)) (names_of s)
      ∙ ap (λ two. nodes_of s ++ two) (names_moved (some_of (part_of s).outs) (part_in rest).nodes ∙ names_in rest)

  pub names_each : (bodies : Bodies) → names (parts_of bodies).nodes ≡ nodes_in_each bodies
  names_each Last = refl
  names_each (Body weak body rest) =
      names_append (part_in body).nodes (parts_of rest).nodes
      ∙ ap (λ one. one ++ names (parts_of rest).nodes) (names_in body) ∙ ap (λ two. nodes_in body ++ two) (names_each rest)

-- ---- each node has one mark

abbrev pub Differ : List Node → Type 0
Differ [] = ⊤
Differ (x ∷ xs) = (Has xs x → ⊥) × Differ xs

-- a node and where it stands
record Found (xs : List Node) (n : Node) : Type 0 where
  number : ℕ
  is : slice_get xs number ≡ Some n

found : (xs : List Node) (n : Node) → Has xs n → Found xs n
found [] n h = elim h [ ]
found (x ∷ xs) n (inl e) = record { number = zero; is = ap Some (sym e) }
found (x ∷ xs) n (inr h) = let f = found xs n h in record { number = suc f.number; is = f.is }

zero_suc : (k : ℕ) → zero ≡ suc k → ⊥
zero_suc k is = cc

pub differ_of : (xs : List Node) → EachOnce xs → Differ xs
differ_of [] once = tt
differ_of (x ∷ xs) once = (
  λ h. let f = found xs x h in zero_suc f.number (once zero (suc f.number) x refl f.is),
  differ_of xs (λ i j n one two. same_suc i j (once (suc i) (suc j) n one two)),
)

pub differ_left : (xs ys : List Node) → Differ (xs ++ ys) → Differ xs
differ_left [] ys d = tt
differ_left (x ∷ xs) ys d = (λ h. d.0 (has_left xs ys x h), differ_left xs ys d.1)

pub differ_right : (xs ys : List Node) → Differ (xs ++ ys) → Differ ys
differ_right [] ys d = d
differ_right (x ∷ xs) ys d = differ_right xs ys d.1

pub at_has : (zs : List Marked) (n : Node) (k : Mark) → At zs n k → Has (names zs) n
at_has [] n k h = elim h [ ]
at_has (m ∷ zs) n k (inl h) = inl h.0
at_has (m ∷ zs) n k (inr h) = inr (at_has zs n k h)

pub record Holds (zs : List Marked) (n : Node) : Type 0 where
  pub mark : Mark
  pub there : At zs n mark

pub has_at : (zs : List Marked) (n : Node) → Has (names zs) n → Holds zs n
has_at [] n h = elim h [ ]
has_at (m ∷ zs) n (inl e) = record { mark = m.mark; there = inl (e, refl) }
has_at (m ∷ zs) n (inr h) = let held = has_at zs n h in record { mark = held.mark; there = inr held.there }

pub one_mark : (zs : List Marked) (n : Node) (j k : Mark) → Differ (names zs) → At zs n j → At zs n k → j ≡ k
one_mark [] n j k d one two = elim one [ ]
one_mark (m ∷ zs) n j k d (inl one) (inl two) = one.1 ∙ sym two.1
one_mark (m ∷ zs) n j k d (inl one) (inr two) = absurd (d.0 (subst (Has (names zs)) one.0 (at_has zs n k two)))
one_mark (m ∷ zs) n j k d (inr one) (inl two) = absurd (d.0 (subst (Has (names zs)) two.0 (at_has zs n j one)))
one_mark (m ∷ zs) n j k d (inr one) (inr two) = one_mark zs n j k d.1 one two

-- what is marked in the whole is so in the part in which it stands
pub back : (deep : Bool) (xs zs : List Marked) (n : Node) → Differ (names zs) → Sub xs zs → Has (names xs) n → Is deep zs n → Is deep xs n
back deep xs zs n d sub has is =
    let held = has_at xs n has in
    record {
      mark = held.mark;
      there = held.there;
      so = ap (pick deep) (one_mark zs n held.mark is.mark d (sub n held.mark held.there) is.there) ∙ is.so;
    }
