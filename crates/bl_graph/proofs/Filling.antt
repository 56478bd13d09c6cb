-- What is reached is marked.
use Rattle.std.proofs.Common.{◌≡◌, ℕ, Bool, true, false, ◌||◌, ◌⊎◌, inl, inr, List, [], ◌∷◌, ◌++◌, Option, Some, None, refl, ap, sym, ◌∙◌, subst}
use Rattle.std.proofs.lemmas.Bool.{or_left, or_right}
use Rattle.bl_tree.proofs.Basics.{from_false}
use Rattle.bl_tree.specs.declared.place.Place.{Place}
use Rattle.bl_tree.specs.declared.tree.Expr.{Expr}
use Rattle.bl_tree.specs.declared.tree.Path.{Path}
use Rattle.bl_tree.specs.declared.tree.Stmt.{Stmt}
use Rattle.bl_graph_nodes.specs.Nodes.{ActAt, EnterAt, HeadAt, Node, PauseAt, ResumeAt, TestAt, arguments_of, entry, nodes_in, nodes_of}
use Rattle.bl_graph_nodes.specs.Plain.{Act, Again, Await, Block, If, Label, Plain, Repeat, Run, Until, While, is_empty}
use Rattle.bl_graph.specs.Edges.{Edge, EdgeAll, Entry, LoopEdge, Out, OutAll, Resume, ResumeAll}
use Rattle.bl_graph.specs.Marks.{Mark, Marked, again_by, entered, marked, moved, part_in, part_of, resumed, some_of, turn_ends, where_marked}
use Rattle.bl_graph.proofs.Marking.{At, Differ, Is, Sub, at_left, at_moved, at_right, back, has_at, is_first, is_in, is_later, is_left, is_right, moved_at}
use Rattle.bl_graph.proofs.Marking.{moved_depth, moved_surface, names, names_in, names_moved, names_of, one_mark, pick, some_is, to_depth}
use Rattle.bl_graph.proofs.Marking.{to_depth_entry, to_surface, where_at}
use Rattle.bl_graph.proofs.Staying.{Has, edge_in, out_in}

pub none_is : (m : Marked) → None ≡ Some m → ⊥
none_is m is = cc

pub some_is_same : (a b : Marked) → Some a ≡ Some b → a ≡ b
some_is_same a b is = cc

-- ---- one mark a node

pub back_at : (xs zs : List Marked) (n : Node) (k : Mark) → Differ (names zs) → Sub xs zs → Has (names xs) n → At zs n k → At xs n k
back_at xs zs n k d sub has there =
    let held = has_at xs n has in subst (At xs n) (one_mark zs n held.mark k d (sub n held.mark held.there) there) held.there

pub own_mark : (deep : Bool) (zs : List Marked) (n : Node) (k : Mark) → Differ (names zs) → At zs n k → Is deep zs n → pick deep k ≡ true
own_mark deep zs n k d there is = ap (pick deep) (one_mark zs n k is.mark d there is.there) ∙ is.so

-- the mark of a node that stands there as another
pub moved_to : (zs : List Marked) (n m : Node) (k : Mark) → n ≡ m → At zs m k → At zs n k
moved_to zs n m k same there = subst (λ x. At zs x k) (sym same) there

pub is_at : (deep : Bool) (zs : List Marked) (n m : Node) (k : Mark) → n ≡ m → At zs m k → pick deep k ≡ true → Is deep zs n
is_at deep zs n m k same there so = record { mark = k; there = moved_to zs n m k same there; so = so }

abbrev pub Closed : Bool → List Marked → (Node → Node → Type 0) → Type 0
Closed deep zs E = (n m : Node) → Is deep zs n → E n m → Is deep zs m

pub closed_part : (deep : Bool) (xs zs : List Marked) (E : Node → Node → Type 0) → Differ (names zs) → Sub xs zs →
    ((n m : Node) → E n m → Has (names xs) n) → Closed deep xs E → Closed deep zs E
closed_part deep xs zs E d sub has closed n m is edge = is_in deep xs zs m sub (closed n m (back deep xs zs n d sub (has n m edge) is) edge)

-- ---- statements and blocks

pub record Full (s : Plain) : Type 0 where
  pub enters : (n : Node) → n ≡ entry s → Is false (part_of s).nodes n
  pub resumes : (n : Node) → Resume s n → Is true (part_of s).nodes n
  pub closed : (deep : Bool) → Closed deep (part_of s).nodes (Edge s)
  pub outs : (n : Node) (k : Mark) → Out s n → At (part_of s).nodes n k → At (part_of s).outs n k

pub record FullIn (body : Block) : Type 0 where
  pub enters : (n : Node) → Entry body n → Is false (part_in body).nodes n
  pub resumes : (n : Node) → ResumeAll body n → Is true (part_in body).nodes n
  pub closed : (deep : Bool) → Closed deep (part_in body).nodes (EdgeAll body)
  pub outs : (n : Node) (k : Mark) → OutAll body n → At (part_in body).nodes n k → At (part_in body).outs n k

pub in_block : (body : Block) (n : Node) → Has (nodes_in body) n → Has (names (part_in body).nodes) n
in_block body n h = subst (λ l. Has l n) (sym (names_in body)) h

pub in_moved : (e : Mark) (body : Block) (n : Node) → Has (nodes_in body) n → Has (names (moved e (part_in body).nodes)) n
in_moved e body n h = subst (λ l. Has l n) (sym (names_moved e (part_in body).nodes ∙ names_in body)) h

pub in_statement : (s : Plain) (n : Node) → Has (nodes_of s) n → Has (names (part_of s).nodes) n
in_statement s n h = subst (λ l. Has l n) (sym (names_of s)) h

pub moved_closed : (e : Mark) (body : Block) → FullIn body → (deep : Bool) → Closed deep (moved e (part_in body).nodes) (EdgeAll body)
moved_closed e body full false n m is edge =
    let both = moved_surface e (part_in body).nodes n is in to_surface e (part_in body).nodes m both.0 (full.closed false n m both.1 edge)
moved_closed e body full true n m is edge = elim (moved_depth e (part_in body).nodes n is) [
  | inl deep ↦ to_depth e (part_in body).nodes m (full.closed true n m deep edge)
  | inr anew ↦ to_depth_entry e (part_in body).nodes m anew.0 (full.closed false n m anew.1 edge)
]

-- a body that is moved into a list
pub moved_part : (deep : Bool) (e : Mark) (body : Block) (zs : List Marked) → FullIn body → Differ (names zs) → Sub (moved e (part_in body).nodes) zs →
    Closed deep zs (EdgeAll body)
moved_part deep e body zs full d sub =
    closed_part deep (moved e (part_in body).nodes) zs (EdgeAll body) d sub (λ n m edge. in_moved e body n (edge_in body n m edge).0)
    (moved_closed e body full deep)

pub block_part : (deep : Bool) (body : Block) (zs : List Marked) → FullIn body → Differ (names zs) → Sub (part_in body).nodes zs →
    Closed deep zs (EdgeAll body)
block_part deep body zs full d sub =
    closed_part deep (part_in body).nodes zs (EdgeAll body) d sub (λ n m edge. in_block body n (edge_in body n m edge).0) (full.closed deep)

-- a node that leads on from a body that is moved, and how it is reached there
pub out_mark : (deep : Bool) (e : Mark) (body : Block) (zs : List Marked) → FullIn body → Differ (names zs) → Sub (moved e (part_in body).nodes) zs →
    (n : Node) → OutAll body n → Is deep zs n → pick deep (some_of (moved e (part_in body).outs)) ≡ true
out_mark deep e body zs full d sub n out is =
    let xs = part_in body in
    let inside = back deep (moved e xs.nodes) zs n d sub (in_moved e body n (out_in body n out)) is in
    let b = moved_at e xs.nodes n inside.mark inside.there in
    some_is deep (moved e xs.outs) n inside.mark
    (subst (At (moved e xs.outs) n) (sym b.same) (at_moved e xs.outs n b.mark (full.outs n b.mark out b.there))) inside.so

-- ---- single statements

pub single_full : (l : Label) (s : Stmt) → Full (Act l s)
single_full l s = record {
  enters = λ n e. is_first false (marked entered (ActAt l s)) [] n e refl;
  resumes = λ n h. elim h [ ];
  closed = λ deep n m is h. elim h [ ];
  outs = λ n k out there. there;
}

pub pausing_outs : (first other n : Node) (k : Mark) → (first ≡ other → ⊥) → n ≡ other →
    At (marked entered first ∷ marked resumed other ∷ []) n k →
    At (marked resumed other ∷ []) n k
pausing_outs first other n k apart out (inl h) = absurd (apart (sym h.0 ∙ out))
pausing_outs first other n k apart out (inr h) = h

pub await_full : (l : Label) (at : Place) (e : Expr) → Full (Await l at e)
await_full l at e = record {
  enters = λ n same. is_first false (marked entered (PauseAt l at)) (marked resumed (TestAt l at e) ∷ []) n same refl;
  resumes = λ n same. is_later true (marked entered (PauseAt l at)) (marked resumed (TestAt l at e) ∷ []) n
      (is_first true (marked resumed (TestAt l at e)) [] n same refl);
  closed = λ deep n m is h. elim h [ ];
  outs = λ n k out there. pausing_outs (PauseAt l at) (TestAt l at e) n k (λ same. cc) out there;
}

pub run_full : (l : Label) (at : Place) (target : Option Path) (a : ℕ) (inputs : List Expr) (outputs : List Path) → Full (Run l at target a inputs outputs)
run_full l at target a inputs outputs = let given = arguments_of target inputs outputs in record {
  enters = λ n same. is_first false (marked entered (EnterAt l at given)) (marked resumed (ResumeAt l at given) ∷ []) n same refl;
  resumes = λ n same. is_later true (marked entered (EnterAt l at given)) (marked resumed (ResumeAt l at given) ∷ []) n
      (is_first true (marked resumed (ResumeAt l at given)) [] n same refl);
  closed = λ deep n m is h. elim h [ ];
  outs = λ n k out there. pausing_outs (EnterAt l at given) (ResumeAt l at given) n k (λ same. cc) out there;
}

-- ---- if

pub if_closed : (l : Label) (at : Place) (e : Expr) (body other : Block) → FullIn body → FullIn other →
    Differ (names (part_of (If l at e body other)).nodes) → (deep : Bool) → Closed deep (part_of (If l at e body other)).nodes (Edge (If l at e body other))
if_closed l at e body other one two d deep n m is (inl h) =
    block_part deep body (part_of (If l at e body other)).nodes one d
    (λ k j there. inr (at_left (part_in body).nodes (part_in other).nodes k j there)) n m is h
if_closed l at e body other one two d deep n m is (inr (inl h)) =
    block_part deep other (part_of (If l at e body other)).nodes two d (λ k j there. inr (at_right (part_in body).nodes (part_in other).nodes k j there))
    n m is h
if_closed l at e body other one two d false n m is (inr (inr h)) = elim h.1 [
  | inl into ↦ is_later false (marked entered (TestAt l at e)) ((part_in body).nodes ++ (part_in other).nodes) m
      (is_left false (part_in body).nodes (part_in other).nodes m (one.enters m into))
  | inr into ↦ is_later false (marked entered (TestAt l at e)) ((part_in body).nodes ++ (part_in other).nodes) m
      (is_right false (part_in body).nodes (part_in other).nodes m (two.enters m into))
]
if_closed l at e body other one two d true n m is (inr (inr h)) =
    from_false (own_mark true (part_of (If l at e body other)).nodes n entered d (inl (h.0, refl)) is)

pub some_empty : (a b : Bool) → (a ≡ true) ⊎ (b ≡ true) → (a || b) ≡ true
some_empty a b (inl is) = or_left a b is
some_empty a b (inr is) = or_right a b is

pub if_outs : (l : Label) (at : Place) (e : Expr) (body other : Block) → FullIn body → FullIn other →
    Differ (names (part_of (If l at e body other)).nodes) → (n : Node) (k : Mark) → Out (If l at e body other) n →
    At (part_of (If l at e body other)).nodes n k →
    At (part_of (If l at e body other)).outs n k
if_outs l at e body other one two d n k (inl h) there =
    let whole = (part_of (If l at e body other)).nodes in
    let inside = back_at (part_in body).nodes whole n k d (λ i j x. inr (at_left (part_in body).nodes (part_in other).nodes i j x))
    (in_block body n (out_in body n h)) there in
    at_left (part_in body).outs (where_marked (is_empty body || is_empty other) (marked entered (TestAt l at e)) ++ (part_in other).outs) n k
    (one.outs n k h inside)
if_outs l at e body other one two d n k (inr (inl h)) there =
    let whole = (part_of (If l at e body other)).nodes in
    let last = where_marked (is_empty body || is_empty other) (marked entered (TestAt l at e)) in
    let inside = back_at (part_in other).nodes whole n k d (λ i j x. inr (at_right (part_in body).nodes (part_in other).nodes i j x))
    (in_block other n (out_in other n h)) there in
    at_right (part_in body).outs (last ++ (part_in other).outs) n k (at_right last (part_in other).outs n k (two.outs n k h inside))
if_outs l at e body other one two d n k (inr (inr h)) there =
    let whole = (part_of (If l at e body other)).nodes in
    let last = where_marked (is_empty body || is_empty other) (marked entered (TestAt l at e)) in
    let same : entered ≡ k = one_mark whole n entered k d (inl (h.1, refl)) there in
    at_right (part_in body).outs (last ++ (part_in other).outs) n k
    (at_left last (part_in other).outs n k
    (subst (At last n) same
    (where_at (is_empty body || is_empty other) (marked entered (TestAt l at e)) n (some_empty (is_empty body) (is_empty other) h.0) h.1)))

pub if_full : (l : Label) (at : Place) (e : Expr) (body other : Block) → FullIn body → FullIn other →
    Differ (names (part_of (If l at e body other)).nodes) → Full (If l at e body other)
if_full l at e body other one two d = record {
  enters = λ n same. is_first false (marked entered (TestAt l at e)) ((part_in body).nodes ++ (part_in other).nodes) n same refl;
  resumes = λ n h. elim h [
    | inl r ↦ is_later true (marked entered (TestAt l at e)) ((part_in body).nodes ++ (part_in other).nodes) n
        (is_left true (part_in body).nodes (part_in other).nodes n (one.resumes n r))
    | inr r ↦ is_later true (marked entered (TestAt l at e)) ((part_in body).nodes ++ (part_in other).nodes) n
        (is_right true (part_in body).nodes (part_in other).nodes n (two.resumes n r))
  ];
  closed = if_closed l at e body other one two d;
  outs = if_outs l at e body other one two d;
}

-- ---- loops

-- a turn of a loop whose first and last node stand in a list with these marks
pub turn_closed : (body : Block) (first last : Node) (first_mark last_mark : Mark) (zs : List Marked) → FullIn body → Differ (names zs) →
    Sub (moved (again_by (some_of (part_in body).outs)) (part_in body).nodes) zs → At zs first first_mark → At zs last last_mark →
    (first_mark.depth ≡ true → (some_of (part_in body).outs).depth ≡ true) → (is_empty body ≡ true → last_mark.surface ≡ true) →
    ((some_of (part_in body).outs).surface ≡ true → last_mark.surface ≡ true) →
    ((some_of (part_in body).outs).depth ≡ true → last_mark.depth ≡ true) →
    (deep : Bool) → Closed deep zs (LoopEdge body first last)
turn_closed body first last fm lm zs full d sub at_first at_last first_deep empty_last some_last deep_last false n m is (inl h) = elim h.1 [
  | inl into ↦ is_in false (moved (again_by (some_of (part_in body).outs)) (part_in body).nodes) zs m sub
      (to_surface (again_by (some_of (part_in body).outs)) (part_in body).nodes m refl (full.enters m into))
  | inr next ↦ is_at false zs m last lm next.1 at_last (empty_last next.0)
]
turn_closed body first last fm lm zs full d sub at_first at_last first_deep empty_last some_last deep_last true n m is (inl h) =
    let so = first_deep (own_mark true zs n fm d (moved_to zs n first fm h.0 at_first) is) in
    elim h.1 [
      | inl into ↦ is_in true (moved (again_by (some_of (part_in body).outs)) (part_in body).nodes) zs m sub
          (to_depth_entry (again_by (some_of (part_in body).outs)) (part_in body).nodes m so (full.enters m into))
      | inr next ↦ is_at true zs m last lm next.1 at_last (deep_last so)
    ]
turn_closed body first last fm lm zs full d sub at_first at_last first_deep empty_last some_last deep_last false n m is (inr h) =
    let again = again_by (some_of (part_in body).outs) in
    let inside = back false (moved again (part_in body).nodes) zs n d sub (in_moved again body n (out_in body n h.0)) is in
    let own = (moved_surface again (part_in body).nodes n inside).1 in
    is_at false zs m last lm h.1 at_last (some_last (some_is false (part_in body).outs n own.mark (full.outs n own.mark h.0 own.there) own.so))
turn_closed body first last fm lm zs full d sub at_first at_last first_deep empty_last some_last deep_last true n m is (inr h) =
    let again = again_by (some_of (part_in body).outs) in
    let inside = back true (moved again (part_in body).nodes) zs n d sub (in_moved again body n (out_in body n h.0)) is in
    is_at true zs m last lm h.1 at_last (deep_last (elim (moved_depth again (part_in body).nodes n inside) [
      | inl own ↦ some_is true (part_in body).outs n own.mark (full.outs n own.mark h.0 own.there) own.so
      | inr anew ↦ anew.0
    ]))

pub repeat_closed : (l : Label) (at : Place) (body : Block) → FullIn body → Differ (names (part_of (Repeat l at body)).nodes) →
    (deep : Bool) → Closed deep (part_of (Repeat l at body)).nodes (Edge (Repeat l at body))
repeat_closed l at body full d deep n m is (inl h) =
    moved_part deep (again_by (some_of (part_in body).outs)) body (part_of (Repeat l at body)).nodes full d (λ k j x. inr x) n m is h
repeat_closed l at body full d deep n m is (inr h) =
    turn_closed body (HeadAt l at) (HeadAt l at) (again_by (some_of (part_in body).outs)) (again_by (some_of (part_in body).outs))
    (part_of (Repeat l at body)).nodes full d (λ k j x. inr x) (inl (refl, refl)) (inl (refl, refl)) (λ so. so) (λ empty. refl) (λ some. refl) (λ so. so)
    deep n m is h

pub repeat_full : (l : Label) (at : Place) (body : Block) → FullIn body → Differ (names (part_of (Repeat l at body)).nodes) → Full (Repeat l at body)
repeat_full l at body full d = let again = again_by (some_of (part_in body).outs) in record {
  enters = λ n same. is_first false (marked again (HeadAt l at)) (moved again (part_in body).nodes) n same refl;
  resumes = λ n h. is_later true (marked again (HeadAt l at)) (moved again (part_in body).nodes) n (to_depth again (part_in body).nodes n (full.resumes n h));
  closed = repeat_closed l at body full d;
  outs = λ n k out there. elim out [ ];
}

pub while_closed : (l : Label) (at : Place) (e : Expr) (body : Block) → FullIn body → Differ (names (part_of (While l at e body)).nodes) →
    (deep : Bool) → Closed deep (part_of (While l at e body)).nodes (Edge (While l at e body))
while_closed l at e body full d deep n m is (inl h) =
    moved_part deep (again_by (some_of (part_in body).outs)) body (part_of (While l at e body)).nodes full d (λ k j x. inr x) n m is h
while_closed l at e body full d deep n m is (inr h) =
    turn_closed body (TestAt l at e) (TestAt l at e) (again_by (some_of (part_in body).outs)) (again_by (some_of (part_in body).outs))
    (part_of (While l at e body)).nodes full d (λ k j x. inr x) (inl (refl, refl)) (inl (refl, refl)) (λ so. so) (λ empty. refl) (λ some. refl) (λ so. so)
    deep n m is h

pub while_full : (l : Label) (at : Place) (e : Expr) (body : Block) → FullIn body → Differ (names (part_of (While l at e body)).nodes) →
    Full (While l at e body)
while_full l at e body full d = let again = again_by (some_of (part_in body).outs) in record {
  enters = λ n same. is_first false (marked again (TestAt l at e)) (moved again (part_in body).nodes) n same refl;
  resumes = λ n h. is_later true (marked again (TestAt l at e)) (moved again (part_in body).nodes) n
      (to_depth again (part_in body).nodes n (full.resumes n h));
  closed = while_closed l at e body full d;
  outs = λ n k out there. inl (out, sym (one_mark (part_of (While l at e body)).nodes n again k d (inl (out, refl)) there));
}

-- a loop that is tested behind its body; its test has this mark
pub tested_closed : (l : Label) (at : Place) (body : Block) (e : Expr) (mark : Mark) → FullIn body →
    let again = again_by (some_of (part_in body).outs) in
    let zs = marked again (HeadAt l at) ∷ marked mark (TestAt l at e) ∷ moved again (part_in body).nodes in
    Differ (names zs) → (is_empty body ≡ true → mark.surface ≡ true) → ((some_of (part_in body).outs).surface ≡ true → mark.surface ≡ true) →
    mark.depth ≡ (some_of (part_in body).outs).depth → (deep : Bool) → Closed deep zs (Edge (Until l at body e))
tested_closed l at body e mark full d empty some same deep n m is (inl h) =
    let again = again_by (some_of (part_in body).outs) in
    let zs = marked again (HeadAt l at) ∷ marked mark (TestAt l at e) ∷ moved again (part_in body).nodes in
    moved_part deep again body zs full d (λ k j x. inr (inr x)) n m is h
tested_closed l at body e mark full d empty some same deep n m is (inr (inl h)) =
    let again = again_by (some_of (part_in body).outs) in
    let zs = marked again (HeadAt l at) ∷ marked mark (TestAt l at e) ∷ moved again (part_in body).nodes in
    turn_closed body (HeadAt l at) (TestAt l at e) again mark zs full d (λ k j x. inr (inr x)) (inl (refl, refl)) (inr (inl (refl, refl)))
    (λ so. so) empty some (λ so. same ∙ so) deep n m is h
tested_closed l at body e mark full d empty some same false n m is (inr (inr h)) =
    let again = again_by (some_of (part_in body).outs) in
    is_first false (marked again (HeadAt l at)) (marked mark (TestAt l at e) ∷ moved again (part_in body).nodes) m h.1 refl
tested_closed l at body e mark full d empty some same true n m is (inr (inr h)) =
    let again = again_by (some_of (part_in body).outs) in
    let zs = marked again (HeadAt l at) ∷ marked mark (TestAt l at e) ∷ moved again (part_in body).nodes in
    is_first true (marked again (HeadAt l at)) (marked mark (TestAt l at e) ∷ moved again (part_in body).nodes) m h.1
    (sym same ∙ own_mark true zs n mark d (inr (inl (h.0, refl))) is)

pub until_full : (l : Label) (at : Place) (body : Block) (e : Expr) → FullIn body → Differ (names (part_of (Until l at body e)).nodes) →
    Full (Until l at body e)
until_full l at body e full d =
    let again = again_by (some_of (part_in body).outs) in let ends = turn_ends body (some_of (part_in body).outs) in record {
      enters = λ n same. is_first false (marked again (HeadAt l at)) (marked ends (TestAt l at e) ∷ moved again (part_in body).nodes) n same refl;
      resumes = λ n h. is_later true (marked again (HeadAt l at)) (marked ends (TestAt l at e) ∷ moved again (part_in body).nodes) n
          (is_later true (marked ends (TestAt l at e)) (moved again (part_in body).nodes) n (to_depth again (part_in body).nodes n (full.resumes n h)));
      closed = tested_closed l at body e ends full d (λ empty. or_left (is_empty body) (some_of (part_in body).outs).surface empty)
          (λ some. or_right (is_empty body) (some_of (part_in body).outs).surface some) refl;
      outs = λ n k out there. inl (out, sym (one_mark (part_of (Until l at body e)).nodes n ends k d (inr (inl (out, refl))) there));
    }

pub again_full : (l : Label) (at : Place) (body : Block) (e : Expr) → FullIn body → Differ (names (part_of (Again l at body e)).nodes) →
    Full (Again l at body e)
again_full l at body e full d =
    let again = again_by (some_of (part_in body).outs) in record {
      enters = λ n same. is_later false (marked again (HeadAt l at)) (marked again (TestAt l at e) ∷ moved again (part_in body).nodes) n
          (is_first false (marked again (TestAt l at e)) (moved again (part_in body).nodes) n same refl);
      resumes = λ n h. is_later true (marked again (HeadAt l at)) (marked again (TestAt l at e) ∷ moved again (part_in body).nodes) n
          (is_later true (marked again (TestAt l at e)) (moved again (part_in body).nodes) n (to_depth again (part_in body).nodes n (full.resumes n h)));
      closed = tested_closed l at body e again full d (λ empty. refl) (λ some. refl) refl;
      outs = λ n k out there. inl (out, sym (one_mark (part_of (Again l at body e)).nodes n again k d (inr (inl (out, refl))) there));
    }
