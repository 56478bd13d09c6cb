-- The edges that are found to nodes of each branch from those of earlier ones.
use Rattle.std.proofs.Common.{◌≡◌, ℕ, ◌+◌, ◌-◌, ◌<◌, ◌≤◌, Bool, true, false, inl, inr, List, [], ◌∷◌, length, Option, Some, None, refl, sym, ap, subst}
use Rattle.std.proofs.Common.{◌∙◌, arith}
use Rattle.std.specs.List.{list_any}
use Rattle.std.specs.Prelude.{Contains, slice_get}
use Rattle.std.proofs.lemmas.List.Elements.{Contains-append_left, Contains-append_right}
use Rattle.std.proofs.lemmas.Option.{slice_get_within}
use Rattle.bl_tree.proofs.Basics.{any_from as any_to, contains_none, contains_one, either_of}
use Rattle.bl_tree.specs.declared.graph.Edge.{Edge}
use Rattle.bl_tree.specs.declared.static_path.Static.{Static}
use Rattle.bl_tree.specs.Static.{meets, overlaps}
use Rattle.bl_graph.specs.declared.flow.Flow.{Flow}
use Rattle.bl_graph.specs.declared.flow.Span.{Span}
use Rattle.bl_graph.specs.Graph.{edge_between}
use Rattle.bl_graph.specs.inner.Flows.{InBranch}
use Rattle.bl_graph.specs.Accesses.{links}
use Rattle.bl_graph.specs.inner.Found.{is_reached, links_at, links_in, links_met, links_to, notes_of, swept, writes_at, writes_before, writes_in}
use Rattle.bl_graph.specs.inner.Found.{writes_to}
use Rattle.bl_graph.specs.inner.Noted.{Note, note, numbers_met, upto}
use Rattle.bl_graph.proofs.Meeting.{met_from, met_to, where_from, where_to}
use Rattle.bl_graph.proofs.MemberLemmas.{each_from, each_to, one_in, upto_from, upto_to}

-- ---- lists of paths

pub any_from : {A : Type 0} (test : A → Bool) (xs : List A) → list_any test xs ≡ true → (x : A) × Contains xs x × (test x ≡ true)
any_from test [] is = absurd (no_true is)
  where
    no_true : false ≡ true → ⊥
    no_true is = cc
any_from test (x ∷ xs) is = elim (either_of (test x) (list_any test xs) is) [
  | inl here ↦ (x, Contains-append_left (x ∷ []) xs x (one_in x), here)
  | inr more ↦ let later = any_from test xs more in (later.0, Contains-append_right (x ∷ []) xs later.0 later.1, later.2)
]

meets_from : (xs ys : List Static) → meets xs ys ≡ true → (x : Static) × Contains xs x × ((y : Static) × Contains ys y × (overlaps x y ≡ true))
meets_from xs ys is = let x = any_from (λ a. list_any (overlaps a) ys) xs is in (x.0, x.1, any_from (overlaps x.0) ys x.2)

meets_to : (xs ys : List Static) (x y : Static) → Contains xs x → Contains ys y → overlaps x y ≡ true → meets xs ys ≡ true
meets_to xs ys x y one two is = any_to (λ a. list_any (overlaps a) ys) xs x one (any_to (overlaps x) ys y two is)

-- ---- nodes of a branch

span_from : {A : Type 0} (f : ℕ → List A) (span : Span) (x : A) → Contains (upto (λ k. f (span.first + k)) (span.end - span.first)) x →
    (i : ℕ) × (span.first ≤ i) × (i < span.end) × Contains (f i) x
span_from f span x there =
    let k = upto_from (λ k. f (span.first + k)) (span.end - span.first) x there in
    (span.first + k.0, begins span.first k.0, ends span.first span.end k.0 k.1, k.2)
  where
    begins : (first k : ℕ) → first ≤ first + k
    begins first k = omega arith

    ends : (first end k : ℕ) → k < end - first → first + k < end
    ends first end k lt = omega arith

span_to : {A : Type 0} (f : ℕ → List A) (span : Span) (i : ℕ) (x : A) → span.first ≤ i → i < span.end → Contains (f i) x →
    Contains (upto (λ k. f (span.first + k)) (span.end - span.first)) x
span_to f span i x begins ends made =
    upto_to (λ k. f (span.first + k)) (span.end - span.first) (i - span.first) x (less span.first span.end i begins ends)
    (subst (λ j. Contains (f j) x) (sym (same span.first i begins)) made)
  where
    less : (first end i : ℕ) → first ≤ i → i < end → i - first < end - first
    less first end i begins ends = omega arith

    same : (first i : ℕ) → first ≤ i → first + (i - first) ≡ i
    same first i le = omega arith

-- ---- what nodes write

-- a node in the part that is looked at writes the path
record WrittenAt (deep : Bool) (i : ℕ) (found : Option Flow) (n : Note) : Type 0 where
  flow : Flow
  is_flow : found ≡ Some flow
  reached : is_reached deep flow.mark ≡ true
  writes : Contains flow.writes n.path
  is_node : n.node ≡ i

written_from : (deep : Bool) (i : ℕ) (found : Option Flow) (n : Note) → Contains (writes_at deep i found) n → WrittenAt deep i found n
written_from deep i None n there = absurd (contains_none n there)
written_from deep i (Some flow) n there =
    let made = where_from (is_reached deep flow.mark) (notes_of i flow.writes) n there in
    let p = each_from (λ path. note i path ∷ []) flow.writes n made.1 in
    let is = contains_one (note i p.0) n p.2 in
    record {
      flow = flow;
      is_flow = refl;
      reached = made.0;
      writes = subst (Contains flow.writes) (ap (λ x. x.path) is) p.1;
      is_node = ap (λ x. x.node) (sym is);
    }

written_to : (deep : Bool) (i : ℕ) (found : Option Flow) (flow : Flow) (path : Static) → found ≡ Some flow → is_reached deep flow.mark ≡ true →
    Contains flow.writes path → Contains (writes_at deep i found) (note i path)
written_to deep i found flow path is reached there =
    subst (λ f. Contains (writes_at deep i f) (note i path)) (sym is)
    (where_to (is_reached deep flow.mark) (notes_of i flow.writes) (note i path) reached
    (each_to (λ path. note i path ∷ []) flow.writes path (note i path) there (one_in (note i path))))

writes_span : (nodes : List Flow) (deep : Bool) (found : Option Span) (n : Note) → Contains (writes_in nodes deep found) n →
    (span : Span) × (found ≡ Some span) × Contains (writes_to nodes deep span.first (span.end - span.first)) n
writes_span nodes deep None n there = absurd (contains_none n there)
writes_span nodes deep (Some span) n there = (span, refl, there)

-- a node of an earlier branch writes the path
record Earlier (nodes : List Flow) (deep : Bool) (branches : List Span) (count : ℕ) (n : Note) : Type 0 where
  at : ℕ
  before : at < count
  number : ℕ
  in_branch : InBranch branches at number
  written : WrittenAt deep number (slice_get nodes number) n

earlier_from : (nodes : List Flow) (deep : Bool) (branches : List Span) (count : ℕ) (n : Note) → Contains (writes_before nodes deep branches count) n →
    Earlier nodes deep branches count n
earlier_from nodes deep branches count n there =
    let m = upto_from (λ k. writes_in nodes deep (slice_get branches k)) count n there in
    let s = writes_span nodes deep (slice_get branches m.0) n m.2 in
    let i = span_from (λ i. writes_at deep i (slice_get nodes i)) s.0 n s.2 in
    record {
      at = m.0;
      before = m.1;
      number = i.0;
      in_branch = record { span = s.0; is_there = s.1; begins = i.1; ends = i.2 };
      written = written_from deep i.0 (slice_get nodes i.0) n i.3;
    }

earlier_to : (nodes : List Flow) (deep : Bool) (branches : List Span) (count at i : ℕ) (flow : Flow) (path : Static) → at < count →
    InBranch branches at i → slice_get nodes i ≡ Some flow → is_reached deep flow.mark ≡ true → Contains flow.writes path →
    Contains (writes_before nodes deep branches count) (note i path)
earlier_to nodes deep branches count at i flow path before within is reached there =
    upto_to (λ k. writes_in nodes deep (slice_get branches k)) count at (note i path) before
    (subst (λ f. Contains (writes_in nodes deep f) (note i path)) (sym within.is_there)
    (span_to (λ i. writes_at deep i (slice_get nodes i)) within.span i (note i path) within.begins within.ends
    (written_to deep i (slice_get nodes i) flow path is reached there)))

-- ---- edges to a node

-- an edge from a node that was noted with a path that overlaps one of these
record Linked (ns : List Note) (to : ℕ) (paths : List Static) (edge : Edge) : Type 0 where
  found : Note
  path : Static
  noted : Contains ns found
  read : Contains paths path
  overlap : overlaps found.path path ≡ true
  is : edge ≡ edge_between found.node to true

linked_from : (ns : List Note) (to : ℕ) (paths : List Static) (edge : Edge) → Contains (links_met ns to paths) edge → Linked ns to paths edge
linked_from ns to paths edge there =
    let p = each_from (λ path. links to (numbers_met ns path)) paths edge there in
    let i = each_from (λ from. edge_between from to true ∷ []) (numbers_met ns p.0) edge p.2 in
    let m = met_from ns p.0 i.0 i.1 in
    record {
      found = m.found;
      path = p.0;
      noted = m.there;
      read = p.1;
      overlap = m.overlap;
      is = sym (contains_one (edge_between i.0 to true) edge i.2) ∙ ap (λ n. edge_between n to true) (sym m.is_node);
    }

linked_to : (ns : List Note) (to : ℕ) (paths : List Static) (n : Note) (path : Static) → Contains ns n → Contains paths path →
    overlaps n.path path ≡ true → Contains (links_met ns to paths) (edge_between n.node to true)
linked_to ns to paths n path noted read is =
    each_to (λ path. links to (numbers_met ns path)) paths path (edge_between n.node to true) read
    (each_to (λ from. edge_between from to true ∷ []) (numbers_met ns path) n.node (edge_between n.node to true) (met_to ns path n noted is)
    (one_in (edge_between n.node to true)))

record LinkedAt (ns : List Note) (deep : Bool) (i : ℕ) (found : Option Flow) (edge : Edge) : Type 0 where
  flow : Flow
  is_flow : found ≡ Some flow
  reached : is_reached deep flow.mark ≡ true
  linked : Linked ns i flow.reads edge

read_from : (ns : List Note) (deep : Bool) (i : ℕ) (found : Option Flow) (edge : Edge) → Contains (links_at ns deep i found) edge →
    LinkedAt ns deep i found edge
read_from ns deep i None edge there = absurd (contains_none edge there)
read_from ns deep i (Some flow) edge there =
    let made = where_from (is_reached deep flow.mark) (links_met ns i flow.reads) edge there in
    record { flow = flow; is_flow = refl; reached = made.0; linked = linked_from ns i flow.reads edge made.1 }

links_span : (ns : List Note) (nodes : List Flow) (deep : Bool) (found : Option Span) (edge : Edge) → Contains (links_in ns nodes deep found) edge →
    (span : Span) × (found ≡ Some span) × Contains (links_to ns nodes deep span.first (span.end - span.first)) edge
links_span ns nodes deep None edge there = absurd (contains_none edge there)
links_span ns nodes deep (Some span) edge there = (span, refl, there)

-- ---- edges to nodes of all branches

-- an edge from a node of a branch to one of a later branch, which reads what it writes, both in the part that is looked at
pub record Sweep (nodes : List Flow) (deep : Bool) (branches : List Span) (i j : ℕ) : Type 0 where
  pub from : Flow
  pub to : Flow
  pub is_from : slice_get nodes i ≡ Some from
  pub is_to : slice_get nodes j ≡ Some to
  pub branch : ℕ
  pub other : ℕ
  pub earlier : branch < other
  pub in_branch : InBranch branches branch i
  pub in_other : InBranch branches other j
  pub from_reached : is_reached deep from.mark ≡ true
  pub to_reached : is_reached deep to.mark ≡ true
  pub touches : meets from.writes to.reads ≡ true

pub swept_from : (nodes : List Flow) (deep : Bool) (branches : List Span) (edge : Edge) → Contains (swept nodes deep branches (length branches)) edge →
    (i : ℕ) × (j : ℕ) × (edge ≡ edge_between i j true) × Sweep nodes deep branches i j
swept_from nodes deep branches edge there =
    let k = upto_from (λ k. links_in (writes_before nodes deep branches k) nodes deep (slice_get branches k)) (length branches) edge there in
    let ns = writes_before nodes deep branches k.0 in
    let s = links_span ns nodes deep (slice_get branches k.0) edge k.2 in
    let j = span_from (λ i. links_at ns deep i (slice_get nodes i)) s.0 edge s.2 in
    let r = read_from ns deep j.0 (slice_get nodes j.0) edge j.3 in
    let e = earlier_from nodes deep branches k.0 r.linked.found r.linked.noted in (
      e.number,
      j.0,
      r.linked.is ∙ ap (λ n. edge_between n j.0 true) e.written.is_node,
      record {
        from = e.written.flow;
        to = r.flow;
        is_from = e.written.is_flow;
        is_to = r.is_flow;
        branch = e.at;
        other = k.0;
        earlier = e.before;
        in_branch = e.in_branch;
        in_other = record { span = s.0; is_there = s.1; begins = j.1; ends = j.2 };
        from_reached = e.written.reached;
        to_reached = r.reached;
        touches = meets_to e.written.flow.writes r.flow.reads r.linked.found.path r.linked.path e.written.writes r.linked.read r.linked.overlap;
      },
    )

pub swept_to : (nodes : List Flow) (deep : Bool) (branches : List Span) (i j : ℕ) → Sweep nodes deep branches i j →
    Contains (swept nodes deep branches (length branches)) (edge_between i j true)
swept_to nodes deep branches i j s =
    let x = meets_from s.from.writes s.to.reads s.touches in
    let y = x.2 in
    let ns = writes_before nodes deep branches s.other in
    let noted = earlier_to nodes deep branches s.other s.branch i s.from x.0 s.earlier s.in_branch s.is_from s.from_reached x.1 in
    upto_to (λ k. links_in (writes_before nodes deep branches k) nodes deep (slice_get branches k)) (length branches) s.other (edge_between i j true)
    (slice_get_within branches s.other s.in_other.span s.in_other.is_there)
    (subst (λ f. Contains (links_in ns nodes deep f) (edge_between i j true)) (sym s.in_other.is_there)
    (span_to (λ i. links_at ns deep i (slice_get nodes i)) s.in_other.span j (edge_between i j true) s.in_other.begins s.in_other.ends
    (subst (λ f. Contains (links_at ns deep j f) (edge_between i j true)) (sym s.is_to)
    (where_to (is_reached deep s.to.mark) (links_met ns j s.to.reads) (edge_between i j true) s.to_reached
    (linked_to ns j s.to.reads (note i x.0) y.0 noted y.1 y.2)))))
