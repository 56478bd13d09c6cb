-- The data edges between branches, by the numbers of their nodes.
use Rattle.std.proofs.Common.{◌≡◌, ℕ, zero, suc, ◌+◌, ◌-◌, ◌<◌, ◌≤◌, Bool, true, false, cond, ◌&&◌, ◌||◌, ◌⊎◌, ⊎_elim, inl, inr, List, [], ◌∷◌, ◌++◌, map}
use Rattle.std.proofs.Common.{length, Some, None, refl, ap, sym, ◌∙◌, subst, arith, append_assoc, zero-add}
use Rattle.std.specs.Prelude.{◌≢◌, Contains, slice_get}
use Rattle.std.proofs.lemmas.List.Elements.{All-contains, Contains-append_cases, Contains-append_left, Contains-append_right}
use Rattle.bl_tree.proofs.Basics.{contains_at, contains_first, contains_further, contains_none, first_or_further, get_in_front, same_suc, within_at}
use Rattle.bl_tree.specs.declared.graph.Edge.{Edge}
use Rattle.bl_tree.specs.Static.{meets}
use Rattle.bl_graph_nodes.specs.Nodes.{Node, node_reads, node_writes, nodes_in, nodes_in_each}
use Rattle.bl_graph_nodes.specs.Plain.{Bodies, Body, Last}
use Rattle.bl_graph.specs.declared.flow.Flow.{Flow}
use Rattle.bl_graph.specs.declared.flow.Span.{Span}
use Rattle.bl_graph.specs.Graph.{edge_between}
use Rattle.bl_graph.specs.Listed.{Pair, across, between, flows_in, flows_in_each, in_same_phase, pair, touching}
use Rattle.bl_graph.specs.Marks.{Mark, Marked, part_in, parts_of}
use Rattle.bl_graph.specs.inner.Flows.{FlowBetween, FlowsAdded, InBranch}
use Rattle.bl_graph.specs.inner.Made.{Adds, Crossed, Names, Naming, flow_of, flows_between, flows_within, spans_of}
use Rattle.bl_graph.specs.inner.Parts.{shifted}
use Rattle.bl_graph.proofs.Following.{Same, same_both, same_is, same_itself, same_swap, same_then}
use Rattle.bl_graph.proofs.Marking.{names, names_in}
use Rattle.bl_graph.proofs.Numbering.{names_back, names_front}

-- ---- elements by position

pub record At {A : Type 0} (xs : List A) (x : A) : Type 0 where
  pub position : ℕ
  pub is : slice_get xs position ≡ Some x

pub at_there : {A : Type 0} (xs : List A) (x : A) → Contains xs x → At xs x
at_there [] x there = absurd (contains_none x there)
at_there (y ∷ xs) x there =
    ⊎_elim (λ is. record { position = zero; is = ap Some is })
    (λ later. let more = at_there xs x later in record { position = suc more.position; is = more.is })
    (first_or_further y xs x there)

pub record Element {A : Type 0} (xs : List A) (i : ℕ) : Type 0 where
  pub element : A
  pub is : slice_get xs i ≡ Some element

pub element_at : {A : Type 0} (xs : List A) (i : ℕ) → i < length xs → Element xs i
element_at [] i below = absurd (omega arith)
element_at (x ∷ xs) zero below = record { element = x; is = refl }
element_at (x ∷ xs) (suc i) below =
    let less : i < length xs = omega arith in
    let more = element_at xs i less in
    record { element = more.element; is = more.is }

right_at : {A : Type 0} (xs ys : List A) (i j : ℕ) (x : A) → j ≡ length xs + i → slice_get ys i ≡ Some x → slice_get (xs ++ ys) j ≡ Some x
right_at [] ys i j x here is = let same : i ≡ j = omega arith in subst (λ j. slice_get ys j ≡ Some x) same is
right_at (y ∷ xs) ys i zero x here is = absurd (omega arith)
right_at (y ∷ xs) ys i (suc j) x here is = let less : j ≡ length xs + i = omega arith in right_at xs ys i j x less is

mapped_at : (ms : List Marked) (i : ℕ) (m : Marked) → slice_get ms i ≡ Some m → slice_get (map flow_of ms) i ≡ Some (flow_of m)
mapped_at [] i m is = cc
mapped_at (n ∷ ms) zero m is = let same : n ≡ m = cc in ap (λ m. Some (flow_of m)) same
mapped_at (n ∷ ms) (suc i) m is = mapped_at ms i m is

same_flow : (f g : Flow) → Some f ≡ Some g → f ≡ g
same_flow f g is = cc

-- ---- nodes in branches

-- the node at the position among all stands in the branch with the number
abbrev Sits : Bodies → ℕ → ℕ → Marked → Type 0
Sits Last k i m = ⊥
Sits (Body weak b rest) zero i m = slice_get (part_in b).nodes i ≡ Some m
Sits (Body weak b rest) (suc k) i m = (j : ℕ) × (i ≡ length (part_in b).nodes + j) × Sits rest k j m

sits_at : (bodies : Bodies) (k i : ℕ) (m : Marked) → Sits bodies k i m → slice_get (parts_of bodies).nodes i ≡ Some m
sits_at Last k i m sits = absurd sits
sits_at (Body weak b rest) zero i m sits = get_in_front (part_in b).nodes (parts_of rest).nodes i m sits
sits_at (Body weak b rest) (suc k) i m sits =
    right_at (part_in b).nodes (parts_of rest).nodes sits.0 i m sits.1 (sits_at rest k sits.0 m sits.2)

abbrev record_span : ℕ → ℕ → Span
record_span n size = record { first = n; end = n + size }

-- which node a number of a span stands for
record Placed (bodies : Bodies) (n k x : ℕ) : Type 0 where
  i : ℕ
  m : Marked
  number : x ≡ n + i
  sits : Sits bodies k i m

same_span : (s t : Span) → Some s ≡ Some t → s ≡ t
same_span s t is = cc

placed : (bodies : Bodies) (n k x : ℕ) → InBranch (spans_of n bodies) k x → Placed bodies n k x
placed Last n k x inside = let none : None ≡ Some inside.span = inside.is_there in cc
placed (Body weak b rest) n zero x inside =
    let nodes : List Marked = (part_in b).nodes in
    let span : record_span n (length nodes) ≡ inside.span = same_span _ _ inside.is_there in
    let begins : n ≤ x = subst (λ s. s.first ≤ x) (sym span) inside.begins in
    let ends : x < n + length nodes = subst (λ s. x < s.end) (sym span) inside.ends in
    let below : x - n < length nodes = omega arith in
    let found = element_at nodes (x - n) below in
    record { i = x - n; m = found.element; number = omega arith; sits = found.is }
placed (Body weak b rest) n (suc k) x inside =
    let more = placed rest (n + length (part_in b).nodes) k x
    (record { span = inside.span; is_there = inside.is_there; begins = inside.begins; ends = inside.ends }) in
    record { i = length (part_in b).nodes + more.i; m = more.m; number = let is = more.number in omega arith; sits = (more.i, refl, more.sits) }

branch_of : (bodies : Bodies) (n k i x : ℕ) (m : Marked) → x ≡ n + i → Sits bodies k i m → InBranch (spans_of n bodies) k x
branch_of Last n k i x m is sits = absurd sits
branch_of (Body weak b rest) n zero i x m is sits =
    let below : i < length (part_in b).nodes = within_at (part_in b).nodes i m sits in
    record { span = record_span n (length (part_in b).nodes); is_there = refl; begins = omega arith; ends = omega arith }
branch_of (Body weak b rest) n (suc k) i x m is sits =
    let here = sits.1 in
    let moved : x ≡ (n + length (part_in b).nodes) + sits.0 = omega (arith, here) in
    let more = branch_of rest (n + length (part_in b).nodes) k sits.0 x m moved sits.2 in
    record { span = more.span; is_there = more.is_there; begins = more.begins; ends = more.ends }

pub counts : (ms : List Marked) → length ms ≡ length (names ms)
counts [] = refl
counts (m ∷ ms) = ap suc (counts ms)

named_at : (naming : Naming) (n i x : ℕ) (ms : List Marked) (m : Marked) → x ≡ n + i → slice_get ms i ≡ Some m → Names naming n (names ms)
    → naming x ≡ Some m.node
named_at naming n i x [] m is found named = cc
named_at naming n zero x (y ∷ ms) m is found named =
    let same : y ≡ m = cc in
    let here : n ≡ x = omega arith in
    subst (λ x. naming x ≡ Some m.node) here (subst (λ y. naming n ≡ Some y.node) same named.0)
named_at naming n (suc i) x (y ∷ ms) m is found named = let here : x ≡ (n + 1) + i = omega arith in named_at naming (n + 1) i x ms m here found named.1

named_each : (naming : Naming) (bodies : Bodies) (n k i x : ℕ) (m : Marked) → x ≡ n + i → Sits bodies k i m → Names naming n (nodes_in_each bodies)
    → naming x ≡ Some m.node
named_each naming Last n k i x m is sits named = absurd sits
named_each naming (Body weak b rest) n zero i x m is sits named =
    named_at naming n i x (part_in b).nodes m is sits
    (subst (Names naming n) (sym (names_in b)) (names_front naming n (nodes_in b) (nodes_in_each rest) named))
named_each naming (Body weak b rest) n (suc k) i x m is sits named =
    let here = sits.1 in
    let moved : x ≡ (n + length (part_in b).nodes) + sits.0 = omega (arith, here) in
    let size : length (part_in b).nodes ≡ length (nodes_in b) = counts (part_in b).nodes ∙ ap length (names_in b) in
    let from : n + length (part_in b).nodes ≡ n + length (nodes_in b) = ap (λ l. n + l) size in
    named_each naming rest (n + length (part_in b).nodes) k sits.0 x m moved sits.2 (names_back naming n _ (nodes_in b) (nodes_in_each rest) from named)

-- ---- pairs of branches

swap_bools : (a b c d : Bool) → ((a && b) || (c && d)) ≡ true → ((b && a) || (d && c)) ≡ true
swap_bools true true c d is = refl
swap_bools true false true true is = refl
swap_bools true false true false is = is
swap_bools true false false true is = is
swap_bools true false false false is = is
swap_bools false true true true is = refl
swap_bools false true true false is = is
swap_bools false true false true is = is
swap_bools false true false false is = is
swap_bools false false true true is = refl
swap_bools false false true false is = is
swap_bools false false false true is = is
swap_bools false false false false is = is

together_back : (a b : Mark) → in_same_phase a b ≡ true → in_same_phase b a ≡ true
together_back a b is = swap_bools a.surface b.surface a.depth b.depth is

touches_there : (a b : Node) → meets (node_writes a) (node_reads b) ≡ true → Contains (touching a b) (pair a b)
touches_there a b is = subst (λ t. Contains (cond t (pair a b ∷ []) []) (pair a b)) (sym is) (contains_first (pair a b) [])

-- what is between a node and those of other branches
first_between : (a b : Marked) (bs : List Marked) → Contains bs b → in_same_phase a.mark b.mark ≡ true
    → meets (node_writes a.node) (node_reads b.node) ≡ true
    → Contains (between a bs) (pair a.node b.node)
first_between a b [] there so touch = absurd (contains_none b there)
first_between a b (c ∷ bs) there so touch =
    ⊎_elim
    (λ is. Contains-append_left _ (between a bs) (pair a.node b.node)
    (subst (λ c. Contains (cond (in_same_phase a.mark c.mark) (touching a.node c.node ++ touching c.node a.node) []) (pair a.node b.node)) (sym is)
    (subst (λ t. Contains (cond t (touching a.node b.node ++ touching b.node a.node) []) (pair a.node b.node)) (sym so)
    (Contains-append_left (touching a.node b.node) (touching b.node a.node) (pair a.node b.node) (touches_there a.node b.node touch)))))
    (λ later. Contains-append_right _ (between a bs) (pair a.node b.node) (first_between a b bs later so touch))
    (first_or_further c bs b there)

second_between : (a b : Marked) (bs : List Marked) → Contains bs b → in_same_phase a.mark b.mark ≡ true
    → meets (node_writes b.node) (node_reads a.node) ≡ true
    → Contains (between a bs) (pair b.node a.node)
second_between a b [] there so touch = absurd (contains_none b there)
second_between a b (c ∷ bs) there so touch =
    ⊎_elim
    (λ is. Contains-append_left _ (between a bs) (pair b.node a.node)
    (subst (λ c. Contains (cond (in_same_phase a.mark c.mark) (touching a.node c.node ++ touching c.node a.node) []) (pair b.node a.node)) (sym is)
    (subst (λ t. Contains (cond t (touching a.node b.node ++ touching b.node a.node) []) (pair b.node a.node)) (sym so)
    (Contains-append_right (touching a.node b.node) (touching b.node a.node) (pair b.node a.node) (touches_there b.node a.node touch)))))
    (λ later. Contains-append_right _ (between a bs) (pair b.node a.node) (second_between a b bs later so touch))
    (first_or_further c bs b there)

across_there : (firsts bs : List Marked) (a : Marked) (p : Pair) → Contains firsts a → Contains (between a bs) p → Contains (across firsts bs) p
across_there [] bs a p there has = absurd (contains_none a there)
across_there (c ∷ firsts) bs a p there has =
    ⊎_elim (λ is. Contains-append_left (between c bs) (across firsts bs) p (subst (λ c. Contains (between c bs) p) (sym is) has))
    (λ later. Contains-append_right (between c bs) (across firsts bs) p (across_there firsts bs a p later has))
    (first_or_further c firsts a there)

-- the first of these writes what the second reads
record Meeting (firsts bs : List Marked) (p : Pair) : Type 0 where
  a : Marked
  b : Marked
  in_first : Contains firsts a
  in_second : Contains bs b
  so : in_same_phase a.mark b.mark ≡ true
  touch : ((p ≡ pair a.node b.node) × (meets (node_writes a.node) (node_reads b.node) ≡ true))
      ⊎ ((p ≡ pair b.node a.node) × (meets (node_writes b.node) (node_reads a.node) ≡ true))

touching_is : (a b : Node) (t : Bool) (p : Pair) → Contains (cond t (pair a b ∷ []) []) p → (p ≡ pair a b) × (t ≡ true)
touching_is a b true p there = ⊎_elim (λ is. (sym is, refl)) (λ none. absurd (contains_none p none)) (first_or_further (pair a b) [] p there)
touching_is a b false p there = absurd (contains_none p there)

if_there : (t : Bool) (ps : List Pair) (p : Pair) → Contains (cond t ps []) p → (t ≡ true) × Contains ps p
if_there true ps p there = (refl, there)
if_there false ps p there = absurd (contains_none p there)

between_is : (a : Marked) (bs : List Marked) (p : Pair) → Contains (between a bs) p → Meeting (a ∷ []) bs p
between_is a [] p there = absurd (contains_none p there)
between_is a (b ∷ bs) p there =
    ⊎_elim
    (λ own.
    let test = if_there (in_same_phase a.mark b.mark) (touching a.node b.node ++ touching b.node a.node) p own in
    record {
      a = a;
      b = b;
      in_first = contains_first a [];
      in_second = contains_first b bs;
      so = test.0;
      touch = ⊎_elim
          (λ one. inl (touching_is a.node b.node (meets (node_writes a.node) (node_reads b.node)) p one))
          (λ two. inr (touching_is b.node a.node (meets (node_writes b.node) (node_reads a.node)) p two))
          (Contains-append_cases (touching a.node b.node) (touching b.node a.node) p test.1);
    })
    (λ later. let more = between_is a bs p later in record {
      a = more.a;
      b = more.b;
      in_first = more.in_first;
      in_second = contains_further b bs more.b more.in_second;
      so = more.so;
      touch = more.touch;
    })
    (Contains-append_cases (cond (in_same_phase a.mark b.mark) (touching a.node b.node ++ touching b.node a.node) []) (between a bs) p there)

across_is : (firsts bs : List Marked) (p : Pair) → Contains (across firsts bs) p → Meeting firsts bs p
across_is [] bs p there = absurd (contains_none p there)
across_is (c ∷ firsts) bs p there =
    ⊎_elim
    (λ own. let met = between_is c bs p own in record {
      a = met.a;
      b = met.b;
      in_first = ⊎_elim (λ is. subst (Contains (c ∷ firsts)) is (contains_first c firsts)) (λ none. absurd (contains_none met.a none))
          (first_or_further c [] met.a met.in_first);
      in_second = met.in_second;
      so = met.so;
      touch = met.touch;
    })
    (λ later. let met = across_is firsts bs p later in record {
      a = met.a;
      b = met.b;
      in_first = contains_further c firsts met.a met.in_first;
      in_second = met.in_second;
      so = met.so;
      touch = met.touch;
    })
    (Contains-append_cases (between c bs) (across firsts bs) p there)

-- ---- branches and the pairs between them

pub across_sits : (bodies : Bodies) (k j i x : ℕ) (a b : Marked) → k ≢ j → Sits bodies k i a → Sits bodies j x b → in_same_phase a.mark b.mark ≡ true
    → meets (node_writes a.node) (node_reads b.node) ≡ true → Contains (flows_between bodies) (pair a.node b.node)
across_sits Last k j i x a b differ one other so touch = absurd one
across_sits (Body weak c rest) zero zero i x a b differ one other so touch = absurd (differ refl)
across_sits (Body weak c rest) zero (suc j) i x a b differ one other so touch =
    Contains-append_left (across (part_in c).nodes (parts_of rest).nodes) (flows_between rest) (pair a.node b.node)
    (across_there (part_in c).nodes (parts_of rest).nodes a (pair a.node b.node) (contains_at (part_in c).nodes i a one)
    (first_between a b (parts_of rest).nodes (contains_at (parts_of rest).nodes other.0 b (sits_at rest j other.0 b other.2)) so touch))
across_sits (Body weak c rest) (suc k) zero i x a b differ one other so touch =
    Contains-append_left (across (part_in c).nodes (parts_of rest).nodes) (flows_between rest) (pair a.node b.node)
    (across_there (part_in c).nodes (parts_of rest).nodes b (pair a.node b.node) (contains_at (part_in c).nodes x b other)
    (second_between b a (parts_of rest).nodes (contains_at (parts_of rest).nodes one.0 a (sits_at rest k one.0 a one.2))
    (together_back a.mark b.mark so) touch))
across_sits (Body weak c rest) (suc k) (suc j) i x a b differ one other so touch =
    Contains-append_right (across (part_in c).nodes (parts_of rest).nodes) (flows_between rest) (pair a.node b.node)
    (across_sits rest k j one.0 other.0 a b (λ same. differ (ap suc same)) one.2 other.2 so touch)

-- two nodes of different branches, of which the first writes what the second reads
record Crossing (bodies : Bodies) (p : Pair) : Type 0 where
  k : ℕ
  j : ℕ
  differ : k ≢ j
  i : ℕ
  x : ℕ
  a : Marked
  b : Marked
  first : Sits bodies k i a
  second : Sits bodies j x b
  so : in_same_phase a.mark b.mark ≡ true
  touch : meets (node_writes a.node) (node_reads b.node) ≡ true
  is : p ≡ pair a.node b.node

-- in which of the branches a node stands
record Somewhere (bodies : Bodies) (m : Marked) : Type 0 where
  k : ℕ
  i : ℕ
  sits : Sits bodies k i m

somewhere : (bodies : Bodies) (m : Marked) → Contains (parts_of bodies).nodes m → Somewhere bodies m
somewhere Last m there = absurd (contains_none m there)
somewhere (Body weak b rest) m there =
    ⊎_elim
    (λ here. let at = at_there (part_in b).nodes m here in record { k = zero; i = at.position; sits = at.is })
    (λ later. let more = somewhere rest m later in record {
      k = suc more.k;
      i = length (part_in b).nodes + more.i;
      sits = (more.i, refl, more.sits);
    })
    (Contains-append_cases (part_in b).nodes (parts_of rest).nodes m there)

zero_differs : (k : ℕ) → zero ≢ suc k
zero_differs k is = cc

suc_differs : (k : ℕ) → suc k ≢ zero
suc_differs k is = cc

crossing : (bodies : Bodies) (p : Pair) → Contains (flows_between bodies) p → Crossing bodies p
crossing Last p there = absurd (contains_none p there)
crossing (Body weak c rest) p there =
    ⊎_elim
    (λ own.
    let met = across_is (part_in c).nodes (parts_of rest).nodes p own in
    let one = at_there (part_in c).nodes met.a met.in_first in
    let other = somewhere rest met.b met.in_second in
    ⊎_elim
    (λ forth. record {
      k = zero;
      j = suc other.k;
      differ = zero_differs other.k;
      i = one.position;
      x = length (part_in c).nodes + other.i;
      a = met.a;
      b = met.b;
      first = one.is;
      second = (other.i, refl, other.sits);
      so = met.so;
      touch = forth.1;
      is = forth.0;
    })
    (λ back. record {
      k = suc other.k;
      j = zero;
      differ = suc_differs other.k;
      i = length (part_in c).nodes + other.i;
      x = one.position;
      a = met.b;
      b = met.a;
      first = (other.i, refl, other.sits);
      second = one.is;
      so = together_back met.a.mark met.b.mark met.so;
      touch = back.1;
      is = back.0;
    })
    met.touch)
    (λ later.
    let more = crossing rest p later in
    record {
      k = suc more.k;
      j = suc more.j;
      differ = λ same. more.differ (same_suc more.k more.j same);
      i = length (part_in c).nodes + more.i;
      x = length (part_in c).nodes + more.x;
      a = more.a;
      b = more.b;
      first = (more.i, refl, more.first);
      second = (more.x, refl, more.second);
      so = more.so;
      touch = more.touch;
      is = more.is;
    })
    (Contains-append_cases (across (part_in c).nodes (parts_of rest).nodes) (flows_between rest) p there)

-- ---- edges by number

shift_there : (n : ℕ) (es : List Edge) (edge : Edge) → Contains es edge → Contains (map (shifted n) es) (shifted n edge)
shift_there n [] edge there = absurd (contains_none edge there)
shift_there n (e ∷ es) edge there =
    ⊎_elim (λ is. subst (λ x. Contains (shifted n e ∷ map (shifted n) es) (shifted n x)) is (contains_first (shifted n e) (map (shifted n) es)))
    (λ later. contains_further (shifted n e) (map (shifted n) es) (shifted n edge) (shift_there n es edge later))
    (first_or_further e es edge there)

record Unshifted (n : ℕ) (es : List Edge) (edge : Edge) : Type 0 where
  before : Edge
  is_there : Contains es before
  is : shifted n before ≡ edge

unshift : (n : ℕ) (es : List Edge) (edge : Edge) → Contains (map (shifted n) es) edge → Unshifted n es edge
unshift n [] edge there = absurd (contains_none edge there)
unshift n (e ∷ es) edge there =
    ⊎_elim (λ is. record { before = e; is_there = contains_first e es; is = is })
    (λ later. let more = unshift n es edge later in record { before = more.before; is_there = contains_further e es more.before more.is_there; is = more.is })
    (first_or_further (shifted n e) (map (shifted n) es) edge there)

pub crossed_adds : (naming : Naming) (bodies : Bodies) (n : ℕ) (flows : List Flow) (spans : List Span) (before after : List Edge)
    → flows ≡ map flow_of (parts_of bodies).nodes → spans ≡ spans_of 0 bodies → Names naming n (nodes_in_each bodies)
    → Crossed n flows spans before after → Adds true naming (flows_between bodies) before after
crossed_adds naming bodies n flows spans before after flows_is spans_is named crossed =
    let nodes : List Marked = (parts_of bodies).nodes in
    let adds : FlowsAdded (map flow_of nodes) (spans_of 0 bodies) [] crossed.found =
    subst (λ spans. FlowsAdded (map flow_of nodes) spans [] crossed.found) spans_is
    (subst (λ flows. FlowsAdded flows spans [] crossed.found) flows_is crossed.adds) in
    let found_is : crossed.found ≡ adds.added = adds.grows in
    record {
      added = map (shifted n) crossed.found;
      grows = crossed.grows;
      there = λ edge there.
          let moved = unshift n crossed.found edge there in
          let e : Edge = moved.before in
          let has : Contains adds.added e = subst (λ es. Contains es e) found_is moved.is_there in
          let kind : e.by_data ≡ true = All-contains (λ edge. edge.by_data ≡ true) adds.added e adds.kind has in
          let data_edge : e ≡ edge_between e.from e.to true = λ i. record { from = e.from; to = e.to; by_data = kind i } in
          let flow : FlowBetween (map flow_of nodes) (spans_of 0 bodies) e.from e.to = (adds.exact e.from e.to).0 (subst (Contains adds.added) data_edge has) in
          let one = placed bodies 0 flow.branch e.from flow.in_branch in
          let other = placed bodies 0 flow.other e.to flow.in_other in
          let from_is : e.from ≡ one.i = one.number ∙ zero-add one.i in
          let to_is : e.to ≡ other.i = other.number ∙ zero-add other.i in
          let a_is : flow.from ≡ flow_of one.m = same_flow flow.from (flow_of one.m)
          (sym flow.is_from ∙ ap (slice_get (map flow_of nodes)) from_is ∙ mapped_at nodes one.i one.m (sits_at bodies flow.branch one.i one.m one.sits)) in
          let b_is : flow.to ≡ flow_of other.m = same_flow flow.to (flow_of other.m)
          (sym flow.is_to ∙ ap (slice_get (map flow_of nodes)) to_is ∙ mapped_at nodes other.i other.m
          (sits_at bodies flow.other other.i other.m other.sits)) in
          let so : in_same_phase one.m.mark other.m.mark ≡ true =
          sym (λ i. in_same_phase (a_is i).mark (b_is i).mark) ∙ flow.together in
          let touch : meets (node_writes one.m.node) (node_reads other.m.node) ≡ true =
          sym (λ i. meets (a_is i).writes (b_is i).reads) ∙ flow.touches in
          record {
            pair = pair one.m.node other.m.node;
            is_there = across_sits bodies flow.branch flow.other one.i other.i one.m other.m flow.differ one.sits other.sits so touch;
            leads = record {
              first = sym (ap (λ edge. naming edge.from) moved.is)
                  ∙ named_each naming bodies n flow.branch one.i (n + e.from) one.m (ap (λ x. n + x) from_is) one.sits named;
              second = sym (ap (λ edge. naming edge.to) moved.is)
                  ∙ named_each naming bodies n flow.other other.i (n + e.to) other.m (ap (λ x. n + x) to_is) other.sits named;
              of_kind = sym (ap (λ edge. edge.by_data) moved.is) ∙ kind;
            };
          };
      back = λ p there.
          let cross = crossing bodies p there in
          let e : Edge = edge_between cross.i cross.x true in
          let flow : FlowBetween (map flow_of nodes) (spans_of 0 bodies) cross.i cross.x = record {
            from = flow_of cross.a;
            to = flow_of cross.b;
            is_from = mapped_at nodes cross.i cross.a (sits_at bodies cross.k cross.i cross.a cross.first);
            is_to = mapped_at nodes cross.x cross.b (sits_at bodies cross.j cross.x cross.b cross.second);
            branch = cross.k;
            other = cross.j;
            differ = cross.differ;
            in_branch = branch_of bodies 0 cross.k cross.i cross.i cross.a (sym (zero-add cross.i)) cross.first;
            in_other = branch_of bodies 0 cross.j cross.x cross.x cross.b (sym (zero-add cross.x)) cross.second;
            together = cross.so;
            touches = cross.touch;
          } in
          let has : Contains crossed.found e = subst (λ es. Contains es e) (sym found_is) ((adds.exact cross.i cross.x).1 flow) in
          record {
            edge = shifted n e;
            is_there = shift_there n crossed.found e has;
            leads = record {
              first = named_each naming bodies n cross.k cross.i (n + cross.i) cross.a refl cross.first named ∙ ap (λ p. Some p.from) (sym cross.is);
              second = named_each naming bodies n cross.j cross.x (n + cross.x) cross.b refl cross.second named ∙ ap (λ p. Some p.to) (sym cross.is);
              of_kind = refl;
            };
          };
    }

-- the data edges of branches, by whether they are between two of them
pub flows_apart : (bodies : Bodies) → Same (flows_within bodies ++ flows_between bodies) (flows_in_each bodies)
flows_apart Last = same_itself []
flows_apart (Body weak b rest) =
    let own : List Pair = flows_in b in
    let inner : List Pair = flows_within rest in
    let cross : List Pair = across (part_in b).nodes (parts_of rest).nodes in
    let outer : List Pair = flows_between rest in
    same_then ((own ++ inner) ++ (cross ++ outer)) (own ++ (cross ++ (inner ++ outer))) (own ++ (cross ++ flows_in_each rest))
    (same_then ((own ++ inner) ++ (cross ++ outer)) (own ++ (inner ++ (cross ++ outer))) (own ++ (cross ++ (inner ++ outer)))
    (same_is _ _ (append_assoc own inner (cross ++ outer)))
    (same_both own (inner ++ (cross ++ outer)) own (cross ++ (inner ++ outer)) (same_itself own)
    (same_then (inner ++ (cross ++ outer)) ((inner ++ cross) ++ outer) (cross ++ (inner ++ outer)) (same_is _ _ (sym (append_assoc inner cross outer)))
    (same_then ((inner ++ cross) ++ outer) ((cross ++ inner) ++ outer) (cross ++ (inner ++ outer))
    (same_both (inner ++ cross) outer (cross ++ inner) outer (same_swap inner cross) (same_itself outer))
    (same_is _ _ (append_assoc cross inner outer))))))
    (same_both own (cross ++ (inner ++ outer)) own (cross ++ flows_in_each rest) (same_itself own)
    (same_both cross (inner ++ outer) cross (flows_in_each rest) (same_itself cross) (flows_apart rest)))
