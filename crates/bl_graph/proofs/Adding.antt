-- The edges that are found in surfaces and in depths, forwards and backwards, are the data edges.
use Rattle.std.proofs.Common.{◌≡◌, ℕ, ◌-◌, ◌<◌, ◌≤◌, Bool, true, false, ◌&&◌, ◌⊎◌, inl, inr, List, [], ◌∷◌, ◌++◌, length, reverse, Some, sym, ap, subst, ◌∙◌}
use Rattle.std.proofs.Common.{arith, get_or, refl}
use Rattle.std.specs.Prelude.{Contains}
use Rattle.std.proofs.lemmas.Bool.{cases_lt}
use Rattle.std.proofs.lemmas.List.{get_or-reverse, length-reverse, reverse-reverse}
use Rattle.std.proofs.lemmas.List.Elements.{Contains-append_cases, Contains-append_left, Contains-append_right, Contains-get_or}
use Rattle.std.proofs.lemmas.Option.{get_or_from_slice_get, slice_get-get_or, slice_get_within}
use Rattle.std.proofs.lemmas.Bool.{and_from, and_parts, or_left, or_right}
use Rattle.bl_tree.proofs.Basics.{contains_none, contains_one, either_of}
use Rattle.bl_tree.specs.declared.graph.Edge.{Edge}
use Rattle.bl_graph.specs.declared.flow.Flow.{Flow}
use Rattle.bl_graph.specs.declared.flow.Mark.{Mark}
use Rattle.bl_graph.specs.declared.flow.Span.{Span}
use Rattle.bl_graph.specs.Graph.{edge_between}
use Rattle.bl_graph.specs.inner.Flows.{FlowBetween, FlowsAdded, InBranch, InOrder, are_together}
use Rattle.bl_graph.specs.declared.accesses.Access.{Access}
use Rattle.bl_graph.specs.Accesses.{flows}
use Rattle.bl_graph.specs.inner.Found.{EndBy, is_reached, swept}
use Rattle.bl_graph.specs.inner.Gains.{Gains}
use Rattle.bl_graph.proofs.AccessLemmas.{gains_then}
use Rattle.bl_graph.proofs.Sweeping.{Sweep, swept_from, swept_to}

-- ---- branches backwards

-- the position counted from the end
abbrev back : List Span → ℕ → ℕ
back branches at = length branches - 1 - at

turned : (branches : List Span) (at i : ℕ) → InBranch (reverse branches) at i → InBranch branches (back branches at) i
turned branches at i within =
    let lt : at < length branches = subst (λ n. at < n) (length-reverse branches) (slice_get_within (reverse branches) at within.span within.is_there) in
    let is : get_or branches (back branches at) within.span ≡ within.span =
    sym (get_or-reverse branches at within.span lt) ∙ get_or_from_slice_get (reverse branches) at within.span within.span within.is_there in
    record {
      span = within.span;
      is_there = slice_get-get_or branches (back branches at) within.span (less (length branches) at lt) ∙ ap Some is;
      begins = within.begins;
      ends = within.ends;
    }
  where
    less : (n at : ℕ) → at < n → n - 1 - at < n
    less n at lt = omega arith

turned_back : (branches : List Span) (at i : ℕ) → InBranch branches at i → InBranch (reverse branches) (back branches at) i
turned_back branches at i within =
    subst (λ n. InBranch (reverse branches) (n - 1 - at) i) (length-reverse branches)
    (turned (reverse branches) at i (subst (λ bs. InBranch bs at i) (sym (reverse-reverse branches)) within))

place_below : (branches : List Span) (at i : ℕ) → InBranch branches at i → at < length branches
place_below branches at i within = slice_get_within branches at within.span within.is_there

-- ---- marks

both_reached : (deep : Bool) (a b : Mark) → is_reached deep a ≡ true → is_reached deep b ≡ true → are_together a b ≡ true
both_reached false a b one two = or_left (a.surface && b.surface) (a.depth && b.depth) (and_from a.surface b.surface one two)
both_reached true a b one two = or_right (a.surface && b.surface) (a.depth && b.depth) (and_from a.depth b.depth one two)

reached_both : (a b : Mark) → are_together a b ≡ true → (deep : Bool) × (is_reached deep a ≡ true) × (is_reached deep b ≡ true)
reached_both a b is = elim (either_of (a.surface && b.surface) (a.depth && b.depth) is) [
  | inl one ↦ let both = and_parts a.surface b.surface one in (false, both.0, both.1)
  | inr two ↦ let both = and_parts a.depth b.depth two in (true, both.0, both.1)
]

-- ---- both ways

forward : (nodes : List Flow) (deep : Bool) (branches : List Span) (i j : ℕ) → Sweep nodes deep branches i j → FlowBetween nodes branches i j
forward nodes deep branches i j s = record {
  from = s.from;
  to = s.to;
  is_from = s.is_from;
  is_to = s.is_to;
  branch = s.branch;
  other = s.other;
  differ = lt_differ s.branch s.other s.earlier;
  in_branch = s.in_branch;
  in_other = s.in_other;
  together = both_reached deep s.from.mark s.to.mark s.from_reached s.to_reached;
  touches = s.touches;
}
  where
    lt_differ : (m n : ℕ) → m < n → m ≡ n → ⊥
    lt_differ m n lt is = omega arith

backward : (nodes : List Flow) (deep : Bool) (branches : List Span) (i j : ℕ) → Sweep nodes deep (reverse branches) i j → FlowBetween nodes branches i j
backward nodes deep branches i j s = record {
  from = s.from;
  to = s.to;
  is_from = s.is_from;
  is_to = s.is_to;
  branch = back branches s.branch;
  other = back branches s.other;
  differ = back_differ (length branches) s.branch s.other s.earlier
      (subst (λ n. s.other < n) (length-reverse branches) (place_below (reverse branches) s.other j s.in_other));
  in_branch = turned branches s.branch i s.in_branch;
  in_other = turned branches s.other j s.in_other;
  together = both_reached deep s.from.mark s.to.mark s.from_reached s.to_reached;
  touches = s.touches;
}
  where
    back_differ : (n a b : ℕ) → a < b → b < n → n - 1 - a ≡ n - 1 - b → ⊥
    back_differ n a b lt below is = omega arith

-- one way or the other
either_way : (nodes : List Flow) (branches : List Span) (i j : ℕ) → FlowBetween nodes branches i j →
    (deep : Bool) × (Sweep nodes deep branches i j ⊎ Sweep nodes deep (reverse branches) i j)
either_way nodes branches i j f =
    let r = reached_both f.from.mark f.to.mark f.together in (
      r.0,
      elim (cases_lt f.branch f.other) [
        | inl lt ↦ inl (record {
          from = f.from;
          to = f.to;
          is_from = f.is_from;
          is_to = f.is_to;
          branch = f.branch;
          other = f.other;
          earlier = lt;
          in_branch = f.in_branch;
          in_other = f.in_other;
          from_reached = r.1;
          to_reached = r.2;
          touches = f.touches;
        })
        | inr le ↦ inr (record {
          from = f.from;
          to = f.to;
          is_from = f.is_from;
          is_to = f.is_to;
          branch = back branches f.branch;
          other = back branches f.other;
          earlier = back_less (length branches) f.branch f.other le f.differ (place_below branches f.branch i f.in_branch);
          in_branch = turned_back branches f.branch i f.in_branch;
          in_other = turned_back branches f.other j f.in_other;
          from_reached = r.1;
          to_reached = r.2;
          touches = f.touches;
        })
      ],
    )
  where
    back_less : (n a b : ℕ) → b ≤ a → (a ≡ b → ⊥) → a < n → n - 1 - a < n - 1 - b
    back_less n a b le other below = omega arith

-- ---- all edges

-- in surfaces and in depths, forwards and backwards
abbrev all_swept : List Flow → List Span → List Edge
all_swept nodes branches =
    ((swept nodes false branches (length branches) ++ swept nodes false (reverse branches) (length (reverse branches)))
    ++ swept nodes true branches (length branches)) ++ swept nodes true (reverse branches) (length (reverse branches))

-- the edge is between these nodes
record Flowing (nodes : List Flow) (branches : List Span) (edge : Edge) : Type 0 where
  i : ℕ
  j : ℕ
  is : edge ≡ edge_between i j true
  flow : FlowBetween nodes branches i j

one_way : (nodes : List Flow) (deep : Bool) (branches : List Span) (edge : Edge) → Contains (swept nodes deep branches (length branches)) edge →
    Flowing nodes branches edge
one_way nodes deep branches edge there =
    let s = swept_from nodes deep branches edge there in record { i = s.0; j = s.1; is = s.2; flow = forward nodes deep branches s.0 s.1 s.3 }

other_way : (nodes : List Flow) (deep : Bool) (branches : List Span) (edge : Edge) →
    Contains (swept nodes deep (reverse branches) (length (reverse branches))) edge → Flowing nodes branches edge
other_way nodes deep branches edge there =
    let s = swept_from nodes deep (reverse branches) edge there in
    record { i = s.0; j = s.1; is = s.2; flow = backward nodes deep branches s.0 s.1 s.3 }

all_from : (nodes : List Flow) (branches : List Span) (edge : Edge) → Contains (all_swept nodes branches) edge → Flowing nodes branches edge
all_from nodes branches edge there =
    let a = swept nodes false branches (length branches) in
    let b = swept nodes false (reverse branches) (length (reverse branches)) in
    let c = swept nodes true branches (length branches) in
    let d = swept nodes true (reverse branches) (length (reverse branches)) in
    elim (Contains-append_cases ((a ++ b) ++ c) d edge there) [
      | inl front ↦ elim (Contains-append_cases (a ++ b) c edge front) [
        | inl first ↦ elim (Contains-append_cases a b edge first) [
          | inl one ↦ one_way nodes false branches edge one
          | inr two ↦ other_way nodes false branches edge two
        ]
        | inr three ↦ one_way nodes true branches edge three
      ]
      | inr four ↦ other_way nodes true branches edge four
    ]

all_to : (nodes : List Flow) (branches : List Span) (i j : ℕ) (deep : Bool) → Sweep nodes deep branches i j ⊎ Sweep nodes deep (reverse branches) i j →
    Contains (all_swept nodes branches) (edge_between i j true)
all_to nodes branches i j false (inl s) =
    let a = swept nodes false branches (length branches) in
    let b = swept nodes false (reverse branches) (length (reverse branches)) in
    let c = swept nodes true branches (length branches) in
    let d = swept nodes true (reverse branches) (length (reverse branches)) in
    let edge = edge_between i j true in
    Contains-append_left ((a ++ b) ++ c) d edge (Contains-append_left (a ++ b) c edge (Contains-append_left a b edge (swept_to nodes false branches i j s)))
all_to nodes branches i j false (inr s) =
    let a = swept nodes false branches (length branches) in
    let b = swept nodes false (reverse branches) (length (reverse branches)) in
    let c = swept nodes true branches (length branches) in
    let d = swept nodes true (reverse branches) (length (reverse branches)) in
    let edge = edge_between i j true in
    Contains-append_left ((a ++ b) ++ c) d edge
    (Contains-append_left (a ++ b) c edge (Contains-append_right a b edge (swept_to nodes false (reverse branches) i j s)))
all_to nodes branches i j true (inl s) =
    let a = swept nodes false branches (length branches) in
    let b = swept nodes false (reverse branches) (length (reverse branches)) in
    let c = swept nodes true branches (length branches) in
    let d = swept nodes true (reverse branches) (length (reverse branches)) in
    let edge = edge_between i j true in
    Contains-append_left ((a ++ b) ++ c) d edge (Contains-append_right (a ++ b) c edge (swept_to nodes true branches i j s))
all_to nodes branches i j true (inr s) =
    let a = swept nodes false branches (length branches) in
    let b = swept nodes false (reverse branches) (length (reverse branches)) in
    let c = swept nodes true branches (length branches) in
    let d = swept nodes true (reverse branches) (length (reverse branches)) in
    let edge = edge_between i j true in
    Contains-append_right ((a ++ b) ++ c) d edge (swept_to nodes true (reverse branches) i j s)

-- between these numbers
at_numbers : (nodes : List Flow) (branches : List Span) (i j : ℕ) → Flowing nodes branches (edge_between i j true) → FlowBetween nodes branches i j
at_numbers nodes branches i j f =
    subst (λ n. FlowBetween nodes branches n j) (sym (ap (λ e. e.from) f.is))
    (subst (λ n. FlowBetween nodes branches f.i n) (sym (ap (λ e. e.to) f.is)) f.flow)

-- what was found in four sweeps is what is to be found
pub flows_added : (nodes : List Flow) (branches : List Span) (none one two three four : List Access) (once again : List Span) →
    once ≡ reverse branches → again ≡ reverse branches → none ≡ [] →
    Gains none one (swept nodes false branches (length branches)) → Gains one two (swept nodes false once (length once)) →
    Gains two three (swept nodes true branches (length branches)) → Gains three four (swept nodes true again (length again)) →
    FlowsAdded nodes branches [] (flows four)
flows_added nodes branches none one two three four once again is_once is_again empty first second third fourth =
    let a = swept nodes false branches (length branches) in
    let b = swept nodes false (reverse branches) (length (reverse branches)) in
    let c = swept nodes true branches (length branches) in
    let d = swept nodes true (reverse branches) (length (reverse branches)) in
    let second' = subst (λ bs. Gains one two (swept nodes false bs (length bs))) is_once second in
    let fourth' = subst (λ bs. Gains three four (swept nodes true bs (length bs))) is_again fourth in
    let gains = gains_then none three four ((a ++ b) ++ c) d (gains_then none two three (a ++ b) c (gains_then none one two a b first second') third) fourth' in
    let same : flows four ≡ all_swept nodes branches = gains.grows ∙ ap (λ xs. flows xs ++ all_swept nodes branches) empty in
    let from : (edge : Edge) → Contains (flows four) edge → Flowing nodes branches edge =
    λ edge there. all_from nodes branches edge (subst (λ es. Contains es edge) same there) in
    record {
      added = flows four;
      grows = refl;
      kind = λ k e lt. by_data (get_or (flows four) k e) (from (get_or (flows four) k e) (Contains-get_or (flows four) k e lt));
      exact = λ i j. (
        λ there. at_numbers nodes branches i j (from (edge_between i j true) there),
        λ flow. let way = either_way nodes branches i j flow in
            subst (λ es. Contains es (edge_between i j true)) (sym same) (all_to nodes branches i j way.0 way.1),
      );
    }
  where
    by_data : (edge : Edge) → Flowing nodes branches edge → edge.by_data ≡ true
    by_data edge f = ap (λ e. e.by_data) f.is

-- ---- branches in order

ends_all : (branches : List Span) (from last : ℕ) → InOrder from branches last →
    (span : Span) → Contains branches span → (span.first ≤ span.end) × (span.end ≤ last)
ends_all [] from last order span there = absurd (contains_none span there)
ends_all (b ∷ rest) from last order span there = elim (Contains-append_cases (b ∷ []) rest span there) [
  | inl here ↦ subst (λ s. (s.first ≤ s.end) × (s.end ≤ last)) (contains_one b span here) (order.1, first_ends rest b.end last order.2)
  | inr more ↦ ends_all rest b.end last order.2 span more
]
  where
    trans : (m n k l : ℕ) → m ≤ n → n ≤ k → k ≤ l → m ≤ l
    trans m n k l one two three = omega arith

    first_ends : (rest : List Span) (from last : ℕ) → InOrder from rest last → from ≤ last
    first_ends [] from last order = order
    first_ends (b ∷ rest) from last order = trans from b.first b.end last order.0 order.1 (first_ends rest b.end last order.2)

pub ends_in_order : (branches : List Span) (last : ℕ) → InOrder 0 branches last → EndBy branches last
ends_in_order branches last order = ends_all branches 0 last order

pub ends_turned : (branches back : List Span) (last : ℕ) → back ≡ reverse branches → EndBy branches last → EndBy back last
ends_turned branches turned last is by span there = by span (from_turned (subst (λ bs. Contains bs span) is there))
  where
    below : (k : ℕ) → k < length (reverse branches) → k < length branches
    below k lt = subst (λ n. k < n) (length-reverse branches) lt

    less : (n k : ℕ) → k < n → n - 1 - k < n
    less n k lt = omega arith

    from_turned : Contains (reverse branches) span → Contains branches span
    from_turned there =
        subst (Contains branches) (sym (get_or-reverse branches there.0 span (below there.0 there.1)) ∙ there.2)
        (Contains-get_or branches (length branches - 1 - there.0) span (less (length branches) there.0 (below there.0 there.1)))
