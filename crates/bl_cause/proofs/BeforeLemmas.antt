-- Numbers that show that no closed walk begins with a data edge at an earlier place, and a walk that does at this place.
use Rattle.std.proofs.Common.{◌≡◌, ℕ, ◌+◌, ◌<◌, ◌≤◌, Bool, true, false, not, ◌&&◌, take, get_or, List, [], ◌∷◌, ◌++◌, ⊎_elim, length, refl, sym, ap, subst, ◌∙◌, arith}
use Rattle.std.specs.Prelude.{All, Contains, nat_le, nat_lt, slice_index}
use Rattle.std.specs.List.{list_all}
use Rattle.std.proofs.lemmas.Bool.{and_parts, cases_lt, not-true}
use Rattle.std.proofs.lemmas.List.Elements.{All-contains, All-more, Contains-append_cases}
use Rattle.bl_tree.proofs.Basics.{at_most_from, contains_none, first_or_further, less_from, true_false_any}
use Rattle.bl_tree.specs.declared.graph.Edge.{Edge}
use Rattle.bl_tree.specs.declared.graph.Node.{Node}
use Rattle.bl_tree.specs.declared.place.Place.{Place}
use Rattle.bl_tree.specs.Graph.{JoinsNodes}
use Rattle.bl_tree.specs.Rules.{is_before}
use Rattle.bl_cause.specs.declared.numbers.Numbers.{Numbers}
use Rattle.bl_cause.specs.Fails.{BeginsWalk, IsFirst, place_at, places_of}
use Rattle.bl_cause.specs.Walks.{ClosedWalk}
use Rattle.bl_cause.specs.inner.Before.{Fits, NoneBefore}
use Rattle.bl_cause.specs.inner.Limits.{Rise}
use Rattle.bl_cause.specs.inner.Numbers.{NeverFall}
use Rattle.bl_cause.proofs.FirstLemmas.{no_later}
use Rattle.bl_cause.proofs.WalkLemmas.{walk_never_falls}

passes_all : {A : Type 0} (test : A → Bool) (xs : List A) → list_all test xs ≡ true → (x : A) → Contains xs x → test x ≡ true
passes_all test [] all x there = absurd (contains_none x there)
passes_all test (y ∷ xs) all x there =
    let both = and_parts (test y) (list_all test xs) all in
    ⊎_elim (λ (is : y ≡ x). sym (ap test is) ∙ both.0) (λ later. passes_all test xs both.1 x later) (first_or_further y xs x there)

module _ (nodes : List Node) (control by_data : List Edge) (at : Place) (numbers : Numbers) (joins : JoinsNodes nodes (control ++ by_data))
    (up : Rise control numbers.lows numbers.highs) (data_up : Rise by_data numbers.data_lows numbers.highs)
    (no_data : (edge : Edge) → Contains control edge → edge.by_data ≡ false)
    (fits : (k : ℕ) → k < length nodes → Fits (is_before (place_at nodes k) at) numbers k) where
  begins_within : (edge : Edge) → Contains (control ++ by_data) edge → edge.from < length nodes
  begins_within edge there =
      let both = and_parts (nat_lt edge.from (length nodes)) (nat_lt edge.to (length nodes))
      (passes_all (λ edge. nat_lt edge.from (length nodes) && nat_lt edge.to (length nodes)) (control ++ by_data) joins.ends edge there) in
      less_from edge.from (length nodes) both.0

  highs_keep : NeverFall (control ++ by_data) numbers.highs
  highs_keep edge there =
      let fit = fits edge.from (begins_within edge there) in
      ⊎_elim
      (λ (left : Contains control edge). keep (slice_index numbers.highs edge.from) (slice_index numbers.lows edge.from)
      (slice_index numbers.highs edge.to) fit.low (up edge left))
      (λ (right : Contains by_data edge). keep (slice_index numbers.highs edge.from) (slice_index numbers.data_lows edge.from)
      (slice_index numbers.highs edge.to) fit.data_low (data_up edge right))
      (Contains-append_cases control by_data edge there)
    where
      keep : (high low next : ℕ) → high ≤ low + 1 → low < next → high ≤ next
      keep high low next one two = omega (arith, one, two)

  pub none_before : NoneBefore nodes (control ++ by_data) at
  none_before edge rest kind walk =
      elim (is_before (place_at nodes edge.from) at) as (λ t. is_before (place_at nodes edge.from) at ≡ t → t ≡ false) [
        | true ↦ λ early.
            let fit = fits edge.from (begins_within edge walk.0) in
            let back = walk_never_falls (control ++ by_data) numbers.highs highs_keep edge.to edge.from rest walk.1 in
            absurd (⊎_elim
            (λ (left : Contains control edge). true_false_any edge.by_data kind (no_data edge left))
            (λ (right : Contains by_data edge). no_way (slice_index numbers.highs edge.from) (slice_index numbers.data_lows edge.from)
            (slice_index numbers.highs edge.to) (fit.early_low early) (data_up edge right) back)
            (Contains-append_cases control by_data edge walk.0))
        | false ↦ λ late. refl
      ] refl
    where
      no_way : (high low next : ℕ) → high ≤ low → low < next → next ≤ high → ⊥
      no_way high low next one two three = omega (arith, one, two, three)

-- ---- checks, one after another

pub control_more : (edges : List Edge) (i : ℕ) (d : Edge) (so_far : Bool) → i < length edges →
    (so_far ≡ true → All (λ (edge : Edge). edge.by_data ≡ false) (take i edges)) → (so_far && not (get_or edges i d).by_data) ≡ true →
    All (λ (edge : Edge). edge.by_data ≡ false) (take (i + 1) edges)
control_more edges i d so_far lt before is =
    let both = and_parts so_far (not (get_or edges i d).by_data) is in
    All-more (λ (edge : Edge). edge.by_data ≡ false) edges i d lt (before both.0) (not-true (get_or edges i d).by_data both.1)

pub control_all : (edges : List Edge) {front : List Edge} → front ≡ edges → All (λ (edge : Edge). edge.by_data ≡ false) front → (edge : Edge) →
    Contains edges edge → edge.by_data ≡ false
control_all edges is all edge there =
    All-contains (λ (edge : Edge). edge.by_data ≡ false) edges edge (subst (All (λ (edge : Edge). edge.by_data ≡ false)) is all) there

pub fits_more : (nodes : List Node) (at : Place) (numbers : Numbers) (i : ℕ) (place : Place) (so_far fit : Bool) → place ≡ place_at nodes i →
    (fit ≡ true → Fits (is_before place at) numbers i) →
    (so_far ≡ true → (k : ℕ) → k < i → Fits (is_before (place_at nodes k) at) numbers k) → (so_far && fit) ≡ true → (k : ℕ) → k < i + 1 →
    Fits (is_before (place_at nodes k) at) numbers k
fits_more nodes at numbers i place so_far fit here own before is k lt =
    let both = and_parts so_far fit is in
    ⊎_elim (λ (less : k < i). before both.0 k less)
    (λ (past : i ≤ k).
    let same : i ≡ k = omega (arith, lt, past) in
    subst (λ n. Fits (is_before (place_at nodes n) at) numbers n) same (subst (λ p. Fits (is_before p at) numbers i) here (own both.1)))
    (cases_lt k i)

pub early_fits : (numbers : Numbers) (node high low data_low : ℕ) (next early : Bool) → high ≡ slice_index numbers.highs node →
    low ≡ slice_index numbers.lows node → data_low ≡ slice_index numbers.data_lows node → (next ≡ true → high ≤ low + 1) →
    (next && nat_le high data_low) ≡ true → Fits early numbers node
early_fits numbers node high low data_low next early highs lows data_lows up is =
    let both = and_parts next (nat_le high data_low) is in
    let most = at_most_from high data_low both.1 in
    let first = up both.0 in
    record { low = omega (arith, first, highs, lows); data_low = omega (arith, most, highs, data_lows); early_low = λ so. omega (arith, most, highs, data_lows) }

pub late_fits : (numbers : Numbers) (node high low data_low : ℕ) (next data_next early : Bool) → high ≡ slice_index numbers.highs node →
    low ≡ slice_index numbers.lows node → data_low ≡ slice_index numbers.data_lows node → (next ≡ true → high ≤ low + 1) →
    (data_next ≡ true → high ≤ data_low + 1) → early ≡ false → (next && data_next) ≡ true → Fits early numbers node
late_fits numbers node high low data_low next data_next early highs lows data_lows up data_up late is =
    let both = and_parts next data_next is in
    let first = up both.0 in
    let second = data_up both.1 in
    record {
      low = omega (arith, first, highs, lows);
      data_low = omega (arith, second, highs, data_lows);
      early_low = λ so. absurd (no_true (sym so ∙ late));
    }
  where
    no_true : true ≡ false → ⊥
    no_true is = cc

-- a closed walk that begins with a data edge is the first where none begins earlier
pub first_of_walk : (nodes : List Node) (edges : List Edge) (edge : Edge) (rest : List Edge) (at : Place) → edge.by_data ≡ true →
    ClosedWalk edges (edge ∷ rest) → at ≡ place_at nodes edge.from → NoneBefore nodes edges at →
    IsFirst (BeginsWalk nodes edges true) at (places_of nodes rest)
first_of_walk nodes edges edge rest at kind walk here none = (
  record { edge = edge; rest = rest; kind = kind; closed = walk; at_place = here; further = refl },
  λ elsewhere further begins.
      no_later at elsewhere (ap (λ p. is_before p at) begins.at_place ∙ none begins.edge begins.rest begins.kind begins.closed),
)
