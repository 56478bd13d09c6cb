-- Numbers that are lowered until they never fall along an edge.
use Rattle.std.proofs.Common.{◌≡◌, ℕ, ◌+◌, ◌*◌, ◌<◌, ◌≤◌, Bool, true, false, Some, List, [], ◌∷◌, ◌++◌, ◌⊎◌, inl, inr, ⊎_elim, length, get_or, set, refl, sym}
use Rattle.std.proofs.Common.{ap, subst, ◌∙◌, arith}
use Rattle.std.specs.Prelude.{All, Contains, nat_eq, nat_lt, slice_index, sum}
use Rattle.std.proofs.lemmas.Bool.{cases_eq}
use Rattle.std.proofs.lemmas.Bool.Decides.{nat_tests}
use Rattle.std.proofs.lemmas.List.{get_or-set_other, get_or-set_same, length-set, length_push}
use Rattle.std.proofs.lemmas.List.Elements.{All-head, All-pop, All-push, All-tail}
use Rattle.std.proofs.lemmas.List.Sums.{sum_by-set}
use Rattle.bl_tree.proofs.Basics.{contains_none, first_or_further}
use Rattle.bl_tree.specs.declared.graph.Edge.{Edge}
use Rattle.bl_cause.specs.inner.Lists.{In, Rows, RowsWithin, Within, edges_into}
use Rattle.bl_cause.specs.inner.Numbers.{FallBefore, Lowered, NeverFall, lowered, lowered_along, lowered_if}
use Rattle.bl_cause.proofs.RowLemmas.{row_within}
use Rattle.bl_cause.proofs.ListLemmas.{append_left, append_right, filter_keeps, in_append}

-- both ends of the edge are among so many nodes
abbrev Ends : ℕ → Edge → Type 0
Ends count edge = (edge.from < count) × (edge.to < count)

-- a number that is lowered makes no other greater
set_less : (numbers : List ℕ) (node number at : ℕ) → node < length numbers → number ≤ slice_index numbers node →
    slice_index (set numbers node number) at ≤ slice_index numbers at
set_less numbers node number at lt less =
    ⊎_elim
    (λ (is : at ≡ node).
    let e : get_or (set numbers node number) node 0 ≡ number = get_or-set_same numbers node number 0 lt in
    let f = ap (get_or (set numbers node number)) is in
    let g = ap (get_or numbers) is in
    subst (λ at. get_or (set numbers node number) at 0 ≤ get_or numbers at 0) (sym is) (omega (arith, e)))
    (λ (not : at ≡ node → ⊥). let e = get_or-set_other numbers node at number 0 not in omega (arith, e))
    (cases_eq at node)

-- the edges keep their order after a number was lowered, but for those that end there
lowered_one : (edges : List Edge) (numbers nodes : List ℕ) (left : List Edge) (node number : ℕ) → node < length numbers →
    number ≤ slice_index numbers node → FallBefore edges numbers nodes left → FallBefore edges (set numbers node number) (nodes ++ node ∷ []) left
lowered_one edges numbers nodes left node number lt less h edge there =
    ⊎_elim
    (λ (keep : slice_index numbers edge.from ≤ slice_index numbers edge.to).
    ⊎_elim
    (λ (is : edge.to ≡ node). inr (inl (append_right edge.to nodes (node ∷ []) (inl (sym is)))))
    (λ (not : edge.to ≡ node → ⊥).
    let e = get_or-set_other numbers node edge.to number 0 not in
    let f = set_less numbers node number edge.from lt less in
    inl (omega (arith, e, f, keep)))
    (cases_eq edge.to node))
    (λ (rest : In edge.to nodes ⊎ Contains left edge).
    ⊎_elim (λ (one : In edge.to nodes). inr (inl (append_left edge.to nodes (node ∷ []) one))) (λ (two : Contains left edge). inr (inr two)) rest)
    (h edge there)

-- an edge whose number at the beginning isn't greater needs no more care
pass_by : (edges : List Edge) (numbers nodes : List ℕ) (edge : Edge) (row : List Edge) → slice_index numbers edge.from ≤ slice_index numbers edge.to →
    FallBefore edges numbers nodes (edge ∷ row) → FallBefore edges numbers nodes row
pass_by edges numbers nodes edge row good h x there =
    ⊎_elim
    (λ (keep : slice_index numbers x.from ≤ slice_index numbers x.to). inl keep)
    (λ (rest : In x.to nodes ⊎ Contains (edge ∷ row) x).
    ⊎_elim
    (λ (one : In x.to nodes). inr (inl one))
    (λ (two : Contains (edge ∷ row) x).
    ⊎_elim
    (λ (is : edge ≡ x). inl (subst (λ it. slice_index numbers it.from ≤ slice_index numbers it.to) is good))
    (λ (later : Contains row x). inr (inr later))
    (first_or_further edge row x two))
    rest)
    (h x there)

fall_step : (edges : List Edge) (edge : Edge) (row : List Edge) (s : Lowered) → Ends (length s.numbers) edge →
    FallBefore edges s.numbers s.nodes (edge ∷ row) → FallBefore edges (lowered edge s).numbers (lowered edge s).nodes row
fall_step edges edge row s ends h =
    elim (nat_lt (slice_index s.numbers edge.to) (slice_index s.numbers edge.from)) as (λ b.
    nat_lt (slice_index s.numbers edge.to) (slice_index s.numbers edge.from) ≡ b →
    FallBefore edges (lowered_if b edge s).numbers (lowered_if b edge s).nodes row) [
      | true ↦ λ is.
          let less : slice_index s.numbers edge.to < slice_index s.numbers edge.from = grind (arith, nat_tests) in
          let value = slice_index s.numbers edge.to in
          let e : get_or (set s.numbers edge.from value) edge.from 0 ≡ value = get_or-set_same s.numbers edge.from value 0 ends.0 in
          let apart : edge.to ≡ edge.from → ⊥ = (λ same. let f = ap (slice_index s.numbers) same in omega (arith, less, f)) in
          let f = get_or-set_other s.numbers edge.from edge.to value 0 apart in
          pass_by edges (set s.numbers edge.from value) (s.nodes ++ edge.from ∷ []) edge row (omega (arith, e, f))
          (lowered_one edges s.numbers s.nodes (edge ∷ row) edge.from value ends.0 (omega (arith, less)) h)
      | false ↦ λ is.
          let good : slice_index s.numbers edge.from ≤ slice_index s.numbers edge.to = grind (arith, nat_tests) in
          pass_by edges s.numbers s.nodes edge row good h
    ] refl

length_if : (b : Bool) (edge : Edge) (s : Lowered) → length (lowered_if b edge s).numbers ≡ length s.numbers
length_if true edge s = length-set s.numbers edge.from (slice_index s.numbers edge.to)
length_if false edge s = refl

length_step : (edge : Edge) (s : Lowered) → length (lowered edge s).numbers ≡ length s.numbers
length_step edge s = length_if (nat_lt (slice_index s.numbers edge.to) (slice_index s.numbers edge.from)) edge s

nodes_if : (count : ℕ) (b : Bool) (edge : Edge) (s : Lowered) → Ends count edge → All (λ node. node < count) s.nodes →
    All (λ node. node < count) (lowered_if b edge s).nodes
nodes_if count true edge s ends all = All-push (λ node. node < count) s.nodes edge.from all ends.0
nodes_if count false edge s ends all = all

-- how much is left to do
abbrev pub weight : Lowered → ℕ
weight s = 2 * sum s.numbers + length s.nodes

weight_step : (edge : Edge) (s : Lowered) → Ends (length s.numbers) edge → weight (lowered edge s) ≤ weight s
weight_step edge s ends =
    elim (nat_lt (slice_index s.numbers edge.to) (slice_index s.numbers edge.from)) as (λ b.
    nat_lt (slice_index s.numbers edge.to) (slice_index s.numbers edge.from) ≡ b → weight (lowered_if b edge s) ≤ weight s) [
      | true ↦ λ is.
          let less : slice_index s.numbers edge.to < slice_index s.numbers edge.from = grind (arith, nat_tests) in
          let sums = sum_by-set (λ x. x) s.numbers edge.from (slice_index s.numbers edge.to) 0 ends.0 in
          let more = length_push s.nodes edge.from in
          omega (arith, less, sums, more)
      | false ↦ λ is. omega arith
    ] refl

-- ---- all edges of a row

pub length_along : (row : List Edge) (s : Lowered) → length (lowered_along row s).numbers ≡ length s.numbers
length_along [] s = refl
length_along (edge ∷ row) s = length_along row (lowered edge s) ∙ length_step edge s

ends_head : (count : ℕ) (edge : Edge) (row : List Edge) → Within count (edge ∷ row) → Ends count edge
ends_head count edge row h = All-head (Ends count) edge row h

pub ends_tail : (count : ℕ) (edge : Edge) (row : List Edge) → Within count (edge ∷ row) → Within count row
ends_tail count edge row h = All-tail (Ends count) edge row h

pub nodes_along : (count : ℕ) (row : List Edge) (s : Lowered) → Within count row → All (λ node. node < count) s.nodes →
    All (λ node. node < count) (lowered_along row s).nodes
nodes_along count [] s within all = all
nodes_along count (edge ∷ row) s within all =
    nodes_along count row (lowered edge s) (ends_tail count edge row within)
    (nodes_if count (nat_lt (slice_index s.numbers edge.to) (slice_index s.numbers edge.from)) edge s (ends_head count edge row within) all)

pub weight_along : (row : List Edge) (s : Lowered) → Within (length s.numbers) row → weight (lowered_along row s) ≤ weight s
weight_along [] s within = omega arith
weight_along (edge ∷ row) s within =
    let rest = weight_along row (lowered edge s)
    (subst (λ n. Within n row) (sym (length_step edge s)) (ends_tail (length s.numbers) edge row within)) in
    let this = weight_step edge s (ends_head (length s.numbers) edge row within) in
    omega (arith, rest, this)

pub fall_along : (edges row : List Edge) (s : Lowered) → Within (length s.numbers) row → FallBefore edges s.numbers s.nodes row →
    FallBefore edges (lowered_along row s).numbers (lowered_along row s).nodes []
fall_along edges [] s within h = h
fall_along edges (edge ∷ row) s within h =
    fall_along edges row (lowered edge s)
    (subst (λ n. Within n row) (sym (length_step edge s)) (ends_tail (length s.numbers) edge row within))
    (fall_step edges edge row s (ends_head (length s.numbers) edge row within) h)

-- ---- the nodes that were lowered, one after another

pub fall_taken : (edges : List Edge) (numbers nodes : List ℕ) (node : ℕ) → FallBefore edges numbers (nodes ++ node ∷ []) [] →
    FallBefore edges numbers nodes (edges_into edges node)
fall_taken edges numbers nodes node h edge there =
    ⊎_elim
    (λ (keep : slice_index numbers edge.from ≤ slice_index numbers edge.to). inl keep)
    (λ (rest : In edge.to (nodes ++ node ∷ []) ⊎ Contains [] edge).
    ⊎_elim
    (λ (one : In edge.to (nodes ++ node ∷ [])).
    ⊎_elim
    (λ (earlier : In edge.to nodes). inr (inl earlier))
    (λ (last : In edge.to (node ∷ [])).
    ⊎_elim
    (λ (is : node ≡ edge.to).
    let yes : nat_eq edge.to node ≡ true = grind (arith, nat_tests) in
    inr (inr (filter_keeps (λ it. nat_eq it.to node) edges edge there yes)))
    (λ (none : ⊥). absurd none) last)
    (in_append edge.to nodes (node ∷ []) one))
    (λ (two : Contains [] edge). absurd (contains_none edge two))
    rest)
    (h edge there)

pub fall_done : (edges : List Edge) (numbers : List ℕ) → FallBefore edges numbers [] [] → NeverFall edges numbers
fall_done edges numbers h edge there =
    ⊎_elim
    (λ (keep : slice_index numbers edge.from ≤ slice_index numbers edge.to). keep)
    (λ (rest : ⊥ ⊎ Contains [] edge). ⊎_elim (λ (none : ⊥). absurd none) (λ (two : Contains [] edge). absurd (contains_none edge two)) rest)
    (h edge there)

-- what is kept while nodes are left whose numbers were lowered
pub record Lowering (rows : List (List Edge)) (before : List ℕ) (s : Lowered) : Type 0 where
  pub length_stays : length s.numbers ≡ length before
  pub nodes : All (λ node. node < length before) s.nodes
  pub fall : (edges : List Edge) → Rows (edges_into edges) (length before) rows → NeverFall edges before → FallBefore edges s.numbers s.nodes []

pub lowering_next : (rows : List (List Edge)) (before numbers nodes rest : List ℕ) (node : ℕ) (row : List Edge) (next : Lowered) →
    RowsWithin (length before) rows → nodes ≡ rest ++ node ∷ [] → row ≡ get_or rows node [] → node < length before →
    next ≡ lowered_along row (record { numbers = numbers; nodes = rest }) →
    Lowering rows before (record { numbers = numbers; nodes = nodes }) → Lowering rows before next
lowering_next rows before numbers nodes rest node row next within popped is lt lowered h = subst (Lowering rows before) (sym lowered) (record {
  length_stays = length_along row (record { numbers = numbers; nodes = rest }) ∙ h.length_stays;
  nodes = nodes_along (length before) row (record { numbers = numbers; nodes = rest }) there
      (All-pop (λ node. node < length before) nodes rest (Some node) popped h.nodes).0;
  fall = λ edges all keep.
      fall_along edges row (record { numbers = numbers; nodes = rest }) (subst (λ n. Within n row) (sym h.length_stays) there)
      (subst (FallBefore edges numbers rest) (sym (is ∙ all.row node lt))
      (fall_taken edges numbers rest node (subst (λ it. FallBefore edges numbers it []) popped (h.fall edges all keep))));
})
  where
    there : Within (length before) row
    there = subst (Within (length before)) (sym is) (row_within (length before) rows node within lt)

pub lowering_less : (rows : List (List Edge)) (before numbers nodes rest : List ℕ) (node : ℕ) (row : List Edge) (next : Lowered) →
    RowsWithin (length before) rows → nodes ≡ rest ++ node ∷ [] → row ≡ get_or rows node [] → node < length before →
    length numbers ≡ length before →
    next ≡ lowered_along row (record { numbers = numbers; nodes = rest }) → weight next < weight (record { numbers = numbers; nodes = nodes })
lowering_less rows before numbers nodes rest node row next within popped is lt same lowered =
    let there : Within (length before) row = subst (Within (length before)) (sym is) (row_within (length before) rows node within lt) in
    let less = weight_along row (record { numbers = numbers; nodes = rest }) (subst (λ n. Within n row) (sym same) there) in
    let one = ap length popped ∙ length_push rest node in
    let e = ap weight lowered in
    omega (arith, less, one, e)

-- the node that is taken is one of the nodes
pub taken_within : (count : ℕ) (nodes rest : List ℕ) (node : ℕ) → nodes ≡ rest ++ node ∷ [] → All (λ node. node < count) nodes → node < count
taken_within count nodes rest node popped all = (All-pop (λ node. node < count) nodes rest (Some node) popped all).1
