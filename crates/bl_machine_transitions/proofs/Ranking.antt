-- Numbers of nodes from an order of them.
use Rattle.std.proofs.Common.{◌≡◌, ℕ, suc, ◌+◌, ◌-◌, ◌<◌, ◌≤◌, List}
use Rattle.std.proofs.Common.{length, drop, get_or, nat_eq, cond}
use Rattle.std.proofs.Common.{ap, sym, ◌∙◌, arith, drop_of_length-le, inl, inr, subst, zero-add, get_or-set_other, get_or-set_same}
use Rattle.std.proofs.Math.ListN.{replicate, set}
use Rattle.std.proofs.lemmas.Grind.{get_or_default_zero}
use Rattle.std.proofs.lemmas.List.{get_or-replicate, get_or_past, length-replicate, length-set}
use Rattle.std.proofs.lemmas.Bool.{cases_lt}
use Rattle.std.proofs.lemmas.Bool.Decides.{eqb_tells}
use Rattle.bl_tree.proofs.Basics.{drop_next, plus_none}
use Rattle.bl_machine_pass.specs.Numbered.{position_where}

one_more : (n m : ℕ) → n + 1 + m ≡ n + suc m
one_more n m = omega arith

-- the node at one position before has that as its number, and the others have theirs
pub ranks_next : (order ranks more : List ℕ) (at next node : ℕ) → at ≡ next + 1 → next < length order → node
    ≡ get_or order next node →
    node < length ranks → more ≡ set ranks node next →
    ((k : ℕ) → get_or ranks k (length order) ≡ at + position_where (nat_eq k) (drop at order)) →
    (k : ℕ) → get_or more k (length order) ≡ next + position_where (nat_eq k) (drop next order)
ranks_next order ranks more at next node step within is fits grows before k =
    ap (λ all. get_or all k (length order)) grows
    ∙ (elim (eqb_tells k node) [
      | inl (hit, same) ↦
          ap (λ k. get_or (set ranks node next) k (length order)) same ∙ get_or-set_same ranks node next (length order) fits ∙ plus_none next
          ∙ ap (λ b. next + cond b 0 (suc (position_where (nat_eq k) (drop (next + 1) order)))) (sym hit)
          ∙ ap (λ rest. next + position_where (nat_eq k) rest) (sym (drop_next order next node within is))
      | inr (not_so, other) ↦
          get_or-set_other ranks node k next (length order) other ∙ before k
          ∙ ap (λ at. at + position_where (nat_eq k) (drop at order)) step
          ∙ one_more next (position_where (nat_eq k) (drop (next + 1) order))
          ∙ ap (λ b. next + cond b 0 (suc (position_where (nat_eq k) (drop (next + 1) order)))) (sym not_so)
          ∙ ap (λ rest. next + position_where (nat_eq k) rest) (sym (drop_next order next node within is))
    ])

pub ranks_end : (order ranks : List ℕ) (count step : ℕ) → count ≡ length order → count ≤ step →
    ((k : ℕ) → get_or ranks k (length order) ≡ count - step + position_where (nat_eq k) (drop (count - step) order)) →
    (k : ℕ) → get_or ranks k (length order) ≡ position_where (nat_eq k) order
ranks_end order ranks count step counts over before k =
    let none : count - step ≡ 0 = omega arith in
    before k ∙ ap (λ at. at + position_where (nat_eq k) (drop at order)) none ∙ zero-add (position_where (nat_eq k) order)

flat : (n k d : ℕ) → get_or (replicate n d) k d ≡ d
flat n k d = elim (cases_lt k n) [
  | inl inside ↦ get_or-replicate n k d d inside
  | inr outside ↦ (let over : length (replicate n d) ≤ k = subst (λ m. m ≤ k) (sym (length-replicate n d)) outside in get_or_past
      (replicate n d) k d over)
]

pub ranks_start : (order ranks : List ℕ) (count many : ℕ) → count ≡ length order → many ≡ length order → ranks
    ≡ replicate many count →
    (length ranks ≡ length order)
    × ((k : ℕ) → get_or ranks k (length order) ≡ count - 0 + position_where (nat_eq k) (drop (count - 0) order))
ranks_start order ranks count many counts all fills = (
  ap length fills ∙ length-replicate many count ∙ all,
  λ k.
      let whole : length order ≤ count - 0 = omega arith in
      let none : length order ≡ count - 0 + 0 = omega arith in
      ap (λ ranks. get_or ranks k (length order)) (fills ∙ (λ i. replicate (all i) (counts i))) ∙ flat (length order) k (length order) ∙ none
      ∙ ap (λ rest. count - 0 + position_where (nat_eq k) rest) (sym (drop_of_length-le order whole)),
)

pub ranks_step : (order ranks : List ℕ) (count step node : ℕ) → count ≡ length order → step < count → node
    ≡ get_or order (count - 1 - step) 0 →
    node < length ranks →
    (length ranks ≡ length order)
    × ((k : ℕ) → get_or ranks k (length order) ≡ count - step + position_where (nat_eq k) (drop (count - step) order)) →
    (length (set ranks node (count - 1 - step)) ≡ length order)
    × ((k : ℕ) → get_or (set ranks node (count - 1 - step)) k (length order)
    ≡ count - (step + 1) + position_where (nat_eq k) (drop (count - (step + 1)) order))
ranks_step order ranks count step node counts within is fits before =
    let same : count - 1 - step ≡ count - (step + 1) = omega arith in
    let one : count - step ≡ count - (step + 1) + 1 = omega arith in
    let inside : count - (step + 1) < length order = omega arith in
    let reads : node ≡ get_or order (count - (step + 1)) 0 = is ∙ ap (λ k. get_or order k 0) same in (
      length-set ranks node (count - 1 - step) ∙ before.0,
      ranks_next order ranks (set ranks node (count - 1 - step)) (count - step) (count - (step + 1)) node one inside
          (reads ∙ sym (get_or_default_zero order (count - (step + 1)) node inside)) fits (ap (set ranks node) same) before.1,
    )
