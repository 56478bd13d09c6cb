-- A machine has no more counters for a body than the body has resting places.
use Rattle.std.proofs.Common.{◌≡◌, ℕ, suc, ◌+◌, ◌<◌, ◌≤◌, max, List, []}
use Rattle.std.proofs.Common.{◌∷◌, ◌++◌, map, length, refl, ap, ◌∙◌, subst, sym, arith}
use Rattle.bl_tree.specs.Reduce.{greatest}
use Rattle.bl_machine.specs.declared.slots.Slot.{Slot}
use Rattle.bl_machine.specs.Blocks.{up_to}
use Rattle.bl_machine.specs.Layout.{counters_in, counters_in_each, counters_of, places_in, places_in_each}
use Rattle.bl_machine.specs.Layout.{resting_places, width_in, width_in_each, width_of}
use Rattle.bl_machine.specs.Slots.{counters_at, numbered_slots, times}
use Rattle.bl_graph_nodes.specs.Plain.{Act, Again, Await, Block, Bodies, Body as BodyOf, Cobegin, Done, If, Last, Plain}
use Rattle.bl_graph_nodes.specs.Plain.{Repeat, Run as RunOf, Then, Until, When, While}
use Rattle.bl_machine_pass.specs.Numbered.{sizes_for, sizes_of}
use Rattle.bl_machine.proofs.SlotLemmas.{counters_after}
use Rattle.bl_emit_spec_laws_wellformed.proofs.OnClosed.Closed.{up_length}

-- ---- all are below a number

abbrev pub Below : ℕ → List ℕ → Type 0
Below n [] = Unit {0}
Below n (c ∷ counters) = (c < n) × Below n counters

pub more_below : (n m : ℕ) (counters : List ℕ) → n ≤ m → Below n counters → Below m counters
more_below n m [] le below = tt
more_below n m (c ∷ counters) le below = ((let lt = below.0 in omega (arith, lt, le)), more_below n m counters le below.1)

pub both_below : (n : ℕ) (xs ys : List ℕ) → Below n xs → Below n ys → Below n (xs ++ ys)
both_below n [] ys one two = two
both_below n (x ∷ xs) ys one two = (one.0, both_below n xs ys one.1 two)

pub left_le : (low a b : ℕ) → low + a ≤ low + max a b
left_le low a b = omega arith

pub right_le : (low a b : ℕ) → low + b ≤ low + max a b
right_le low a b = omega arith

mutual
  counters_below : (s : Plain) (low : ℕ) → Below (low + width_of s) (counters_of s low)
  counters_below (Act l s) low = tt
  counters_below (Await l at e) low = (omega arith, tt)
  counters_below (RunOf l at target a inputs outputs) low = (omega arith, tt)
  counters_below (If l at e body other) low =
      both_below (low + max (width_in body) (width_in other)) (counters_in body low) (counters_in other low)
      (more_below (low + width_in body) (low + max (width_in body) (width_in other)) (counters_in body low)
      (left_le low (width_in body) (width_in other)) (block_below body low))
      (more_below (low + width_in other) (low + max (width_in body) (width_in other)) (counters_in other low)
      (right_le low (width_in body) (width_in other)) (block_below other low))
  counters_below (Cobegin l at bodies) low = bodies_below bodies low
  counters_below (When l at guard e body) low = block_below body low
  counters_below (Repeat l at body) low = block_below body low
  counters_below (Until l at body e) low = block_below body low
  counters_below (While l at e body) low = block_below body low
  counters_below (Again l at body e) low = block_below body low

  block_below : (body : Block) (low : ℕ) → Below (low + width_in body) (counters_in body low)
  block_below Done low = tt
  block_below (Then s rest) low =
      both_below (low + max (width_of s) (width_in rest)) (counters_of s low) (counters_in rest low)
      (more_below (low + width_of s) (low + max (width_of s) (width_in rest)) (counters_of s low)
      (left_le low (width_of s) (width_in rest)) (counters_below s low))
      (more_below (low + width_in rest) (low + max (width_of s) (width_in rest)) (counters_in rest low)
      (right_le low (width_of s) (width_in rest)) (block_below rest low))

  bodies_below : (bodies : Bodies) (low : ℕ) → Below (low + width_in_each bodies) (counters_in_each bodies low)
  bodies_below Last low = tt
  bodies_below (BodyOf weak body rest) low = (
    first low (width_in body) (width_in_each rest),
    both_below (low + (max 1 (width_in body) + width_in_each rest)) (counters_in body low) (counters_in_each rest (low + max 1 (width_in body)))
        (more_below (low + width_in body) (low + (max 1 (width_in body) + width_in_each rest)) (counters_in body low)
        (inner low (width_in body) (width_in_each rest)) (block_below body low))
        (more_below ((low + max 1 (width_in body)) + width_in_each rest) (low + (max 1 (width_in body) + width_in_each rest))
        (counters_in_each rest (low + max 1 (width_in body))) (later low (max 1 (width_in body)) (width_in_each rest))
        (bodies_below rest (low + max 1 (width_in body)))),
  )
    where
      first : (low a b : ℕ) → low < low + (max 1 a + b)
      first low a b = omega arith

      inner : (low a b : ℕ) → low + a ≤ low + (max 1 a + b)
      inner low a b = omega arith

      later : (low a b : ℕ) → (low + a) + b ≤ low + (a + b)
      later low a b = omega arith

-- ---- no part takes more counters than it has resting places

either_less : (a b p q : ℕ) → a ≤ p → b ≤ q → max a b ≤ p + q
either_less a b p q one two = omega (arith, one, two)

branch_less : (a b p q : ℕ) → a ≤ p → b ≤ q → max 1 a + b ≤ suc p + q
branch_less a b p q one two = omega (arith, one, two)

mutual
  width_less : (s : Plain) → width_of s ≤ resting_places s
  width_less (Act l s) = omega arith
  width_less (Await l at e) = omega arith
  width_less (RunOf l at target a inputs outputs) = omega arith
  width_less (If l at e body other) =
      either_less (width_in body) (width_in other) (places_in body) (places_in other) (block_less body) (block_less other)
  width_less (Cobegin l at bodies) = bodies_less bodies
  width_less (When l at guard e body) = block_less body
  width_less (Repeat l at body) = block_less body
  width_less (Until l at body e) = block_less body
  width_less (While l at e body) = block_less body
  width_less (Again l at body e) = block_less body

  block_less : (body : Block) → width_in body ≤ places_in body
  block_less Done = omega arith
  block_less (Then s rest) = either_less (width_of s) (width_in rest) (resting_places s) (places_in rest) (width_less s) (block_less rest)

  bodies_less : (bodies : Bodies) → width_in_each bodies ≤ places_in_each bodies
  bodies_less Last = omega arith
  bodies_less (BodyOf weak body rest) =
      branch_less (width_in body) (width_in_each rest) (places_in body) (places_in_each rest) (block_less body) (bodies_less rest)

-- ---- how many counters there are

pub greatest_below : (n : ℕ) (counters : List ℕ) → 0 < n → Below n counters → greatest counters < n
greatest_below n [] some below = some
greatest_below n (c ∷ counters) some below = by c (greatest counters) below.0 (greatest_below n counters some below.1)
  where
    by : (a b : ℕ) → a < n → b < n → max a b < n
    by a b one two = omega (arith, one, two)

pub map_length : (f : ℕ → ℕ) (xs : List ℕ) → length (map f xs) ≡ length xs
map_length f [] = refl
map_length f (x ∷ xs) = ap suc (map_length f xs)

pub sizes_below : (n : ℕ) (counters : List ℕ) → Below n counters → length (sizes_for counters) ≤ n
sizes_below n [] below = omega arith
sizes_below n (c ∷ counters) below =
    let many : length (sizes_for (c ∷ counters)) ≡ suc (greatest (c ∷ counters)) =
    map_length (λ j. times j (c ∷ counters)) (up_to (suc (greatest (c ∷ counters)))) ∙ up_length (suc (greatest (c ∷ counters))) in
    let first : c < n = below.0 in
    let some : 0 < n = omega (arith, first) in
    let low : greatest (c ∷ counters) < n = greatest_below n (c ∷ counters) some below in omega (arith, many, low)

pub sizes_few : (body : Block) (slots : List Slot) → slots ≡ numbered_slots (counters_in body 0) → length (sizes_of slots) ≤ places_in body
sizes_few body slots is =
    let counters : counters_at slots ≡ counters_in body 0 = ap counters_at is ∙ counters_after [] (counters_in body 0) in
    let few : length (sizes_for (counters_in body 0)) ≤ width_in body =
    sizes_below (width_in body) (counters_in body 0)
    (more_below (0 + width_in body) (width_in body) (counters_in body 0) (nothing_plus (width_in body)) (block_below body 0)) in
    let less : width_in body ≤ places_in body = block_less body in
    subst (λ (list : List ℕ). length (sizes_for list) ≤ places_in body) (sym counters) (omega (arith, few, less))
  where
    nothing_plus : (n : ℕ) → 0 + n ≤ n
    nothing_plus n = omega arith
