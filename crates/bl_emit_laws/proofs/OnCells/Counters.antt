-- A machine has no more counters for a body than the body takes.
use Rattle.std.proofs.Common.{◌≡◌, ℕ, ◌+◌, ◌<◌, ◌≤◌, max, List, []}
use Rattle.std.proofs.Common.{length, ap, ◌∙◌, subst, sym, arith}
use Rattle.bl_machine.specs.declared.slots.Slot.{Slot}
use Rattle.bl_machine.specs.Layout.{counters_in, counters_in_each, counters_of, width_in, width_in_each, width_of}
use Rattle.bl_machine.specs.Slots.{counters_at, numbered_slots}
use Rattle.bl_graph_nodes.specs.Plain.{Act, Again, Await, Block, Bodies, Body as BodyOf, Cobegin, Done, If, Last, Plain}
use Rattle.bl_graph_nodes.specs.Plain.{Repeat, Run as RunOf, Then, Until, When, While}
use Rattle.bl_machine_pass.specs.Numbered.{sizes_for, sizes_of}
use Rattle.bl_machine.proofs.SlotLemmas.{counters_after}
use Rattle.bl_emit_spec_laws_wellformed.proofs.OnMachines.Counters.{left_le, right_le, Below, sizes_below, more_below, both_below}

-- ---- all are below a number

mutual
  counters_below : (s : Plain) (low : ℕ) → Below (low + width_of s) (counters_of s low)
  counters_below (Act l s) low = tt
  counters_below (Await l at e) low = (omega arith, tt)
  counters_below (RunOf l at target a inputs outputs) low = (omega arith, tt)
  counters_below (If l at e body other) low =
      both_below (low + max (width_in body) (width_in other)) (counters_in body low) (counters_in other low)
      (more_below (low + width_in body) (low + max (width_in body) (width_in other)) (counters_in body low)
      (left_le low (width_in body) (width_in other)) (block_below body low))
      (more_below (low + width_in other) (low + max (width_in body) (width_in other)) (counters_in other low)
      (right_le low (width_in body) (width_in other)) (block_below other low))
  counters_below (Cobegin l at bodies) low = bodies_below bodies low
  counters_below (When l at guard e body) low = block_below body low
  counters_below (Repeat l at body) low = block_below body low
  counters_below (Until l at body e) low = block_below body low
  counters_below (While l at e body) low = block_below body low
  counters_below (Again l at body e) low = block_below body low

  block_below : (body : Block) (low : ℕ) → Below (low + width_in body) (counters_in body low)
  block_below Done low = tt
  block_below (Then s rest) low =
      both_below (low + max (width_of s) (width_in rest)) (counters_of s low) (counters_in rest low)
      (more_below (low + width_of s) (low + max (width_of s) (width_in rest)) (counters_of s low)
      (left_le low (width_of s) (width_in rest)) (counters_below s low))
      (more_below (low + width_in rest) (low + max (width_of s) (width_in rest)) (counters_in rest low)
      (right_le low (width_of s) (width_in rest)) (block_below rest low))

  bodies_below : (bodies : Bodies) (low : ℕ) → Below (low + width_in_each bodies) (counters_in_each bodies low)
  bodies_below Last low = tt
  bodies_below (BodyOf weak body rest) low = (
    first low (width_in body) (width_in_each rest),
    both_below (low + (max 1 (width_in body) + width_in_each rest)) (counters_in body low) (counters_in_each rest (low + max 1 (width_in body)))
        (more_below (low + width_in body) (low + (max 1 (width_in body) + width_in_each rest)) (counters_in body low)
        (inner low (width_in body) (width_in_each rest)) (block_below body low))
        (more_below ((low + max 1 (width_in body)) + width_in_each rest) (low + (max 1 (width_in body) + width_in_each rest))
        (counters_in_each rest (low + max 1 (width_in body))) (later low (max 1 (width_in body)) (width_in_each rest))
        (bodies_below rest (low + max 1 (width_in body)))),
  )
    where
      first : (low a b : ℕ) → low < low + (max 1 a + b)
      first low a b = omega arith

      inner : (low a b : ℕ) → low + a ≤ low + (max 1 a + b)
      inner low a b = omega arith

      later : (low a b : ℕ) → (low + a) + b ≤ low + (a + b)
      later low a b = omega arith

-- ---- how many counters there are

pub sizes_few : (body : Block) (slots : List Slot) → slots ≡ numbered_slots (counters_in body 0) → length (sizes_of slots) ≤ width_in body
sizes_few body slots is =
    let counters : counters_at slots ≡ counters_in body 0 = ap counters_at is ∙ counters_after [] (counters_in body 0) in
    let few : length (sizes_for (counters_in body 0)) ≤ width_in body =
    sizes_below (width_in body) (counters_in body 0)
    (more_below (0 + width_in body) (width_in body) (counters_in body 0) (nothing_plus (width_in body)) (block_below body 0)) in
    subst (λ (list : List ℕ). length (sizes_for list) ≤ width_in body) (sym counters) few
  where
    nothing_plus : (n : ℕ) → 0 + n ≤ n
    nothing_plus n = omega arith
