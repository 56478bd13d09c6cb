-- What is made of an activity keeps what each activity of a machine does.
use Rattle.std.proofs.Common.{◌≡◌, ℕ, ◌+◌, ◌<◌, List, [], map, length, ap, sym, subst, ◌∙◌, arith}
use Rattle.std.specs.Prelude.{All, slice_index}
use Rattle.std.proofs.lemmas.List.Elements.{All-weaker}
use Rattle.bl_tree.specs.declared.tree.Stmt.{Stmt}
use Rattle.bl_tree.specs.Reduce.{greatest}
use Rattle.bl_graph_nodes.specs.Laws.{PlainStatements}
use Rattle.bl_graph_nodes.specs.Plain.{Block, plain_body}
use Rattle.bl_machine.specs.declared.slots.Slot.{Slot}
use Rattle.bl_machine.specs.Counters.{AllRestAt}
use Rattle.bl_machine.specs.Layout.{counters_in, width_in}
use Rattle.bl_machine.specs.Slots.{Counters, counters_at, numbered_slots}
use Rattle.bl_machine.specs.inner.Laid.{counters_from, laid, widths}
use Rattle.bl_machine.proofs.CounterLemmas.{Within, count_in, laid_rests, within_in}
use Rattle.bl_machine.proofs.Laying.{laid_counters, laid_width}
use Rattle.bl_machine.proofs.SlotLemmas.{counters_numbered, length_numbered}

-- the counters that are made of a body are below the number of them
pub laid_within : PlainStatements → (body : List Stmt) (width : ℕ) (counters : List ℕ) → width ≡ greatest (widths (map laid body)) →
    counters ≡ counters_from 0 (map laid body) → All (λ counter. counter < width) counters
laid_within laws body width counters wide are =
    let e : width ≡ width_in (plain_body body) = wide ∙ sym (laid_width laws body []) in
    let f : counters ≡ counters_in (plain_body body) 0 = are ∙ sym (laid_counters laws body [] 0) in
    subst (All (λ counter. counter < width)) (sym f)
    (All-weaker (Within 0 (0 + width_in (plain_body body))) (λ counter. counter < width) (below width (width_in (plain_body body)) e)
    (counters_in (plain_body body) 0) (within_in (plain_body body) 0))
  where
    below : (width wide : ℕ) → width ≡ wide → (counter : ℕ) → Within 0 (0 + wide) counter → counter < width
    below width wide e counter h = let lt = h.1 in omega arith

-- numbers of them keep what those of a body do
pub counters_keep : (body : Block) (slots : List Slot) → slots ≡ numbered_slots (counters_in body 0) → Counters body slots
counters_keep body slots is =
    let at : counters_at slots ≡ counters_in body 0 = ap counters_at is ∙ counters_numbered (counters_in body 0) in record {
      one_each = ap length is ∙ length_numbered (counters_in body 0) ∙ count_in body 0;
      rest = subst (λ counters. AllRestAt (slice_index counters) 0 0 body) (sym at) (laid_rests body 0);
      values = is ∙ ap numbered_slots (sym at);
    }

-- and those that are made are those of the plain body
pub slots_are : PlainStatements → (body : List Stmt) (counters : List ℕ) (slots : List Slot) → counters ≡ counters_from 0 (map laid body) →
    slots ≡ numbered_slots counters → slots ≡ numbered_slots (counters_in (plain_body body) 0)
slots_are laws body counters slots are is = is ∙ ap numbered_slots (are ∙ sym (laid_counters laws body [] 0))
