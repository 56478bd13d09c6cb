-- What is listed of a whole body.
use Rattle.std.proofs.Common.{◌≡◌, ℕ, List, [], length, map, get_or, nat_eq, ap, sym, ◌∙◌}
use Rattle.std.specs.Prelude.{slice_get, unwrap_or}
use Rattle.std.proofs.lemmas.Option.{unwrap_or-slice_get}
use Rattle.bl_tree.specs.declared.tree.Stmt.{Stmt}
use Rattle.bl_graph_nodes.specs.Laws.{PlainStatements}
use Rattle.bl_graph_nodes.specs.Plain.{plain_body}
use Rattle.bl_machine.specs.declared.slots.Slot.{Slot}
use Rattle.bl_machine_pass.specs.Numbered.{no_slot, position_where}
use Rattle.bl_machine_transitions.specs.declared.transition.Change.TheVariants.{Finish}
use Rattle.bl_machine_transitions.specs.Listed.{Layout, layout_of, listed}
use Rattle.bl_machine_transitions.specs.inner.Parts.{part, part_of_block}
use Rattle.bl_machine_transitions.proofs.Statements.{body_alike_in}

-- the numbers of a table
abbrev pub table : List ℕ → ℕ → List Slot → Layout
table ranks count slots = record { number = λ k. unwrap_or (slice_get ranks k) count; slot = λ p. unwrap_or (slice_get slots p) no_slot }

pub whole : PlainStatements → (body : List Stmt) (order ranks : List ℕ) (count : ℕ) (slots : List Slot) → count ≡ length order →
    ((k : ℕ) → get_or ranks k (length order) ≡ position_where (nat_eq k) order) →
    (part_of_block (map part body)).rules (table ranks count slots) 0 0 Finish ≡ listed (layout_of order slots) (plain_body body)
whole laws body order ranks count slots counts numbers =
    let same : (k : ℕ) → unwrap_or (slice_get ranks k) count ≡ position_where (nat_eq k) order =
    λ k. ap (λ count. unwrap_or (slice_get ranks k) count) counts ∙ unwrap_or-slice_get ranks k (length order) ∙ numbers k in
    sym ((body_alike_in laws body []).rules (table ranks count slots) 0 0 Finish)
    ∙ (λ i. listed (record { number = λ k. same k i; slot = λ p. unwrap_or (slice_get slots p) no_slot }) (plain_body body))
