use Rattle.std.proofs.Common.{◌≡◌, ℕ, IfOk, List, ap, ap₂, ◌∙◌, subst, map}
use Rattle.bl_tree.specs.declared.tree.Stmt.{Stmt}
use Rattle.bl_tree.specs.Reduce.{joined}
use Rattle.bl_machine.specs.declared.slots.Slot.{Slot}
use Rattle.bl_graph_nodes.specs.Plain.{plain_body}
use Rattle.bl_machine_pass.specs.Numbered.{sizes_of}
use Rattle.bl_machine_transitions.specs.Listed.{layout_of, listed}
use Rattle.bl_machine_transitions.specs.Told.{NumberedTransition, rule_in}
use Rattle.bl_emit_spec.specs.Programs.{where_needed}
use Rattle.bl_emit.specs.Activities.{ActivityInput}
use Rattle.bl_emit.specs.Kept.{parts_in}
use Rattle.bl_emit.specs.Programs.{parts_told}
use Rattle.bl_emit.proofs.units.machine_parts.Goals as goal

pub returns : goal.returns
returns c =
    let one = c.args.one.now in
    let order_is : c.in_ok-order.order ≡ joined one.blocks = c.in_ok-order.ensures ∙ ap joined c.deref.ensures in
    let rules_are : map rule_in c.deref-7.result.now ≡ listed (layout_of (joined one.blocks) one.slots) (plain_body c.args.unit.now.body) =
    ap (map rule_in) c.deref-7.ensures
    ∙ (c.in_ok-rules.ensures
    ∙ (ap₂ (λ (order : List ℕ) (slots : List Slot). listed (layout_of order slots) (plain_body c.deref-2.result.now))
    (c.deref-3.ensures ∙ order_is)
    c.deref-4.ensures
    ∙ ap (λ (body : List Stmt). listed (layout_of (joined one.blocks) one.slots) (plain_body body)) c.deref-2.ensures)) in
    let sizes_are : c.deref-8.result.now ≡ sizes_of one.slots = c.deref-8.ensures ∙ (c.in_ok-sizes.ensures ∙ ap sizes_of c.deref-5.ensures) in
    let told : List (List ℕ) → List NumberedTransition → List ℕ → ActivityInput = λ blocks rules sizes. record {
      structs = c.args.structs.now;
      earlier = c.args.earlier.now;
      unit = c.args.unit.now;
      blocks = blocks;
      rules = rules;
      sizes = sizes;
      remember = c.args.remember.now;
    } in
    subst (λ (a : ActivityInput). IfOk c.activity_parts.result (λ made. parts_in made ≡ where_needed c.args.needed (parts_told a)))
    (ap₂ (λ (blocks : List (List ℕ)) (rules : List NumberedTransition). told blocks rules c.deref-8.result.now) c.deref-6.ensures rules_are
    ∙ ap (told one.blocks (listed (layout_of (joined one.blocks) one.slots) (plain_body c.args.unit.now.body))) sizes_are)
    c.activity_parts.ensures
