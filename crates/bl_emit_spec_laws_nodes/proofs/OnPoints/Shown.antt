-- The rules of an activity as the C of their blocks has them, and what ends its body.
use Rattle.std.proofs.Common.{◌≡◌, ℕ, Bool, true, false, List, [], Some, ap, sym, ◌∙◌, if◌then◌else◌}
use Rattle.std.specs.List.{list_any}
use Rattle.std.specs.Prelude.{is_some, slice_get}
use Rattle.bl_tree.specs.declared.tree.Unit.{Unit as UnitDef}
use Rattle.bl_tree.specs.Typing.{is_activity}
use Rattle.bl_ctree.specs.Instances.{Setting}
use Rattle.bl_machine_pass.specs.Transitions.{Change, Transition}
use Rattle.bl_emit_spec_laws.specs.Calls.Built.{Activities, unit_number}
use Rattle.bl_emit_spec_laws.specs.Calls.Laws.{HasShownRule}
use Rattle.bl_emit_spec_laws.specs.Registers.Laws.{ends_body}
use Rattle.bl_emit_spec_laws_nodes.specs.Points.Laws.{ReturnsEnd, is_return_node}

-- changes that are left out end no body
in_all : (last : Bool) (changes : List Change) → list_any ends_body (if last then changes else []) ≡ true → list_any ends_body changes ≡ true
in_all true changes ends = ends
in_all false changes ends = absurd (cc)

module _ (activities : Activities) (units : List UnitDef) (ends : ReturnsEnd units activities) (i : ℕ) (unit : UnitDef) (w : Setting) (rule : Transition)
    (there : HasShownRule w activities i unit rule) (is_there : slice_get units (unit_number w i) ≡ Some unit) (active : is_activity unit.kind ≡ true)
    (one : is_some unit.result ≡ true) where
  node_is : is_return_node there.rule.node ≡ true → is_return_node rule.node ≡ true
  node_is h = ap (λ (t : Transition). is_return_node t.node) there.is ∙ h

  -- only the rule of a `return` ends the body of an activity with a result
  pub ends_true : list_any ends_body rule.on_true ≡ true → is_return_node rule.node ≡ true
  ends_true h =
      node_is
      (ends.on_true (unit_number w i) unit there.rule is_there active one there.there
      (in_all there.last there.rule.on_true (ap (λ (t : Transition). list_any ends_body t.on_true) (sym there.is) ∙ h)))

  pub ends_false : list_any ends_body rule.on_false ≡ true → is_return_node rule.node ≡ true
  ends_false h =
      node_is
      (ends.on_false (unit_number w i) unit there.rule is_there active one there.there
      (in_all there.last there.rule.on_false (ap (λ (t : Transition). list_any ends_body t.on_false) (sym there.is) ∙ h)))
