-- What stands at a position of a list of rules.
use Rattle.std.proofs.Common.{◌≡◌, ℕ, Option, List, [], ◌∷◌, map, refl, ap, sym, ◌∙◌, slice_get}
use Rattle.std.proofs.lemmas.Option.{slice_get-map}
use Rattle.std.specs.Prelude.{option_map}
use Rattle.bl_tree.specs.declared.text.Text.{Text}
use Rattle.bl_emit_spec.specs.Blocks.{ActivityView}
use Rattle.bl_machine_transitions.specs.Told.{NumberedTransition, rule_in}
use Rattle.bl_machine_transitions.specs.declared.transition.Transition.{Transition as Kept}
use Rattle.bl_emit_tables.specs.Told.{flag_where}
use Rattle.bl_emit.specs.Activities.{entry_told, entry_where}

entry_first : (view : ActivityView) (rules : List NumberedTransition) → entry_told view rules ≡ entry_where view (slice_get rules 0)
entry_first view [] = refl
entry_first view (rule ∷ rest) = refl

module _ (rules : List Kept) (seen : Option Kept) where
  pub entry_is : (view : ActivityView) → seen ≡ slice_get rules 0 →
      entry_where view (option_map rule_in seen) ≡ entry_told view (map rule_in rules)
  entry_is view is =
      ap (λ (rule : Option Kept). entry_where view (option_map rule_in rule)) is
      ∙ (ap (entry_where view) (sym (slice_get-map rule_in rules 0)) ∙ sym (entry_first view (map rule_in rules)))

  -- the flag of the rule at a position
  pub flag_is : (word : ℕ → Text) (k : ℕ) → seen ≡ slice_get rules k →
      flag_where word (option_map rule_in seen) ≡ flag_where word (slice_get (map rule_in rules) k)
  flag_is word k is =
      ap (λ (rule : Option Kept). flag_where word (option_map rule_in rule)) is ∙ ap (flag_where word) (sym (slice_get-map rule_in rules k))
