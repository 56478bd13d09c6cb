-- The failure that is kept is why a program behind a start is refused, and where none is kept it passes.
use Rattle.std.proofs.Common.{◌≡◌, Bool, Some, None, sym, ap, ◌∙◌}
use Rattle.bl_tree.specs.declared.rule.Failure.{Failure}
use Rattle.bl_tree.specs.declared.rule.Refusal.{Refusal}
use Rattle.bl_tree.specs.Rules.{Refuses}
use Rattle.bl_tree.proofs.FirstLemmas.{first_fails, is_cause, none_passes}
use Rattle.bl_names_tree.specs.declared.named.Named.{Named}
use Rattle.bl_types.specs.declared.environment.Environment.{Environment}
use Rattle.bl_types.specs.declared.failure.Notes.{Notes}
use Rattle.bl_types.specs.Failures.{noted}
use Rattle.bl_types.specs.Programs.{failures_behind}
use Rattle.bl_types.specs.Rules.{FailsBehind, IsCauseBehind, PassesBehind}

module _ (last : Bool) (env : Environment) (named : Named) where
  pub passes : (notes : Notes) → notes ≡ noted (record { first = None }) (failures_behind last env named) → notes.first ≡ None → PassesBehind last env named
  passes notes is none = none_passes (failures_behind last env named) (sym (ap (λ n. n.first) is) ∙ none)

  pub cause : (notes : Notes) (first : Failure) (refusal : Refusal) → notes ≡ noted (record { first = None }) (failures_behind last env named) →
      notes.first ≡ Some first
      → Refuses first refusal → IsCauseBehind last env named refusal
  cause notes first refusal is kept refuses =
      is_cause (FailsBehind last env named) first refusal (first_fails (failures_behind last env named) first (sym (ap (λ n. n.first) is) ∙ kept)) refuses
