-- Failures as values, and what is remembered of them.
use Rattle.std.specs.Prelude.{Bool, List, [], ◌∷◌, if◌then◌else◌}
use Rattle.bl_tree.specs.declared.place.Place.{Place}
use Rattle.bl_tree.specs.declared.rule.Failure.{Failure}
use Rattle.bl_tree.specs.declared.rule.Further.TheVariants.{Nothing}
use Rattle.bl_tree.specs.declared.rule.Rule.{Rule}
use Rattle.bl_tree.specs.Rules.{first_of}
use Rattle.bl_types.specs.declared.failure.Notes.{Notes}

-- a failure of a rule at one place
abbrev pub fails_at : Rule → Place → List Failure
fails_at rule at = record { rule = rule; at = at; further = Nothing } ∷ []

-- a failure at one place, unless the test holds
abbrev pub unless : Bool → Rule → Place → List Failure
unless test rule at = if test then [] else fails_at rule at

-- what is remembered of failures after more of them
abbrev pub noted : Notes → List Failure → Notes
noted notes failures = record { first = first_of notes.first failures }
