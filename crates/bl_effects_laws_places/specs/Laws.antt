-- How units fail the rules Pause, Conflict, Alias and Instant where their places are mapped.
use Rattle.std.specs.Prelude.{List, ◌↔◌}
use Rattle.bl_tree.specs.declared.place.Place.{Place}
use Rattle.bl_tree.specs.declared.rule.Rule.{Rule}
use Rattle.bl_tree.specs.declared.tree.Unit.{Unit as UnitDef}
use Rattle.bl_tree_laws_places.specs.Laws.{FailsMoved}
use Rattle.bl_tree_laws_places.specs.Placed.{placed_units}
use Rattle.bl_effects.specs.Rules.{Fails, Passes}

-- units with mapped places fail a rule at the images of the places at which the units fail it, and nowhere else
abbrev pub FailuresMove : Type 0
FailuresMove = (f : Place → Place) (units : List UnitDef) (rule : Rule) (at : Place) (also : List Place) →
    Fails (placed_units f units) rule at also ↔ FailsMoved f (Fails units) rule at also

-- units pass the rules iff they do with mapped places
abbrev pub PassingStays : Type 0
PassingStays = (f : Place → Place) (units : List UnitDef) → Passes (placed_units f units) ↔ Passes units
