-- How units fail the rules Twice and Cycle where their places are mapped.
use Rattle.std.specs.Prelude.{List, ◌↔◌}
use Rattle.bl_tree.specs.declared.place.Place.{Place}
use Rattle.bl_tree.specs.declared.rule.Rule.{Rule}
use Rattle.bl_tree.specs.declared.tree.Unit.{Unit as UnitDef}
use Rattle.bl_tree_laws_places.specs.Laws.{BringsBack, FailsMoved}
use Rattle.bl_tree_laws_places.specs.Placed.{placed_units}
use Rattle.bl_cause_trees.specs.Rules.{Fails, Passes}

-- units with mapped places fail a rule at the images of the places at which the units fail it, where another map brings the places back
abbrev pub FailuresMove : Type 0
FailuresMove = (f g : Place → Place) → BringsBack g f → (units : List UnitDef) (rule : Rule) (at : Place) (also : List Place) →
    Fails (placed_units f units) rule at also ↔ FailsMoved f (Fails units) rule at also

-- units pass the rules iff they do with mapped places, where another map brings the places back
abbrev pub PassingStays : Type 0
PassingStays = (f g : Place → Place) → BringsBack g f → (units : List UnitDef) → Passes (placed_units f units) ↔ Passes units
