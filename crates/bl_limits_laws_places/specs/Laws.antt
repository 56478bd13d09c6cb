-- How structs and units are nested too deep where their places are mapped.
use Rattle.std.specs.Prelude.{List, ℕ, ◌↔◌}
use Rattle.bl_tree.specs.declared.place.Place.{Place}
use Rattle.bl_tree.specs.declared.rule.Rule.{Rule}
use Rattle.bl_tree.specs.declared.tree.StructDef.{StructDef}
use Rattle.bl_tree.specs.declared.tree.Unit.{Unit as UnitDef}
use Rattle.bl_tree_laws_places.specs.Laws.{FailsMoved}
use Rattle.bl_tree_laws_places.specs.Placed.{placed_structs, placed_units}
use Rattle.bl_limits.specs.Rules.{NestingFails, NestingPasses}

-- structs and units with mapped places are nested too deep at the images of the places at which they were, and nowhere else
abbrev pub NestingMoves : Type 0
NestingMoves = (f : Place → Place) (from : ℕ) (structs : List StructDef) (units : List UnitDef) (rule : Rule) (at : Place) (also : List Place) →
    NestingFails from (placed_structs f structs) (placed_units f units) rule at also ↔ FailsMoved f (NestingFails from structs units) rule at also

-- structs and units are nested no deeper than allowed iff they are so with mapped places
abbrev pub NestingStays : Type 0
NestingStays = (f : Place → Place) (from : ℕ) (structs : List StructDef) (units : List UnitDef) →
    NestingPasses from (placed_structs f structs) (placed_units f units) ↔ NestingPasses from structs units
