-- The rules Pause, Conflict, Alias and Instant of peeled units.
use Rattle.std.specs.Prelude.{List}
use Rattle.bl_tree.specs.declared.place.Place.{Place}
use Rattle.bl_tree.specs.declared.rule.Rule.{Rule}
use Rattle.bl_tree.specs.declared.tree.Unit.{Unit as UnitDef}
use Rattle.bl_effects.specs.Rules.{Fails, Passes}
use Rattle.bl_peel.specs.Units.{UnitsPeel}

-- a rule on effects that fails for peeled units fails for their sources, at the same places
abbrev pub FailuresAreOfSources : Type 0
FailuresAreOfSources =
    (units peeled_units : List UnitDef) (rule : Rule) (at : Place) (also : List Place) → UnitsPeel units peeled_units → Fails peeled_units rule at also →
    Fails units rule at also

-- none of the rules Pause, Conflict, Alias and Instant fails for peeled units where none fails for their sources
abbrev pub PeeledUnitsPass : Type 0
PeeledUnitsPass = (units peeled_units : List UnitDef) → UnitsPeel units peeled_units → Passes units → Passes peeled_units
