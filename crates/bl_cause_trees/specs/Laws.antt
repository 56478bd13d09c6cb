-- Laws of peeled units.
use Rattle.std.specs.Prelude.{◌≡◌, List, ◌↔◌}
use Rattle.bl_tree.specs.declared.place.Place.{Place}
use Rattle.bl_tree.specs.declared.rule.Rule.{Rule}
use Rattle.bl_tree.specs.declared.tree.Unit.{Unit as UnitDef}
use Rattle.bl_cause.specs.Rules.{Fails as GraphsFail, Passes as GraphsPass}
use Rattle.bl_peel.specs.Units.{UnitsPeel}
use Rattle.bl_cause_trees.specs.Rules.{Fails}
use Rattle.bl_cause_trees.specs.Peeled.{ArePeeled}

-- units have one list of peeled units at most
abbrev pub PeeledAreOne : Type 0
PeeledAreOne = (units peeled_units others : List UnitDef) → ArePeeled units peeled_units → ArePeeled units others → peeled_units ≡ others

-- peeled units, one for each unit
pub record HasPeeled (units : List UnitDef) : Type 0 where
  pub peeled_units : List UnitDef
  pub are : ArePeeled units peeled_units

-- units have a list of peeled units
abbrev pub PeeledAreThere : Type 0
PeeledAreThere = (units : List UnitDef) → HasPeeled units

-- a rule fails on peeled units where it fails for units that have their bodies, and nowhere else
abbrev pub PeeledAreJudged : Type 0
PeeledAreJudged =
    (units peeled_units : List UnitDef) → ArePeeled units peeled_units → (rule : Rule) (at : Place) (also : List Place) →
    Fails units rule at also ↔ GraphsFail peeled_units rule at also

-- units that pass both rules by their own tick graphs stay as they are
abbrev pub PassingUnitsStay : Type 0
PassingUnitsStay = (units : List UnitDef) → GraphsPass units → ArePeeled units units

-- peeled units are the units, some activities among them with their bodies peeled
abbrev pub UnitsArePeeled : Type 0
UnitsArePeeled = (units peeled_units : List UnitDef) → ArePeeled units peeled_units → UnitsPeel units peeled_units
