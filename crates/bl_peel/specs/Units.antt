-- Units whose bodies are peeled or not.
use Rattle.std.specs.Prelude.{false, List, [], ◌∷◌, ◌≡◌}
use Rattle.bl_tree.specs.declared.tree.Unit.{Unit as UnitDef}
use Rattle.bl_tree.specs.Typing.{is_function}
use Rattle.bl_peel.specs.Peeled.{peeled}

-- a unit and what it is in the second program: the unit itself, or an activity with its body peeled
pub data UnitPeels : UnitDef → UnitDef → Type 0 where
  kept : {unit : UnitDef} → UnitPeels unit unit
  is_peeled : {unit : UnitDef} → is_function unit.kind ≡ false → UnitPeels unit (record unit { body = peeled unit.body })

-- the units of two programs, one by one
pub data UnitsPeel : List UnitDef → List UnitDef → Type 0 where
  no_units : UnitsPeel [] []
  more_units : {unit peeled_unit : UnitDef} {units peeled_units : List UnitDef} → UnitPeels unit peeled_unit → UnitsPeel units peeled_units →
      UnitsPeel (unit ∷ units) (peeled_unit ∷ peeled_units)
