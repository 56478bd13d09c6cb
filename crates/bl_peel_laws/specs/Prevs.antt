-- Where peeled units ask what a variable was.
use Rattle.std.specs.Prelude.{◌≡◌, true, List}
use Rattle.bl_tree.specs.declared.tree.Unit.{Unit as UnitDef}
use Rattle.bl_machine_prevs.specs.Declared.{FromText, prevs_are_declared}
use Rattle.bl_peel.specs.Units.{UnitPeels, UnitsPeel}

-- a peeled unit asks what a variable was only behind its declaration, if its source does
abbrev pub PeeledPrevsAreDeclared : Type 0
PeeledPrevsAreDeclared = (unit peeled_unit : UnitDef) → UnitPeels unit peeled_unit → prevs_are_declared unit ≡ true → prevs_are_declared peeled_unit ≡ true

-- peeled units keep what holds of the units of a source text
abbrev pub PeeledIsFromText : Type 0
PeeledIsFromText = (units peeled_units : List UnitDef) → UnitsPeel units peeled_units → FromText units → FromText peeled_units
