-- What the statements of peeled units do by their places.
use Rattle.std.specs.Prelude.{List, IsTrue}
use Rattle.bl_tree.specs.declared.tree.Unit.{Unit as UnitDef}
use Rattle.bl_tree.specs.Within.{PlacesDecide, RunsDecide}
use Rattle.bl_parse_tree.specs.Starts.{ascends}
use Rattle.bl_types_laws.specs.Starts.{all_starts}
use Rattle.bl_peel.specs.Units.{UnitsPeel}

-- places decide on effects in peeled units, where statements of the sources and the conditions of their loops begin one after another
abbrev pub PeeledPlacesDecide : Type 0
PeeledPlacesDecide = (units peeled_units : List UnitDef) → UnitsPeel units peeled_units → IsTrue (ascends (all_starts units)) → PlacesDecide peeled_units

-- `run`s are known by their places in peeled units, if so in the sources, whose statements and conditions of loops begin one after another
abbrev pub PeeledRunsDecide : Type 0
PeeledRunsDecide =
    (units peeled_units : List UnitDef) → UnitsPeel units peeled_units → IsTrue (ascends (all_starts units)) → RunsDecide units → RunsDecide peeled_units
