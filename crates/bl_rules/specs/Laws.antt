-- What a peeled program keeps.
use Rattle.std.specs.Prelude.{◌≡◌, ℕ, true, List, IsTrue}
use Rattle.bl_cause.specs.Rules.{Passes as OwnGraphsPass}
use Rattle.bl_cause_trees.specs.Rules.{Passes as GraphsPass}
use Rattle.bl_cause_trees.specs.Peeled.{ArePeeled, PeeledAreTyped}
use Rattle.bl_effects.specs.Rules.{Passes as UnitsPass}
use Rattle.bl_parse_tree.specs.Starts.{ascends}
use Rattle.bl_tree.specs.Program.{IsWellTyped}
use Rattle.bl_tree.specs.declared.tree.StructDef.{StructDef}
use Rattle.bl_tree.specs.declared.tree.Unit.{Unit as UnitDef}
use Rattle.bl_types_laws.specs.Standing.{are_shallow}
use Rattle.bl_types_laws.specs.Starts.{all_starts}

-- the peeled units of a well-typed program are those of one, if its blocks nest 100 deep at most, and statements and conditions of loops begin in order
abbrev pub PeeledStayTyped : Type 0
PeeledStayTyped =
    (structs : List StructDef) (units : List UnitDef) (entry : ℕ) → IsWellTyped structs units entry → are_shallow units ≡ true →
    IsTrue (ascends (all_starts units)) → PeeledAreTyped structs units entry

-- none of Pause, Conflict, Alias and Instant fails for the peeled units of units for which none fails
abbrev pub PeeledKeepUnitRules : Type 0
PeeledKeepUnitRules = (units peeled : List UnitDef) → ArePeeled units peeled → UnitsPass units → UnitsPass peeled

-- neither Twice nor Cycle fails for the peeled units, by their own tick graphs, of units on whose peeled units neither fails
abbrev pub PeeledKeepGraphRules : Type 0
PeeledKeepGraphRules = (units peeled : List UnitDef) → ArePeeled units peeled → GraphsPass units → OwnGraphsPass peeled
