-- No tick of a program has more steps than the number that is asked of the program with activities peeled.
use Rattle.std.specs.Prelude.{ℕ, List}
use Rattle.bl_tree.specs.declared.tree.StructDef.{StructDef}
use Rattle.bl_tree.specs.declared.tree.Unit.{Unit as UnitDef}
use Rattle.bl_tree.specs.Program.{IsWellTyped}
use Rattle.bl_effects.specs.Rules.{Passes}
use Rattle.bl_ctree.specs.Instances.{setting_of}
use Rattle.bl_ctree.specs.Measure.{steps}
use Rattle.bl_ctree.specs.Reaches.{Bounded}
use Rattle.bl_ctree_laws.specs.Fitted.{Fitted}
use Rattle.bl_ctree_laws_traces.specs.Bounded.Differ.{AllNumbered}
use Rattle.bl_peel.specs.Units.{UnitsPeel}

-- where the program with activities peeled is accepted, and its nodes are numbered, its number bounds the ticks of the program itself
abbrev pub PeeledIsBounded : Type 0
PeeledIsBounded =
    (structs : List StructDef) (units peeled_units : List UnitDef) (entry : ℕ) → UnitsPeel units peeled_units → Fitted (setting_of structs units entry) →
    IsWellTyped structs peeled_units entry → Passes peeled_units → AllNumbered (setting_of structs peeled_units entry) →
    Bounded (steps structs peeled_units entry) structs units entry
