-- No tick has more steps than the number that its program's statements and instances come to.
use Rattle.std.specs.Prelude.{ℕ, List}
use Rattle.bl_tree.specs.declared.tree.StructDef.{StructDef}
use Rattle.bl_tree.specs.declared.tree.Unit.{Unit as UnitDef}
use Rattle.bl_tree.specs.Program.{IsWellTyped}
use Rattle.bl_effects.specs.Rules.{Passes}
use Rattle.bl_ctree.specs.Instances.{setting_of}
use Rattle.bl_ctree.specs.Measure.{steps}
use Rattle.bl_ctree.specs.Reaches.{Bounded}
use Rattle.bl_ctree_laws_traces.specs.Bounded.Differ.{AllNumbered}

-- an accepted program with node numbers that rise along control edges has bounded ticks
abbrev pub AcceptedIsBounded : Type 0
AcceptedIsBounded =
    (structs : List StructDef) (units : List UnitDef) (entry : ℕ) → IsWellTyped structs units entry → Passes units →
    AllNumbered (setting_of structs units entry) → Bounded (steps structs units entry) structs units entry
