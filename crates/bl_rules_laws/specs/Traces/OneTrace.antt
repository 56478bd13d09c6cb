-- Trees in which no rule fails have exactly one trace.
use Rattle.std.specs.Prelude.{ℕ, ℤ, List}
use Rattle.bl_tree.specs.declared.program.Program.{Program}
use Rattle.bl_tree.specs.declared.tree.StructDef.{StructDef}
use Rattle.bl_tree.specs.declared.tree.Unit.{Unit as UnitDef}
use Rattle.bl_cause_trees.specs.Peeled.{ArePeeled}
use Rattle.bl_rules.specs.Accepted.{IsOfTree}
use Rattle.bl_ctree.specs.Measure.{steps}
use Rattle.bl_ctree.specs.Reaches.{Bounded, NeverStuck}
use Rattle.bl_ctree_laws_traces.specs.Traces.OneTrace.{OneTrace}

-- a program has exactly one trace over any rows, and no tick is stuck. The number of steps of the peeled program bounds its ticks
pub record SourceHasOneTrace (structs : List StructDef) (units : List UnitDef) (entry : ℕ) (peeled : List UnitDef) : Type 0 where
  pub each : (rows : List (List ℤ)) → OneTrace structs units entry rows
  pub bounded : Bounded (steps structs peeled entry) structs units entry
  pub never_stuck : NeverStuck structs units entry

-- where no rule fails for a tree its program has exactly one trace
abbrev pub TreesHaveOneTrace : Type 0
TreesHaveOneTrace =
    (program : Program) (peeled : List UnitDef) → IsOfTree program → ArePeeled program.units peeled →
    SourceHasOneTrace program.structs program.units program.entry peeled
