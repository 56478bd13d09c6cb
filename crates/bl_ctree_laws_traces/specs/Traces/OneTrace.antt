-- Programs that have exactly one trace.
use Rattle.std.specs.Prelude.{◌≡◌, ℕ, ℤ, List}
use Rattle.bl_tree.specs.declared.row.Trace.{Trace}
use Rattle.bl_tree.specs.declared.tree.StructDef.{StructDef}
use Rattle.bl_tree.specs.declared.tree.Unit.{Unit as UnitDef}
use Rattle.bl_tree.specs.Program.{IsWellTyped}
use Rattle.bl_effects.specs.Rules.{Passes}
use Rattle.bl_ctree.specs.Instances.{setting_of}
use Rattle.bl_ctree.specs.Means.{Means, ShownTrace, shown_trace}
use Rattle.bl_ctree.specs.Measure.{steps}
use Rattle.bl_ctree.specs.Reaches.{Bounded, NeverStuck}
use Rattle.bl_ctree_laws_traces.specs.Bounded.Differ.{AllNumbered}
use Rattle.bl_ctree_laws_traces.specs.Ready.Ordered.{ActivitiesAreOrdered}

-- the semantics of the program allows exactly one trace over the rows
pub record OneTrace (structs : List StructDef) (units : List UnitDef) (entry : ℕ) (rows : List (List ℤ)) : Type 0 where
  pub trace : Trace
  pub means : Means structs units entry rows (shown_trace trace)
  pub only : (shows : ShownTrace) → Means structs units entry rows shows → shows ≡ shown_trace trace

-- a program has exactly one trace over any rows, its ticks are bounded in steps, and none is stuck
pub record HasOneTrace (structs : List StructDef) (units : List UnitDef) (entry : ℕ) : Type 0 where
  pub each : (rows : List (List ℤ)) → OneTrace structs units entry rows
  pub bounded : Bounded (steps structs units entry) structs units entry
  pub never_stuck : NeverStuck structs units entry

-- where the tick graph of each activity has an order, numbers rise along the control edges of each instance
abbrev pub OrderedAreNumbered : Type 0
OrderedAreNumbered =
    (structs : List StructDef) (units : List UnitDef) (entry : ℕ) → IsWellTyped structs units entry → Passes units → ActivitiesAreOrdered units →
    AllNumbered (setting_of structs units entry)

-- a program that passes the rules, with orders of its tick graphs, has exactly one trace
abbrev pub OrderedHaveOneTrace : Type 0
OrderedHaveOneTrace =
    (structs : List StructDef) (units : List UnitDef) (entry : ℕ) → IsWellTyped structs units entry → Passes units → ActivitiesAreOrdered units →
    HasOneTrace structs units entry
