-- A program of a raw tree in which no rule fails, beside its peeled program.
use Rattle.std.specs.Prelude.{◌↔◌, ℕ, ℤ, List}
use Rattle.bl_tree.specs.declared.program.Program.{Program}
use Rattle.bl_tree.specs.declared.tree.StructDef.{StructDef}
use Rattle.bl_tree.specs.declared.tree.Unit.{Unit as UnitDef}
use Rattle.bl_tree.specs.Program.{IsWellTyped}
use Rattle.bl_effects.specs.Rules.{Passes as UnitsPass}
use Rattle.bl_limits.specs.Rules.{Passes as LimitsPass}
use Rattle.bl_cause_trees.specs.Peeled.{ArePeeled}
use Rattle.bl_peel.specs.Units.{UnitsPeel}
use Rattle.bl_ctree.specs.Means.{Means, ShownTrace}
use Rattle.bl_ctree_laws_traces.specs.Ready.Ordered.{ActivitiesAreOrdered}
use Rattle.bl_rules.specs.Accepted.{IsOfTree}

-- what a program in which no rule fails keeps, and its peeled program
pub record KeepsPeeled (structs : List StructDef) (units : List UnitDef) (entry : ℕ) (peeled : List UnitDef) : Type 0 where
  pub well_typed : IsWellTyped structs units entry
  pub passes : UnitsPass units
  -- the peeled units are the units, some activities with their bodies peeled
  pub peels : UnitsPeel units peeled
  pub peeled_typed : IsWellTyped structs peeled entry
  pub peeled_pass : UnitsPass peeled
  -- the tick graph of each peeled activity has an order
  pub ordered : ActivitiesAreOrdered peeled
  pub limits : LimitsPass structs peeled entry

-- where no rule fails for a raw tree, its program and the peeled one keep this
abbrev pub AcceptedKeepPeeled : Type 0
AcceptedKeepPeeled =
    (program : Program) (peeled : List UnitDef) → IsOfTree program → ArePeeled program.units peeled →
    KeepsPeeled program.structs program.units program.entry peeled

-- the semantics allows the program of a raw tree in which no rule fails what it allows the peeled program
abbrev pub PeeledMeanTheSame : Type 0
PeeledMeanTheSame =
    (program : Program) (peeled : List UnitDef) → IsOfTree program → ArePeeled program.units peeled → (rows : List (List ℤ)) (shows : ShownTrace) →
    Means program.structs program.units program.entry rows shows ↔ Means program.structs peeled program.entry rows shows
