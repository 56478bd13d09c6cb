-- The instances of a program with what its machine has for them.
use Rattle.std.specs.Prelude.{◌≡◌, ℕ, List, [], Option, Some, None, slice_get}
use Rattle.bl_tree.specs.declared.tree.StructDef.{StructDef}
use Rattle.bl_tree.specs.declared.tree.Unit.{Unit as UnitDef}
use Rattle.bl_tree.specs.Program.{IsWellTyped}
use Rattle.bl_effects.specs.Rules.{Passes}
use Rattle.bl_graph_nodes.specs.Nodes.{Node}
use Rattle.bl_graph_nodes.specs.Plain.{Done, plain_body}
use Rattle.bl_cause.specs.Activities.{graph_position}
use Rattle.bl_ctree.specs.declared.instance.Instance.{Instance}
use Rattle.bl_ctree.specs.Instances.{Setting, setting_of, unit_at}
use Rattle.bl_machine.specs.declared.machine.Activity.{Activity}
use Rattle.bl_machine.specs.Machines.{AreActivitiesOf}
use Rattle.bl_machine.specs.Uses.{Slots}
use Rattle.bl_machine_laws.specs.Traces.Positions.{GoBy}
use Rattle.bl_machine_pass.specs.Numbered.{slots_of}
use Rattle.bl_machine_pass_laws_turns.specs.Turns.{TurnContext}

-- the activity of the machine for an instance
abbrev pub activity_of_instance : List UnitDef → List Activity → Option Instance → Option Activity
activity_of_instance units machine None = None
activity_of_instance units machine (Some instance) = slice_get machine (graph_position units instance.unit)

-- the numbers of the resting places of a unit, as its activity lists them
abbrev pub slots_in : Option UnitDef → Option Activity → Slots
slots_in None found = slots_of Done []
slots_in (Some unit) None = slots_of Done []
slots_in (Some unit) (Some activity) = slots_of (plain_body unit.body) activity.slots

-- the numbers of the resting places of the instance with this number
abbrev pub slots_at : Setting → List Activity → ℕ → Slots
slots_at w machine i = slots_in (unit_at w i) (activity_of_instance w.units machine (slice_get w.instances i))

-- an instance of the unit, and the machine's activity for it
pub record HasActivity (w : Setting) (machine : List Activity) (i : ℕ) (unit : UnitDef) : Type 0 where
  pub instance : Instance
  pub activity : Activity
  pub there : slice_get w.instances i ≡ Some instance
  pub is_unit : slice_get w.units instance.unit ≡ Some unit
  pub is_activity : slice_get machine (graph_position w.units instance.unit) ≡ Some activity

-- the machine has an activity for each instance, and with it the instance has what the laws of a pass require
pub record MachinesGiveContexts : Type 0 where
  pub has : (structs : List StructDef) (units : List UnitDef) (entry : ℕ) (machine : List Activity) (i : ℕ) (unit : UnitDef) →
      let w = setting_of structs units entry in
      IsWellTyped structs units entry → Passes units → AreActivitiesOf units machine → unit_at w i ≡ Some unit → HasActivity w machine i unit
  pub given : (structs : List StructDef) (units : List UnitDef) (entry : ℕ) (machine : List Activity) (rank : ℕ → Node → ℕ) (i : ℕ)
      (instance : Instance) (unit : UnitDef) (activity : Activity) →
      let w = setting_of structs units entry in
      IsWellTyped structs units entry → Passes units → AreActivitiesOf units machine → GoBy w machine rank → slice_get w.instances i ≡ Some instance →
      slice_get units instance.unit ≡ Some unit → slice_get machine (graph_position units instance.unit) ≡ Some activity →
      TurnContext w rank i (slots_of (plain_body unit.body) activity.slots) unit
  -- each instance of the machine has what the laws of a pass require, with numbers by instance
  pub each : (structs : List StructDef) (units : List UnitDef) (entry : ℕ) (machine : List Activity) (rank : ℕ → Node → ℕ) (i : ℕ)
      (unit : UnitDef) →
      let w = setting_of structs units entry in
      IsWellTyped structs units entry → Passes units → AreActivitiesOf units machine → GoBy w machine rank → unit_at w i ≡ Some unit →
      TurnContext w rank i (slots_at w machine i) unit
