-- How an instance, its unit and its activity are found, and what they have.
use Rattle.std.proofs.Common.{◌≡◌, ℕ, true, List, Some, refl, sym, ap, ◌∙◌, subst}
use Rattle.std.specs.Prelude.{option_and_then, slice_get}
use Rattle.bl_tree.proofs.Basics.{same_some}
use Rattle.bl_tree.specs.declared.tree.StructDef.{StructDef}
use Rattle.bl_tree.specs.declared.tree.Unit.{Unit as UnitDef}
use Rattle.bl_tree.specs.Program.{IsWellTyped}
use Rattle.bl_tree.specs.Typing.{is_activity}
use Rattle.bl_effects.specs.Rules.{Passes}
use Rattle.bl_graph_nodes.specs.Nodes.{Node}
use Rattle.bl_graph_nodes.specs.Plain.{plain_body}
use Rattle.bl_cause.specs.Activities.{activities, graph_position}
use Rattle.bl_cause.proofs.PairLemmas.{each_at, filtered_at}
use Rattle.bl_ctree.specs.declared.instance.Instance.{Instance}
use Rattle.bl_ctree.specs.Instances.{Setting, setting_of, unit_at, unit_of}
use Rattle.bl_ctree_laws_confluence.specs.Deeds.Orderly.{AcceptedIsOrderly}
use Rattle.bl_machine.specs.declared.machine.Activity.{Activity}
use Rattle.bl_machine.specs.Machines.{AreActivitiesOf, IsActivityOf}
use Rattle.bl_machine.specs.Slots.{Counters}
use Rattle.bl_machine.specs.Uses.{Slots}
use Rattle.bl_machine_laws.specs.Traces.Positions.{GoBy, MachinesGiveOrders}
use Rattle.bl_machine_laws.proofs.OnTraces.Positions.{instance_there}
use Rattle.bl_machine_pass.specs.SlotLayout.{SlotsAreDistinct}
use Rattle.bl_machine_pass.specs.Numbered.{slots_of}
use Rattle.bl_machine_pass_laws.specs.Slots.Laws.{NumbersAreDistinct, TypedHaveBranches}
use Rattle.bl_machine_pass_laws_turns.specs.Turns.{TurnContext}
use Rattle.bl_machine_pass_laws_execution.specs.Machines.{HasActivity, MachinesGiveContexts, activity_of_instance, slots_at, slots_in}

-- ---- an instance, its unit, and its activity

record ActivityThere (units : List UnitDef) (machine : List Activity) (at : ℕ) (unit : UnitDef) : Type 0 where
  activity : Activity
  is : slice_get machine (graph_position units at) ≡ Some activity
  counters : Counters (plain_body unit.body) activity.slots

activity_there : (units : List UnitDef) (machine : List Activity) → AreActivitiesOf units machine → (at : ℕ) (unit : UnitDef) →
    slice_get units at ≡ Some unit → is_activity unit.kind ≡ true → ActivityThere units machine at unit
activity_there units machine are at unit is activity =
    let own = each_at IsActivityOf (activities units) machine (graph_position units at) unit are
    (filtered_at (λ it. is_activity it.kind) units at unit is activity) in
    record { activity = own.0; is = own.1; counters = own.2.counters }

-- ---- what they have

module _ (orderly : AcceptedIsOrderly) (give : MachinesGiveOrders) (laid : NumbersAreDistinct) (branched : TypedHaveBranches)
    (structs : List StructDef) (units : List UnitDef) (entry : ℕ) (machine : List Activity) (keeps : IsWellTyped structs units entry)
    (passes : Passes units) (are : AreActivitiesOf units machine) where
  abbrev W : Setting
  W = setting_of structs units entry

  active : (i : ℕ) (unit : UnitDef) → unit_at W i ≡ Some unit → is_activity unit.kind ≡ true
  active i unit is = ((orderly structs units entry keeps passes).each i unit is).activity

  pub has : (i : ℕ) (unit : UnitDef) → unit_at W i ≡ Some unit → HasActivity W machine i unit
  has i unit is =
      let one = instance_there W i unit (slice_get W.instances i) refl is in
      let own = activity_there units machine are one.instance.unit unit one.is_unit (active i unit is) in
      record { instance = one.instance; activity = own.activity; there = one.is; is_unit = one.is_unit; is_activity = own.is }

  -- the places of the unit are told apart by the numbers that the machine lists
  laid_in : (at : ℕ) (unit : UnitDef) (activity : Activity) → is_activity unit.kind ≡ true → slice_get units at ≡ Some unit →
      slice_get machine (graph_position units at) ≡ Some activity → SlotsAreDistinct (slots_of (plain_body unit.body) activity.slots) (plain_body unit.body)
  laid_in at unit activity active is is_active =
      let own = activity_there units machine are at unit is active in
      let counters : Counters (plain_body unit.body) activity.slots =
      subst (λ (a : Activity). Counters (plain_body unit.body) a.slots) (same_some own.activity activity (sym own.is ∙ is_active)) own.counters in
      laid unit.body activity.slots counters (branched structs units entry at unit keeps is)

  pub given : (rank : ℕ → Node → ℕ) (i : ℕ) (instance : Instance) (unit : UnitDef) (activity : Activity) → GoBy W machine rank →
      slice_get W.instances i ≡ Some instance → slice_get units instance.unit ≡ Some unit →
      slice_get machine (graph_position units instance.unit) ≡ Some activity → TurnContext W rank i (slots_of (plain_body unit.body) activity.slots) unit
  given rank i instance unit activity go_by is is_unit is_active =
      let of_unit : unit_at W i ≡ Some unit = ap (λ found. option_and_then (unit_of W) found) is ∙ is_unit in record {
        paces = (orderly structs units entry keeps passes).paces;
        orders = give.orders structs units entry machine rank keeps passes are go_by;
        is = of_unit;
        laid = laid_in instance.unit unit activity (active i unit of_unit) is_unit is_active;
      }

  -- the numbers by instance are those of the list
  slots_are : (i : ℕ) (instance : Instance) (unit : UnitDef) (activity : Activity) → unit_at W i ≡ Some unit →
      slice_get W.instances i ≡ Some instance → slice_get machine (graph_position units instance.unit) ≡ Some activity →
      slots_at W machine i ≡ slots_of (plain_body unit.body) activity.slots
  slots_are i instance unit activity of_unit is is_active =
      ap (λ found. slots_in found (activity_of_instance units machine (slice_get W.instances i))) of_unit
      ∙ (ap (λ found. slots_in (Some unit) (activity_of_instance units machine found)) is ∙ ap (λ found. slots_in (Some unit) found) is_active)

  pub each : (rank : ℕ → Node → ℕ) (i : ℕ) (unit : UnitDef) → GoBy W machine rank → unit_at W i ≡ Some unit →
      TurnContext W rank i (slots_at W machine i) unit
  each rank i unit go_by of_unit =
      let own = has i unit of_unit in
      subst (λ (slots : Slots). TurnContext W rank i slots unit) (sym (slots_are i own.instance unit own.activity of_unit own.there own.is_activity))
      (given rank i own.instance unit own.activity go_by own.there own.is_unit own.is_activity)

pub machines_give_contexts : AcceptedIsOrderly → MachinesGiveOrders → NumbersAreDistinct → TypedHaveBranches → MachinesGiveContexts
machines_give_contexts orderly give laid branched = record {
  has = λ structs units entry machine i unit keeps passes are is.
      has orderly give laid branched structs units entry machine keeps passes are i unit is;
  given = λ structs units entry machine rank i instance unit activity keeps passes are go_by is is_unit is_active.
      given orderly give laid branched structs units entry machine keeps passes are rank i instance unit activity go_by is is_unit is_active;
  each = λ structs units entry machine rank i unit keeps passes are go_by is.
      each orderly give laid branched structs units entry machine keeps passes are rank i unit go_by is;
}
