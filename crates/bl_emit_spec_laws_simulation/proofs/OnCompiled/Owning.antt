-- What the rules of instances ask and change are registers.
use Rattle.std.proofs.Common.{◌≡◌, ◌∙◌, ℕ, ◌<◌, ◌≤◌, ◌^◌, Bool, true, false, List, [], map, Option, None, Some, ap, refl, sym, subst, arith}
use Rattle.std.specs.List.{list_all}
use Rattle.std.specs.Prelude.{option_and_then, option_map, slice_get, unwrap_or, if◌then◌else◌}
use Rattle.bl_tree.specs.declared.tree.StructDef.{StructDef}
use Rattle.bl_tree.specs.declared.tree.Unit.{Unit as UnitDef}
use Rattle.bl_tree.specs.Reduce.{greatest, total}
use Rattle.bl_limits.specs.Rules.{Passes as KeepsLimits}
use Rattle.bl_limits_measures.specs.Calls.{calls_of}
use Rattle.bl_limits_measures.specs.Laws.{CellsAdd}
use Rattle.bl_limits_measures.specs.Runs.{activities_by_place}
use Rattle.bl_limits_measures.specs.Statements.{cell_statements_of}
use Rattle.bl_limits_measures.specs.Units.{cells_at, variables_of}
use Rattle.bl_limits_measures_laws.specs.Laws.{UnitsUseEarlierOnes}
use Rattle.bl_graph_nodes.specs.Plain.{plain_body}
use Rattle.bl_machine.specs.declared.machine.Activity.{Activity as InMachine}
use Rattle.bl_machine.specs.Layout.{places_in}
use Rattle.bl_ctree.specs.declared.instance.Instance.{Instance}
use Rattle.bl_ctree.specs.Instances.{Setting, setting_of, unit_at, unit_of}
use Rattle.bl_ctree_laws_confluence.specs.Deeds.Orderly.{AcceptedIsOrderly}
use Rattle.bl_machine_pass.specs.Transitions.{Change, Transition}
use Rattle.bl_emit_spec.specs.Activities.{activity_view}
use Rattle.bl_emit_spec.specs.Programs.{needed_units}
use Rattle.bl_emit_spec_laws.specs.Calls.Built.{Activities, registered, unit_number}
use Rattle.bl_emit_spec_laws.specs.Registers.Laws.{changes_its_own}
use Rattle.bl_emit_spec_laws.specs.Calls.Laws.{CompilationContext}
use Rattle.bl_emit_spec_laws_wellformed.specs.Closed.{InstancesNeeded}
use Rattle.bl_emit_spec_laws_wellformed.specs.Counts.{NodesCounted}
use Rattle.bl_emit_spec_laws_wellformed.specs.Needed.{NeededSmall}
use Rattle.bl_emit_spec_laws.specs.Own.{AskedAreOwn, BuiltAt, ChangesAreOwn}
use Rattle.bl_emit_spec_laws_simulation.specs.Compiled.{RulesAreOwn}
use Rattle.bl_emit_spec_laws_wellformed.proofs.OnMachines.Whole.{enough}

pub places_small : (places statements cells : ℕ) → places ≤ statements → statements ≤ cells → cells ≤ 1_000_000 → places < 2 ^ 32
places_small places statements cells few more small = omega (arith, few, more, small)

-- the unit of an instance, and what is needed of it
record IsOf (units : List UnitDef) (entry : ℕ) (k : ℕ) (unit : UnitDef) : Type 0 where
  there : slice_get units k ≡ Some unit
  needed : slice_get (needed_units units entry) k ≡ Some true

of_instance : (units : List UnitDef) (entry : ℕ) (w : Setting) (o : Option Instance) (unit : UnitDef) → w.units ≡ units →
    ((instance : Instance) → o ≡ Some instance → slice_get (needed_units units entry) instance.unit ≡ Some true) →
    option_and_then (unit_of w) o ≡ Some unit →
    IsOf units entry (unwrap_or (option_map (λ (instance : Instance). instance.unit) o) 0) unit
of_instance units entry w None unit same needed is = absurd (cc)
of_instance units entry w (Some instance) unit same needed is =
    record { there = subst (λ (all : List UnitDef). slice_get all instance.unit ≡ Some unit) same is; needed = needed instance refl }

module _ (structs : List StructDef) (units : List UnitDef) (entry : ℕ) (orderly : AcceptedIsOrderly) (changes : ChangesAreOwn)
    (asked : AskedAreOwn) (instances : InstancesNeeded structs units entry) (small : NeededSmall structs units entry)
    (counted : NodesCounted structs units entry) (uses : UnitsUseEarlierOnes) (add : CellsAdd) (machine : List InMachine)
    (activities : Activities) (limits : KeepsLimits structs units entry) (compiled : CompilationContext structs units entry machine activities)
  where
    abbrev W : Setting
    W = setting_of structs units entry

    unit_is : (i : ℕ) (unit : UnitDef) → unit_at W i ≡ Some unit → IsOf units entry (unit_number W i) unit
    unit_is i unit there =
        of_instance units entry W (slice_get W.instances i) unit refl (λ instance at. instances i instance compiled.well_typed at) there

    built_at : (i : ℕ) (unit : UnitDef) → unit_at W i ≡ Some unit → BuiltAt structs units machine activities (unit_number W i) unit
    built_at i unit there = record {
      agrees = compiled.agrees;
      built = compiled.built;
      is_there = (unit_is i unit there).there;
      activity = ((orderly structs units entry compiled.well_typed compiled.passes).each i unit there).activity;
    }

    statements_less : (k : ℕ) (unit : UnitDef) → slice_get units k ≡ Some unit → cell_statements_of unit ≤ cells_at structs units k
    statements_less k unit there =
        subst (λ n. cell_statements_of unit ≤ n) (sym (add structs units k unit (uses structs units compiled.well_typed.units_stand) there))
        (enough unit.kind (variables_of structs unit) (cell_statements_of unit) (total (map (cells_at structs units) (activities_by_place unit)))
        (greatest (map (cells_at structs units) (calls_of unit))))

    few : (i : ℕ) (unit : UnitDef) → unit_at W i ≡ Some unit → places_in (plain_body unit.body) < 2 ^ 32
    few i unit there =
        let is = unit_is i unit there in
        places_small (places_in (plain_body unit.body)) (cell_statements_of unit) (cells_at structs units (unit_number W i))
        (counted (unit_number W i) unit compiled.well_typed is.there).places (statements_less (unit_number W i) unit is.there)
        (small (unit_number W i) compiled.well_typed limits is.needed)

-- what holds of all changes where they are shown
all_shown : (P : Change → Bool) (last : Bool) (changes : List Change) → (last ≡ true → list_all P changes ≡ true) →
    list_all P (if last then changes else []) ≡ true
all_shown P true changes holds = holds refl
all_shown P false changes holds = refl

pub rules_are_own : (structs : List StructDef) (units : List UnitDef) (entry : ℕ) → AcceptedIsOrderly → ChangesAreOwn → AskedAreOwn →
    InstancesNeeded structs units entry → NeededSmall structs units entry → NodesCounted structs units entry → UnitsUseEarlierOnes → CellsAdd →
    RulesAreOwn structs units entry
rules_are_own structs units entry orderly changes asked instances small counted uses add machine activities limits compiled = record {
  asks = λ i unit rule there is first.
      asked structs units machine activities (unit_number (setting_of structs units entry) i) unit rule (at i unit there)
      (few structs units entry orderly changes asked instances small counted uses add machine activities limits compiled i unit there) first;
  on_true = λ i unit rule there shown.
      (let a = activities (unit_number (setting_of structs units entry) i) in
      let its = changes_its_own (activity_view a).number (registered a) in
      ap (λ (t : Transition). list_all its t.on_true) shown.is
      ∙ all_shown its shown.last shown.rule.on_true
      (λ last. (changes structs units machine activities (unit_number (setting_of structs units entry) i) unit shown.rule (at i unit there)
      (shown.stands_last last)).0));
  on_false = λ i unit rule there shown.
      (let a = activities (unit_number (setting_of structs units entry) i) in
      let its = changes_its_own (activity_view a).number (registered a) in
      ap (λ (t : Transition). list_all its t.on_false) shown.is
      ∙ all_shown its shown.last shown.rule.on_false
      (λ last. (changes structs units machine activities (unit_number (setting_of structs units entry) i) unit shown.rule (at i unit there)
      (shown.stands_last last)).1));
}
  where
    at : (i : ℕ) (unit : UnitDef) → unit_at (setting_of structs units entry) i ≡ Some unit →
        BuiltAt structs units machine activities (unit_number (setting_of structs units entry) i) unit
    at = built_at structs units entry orderly changes asked instances small counted uses add machine activities limits compiled
