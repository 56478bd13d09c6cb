-- The function of an activity stands as it begins.
use Rattle.std.proofs.Common.{◌≡◌, ℕ, ◌+◌, ◌<◌, ◌≤◌, ◌^◌, arith, Bool, true, List, ◌++◌, length, map}
use Rattle.std.proofs.Common.{Some, refl, sym, ap, ◌∙◌, subst}
use Rattle.std.proofs.Math.Seq.{take-add}
use Rattle.std.proofs.lemmas.Bool.{leb-true}
use Rattle.std.proofs.lemmas.List.{length-take}
use Rattle.std.proofs.lemmas.Option.{slice_get_within}
use Rattle.std.specs.Prelude.{is_some, slice_get}
use Rattle.std.specs.List.{list_all}
use Rattle.bl_tree.proofs.Basics.{and_first, and_second, map_length}
use Rattle.bl_tree.specs.declared.tree.StructDef.{StructDef}
use Rattle.bl_tree.specs.declared.tree.Unit.{Unit as UnitDef}
use Rattle.bl_tree.specs.declared.value.Value.{Value}
use Rattle.bl_tree.specs.Program.{parameters_of, roles_stand}
use Rattle.bl_tree.specs.Typing.{inputs_of, is_activity, outputs_of}
use Rattle.bl_ctext_semantics.specs.Meaning.{Meaning, by_address}
use Rattle.bl_ctext_semantics.specs.Memory.{Location, Memory}
use Rattle.bl_ctext_semantics.specs.Tables.{Table}
use Rattle.bl_ctree.specs.Instances.{Setting, setting_of, unit_at}
use Rattle.bl_ctree.specs.Store.{Store}
use Rattle.bl_ctree_laws_confluence.specs.Deeds.Orderly.{AcceptedIsOrderly, OrderlyUnit}
use Rattle.bl_emit_acts_laws_simulation.specs.Acts.{MayPass, all_apart, places_in_args}
use Rattle.bl_emit_acts_laws_simulation.specs.Encodes.{are_apart, is_live}
use Rattle.bl_emit_functions_laws_simulation.specs.Calls.{HandedOver, HandsOver}
use Rattle.bl_emit_spec.specs.Activities.{Activity, remembers_any}
use Rattle.bl_machine.specs.declared.machine.Activity.{Activity as InMachine}
use Rattle.bl_machine_pass_laws_execution.specs.Frames.{Frames}
use Rattle.bl_emit_spec.specs.Blocks.{unit_may_end}
use Rattle.bl_emit_spec_laws.specs.Calls.Built.{Activities, activity_at, site_at, unit_number}
use Rattle.bl_emit_spec_laws.specs.Calls.Calls.{CallAddresses, CallBegins, MayGive, input_values, output_values, where_true, written_by}
use Rattle.bl_emit_spec_laws.specs.Calls.Laws.{CompilationContext, scope_in}
use Rattle.bl_emit_spec_laws.specs.Calls.Invariant.{PlacesAreSeparate}
use Rattle.bl_emit_spec_laws.specs.Activities.{PointersLead}
use Rattle.bl_emit_spec_laws_files.specs.Begins.{FunctionsBeginInContext, PointersFollow}
use Rattle.bl_emit_spec_laws_files.proofs.OnBegins.Given.{apart_split, inputs_many}
use Rattle.bl_emit_spec_laws_files.proofs.OnBegins.Given.{outputs_many, place_output}
use Rattle.bl_emit_spec_laws_files.proofs.OnBegins.Places.{as_many, lead_to, places_stand}
use Rattle.bl_emit_spec_laws_files.proofs.OnBegins.Pointers.{frame_given, memory_given, over_given, result_given}
use Rattle.bl_emit_spec_laws.proofs.OnActivities.Nested.{unit_there}
use Rattle.bl_emit_functions_laws_simulation.proofs.OnCalls.Handing.{all_front, get_behind, length_both}

-- what is said of all that may be written is said of the outputs
of_outputs : (test : Location → Bool) (unit : UnitDef) (remembers : Bool) (given : CallAddresses) →
    list_all test (written_by unit remembers given) ≡ true →
    list_all test given.outputs ≡ true
of_outputs test unit remembers given all =
    let ends = where_true (is_some unit.result) given.result ++ where_true (unit_may_end unit) given.over in
    let rest = where_true remembers given.memory ++ (given.outputs ++ ends) in
    (all_front test given.outputs ends
    (all_front test (where_true remembers given.memory) (given.outputs ++ ends) (and_second (test given.frame) (list_all test rest) all)).1).0

-- so the inputs and outputs may be handed over
may_pass : (unit : UnitDef) (remembers : Bool) (depth : ℕ) (given : CallAddresses) → MayGive unit remembers depth given →
    MayPass depth given.inputs given.outputs
may_pass unit remembers depth given may =
    let ends = where_true (is_some unit.result) given.result ++ where_true (unit_may_end unit) given.over in
    let rest = where_true remembers given.memory ++ (given.outputs ++ ends) in
    record {
      apart =
          (apart_split given.outputs ends
          (apart_split (where_true remembers given.memory) (given.outputs ++ ends)
          (and_second (list_all (are_apart given.frame) rest) (all_apart rest) may.apart)).2).1;
      inputs_apart =
          of_outputs (λ (place : Location). list_all (are_apart place) (places_in_args given.inputs)) unit remembers given may.inputs_apart;
      live = of_outputs (λ (place : Location). is_live depth place.root) unit remembers given may.live;
    }

module _ (structs : List StructDef) (units : List UnitDef) (entry : ℕ) (orderly : AcceptedIsOrderly) (hands : HandsOver structs units entry)
    (machine : List InMachine) (activities : Activities) (i : ℕ) (unit : UnitDef) (known : Table Meaning) (depth : ℕ) (given : CallAddresses)
    (frames : Frames) (store : Store) (here : Memory) (compiled : CompilationContext structs units entry machine activities)
    (there : unit_at (setting_of structs units entry) i ≡ Some unit)
    (may : MayGive unit (remembers_any (activity_at (setting_of structs units entry) activities i)) depth given)
    (begins : CallBegins (setting_of structs units entry) activities i unit depth given frames store here) where
  abbrev w : Setting
  w = setting_of structs units entry

  abbrev k : ℕ
  k = unit_number w i

  abbrev a : Activity
  a = activities k

  abbrev values : List Value
  values = input_values w store i unit ++ output_values w store i unit

  pub stands_there : slice_get units (unit_number (setting_of structs units entry) i) ≡ Some unit
  stands_there = unit_there w i unit there

  pub unit_is : (activities (unit_number (setting_of structs units entry) i)).unit ≡ unit
  unit_is = compiled.built.unit k unit stands_there

  pub structs_are : (activities (unit_number (setting_of structs units entry) i)).structs ≡ structs
  structs_are = compiled.built.structures k unit stands_there

  ordered : OrderlyUnit structs units unit
  ordered = (orderly structs units entry compiled.well_typed compiled.passes).each i unit there

  pub standing : roles_stand (activities (unit_number (setting_of structs units entry) i)).unit ≡ true
  standing = ap roles_stand unit_is ∙ ordered.roles

  pub active : is_activity (activities (unit_number (setting_of structs units entry) i)).unit.kind ≡ true
  active = ap (λ (u : UnitDef). is_activity u.kind) unit_is ∙ ordered.activity

  pub few : length (activities (unit_number (setting_of structs units entry) i)).unit.vars ≤ 2 ^ 64
  few = subst (λ (u : UnitDef). length u.vars ≤ 2 ^ 64) (sym unit_is) (compiled.vars unit ordered.is_there)

  given_over : HandedOver structs unit (depth + 1) here values (given.inputs ++ map by_address given.outputs)
  given_over =
      hands k unit depth here (input_values w store i unit) (output_values w store i unit) given.inputs given.outputs compiled.well_typed stands_there
      begins.inputs begins.outputs (may_pass unit (remembers_any a) depth given may)

  pub handed : HandedOver (activities (unit_number (setting_of structs units entry) i)).structs
      (activities (unit_number (setting_of structs units entry) i)).unit (depth + 1) here
      (input_values (setting_of structs units entry) store i unit ++ output_values (setting_of structs units entry) store i unit)
      (given.inputs ++ map by_address given.outputs)
  handed =
      subst (λ (s : List StructDef). HandedOver s a.unit (depth + 1) here values (given.inputs ++ map by_address given.outputs)) (sym structs_are)
      (subst (λ (u : UnitDef). HandedOver structs u (depth + 1) here values (given.inputs ++ map by_address given.outputs)) (sym unit_is) given_over)

  counted : length (given.inputs ++ map by_address given.outputs) ≡ unit.inputs + unit.outputs
  counted =
      let within : unit.inputs + unit.outputs ≤ length unit.vars = leb-true (unit.inputs + unit.outputs) (length unit.vars)
      (and_first _ _ ordered.roles) in
      let total : length (parameters_of unit) ≡ unit.inputs + unit.outputs =
      omega (arith, length-take (unit.inputs + unit.outputs) unit.vars, within) in
      let parts : length (parameters_of unit) ≡ length (inputs_of unit) + length (outputs_of unit) =
      ap length (take-add unit.inputs unit.outputs unit.vars) ∙ length_both (inputs_of unit) (outputs_of unit) in
      let both : length (given.inputs ++ map by_address given.outputs) ≡ length given.inputs + length (map by_address given.outputs) =
      length_both given.inputs (map by_address given.outputs) in
      let mapped : length (map by_address given.outputs) ≡ length given.outputs = map_length by_address given.outputs in
      let ins : length given.inputs ≡ length (inputs_of unit) =
      inputs_many structs depth here (inputs_of unit) (input_values w store i unit) given.inputs begins.inputs in
      let outs : length given.outputs ≡ length (outputs_of unit) =
      outputs_many structs here (outputs_of unit) (output_values w store i unit) given.outputs begins.outputs in
      omega (arith, total, parts, both, mapped, ins, outs)

  pub many : length (given.inputs ++ map by_address given.outputs) ≡ (activities (unit_number (setting_of structs units entry) i)).unit.inputs
      + (activities (unit_number (setting_of structs units entry) i)).unit.outputs
  many = counted ∙ ap (λ (u : UnitDef). u.inputs + u.outputs) (sym unit_is)

  pub gives : MayGive (activities (unit_number (setting_of structs units entry) i)).unit
      (remembers_any (activities (unit_number (setting_of structs units entry) i))) depth given
  gives = subst (λ (u : UnitDef). MayGive u (remembers_any a) depth given) (sym unit_is) may

  -- ---- where pointers lead

  input_count : length given.inputs ≡ a.unit.inputs
  input_count =
      let within : unit.inputs + unit.outputs ≤ length unit.vars = leb-true (unit.inputs + unit.outputs) (length unit.vars)
      (and_first _ _ ordered.roles) in
      let ins : length given.inputs ≡ length (inputs_of unit) =
      inputs_many structs depth here (inputs_of unit) (input_values w store i unit) given.inputs begins.inputs in
      let all : length (inputs_of unit) ≡ unit.inputs = omega (arith, length-take unit.inputs unit.vars, within) in
      ins ∙ (all ∙ ap (λ (u : UnitDef). u.inputs) (sym unit_is))

  counted_args : length (given.inputs ++ map by_address given.outputs) ≡ length (parameters_of a.unit)
  counted_args = as_many a standing active few known depth given values here handed many gives

  output_less : (j : ℕ) (place : Location) → slice_get given.outputs j ≡ Some place → a.unit.inputs + j < a.unit.inputs + a.unit.outputs
  output_less j place is =
      let less : j < length given.outputs = slice_get_within given.outputs j place is in
      let both : length (given.inputs ++ map by_address given.outputs) ≡ length given.inputs + length (map by_address given.outputs) =
      length_both given.inputs (map by_address given.outputs) in
      let mapped : length (map by_address given.outputs) ≡ length given.outputs = map_length by_address given.outputs in
      omega (arith, less, both, mapped, many, input_count)

  own_pointers : PointersLead w activities i a.unit (scope_in w activities i a.unit known depth given) given
  own_pointers = record {
    frame = frame_given a known (depth + 1) given counted_args;
    over = over_given a known (depth + 1) given counted_args;
    memory = memory_given a known (depth + 1) given counted_args;
    result = result_given a known (depth + 1) given counted_args;
    outputs = λ j place is.
        lead_to a standing active few known depth given values here handed many gives (a.unit.inputs + j) place (output_less j place is)
        (get_behind given.inputs (map by_address given.outputs) a.unit.inputs j (a.unit.inputs + j) input_count refl
        ∙ place_output given.outputs j place is);
  }

  pub pointers_go : PointersLead (setting_of structs units entry) activities i unit
      (scope_in (setting_of structs units entry) activities i unit known depth given) given
  pointers_go = subst (λ (u : UnitDef). PointersLead w activities i u (scope_in w activities i u known depth given) given) unit_is own_pointers

  own_places : PlacesAreSeparate (site_at w activities i) a.unit (remembers_any a) (scope_in w activities i a.unit known depth given)
  own_places = places_stand a standing active few known depth given values here handed many gives

  pub places_are : PlacesAreSeparate (site_at (setting_of structs units entry) activities i) unit
      (remembers_any (activity_at (setting_of structs units entry) activities i))
      (scope_in (setting_of structs units entry) activities i unit known depth given)
  places_are =
      subst (λ (u : UnitDef). PlacesAreSeparate (site_at w activities i) u (remembers_any a)
      (scope_in w activities i u known depth given)) unit_is own_places

  pub kind_is : is_activity unit.kind ≡ true
  kind_is = ordered.activity

pub pointers_follow : (structs : List StructDef) (units : List UnitDef) (entry : ℕ) → AcceptedIsOrderly → HandsOver structs units entry →
    PointersFollow structs units entry
pointers_follow structs units entry orderly hands machine activities i unit known depth given frames store here compiled there may begins =
    pointers_go structs units entry orderly hands machine activities i unit known depth given frames store here compiled there may begins

pub functions_stand_all : (structs : List StructDef) (units : List UnitDef) (entry : ℕ) → AcceptedIsOrderly → HandsOver structs units entry →
    FunctionsBeginInContext structs units entry
functions_stand_all structs units entry orderly hands machine activities i unit known depth given frames store here compiled there may begins agree
    come =
    record {
      is_there = stands_there structs units entry orderly hands machine activities i unit known depth given frames store here compiled there may
          begins;
      active = kind_is structs units entry orderly hands machine activities i unit known depth given frames store here compiled there may begins;
      places = places_are structs units entry orderly hands machine activities i unit known depth given frames store here compiled there may begins;
      functions = agree;
      others = λ u other less at kind. come u less;
    }
