-- The instance that a `run` at a node begins or goes on with is of the activity that the node calls.
use Rattle.std.proofs.Common.{◌≡◌, ℕ, ◌<◌, Bool, true, false, List, [], Contains}
use Rattle.std.proofs.Common.{Option, Some, None, map, take, get_or, nat_eq, unwrap_or}
use Rattle.std.proofs.Common.{refl, sym, ap, subst, ◌∙◌, arith, eqb-true}
use Rattle.std.proofs.lemmas.List.Quantifiers.{position-Some}
use Rattle.std.proofs.lemmas.Option.{same_Some}
use Rattle.std.specs.Prelude.{option_and_then, option_map, slice_get}
use Rattle.bl_tree.proofs.Basics.{and_first, and_second, contains_at, get_within}
use Rattle.bl_tree.specs.declared.tree.StructDef.{StructDef}
use Rattle.bl_tree.specs.declared.tree.Unit.{Unit as UnitDef}
use Rattle.bl_tree.specs.Reduce.{joined}
use Rattle.bl_tree.specs.Rules.{same_place}
use Rattle.bl_tree.specs.Typing.{site_of}
use Rattle.bl_graph_nodes.specs.Nodes.{EnterAt, nodes_in}
use Rattle.bl_graph_nodes.specs.Plain.{Block, plain_body}
use Rattle.bl_ctree.specs.declared.instance.Instance.{Instance}
use Rattle.bl_ctree.specs.declared.instance.Origin.{Origin}
use Rattle.bl_ctree.specs.declared.instance.Run.{Run}
use Rattle.bl_ctree.specs.Instances.{Setting, begins_at, callee_of, runs_in, runs_of, setting_of, unit_at, unit_of}
use Rattle.bl_ctree_laws.specs.Trees.{Call}
use Rattle.bl_ctree_laws_confluence.specs.Deeds.Orderly.{AcceptedIsOrderly}
use Rattle.bl_ctree_laws_confluence.specs.Deeds.Origins.{CalledBy, HasCaller, InstancesHaveCallers}
use Rattle.bl_ctree_laws_traces.proofs.OnProgress.Earlier.{RunsUnit, body_runs}
use Rattle.bl_ctree_laws_traces.proofs.OnBounded.Callees.{taken_before, typed_at}
use Rattle.bl_ctree_laws_traces.proofs.OnBounded.Calls.{calls_in}
use Rattle.bl_ctree_laws_traces.proofs.OnBounded.Statements.{body_few}
use Rattle.bl_machine.specs.declared.machine.Activity.{Activity as InMachine}
use Rattle.bl_machine_transitions.specs.Callees.{callees_in}
use Rattle.bl_emit_spec_laws.specs.Calls.Built.{Activities, unit_number}
use Rattle.bl_emit_spec_laws.specs.Calls.Laws.{CompilationContext}
use Rattle.bl_emit_spec_laws_nodes.specs.Calling.{RunOf}
use Rattle.bl_emit_spec_laws.proofs.OnRunPlaces.Sharing.{calls_share}
use Rattle.bl_emit_spec_laws.proofs.OnRunPlaces.Entered.{call_there, calls_in_are, entered_at, node_by}
use Rattle.bl_ctree_laws_confluence.proofs.OnDeeds.Activities.{taken}
use Rattle.bl_ctree_laws_traces.proofs.OnBounded.Callees.{all_among}
use Rattle.bl_ctree_laws_traces.proofs.OnBounded.ByPlace.{once_among}
use Rattle.bl_tree.proofs.FirstLemmas.{same_true, In, contains_in}
use Rattle.bl_emit_spec_laws.proofs.OnActivities.Nested.{unit_there}
use Rattle.bl_emit_spec_laws.proofs.OnRemember.Remembering.{image_of}

-- ---- units of instances

number_is : (w : Setting) (i : ℕ) (instance : Instance) → slice_get w.instances i ≡ Some instance → unit_number w i ≡ instance.unit
number_is w i instance there = ap (λ found. unwrap_or (option_map (λ (one : Instance). one.unit) found) 0) there

-- ---- the `run`

-- the `run` of the node is one of the instance, and calls the unit at the position
pub record CallsUnit (w : Setting) (activities : Activities) (i : ℕ) (unit : UnitDef) (s : Call) (j : ℕ) : Type 0 where
  pub other : UnitDef
  pub run : RunOf w activities i unit s.label s.place s.arguments j other
  pub number : unit_number w j ≡ s.unit

module _ (orderly : AcceptedIsOrderly) (callers : InstancesHaveCallers) (structs : List StructDef) (units : List UnitDef) (entry : ℕ)
    (machine : List InMachine) (activities : Activities) (compiled : CompilationContext structs units entry machine activities) (i : ℕ) (unit : UnitDef)
    (is : unit_at (setting_of structs units entry) i ≡ Some unit)
  where
    abbrev w : Setting
    w = setting_of structs units entry

    abbrev k : ℕ
    k = unit_number w i

    abbrev body : Block
    body = plain_body unit.body

    there : slice_get units k ≡ Some unit
    there = unit_there w i unit is

    -- `run`s of one place call one unit
    same_units : (s t : Call) → In s (calls_in body) → In t (calls_in body) → s.place ≡ t.place → s.unit ≡ t.unit
    same_units = calls_share structs units entry compiled.well_typed k unit there

    module _ (j : ℕ) (s : Call) (within : In s (calls_in body)) (begins : callee_of w i s.place ≡ Some j) where
      -- a `run` of the body that began the instance
      by_run : (instance : Instance) (run : Run) → slice_get w.instances j ≡ Some instance → In run (joined (map runs_in unit.body)) →
          instance.unit ≡ run.unit → s.place ≡ run.place → CallsUnit w activities i unit s j
      by_run instance run at among is_unit place =
          let typed = typed_at structs [] units k unit compiled.well_typed.units_stand there in
          let runs = all_among (RunsUnit (take k units)) (joined (map runs_in unit.body)) run
          (body_runs (site_of structs (take k units) unit) unit.body typed) among in
          let callee_there = taken units k run.unit runs.callee runs.there in
          let less = taken_before units k run.unit runs.callee runs.there in
          let found : unit_at w j ≡ Some runs.callee =
          ap (option_and_then (unit_of w)) at ∙ ap (slice_get units) is_unit ∙ callee_there in
          let active = ((orderly structs units entry compiled.well_typed compiled.passes).each j runs.callee found).activity in
          let number : unit_number w j ≡ run.unit = number_is w j instance at ∙ is_unit in
          let image = image_of (calls_in body) run
          (subst (λ rs. In run rs) (sym (body_few (site_of structs (take k units) unit) unit.body typed).are) among) in
          let same : s.unit ≡ image.call.unit =
          same_units s image.call within image.there (place ∙ ap (λ (r : Run). r.place) image.is) in
          let here = entered_at (nodes_in body) (callees_in body) s (subst (In s) (sym (calls_in_are false body)) within) in
          record {
            other = runs.callee;
            run = record {
              node = contains_at (nodes_in body) here.position (EnterAt s.label s.place s.arguments) here.node;
              callee = begins;
              is_there = found;
              active = active;
              earlier = subst (λ n. n < k) (sym number) less;
            };
            number = number ∙ (ap (λ (r : Run). r.unit) image.is ∙ sym same);
          }

      by_origin : (instance : Instance) → slice_get w.instances j ≡ Some instance → (o : Option Origin) → instance.origin ≡ o →
          begins_at i s.place o ≡ true → CallsUnit w activities i unit s j
      by_origin instance found None of e = absurd (cc)
      by_origin instance found (Some origin) of e =
          let called : CalledBy units w.instances j instance origin =
          subst (HasCaller units entry w.instances j instance) of (callers units entry j instance found) in
          let by : origin.caller ≡ i = eqb-true origin.caller i (and_first (nat_eq origin.caller i) (same_place origin.place s.place) e) in
          let place : origin.place ≡ s.place =
          same_true origin.place s.place (and_second (nat_eq origin.caller i) (same_place origin.place s.place) e) in
          let calling : unit_at w origin.caller ≡ Some called.unit = ap (option_and_then (unit_of w)) called.there ∙ called.body in
          let same : called.unit ≡ unit = same_Some called.unit unit (sym calling ∙ ap (unit_at w) by ∙ is) in
          let among : In called.run (joined (map runs_in unit.body)) =
          once_among (joined (map runs_in unit.body)) called.run
          (contains_in called.run (runs_of unit) (subst (λ (u : UnitDef). Contains (runs_of u) called.run) same called.runs)) in
          by_run instance called.run found among called.names (sym place ∙ called.place)

      pub calls_unit : CallsUnit w activities i unit s j
      calls_unit =
          let d : Instance = record { unit = 0; depth = 0; origin = None } in
          let position = position-Some (λ (instance : Instance). begins_at i s.place instance.origin) w.instances j d begins in
          by_origin (get_or w.instances j d) (get_within w.instances j d position.0) (get_or w.instances j d).origin refl position.1

    -- so it is of each node of a `run`, be it the first or the second
    pub node_calls : (late : Bool) (s : Call) (p j : ℕ) → slice_get (nodes_in body) p ≡ Some (node_by late s) →
        slice_get (callees_in body) p ≡ Some s.unit → callee_of w i s.place ≡ Some j → CallsUnit w activities i unit s j
    node_calls late s p j node unit_is begins =
        calls_unit j s
        (subst (In s) (calls_in_are late body) (call_there late (nodes_in body) (callees_in body) p s node unit_is)) begins
