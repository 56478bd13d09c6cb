-- An activity remembers what those that it runs do.
use Rattle.std.proofs.Common.{◌≡◌, inl, inr, ℕ, suc, ◌<◌, Bool, true, false, ◌&&◌, List}
use Rattle.std.proofs.Common.{[], ◌∷◌, ◌++◌, Contains, Option, Some, None}
use Rattle.std.proofs.Common.{length, map, take, get_or, nat_eq, unwrap_or, refl, sym, ap}
use Rattle.std.proofs.Common.{subst, ◌∙◌, arith, eqb-true, lt-ltb, if◌then◌else◌}
use Rattle.std.proofs.lemmas.List.{length-append}
use Rattle.std.proofs.lemmas.List.Quantifiers.{position-Some}
use Rattle.std.specs.Prelude.{option_and_then, option_map, slice_get}
use Rattle.bl_tree.proofs.Basics.{and_first, get_within, same_some}
use Rattle.bl_tree.specs.declared.c.CMember.{CMember}
use Rattle.bl_tree.specs.declared.place.Place.{Place}
use Rattle.bl_tree.specs.declared.tree.StructDef.{StructDef}
use Rattle.bl_tree.specs.declared.tree.Unit.{Unit as UnitDef}
use Rattle.bl_tree.specs.Reduce.{joined}
use Rattle.bl_tree.specs.Rules.{same_place}
use Rattle.bl_tree.specs.Typing.{site_of}
use Rattle.bl_tree.proofs.FirstLemmas.{In, contains_in}
use Rattle.bl_graph_nodes.specs.Nodes.{nodes_in}
use Rattle.bl_graph_nodes.specs.Plain.{Block, plain_body}
use Rattle.bl_ctree.specs.declared.instance.Instance.{Instance}
use Rattle.bl_ctree.specs.declared.instance.Origin.{Origin}
use Rattle.bl_ctree.specs.declared.instance.Run.{Run}
use Rattle.bl_ctree.specs.Instances.{Setting, begins_at, callee_of, runs_in, runs_of, setting_of, unit_at, unit_of}
use Rattle.bl_ctree_laws.specs.Trees.{Call}
use Rattle.bl_ctree_laws_confluence.specs.Deeds.Orderly.{AcceptedIsOrderly}
use Rattle.bl_ctree_laws_confluence.specs.Deeds.Origins.{CalledBy, HasCaller, InstancesHaveCallers}
use Rattle.bl_ctree_laws_traces.proofs.OnProgress.Earlier.{RunsUnit, body_runs}
use Rattle.bl_ctree_laws_traces.proofs.OnBounded.Callees.{taken_before, typed_at}
use Rattle.bl_ctree_laws_traces.proofs.OnBounded.Calls.{calls_in, run_of}
use Rattle.bl_ctree_laws_traces.proofs.OnBounded.Statements.{body_few}
use Rattle.bl_machine.specs.declared.machine.Activity.{Activity as InMachine}
use Rattle.bl_machine_pass_laws.specs.Turns.Laws.{StaysPlaced}
use Rattle.bl_machine_transitions.specs.Callees.{callees_in}
use Rattle.bl_emit_spec.specs.Activities.{word_of_run, Activity, RunAt, activity_view, body_of, memory_member, remembered, remembers_any, runs_in_body}
use Rattle.bl_emit_functions.specs.Functions.{members_of, memory_name}
use Rattle.bl_emit_spec.specs.Activities.{struct_member}
use Rattle.bl_emit_spec.specs.Blocks.{name_in}
use Rattle.bl_emit_spec.specs.Names.{callee_name}
use Rattle.bl_emit_spec_laws.specs.Calls.Built.{Activities, activity_at, unit_number}
use Rattle.bl_emit_spec_laws.specs.Calls.Laws.{CompilationContext}
use Rattle.bl_emit_spec_laws.proofs.OnRemember.Entering.{Entered, EnteredAt, HasRun, calls_entered, entered_at, has_run}
use Rattle.bl_emit_spec_laws.proofs.OnRunPlaces.Sharing.{run_kept}
use Rattle.bl_ctree_laws_confluence.proofs.OnDeeds.Activities.{taken}
use Rattle.bl_ctree_laws_traces.proofs.OnBounded.Callees.{all_among}
use Rattle.bl_ctree_laws_traces.proofs.OnBounded.ByPlace.{once_among}

-- an image is that of an element
pub record Image (runs : List Call) (run : Run) : Type 0 where
  pub call : Call
  pub there : In call runs
  pub is : run ≡ run_of call

pub image_of : (calls : List Call) (run : Run) → In run (map run_of calls) → Image calls run
image_of [] run at = absurd at
image_of (c ∷ calls) run (inl is) = record { call = c; there = inl refl; is = is }
image_of (c ∷ calls) run (inr at) =
    let rest = image_of calls run at in record { call = rest.call; there = inr rest.there; is = rest.is }

-- ---- members

shown : (b : Bool) (x : CMember) → b ≡ true → 0 < length (if b then x ∷ [] else [])
shown true x on = let one : 0 < suc 0 = omega arith in one
shown false x on = absurd cc

member_there : (a : Activity) (run : RunAt) → (activity_view a).remembers run.unit ≡ true → 0 < length (memory_member a run)
member_there a run on =
    shown ((activity_view a).remembers run.unit)
    (struct_member (callee_name (word_of_run a.earlier run)) (memory_name (name_in (slice_get a.earlier run.unit)))) on

joined_there : (a : Activity) (u : ℕ) (runs : List RunAt) → HasRun u runs → (activity_view a).remembers u ≡ true →
    0 < length (joined (map (memory_member a) runs))
joined_there a u [] has on = absurd has
joined_there a u (run ∷ runs) (inl is) on =
    let own = member_there a run (ap (activity_view a).remembers is ∙ on) in
    let all = length-append (memory_member a run) (joined (map (memory_member a) runs)) in
    let more : 0 < length (memory_member a run ++ joined (map (memory_member a) runs)) = omega arith in more
joined_there a u (run ∷ runs) (inr has) on =
    let rest = joined_there a u runs has on in
    let all = length-append (memory_member a run) (joined (map (memory_member a) runs)) in
    let more : 0 < length (memory_member a run ++ joined (map (memory_member a) runs)) = omega arith in more

remembers : (a : Activity) (u : ℕ) → HasRun u (runs_in_body a) → (activity_view a).remembers u ≡ true → remembers_any a ≡ true
remembers a u has on =
    let rest = joined_there a u (runs_in_body a) has on in
    let all = length-append (members_of a.structs a.earlier a.unit) (joined (map (memory_member a) (runs_in_body a))) in
    lt-ltb 0 (length (remembered a)) (let more : 0 < length (remembered a) = omega arith in more)

-- ---- programs

module _ (orderly : AcceptedIsOrderly) (callers : InstancesHaveCallers) (placed : StaysPlaced) (structs : List StructDef) (units : List UnitDef)
    (entry : ℕ) (machine : List InMachine) (activities : Activities) (compiled : CompilationContext structs units entry machine activities)
  where
    abbrev w : Setting
    w = setting_of structs units entry

    number_is : (i : ℕ) (instance : Instance) → slice_get w.instances i ≡ Some instance → unit_number w i ≡ instance.unit
    number_is i instance there = ap (λ found. unwrap_or (option_map (λ (one : Instance). one.unit) found) 0) there

    -- the unit of an instance
    unit_there : (i : ℕ) (unit : UnitDef) → unit_at w i ≡ Some unit → slice_get units (unit_number w i) ≡ Some unit
    unit_there i unit is = by_instance (slice_get w.instances i) is
      where
        by_instance : (found : Option Instance) → option_and_then (unit_of w) found ≡ Some unit →
            slice_get units (unwrap_or (option_map (λ (one : Instance). one.unit) found) 0) ≡ Some unit
        by_instance None e = absurd (cc)
        by_instance (Some instance) e = e

    module _ (i j : ℕ) (unit : UnitDef) (is : unit_at w i ≡ Some unit) (on : remembers_any (activity_at w activities j) ≡ true) where
      abbrev k : ℕ
      k = unit_number w i

      abbrev a : Activity
      a = activities k

      abbrev body : Block
      body = plain_body unit.body

      there : slice_get units k ≡ Some unit
      there = unit_there i unit is

      -- a `run` of the body that began the instance
      by_run : (instance : Instance) (run : Run) → slice_get w.instances j ≡ Some instance → In run (joined (map runs_in unit.body)) →
          instance.unit ≡ run.unit → remembers_any a ≡ true
      by_run instance run at among is_unit =
          let typed = typed_at structs [] units k unit compiled.well_typed.units_stand there in
          let runs = all_among (RunsUnit (take k units)) (joined (map runs_in unit.body)) run
          (body_runs (site_of structs (take k units) unit) unit.body typed) among in
          let callee_there = taken units k run.unit runs.callee runs.there in
          let less = taken_before units k run.unit runs.callee runs.there in
          let found : unit_at w j ≡ Some runs.callee =
          ap (option_and_then (unit_of w)) at ∙ ap (slice_get units) is_unit ∙ callee_there in
          let active = ((orderly structs units entry compiled.well_typed compiled.passes).each j runs.callee found).activity in
          let kept = compiled.built.remember k run.unit unit runs.callee there callee_there less in
          let number : unit_number w j ≡ run.unit = number_is j instance at ∙ is_unit in
          let own : remembers_any (activities run.unit) ≡ true = ap (λ n. remembers_any (activities n)) (sym number) ∙ on in
          let told : (activity_view a).remembers run.unit ≡ true =
          ap (λ found. unwrap_or found false) kept ∙ ap (λ b. b && remembers_any (activities run.unit)) active ∙ own in
          let image = image_of (calls_in body) run
          (subst (λ rs. In run rs) (sym (body_few (site_of structs (take k units) unit) unit.body typed).are) among) in
          let same : image.call.unit ≡ run.unit = sym (ap (λ (r : Run). r.unit) image.is) in
          let entered : Entered run.unit (nodes_in body) (callees_in body) =
          subst (λ u. Entered u (nodes_in body) (callees_in body)) same (calls_entered body image.call image.there) in
          let own_unit : a.unit ≡ unit = compiled.built.unit k unit there in
          let by : EnteredAt run.unit (nodes_in (body_of a)) (callees_in (body_of a)) =
          subst (λ (u : UnitDef). EnteredAt run.unit (nodes_in (plain_body u.body)) (callees_in (plain_body u.body))) (sym own_unit)
          (entered_at run.unit (nodes_in body) (callees_in body) entered) in
          let has : HasRun run.unit (runs_in_body a) =
          has_run (runs_in_body a) (record { place = by.at; number = (activity_view a).run by.at; unit = run.unit })
          (run_kept placed.nodes a structs units entry compiled.well_typed k (there ∙ ap Some (sym own_unit)) by.position run.unit by.label by.at by.arguments
          by.node by.callee) in
          remembers a run.unit has told

      by_origin : (at : Place) (instance : Instance) → slice_get w.instances j ≡ Some instance → (o : Option Origin) → instance.origin
          ≡ o →
          begins_at i at o ≡ true → remembers_any a ≡ true
      by_origin at instance found None of e = absurd (cc)
      by_origin at instance found (Some origin) of e =
          let called : CalledBy units w.instances j instance origin =
          subst (HasCaller units entry w.instances j instance) of (callers units entry j instance found) in
          let by : origin.caller ≡ i = eqb-true origin.caller i (and_first (nat_eq origin.caller i) (same_place origin.place at) e) in
          let calling : unit_at w origin.caller ≡ Some called.unit = ap (option_and_then (unit_of w)) called.there ∙ called.body in
          let same : called.unit ≡ unit = same_some called.unit unit (sym calling ∙ ap (unit_at w) by ∙ is) in
          let among : In called.run (joined (map runs_in unit.body)) =
          once_among (joined (map runs_in unit.body)) called.run
          (contains_in called.run (runs_of unit) (subst (λ (u : UnitDef). Contains (runs_of u) called.run) same called.runs)) in
          by_run instance called.run found among called.names

      pub caller_remembers : (at : Place) → callee_of w i at ≡ Some j → remembers_any a ≡ true
      caller_remembers at begins =
          let d : Instance = record { unit = 0; depth = 0; origin = None } in
          let position = position-Some (λ (instance : Instance). begins_at i at instance.origin) w.instances j d begins in
          by_origin at (get_or w.instances j d) (get_within w.instances j d position.0) (get_or w.instances j d).origin refl position.1
