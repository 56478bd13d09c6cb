-- What the call that a `run` makes is given.
use Rattle.std.proofs.Common.{◌≡◌, ℕ, ◌+◌, ◌<◌, ◌≤◌, arith, Bool, true, false}
use Rattle.std.proofs.Common.{◌&&◌, ◌++◌, List, [], Contains, map, take, drop, length, get_or}
use Rattle.std.proofs.Common.{Option, Some, None, refl, sym, ap, ◌∙◌, subst}
use Rattle.std.proofs.lemmas.Option.{slice_get-get_or}
use Rattle.std.specs.Prelude.{option_map, slice_get, unwrap_or}
use Rattle.bl_tree.proofs.Basics.{get_taken}
use Rattle.bl_tree.specs.declared.place.Place.{Place}
use Rattle.bl_tree.specs.declared.tree.Path.{Path}
use Rattle.bl_tree.specs.declared.tree.StructDef.{StructDef}
use Rattle.bl_tree.specs.declared.tree.Unit.{Unit as UnitDef}
use Rattle.bl_tree.specs.declared.tree.Var.{Var}
use Rattle.bl_tree.specs.declared.value.Value.{Value}
use Rattle.bl_tree.specs.declared.value.Value.TheVariants.{Parts}
use Rattle.bl_tree.specs.Static.{static_of}
use Rattle.bl_tree.specs.Typing.{TypingContext, inputs_of, is_activity, outputs_of, site_of, type_of, types_match, var_at}
use Rattle.bl_eval.specs.Meaning.{View as Sight}
use Rattle.bl_graph_nodes.specs.Nodes.{Arguments, EnterAt}
use Rattle.bl_graph_nodes.specs.Plain.{Label, plain_body}
use Rattle.bl_ctext_semantics.specs.Memory.{Location, Memory}
use Rattle.bl_ctext_semantics.specs.Meaning.{ArgumentValue, Scope, by_address}
use Rattle.bl_ctree.specs.declared.instance.Instance.{Instance}
use Rattle.bl_ctree.specs.Actions.{Copies, done, values_there}
use Rattle.bl_ctree.specs.Instances.{Setting, setting_of}
use Rattle.bl_ctree.specs.Store.{Store, view_at, with_frame, with_inputs}
use Rattle.bl_ctree_laws.specs.Ends.{done_by}
use Rattle.bl_ctree_laws.specs.Pending.{deed}
use Rattle.bl_ctree_laws_confluence.specs.Apart.Outputs.{RunsWith}
use Rattle.bl_ctree_laws_confluence.specs.Apart.Owned.{SomeIn}
use Rattle.bl_ctree_laws_confluence.specs.Deeds.Nesting.{ProgramsNest}
use Rattle.bl_ctree_laws_confluence.specs.Deeds.Origins.{HomesLeadOut, InstancesHaveCallers}
use Rattle.bl_ctree_laws_typing.specs.Fits.{HasFrame, StoreFits}
use Rattle.bl_ctree_laws_typing.specs.Views.{ViewsAreTyped}
use Rattle.bl_ctree_laws_confluence.specs.Stores.{FramesKeepOthers, HomesLeadOn}
use Rattle.bl_emit_acts.specs.Acts.{call_args, is_copied}
use Rattle.bl_emit_acts.specs.declared.home.Home.TheVariants.{Held}
use Rattle.bl_emit_acts.specs.Places.{home_of}
use Rattle.bl_emit_acts_laws_simulation.specs.Acts.{OutputsEncoded}
use Rattle.bl_emit_acts_laws_simulation.specs.Arguments.{ArgumentsGiven, ArgumentsPass, ArgumentsSimulate, arguments_c}
use Rattle.bl_emit_acts_laws_simulation.specs.Encodes.{home_at}
use Rattle.bl_emit_acts_laws_simulation.specs.Laws.{BesideActs, FramesApart}
use Rattle.bl_emit_acts_laws_simulation.specs.Simulation.{ArgumentsEncoded}
use Rattle.bl_emit_spec.specs.Activities.{activity_view, copies_of, remembers_any}
use Rattle.bl_machine.specs.declared.machine.Activity.{Activity as InMachine}
use Rattle.bl_machine_laws.specs.Passes.Follows.{DeedYields}
use Rattle.bl_machine_pass.specs.Registers.{Registers}
use Rattle.bl_machine_pass.specs.Transitions.{Transition, rules}
use Rattle.bl_machine_pass_laws_execution.specs.Executes.{CopiesMatch}
use Rattle.bl_machine_pass_laws.specs.Turns.Laws.{StaysPlaced}
use Rattle.bl_machine_pass_laws_typing.proofs.OnFits.Doing.{copy_fits, stands_at}
use Rattle.bl_machine_pass_laws_execution.specs.Frames.{Frames}
use Rattle.bl_machine_pass_laws_execution.specs.Kept.Outputs.{IsRunNode, OutputsLead, RulesRun}
use Rattle.bl_emit_spec_laws.specs.Registers.Registers.{frame_at}
use Rattle.bl_emit_acts_laws_simulation.specs.Frames.{remembered_at}
use Rattle.bl_emit_spec_laws.specs.Calls.Built.{Activities, activity_at, run_by, site_at, slots_by, unit_number}
use Rattle.bl_emit_spec_laws.specs.Calls.Calls.{CallBegins, MayGive, input_values, output_values}
use Rattle.bl_emit_spec_laws.specs.Calls.Laws.{Midway}
use Rattle.bl_emit_spec_laws.specs.Calls.Memories.{MemoryEncodes, inner}
use Rattle.bl_emit_spec_laws.specs.Calls.Invariant.{PlacesAreSeparate}
use Rattle.bl_emit_spec_laws_nodes.specs.Calling.{NotEnded, PlaceLeads, RunEstablishes, RunOf, RunsEstablish, RunsStand, call_written, given_by}
use Rattle.bl_emit_spec_laws_nodes.specs.Points.Nodes.{PrevsAgree, ViewsFit}
use Rattle.bl_emit_spec_laws_nodes.proofs.OnPoints.Besides.{apart, beside, site_is}
use Rattle.bl_emit_spec_laws_nodes.proofs.OnViews.Leaving.{held_led}
use Rattle.bl_emit_spec_laws.specs.Remember.{CallersRemember}
use Rattle.bl_emit_spec_laws_simulation.proofs.OnGives.Arguing.{RunArgues, run_argues}
use Rattle.bl_emit_spec_laws_simulation.proofs.OnGives.Keeping.{may_give}
use Rattle.bl_emit_spec_laws_simulation.proofs.OnGives.Leading.{inputs_long, lead_at, outputs_long, place_at}
use Rattle.bl_emit_spec_laws_simulation.proofs.OnGives.Lists.{get_behind, mapped_from, taken_is}
use Rattle.bl_emit_spec_laws_simulation.proofs.OnGives.Roles.{held_behind, parameters_few, roles_at}
use Rattle.bl_emit_spec_laws_simulation.proofs.OnGives.Stored.{Copied, copied, inputs_are, kept_seen, output_seen}
use Rattle.bl_emit_spec_laws_simulation.proofs.OnGives.Values.{values_same}
use Rattle.bl_emit_spec_laws_simulation.proofs.OnGives.Writing.{written_given, written_traps}
use Rattle.bl_emit_spec.specs.Names.{NumberedWord}
use Rattle.bl_emit_spec_laws.proofs.OnActivities.Nested.{unit_there}

-- the laws on which all stands
pub record Laws (structs : List StructDef) (units : List UnitDef) (entry : ℕ) : Type 0 where
  pub callers : InstancesHaveCallers
  pub homes : HomesLeadOut
  pub nest : ProgramsNest
  pub views : ViewsAreTyped
  pub along : HomesLeadOn
  pub keep : FramesKeepOthers
  pub arguments : ArgumentsPass structs units entry
  pub apart : FramesApart
  pub agree : PrevsAgree
  pub remember : CallersRemember
  pub outputs : OutputsLead
  pub runs : RulesRun
  pub placed : StaysPlaced

module _ (structs : List StructDef) (units : List UnitDef) (entry : ℕ) (laws : Laws structs units entry) (machine : List InMachine)
    (activities : Activities) (stand : RunsStand units) (i : ℕ) (unit : UnitDef) (scope : Scope) (frames : Frames) (store : Store)
    (copies : List Value) (r : Registers) (here : Memory)
    (midway : Midway structs units entry machine activities i unit scope frames store copies r here) (l : Label) (at : Place) (arguments : Arguments)
    (j : ℕ) (other : UnitDef) (run : RunOf (setting_of structs units entry) activities i unit l at arguments j other)
    (sees : CopiesMatch (setting_of structs units entry) i (EnterAt l at arguments) store copies) where
  abbrev w : Setting
  w = setting_of structs units entry

  abbrev k : ℕ
  k = unit_number w i

  abbrev u : ℕ
  u = unit_number w j

  abbrev n : NumberedWord
  n = run_by w activities i at

  abbrev site : TypingContext
  site = site_of structs (take k units) unit

  abbrev sight : Sight
  sight = record { now = (view_at w store i).now; before = copies }

  abbrev remembers : Bool
  remembers = remembers_any (activity_at w activities i)

  abbrev has : Bool
  has = remembers_any (activity_at w activities j)

  views_fit : ViewsFit structs units entry
  views_fit i unit store is fits = (laws.views structs units entry i unit store midway.compiled.well_typed is fits).now

  site_same : site_at w activities i ≡ site
  site_same = site_is laws.apart structs units entry views_fit machine activities i unit scope frames store copies r here midway

  there_unit : slice_get units k ≡ Some unit
  there_unit = midway.function.is_there

  there_other : slice_get units u ≡ Some other
  there_other = unit_there w j other run.is_there

  -- ---- arguments

  beside_acts : BesideActs structs units k unit sight (is_copied (copies_of unit)) scope here
  beside_acts =
      let apart_here = apart laws.apart structs units entry views_fit machine activities i unit scope frames store copies r here midway in
      record {
        beside = beside laws.apart structs units entry views_fit machine activities i unit scope frames store copies r here midway;
        apart = apart_here.variables;
        copies_apart = apart_here.copies;
        procedures = midway.function.functions.procedures;
      }

  argues : RunArgues structs units k unit arguments other
  argues =
      run_argues structs units entry laws.callers midway.compiled.well_typed midway.compiled.passes i unit midway.is_there l at arguments j other run.node
      run.callee run.is_there

  abbrev answer : Option (List ArgumentValue)
  answer = arguments_c (call_args site arguments.inputs arguments.outputs) scope here

  abbrev Come : Option (List Value) → Type 0
  Come values = ArgumentsSimulate structs site sight scope here (inputs_of other) (outputs_of other) arguments.outputs values answer

  come : Come (values_there w store i arguments.inputs)
  come =
      subst Come (sym (values_same laws.agree w i unit store midway.is_there copies arguments.inputs sees))
      (laws.arguments k unit sight (copies_of unit) scope here arguments.inputs arguments.outputs (inputs_of other) (outputs_of other)
      midway.compiled.well_typed beside_acts argues.inputs argues.outputs argues.outlets
      (stand.inputs k unit l at arguments there_unit run.node) (stand.outputs k unit l at arguments there_unit run.node) argues.alone)

  -- ---- the call

  earlier_is : slice_get (activity_view (activity_at w activities i)).site.earlier u ≡ Some other
  earlier_is =
      ap (λ earlier. slice_get earlier u) (midway.compiled.built.earlier k unit there_unit) ∙ (get_taken units k u run.earlier ∙ there_other)

  remembers_is : (activity_view (activity_at w activities i)).remembers u ≡ has
  remembers_is =
      ap (λ o. unwrap_or o false) (midway.compiled.built.remember k u unit other there_unit there_other run.earlier)
      ∙ ap (λ b. b && has) run.active

  between_is : (o : Option (List ArgumentValue)) → answer ≡ o →
      arguments_c (call_args (activity_view (activity_at w activities i)).site arguments.inputs arguments.outputs) scope here ≡ o
  between_is o is = ap (λ site. arguments_c (call_args site arguments.inputs arguments.outputs) scope here) site_same ∙ is

  pub traps : done_by w (deed i at (Copies j arguments.inputs)) store ≡ None →
      (call_written w activities i n u arguments scope here).result ≡ None
  traps stops =
      written_traps (activity_view (activity_at w activities i)) n u arguments other has scope here earlier_is remembers_is
      (between_is None (subst Come (none_there (values_there w store i arguments.inputs) stops) come))
    where
      none_there : (o : Option (List Value)) → option_map (λ values. done (with_frame j (with_inputs values) store)) o ≡ None → o ≡ None
      none_there None is = refl
      none_there (Some values) is = absurd (cc)

  -- ---- what it is given

  module _ (given : Store) (does : DeedYields w (deed i at (Copies j arguments.inputs)) store true given) (not_ended : NotEnded other scope here) where
    abbrev c : Copied w i j arguments.inputs store given
    c = copied w i j at arguments.inputs store given does

    args : ArgumentsGiven structs site sight scope here (inputs_of other) (outputs_of other) arguments.outputs c.values answer
    args = subst Come c.are come

    places : PlacesAreSeparate site unit remembers scope
    places = subst (λ (site : TypingContext). PlacesAreSeparate site unit remembers scope) site_same midway.function.places

    few : other.inputs + other.outputs ≤ length other.vars
    few = parameters_few other (roles_at structs units entry u other midway.compiled.well_typed there_other)

    long : length c.values ≡ other.inputs
    long = inputs_long other few structs scope.depth here c.values args.inputs args.hold

    frame_there : HasFrame w store j other
    frame_there = midway.fits.each j other run.is_there

    abbrev left : Store
    left = with_frame j (with_inputs c.values) store

    may : MayGive other has scope.depth (given_by scope n args.inputs args.outputs)
    may =
        may_give site unit remembers scope places midway.function.active n other has args.inputs args.outputs
        (laws.remember structs units entry machine activities i j unit l at arguments midway.compiled midway.is_there run.node run.callee)
        args.may args.inputs_apart args.outputs_apart

    leads : (x : ℕ) (path : Path) (place : Location) → slice_get arguments.outputs x ≡ Some path → slice_get args.outputs x ≡ Some place →
        PlaceLeads (site_at w activities i) scope path place
    leads x path place there at_place =
        let lead = (place_at site sight.now scope arguments.outputs args.read args.outputs args.leads x path place there at_place).1 in
        subst (λ (site : TypingContext). PlaceLeads site scope path place) (sym site_same)
        (record { var = lead.var; is_there = lead.is_there; is = lead.is })

    -- ---- values

    inputs_same : input_values w left j other ≡ c.values
    inputs_same = inputs_are laws.keep laws.homes laws.along structs units entry (laws.nest structs units entry) j other run.is_there store frame_there
        c.values long few

    some_in : SomeIn (RunsWith at arguments.outputs) (plain_body unit.body)
    some_in =
        let slots = slots_by w activities in
        let found =
        mapped_from (λ (rule : Transition). rule.node) (rules (slots i) (plain_body unit.body)) (EnterAt l at arguments)
        (subst (λ nodes. Contains nodes (EnterAt l at arguments)) (sym (laws.placed.nodes (slots i) (plain_body unit.body))) run.node) in
        laws.runs slots i unit found.0 at arguments.outputs found.1
        (subst (λ n. IsRunNode n at arguments.outputs) (sym found.2) (refl, refl))

    output_same : (x : ℕ) → x < other.outputs → slice_get (drop other.inputs (view_at w left j).now) x ≡ slice_get args.read x
    output_same x less =
        let inside : x < length args.read =
        (let long_read : length args.read ≡ other.outputs = outputs_long other few structs here args.read args.outputs args.outputs_hold in
        omega (arith, less, long_read)) in
        let v : Value = get_or args.read x (Parts []) in
        let got : slice_get args.read x ≡ Some v = slice_get-get_or args.read x (Parts []) inside in
        let lead = lead_at site sight.now scope arguments.outputs args.read args.outputs args.leads x v got in
        get_behind (view_at w left j).now other.inputs x
        ∙ (output_seen laws.keep laws.homes laws.along structs units entry (laws.nest structs units entry) j other run.is_there store frame_there
        c.values long few i x at (static_of lead.path) v run.callee less
        ((laws.outputs structs units entry midway.compiled.well_typed).homes i j x at arguments.outputs unit other lead.path midway.is_there run.is_there
        some_in run.callee less lead.got) lead.leads.has
        ∙ sym got)

    outputs_same : output_values w left j other ≡ args.read
    outputs_same =
        taken_is (drop other.inputs (view_at w left j).now) args.read other.outputs
        (outputs_long other few structs here args.read args.outputs args.outputs_hold) output_same

    -- ---- what is kept

    behind : (x v : ℕ) (var : Var) → var_at (site_at w activities x) v ≡ Some var → home_at (site_at w activities x) v ≡ Held → j ≡ x →
        other.inputs ≤ v
    behind x v var known held same =
        let known_here : var_at (site_at w activities j) v ≡ Some var =
        subst (λ x. var_at (site_at w activities x) v ≡ Some var) (sym same) known in
        let held_here : home_at (site_at w activities j) v ≡ Held = subst (λ x. home_at (site_at w activities x) v ≡ Held) (sym same) held in
        let unit_is : (activity_at w activities j).unit ≡ other = midway.compiled.built.unit u other there_other in
        held_behind other v (site_at w activities j) var (ap (λ (unit : UnitDef). is_activity unit.kind) unit_is ∙ run.active)
        (roles_at structs units entry u other midway.compiled.well_typed there_other)
        (ap (λ (unit : UnitDef). slice_get unit.vars v) (sym unit_is) ∙ known_here) (sym (ap (home_of (site_at w activities j)) known_here) ∙ held_here)

    memory_holds : MemoryEncodes w activities j (inner (frame_at scope) n) (inner (remembered_at scope) n) frames left here
    memory_holds =
        let kept = midway.stands.callees l at arguments j run.node run.callee in
        record {
          counters = kept.counters;
          variables = λ x f' m' nests v var value known held now.
              kept.variables x f' m' nests v var value known held
              (sym (kept_seen laws.keep laws.homes laws.along structs units entry (laws.nest structs units entry) j other run.is_there store
              frame_there c.values long few x v (held_led structs units entry machine activities midway.compiled x v var known held)
              (behind x v var known held)) ∙ now);
        }

    -- ---- types

    fitting : StoreFits w given
    fitting =
        let stands = stands_at structs units entry i unit midway.is_there in
        let number_is : k ≡ stands.instance.unit =
        ap (λ o. unwrap_or (option_map (λ (instance : Instance). instance.unit) o) 0) stands.there in
        copy_fits laws.callers laws.views structs units entry midway.compiled.well_typed i unit midway.is_there store midway.fits j other arguments.inputs
        given run.is_there
        (subst (λ k. types_match (map (type_of (site_of structs (take k units) unit)) arguments.inputs) (inputs_of other) ≡ true) number_is
        argues.inputs) does

    begins : CallBegins w activities j other scope.depth (given_by scope n args.inputs args.outputs) frames given here
    begins = record {
      memory = subst (λ store. MemoryEncodes w activities j (inner (frame_at scope) n) (inner (remembered_at scope) n) frames store here) c.is
          memory_holds;
      inputs = subst (λ store. ArgumentsEncoded structs scope.depth here (inputs_of other) (input_values w store j other) args.inputs) c.is
          (subst (λ values. ArgumentsEncoded structs scope.depth here (inputs_of other) values args.inputs) (sym inputs_same) args.hold);
      outputs = subst (λ store. OutputsEncoded structs here (outputs_of other) (output_values w store j other) args.outputs) c.is
          (subst (λ values. OutputsEncoded structs here (outputs_of other) values args.outputs) (sym outputs_same) args.outputs_hold);
      over = not_ended;
      fits = fitting;
      within = midway.frames_within;
    }

    pub gives : RunEstablishes w activities i scope n arguments j other frames given here
    gives = record {
      inputs = args.inputs;
      outputs = args.outputs;
      count = _;
      called = written_given (activity_view (activity_at w activities i)) n u arguments other has scope here earlier_is remembers_is args.inputs args.outputs
          (between_is (Some (args.inputs ++ map by_address args.outputs)) args.are);
      leads = leads;
      may = may;
      begins = begins;
    }

pub runs_are_given : (structs : List StructDef) (units : List UnitDef) (entry : ℕ) → Laws structs units entry → (machine : List InMachine)
    (activities : Activities) → RunsStand units → RunsEstablish structs units entry machine activities
runs_are_given structs units entry laws machine activities stand = record {
  gives = λ i unit scope frames store copies r here l at arguments j other given midway run not_ended sees does.
      gives structs units entry laws machine activities stand i unit scope frames store copies r here midway l at arguments j other run sees given does
      not_ended;
  stops = λ i unit scope frames store copies r here l at arguments j other midway run sees stops.
      traps structs units entry laws machine activities stand i unit scope frames store copies r here midway l at arguments j other run sees stops;
}
