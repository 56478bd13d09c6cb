-- What the call of a `run` leaves: memory stands for the caller again.
use Rattle.std.proofs.Common.{◌≡◌, ℕ, ℤ, pos, ◌+◌, ◌<◌, ◌^◌, Bool, true, false, List}
use Rattle.std.proofs.Common.{[], ◌∷◌, ◌++◌, map, take, drop, length, Contains}
use Rattle.std.proofs.Common.{Some, nat_eq, refl, sym, ap, ◌∙◌, subst}
use Rattle.std.proofs.lemmas.Bool.{eq-eqb, eqb-true}
use Rattle.std.proofs.lemmas.Option.{same_Some}
use Rattle.std.specs.Prelude.{IsPermutation, bytes_eq, option_and_then, slice_get, unwrap_or, if◌then◌else◌}
use Rattle.bl_tree.proofs.Basics.{contains_at, numbers_differ}
use Rattle.bl_tree.specs.declared.place.Place.{Place}
use Rattle.bl_tree.specs.declared.static_path.Static.{Static}
use Rattle.bl_tree.specs.declared.tree.Path.{Path}
use Rattle.bl_tree.specs.declared.tree.StructDef.{StructDef}
use Rattle.bl_tree.specs.declared.tree.Unit.{Unit as UnitDef}
use Rattle.bl_tree.specs.declared.tree.Var.{Var}
use Rattle.bl_tree.specs.declared.value.Value.{Value}
use Rattle.bl_tree.specs.declared.value.Value.TheVariants.{Parts}
use Rattle.bl_tree.specs.Static.{overlaps, static_of}
use Rattle.bl_tree.specs.Typing.{TypingContext, is_activity, outputs_of, site_of, var_at}
use Rattle.bl_cause.specs.Activities.{activities as activities_of, graph_position}
use Rattle.bl_cause.proofs.PairLemmas.{each_at, filtered_at}
use Rattle.bl_eval.specs.Values.{number_in as number_of_value, value_fits}
use Rattle.bl_eval.proofs.PartFits.{Fits}
use Rattle.bl_eval.proofs.PassLemmas.{pass_at}
use Rattle.bl_graph_nodes.specs.Nodes.{Arguments, EnterAt, Node, nodes_in}
use Rattle.bl_graph_nodes.specs.Plain.{Label, plain_body}
use Rattle.bl_ctext_semantics.specs.Meaning.{Scope, further, named_location}
use Rattle.bl_ctext_semantics.specs.Memory.{Location, Memory, member, value_at}
use Rattle.bl_ctree.specs.Actions.{Copies}
use Rattle.bl_ctree.specs.Instances.{Setting, callee_of, setting_of}
use Rattle.bl_ctree.specs.declared.instance.Instance.{Instance}
use Rattle.bl_ctree.specs.declared.instance.Origin.{Origin}
use Rattle.bl_ctree.specs.Store.{Store, home, value_among, variable_among, vars_at, view_at, whole_of}
use Rattle.bl_ctree_laws.specs.Pending.{deed}
use Rattle.bl_ctree_laws_confluence.specs.Deeds.Homes.{HomesAreApart, OutputsAreApart}
use Rattle.bl_ctree_laws_confluence.specs.Deeds.Nesting.{Inside, InstancesNest, ProgramsNest}
use Rattle.bl_ctree_laws_confluence.specs.Deeds.Orderly.{AcceptedIsOrderly}
use Rattle.bl_ctree_laws_confluence.specs.Deeds.Origins.{InstancesHaveCallers}
use Rattle.bl_ctree_laws_typing.specs.Fits.{StoreFits}
use Rattle.bl_ctree_laws_typing.specs.Views.{ViewsAreTyped}
use Rattle.bl_ctree_laws_confluence.specs.Stores.{HomesLeadOn, now_of}
use Rattle.bl_emit_acts.specs.Acts.{is_copied}
use Rattle.bl_emit_acts.specs.declared.home.Home.TheVariants.{Held}
use Rattle.bl_emit_acts.specs.Types.{copy_name, variable_name}
use Rattle.bl_emit_acts_laws_simulation.specs.Frames.{FrameApart, remembered_at}
use Rattle.bl_emit_acts_laws_simulation.specs.Encodes.{CopiesEncoded, Encodes, VariablesEncoded, home_at, location_in, number_within, way_to}
use Rattle.bl_emit_acts_laws_simulation.specs.Laws.{FramesApart}
use Rattle.bl_emit_spec.specs.Activities.{Activity, copies_of, remembers_any}
use Rattle.bl_emit_spec.specs.Names.{NumberedWord, callee_name, counter_name}
use Rattle.bl_emit_spec.specs.Blocks.{unit_may_end}
use Rattle.bl_emit_spec_laws.specs.Registers.Laws.{RegistersKeepApart}
use Rattle.bl_emit_spec_laws.specs.Registers.Registers.{RegistersApart, RegistersBeside, frame_at}
use Rattle.bl_machine.specs.declared.machine.Activity.{Activity as InMachine}
use Rattle.bl_machine.specs.Blocks.{Ordered, up_to}
use Rattle.bl_machine.specs.Machines.{IsActivityOf}
use Rattle.bl_machine_laws.specs.Passes.Follows.{DeedYields}
use Rattle.bl_machine_pass.specs.Registers.{Registers, with_at}
use Rattle.bl_machine_pass_laws_execution.specs.Executes.{Executes}
use Rattle.bl_machine_pass_laws.specs.Turns.Laws.{StaysPlaced}
use Rattle.bl_machine_pass_laws_typing.specs.Fits.{PassesKeepTypes}
use Rattle.bl_machine_pass_laws_execution.specs.Frames.{Frames}
use Rattle.bl_machine_pass_laws_execution.specs.Kept.Kept.{StoreKept}
use Rattle.bl_machine_pass_laws_execution.specs.Kept.Laws.{InputsGoIn, PassesKeep}
use Rattle.bl_machine_pass_laws_execution.specs.Kept.Outputs.{OutputsLead, OutputsLeadIn, RulesRun}
use Rattle.bl_machine_pass_laws_execution.proofs.OnPerforms.Touching.{one_place}
use Rattle.bl_machine_pass_laws.specs.Keys.{NodesHaveKeys}
use Rattle.bl_emit_spec_laws_nodes.specs.Calling.{PlaceLeads, RunEstablishes, RunLeaves, RunOf, call_given, given_by}
use Rattle.bl_emit_spec_laws.specs.Calls.Built.{Activities, activity_at, cleared, rank_by, registered, run_by, site_at, slots_by, unit_number}
use Rattle.bl_emit_spec_laws.specs.Calls.Calls.{CallLeaves, output_values}
use Rattle.bl_emit_spec_laws.specs.Calls.Laws.{CompilationContext, Midway, PassKeepsFrame}
use Rattle.bl_emit_spec_laws.specs.Calls.Memories as memories
use Rattle.bl_emit_spec_laws.specs.Calls.Memories.{MemoryEncodes, Nests, inner}
use Rattle.bl_emit_spec_laws.specs.Calls.Invariant.{PassRepresents, PlacesAreSeparate}
use Rattle.bl_emit_spec_laws.specs.Cleared.{ClearingIsInside}
use Rattle.bl_emit_spec_laws_nodes.specs.Points.Laws.{Remembering}
use Rattle.bl_emit_spec_laws_nodes.proofs.OnPoints.Apart.{nests_beyond}
use Rattle.bl_emit_spec_laws_nodes.proofs.OnPoints.Changes.{holds_same, registers_keep}
use Rattle.bl_emit_spec_laws.specs.Remember.{CallersRemember}
use Rattle.bl_emit_spec_laws_nodes.specs.Views.{CalleesRemember, RememberingStands}
use Rattle.bl_emit_spec_laws_nodes.proofs.OnViews.Leaving.{held_led, nests_inside, own_home, same_mapped}
use Rattle.bl_emit_spec_laws_simulation.specs.Leaves.{AllRunsLeave}
use Rattle.bl_emit_spec_laws_simulation.proofs.OnLeaves.Homes.{caller_now, inner_now, not_itself, not_within, result_kept}
use Rattle.bl_emit_spec_laws_simulation.proofs.OnLeaves.Kept.{PlaceIn, copy_same, counters_same, memories_same, outside_same, register_same, result_same}
use Rattle.bl_emit_spec_laws_simulation.proofs.OnLeaves.Kept.{variable_same}
use Rattle.bl_emit_spec_laws.proofs.OnRunPlaces.Sharing.{FirstNode, first_node}
use Rattle.bl_emit_spec_laws_simulation.proofs.OnLeaves.Numbers.{callees_differ, one_number}
use Rattle.bl_emit_spec_laws_simulation.proofs.OnLeaves.Outputs.{HoldAt, dropped_get, hold_by_place, hold_by_var, taken_get}
use Rattle.bl_emit_spec_laws_simulation.proofs.OnLeaves.Seen.{home_further, number_of_home, path_at, seen_number}
use Rattle.bl_emit_spec_laws_simulation.proofs.OnLeaves.Types.{OutputOf, begun as begun_with, output_of, output_there, path_there}
use Rattle.bl_emit_spec_laws_simulation.proofs.OnLeaves.Types.{stands as stands_there}
use Rattle.bl_emit_spec_laws_simulation.proofs.OnLeaves.Variables.{OutputLeft, variable_holds}

-- the laws of which this is made
pub record Laws : Type 0 where
  pub orderly : AcceptedIsOrderly
  pub homes : HomesAreApart
  pub callers : InstancesHaveCallers
  pub nest : ProgramsNest
  pub views : ViewsAreTyped
  pub leads : HomesLeadOn
  pub frames : FramesApart
  pub registers : RegistersKeepApart
  pub clearing : ClearingIsInside
  pub remember : CallersRemember
  pub remembering : RememberingStands
  pub types : PassesKeepTypes
  pub inputs : InputsGoIn
  pub outputs : OutputsLead
  pub passes : PassesKeep
  pub run : RulesRun
  pub keys : NodesHaveKeys
  pub placed : StaysPlaced

-- the place of a `run`'s node
abbrev run_place : Node → Place → Place
run_place (EnterAt l at arguments) d = at
run_place _ d = d

module _ (laws : Laws) (structs : List StructDef) (units : List UnitDef) (entry : ℕ) (machine : List InMachine) (activities : Activities)
    (i : ℕ) (unit : UnitDef) (scope : Scope) (frames : Frames) (store : Store) (copies : List Value) (r : Registers) (here : Memory) (l : Label)
    (at : Place) (arguments : Arguments) (j : ℕ) (other : UnitDef) (given : Store) (begun : Registers) (frames' : Frames) (left : Store)
    (r' : Registers)
    (midway : Midway structs units entry machine activities i unit scope frames store copies r here)
    (run : RunOf (setting_of structs units entry) activities i unit l at arguments j other)
    (copied : DeedYields (setting_of structs units entry) (deed i at (Copies j arguments.inputs)) store true given)
    (gives : RunEstablishes (setting_of structs units entry) activities i scope
    (run_by (setting_of structs units entry) activities i at) arguments j other frames given here)
    (executes : Executes (setting_of structs units entry) (rank_by (setting_of structs units entry) activities)
    (slots_by (setting_of structs units entry) activities) (cleared (setting_of structs units entry)) j 0 frames given
    (view_at (setting_of structs units entry) given j).now begun frames' left r')
    (called : CallLeaves (setting_of structs units entry) activities j other scope.depth
    (given_by scope (run_by (setting_of structs units entry) activities i at) gives.inputs gives.outputs) frames' left r' here
    (call_given (setting_of structs units entry) activities j other scope
    (run_by (setting_of structs units entry) activities i at) gives.inputs gives.outputs here)) where
  abbrev W : Setting
  W = setting_of structs units entry

  abbrev n : NumberedWord
  n = run_by W activities i at

  abbrev k : ℕ
  k = unit_number W i

  abbrev a : Activity
  a = activity_at W activities i

  abbrev site : TypingContext
  site = site_of structs (take k units) unit

  abbrev remembers : Bool
  remembers = remembers_any a

  abbrev takes : Bool
  takes = remembers_any (activity_at W activities j)

  abbrev after : Memory
  after = (call_given W activities j other scope n gives.inputs gives.outputs here).memory

  abbrev compiled : CompilationContext structs units entry machine activities
  compiled = midway.compiled

  abbrev there : slice_get units k ≡ Some unit
  there = midway.function.is_there

  abbrev active : is_activity unit.kind ≡ true
  active = midway.function.active

  site_same : site_at W activities i ≡ site
  site_same =
      let built = compiled.built in
      ap (λ structs. site_of structs a.earlier a.unit) (built.structures k unit there)
      ∙ (ap (λ earlier. site_of structs earlier a.unit) (built.earlier k unit there) ∙ ap (site_of structs (take k units)) (built.unit k unit there))

  places : PlacesAreSeparate site unit remembers scope
  places = subst (λ (site : TypingContext). PlacesAreSeparate site unit remembers scope) site_same midway.function.places

  apart_here : FrameApart site (is_copied (copies_of unit)) scope
  apart_here = laws.frames site (is_copied (copies_of unit)) scope places.pointers

  -- ---- what is remembered

  callees : CalleesRemember W activities
  callees i j unit l at arguments is node called on =
      laws.remember structs units entry machine activities i j unit l at arguments compiled is node called on

  remembering : Remembering W activities
  remembering = laws.remembering W activities callees

  so : takes ≡ true → remembers ≡ true
  so on = callees i j unit l at arguments midway.is_there run.node run.callee on

  held_here : (x : ℕ) (var : Var) → var_at site x ≡ Some var → home_at site x ≡ Held → remembers ≡ true
  held_here =
      subst (λ (site : TypingContext). (x : ℕ) (var : Var) → var_at site x ≡ Some var → home_at site x ≡ Held → remembers ≡ true) site_same
      (λ x var there held.
      remembering.each i i (frame_at scope) (remembered_at scope) (frame_at scope) (remembered_at scope) x var memories.here there held)

  is_unit : a.unit ≡ unit
  is_unit = compiled.built.unit k unit there

  registers_stand : RegistersApart (registered a) scope × RegistersBeside (registered a) site scope
  registers_stand = registers_keep laws.registers site unit remembers scope a is_unit (compiled.registers k unit there active) places

  -- ---- outputs

  abbrev lead : OutputsLeadIn structs units entry
  lead = laws.outputs structs units entry compiled.well_typed

  output : (o : ℕ) (path : Path) (var : Var) → slice_get arguments.outputs o ≡ Some path → slice_get (outputs_of other) o ≡ Some var →
      OutputOf site path var.ty
  output =
      output_of laws.callers laws.run laws.placed structs units entry compiled.well_typed lead i j k unit other l at arguments midway.is_there there
      run.node run.callee run.is_there (slots_by W activities)

  output_var : (o : ℕ) (path : Path) → slice_get arguments.outputs o ≡ Some path → (var : Var) × (slice_get (outputs_of other) o ≡ Some var)
  output_var =
      output_there laws.callers laws.run laws.placed structs units entry compiled.well_typed lead i j k unit other l at arguments midway.is_there there
      run.node run.callee run.is_there (slots_by W activities)

  output_path : (o : ℕ) (var : Var) → slice_get (outputs_of other) o ≡ Some var → (path : Path) × (slice_get arguments.outputs o ≡ Some path)
  output_path =
      path_there laws.callers laws.run laws.placed structs units entry compiled.well_typed lead i j k unit other l at arguments midway.is_there there
      run.node run.callee run.is_there (slots_by W activities)

  leads : (o : ℕ) (path : Path) (place : Location) → slice_get arguments.outputs o ≡ Some path → slice_get gives.outputs o ≡ Some place →
      PlaceLeads site scope path place
  leads o path place one two = subst (λ (site : TypingContext). PlaceLeads site scope path place) site_same (gives.leads o path place one two)

  -- where an output leads, by the variable of its type
  led_there : (o : ℕ) (path : Path) (place : Location) (var : Var) (one : slice_get arguments.outputs o ≡ Some path) →
      slice_get gives.outputs o ≡ Some place → (typed : slice_get (outputs_of other) o ≡ Some var) →
      place ≡ location_in scope site (static_of path).root (way_to structs (static_of path).fields (Some (output o path var one typed).var.ty))
  led_there o path place var one two typed =
      let led = leads o path place one two in
      let out = output o path var one typed in
      let same : led.var ≡ out.var = same_Some led.var out.var (sym led.is_there ∙ out.is_there) in
      led.is ∙ ap (λ (v : Var). location_in scope site (static_of path).root (way_to structs (static_of path).fields (Some v.ty))) same

  held_place : (o : ℕ) (place : Location) → slice_get gives.outputs o ≡ Some place →
      HoldAt structs after (outputs_of other) (output_values W left j other) gives.outputs o
  held_place o place is =
      hold_by_place structs after (outputs_of other) (output_values W left j other) gives.outputs called.outputs o place is

  from : (o : ℕ) (place : Location) → slice_get gives.outputs o ≡ Some place → (path : Path) × (slice_get arguments.outputs o ≡ Some path)
  from o place is = let held = held_place o place is in output_path o held.var held.var_there

  within : (o : ℕ) (place : Location) → slice_get gives.outputs o ≡ Some place → PlaceIn site scope place
  within o place is =
      let held = held_place o place is in
      let path = output_path o held.var held.var_there in
      let out = output o path.0 held.var path.1 held.var_there in
      record {
        root = (static_of path.0).root;
        var = out.var;
        is_there = out.is_there;
        writable = out.writable;
        way = way_to structs (static_of path.0).fields (Some out.var.ty);
        is = led_there o path.0 place held.var path.1 is held.var_there;
      }

  -- ---- stores

  -- the callee was begun with the outputs of the `run`
  begun_here : (instance : Instance) (origin : Origin) → slice_get W.instances j ≡ Some instance → instance.origin ≡ Some origin →
      origin.outputs ≡ map static_of arguments.outputs
  begun_here =
      begun_with laws.callers laws.run laws.placed structs units entry compiled.well_typed lead i j k unit other l at arguments midway.is_there there
      run.node run.callee run.is_there (slots_by W activities)

  -- no two outputs of a call overlap
  parted : OutputsAreApart W
  parted = (laws.orderly structs units entry compiled.well_typed compiled.passes).outputs

  kept_store : StoreKept W j other given left
  kept_store =
      (laws.passes structs units entry (rank_by W activities) (slots_by W activities) (cleared W)).stores j 0 other frames given
      (view_at W given j).now begun frames' left r' run.is_there executes

  fits_left : StoreFits W left
  fits_left =
      (laws.types structs units entry compiled.well_typed).executes (rank_by W activities) (slots_by W activities) (cleared W) j 0 frames given
      (view_at W given j).now begun frames' left r' gives.begins.fits executes

  abbrev nest : InstancesNest structs units entry
  nest = laws.nest structs units entry

  -- ---- variables

  module _ (x : ℕ) (var : Var) (value : Value) (known : var_at site x ≡ Some var) (now : slice_get (view_at W left i).now x ≡ Some value) where
    fit : Fits structs var.ty value
    fit =
        let found = pass_at (λ (var : Var). value_fits structs var.ty) unit.vars (view_at W left i).now x var
        (laws.views structs units entry i unit left compiled.well_typed midway.is_there fits_left).now known in
        subst (λ v. value_fits structs var.ty v ≡ true) (same_Some found.0 value (sym found.1 ∙ now)) found.2

    old_found : (old : Value) × (slice_get (view_at W store i).now x ≡ Some old)
    old_found =
        let found = pass_at (λ (var : Var). value_fits structs var.ty) unit.vars (view_at W store i).now x var
        (laws.views structs units entry i unit store compiled.well_typed midway.is_there midway.fits).now known in (found.0, found.1)

    was : Encodes structs var.ty old_found.0 (value_at here (location_in scope site x []))
    was =
        (subst (λ (site : TypingContext). VariablesEncoded site (view_at W store i).now scope here) site_same
        midway.stands.variables).each x var old_found.0 known
        old_found.1

    agree : (o : ℕ) (path : Path) (left_value : Value) (rest : List ℕ) → slice_get arguments.outputs o ≡ Some path →
        slice_get (output_values W left j other) o ≡ Some left_value → (static_of path).root ≡ x →
        number_within ((static_of path).fields ++ rest) value ≡ number_within rest left_value
    agree o path left_value rest there_path is root =
        let fields = (static_of path).fields in
        let y : ℕ = other.inputs + o in
        let first = taken_get other.outputs (drop other.inputs (view_at W left j).now) o left_value is in
        let seen : slice_get (view_at W left j).now y ≡ Some left_value = dropped_get other.inputs (view_at W left j).now o left_value first.0 in
        let stands =
        stands_there laws.callers laws.run laws.placed structs units entry compiled.well_typed lead i j k unit other l at arguments midway.is_there there
        run.node run.callee run.is_there (slots_by W activities) in
        let homes : home W (whole_of j y) ≡ home W (path_at i x fields) =
        lead.homes i j o at arguments.outputs unit other path midway.is_there run.is_there stands run.callee first.1 there_path
        ∙ ap (λ root. home W (path_at i root fields)) root in
        seen_number laws.leads W left i x value (fields ++ rest) now
        ∙ (ap (number_of_home left) (sym (home_further laws.leads W i j x y fields rest homes))
        ∙ sym (seen_number laws.leads W left j y left_value rest seen))

    out : (o : ℕ) (path : Path) → slice_get arguments.outputs o ≡ Some path → OutputLeft site scope after x value gives.outputs o path
    out o path is =
        let typed = output_var o path is in
        let held = hold_by_var structs after (outputs_of other) (output_values W left j other) gives.outputs called.outputs o typed.0 typed.1 in
        let same : held.var ≡ typed.0 = same_Some held.var typed.0 (sym held.var_there ∙ typed.1) in
        record {
          ty = typed.0.ty;
          out = output o path typed.0 is typed.1;
          place = held.place;
          there = held.place_there;
          is = led_there o path held.place typed.0 is held.place_there typed.1;
          left = held.value;
          holds = subst (λ (v : Var). Encodes structs v.ty held.value (value_at after held.place)) same held.holds;
          agrees = λ rest root. agree o path held.value rest is held.value_there root;
        }

    unchanged : (ks : List ℕ) (m : ℤ) → ((o : ℕ) (path : Path) → slice_get arguments.outputs o ≡ Some path →
        overlaps (record { root = x; fields = ks }) (static_of path) ≡ false) → number_within ks value ≡ Some m → number_within ks old_found.0 ≡ Some m
    unchanged ks m clear number =
        let path : Static = record { root = x; fields = ks } in
        seen_number laws.leads W store i x old_found.0 ks old_found.1
        ∙ (sym (ap (option_and_then number_of_value)
        (caller_now structs units entry nest laws.homes parted laws.inputs i j at
        run.callee other arguments.inputs arguments.outputs
        begun_here store given left copied kept_store path clear))
        ∙ (sym (seen_number laws.leads W left i x value ks now) ∙ number))

    variable_left : Encodes structs var.ty value (value_at after (location_in scope site x []))
    variable_left =
        variable_holds site compiled.well_typed.structs_stand scope here after arguments.outputs gives.outputs apart_here.variables x var known value
        old_found.0 fit was out from unchanged
        (variable_same site unit remembers scope places active held_here other takes so n gives.inputs gives.outputs within here after called.kept x var
        known (apart_here.live.each x var known))

  -- ---- callees

  own_unit : a.unit ≡ unit
  own_unit = compiled.built.unit k unit there

  permutes : IsPermutation (up_to (length (nodes_in (plain_body a.unit.body)))) a.order
  permutes =
      let own = each_at IsActivityOf (activities_of units) machine (graph_position units k) unit compiled.agrees
      (filtered_at (λ it. is_activity it.kind) units k unit there active) in
      let parts = compiled.built.made k unit there active in
      let same : own.0 ≡ parts.one = same_Some own.0 parts.one (sym own.1 ∙ parts.is) in
      let ordered : Ordered (plain_body unit.body) parts.one.blocks =
      subst (λ (one : InMachine). Ordered (plain_body unit.body) one.blocks) same own.2.order in
      subst (λ (u : UnitDef). IsPermutation (up_to (length (nodes_in (plain_body u.body)))) a.order) (sym own_unit)
      (subst (λ order. IsPermutation (up_to (length (nodes_in (plain_body unit.body)))) order) (sym parts.order) ordered.all)

  node_here : (x : Node) → Contains (nodes_in (plain_body unit.body)) x → Contains (nodes_in (plain_body a.unit.body)) x
  node_here x is = subst (λ (u : UnitDef). Contains (nodes_in (plain_body u.body)) x) (sym own_unit) is

  -- the first node at which a `run` at the place begins
  first_here : (l' : Label) (at' : Place) (arguments' : Arguments) → Contains (nodes_in (plain_body unit.body)) (EnterAt l' at' arguments') →
      FirstNode laws.placed.nodes a at'
  first_here l' at' arguments' is = first_node laws.placed.nodes a l' at' arguments' (node_here (EnterAt l' at' arguments') is)

  first_in : (at' : Place) (first : FirstNode laws.placed.nodes a at') →
      Contains (nodes_in (plain_body a.unit.body)) (EnterAt first.label at' first.arguments)
  first_in at' first = contains_at (nodes_in (plain_body a.unit.body)) first.position (EnterAt first.label at' first.arguments) first.is_there

  number_small : (l' : Label) (at' : Place) (arguments' : Arguments) → Contains (nodes_in (plain_body unit.body)) (EnterAt l' at' arguments') →
      (run_by W activities i at').number < 2 ^ 64
  number_small l' at' arguments' is =
      let first = first_here l' at' arguments' is in
      subst (λ m. m < 2 ^ 64) (sym first.number_is)
      (compiled.nodes k unit (EnterAt first.label at' first.arguments) there active
      (subst (λ (u : UnitDef). Contains (nodes_in (plain_body u.body)) (EnterAt first.label at' first.arguments)) own_unit (first_in at' first)))

  module _ (l' : Label) (at' : Place) (arguments' : Arguments) (c : ℕ)
      (is : Contains (nodes_in (plain_body unit.body)) (EnterAt l' at' arguments')) (calls : callee_of W i at' ≡ Some c) where
    abbrev n' : NumberedWord
    n' = run_by W activities i at'

    abbrev f : Location
    f = inner (frame_at scope) n'

    abbrev q : Location
    q = inner (remembered_at scope) n'

    abbrev Held_left : ℕ → NumberedWord → Type 0
    Held_left c n = MemoryEncodes W activities c (inner (frame_at scope) n) (inner (remembered_at scope) n) (with_at j r'.counters frames') left after

    -- the callee itself
    itself : c ≡ j → Held_left c n'
    itself same =
        let one : at ≡ at' = one_place W i j at at' run.callee (calls ∙ ap (λ c. Some c) same) in
        let numbers : n ≡ n' = ap (run_by W activities i) one in
        subst (λ c. Held_left c n') (sym same) (subst (λ n. Held_left j n) numbers called.memory)

    module _ (apart : c ≡ j → ⊥) where
      differ_numbers : n.number ≡ n'.number → ⊥
      differ_numbers same =
          let first = first_here l at arguments run.node in
          let second = first_here l' at' arguments' is in
          let nodes : EnterAt first.label at first.arguments ≡ EnterAt second.label at' second.arguments =
          one_number laws.keys a.unit.body a.order permutes (EnterAt first.label at first.arguments) (EnterAt second.label at' second.arguments)
          (first_in at first) (first_in at' second) (sym first.number_is ∙ (same ∙ second.number_is)) in
          let one : at ≡ at' = ap (λ n. run_place n at) nodes in
          apart (same_Some c j (sym calls ∙ (ap (callee_of W i) (sym one) ∙ run.callee)))

      differ : bytes_eq (callee_name n) (callee_name n') ≡ false
      differ = callees_differ n n' (number_small l at arguments run.node) (number_small l' at' arguments' is) differ_numbers

      inside : (x : ℕ) (f' m' : Location) → Nests W activities c f q x f' m' → Inside W c x
      inside x f' m' nests = nests_inside W activities c x f q f' m' nests

      frames_same : (x : ℕ) → Inside W c x → (y : ℕ) → with_at j r'.counters frames' x y ≡ frames x y
      frames_same x within_c y =
          let other_than = not_itself structs units entry nest laws.homes
          parted laws.inputs i j at run.callee other arguments.inputs
          arguments.outputs
          begun_here store given left copied kept_store c at' calls apart x within_c in
          let outside = not_within structs units entry nest laws.homes
          parted laws.inputs i j at run.callee other arguments.inputs
          arguments.outputs
          begun_here store given left copied kept_store c at' calls apart x within_c in
          ap (λ (b : Bool). (if b then r'.counters else frames' x) y) (numbers_differ x j other_than)
          ∙ (laws.passes structs units entry (rank_by W activities) (slots_by W activities) (cleared W)).counters j 0 frames given
          (view_at W given j).now begun frames' left r' (laws.clearing.inside structs units entry) executes x outside y

      view_same : (x v : ℕ) (var : Var) → Inside W c x → var_at (site_at W activities x) v ≡ Some var →
          home_at (site_at W activities x) v ≡ Held →
          slice_get (view_at W store x).now v ≡ slice_get (view_at W left x).now v
      view_same x v var within_c known held =
          let own = own_home W x v (held_led structs units entry machine activities compiled x v var known held) in
          let kept = inner_now structs units entry nest laws.homes
          parted laws.inputs i j at run.callee other arguments.inputs
          arguments.outputs
          begun_here store given left copied kept_store c at' calls apart x within_c v in
          same_mapped (variable_among now_of W store x) (variable_among now_of W left x) (length (vars_at W x)) v
          (ap (λ o. unwrap_or o (Parts []))
          (ap (value_among now_of store) own ∙ (sym kept ∙ ap (value_among now_of left) (sym own))))

      others : Held_left c n'
      others = record {
        counters = λ x f' m' nests y below.
            counters_same site unit remembers scope places active held_here other takes so n gives.inputs gives.outputs within here after called.kept
            n' differ f' (nests_beyond W activities c x f q f' m' nests).0 (member (counter_name y) ∷ []) []
            ∙ ((midway.stands.callees l' at' arguments' c is calls).counters x f' m' nests y below
            ∙ ap pos (sym (frames_same x (inside x f' m' nests) y)));
        variables = λ x f' m' nests v var value known held now.
            holds_same structs var.ty value here after (further m' (member (variable_name (site_at W activities x).vars v) ∷ []))
            (memories_same site unit remembers scope places active held_here other takes so n gives.inputs gives.outputs within here after called.kept
            n' differ
            (remembering.each i x (frame_at scope) (remembered_at scope) f' m' v var (memories.inside midway.is_there is calls nests) known held)
            m' (nests_beyond W activities c x f q f' m' nests).1 (member (variable_name (site_at W activities x).vars v) ∷ []))
            ((midway.stands.callees l' at' arguments' c is calls).variables x f' m' nests v var value known held
            (view_same x v var (inside x f' m' nests) known held ∙ now));
      }

    callee_left : Held_left c n'
    callee_left = by (nat_eq c j) refl
      where
        no_such : true ≡ false → ⊥
        no_such h = cc

        by : (b : Bool) → nat_eq c j ≡ b → Held_left c n'
        by true same = itself (eqb-true c j same)
        by false apart = others (λ same. no_such (sym (eq-eqb c j same) ∙ apart))

  -- ---- all of it

  stands : PassRepresents W activities i unit scope (with_at j r'.counters frames') left copies r after
  stands = record {
    registers = record {
      each = λ x its.
          register_same site unit remembers scope places active held_here other takes so n gives.inputs gives.outputs within here after called.kept
          (registered a) (ap unit_may_end is_unit) registers_stand.0 registers_stand.1 x its []
          ∙ midway.stands.registers.each x its;
    };
    variables =
        subst (λ (site : TypingContext). VariablesEncoded site (view_at W left i).now scope after) (sym site_same)
        (record { each = λ x var value known now. variable_left x var value known now });
    copied =
        subst (λ (site : TypingContext). CopiesEncoded site copies (is_copied (copies_of unit)) scope after) (sym site_same)
        (record {
          each = λ x var value its known now.
              holds_same structs var.ty value here after (named_location scope false (copy_name site.vars x))
              (copy_same site unit remembers scope places active held_here other takes so n gives.inputs gives.outputs within here after called.kept x
              (λ y v there_v. apart_here.copies.variables y x v there_v its))
              ((subst (λ (site : TypingContext). CopiesEncoded site copies (is_copied (copies_of unit)) scope here) site_same
              midway.stands.copied).each x var value
              its known now);
        });
    callees = λ l' at' arguments' c is calls. callee_left l' at' arguments' c is calls;
    result = λ value over one told.
        result_same site unit remembers scope places active held_here other takes so n gives.inputs gives.outputs within here after called.kept one []
        ∙ midway.stands.result value over one
        (sym (result_kept structs units entry nest laws.homes parted laws.inputs i j
        at run.callee other arguments.inputs arguments.outputs
        begun_here store given left copied kept_store) ∙ told);
  }

  pub leaves : RunLeaves W activities i unit scope n j other (with_at j r'.counters frames') left copies r r'.over here after
  leaves = record {
    stands = stands;
    kept = subst (λ (site : TypingContext). PassKeepsFrame site unit remembers scope here after) (sym site_same)
        (outside_same site unit remembers scope places active held_here other takes so n gives.inputs gives.outputs within here after called.kept);
    over = called.over;
    result = called.result;
  }

pub runs_leave_so : Laws → AllRunsLeave
runs_leave_so laws structs units entry machine activities i unit scope frames store copies r here l at arguments j other given begun frames' left r'
    midway run copied gives starts executes called =
    leaves laws structs units entry machine activities i unit scope frames store copies r here l at arguments j other given begun frames' left r'
    midway run copied gives executes called
