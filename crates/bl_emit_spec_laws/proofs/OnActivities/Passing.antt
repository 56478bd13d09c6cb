-- A call of the C function of an activity leaves what the pass of its instance leaves.
use Rattle.std.proofs.Common.{◌≡◌, ℕ, ◌+◌, ◌<◌, Bool, true, false, List, []}
use Rattle.std.proofs.Common.{◌++◌, length, map, drop, Some, None}
use Rattle.std.proofs.Common.{refl, sym, ap, ◌∙◌, subst, arith, append-nil, append_assoc}
use Rattle.std.proofs.lemmas.Bool.{leb-true, lt-ltb}
use Rattle.std.proofs.lemmas.List.FromFn.{length-map-range_with_len}
use Rattle.std.specs.List.{list_any}
use Rattle.std.specs.Prelude.{Option, is_some, option_map, slice_get, unwrap_or}
use Rattle.bl_tree.proofs.Basics.{neither_first, neither_second}
use Rattle.bl_tree.specs.declared.c.CStmt.{CStmt}
use Rattle.bl_tree.specs.declared.tree.StructDef.{StructDef}
use Rattle.bl_tree.specs.declared.tree.Unit.{Unit as UnitDef}
use Rattle.bl_tree.specs.declared.tree.Var.{Var}
use Rattle.bl_tree.specs.declared.value.Value.{Value}
use Rattle.bl_tree.specs.Numbers.{number_of}
use Rattle.bl_tree.specs.Typing.{TypingContext, is_activity, outputs_of}
use Rattle.bl_ctext_semantics.specs.Course.{Outcome, goes_on, result_at as result_of_end}
use Rattle.bl_ctext_semantics.specs.Meaning.{ArgumentValue, CallResult, Meaning, Scope, applied, block_c, function_c, further}
use Rattle.bl_ctext_semantics.specs.Memory.{Location, Memory, Projection, Root, input_object, output_object, scalar_number, state_object, value_at, variable}
use Rattle.bl_ctext_semantics.specs.Tables.{Table}
use Rattle.bl_ctree.specs.Actions.{result_at}
use Rattle.bl_ctree.specs.Instances.{Setting, setting_of, unit_at}
use Rattle.bl_ctree.specs.Store.{Store, number_or_zero, variable_among, vars_at, view_at}
use Rattle.bl_ctree_laws_confluence.specs.Deeds.Nesting.{ProgramsNest}
use Rattle.bl_emit_acts.specs.Types.{unit_name}
use Rattle.bl_emit_acts.specs.declared.home.Home.{Home}
use Rattle.bl_emit_acts.specs.declared.home.Home.TheVariants.{Lent}
use Rattle.bl_emit_acts_laws_simulation.specs.Acts.{OutputsEncoded, lies_in}
use Rattle.bl_emit_acts_laws_simulation.specs.Frames.{is_older, lent_at}
use Rattle.bl_emit_acts_laws_simulation.specs.Encodes.{Encodes, home_at, is_live, lead_in, location_in, start_in}
use Rattle.bl_emit_functions_laws_simulation.specs.Calls.{CallsKeepFrame}
use Rattle.bl_emit_functions_laws_simulation.specs.Units.{AllAgree}
use Rattle.bl_emit_spec.specs.Activities.{Activity, activity_code, activity_function, activity_view, blocks_in_order, body_of, copied_in, counters_read}
use Rattle.bl_emit_spec.specs.Activities.{entry_code, remembers_any, rested_code}
use Rattle.bl_emit_acts.specs.Acts.{c_copied}
use Rattle.bl_emit_spec.specs.Blocks.{unit_may_end}
use Rattle.bl_emit_spec_laws.specs.Registers.Registers.{Over, over_at}
use Rattle.bl_machine.specs.declared.machine.Activity.{Activity as InMachine}
use Rattle.bl_machine_pass.specs.Registers.{Registers}
use Rattle.bl_machine_pass_laws_execution.specs.Executes.{Executes, PassTraps}
use Rattle.bl_machine_pass_laws_execution.specs.Frames.{Frames}
use Rattle.bl_emit_spec_laws.specs.Calls.Built.{Activities, activity_at, cleared, rank_by, site_at, slots_by, unit_number}
use Rattle.bl_emit_spec_laws.specs.Calls.Calls.{ActivitySimulates, CallAddresses, CallBegins, CallLeaves, MayGive, PassStarts, output_values, passed_to}
use Rattle.bl_emit_spec_laws.specs.Calls.Calls.{where_true, written_by}
use Rattle.bl_emit_spec_laws.specs.Calls.Laws.{CompilationContext, FunctionsBegin, Midway, PartSimulates, PassOutside, PassesSimulate, memory_in, scope_in}
use Rattle.bl_emit_spec_laws.specs.Calls.Laws.{start_code}
use Rattle.bl_emit_spec_laws.specs.Calls.Invariant.{FunctionContext, result_at_c}
use Rattle.bl_emit_spec_laws.specs.Activities.{CalleesRemember, CallsSimulate, PointersAreGiven, PointersLead, ViewsFit}
use Rattle.bl_emit_spec_laws.proofs.OnActivities.Appending.{append_end, append_memory}
use Rattle.bl_emit_spec_laws.proofs.OnActivities.Calling.{output_place, outputs_from, same_length}
use Rattle.bl_emit_spec_laws.proofs.OnActivities.Lists.{any_at, any_left, any_right, get_drop}
use Rattle.bl_emit_spec_laws.proofs.OnActivities.Nested.{left_held, unit_there}
use Rattle.bl_emit_spec_laws.proofs.OnActivities.Roles.{lent_output, output_at, output_lent, unit_roles}
use Rattle.bl_emit_spec_laws.proofs.OnWithin.Passing.{starts_within}
use Rattle.bl_emit_functions_laws_simulation.proofs.OnCalls.Procedure.{taken_index}

first_where : {X : Type 0} (test : Bool) (x : X) → test ≡ true → slice_get (where_true test x) 0 ≡ Some x
first_where true x is = refl
first_where false x is = absurd (cc)

module _ (structs : List StructDef) (units : List UnitDef) (entry : ℕ) (machine : List InMachine) (activities : Activities)
    (begin : FunctionsBegin structs units entry machine activities) (pointers : PointersAreGiven structs units entry machine activities)
    (views : ViewsFit structs units entry machine activities) (remember : CalleesRemember structs units entry machine activities)
    (passes : PassesSimulate structs units entry machine activities) (nest : ProgramsNest) (keep : CallsKeepFrame)
    (compiled : CompilationContext structs units entry machine activities) where
  abbrev W : Setting
  W = setting_of structs units entry

  module _ (i : ℕ) (unit : UnitDef) (below : Table Meaning) (depth : ℕ) (given : CallAddresses) (frames : Frames) (store : Store) (r : Registers)
      (here : Memory) (is_there : unit_at W i ≡ Some unit) (may : MayGive unit (remembers_any (activity_at W activities i)) depth given)
      (begins : CallBegins W activities i unit depth given frames store here) (starts : PassStarts W activities i unit frames r)
      (agree : AllAgree structs units (unit_number W i) (scope_in W activities i unit below depth given))
      (others : (u : ℕ) → u < unit_number W i → ActivitySimulates W activities u below (depth + 1)) where
    abbrev a : Activity
    a = activity_at W activities i

    abbrev scope : Scope
    scope = scope_in W activities i unit below depth given

    abbrev first_memory : Memory
    first_memory = memory_in W activities i unit depth given here

    abbrev passed : List ArgumentValue
    passed = passed_to unit (remembers_any a) given

    abbrev called : CallResult
    called = function_c below (activity_function a) (depth + 1) passed here

    abbrev start : Outcome Memory
    start = block_c (start_code a) scope first_memory

    function : FunctionContext structs units W activities i unit scope
    function = (begin i unit below depth given frames store r here compiled is_there may begins starts agree others).0

    started : PartSimulates W activities i unit scope frames store (view_at W store i).now r first_memory start
    started = (begin i unit below depth given frames store r here compiled is_there may begins starts agree others).1

    lead : PointersLead W activities i unit scope given
    lead = pointers i unit below depth given frames store here compiled is_there may begins

    midway : Midway structs units entry machine activities i unit scope frames store (view_at W store i).now r start.memory
    midway = record {
      compiled = compiled;
      is_there = is_there;
      function = function;
      stands = started.stands;
      fits = begins.fits;
      copies_fit = views i unit store compiled is_there begins.fits;
      frames_within = begins.within;
      within = starts_within W activities i unit frames r begins.within starts;
    }

    -- the body is the start, and then all blocks
    body_is : activity_code a ≡ start_code a ++ blocks_in_order a
    body_is =
        let rested = map rested_code (counters_read a) in
        let entered = entry_code (activity_view a) (body_of a) in
        let copied = map (c_copied (activity_view a).site) (copied_in a) in
        sym (append_assoc rested (entered ++ copied) (blocks_in_order a)
        ∙ ap (λ (xs : List CStmt). rested ++ xs) (append_assoc entered copied (blocks_in_order a)))

    abbrev body : Outcome Memory
    body = block_c (activity_code a) scope first_memory

    abbrev rest : Outcome Memory
    rest = block_c (blocks_in_order a) scope start.memory

    body_end : body.end ≡ rest.end
    body_end =
        ap (λ (xs : List CStmt). (block_c xs scope first_memory).end) body_is
        ∙ append_end (start_code a) (blocks_in_order a) scope first_memory started.ends

    body_memory : body.memory ≡ rest.memory
    body_memory =
        ap (λ (xs : List CStmt). (block_c xs scope first_memory).memory) body_is
        ∙ append_memory (start_code a) (blocks_in_order a) scope first_memory started.ends

    -- what the call reaches
    kept_after : (root : Root) (way : List Projection) → is_older scope.depth root ≡ true → called.memory root way ≡ rest.memory root way
    kept_after root way older =
        (keep below (activity_function a) (depth + 1) passed here).ends root way older ∙ ap (λ (m : Memory). m root way) body_memory

    kept_before : (root : Root) (way : List Projection) → is_older scope.depth root ≡ true → first_memory root way ≡ here root way
    kept_before root way older = (keep below (activity_function a) (depth + 1) passed here).begins root way older

    module _ (frames' : Frames) (left : Store) (r' : Registers) (copies : List Value)
        (part : PartSimulates W activities i unit scope frames' left copies r' start.memory rest) where
      abbrev site : TypingContext
      site = site_at W activities i

      spelled : (place : Location) → is_older scope.depth place.root ≡ true →
          scalar_number (value_at called.memory place) ≡ scalar_number (value_at rest.memory place)
      spelled place older = kept_after place.root (place.parts ++ []) older

      over_left : unit_may_end unit ≡ true → scalar_number (value_at called.memory given.over) ≡ number_of r'.over
      over_left ends =
          ap (λ (p : Location). scalar_number (value_at called.memory p)) (sym (lead.over ends))
          ∙ spelled (over_at scope) (function.places.frame.over_older ends)
          ∙ ap (λ (ps : List Projection). rest.memory (over_at scope).root (ps ++ [])) (sym (append-nil (over_at scope).parts))
          ∙ part.stands.registers.each Over
          (ap unit_may_end (compiled.built.unit (unit_number W i) unit (unit_there W i unit is_there)) ∙ ends)

      result_left : (value : Value) → r'.over ≡ true → is_some unit.result ≡ true → result_at left i ≡ Some value →
          scalar_number (value_at called.memory given.result) ≡ number_or_zero value
      result_left value over has is =
          ap (λ (p : Location). scalar_number (value_at called.memory p)) (sym (lead.result has))
          ∙ spelled (result_at_c scope) (function.places.result has).older
          ∙ part.stands.result value over has is

      same_vars : site.vars ≡ unit.vars
      same_vars = ap (λ (u : UnitDef). u.vars) (compiled.built.unit (unit_number W i) unit (unit_there W i unit is_there))

      same_structs : site.structs ≡ structs
      same_structs = compiled.built.structures (unit_number W i) unit (unit_there W i unit is_there)

      -- where a variable that is lent stands
      lent_location : (x : ℕ) → home_at site x ≡ Lent → location_in scope site x [] ≡ lent_at scope site.vars x
      lent_location x lent =
          ap (λ (h : Home). further (start_in scope (is_activity site.kind) h site.vars x) (lead_in h site.vars x ++ [])) lent
          ∙ ap (λ (ps : List Projection). record { root = (lent_at scope site.vars x).root; parts = ps }) (append-nil (lent_at scope site.vars x).parts)

      output_left : (k : ℕ) (var : Var) (value : Value) (place : Location) → slice_get (outputs_of unit) k ≡ Some var →
          slice_get (output_values W left i unit) k ≡ Some value → slice_get given.outputs k ≡ Some place →
          Encodes structs var.ty value (value_at called.memory place)
      output_left k var value place there is_value at =
          let x = unit.inputs + k in
          let roles = unit_roles structs units entry (unit_number W i) unit compiled.well_typed (unit_there W i unit is_there) in
          let own = output_at site unit k var roles same_vars there in
          let lent = output_lent site x var own.0 own.1 in
          let is_now = get_drop unit.inputs (view_at W left i).now k value
          (taken_index unit.outputs (drop unit.inputs (view_at W left i).now) k value is_value) in
          let held = part.stands.variables.each x var value own.0 is_now in
          let at_lent : Encodes structs var.ty value (value_at rest.memory (lent_at scope site.vars x)) =
          subst (λ (s : List StructDef). Encodes s var.ty value (value_at rest.memory (lent_at scope site.vars x))) same_structs
          (subst (λ (p : Location). Encodes site.structs var.ty value (value_at rest.memory p)) (lent_location x lent) held) in
          let older = function.places.pointers.lent_older x var own.0 lent in
          subst (λ (p : Location). Encodes structs var.ty value (value_at called.memory p)) (lead.outputs k place at)
          (record { each = λ ks n is. kept_after (lent_at scope site.vars x).root ((lent_at scope site.vars x).parts ++ _) older ∙ at_lent.each ks n is })

      values_length : length (view_at W left i).now ≡ length unit.vars
      values_length =
          length-map-range_with_len (variable_among (λ frame. frame.now) W left i) 0
          (length (vars_at W i))
          ∙ ap (λ (o : Option UnitDef). length (unwrap_or
          (option_map (λ (u : UnitDef). u.vars) o) [])) is_there

      outputs_left : OutputsEncoded structs called.memory (outputs_of unit) (output_values W left i unit) given.outputs
      outputs_left =
          outputs_from structs here called.memory (outputs_of unit) (output_values W store i unit) (output_values W left i unit) given.outputs
          begins.outputs (same_length unit.inputs unit.outputs (view_at W left i).now unit.vars values_length) output_left

      -- what lies in none of the places that were given
      live_older : (root : Root) → is_live depth root ≡ true → is_older scope.depth root ≡ true
      live_older state_object live = refl
      live_older input_object live = refl
      live_older output_object live = refl
      live_older (variable d name) live =
          let within = leb-true d depth live in lt-ltb d (depth + 1) (omega (arith, within))

      outside : (root : Root) (way : List Projection) →
          list_any (λ place. lies_in place root way) (written_by unit (remembers_any a) given) ≡ false →
          PassOutside site unit (remembers_any a) scope root way
      outside root way none =
          let lies : Location → Bool = λ place. lies_in place root way in
          let memories = where_true (remembers_any a) given.memory in
          let results = where_true (is_some unit.result) given.result in
          let overs = where_true (unit_may_end unit) given.over in
          let behind = neither_second (lies given.frame) (list_any lies (memories ++ (given.outputs ++ (results ++ overs)))) none in
          let later = any_right lies memories (given.outputs ++ (results ++ overs)) behind in
          let last = any_right lies given.outputs (results ++ overs) later in
          let end = any_right lies results overs last in
          let roles = unit_roles structs units entry (unit_number W i) unit compiled.well_typed (unit_there W i unit is_there) in
          record {
            frame = ap lies lead.frame ∙ neither_first (lies given.frame) (list_any lies (memories ++ (given.outputs ++ (results ++ overs)))) none;
            over = λ ends. ap lies (lead.over ends) ∙ any_at lies overs 0 given.over end (first_where (unit_may_end unit) given.over ends);
            memory = λ has. ap lies (lead.memory has)
                ∙ any_at lies memories 0 given.memory (any_left lies memories (given.outputs ++ (results ++ overs)) behind)
                (first_where (remembers_any a) given.memory has);
            result = λ has. ap lies (lead.result has)
                ∙ any_at lies results 0 given.result (any_left lies results overs last) (first_where (is_some unit.result) given.result has);
            outputs = λ x var there lent input.
                (let at = lent_output site unit x var roles same_vars there lent input in
                let place = output_place structs here (outputs_of unit) (output_values W store i unit) given.outputs at.position var begins.outputs
                at.there in
                ap (λ (n : ℕ). lies (lent_at scope site.vars n)) at.is ∙ ap lies (lead.outputs at.position place.0 place.1)
                ∙ any_at lies given.outputs at.position place.0 (any_left lies given.outputs (results ++ overs) later) place.1);
          }

      pub left_by : rest.end ≡ goes_on → CallLeaves W activities i unit depth given frames' left r' here called
      left_by ends = record {
        returned = ap result_of_end (body_end ∙ ends);
        memory = left_held structs units entry machine activities compiled remember (nest structs units entry) i unit is_there scope function frames'
            left copies r' rest.memory part.stands called.memory kept_after given.frame given.memory lead.frame lead.memory;
        outputs = outputs_left;
        over = over_left;
        result = result_left;
        kept = record {
          each = λ root way live none.
              (let older = live_older root live in
              kept_after root way older ∙ part.kept root way older (outside root way none) ∙ started.kept root way older (outside root way none)
              ∙ kept_before root way older);
        };
      }

    pub executed : {frames' : Frames} {left : Store} {r' : Registers} →
        Executes W (rank_by W activities) (slots_by W activities) (cleared W) i 0 frames store (view_at W store i).now r frames' left r' →
        CallLeaves W activities i unit depth given frames' left r' here called
    executed {frames'} {left} {r'} way =
        let came = passes.executes i unit scope frames store (view_at W store i).now r frames' left r' start.memory midway starts way in
        left_by frames' left r' came.0 came.1 came.1.ends

    pub stopped : PassTraps W (rank_by W activities) (slots_by W activities) (cleared W) i 0 frames store (view_at W store i).now r →
        called.result ≡ None
    stopped way =
        ap result_of_end
        (body_end ∙ passes.cut i unit scope frames store (view_at W store i).now r start.memory midway starts way)

pub calls_simulate : ProgramsNest → CallsKeepFrame → CallsSimulate
calls_simulate nest keep structs units entry machine activities begin pointers views remember passes u depth known below compiled knows agree others =
    record {
      executes = λ i unit given frames store r frames' left r' here is_number is_there may begins starts way.
          subst (λ (o : Option Meaning). CallLeaves (setting_of structs units entry) activities i unit depth given frames' left r' here
          (applied o (depth + 1) (passed_to unit (remembers_any (activity_at (setting_of structs units entry) activities i)) given) here))
          (sym (known_at i unit is_number is_there))
          (executed structs units entry machine activities begin pointers views remember passes nest keep compiled i unit below depth given frames store r
          here is_there may begins starts (agree_at i unit given is_number) (others_at i is_number) way);
      cut = λ i unit given frames store r here is_number is_there may begins starts way.
          ap (λ (o : Option Meaning). (applied o (depth + 1)
          (passed_to unit (remembers_any (activity_at (setting_of structs units entry) activities i)) given) here).result)
          (known_at i unit is_number is_there)
          ∙ stopped structs units entry machine activities begin pointers views remember passes nest keep compiled i unit below depth given frames store r
          here is_there may begins starts (agree_at i unit given is_number) (others_at i is_number) way;
    }
  where
    known_at : (i : ℕ) (unit : UnitDef) → unit_number (setting_of structs units entry) i ≡ u → unit_at (setting_of structs units entry) i
        ≡ Some unit →
        known (unit_name unit.name) ≡ Some (function_c below (activity_function (activity_at (setting_of structs units entry) activities i)))
    known_at i unit is_number is_there =
        subst (λ (n : ℕ). known (unit_name unit.name) ≡ Some (function_c below (activity_function (activities n)))) (sym is_number)
        (knows unit (subst (λ (n : ℕ). slice_get units n ≡ Some unit) is_number (unit_there (setting_of structs units entry) i unit is_there)))

    agree_at : (i : ℕ) (unit : UnitDef) (given : CallAddresses) → unit_number (setting_of structs units entry) i ≡ u →
        AllAgree structs units (unit_number (setting_of structs units entry) i)
        (scope_in (setting_of structs units entry) activities i unit below depth given)
    agree_at i unit given is_number =
        subst (λ (n : ℕ). AllAgree structs units n (scope_in (setting_of structs units entry) activities i unit below depth given)) (sym is_number)
        (agree (scope_in (setting_of structs units entry) activities i unit below depth given) refl)

    others_at : (i : ℕ) → unit_number (setting_of structs units entry) i ≡ u → (v : ℕ) → v < unit_number (setting_of structs units entry) i →
        ActivitySimulates (setting_of structs units entry) activities v below (depth + 1)
    others_at i is_number v less = others v (depth + 1) (omega (arith, less, is_number))
