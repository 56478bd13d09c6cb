-- A C file run over rows, tick by tick beside a run of passes by rules.
use Rattle.std.proofs.Common.{◌≡◌, inl, inr, ℕ, ℤ, zero, suc, ◌+◌, ◌≤◌, pos, Bool, true, false, ◌&&◌, List, [], ◌∷◌, ◌++◌, map, length, take, drop, Option}
use Rattle.std.proofs.Common.{Some, None, refl, sym, ap, ap₂, ◌∙◌, subst, arith}
use Rattle.std.proofs.lemmas.Bool.{leb-true, and_from}
use Rattle.std.proofs.lemmas.Option.{same_Some}
use Rattle.std.specs.List.{list_all}
use Rattle.std.specs.Prelude.{codes, filter_map, is_none, is_some, nat_le, option_and_then, option_map, slice_get, unwrap_or}
use Rattle.bl_tree.proofs.Basics.{and_first, and_second, map_length}
use Rattle.bl_tree.specs.declared.c.CMember.{CMember}
use Rattle.bl_tree.specs.declared.row.Last.TheVariants.{Ended as HasEnded, Trap as HasTrapped}
use Rattle.bl_tree.specs.declared.row.Trace.{Trace}
use Rattle.bl_tree.specs.declared.scalar.Scalar.{Scalar as ScalarType}
use Rattle.bl_tree.specs.declared.tree.StructDef.{StructDef}
use Rattle.bl_tree.specs.declared.tree.Unit.{Unit as UnitDef}
use Rattle.bl_tree.specs.declared.tree.Var.{Var}
use Rattle.bl_tree.specs.declared.value.Value.{Value, out-Value}
use Rattle.bl_tree.specs.declared.value.Value.TheOpen.{Value-F}
use Rattle.bl_tree.specs.declared.value.Value.TheVariants.{Number}
use Rattle.bl_tree.specs.Numbers.{number_of}
use Rattle.bl_tree.specs.Ports.{input_columns, output_columns, row_fits, column_of as tree_column, columns_of}
use Rattle.bl_tree.specs.Program.{is_entry, names_of, parameters_of}
use Rattle.bl_tree.specs.Types.{scalar_in}
use Rattle.bl_tree.specs.Typing.{inputs_of, is_activity, outputs_of}
use Rattle.bl_tree.specs.Words.{are_distinct}
use Rattle.bl_eval.specs.Values.{is_number_of, number_at, tests_after, value_fits, values_fit, zero_of}
use Rattle.bl_eval.proofs.FitLemmas.{fits_scalar, scalar_is}
use Rattle.bl_eval.proofs.PassLemmas.{pass_drop, pass_take}
use Rattle.bl_ctext_semantics.specs.Cells as cells
use Rattle.bl_ctext_semantics.specs.Cells.{cells_of, column_of, numbers_of, outputs_in, ports_of, with_inputs}
use Rattle.bl_ctext_semantics.specs.Meaning.{CallResult, Meaning, applied, further}
use Rattle.bl_ctext_semantics.specs.Memory.{cleared as cleared_memory, Location, Memory, input_object, member, output_object, scalar_number, state_object}
use Rattle.bl_ctext_semantics.specs.Memory.{value_at, without_frame}
use Rattle.bl_ctext_semantics.specs.Parts.{Parts}
use Rattle.bl_ctext_semantics.specs.Tables.{Table}
use Rattle.bl_ctext_semantics.specs.Trace.{Reply, TickOfFile, c_trace_from, call_from_outside, cells_if, object, reply_of, start_c, started, tick_c, tick_of}
use Rattle.bl_ctext_semantics.specs.Trace.{trace_after, traced}
use Rattle.bl_ctree.specs.Instances.{Setting, setting_of, unit_at}
use Rattle.bl_ctree.specs.Store as store
use Rattle.bl_ctree.specs.Store.{Frame, Store, aged, first_store, number_or_zero, outputs_of_frame, outputs_row, view_at, woken_store}
use Rattle.bl_ctree_laws_confluence.specs.Deeds.Orderly.{AcceptedIsOrderly}
use Rattle.bl_ctree_laws_confluence.specs.Deeds.Origins.{HomesLeadOut}
use Rattle.bl_ctree_laws_typing.specs.Fits.{HasFrame, StoreFits}
use Rattle.bl_emit_acts.specs.Types.{variable_name}
use Rattle.bl_emit_acts_laws_simulation.specs.Acts.{OutputsEncoded}
use Rattle.bl_emit_acts_laws_simulation.specs.Encodes.{Encodes}
use Rattle.bl_emit_spec.specs.Activities.{remembers_any}
use Rattle.bl_emit_spec.specs.Blocks.{greatest_value, unit_may_end}
use Rattle.bl_emit_spec.specs.Names.{counter_name}
use Rattle.bl_emit_spec.specs.Programs.{port_member}
use Rattle.bl_machine.specs.declared.machine.Activity.{Activity as InMachine}
use Rattle.bl_machine_laws.specs.Traces.Runs.{no_row, row_before}
use Rattle.bl_machine_pass.specs.Registers.{Registers, with_at}
use Rattle.bl_machine_pass_laws_execution.specs.Executes.{Executes, PassTraps}
use Rattle.bl_machine_pass_laws_typing.specs.Fits.{PassesKeepTypes}
use Rattle.bl_machine_pass_laws_typing.specs.Starts.{AllStartsFit}
use Rattle.bl_machine_pass_laws_execution.specs.Frames.{Frames}
use Rattle.bl_machine_pass_laws_execution.specs.Runs as run
use Rattle.bl_machine_pass_laws_execution.specs.Runs.{RuleRun, TickStarts}
use Rattle.bl_emit_spec_laws.specs.Calls.Built.{Activities, activity_at, cleared, rank_by, site_at, slots_by, unit_number}
use Rattle.bl_emit_spec_laws.specs.Calls.Calls.{ActivitySimulates, CallBegins, FramesWithin, MayGive, PassStarts, output_values}
use Rattle.bl_emit_spec_laws.specs.Calls.Laws.{CompilationContext}
use Rattle.bl_emit_spec_laws.specs.Calls.Memories.{MemoryEncodes}
use Rattle.bl_emit_spec_laws.specs.Registers.Laws.{RegistersWithin}
use Rattle.bl_emit_spec_laws.specs.Within.{AllStayWithin}
use Rattle.bl_emit_spec_laws.proofs.OnWithin.Changing.{none_within}
use Rattle.bl_emit_spec_laws.proofs.OnWithin.Passing.{frame_within, starts_within}
use Rattle.bl_emit_spec_laws_nodes.proofs.OnPoints.Endless.{pass_open}
use Rattle.bl_ctext_semantics_laws_cells.specs.Cells.{regained}
use Rattle.bl_emit_spec_laws_files.specs.States.States.{StateKept, frame_place, memory_place, output_place}
use Rattle.bl_emit_spec_laws_files.specs.Files.{FileShows, FileStands, FilesShow, behind_columns}
use Rattle.bl_emit_spec_laws_files.proofs.OnFiles.Bodies.{entry_called, tick_gives, tick_replies, tick_traps, ticked, input_place, port_places}
use Rattle.bl_emit_spec_laws_files.proofs.OnFiles.Columns.{columns}
use Rattle.bl_emit_spec_laws_files.proofs.OnFiles.Given.{may_give}
use Rattle.bl_emit_spec_laws_files.proofs.OnFiles.Inputs.{AreSet, are_set, inputs_set, output_same, state_same, behind_hold, inputs_hold, joined_hold}
use Rattle.bl_emit_spec_laws_files.proofs.OnFiles.Inputs.{lent_hold, lent_values, unlent_hold}
use Rattle.bl_emit_spec_laws_files.proofs.OnFiles.Kept.{Same, memory_moved, outputs_moved}
use Rattle.bl_emit_spec_laws_files.proofs.OnFiles.Lists.{distinct_drop, distinct_take, drop_take, fit_many, mapped_drop, mapped_take, row_many, take_less}
use Rattle.bl_emit_spec_laws_files.proofs.OnFiles.Lists.{taken_length, take_past}
use Rattle.bl_emit_spec_laws_files.proofs.OnFiles.Starting.{AllZero, begun, begun_result, begun_zero}
use Rattle.bl_emit_spec_laws_files.proofs.OnFiles.Views.{entry_is, entry_number, entry_sees, first_frame_now, first_held, woken_first, woken_held, roles_at}
use Rattle.bl_emit_spec_laws_files.proofs.OnFiles.Views.{distinct_at, arity}
use Rattle.bl_emit_acts_laws_simulation.proofs.Zeros.{zero_holds}
use Rattle.bl_machine_pass_laws_typing.proofs.OnStarts.{some_scalar, is_scalar}
use Rattle.bl_emit_spec.proofs.LentLemmas.{drop_none, lent_many, lent_mapped, lent_outputs, lent_parameter_names, lent_parameters_all, lent_parts, lent_taken}
use Rattle.bl_emit_spec.specs.Lent.{lent_unit, lent_var}

-- ---- outputs

number_there : (layer : Value-F Value) (s : ScalarType) → is_number_of s layer ≡ true →
    (n : ℤ) × (number_at layer ≡ Some n)
number_there (Value-F.Number n) s is = (n, refl)
number_there (Value-F.Parts all) s is = absurd (cc)

module _ (structs : List StructDef) where
  -- the number of a scalar that memory holds
  held_number : (var : Var) (value : Value) (place : Location) (here : Memory) → is_scalar var ≡ true → value_fits structs var.ty value ≡ true →
      Encodes structs var.ty value (value_at here place) → scalar_number (value_at here place) ≡ number_or_zero value
  held_number var value place here scalar fit holds =
      let found = some_scalar (scalar_in var.ty) scalar in
      let fits = sym (fits_scalar (tests_after [] structs) found.0 value)
      ∙ (subst (λ ty. value_fits structs ty value ≡ true) (scalar_is var.ty found.0 found.1) fit) in
      let number = number_there (out-Value value) found.0 fits in
      holds.each [] number.0 number.1 ∙ sym (ap (λ (o : Option ℤ). unwrap_or o (pos 0)) number.1)

  pub outputs_are : (vars : List Var) (values : List Value) (here : Memory) → list_all is_scalar vars ≡ true →
      values_fit structs vars values ≡ true →
      OutputsEncoded structs here vars values (map output_place vars) →
      outputs_in (map (port_member structs (codes "o_")) vars) here ≡ map number_or_zero values
  outputs_are [] [] here scalars fit holds = refl
  outputs_are [] (value ∷ values) here scalars fit holds = absurd holds
  outputs_are (var ∷ vars) [] here scalars fit holds = absurd holds
  outputs_are (var ∷ vars) (value ∷ values) here scalars fit holds =
      ap₂ (λ n ns. n ∷ ns)
      (held_number var value (output_place var) here (and_first (is_scalar var) (list_all is_scalar vars) scalars)
      (and_first (value_fits structs var.ty value) (values_fit structs vars values) fit) holds.0)
      (outputs_are vars values here (and_second (is_scalar var) (list_all is_scalar vars) scalars)
      (and_second (value_fits structs var.ty value) (values_fit structs vars values) fit) holds.1)

  -- zeros at the places of outputs
  pub zeros_hold : (vars : List Var) (here : Memory) → AllZero here →
      OutputsEncoded structs here vars (map (λ (var : Var). zero_of structs var.ty) vars) (map output_place vars)
  zeros_hold [] here all = tt
  zeros_hold (var ∷ vars) here all = (
    zero_holds structs var.ty (value_at here (output_place var)) (λ way. all output_object (member (codes "o_" ++ var.name) ∷ way)),
    zeros_hold vars here all,
  )

-- ---- a file

module _ (out : HomesLeadOut) (orderly : AcceptedIsOrderly) (keep : PassesKeepTypes) (starts_fit : AllStartsFit) (stay : AllStayWithin)
    (structs : List StructDef) (units : List UnitDef) (entry : ℕ) (machine : List InMachine) (activities : Activities) (unit : UnitDef)
    (known : Table Meaning) (file : Parts)
    (compiled : CompilationContext structs units entry machine activities) (there : slice_get units entry ≡ Some (lent_unit unit))
    (comes : ActivitySimulates (setting_of structs units entry) activities entry known 0)
    (stands_entry : FileStands structs unit (remembers_any (activities entry)) known file)
    (kept : StateKept (setting_of structs units entry) activities unit file) where
  abbrev W : Setting
  W = setting_of structs units entry

  -- the entry, with its inputs lent
  abbrev lent : UnitDef
  lent = lent_unit unit

  is : unit_at W 0 ≡ Some lent
  is = entry_is out orderly structs units entry machine activities compiled lent there

  at_entry : unit_number W 0 ≡ entry
  at_entry = entry_number out orderly structs units entry machine activities compiled lent there

  abbrev remembers : Bool
  remembers = remembers_any (activity_at W activities 0)

  stands : FileStands structs unit remembers known file
  stands = subst (λ (k : ℕ). FileStands structs unit (remembers_any (activities k)) known file) (sym at_entry) stands_entry

  -- ---- the entry's unit

  entry_so : (is_activity unit.kind && (is_none unit.result && list_all is_scalar (parameters_of lent))) ≡ true
  entry_so = ap is_entry (sym there) ∙ compiled.well_typed.entry_stands

  none_so : (o : Option ScalarType) → is_none o ≡ true → o ≡ None
  none_so None h = refl
  none_so (Some s) h = absurd (cc)

  resultless : unit.result ≡ None
  resultless =
      none_so unit.result (and_first (is_none unit.result) (list_all is_scalar (parameters_of lent))
      (and_second (is_activity unit.kind) (is_none unit.result && list_all is_scalar (parameters_of lent)) entry_so))

  scalars : list_all is_scalar (parameters_of unit) ≡ true
  scalars =
      sym (lent_parameters_all is_scalar (λ var. refl) unit)
      ∙ and_second (is_none unit.result) (list_all is_scalar (parameters_of lent))
      (and_second (is_activity unit.kind) (is_none unit.result && list_all is_scalar (parameters_of lent)) entry_so)

  all_take : (n : ℕ) (vars : List Var) → list_all is_scalar vars ≡ true → list_all is_scalar (take n vars) ≡ true
  all_take zero vars all = refl
  all_take (suc n) [] all = refl
  all_take (suc n) (var ∷ vars) all =
      and_from (is_scalar var) (list_all is_scalar (take n vars)) (and_first (is_scalar var) (list_all is_scalar vars) all)
      (all_take n vars (and_second (is_scalar var) (list_all is_scalar vars) all))

  all_drop : (n : ℕ) (vars : List Var) → list_all is_scalar vars ≡ true → list_all is_scalar (drop n vars) ≡ true
  all_drop zero vars all = all
  all_drop (suc n) [] all = refl
  all_drop (suc n) (var ∷ vars) all = all_drop n vars (and_second (is_scalar var) (list_all is_scalar vars) all)

  inputs_scalar : list_all is_scalar (inputs_of unit) ≡ true
  inputs_scalar =
      subst (λ (vars : List Var). list_all is_scalar vars ≡ true) (take_less unit.inputs unit.outputs unit.vars)
      (all_take unit.inputs (parameters_of unit) scalars)

  outputs_scalar : list_all is_scalar (outputs_of unit) ≡ true
  outputs_scalar =
      subst (λ (vars : List Var). list_all is_scalar vars ≡ true) (drop_take unit.inputs unit.outputs unit.vars)
      (all_drop unit.inputs (parameters_of unit) scalars)

  distinct : are_distinct (names_of (parameters_of unit)) ≡ true
  distinct =
      ap are_distinct (sym (lent_parameter_names unit)) ∙ distinct_at out orderly structs units entry machine activities compiled entry lent there

  inputs_distinct : are_distinct (names_of (inputs_of unit)) ≡ true
  inputs_distinct =
      subst (λ (vars : List Var). are_distinct (names_of vars) ≡ true) (take_less unit.inputs unit.outputs unit.vars)
      (distinct_take unit.inputs (parameters_of unit) distinct)

  outputs_distinct : are_distinct (names_of (outputs_of unit)) ≡ true
  outputs_distinct =
      subst (λ (vars : List Var). are_distinct (names_of vars) ≡ true) (drop_take unit.inputs unit.outputs unit.vars)
      (distinct_drop unit.inputs (parameters_of unit) distinct)

  enough : unit.inputs ≤ length unit.vars
  enough =
      let all = leb-true (0 + (unit.inputs + unit.outputs)) (length lent.vars)
      (and_first (nat_le (0 + (unit.inputs + unit.outputs)) (length lent.vars)) _
      (roles_at out orderly structs units entry machine activities compiled entry lent there)) in
      let many = lent_many unit.vars in
      omega (arith, all, many)

  -- ---- the functions of the file

  tick_entered : (here : Memory) → call_from_outside file (codes "bl_tick") (object state_object ∷ object
      input_object ∷ object output_object ∷ []) here ≡ ticked known unit remembers resultless here
  unfolding call_from_outside
  tick_entered here =
      ap (λ (o : Option Meaning). applied o 0 (object state_object ∷ object
      input_object ∷ object output_object ∷ []) here) stands.ticks

  -- memory as a tick begins
  abbrev set : List ℤ → Memory → Memory
  set row here = inputs_set structs (inputs_of unit) row (regained file here)

  tick_is : (row : List ℤ) (here : Memory) → tick_c file (numbers_of (cells_of file) here) row
      ≡ tick_of file (ticked known unit remembers resultless (set row here))
  unfolding tick_c
  tick_is row here =
      ap (λ (ports : List CMember). tick_of file (call_from_outside file (codes "bl_tick") (object state_object ∷ object
      input_object ∷ object output_object ∷ [])
      (with_inputs ports row (regained file here)))) stands.inputs
      ∙ ap (tick_of file) (tick_entered (set row here))

  -- ---- between ticks

  record Between (frames : Frames) (s : Store) (here : Memory) : Type 0 where
    memory : MemoryEncodes W activities 0 frame_place memory_place frames s here
    outputs : OutputsEncoded structs here (outputs_of unit) (output_values W s 0 unit) (map output_place (outputs_of unit))
    fits : StoreFits W s
    within : FramesWithin W activities frames
    begins : frames 0 0 ≡ 0 → (c : ℕ) → frames 0 c ≡ 0

  abbrev Has : Store → Type 0
  Has s = HasFrame W s 0 lent

  sees : (s : Store) (has : Has s) → (view_at W s 0).now ≡ has.frame.now
  sees s has =
      entry_sees out orderly structs units entry machine activities compiled lent there s has.frame has.is
      (fit_many structs lent.vars has.frame.now has.fits.now)

  outputs_seen : (s : Store) (has : Has s) → output_values W s 0 unit ≡ take unit.outputs (drop unit.inputs has.frame.now)
  outputs_seen s has = ap (λ (now : List Value). take unit.outputs (drop unit.inputs now)) (sees s has)

  -- the numbers of the outputs are behind those of the inputs
  columns_behind : (now : List Value) →
      drop unit.inputs (map number_or_zero (take (unit.inputs + unit.outputs) (drop 0 now))) ≡ map number_or_zero (take unit.outputs (drop unit.inputs now))
  columns_behind now =
      mapped_drop number_or_zero unit.inputs (take (unit.inputs + unit.outputs) (drop 0 now))
      ∙ ap (λ (values : List Value). map number_or_zero (drop unit.inputs (take (unit.inputs + unit.outputs) values))) (drop_none now)
      ∙ ap (map number_or_zero) (drop_take unit.inputs unit.outputs now)

  -- the row of the outputs
  row_is : (s : Store) (here : Memory) → StoreFits W s →
      OutputsEncoded structs here (outputs_of unit) (output_values W s 0 unit) (map output_place (outputs_of unit)) →
      outputs_in (ports_of (codes "bl_out") file) here ≡ drop unit.inputs (outputs_row W s)
  row_is s here fits holds =
      let has = fits.each 0 lent is in
      let values = take unit.outputs (drop unit.inputs has.frame.now) in
      let test = λ (var : Var). value_fits structs var.ty in
      ap (λ (ports : List CMember). outputs_in ports here) stands.outputs
      ∙ outputs_are structs (outputs_of unit) values here outputs_scalar
      (pass_take test unit.outputs (drop unit.inputs unit.vars) (drop unit.inputs has.frame.now)
      (pass_drop test unit.inputs unit.vars has.frame.now (sym (lent_values structs unit.vars has.frame.now) ∙ has.fits.now)))
      (subst (λ (values : List Value). OutputsEncoded structs here (outputs_of unit) values (map output_place (outputs_of unit))) (outputs_seen s has) holds)
      ∙ sym (ap (drop unit.inputs) (ap (λ (o : Option UnitDef). unwrap_or (option_and_then (λ unit. option_map (outputs_of_frame unit) (slice_get s 0)) o) []) is
      ∙ ap (λ (o : Option Frame). unwrap_or (option_map (outputs_of_frame lent) o) []) has.is)
      ∙ columns_behind has.frame.now)

  -- ---- one tick

  module _ (row : List ℤ) (frames : Frames) (s : Store) (here : Memory) (between : Between frames s here) (fit : row_fits (input_columns unit) row ≡ true)
    where
      abbrev begun_memory : Memory
      begun_memory = without_frame 0 (set row here)

      long : length row ≡ length (inputs_of unit)
      long = row_many (inputs_of unit) row fit

      long_row : length (map Number row) ≡ unit.inputs
      long_row = map_length Number row ∙ long ∙ taken_length unit.inputs unit.vars enough

      few_row : length (map Number row) ≤ arity lent
      few_row = let long = long_row in omega (arith, long)

      woken_fits : StoreFits W (woken_store row s)
      woken_fits =
          (starts_fit structs units entry compiled.well_typed).woken lent unit.inputs row s there (omega arith)
          (ap (λ columns. row_fits columns row) (ap columns_of (lent_taken unit.inputs unit.vars)
          ∙ lent_mapped tree_column (λ var. refl) (inputs_of unit)) ∙ fit) between.fits

      abbrev has : Has s
      has = between.fits.each 0 lent is

      abbrev woken_has : Has (woken_store row s)
      woken_has = woken_fits.each 0 lent is

      woken_now : (view_at W (woken_store row s) 0).now ≡ map Number row ++ drop unit.inputs has.frame.now
      woken_now =
          sees (woken_store row s) woken_has
          ∙ ap (λ (frame : Frame). frame.now) (same_Some woken_has.frame (store.with_inputs (map Number row) (aged has.frame))
          (sym woken_has.is ∙ woken_first row s has.frame has.is))
          ∙ ap (λ (n : ℕ). map Number row ++ drop n has.frame.now) long_row

      -- the entry sees the row, and behind it its outputs
      ports_now : output_values W (woken_store row s) 0 lent ≡ map Number row ++ output_values W s 0 unit
      ports_now =
          ap (λ (now : List Value). take (unit.inputs + unit.outputs) (drop 0 now)) woken_now
          ∙ ap (take (unit.inputs + unit.outputs)) (drop_none (map Number row ++ drop unit.inputs has.frame.now))
          ∙ take_past unit.inputs unit.outputs (map Number row) (drop unit.inputs has.frame.now) long_row
          ∙ ap (λ (values : List Value). map Number row ++ values) (sym (outputs_seen s has))

      state_kept : Same state_object (regained file here) begun_memory
      state_kept way = state_same structs (inputs_of unit) row (regained file here) way

      outputs_kept : Same output_object (regained file here) begun_memory
      outputs_kept way = output_same structs (inputs_of unit) row (regained file here) way

      regained_memory : MemoryEncodes W activities 0 frame_place memory_place frames s begun_memory
      regained_memory =
          memory_moved W activities frames s (regained file here) begun_memory state_kept (kept.memory frames s here between.fits between.memory)

      woken_memory : MemoryEncodes W activities 0 frame_place memory_place frames (woken_store row s) begun_memory
      woken_memory = record {
        counters = regained_memory.counters;
        variables = λ k f' m' nests x var value is_var held seen.
            regained_memory.variables k f' m' nests x var value is_var held
            (woken_held out orderly structs units entry machine activities compiled lent there row s k x var value few_row is_var held seen);
      }

      inputs_held : OutputsEncoded structs begun_memory (inputs_of unit) (map Number row) (map input_place (inputs_of unit))
      inputs_held =
          inputs_hold structs (inputs_of unit) row begun_memory
          (still_set (inputs_of unit) row (are_set structs (inputs_of unit) row (regained file here) long inputs_distinct))
        where
          still_set : (vars : List Var) (ns : List ℤ) → AreSet structs vars ns (set row here) →
              AreSet structs vars ns begun_memory
          still_set [] [] all = tt
          still_set [] (n ∷ ns) all = absurd all
          still_set (var ∷ vars) [] all = absurd all
          still_set (var ∷ vars) (n ∷ ns) all = (all.0, still_set vars ns all.1)

      outputs_held : OutputsEncoded structs begun_memory (outputs_of unit) (output_values W s 0 unit) (map output_place (outputs_of unit))
      outputs_held =
          outputs_moved structs (regained file here) begun_memory (outputs_of unit) (output_values W s 0 unit) outputs_kept
          (kept.outputs (output_values W s 0 unit) here between.outputs)

      -- the entry's outputs are the inputs and the outputs
      ports_held : OutputsEncoded structs begun_memory (outputs_of lent) (output_values W (woken_store row s) 0 lent) (port_places unit)
      ports_held =
          subst (λ (values : List Value). OutputsEncoded structs begun_memory (outputs_of lent) values (port_places unit)) (sym ports_now)
          (subst (λ (vars : List Var). OutputsEncoded structs begun_memory vars (map Number row ++ output_values W s 0 unit) (port_places unit))
          (sym (lent_outputs unit ∙ lent_parts unit))
          (joined_hold structs begun_memory (map lent_var (inputs_of unit)) (map lent_var (outputs_of unit)) (map Number row) (output_values W s 0 unit)
          (map input_place (inputs_of unit)) (map output_place (outputs_of unit))
          (lent_hold structs begun_memory (inputs_of unit) (map Number row) (map input_place (inputs_of unit)) inputs_held)
          (lent_hold structs begun_memory (outputs_of unit) (output_values W s 0 unit) (map output_place (outputs_of unit)) outputs_held)))

      call_begins : CallBegins W activities 0 lent 0 (tick_gives unit) frames (woken_store row s) begun_memory
      call_begins = record {
        memory = woken_memory;
        inputs = tt;
        outputs = ports_held;
        over = λ ends. refl;
        fits = woken_fits;
        within = between.within;
      }

      pass_starts : (r : Registers) → TickStarts (rank_by W activities) lent frames r → PassStarts W activities 0 lent frames r
      pass_starts r (run.begins none) = inl (refl, between.begins none)
      pass_starts r (run.goes_on some) = inr (refl, some)

      -- no pass has ended as it begins
      starts_open : (r : Registers) → TickStarts (rank_by W activities) lent frames r → r.over ≡ false
      starts_open r (run.begins none) = refl
      starts_open r (run.goes_on some) = refl

      abbrev may : MayGive lent remembers 0 (tick_gives unit)
      may = may_give unit remembers resultless inputs_distinct outputs_distinct

      -- of what the entry leaves the outputs are behind the inputs
      outputs_left : (memory : Memory) (left : Store) → OutputsEncoded structs memory (outputs_of lent) (output_values W left 0 lent) (port_places unit) →
          OutputsEncoded structs memory (outputs_of unit) (output_values W left 0 unit) (map output_place (outputs_of unit))
      outputs_left memory left holds =
          let now = (view_at W left 0).now in
          let values = take (unit.inputs + unit.outputs) (drop 0 now) in
          let split : OutputsEncoded structs memory (map lent_var (inputs_of unit) ++ map lent_var (outputs_of unit)) values (port_places unit) =
          subst (λ (vars : List Var). OutputsEncoded structs memory vars values (port_places unit)) (lent_outputs unit ∙ lent_parts unit) holds in
          let own = unlent_hold structs memory (outputs_of unit) (drop (length (inputs_of unit)) values) (map output_place (outputs_of unit))
          (behind_hold structs memory (inputs_of unit) (map lent_var (outputs_of unit)) values input_place (map output_place (outputs_of unit)) split) in
          subst (λ (values : List Value). OutputsEncoded structs memory (outputs_of unit) values (map output_place (outputs_of unit)))
          (ap (λ n. drop n values) (taken_length unit.inputs unit.vars enough)
          ∙ ap (λ (now : List Value). drop unit.inputs (take (unit.inputs + unit.outputs) now)) (drop_none now)
          ∙ drop_take unit.inputs unit.outputs now) own

      -- where the pass is cut the tick traps
      tick_cut : (r : Registers) → TickStarts (rank_by W activities) lent frames r →
          PassTraps W (rank_by W activities) (slots_by W activities) (cleared W) 0 0 frames (woken_store row s) (view_at W (woken_store row s) 0).now r →
          (tick_c file (numbers_of (cells_of file) here) row).reply ≡ Reply.trapped
      tick_cut r starts cut =
          ap (λ (t : TickOfFile). t.reply) (tick_is row here)
          ∙ ap reply_of (tick_traps known unit remembers resultless (set row here)
          (comes.cut 0 lent (tick_gives unit) frames (woken_store row s) r begun_memory at_entry is may call_begins (pass_starts r starts) cut))

      -- else it leaves what the pass leaves
      record TickLeaves (inner : Frames) (left : Store) (r : Registers) : Type 0 where
        after : Memory
        reply : (tick_c file (numbers_of (cells_of file) here) row).reply ≡ reply_of (Some (number_of r.over))
        outputs : (tick_c file (numbers_of (cells_of file) here) row).outputs ≡ drop unit.inputs (outputs_row W left)
        numbers : (tick_c file (numbers_of (cells_of file) here) row).cells ≡ numbers_of (cells_of file) after
        next : (r.counters 0 ≡ 0 → ⊥) → Between (with_at 0 r.counters inner) left after

      tick_done : (r : Registers) (inner : Frames) (left : Store) (r' : Registers) → TickStarts (rank_by W activities) lent frames r →
          Executes W (rank_by W activities) (slots_by W activities) (cleared W) 0 0 frames (woken_store row s) (view_at W (woken_store row s) 0).now r
          inner left r' → TickLeaves inner left r'
      tick_done r inner left r' starts pass =
          let c = entry_called known unit remembers resultless begun_memory in
          let leaves = comes.executes 0 lent (tick_gives unit) frames (woken_store row s) r inner left r' begun_memory at_entry is may
          call_begins
          (pass_starts r starts) pass in
          let ends : unit_may_end unit ≡ false → r'.over ≡ false =
          λ never. pass_open W (rank_by W activities) (slots_by W activities) (cleared W) lent never is pass (starts_open r starts) in
          let replies = tick_replies known unit remembers resultless (set row here) r'.over leaves.returned (leaves.over, ends) in
          let after = without_frame 0 c.memory in
          let fits : StoreFits W left =
          (keep structs units entry compiled.well_typed).executes (rank_by W activities) (slots_by W activities) (cleared W) 0 0 frames
          (woken_store row s) (view_at W (woken_store row s) 0).now r inner left r' woken_fits pass in
          let within : FramesWithin W activities inner × RegistersWithin (activity_at W activities 0).sizes r' =
          (stay structs units entry machine activities).executes 0 0 frames (woken_store row s) (view_at W (woken_store row s) 0).now r inner left r'
          compiled between.within (starts_within W activities 0 lent frames r between.within (pass_starts r starts)) pass in
          let outs = outputs_moved structs c.memory after (outputs_of unit) (output_values W left 0 unit) (λ way. refl)
          (outputs_left c.memory left leaves.outputs) in
          record {
            after = after;
            reply = ap (λ (t : TickOfFile). t.reply) (tick_is row here) ∙ ap reply_of replies.result;
            outputs =
                ap (λ (t : TickOfFile). t.outputs) (tick_is row here) ∙ ap (outputs_in (ports_of (codes "bl_out") file)) replies.memory
                ∙ row_is left after fits outs;
            numbers = ap (λ (t : TickOfFile). t.cells) (tick_is row here) ∙ ap (numbers_of (cells_of file)) replies.memory;
            next = λ some. record {
              memory = memory_moved W activities (with_at 0 r'.counters inner) left c.memory after (λ way. refl) leaves.memory;
              outputs = outs;
              fits = fits;
              within = frame_within W activities 0 r'.counters inner within.1.counters within.0;
              begins = λ none. absurd (some none);
            };
          }

  -- ---- runs

  traps_so : (t : TickOfFile) (rest : Trace) → t.reply ≡ Reply.trapped → traced t.reply t.outputs rest ≡ no_row HasTrapped
  traps_so t rest is = ap (λ (r : Reply). traced r t.outputs rest) is

  ends_so : (t : TickOfFile) (rest : Trace) (row : List ℤ) → t.reply ≡ Reply.ended → t.outputs ≡ row →
      traced t.reply t.outputs rest ≡ row_before row (no_row HasEnded)
  ends_so t rest row is outs = ap₂ (λ (r : Reply) (out : List ℤ). traced r out rest) is outs

  lasts_so : (t : TickOfFile) (rest other : Trace) (row : List ℤ) → t.reply ≡ Reply.row → t.outputs ≡ row → rest ≡ other →
      traced t.reply t.outputs rest ≡ row_before row other
  lasts_so t rest other row is outs same =
      ap₂ (λ (r : Reply) (out : List ℤ). traced r out rest) is outs ∙ ap (row_before row) same

  run_shown : (rows : List (List ℤ)) (frames : Frames) (s : Store) (trace : Trace) (here : Memory) →
      list_all (row_fits (input_columns unit)) rows ≡ true → Between frames s here →
      RuleRun W (rank_by W activities) (slots_by W activities) (cleared W) lent rows frames s trace →
      c_trace_from file rows (numbers_of (cells_of file) here) ≡ behind_columns unit.inputs trace
  run_shown [] frames s trace here fit between run.stays_open = refl
  run_shown (row ∷ rows) frames s trace here fit between (run.traps {r = r} starts cut) =
      traps_so (tick_c file (numbers_of (cells_of file) here) row)
      (c_trace_from file rows (tick_c file (numbers_of (cells_of file) here) row).cells)
      (tick_cut row frames s here between (and_first (row_fits (input_columns unit) row) _ fit) r starts cut)
  run_shown (row ∷ rows) frames s trace here fit between (run.ends {r = r} {inner = inner} {left = left} {r' = r'} starts pass over) =
      let one = tick_done row frames s here between (and_first (row_fits (input_columns unit) row) _ fit) r inner left r' starts pass in
      ends_so (tick_c file (numbers_of (cells_of file) here) row)
      (c_trace_from file rows (tick_c file (numbers_of (cells_of file) here) row).cells) (drop unit.inputs (outputs_row W left))
      (one.reply ∙ ap (λ (b : Bool). reply_of (Some (number_of b))) over) one.outputs
  run_shown (row ∷ rows) frames s trace here fit between
      (run.lasts {r = r} {inner = inner} {left = left} {r' = r'} {rest = rest} starts pass over some more) =
      let one = tick_done row frames s here between (and_first (row_fits (input_columns unit) row) _ fit) r inner left r' starts pass in
      lasts_so (tick_c file (numbers_of (cells_of file) here) row)
      (c_trace_from file rows (tick_c file (numbers_of (cells_of file) here) row).cells) (behind_columns unit.inputs rest) (drop unit.inputs (outputs_row W left))
      (one.reply ∙ ap (λ (b : Bool). reply_of (Some (number_of b))) over) one.outputs
      (ap (c_trace_from file rows) one.numbers
      ∙ run_shown rows (with_at 0 r'.counters inner) left rest one.after (and_second (row_fits (input_columns unit) row) _ fit) (one.next some) more)

  -- ---- the start

  started_is : started file ≡ begun stands.before
  unfolding started call_from_outside
  started_is = ap (λ (o : Option Meaning). applied o 0 (object state_object ∷ []) cleared_memory) stands.starts

  abbrev first_memory : Memory
  first_memory = (begun stands.before).memory

  first_zero : AllZero first_memory
  first_zero = begun_zero stands.before

  start_is : start_c file ≡ Some (numbers_of (cells_of file) first_memory)
  start_is =
      ap (λ (c : CallResult). cells_if (is_some c.result) (numbers_of (cells_of file) c.memory)) started_is
      ∙ ap (λ (o : Option ℤ). cells_if (is_some o) (numbers_of (cells_of file) first_memory)) (begun_result stands.before)

  first_between : (frames : Frames) → ((i c : ℕ) → frames i c ≡ 0) → Between frames (first_store W) first_memory
  first_between frames none = record {
    memory = record {
      counters = λ k f' m' nests c less.
          first_zero f'.root ((f'.parts ++ member (counter_name c) ∷ []) ++ []) ∙ sym (ap pos (none k c));
      variables = λ k f' m' nests x var value is_var held seen.
          subst (λ (v : Value). Encodes structs var.ty v (value_at first_memory (further m' (member (variable_name (site_at W activities k).vars x) ∷ []))))
          (sym (first_held out orderly structs units entry machine activities compiled lent there k x var value is_var held seen))
          (zero_holds structs var.ty (value_at first_memory (further m' (member (variable_name (site_at W activities k).vars x) ∷ [])))
          (λ way. first_zero m'.root ((m'.parts ++ member (variable_name (site_at W activities k).vars x) ∷ []) ++ way)));
    };
    outputs = subst (λ (values : List Value). OutputsEncoded structs first_memory (outputs_of unit) values (map output_place (outputs_of unit)))
        (sym first_outputs) (zeros_hold structs (outputs_of unit) first_memory first_zero);
    fits = first_fits;
    within = λ i c.
        subst (λ (n : ℕ). n ≤ greatest_value (activity_at W activities i).sizes c) (sym (none i c))
        (none_within (activity_at W activities i).sizes c);
    begins = λ first c. none 0 c;
  }
    where
      first_fits : StoreFits W (first_store W)
      first_fits = (starts_fit structs units entry compiled.well_typed).first

      first_outputs : output_values W (first_store W) 0 unit ≡ map (λ (var : Var). zero_of structs var.ty) (outputs_of unit)
      first_outputs =
          let has = first_fits.each 0 lent is in
          outputs_seen (first_store W) has
          ∙ ap (λ (now : List Value). take unit.outputs (drop unit.inputs now))
          (first_frame_now out orderly structs units entry machine activities compiled lent there has.frame has.is
          ∙ lent_mapped (λ (var : Var). zero_of structs var.ty) (λ var. refl) unit.vars)
          ∙ ap (take unit.outputs) (mapped_drop (λ (var : Var). zero_of structs var.ty) unit.inputs unit.vars)
          ∙ mapped_take (λ (var : Var). zero_of structs var.ty) unit.outputs (drop unit.inputs unit.vars)

  -- ---- columns

  inputs_columns : cells.inputs_of file ≡ input_columns unit
  unfolding cells.inputs_of
  inputs_columns =
      ap (filter_map column_of) stands.inputs ∙ columns structs (codes "i_") (λ name. refl) (inputs_of unit) inputs_scalar

  outputs_columns : cells.outputs_of file ≡ output_columns unit
  unfolding cells.outputs_of
  outputs_columns =
      ap (filter_map column_of) stands.outputs ∙ columns structs (codes "o_") (λ name. refl) (outputs_of unit) outputs_scalar

  pub shows : FileShows W activities unit file
  shows = record {
    trace = λ rows frames trace fit none run.
        ap (λ (o : Option (List ℤ)). trace_after file o rows) start_is
        ∙ run_shown rows frames (first_store W) trace first_memory fit (first_between frames none) run;
    inputs = inputs_columns;
    outputs = outputs_columns;
  }

pub files_show : HomesLeadOut → AcceptedIsOrderly → PassesKeepTypes → AllStartsFit → AllStayWithin → FilesShow
files_show out orderly keep starts_fit stay structs units entry machine activities unit known file compiled there comes stands kept =
    shows out orderly keep starts_fit stay structs units entry machine activities unit known file compiled there comes stands kept
