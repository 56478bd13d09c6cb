-- What the call of the entry needs is kept.
use Rattle.std.proofs.Common.{◌≡◌, ℕ, zero, suc, ◌+◌, ◌<◌, Bool, true, ◌&&◌, List, [], ◌∷◌, ◌++◌}
use Rattle.std.proofs.Common.{map, length, take, drop}
use Rattle.std.proofs.Common.{Option, Some, None, refl, sym, ap, ◌∙◌, subst, arith, append-nil}
use Rattle.std.proofs.lemmas.Option.{same_Some}
use Rattle.std.specs.List.{list_all}
use Rattle.std.specs.Prelude.{codes, Contains, is_none, slice_get}
use Rattle.bl_tree.proofs.Basics.{and_first, and_second, contains_at, contains_first, contains_further, contains_mapped}
use Rattle.bl_tree.specs.declared.c.CType.{CType}
use Rattle.bl_tree.specs.declared.c.CType.TheVariants.{Scalar as OfScalar, Struct as OfStruct}
use Rattle.bl_tree.specs.declared.scalar.Scalar.{Scalar as ScalarType}
use Rattle.bl_tree.specs.declared.tree.StructDef.{StructDef}
use Rattle.bl_tree.specs.declared.tree.Ty.{Ty, out-Ty}
use Rattle.bl_tree.specs.declared.tree.Ty.TheOpen.{Ty-F}
use Rattle.bl_tree.specs.declared.tree.Unit.{Unit as UnitDef}
use Rattle.bl_tree.specs.declared.tree.Var.{Var}
use Rattle.bl_tree.specs.declared.value.Value.{Value}
use Rattle.bl_tree.specs.Program.{is_entry, parameters_of}
use Rattle.bl_tree.specs.Types.{scalar_at, scalar_in}
use Rattle.bl_tree.specs.Typing.{TypingContext, is_activity, outputs_of, var_at}
use Rattle.bl_eval.specs.Values.{value_fits}
use Rattle.bl_eval.proofs.PassLemmas.{pass_at}
use Rattle.bl_ctext_semantics.specs.Faults.{WellFormed, struct_table}
use Rattle.bl_ctext_semantics.specs.Meaning.{further as further_place}
use Rattle.bl_ctext_semantics.specs.Memory.{Location, Memory, Projection, Root, member, output_object, scalar_number, state_object, value_at}
use Rattle.bl_ctext_semantics.specs.Parts.{Parts}
use Rattle.bl_ctext_semantics_laws.specs.Fitting.{ValueSpot, walk, whole, whole_spot, whole_type}
use Rattle.bl_ctree.specs.declared.instance.Instance.{Instance}
use Rattle.bl_ctree.specs.Instances.{Setting, expanded, instances_below, runs_of, setting_of, unit_at, unit_of}
use Rattle.bl_ctree.specs.Store.{Store, view_at}
use Rattle.bl_ctree_laws_confluence.specs.Deeds.Orderly.{AcceptedIsOrderly}
use Rattle.bl_ctree_laws_typing.specs.Fits.{StoreFits}
use Rattle.bl_ctree_laws_typing.specs.Views.{ViewsAreTyped}
use Rattle.bl_emit_acts.specs.declared.home.Home.TheVariants.{Held}
use Rattle.bl_emit_acts.specs.Places.{home_of}
use Rattle.bl_emit_acts.specs.Types.{c_scalar, c_type, type_name, variable_name}
use Rattle.bl_emit_acts_laws_simulation.specs.Acts.{OutputsEncoded}
use Rattle.bl_emit_acts_laws_simulation.specs.Encodes.{Encodes, home_at, lead_level, part_level, way_to}
use Rattle.bl_emit_functions.specs.Functions.{held_member, is_held, member_of, members_from, members_of}
use Rattle.bl_emit_spec.proofs.LentLemmas.{lent_parameters_all}
use Rattle.bl_emit_spec.specs.Lent.{lent_unit}
use Rattle.bl_emit_spec.specs.Activities.{Activity, counter_member, frame_member, frame_struct, memory_member, remembered, remembers_any}
use Rattle.bl_emit_spec.specs.Activities.{runs_in_body}
use Rattle.bl_emit_spec.specs.Blocks.{counter_type}
use Rattle.bl_emit_spec.specs.Names.{counter_name}
use Rattle.bl_emit_spec.specs.Programs.{port_member, port_struct}
use Rattle.bl_machine.specs.declared.machine.Activity.{Activity as InMachine}
use Rattle.bl_machine.specs.Blocks.{up_to}
use Rattle.bl_machine_pass_laws.specs.Turns.Laws.{StaysPlaced}
use Rattle.bl_machine_pass_laws_execution.specs.Frames.{Frames}
use Rattle.bl_tree.specs.Reduce.{joined}
use Rattle.bl_emit_spec_laws.specs.Calls.Built.{Activities, activity_at, site_at, unit_number}
use Rattle.bl_emit_spec_laws.specs.Calls.Laws.{CompilationContext}
use Rattle.bl_emit_spec_laws.specs.Calls.Memories.{MemoryEncodes, Nests}
use Rattle.bl_ctext_semantics_laws_cells.specs.Cells.{AllCellsKept, CellsKept, object_types, regained}
use Rattle.bl_emit_spec_laws_files.specs.States.States.{FramesDeclared, RunsFound, StateKept, StatesAreKept, frame_place, memory_of_activity, memory_place}
use Rattle.bl_emit_spec_laws_files.specs.States.States.{output_place}
use Rattle.bl_emit_spec_laws_files.proofs.OnStates.Declared.{member_step}
use Rattle.bl_emit_spec_laws_files.proofs.OnStates.Nested.{StandsAt, along, entry_stands, nested, own_unit}
use Rattle.bl_emit_spec_laws_files.proofs.OnStates.Nested.{some_long, unit_there}
use Rattle.bl_emit_spec_laws_files.proofs.OnStates.Types.{leads}
use Rattle.bl_machine_pass_laws_typing.proofs.OnStarts.{some_scalar, is_scalar}
use Rattle.bl_machine_laws.proofs.OnTraces.Positions.{up_to_has}
use Rattle.bl_cause.proofs.PairLemmas.{contains_left}
use Rattle.bl_emit_spec_laws_files.proofs.OnFiles.Columns.{scalar_level}
use Rattle.bl_machine_pass_laws_turns.proofs.OnWaiting.Lists.{contains_right}

-- ---- scalars

-- a scalar has no parts
scalar_way : (structs : List StructDef) (ty : Ty) (s : ScalarType) → scalar_in ty ≡ Some s → (ks : List ℕ) → way_to structs ks (Some ty) ≡ []
scalar_way structs ty s is [] = refl
scalar_way structs ty s is (k ∷ ks) = by (out-Ty ty) is
  where
    none : (ks : List ℕ) → way_to structs ks None ≡ []
    none [] = refl
    none (j ∷ js) = refl

    by : (layer : Ty-F Ty) → scalar_at layer ≡ Some s → lead_level structs k layer ++ way_to structs ks (part_level structs k layer) ≡ []
    by (Ty-F.Scalar t) h = none ks
    by (Ty-F.Struct j) h = absurd (cc)
    by (Ty-F.Array n inner) h = absurd (cc)

-- of the first so many the ones behind some
middle_all : (n m : ℕ) (vars : List Var) → list_all is_scalar (take (n + m) vars) ≡ true → list_all is_scalar (take m (drop n vars)) ≡ true
middle_all zero m [] all = none m
  where
    none : (m : ℕ) → list_all is_scalar (take m []) ≡ true
    none zero = refl
    none (suc m) = refl
middle_all zero m (var ∷ vars) all = let sum : 0 + m ≡ m = omega arith in
    subst (λ (k : ℕ). list_all is_scalar (take k (var ∷ vars)) ≡ true) sum all
middle_all (suc n) m [] all = none m
  where
    none : (m : ℕ) → list_all is_scalar (take m []) ≡ true
    none zero = refl
    none (suc m) = refl
middle_all (suc n) m (var ∷ vars) all =
    let sum : suc n + m ≡ suc (n + m) = omega arith in
    middle_all n m vars (and_second (is_scalar var) (list_all is_scalar (take (n + m) vars))
    (subst (λ (k : ℕ). list_all is_scalar (take k (var ∷ vars)) ≡ true) sum all))

-- ---- variables that are held

held_within : (site : TypingContext) (k : ℕ) (vars : List Var) (x : ℕ) (var : Var) → slice_get vars x ≡ Some var →
    is_held (home_of site (Some var)) ≡ true →
    Contains (members_from site k vars) (held_member site.structs site.vars (k + x) var)
held_within site k [] x var there held = absurd (cc)
held_within site k (first ∷ rest) zero var there held =
    let same = same_Some first var there in
    let from : k + 0 ≡ k = omega arith in
    contains_left (member_of (is_held (home_of site (Some first))) site.structs site.vars k first) (members_from site (k + 1) rest)
    (held_member site.structs site.vars (k + 0) var)
    (subst (λ (v : Var). Contains (member_of (is_held (home_of site (Some v))) site.structs site.vars k v)
    (held_member site.structs site.vars (k + 0) var)) (sym same)
    (subst (λ (b : Bool). Contains (member_of b site.structs site.vars k var) (held_member site.structs site.vars (k + 0) var)) (sym held)
    (subst (λ (n : ℕ). Contains (held_member site.structs site.vars k var ∷ []) (held_member site.structs site.vars n var)) (sym from)
    (contains_first (held_member site.structs site.vars k var) []))))
held_within site k (first ∷ rest) (suc x) var there held =
    let sum : (k + 1) + x ≡ k + suc x = omega arith in
    contains_right (member_of (is_held (home_of site (Some first))) site.structs site.vars k first) (members_from site (k + 1) rest)
    (held_member site.structs site.vars (k + suc x) var)
    (subst (λ (n : ℕ). Contains (members_from site (k + 1) rest) (held_member site.structs site.vars n var)) sum
    (held_within site (k + 1) rest x var there held))

-- ---- what is kept

module _ (orderly : AcceptedIsOrderly) (placed : StaysPlaced) (views : ViewsAreTyped) (structs : List StructDef) (units : List UnitDef) (entry : ℕ)
    (machine : List InMachine) (activities : Activities) (unit : UnitDef) (file : Parts) (compiled : CompilationContext structs units entry machine activities)
    (runs : RunsFound structs units entry) (there : slice_get units entry ≡ Some (lent_unit unit)) (formed : WellFormed file)
    (declared : FramesDeclared structs units entry activities unit file) (kept : CellsKept file) where
  abbrev W : Setting
  W = setting_of structs units entry

  abbrev A : ℕ → Activity
  A i = activity_at W activities i

  abbrev root : Instance
  root = record { unit = entry; depth = 0; origin = None }

  root_is : slice_get W.instances 0 ≡ Some root
  root_is =
      let sum : entry + 1 ≡ suc entry = omega arith in
      ap (λ n. slice_get (expanded units n entry) 0) sum
      ∙ ap (λ (o : Option UnitDef). slice_get (Rattle.std.specs.Prelude.unwrap_or (Rattle.std.specs.Prelude.option_map (λ (unit : UnitDef). root
      ∷ instances_below (expanded units entry) 1 (runs_of unit)) o) []) 0) there

  entry_is : unit_at W 0 ≡ Some (lent_unit unit)
  entry_is = ap (Rattle.std.specs.Prelude.option_and_then (unit_of W)) root_is ∙ there

  entry_number : unit_number W 0 ≡ entry
  entry_number =
      ap (λ (o : Option Instance). Rattle.std.specs.Prelude.unwrap_or (Rattle.std.specs.Prelude.option_map (λ (instance : Instance). instance.unit) o) 0)
      root_is

  abbrev Stands : ℕ → Location → Location → Type 0
  Stands = StandsAt orderly placed structs units entry machine activities unit file compiled runs formed declared

  all_stand : {k : ℕ} {f' m' : Location} → Nests W activities 0 frame_place memory_place k f' m' → Stands k f' m'
  all_stand nests =
      nested orderly placed structs units entry machine activities unit file compiled runs formed declared nests
      (entry_stands orderly placed structs units entry machine activities unit file compiled runs formed declared entry_is entry_number)

  abbrev Leads : List Projection → ValueSpot → Type 0
  Leads way goal = walk (struct_table file.structs) (Some (whole (OfStruct (codes "bl_state")))) way ≡ Some goal

  -- a number of the state
  state_kept : (memory : Memory) (at : Root) (way : List Projection) (kind : ScalarType) → at ≡ state_object → Leads way (whole (OfScalar kind)) →
      regained file memory at way ≡ memory at way
  state_kept memory at way kind is leading =
      sym (ap (regained file memory at) (append-nil way))
      ∙ kept memory (record { root = at; parts = way }) kind
      (ap (λ (r : Root). whole_type (walk (struct_table file.structs) (whole_spot (object_types r)) way)) is ∙ ap whole_type leading)
      ∙ ap (memory at) (append-nil way)

  goes_along : (first rest : List Projection) (spot goal : ValueSpot) → Leads first spot → walk (struct_table file.structs) (Some spot) rest ≡ Some goal →
      Leads (first ++ rest) goal
  goes_along = along orderly placed structs units entry machine activities unit file compiled runs formed declared

  counter_kept : (memory : Memory) (k c : ℕ) (f' m' : Location) → Stands k f' m' → c < length (A k).sizes →
      scalar_number (value_at (regained file memory) (further_place f' (member (counter_name c) ∷ [])))
      ≡ scalar_number (value_at memory (further_place f' (member (counter_name c) ∷ [])))
  counter_kept memory k c f' m' stands less =
      let counters = map (counter_member (A k).sizes) (up_to (length (A k).sizes)) in
      let step = member_step file formed (frame_struct (A k)) (counter_member (A k).sizes c) (declared.frames k stands.other stands.is_there)
      (contains_left counters (map (frame_member (A k)) (runs_in_body (A k))) (counter_member (A k).sizes c)
      (contains_mapped (counter_member (A k).sizes) (up_to (length (A k).sizes)) c (up_to_has (length (A k).sizes) c less))) in
      let leading = goes_along f'.parts (member (counter_name c) ∷ []) (whole (OfStruct (frame_struct (A k)).name))
      (whole (OfScalar (counter_type (A k).sizes c))) stands.frame step in
      let way = f'.parts ++ member (counter_name c) ∷ [] in
      ap (regained file memory f'.root) (append-nil way) ∙ state_kept memory f'.root way (counter_type (A k).sizes c) stands.frame_root leading
      ∙ sym (ap (memory f'.root) (append-nil way))

  module _ (memory : Memory) (store : Store) (fits : StoreFits W store) (k : ℕ) (f' m' : Location) (stands : Stands k f' m') (x : ℕ) (var : Var)
      (value : Value) (is_var : var_at (site_at W activities k) x ≡ Some var) (held : home_at (site_at W activities k) x ≡ Held)
      (is_value : slice_get (view_at W store k).now x ≡ Some value) where
    abbrev other : UnitDef
    other = stands.other

    is_there : unit_at W k ≡ Some stands.other
    is_there = stands.is_there

    position : slice_get units (unit_number W k) ≡ Some stands.other
    position = unit_there orderly placed structs units entry machine activities unit file compiled runs formed declared k stands.other is_there

    same_unit : (A k).unit ≡ stands.other
    same_unit = own_unit orderly placed structs units entry machine activities unit file compiled runs formed declared k stands.other is_there

    same_structs : (A k).structs ≡ structs
    same_structs = compiled.built.structures (unit_number W k) stands.other position

    var_there : slice_get stands.other.vars x ≡ Some var
    var_there = subst (λ (u : UnitDef). slice_get u.vars x ≡ Some var) same_unit is_var

    is_member : Contains (remembered (A k)) (held_member (A k).structs (A k).unit.vars x var)
    is_member =
        let site = site_at W activities k in
        let from_zero : 0 + x ≡ x = omega arith in
        contains_left (members_of (A k).structs (A k).earlier (A k).unit) (joined (map (memory_member (A k)) (runs_in_body (A k))))
        (held_member (A k).structs (A k).unit.vars x var)
        (subst (λ (n : ℕ). Contains (members_from site 0 site.vars) (held_member (A k).structs (A k).unit.vars n var)) from_zero
        (held_within site 0 site.vars x var is_var (ap is_held (sym (ap (home_of site) is_var) ∙ held))))

    remembers : remembers_any (A k) ≡ true
    remembers = some_long (remembered (A k)) (held_member (A k).structs (A k).unit.vars x var) is_member

    leading : Leads (m'.parts ++ member (variable_name (A k).unit.vars x) ∷ []) (whole (c_type structs var.ty))
    leading =
        goes_along m'.parts (member (variable_name (A k).unit.vars x) ∷ []) (whole (OfStruct (memory_of_activity (A k)).name)) (whole (c_type structs var.ty))
        (stands.memory remembers)
        (member_step file formed (memory_of_activity (A k)) (held_member (A k).structs (A k).unit.vars x var)
        (declared.memories k stands.other is_there remembers)
        is_member
        ∙ ap (λ (s : List StructDef). Some (whole (c_type s var.ty))) same_structs)

    fitting : value_fits structs var.ty value ≡ true
    fitting =
        let seen = views structs units entry k stands.other store compiled.well_typed is_there fits in
        let found = pass_at (λ (var : Var). value_fits structs var.ty) stands.other.vars (view_at W store k).now x var seen.now var_there in
        subst (λ (v : Value). value_fits structs var.ty v ≡ true) (same_Some found.0 value (sym found.1 ∙ is_value)) found.2

    all_declared : (ks : List ℕ) (inner : Ty) → Rattle.bl_emit_acts_laws_simulation.specs.Encodes.type_after structs ks (Some var.ty) ≡ Some inner →
        Rattle.bl_emit_spec_laws_files.specs.States.States.TypeDeclared structs file.structs (out-Ty inner)
    all_declared ks inner typed =
        declared.types stands.other var ks inner (contains_at units (unit_number W k) stands.other position)
        (contains_at stands.other.vars x var var_there) typed

    pub variable_kept : Encodes structs var.ty value (value_at memory (further_place m' (member (variable_name (A k).unit.vars x) ∷ []))) →
        Encodes structs var.ty value (value_at (regained file memory) (further_place m' (member (variable_name (A k).unit.vars x) ∷ [])))
    variable_kept holds = record {
      each = λ ks n number.
          (let scalar = leads structs compiled.well_typed.structs_stand file formed ks var.ty value n all_declared fitting number in
          state_kept memory m'.root
          ((m'.parts ++ member (variable_name (A k).unit.vars x) ∷ []) ++ way_to structs ks (Some var.ty)) scalar.kind stands.memory_root
          (goes_along (m'.parts ++ member (variable_name (A k).unit.vars x) ∷ []) (way_to structs ks (Some var.ty)) (whole (c_type structs var.ty))
          (whole (OfScalar scalar.kind)) leading scalar.walks))
          ∙ holds.each ks n number;
    }

  memory_kept : (frames : Frames) (store : Store) (memory : Memory) → StoreFits W store →
      MemoryEncodes W activities 0 frame_place memory_place frames store memory →
      MemoryEncodes W activities 0 frame_place memory_place frames store (regained file memory)
  memory_kept frames store memory fits holds = record {
    counters = λ k f' m' nests c less. counter_kept memory k c f' m' (all_stand nests) less ∙ holds.counters k f' m' nests c less;
    variables = λ k f' m' nests x var value is_var held is_value.
        variable_kept memory store fits k f' m' (all_stand nests) x var value is_var held is_value
        (holds.variables k f' m' nests x var value is_var held is_value);
  }

  -- ---- outputs

  entry_so : (is_activity unit.kind && (is_none unit.result && list_all is_scalar (parameters_of (lent_unit unit)))) ≡ true
  entry_so = ap is_entry (sym there) ∙ compiled.well_typed.entry_stands

  outputs_scalar : list_all is_scalar (outputs_of unit) ≡ true
  outputs_scalar =
      middle_all unit.inputs unit.outputs unit.vars
      (sym (lent_parameters_all is_scalar (λ var. refl) unit)
      ∙ and_second (is_none unit.result) (list_all is_scalar (parameters_of (lent_unit unit)))
      (and_second (is_activity unit.kind) (is_none unit.result && list_all is_scalar (parameters_of (lent_unit unit))) entry_so))

  output_kept : (memory : Memory) (var : Var) → Contains (outputs_of unit) var → is_scalar var ≡ true → (ks : List ℕ) →
      regained file memory output_object (member (codes "o_" ++ var.name) ∷ way_to structs ks (Some var.ty))
      ≡ memory output_object (member (codes "o_" ++ var.name) ∷ way_to structs ks (Some var.ty))
  output_kept memory var within scalar ks =
      let found = some_scalar (scalar_in var.ty) scalar in
      let step = member_step file formed (port_struct structs (codes "bl_out") (codes "o_") (outputs_of unit)) (port_member structs (codes "o_") var)
      declared.outputs (contains_further _ (map (port_member structs (codes "o_")) (outputs_of unit)) (port_member structs (codes "o_") var)
      (contains_mapped (port_member structs (codes "o_")) (outputs_of unit) var within)) in
      let typed = step ∙ ap (λ (t : CType). Some (whole t)) (scalar_level (type_name structs var.ty) (out-Ty var.ty) found.0 found.1) in
      let none = scalar_way structs var.ty found.0 found.1 ks in
      ap (λ (way : List Projection). regained file memory output_object (member (codes "o_" ++ var.name) ∷ way)) none
      ∙ kept memory (output_place var) (c_scalar found.0) (ap whole_type typed)
      ∙ sym (ap (λ (way : List Projection). memory output_object (member (codes "o_" ++ var.name) ∷ way)) none)

  outputs_kept : (memory : Memory) (vars : List Var) (values : List Value) → ((var : Var) → Contains vars var → Contains (outputs_of unit) var) →
      list_all is_scalar vars ≡ true → OutputsEncoded structs memory vars values (map output_place vars) →
      OutputsEncoded structs (regained file memory) vars values (map output_place vars)
  outputs_kept memory [] [] within scalars holds = tt
  outputs_kept memory [] (value ∷ values) within scalars holds = absurd holds
  outputs_kept memory (var ∷ vars) [] within scalars holds = absurd holds
  outputs_kept memory (var ∷ vars) (value ∷ values) within scalars holds = (
    record {
      each = λ ks n number.
          output_kept memory var (within var (contains_first var vars)) (and_first (is_scalar var) (list_all is_scalar vars) scalars) ks
          ∙ holds.0.each ks n number;
    },
    outputs_kept memory vars values (λ v at. within v (contains_further var vars v at)) (and_second (is_scalar var) (list_all is_scalar vars) scalars) holds.1,
  )

  pub state_is_kept : StateKept W activities unit file
  state_is_kept = record {
    memory = memory_kept;
    outputs = λ values memory holds. outputs_kept memory (outputs_of unit) values (λ var at. at) outputs_scalar holds;
  }

pub states_are_kept : AcceptedIsOrderly → StaysPlaced → ViewsAreTyped → AllCellsKept → StatesAreKept
states_are_kept orderly placed views cells structs units entry machine activities unit file compiled runs there formed declared =
    state_is_kept orderly placed views structs units entry machine activities unit file compiled runs there formed declared (cells file formed)
