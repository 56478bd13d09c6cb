-- A call of the C function of a function without a result.
use Rattle.std.proofs.Common.{◌≡◌, ℕ, zero, suc, ◌+◌, ◌<◌, ◌≤◌, pos, arith, Bool, true, false, not, ◌&&◌, ◌||◌}
use Rattle.std.proofs.Common.{List, [], ◌∷◌, ◌++◌, length, map, take, drop, Option, Some, None, refl, sym, ap, ◌∙◌, subst}
use Rattle.std.proofs.lemmas.Bool.{leb-true}
use Rattle.std.proofs.lemmas.List.{append-nil, length-take, take-append-drop}
use Rattle.std.proofs.lemmas.Option.{same_Some, slice_get-map, slice_get_within}
use Rattle.std.proofs.Math.Seq.{take-add}
use Rattle.std.specs.Prelude.{codes, is_some, option_map, slice_get}
use Rattle.std.specs.List.{list_all, list_any}
use Rattle.bl_tree.proofs.Basics.{and_false, and_first, and_second, true_not_false}
use Rattle.bl_tree.specs.declared.c.CFunc.{CFunc}
use Rattle.bl_tree.specs.declared.c.CStmt.{CStmt}
use Rattle.bl_tree.specs.declared.scalar.Scalar.{Scalar as ScalarType}
use Rattle.bl_tree.specs.declared.tree.Role.{Role}
use Rattle.bl_tree.specs.declared.tree.Role.TheVariants.{Input, Output, Variable, Fixed}
use Rattle.bl_tree.specs.declared.tree.StructDef.{StructDef}
use Rattle.bl_tree.specs.declared.tree.Unit.{Unit as UnitDef}
use Rattle.bl_tree.specs.declared.tree.Var.{Var}
use Rattle.bl_tree.specs.declared.value.Value.{Value}
use Rattle.bl_tree.specs.Program.{IsWellTyped, is_input, is_output, locals_of, parameters_of}
use Rattle.bl_tree.specs.Types.{scalar_in, type_stands}
use Rattle.bl_tree.specs.Typing.{TypingContext, inputs_of, is_activity, is_function, outputs_of, site_of, var_at}
use Rattle.bl_eval.specs.declared.datum.Datum.{Datum}
use Rattle.bl_eval.specs.Functions.{Flow, callee_of, callees_of, does, frame_of, in_order, left_by, outputs_in, scope_among}
use Rattle.bl_eval.specs.Values.{value_fits, values_fit, zero_of}
use Rattle.bl_eval.proofs.ActFits.{AllFit}
use Rattle.bl_eval.proofs.FitLemmas.{zero_fits}
use Rattle.bl_eval.proofs.PassLemmas.{all_drop, pass_append, pass_drop, pass_each, pass_take}
use Rattle.bl_eval.proofs.UnitFits.{sound_at}
use Rattle.bl_ctext_semantics.specs.Course.{Outcome, result_at}
use Rattle.bl_ctext_semantics.specs.Meaning.{ArgumentValue, CallResult, Meaning, Scope, block_c, by_address, function_c, further}
use Rattle.bl_ctext_semantics.specs.Memory.{Location, Memory, Projection, Root, left_after, same_root}
use Rattle.bl_ctext_semantics.specs.Memory.{value_at}
use Rattle.bl_ctext_semantics.specs.Tables.{Table}
use Rattle.bl_emit_acts.specs.declared.home.Home.{Home}
use Rattle.bl_emit_acts.specs.declared.home.Home.TheVariants.{Held, Local, Lent}
use Rattle.bl_emit_acts.specs.Places.{copies_inputs, home_of, home_of_role, is_alone}
use Rattle.bl_emit_acts.specs.Types.{variable_name}
use Rattle.bl_emit_acts_laws_simulation.specs.Acts.{CallSimulates, MayPass, OutputsEncoded, RepresentsAfterCall, UnchangedOutside, lies_in}
use Rattle.bl_emit_acts_laws_simulation.specs.Frames.{is_older, lent_at}
use Rattle.bl_emit_acts_laws_simulation.specs.Encodes.{Encodes, home_at, is_live, lead_in, location_in, start_in}
use Rattle.bl_emit_acts_laws_simulation.specs.Simulation.{ArgumentsEncoded}
use Rattle.bl_emit_acts_laws_simulation.proofs.Homes.{declared_unlent, output_home}
use Rattle.bl_emit_functions.specs.Functions.{body_code, body_coded, copies_from, end_code, function_code, input_copied, is_held, none_taken, code_returns}
use Rattle.bl_emit_functions.specs.Trees.{flag_name}
use Rattle.bl_emit_functions_laws_simulation.specs.Bodies.{FlowSimulates, Represents, Spared, StatementsSimulate, number_back}
use Rattle.bl_emit_functions_laws_simulation.specs.Calls.{EndsFor, FrameBegun, HandedOver, MayRun, ProceduresSimulate, is_copied_input, memory_begun}
use Rattle.bl_emit_functions_laws_simulation.specs.Calls.{scope_begun}
use Rattle.bl_emit_functions_laws_simulation.proofs.OnCalls.Frame.{Where, frame_begun, leads, where_is}
use Rattle.bl_emit_functions_laws_simulation.proofs.OnCalls.Handing.{get_behind, handed_over, in_either, inputs_many, output_place}
use Rattle.bl_emit_functions_laws_simulation.proofs.OnCalls.Kept.{keep}
use Rattle.bl_emit_functions_laws_simulation.proofs.OnCalls.Lists.{all_at, front_all}
use Rattle.bl_emit_functions_laws_simulation.proofs.OnCalls.Locals.{local_zero}
use Rattle.bl_emit_functions_laws_simulation.proofs.OnCalls.Standing.{body_fits, end_all, roles, stands_at}
use Rattle.bl_emit_functions_laws_simulation.proofs.OnBodies.Again.{again_alike}
use Rattle.bl_emit_acts_laws_simulation.proofs.Frames.{older_differs, older_live}
use Rattle.bl_emit_acts_laws_simulation.proofs.Parts.{holds_same}
use Rattle.bl_emit_functions_laws_simulation.proofs.OnCalls.Handing.{live_older}

-- without a result no input is copied
not_copied : (alone : Bool) (role : Role) (scalar copies : Bool) → copies ≡ false → (is_input role && is_held (home_of_role alone role scalar copies)) ≡ false
not_copied alone Input true copies h = refl
not_copied alone Input false true h = absurd (true_not_false h)
not_copied alone Input false false h = refl
not_copied alone Output scalar copies h = refl
not_copied alone Variable scalar copies h = refl
not_copied alone Fixed scalar copies h = refl

outputs_hold : (structs : List StructDef) (m : Memory) (vars : List Var) (old values : List Value) (outputs : List Location) (here : Memory) →
    OutputsEncoded structs here vars old outputs → values_fit structs vars values ≡ true →
    ((j : ℕ) (var : Var) (value : Value) (place : Location) → slice_get vars j ≡ Some var → slice_get values j ≡ Some value →
    slice_get outputs j ≡ Some place → Encodes structs var.ty value (value_at m place)) → OutputsEncoded structs m vars values outputs
outputs_hold structs m [] [] [] [] here h fit each = tt
outputs_hold structs m [] [] (v ∷ values) [] here h fit each = absurd (cc)
outputs_hold structs m [] [] values (p ∷ outputs) here h fit each = absurd h
outputs_hold structs m [] (o ∷ old) values outputs here h fit each = absurd h
outputs_hold structs m (x ∷ vars) [] values outputs here h fit each = absurd h
outputs_hold structs m (x ∷ vars) (o ∷ old) values [] here h fit each = absurd h
outputs_hold structs m (x ∷ vars) (o ∷ old) [] (p ∷ outputs) here h fit each = absurd (cc)
outputs_hold structs m (x ∷ vars) (o ∷ old) (v ∷ values) (p ∷ outputs) here h fit each = (
  each 0 x v p refl refl refl,
  outputs_hold structs m vars old values outputs here h.1 (and_second _ _ fit) (λ j var value place a b c. each (suc j) var value place a b c),
)

pub taken_index : {A : Type 0} (n : ℕ) (xs : List A) (j : ℕ) (x : A) → slice_get (take n xs) j ≡ Some x → slice_get xs j ≡ Some x
taken_index zero xs j x h = absurd (cc)
taken_index (suc n) [] j x h = absurd (cc)
taken_index (suc n) (y ∷ xs) zero x h = h
taken_index (suc n) (y ∷ xs) (suc j) x h = taken_index n xs j x h

taken_less : {A : Type 0} (n : ℕ) (xs : List A) (j : ℕ) (x : A) → slice_get (take n xs) j ≡ Some x → j < n
taken_less zero xs j x h = absurd (cc)
taken_less (suc n) [] j x h = absurd (cc)
taken_less (suc n) (y ∷ xs) zero x h = omega arith
taken_less (suc n) (y ∷ xs) (suc j) x h = let less : j < n = taken_less n xs j x h in omega (arith, less)

dropped_index : {A : Type 0} (n : ℕ) (xs : List A) (j m : ℕ) (x : A) → m ≡ n + j → slice_get (drop n xs) j ≡ Some x → slice_get xs m ≡ Some x
dropped_index zero xs j m x is h = ap (slice_get xs) (omega (arith, is)) ∙ h
dropped_index (suc n) [] j m x is h = absurd (cc)
dropped_index (suc n) (y ∷ xs) j zero x is h = absurd (omega (arith, is))
dropped_index (suc n) (y ∷ xs) j (suc m) x is h = dropped_index n xs j m x (omega (arith, is)) h

any_none : (test : Location → Bool) (xs : List Location) (j : ℕ) (x : Location)
    → list_any test xs ≡ false → slice_get xs j ≡ Some x → test x ≡ false
any_none test [] j x h there = absurd (cc)
any_none test (y ∷ xs) zero x h there = ap test (sym (same_Some y x there)) ∙ or_first (test y) (list_any test xs) h
  where
    or_first : (a b : Bool) → (a || b) ≡ false → a ≡ false
    or_first true b h = absurd (true_not_false h)
    or_first false b h = refl
any_none test (y ∷ xs) (suc j) x h there = any_none test xs j x (or_second (test y) (list_any test xs) h) there
  where
    or_second : (a b : Bool) → (a || b) ≡ false → b ≡ false
    or_second true b h = absurd (true_not_false h)
    or_second false b h = h

module _ (structs : List StructDef) (units : List UnitDef) (entry k : ℕ) (unit : UnitDef) (keeps : IsWellTyped structs units entry)
    (there : slice_get units k ≡ Some unit) (function : is_function unit.kind ≡ true) (procedure : unit.result ≡ None)
    (known : Table Meaning) (depth : ℕ) (values given : List Value) (passed : List ArgumentValue) (outputs : List Location) (here : Memory)
    (may_run : MayRun structs units k unit known (depth + 1) (passed ++ map by_address outputs))
    (fit : values_fit structs (inputs_of unit) values ≡ true) (fit_given : values_fit structs (outputs_of unit) given ≡ true)
    (holds : ArgumentsEncoded structs depth here (inputs_of unit) values passed) (outs : OutputsEncoded structs here (outputs_of unit) given outputs)
    (may : MayPass depth passed outputs) where
  abbrev site : TypingContext
  site = site_of structs (take k units) unit

  abbrev code : CFunc
  code = function_code structs (take k units) unit

  abbrev args : List ArgumentValue
  args = passed ++ map by_address outputs

  abbrev scope : Scope
  scope = scope_begun known code (depth + 1) args

  abbrev begun : Memory
  begun = memory_begun code (depth + 1) args here

  abbrev frame : List Value
  frame = frame_of structs unit (values ++ given)

  abbrev done : Outcome Memory
  done = block_c code.body scope begun

  abbrev called : CallResult
  called = function_c known code (depth + 1) args here

  handed : HandedOver structs unit (depth + 1) here (values ++ given) args
  handed =
      handed_over structs unit (roles structs (take k units) unit (stands_at structs units entry k unit keeps there)) depth here values given passed outputs
      holds outs may

  begins : FrameBegun site scope frame begun
  begins =
      frame_begun structs (take k units) unit (roles structs (take k units) unit (stands_at structs units entry k unit keeps there)) function may_run.vars known
      (depth + 1) (values ++ given) args here handed

  where_at : (j : ℕ) (var : Var) → var_at site j ≡ Some var → Where site (depth + 1) here (values ++ given) args (unit.inputs + unit.outputs) j var
  where_at =
      where_is structs (take k units) unit (roles structs (take k units) unit (stands_at structs units entry k unit keeps there)) function may_run.vars known
      (depth + 1) (values ++ given) args here handed

  leads_at : (j : ℕ) (at : Location) → j < unit.inputs + unit.outputs → slice_get args j ≡ Some (by_address at) → lent_at scope site.vars j ≡ at
  leads_at =
      leads structs (take k units) unit (roles structs (take k units) unit (stands_at structs units entry k unit keeps there)) function may_run.vars known
      (depth + 1) (values ++ given) args here handed

  no_copies : copies_inputs site ≡ false
  no_copies = ap (λ (o : Option ScalarType). is_function unit.kind && is_some o) procedure ∙ and_false (is_function unit.kind)

  uncopied : (j : ℕ) (var : Var) → var_at site j ≡ Some var → is_copied_input site j var ≡ false
  uncopied j var known_at =
      ap (λ o. is_input var.role && is_held (home_of site o)) known_at
      ∙ not_copied (is_alone site var.ty) var.role (is_some (scalar_in var.ty)) (copies_inputs site) no_copies

  frame_fits : AllFit structs unit.vars frame
  frame_fits =
      let sound = sound_at structs units entry k unit keeps there in
      let test : Var → Value → Bool = λ var. value_fits structs var.ty in
      let good : Var → Bool = λ var. type_stands (length structs) var.ty in
      let zeros : AllFit structs (locals_of unit) (map (λ (var : Var). zero_of structs var.ty) (locals_of unit)) =
      pass_each test (λ var. zero_of structs var.ty) good (λ var stands. zero_fits structs var.ty sound.structs_stand stands) (locals_of unit)
      (all_drop good (unit.inputs + unit.outputs) unit.vars sound.vars_stand) in
      let arguments : AllFit structs (parameters_of unit) (values ++ given) =
      subst (λ vars. AllFit structs vars (values ++ given)) (sym (take-add unit.inputs unit.outputs unit.vars))
      (pass_append test (inputs_of unit) (outputs_of unit) values given fit fit_given) in
      subst (λ vars. AllFit structs vars frame) (take-append-drop (unit.inputs + unit.outputs) unit.vars)
      (pass_append test (parameters_of unit) (locals_of unit) (values ++ given) (map (λ (var : Var). zero_of structs var.ty) (locals_of unit)) arguments zeros)

  stands : Represents site scope frame begun
  stands = record {
    fits = frame_fits;
    variables = record { each = λ j var value known_at at. begins.variables j var value known_at at (uncopied j var known_at) };
  }

  -- ---- the body

  copies_none : (j : ℕ) (vars : List Var) → list_all (λ (var : Var). is_input var.role) vars ≡ true → copies_from site j vars ≡ []
  copies_none j [] h = refl
  copies_none j (var ∷ vars) h =
      ap (λ (first : List CStmt). first ++ copies_from site (j + 1) vars) (one (home_of site (Some var)) refl)
      ∙ copies_none (j + 1) vars (and_second _ _ h)
    where
      one : (home : Home) → home_of site (Some var) ≡ home → input_copied site home j ≡ []
      one Held is = absurd (true_not_false (sym (both_true (is_input var.role) (is_held (home_of site (Some var))) (and_first _ _ h) (ap is_held is))
          ∙ not_copied (is_alone site var.ty) var.role (is_some (scalar_in var.ty)) (copies_inputs site) no_copies))
        where
          both_true : (a b : Bool) → a ≡ true → b ≡ true → (a && b) ≡ true
          both_true a b x y = ap (λ a. a && b) x ∙ y
      one Local is = refl
      one Lent is = refl

  all_inputs : list_all (λ (var : Var). is_input var.role) (inputs_of unit) ≡ true
  all_inputs = and_first _ _ (and_second _ _ (roles structs (take k units) unit (stands_at structs units entry k unit keeps there)))

  all_outputs : list_all (λ (var : Var). is_output var.role) (outputs_of unit) ≡ true
  all_outputs = and_first _ _ (and_second _ _ (and_second _ _ (roles structs (take k units) unit (stands_at structs units entry k unit keeps there))))

  body_is : body_code site unit ≡ (body_coded site unit).code
  body_is =
      ap (λ (first : List CStmt). first ++ ((body_coded site unit).code ++ end_code unit.result (code_returns (body_coded site unit).code)))
      (copies_none 0 (inputs_of unit) all_inputs)
      ∙ ap (λ (result : Option ScalarType). (body_coded site unit).code ++ end_code result (code_returns (body_coded site unit).code)) procedure
      ∙ append-nil (body_coded site unit).code

  -- ---- what is left

  older_back : (root : Root) (way : List Projection) → is_older (depth + 1) root ≡ true → called.memory root way ≡ done.memory root way
  older_back root way h = (keep known code (depth + 1) args here).ends root way h

  many : length passed ≡ length (inputs_of unit)
  many = (inputs_many structs depth here (inputs_of unit) values passed holds).1

  input_count : length (inputs_of unit) ≡ unit.inputs
  input_count =
      let within : unit.inputs + unit.outputs ≤ length unit.vars =
      leb-true (unit.inputs + unit.outputs) (length unit.vars)
      (and_first _ _ (roles structs (take k units) unit (stands_at structs units entry k unit keeps there))) in
      omega (arith, length-take unit.inputs unit.vars, within)

  output_holds : (now : List Value) → Represents site scope now done.memory → (j : ℕ) (var : Var) (value : Value) (place : Location) →
      slice_get (outputs_of unit) j ≡ Some var → slice_get (outputs_in unit now) j ≡ Some value → slice_get outputs j ≡ Some place →
      Encodes structs var.ty value (value_at called.memory place)
  output_holds now stand j var value place var_there value_there place_there =
      let m : ℕ = unit.inputs + j in
      let inner = taken_index unit.outputs (drop unit.inputs unit.vars) j var var_there in
      let var_is : var_at site m ≡ Some var = dropped_index unit.inputs unit.vars j m var refl inner in
      let value_is : slice_get now m ≡ Some value =
      dropped_index unit.inputs now j m value refl (taken_index unit.outputs (drop unit.inputs now) j value value_there) in
      let role : is_output var.role ≡ true = all_at (λ (var : Var). is_output var.role) (outputs_of unit) j var all_outputs var_there in
      let home : home_at site m ≡ Lent =
      ap (home_of site) var_is ∙ output_home (is_alone site var.ty) var.role (is_some (scalar_in var.ty)) (copies_inputs site) role in
      let less : j < unit.outputs = taken_less unit.outputs (drop unit.inputs unit.vars) j var var_there in
      let is_passed : slice_get args m ≡ Some (by_address place) =
      get_behind passed (map by_address outputs) unit.inputs j m (many ∙ input_count) refl
      ∙ (slice_get-map by_address outputs j ∙ ap (option_map by_address) place_there) in
      let leads : lent_at scope site.vars m ≡ place = leads_at m place (omega (arith, less)) is_passed in
      let live : is_older (depth + 1) place.root ≡ true =
      live_older depth place.root (all_at (λ (place : Location). is_live depth place.root) outputs j place may.live place_there) in
      let found : Encodes structs var.ty value (value_at done.memory (location_in scope site m [])) = stand.variables.each m var value var_is value_is in
      let lent : Encodes structs var.ty value (value_at done.memory (further (lent_at scope site.vars m) [])) =
      subst (λ home. Encodes structs var.ty value (value_at done.memory
      (further (start_in scope (is_activity unit.kind) home site.vars m) (lead_in home site.vars m ++ [])))) home
      found in
      holds_same structs var.ty value (value_at done.memory (further place [])) (value_at called.memory place)
      (λ way. ap (λ parts. done.memory place.root (parts ++ way)) (append-nil place.parts) ∙ sym (older_back place.root (place.parts ++ way) live))
      (subst (λ at. Encodes structs var.ty value (value_at done.memory (further at []))) leads lent)

  apart_from : (root : Root) (way : List Projection) → is_older (depth + 1) root ≡ true → list_any (λ place. lies_in place root way) outputs ≡ false →
      (j : ℕ) (var : Var) → var_at site j ≡ Some var → is_input var.role ≡ false → lies_in (location_in scope site j []) root way ≡ false
  apart_from root way older outside j var known_at writable = by (is_activity unit.kind) (home_at site j) refl refl (where_at j var known_at)
    where
      by : (activity : Bool) (home : Home) → is_activity unit.kind ≡ activity → home_at site j ≡ home →
          Where site (depth + 1) here (values ++ given) args (unit.inputs + unit.outputs) j var →
          lies_in (further (start_in scope activity home site.vars j) (lead_in home site.vars j ++ [])) root way ≡ false
      by true home kind is found = absurd (function_kind (is_activity unit.kind) function kind)
        where
          function_kind : (activity : Bool) → not activity ≡ true → activity ≡ true → ⊥
          function_kind true h i = true_not_false (sym h)
          function_kind false h i = true_not_false (sym i)
      by false Held kind is found =
          ap (λ b. b && is_some (left_after (further (start_in scope false Held site.vars j) (lead_in Held site.vars j ++ [])).parts way))
          (older_differs (depth + 1) (codes "m") root older)
      by false Local kind is found =
          ap (λ b. b && is_some (left_after (further (start_in scope false Local site.vars j) (lead_in Local site.vars j ++ [])).parts way))
          (older_differs (depth + 1) (variable_name site.vars j) root older)
      by false Lent kind is (Where.number held value p v m less given_home role) = absurd (let other = sym given_home ∙ is in cc)
      by false Lent kind is (Where.local alone more role declared) = absurd (declared_unlent alone (sym declared ∙ is))
      by false Lent kind is (Where.place at value p v older_at holds_at less given_home lent role) =
          ap (λ (l : Location). lies_in (further l []) root way) (leads_at j at less p)
          ∙ (ap (λ parts. same_root at.root root && is_some (left_after parts way)) (append-nil at.parts)
          ∙ in_either (lies_in at root way ≡ false) passed (map by_address outputs) j (by_address at) p
          (λ inside.
          let less_in : j < length passed = slice_get_within passed j (by_address at) inside in
          let as_many : length passed ≡ unit.inputs = many ∙ input_count in
          absurd (true_not_false (sym (front_all (λ (var : Var). is_input var.role) unit.inputs unit.vars j var all_inputs known_at (omega (arith, less_in, as_many)))
          ∙ writable)))
          (λ i at_is to. any_none (λ place. lies_in place root way) outputs i at outside (output_place outputs i at to)))

  kept : Spared site scope 0 begun done.memory → UnchangedOutside depth outputs here called.memory
  kept spared = record {
    each = λ root way live outside.
        let older : is_older (depth + 1) root ≡ true = live_older depth root live in
        older_back root way older
        ∙ (spared.each root way (record {
          foreign = record {
            live = older_live (depth + 1) root older;
            variables = λ j var known_at writable. apart_from root way older outside j var known_at writable;
            copies = λ j copied. absurd (no_copy copied);
          };
          no_flag = λ j more small. older_differs (depth + 1) (flag_name j) root older;
        })
        ∙ (keep known code (depth + 1) args here).begins root way older);
  }
    where
      no_copy : false ≡ true → ⊥
      no_copy h = true_not_false (sym h)

  left : (now : List Value) → Represents site scope now done.memory → Spared site scope 0 begun done.memory → result_at done.end ≡ Some (pos 0) →
      (result : Option Datum) →
      RepresentsAfterCall structs (outputs_of unit) depth outputs here (record { outputs = outputs_in unit now; result = result }) called
  left now stand spared end result = record {
    returned = end;
    outputs =
        outputs_hold structs called.memory (outputs_of unit) given (outputs_in unit now) outputs here outs
        (pass_take test unit.outputs (drop unit.inputs unit.vars) (drop unit.inputs now) (pass_drop test unit.inputs unit.vars now stand.fits))
        (output_holds now stand);
    kept = kept spared;
  }
    where
      test : Var → Value → Bool
      test var = value_fits structs var.ty

  -- the body without the statements that read what it only sets
  abbrev inner : Outcome Memory
  inner = block_c (body_code site unit) scope begun

  flow_alike : (flow : Option Flow) → FlowSimulates site scope 0 begun flow inner → FlowSimulates site scope 0 begun flow done
  flow_alike flow h =
      let standing = roles structs (take k units) unit (stands_at structs units entry k unit keeps there) in
      let alike =
      again_alike scope begun structs (take k units) unit (body_code site unit) (body_code site unit)
      (local_zero structs (take k units) unit standing may_run.vars (depth + 1) args here) in
      by flow alike.0 alike.1 h
    where
      by : (flow : Option Flow) → done.end ≡ inner.end → done.memory ≡ inner.memory → FlowSimulates site scope 0 begun flow inner →
          FlowSimulates site scope 0 begun flow done
      by None end same h = end ∙ h
      by (Some (Flow.On now)) end same h =
          (end ∙ h.0, subst (Represents site scope now) (sym same) h.1, subst (Spared site scope 0 begun) (sym same) h.2)
      by (Some (Flow.Back now result)) end same h =
          (end ∙ h.0, subst (Represents site scope now) (sym same) h.1, subst (Spared site scope 0 begun) (sym same) h.2)

  by_flow : (flow : Option Flow) → FlowSimulates site scope 0 begun flow done → EndsFor None flow →
      CallSimulates structs (outputs_of unit) depth outputs here (option_map (left_by unit) flow) called
  by_flow None h ends = ap result_at h
  by_flow (Some (Flow.On now)) h ends = left now h.1 h.2 (ap result_at h.0) None
  by_flow (Some (Flow.Back now result)) h ends = left now h.1 h.2 (ap result_at h.0 ∙ ap (λ o. Some (number_back o)) ends) result

  pub come : StatementsSimulate structs units entry →
      CallSimulates structs (outputs_of unit) depth outputs here (callee_of structs (callees_of structs (take k units)) unit (values ++ given)) called
  come statements =
      let sees = scope_among structs (callees_of structs (take k units)) unit in
      let flow : Option Flow = in_order (map (does sees) unit.body) frame in
      by_flow flow
      (flow_alike flow (subst (λ (body : List CStmt). FlowSimulates site scope 0 begun flow (block_c body scope begun)) (sym body_is)
      (statements k unit scope unit.body none_taken frame begun keeps
      (record {
        is_there = there;
        is_function = not_activity (is_activity unit.kind) function;
        pointers = begins.pointers;
        functions = may_run.functions;
        procedures = may_run.procedures;
      })
      (body_fits structs (take k units) unit (stands_at structs units entry k unit keeps there)) may_run.apart may_run.flags stands)))
      (subst (λ result. EndsFor result flow) procedure (end_all structs units entry k unit sees frame keeps there function))
    where
      not_activity : (b : Bool) → not b ≡ true → b ≡ false
      not_activity true h = absurd (cc)
      not_activity false h = refl

pub procedures_come_all : (structs : List StructDef) (units : List UnitDef) (entry : ℕ) → StatementsSimulate structs units entry →
    ProceduresSimulate structs units entry
procedures_come_all structs units entry statements k unit known depth values given passed outputs here keeps there function procedure may_run fit fit_given
    holds outs may =
    come structs units entry k unit keeps there function procedure known depth values given passed outputs here may_run fit fit_given holds outs may statements
