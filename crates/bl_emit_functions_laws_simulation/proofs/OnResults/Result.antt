-- A call of the C function of a function with a result.
use Rattle.std.proofs.Common.{◌≡◌, ℕ, ◌+◌, ◌≤◌, arith, Bool, true, false, not, ◌&&◌, ◌||◌}
use Rattle.std.proofs.Common.{List, [], ◌++◌, length, map, take, drop, Option, Some, None, refl, sym, ap, ◌∙◌, subst}
use Rattle.std.proofs.lemmas.Bool.{eqb-true, ltb-false, ltb-true}
use Rattle.std.proofs.lemmas.List.{append-nil, take-append-drop}
use Rattle.std.specs.Prelude.{codes, is_none, is_some, nat_eq, nat_lt, option_map, slice_get, if◌then◌else◌}
use Rattle.std.proofs.lemmas.Bool.{not-true}
use Rattle.bl_tree.proofs.Basics.{and_first, true_not_false}
use Rattle.bl_tree.specs.declared.c.CFunc.{CFunc}
use Rattle.bl_tree.specs.declared.c.CStmt.{CStmt}
use Rattle.bl_tree.specs.declared.scalar.Scalar.{Scalar as ScalarType}
use Rattle.bl_tree.specs.declared.tree.Role.{Role}
use Rattle.bl_tree.specs.declared.tree.Role.TheVariants.{Input, Output, Variable, Fixed}
use Rattle.bl_tree.specs.declared.tree.StructDef.{StructDef}
use Rattle.bl_tree.specs.declared.tree.Unit.{Unit as UnitDef}
use Rattle.bl_tree.specs.declared.tree.Var.{Var}
use Rattle.bl_tree.specs.declared.value.Value.{Value}
use Rattle.bl_tree.specs.Program.{IsWellTyped, is_input, is_output, locals_of, parameters_of, roles_stand}
use Rattle.bl_tree.specs.Returns.{activity_returns, function_returns, last_of, surely_returns, unit_returns}
use Rattle.bl_tree.specs.Types.{scalar_in, type_stands}
use Rattle.bl_tree.specs.Typing.{TypingContext, inputs_of, is_activity, is_fixed, is_function, is_variable, outputs_of, site_of, var_at}
use Rattle.bl_eval.specs.Functions.{Flow, callee_of, callees_of, does, frame_of, in_order, left_by, scope_among}
use Rattle.bl_eval.specs.Meaning.{Scope as Sees}
use Rattle.bl_eval.specs.Values.{value_fits, values_fit, zero_of}
use Rattle.bl_eval.proofs.ActFits.{AllFit}
use Rattle.bl_eval.proofs.FitLemmas.{zero_fits}
use Rattle.bl_eval.proofs.PassLemmas.{all_drop, pass_append, pass_each}
use Rattle.bl_eval.proofs.UnitFits.{sound_at}
use Rattle.bl_ctext_semantics.specs.Course.{End, Outcome, breaks, following_end, goes_on, result_at, returns, traps}
use Rattle.bl_ctext_semantics.specs.Meaning.{ArgumentValue, CallResult, Meaning, Scope, block_c, function_c, further}
use Rattle.bl_ctext_semantics.specs.Memory.{Memory, Projection, Root, left_after}
use Rattle.bl_ctext_semantics.specs.Tables.{Table}
use Rattle.bl_emit_acts.specs.declared.home.Home.{Home}
use Rattle.bl_emit_acts.specs.declared.home.Home.TheVariants.{Held, Local, Lent}
use Rattle.bl_emit_acts.specs.Places.{copies_inputs, home_of, is_alone}
use Rattle.bl_emit_acts.specs.Types.{variable_name}
use Rattle.bl_emit_acts_laws_simulation.specs.Acts.{OutputsEncoded, UnchangedOutside, lies_in}
use Rattle.bl_emit_acts_laws_simulation.specs.Frames.{is_older}
use Rattle.bl_emit_acts_laws_simulation.specs.Encodes.{home_at, lead_in, location_in, start_in}
use Rattle.bl_emit_acts_laws_simulation.specs.Simulation.{ArgumentsEncoded}
use Rattle.bl_emit_acts_laws_simulation.proofs.Homes.{lent_output}
use Rattle.bl_emit_functions.specs.Functions.{body_coded, copies_from, end_code, function_code, is_held, none_taken, code_returns}
use Rattle.bl_emit_functions.specs.Functions.{body_code}
use Rattle.bl_emit_functions.specs.Trees.{flag_name}
use Rattle.bl_emit_functions_laws_simulation.specs.Bodies.{FlowSimulates, Spared, StatementsSimulate, Untouched, number_back}
use Rattle.bl_emit_functions_laws_simulation.proofs.OnBodies.Courses.{Alike, append_alike}
use Rattle.bl_emit_functions_laws_simulation.proofs.OnBodies.Courses.{alike_trans}
use Rattle.bl_emit_functions_laws_simulation.proofs.OnBodies.Again.{again_alike}
use Rattle.bl_emit_functions_laws_simulation.specs.Calls.{BodiesEnd, CallKeepsFrame, CallsKeepFrame, EndsFor, FrameBegun, FramesBegin, HandedOver, HandsOver}
use Rattle.bl_emit_functions_laws_simulation.specs.Calls.{MayRun, is_copied_input, memory_begun, scope_begun}
use Rattle.bl_emit_functions_laws_simulation.proofs.OnCalls.Lists.{front_all, rest_all}
use Rattle.bl_emit_functions_laws_simulation.proofs.OnCalls.Locals.{local_zero}
use Rattle.bl_emit_functions_laws_simulation.proofs.OnCalls.Standing.{body_fits, returns as returning, roles, stands_at}
use Rattle.bl_emit_functions_laws_simulation.specs.Results.{CallReturns, InputsBegin, InputsBegun, ResultsSimulate}
use Rattle.bl_emit_functions_laws_simulation.proofs.OnResults.Inputs.{all_inputs, all_locals}
use Rattle.bl_emit_acts_laws_simulation.proofs.Frames.{older_differs, older_live}
use Rattle.bl_emit_functions_laws_simulation.proofs.OnCalls.Handing.{live_older}

-- ---- blocks

-- what follows statements that go on
goes_alike : (n : ℕ) (m : Memory) (e : End) (rest : Memory → Outcome Memory) → e ≡ goes_on → Alike (following_end n m e rest) (rest m)
goes_alike n m goes_on rest h = (refl, refl)
goes_alike n m breaks rest h = absurd (cc)
goes_alike n m (returns x) rest h = absurd (cc)
goes_alike n m traps rest h = absurd (cc)

-- nothing follows a trap or a `return`
stops_alike : (n : ℕ) (m : Memory) (e : End) (rest : Memory → Outcome Memory) → (e ≡ goes_on → ⊥) →
    Alike (following_end n m e rest) (record { memory = m; end = e; count = n })
stops_alike n m goes_on rest h = absurd (h refl)
stops_alike n m breaks rest h = (refl, refl)
stops_alike n m (returns x) rest h = (refl, refl)
stops_alike n m traps rest h = (refl, refl)

-- statements that go on, then those that don't, then those that aren't reached
body_alike : (scope : Scope) (copies body end : List CStmt) (m : Memory) → (block_c copies scope m).end ≡ goes_on →
    ((block_c body scope (block_c copies scope m).memory).end ≡ goes_on → ⊥) →
    Alike (block_c (copies ++ (body ++ end)) scope m) (block_c body scope (block_c copies scope m).memory)
body_alike scope copies body end m goes stops =
    let first = block_c copies scope m in
    let second = block_c body scope first.memory in
    let one = append_alike scope copies (body ++ end) m in
    let two = goes_alike first.count first.memory first.end (block_c (body ++ end) scope) goes in
    let three = append_alike scope body end first.memory in
    let four = stops_alike second.count second.memory second.end (block_c end scope) stops in
    (one.0 ∙ (two.0 ∙ (three.0 ∙ four.0)), one.1 ∙ (two.1 ∙ (three.1 ∙ four.1)))

-- ---- outputs

none_put : (unit : UnitDef) (s : ScalarType) → is_function unit.kind ≡ true → unit.result ≡ Some s → unit_returns unit ≡ true → unit.outputs ≡ 0
none_put unit s function result all = by_kind (is_activity unit.kind) function all
  where
    by_result : (o : Option ScalarType) (b c : Bool) → o ≡ Some s → (is_none o || (b && c)) ≡ true → b ≡ true
    by_result None b c is all = absurd (cc)
    by_result (Some t) b c is all = and_first b c all

    by_kind : (activity : Bool) → not activity ≡ true → (if activity then activity_returns unit else function_returns unit) ≡ true
        → unit.outputs ≡ 0
    by_kind true is all = absurd (cc)
    by_kind false is all =
        eqb-true unit.outputs 0 (by_result unit.result (nat_eq unit.outputs 0) (last_of (map surely_returns unit.body)) result all)

local_output : (role : Role) → (is_variable role || is_fixed role) ≡ true → is_output role ≡ true → ⊥
local_output Input h i = true_not_false (sym h)
local_output Output h i = true_not_false (sym h)
local_output Variable h i = true_not_false (sym i)
local_output Fixed h i = true_not_false (sym i)

held_lent : (home : Home) → is_held home ≡ true → home ≡ Lent → ⊥
held_lent Held h is = cc
held_lent Local h is = cc
held_lent Lent h is = cc

-- where there are no outputs, only inputs are lent
lent_input : (structs : List StructDef) (earlier : List UnitDef) (unit : UnitDef)
    → roles_stand unit ≡ true → unit.outputs ≡ 0 → (j : ℕ) (var : Var) →
    var_at (site_of structs earlier unit) j ≡ Some var → is_input var.role ≡ false → home_at (site_of structs earlier unit) j ≡ Lent → ⊥
lent_input structs earlier unit standing none j var there writable lent = by (nat_lt j unit.inputs) refl
  where
    site : TypingContext
    site = site_of structs earlier unit

    output : is_output var.role ≡ true
    output =
        lent_output (is_alone site var.ty) var.role (is_some (scalar_in var.ty)) (copies_inputs (site_of structs earlier unit))
        (sym (ap (home_of (site_of structs earlier unit)) there) ∙ lent) writable

    by : (first : Bool) → nat_lt j unit.inputs ≡ first → ⊥
    by true is =
        true_not_false (sym (front_all (λ (var : Var). is_input var.role) unit.inputs unit.vars j var (all_inputs structs earlier unit standing) there
        (ltb-true j unit.inputs is)) ∙ writable)
    by false is =
        let behind : unit.inputs ≤ j = ltb-false j unit.inputs is in
        local_output var.role
        (rest_all (λ (var : Var). is_variable var.role || is_fixed var.role) (unit.inputs + unit.outputs) unit.vars j var
        (all_locals structs earlier unit standing) there (omega (arith, behind, none))) output

-- ---- the call

module _ (structs : List StructDef) (units : List UnitDef) (entry k : ℕ) (unit : UnitDef) (s : ScalarType) (keeps : IsWellTyped structs units entry)
    (there : slice_get units k ≡ Some unit) (function : is_function unit.kind ≡ true) (result : unit.result ≡ Some s)
    (known : Table Meaning) (depth : ℕ) (values : List Value) (passed : List ArgumentValue) (here : Memory)
    (may_run : MayRun structs units k unit known (depth + 1) passed) (fit : values_fit structs (inputs_of unit) values ≡ true)
    (holds : ArgumentsEncoded structs depth here (inputs_of unit) values passed) where
  abbrev site : TypingContext
  site = site_of structs (take k units) unit

  abbrev code : CFunc
  code = function_code structs (take k units) unit

  abbrev scope : Scope
  scope = scope_begun known code (depth + 1) passed

  abbrev begun : Memory
  begun = memory_begun code (depth + 1) passed here

  abbrev frame : List Value
  frame = frame_of structs unit values

  abbrev copies : List CStmt
  copies = copies_from site 0 (inputs_of unit)

  abbrev copied : Memory
  copied = (block_c copies scope begun).memory

  abbrev ran : Outcome Memory
  ran = block_c (body_coded site unit).code scope copied

  abbrev done : Outcome Memory
  done = block_c code.body scope begun

  abbrev called : CallResult
  called = function_c known code (depth + 1) passed here

  standing : roles_stand unit ≡ true
  standing = roles structs (take k units) unit (stands_at structs units entry k unit keeps there)

  none : unit.outputs ≡ 0
  none = none_put unit s function result (returning structs (take k units) unit (stands_at structs units entry k unit keeps there))

  -- ---- arguments

  outputs_are : outputs_of unit ≡ []
  outputs_are = ap (λ n. take n (drop unit.inputs unit.vars)) none

  handed : HandsOver structs units entry → HandedOver structs unit (depth + 1) here values passed
  handed hands =
      subst (λ passed. HandedOver structs unit (depth + 1) here values passed) (append-nil passed)
      (subst (λ values. HandedOver structs unit (depth + 1) here values (passed ++ [])) (append-nil values)
      (hands k unit depth here values [] passed [] keeps there holds
      (subst (λ vars. OutputsEncoded structs here vars [] []) (sym outputs_are) tt) (record { apart = refl; inputs_apart = refl; live = refl })))

  parameters_are : inputs_of unit ≡ parameters_of unit
  parameters_are = ap (λ n. take n unit.vars) (let no : unit.outputs ≡ 0 = none in omega (arith, no))

  frame_fits : AllFit structs unit.vars frame
  frame_fits =
      let sound = sound_at structs units entry k unit keeps there in
      let test : Var → Value → Bool = λ var. value_fits structs var.ty in
      let zeros : AllFit structs (locals_of unit) (map (λ (var : Var). zero_of structs var.ty) (locals_of unit)) =
      pass_each test (λ var. zero_of structs var.ty) (λ var. type_stands (length structs) var.ty)
      (λ var stands. zero_fits structs var.ty sound.structs_stand stands) (locals_of unit)
      (all_drop (λ var. type_stands (length structs) var.ty) (unit.inputs + unit.outputs) unit.vars sound.vars_stand) in
      subst (λ vars. AllFit structs vars frame) (take-append-drop (unit.inputs + unit.outputs) unit.vars)
      (pass_append test (parameters_of unit) (locals_of unit) values (map (λ (var : Var). zero_of structs var.ty) (locals_of unit))
      (subst (λ vars. AllFit structs vars values) parameters_are fit) zeros)

  -- ---- what is left

  -- what is older lies in no variable that isn't lent
  outside : (root : Root) (way : List Projection) → is_older (depth + 1) root ≡ true → (j : ℕ) → (home_at site j ≡ Lent → ⊥) →
      lies_in (location_in scope site j []) root way ≡ false
  outside root way older j isnt = by (is_activity unit.kind) (home_at site j) (not-true (is_activity unit.kind) function) isnt
    where
      by : (activity : Bool) (home : Home) → activity ≡ false → (home ≡ Lent → ⊥) →
          lies_in (further (start_in scope activity home site.vars j) (lead_in home site.vars j ++ [])) root way ≡ false
      by true home is isnt = absurd (true_not_false is)
      by false Held is isnt =
          ap (λ b. b && is_some (left_after (further (start_in scope false Held site.vars j) (lead_in Held site.vars j ++ [])).parts way))
          (older_differs (depth + 1) (codes "m") root older)
      by false Local is isnt =
          ap (λ b. b && is_some (left_after (further (start_in scope false Local site.vars j) (lead_in Local site.vars j ++ [])).parts way))
          (older_differs (depth + 1) (variable_name site.vars j) root older)
      by false Lent is isnt = absurd (isnt refl)

  untouched : (root : Root) (way : List Projection) → is_older (depth + 1) root ≡ true → Untouched site scope 0 root way
  untouched root way older = record {
    foreign = record {
      live = older_live (depth + 1) root older;
      variables = λ j var known_at writable.
          outside root way older j (lent_input structs (take k units) unit standing none j var known_at writable);
      copies = λ j copied. absurd (cc);
    };
    no_flag = λ j more small. older_differs (depth + 1) (flag_name j) root older;
  }

  kept : CallsKeepFrame → InputsBegun site scope begun frame copied → Spared site scope 0 copied ran.memory → done.memory ≡ ran.memory →
      UnchangedOutside depth [] here called.memory
  kept calls first spared same = record {
    each = λ root way live elsewhere.
        let older : is_older (depth + 1) root ≡ true = live_older depth root live in
        let keeping : CallKeepsFrame known code (depth + 1) passed here = calls known code (depth + 1) passed here in
        keeping.ends root way older
        ∙ (ap (λ (m : Memory). m root way) same
        ∙ (spared.each root way (untouched root way older)
        ∙ (first.kept root way (λ j var known_at is. outside root way older j (held_lent (home_at site j) (held j var is)))
        ∙ keeping.begins root way older)));
  }
    where
      held : (j : ℕ) (var : Var) → is_copied_input site j var ≡ true → is_held (home_at site j) ≡ true
      held j var is = and_second (is_input var.role) (is_held (home_at site j)) is
        where
          and_second : (a b : Bool) → (a && b) ≡ true → b ≡ true
          and_second true b h = h
          and_second false b h = absurd (cc)

  done_alike : (block_c copies scope begun).end ≡ goes_on → (ran.end ≡ goes_on → ⊥) → Alike done ran
  done_alike goes stops =
      alike_trans done (block_c (body_code site unit) scope begun) ran
      (again_alike scope begun structs (take k units) unit (body_code site unit) (body_code site unit)
      (local_zero structs (take k units) unit standing may_run.vars (depth + 1) passed here))
      (body_alike scope copies (body_coded site unit).code (end_code unit.result (code_returns (body_coded site unit).code)) begun goes stops)

  by_flow : CallsKeepFrame → (block_c copies scope begun).end ≡ goes_on → InputsBegun site scope begun frame copied → (flow : Option Flow) →
      FlowSimulates site scope 0 copied flow ran → EndsFor (Some s) flow → CallReturns depth here (option_map (left_by unit) flow) called
  by_flow calls goes first None h ends =
      let alike = done_alike goes (λ on. let no = sym h ∙ on in cc) in
      ap result_at (alike.0 ∙ h)
  by_flow calls goes first (Some (Flow.On now)) h ends = absurd (cc)
  by_flow calls goes first (Some (Flow.Back now given)) h ends =
      let alike = done_alike goes (λ on. let no = sym h.0 ∙ on in cc) in
      record {
        datum = ends.0;
        is_given = ends.1;
        is_returned = ap result_at (alike.0 ∙ h.0) ∙ ap (λ o. Some (number_back o)) ends.1;
        kept = kept calls first h.2 alike.1;
      }

  pub come : InputsBegin structs units entry → StatementsSimulate structs units entry → BodiesEnd structs units entry → CallsKeepFrame →
      HandsOver structs units entry → FramesBegin structs units entry →
      CallReturns depth here (callee_of structs (callees_of structs (take k units)) unit values) called
  come inputs statements bodies calls hands frames =
      let sees : Sees = scope_among structs (callees_of structs (take k units)) unit in
      let flow : Option Flow = in_order (map (does sees) unit.body) frame in
      let begins : FrameBegun site scope frame begun =
      frames k unit known (depth + 1) values passed here keeps there function may_run.vars (handed hands) in
      let first = inputs k unit scope frame begun keeps there function begins in
      by_flow calls first.0 first.1 flow
      (statements k unit scope unit.body none_taken frame copied keeps
      (record {
        is_there = there;
        is_function = not-true (is_activity unit.kind) function;
        pointers = begins.pointers;
        functions = may_run.functions;
        procedures = may_run.procedures;
      })
      (body_fits structs (take k units) unit (stands_at structs units entry k unit keeps there)) may_run.apart may_run.flags
      (record { fits = frame_fits; variables = first.1.variables }))
      (subst (λ result. EndsFor result flow) result (bodies k unit sees frame keeps there function))

pub results_come_all : (structs : List StructDef) (units : List UnitDef) (entry : ℕ)
    → InputsBegin structs units entry → StatementsSimulate structs units entry →
    BodiesEnd structs units entry → CallsKeepFrame → HandsOver structs units entry → FramesBegin structs units entry → ResultsSimulate structs units entry
results_come_all structs units entry inputs statements bodies calls hands frames k unit s known depth values passed here keeps there function result may_run
    fit holds =
    come structs units entry k unit s keeps there function result known depth values passed here may_run fit holds inputs statements bodies calls hands frames
