-- In the C function of a function all is declared that its statements name.
use Rattle.std.proofs.Common.{◌≡◌, ℕ, zero, suc, ◌+◌, ◌-◌, ◌<◌, ◌≤◌, ◌^◌, Bool, true, false, not, ◌&&◌, ◌||◌}
use Rattle.std.proofs.Common.{List, [], ◌∷◌, ◌++◌, map, take, drop, length}
use Rattle.std.proofs.Common.{Option, Some, None, refl, sym, ap, ◌∙◌, subst, arith, codes, ⊎_elim}
use Rattle.std.proofs.lemmas.Bool.{cases_lt, eqb-true}
use Rattle.std.proofs.lemmas.List.Elements.{Contains-append_left, Contains-append_right}
use Rattle.std.proofs.lemmas.Option.{slice_get_within}
use Rattle.std.specs.Prelude.{bytes_eq, is_none, is_some, nat_eq, nat_le, option_and_then, option_map, slice_get, if◌then◌else◌}
use Rattle.std.specs.List.{list_all}
use Rattle.std.proofs.lemmas.Bool.{and_from}
use Rattle.bl_tree.proofs.Basics.{and_first, and_second, get_taken}
use Rattle.bl_tree.specs.declared.text.Text.{Text}
use Rattle.bl_tree.specs.declared.c.CMember.{CMember}
use Rattle.bl_tree.specs.declared.c.CType.TheVariants.{Struct as OfStruct}
use Rattle.bl_tree.specs.declared.scalar.Scalar.{Scalar as ScalarType}
use Rattle.bl_tree.specs.declared.tree.Role.{Role}
use Rattle.bl_tree.specs.declared.tree.Role.TheVariants.{Input, Output, Variable as OfVariable, Fixed}
use Rattle.bl_tree.specs.declared.tree.StructDef.{StructDef}
use Rattle.bl_tree.specs.declared.tree.Unit.{Unit as UnitDef}
use Rattle.bl_tree.specs.declared.tree.Var.{Var}
use Rattle.bl_tree.specs.Program.{IsWellTyped, is_input, is_output, locals_of, parameters_of, roles_stand}
use Rattle.bl_tree.specs.Reduce.{joined}
use Rattle.bl_tree.specs.Returns.{activity_returns, function_returns, last_of, surely_returns, unit_returns}
use Rattle.bl_tree.specs.Types.{scalar_in, type_stands}
use Rattle.bl_tree.specs.Apart.{is_apart}
use Rattle.bl_tree.specs.Depths.{is_shallow}
use Rattle.bl_tree.specs.Typing.{TypingContext, fits, inputs_of, is_activity, is_fixed, is_function, is_variable, outputs_of, site_of, var_at}
use Rattle.bl_eval.proofs.PassLemmas.{all_at}
use Rattle.bl_ctext_semantics.specs.Faults.{Context, Signature, bool_type, context_in}
use Rattle.bl_ctext_semantics.specs.Faults as faults
use Rattle.bl_ctext_semantics.specs.Tables.{Table, found}
use Rattle.bl_emit_acts.specs.Acts.{is_copied}
use Rattle.bl_emit_acts.specs.declared.home.Home.{Home}
use Rattle.bl_emit_acts.specs.declared.home.Home.TheVariants.{Held, Local, Lent}
use Rattle.bl_emit_acts.specs.Places.{copies_inputs, home_of, home_of_declared, home_of_role, is_alone}
use Rattle.bl_emit_acts.specs.Types.{c_scalar, c_type, variable_name}
use Rattle.bl_emit_structs.specs.Structs.{arrays_of, structs_for_definition, structs_for_unit}
use Rattle.bl_emit_functions.specs.Functions.{body_coded, flag_locals, function_code, has_local, is_held, locals_from, members_of, memory_local}
use Rattle.bl_emit_functions.specs.Functions.{memory_name, struct_of}
use Rattle.bl_emit_functions.specs.Trees.{flag_name}
use Rattle.bl_emit_acts_laws_simulation.proofs.Homes.{declared_unlent}
use Rattle.bl_emit_functions_laws_simulation.proofs.OnCalls.Locals.{local_parameter, parameters_many}
use Rattle.bl_emit_acts_laws_wellformed.specs.Formed.Declared.{AreDeclared, Declared, HeldIn, IsDeclaredAt, home_leads, leads_through, parameter_for}
use Rattle.bl_emit_acts_laws_wellformed.specs.Formed.Declared.{plain_member}
use Rattle.bl_emit_acts_laws_wellformed.specs.Formed.Declared.{variable_of}
use Rattle.bl_emit_acts_laws_wellformed.proofs.OnFormed.Parts.{joined_has}
use Rattle.bl_emit_acts_laws_wellformed.proofs.OnFormed.SiteActs.{EarlierStand}
use Rattle.bl_emit_acts_laws_wellformed.proofs.OnFormed.Units.{roles_at, taken_there, unit_at, vars_stand}
use Rattle.bl_emit_functions_laws_wellformed.specs.Formed.{IsNumbered, StandsBefore}
use Rattle.bl_emit_functions_laws_wellformed.proofs.OnFormed.Kept.{variables_differ}
use Rattle.bl_emit_functions_laws_wellformed.proofs.OnFormed.Locals.{local_behind}
use Rattle.bl_emit_functions_laws_wellformed.proofs.OnFormed.Lookups.{all_entries, any_held, flag_found, found_behind, found_front, found_member, found_param}
use Rattle.bl_emit_functions_laws_wellformed.proofs.OnFormed.Lookups.{local_entries, member_entries, memory_found, no_param, param_entries, variable_found}

pub last_of_four : (a b c d : Bool) → (a && (b && (c && d))) ≡ true → d ≡ true
last_of_four true true true d h = h
last_of_four true true false d h = absurd (cc)
last_of_four true false c d h = absurd (cc)
last_of_four false b c d h = absurd (cc)

-- ---- parameters among the variables of a unit

-- a variable that isn't declared by the body is a parameter
pub parameter_at : (unit : UnitDef) → roles_stand unit ≡ true → (k : ℕ) (var : Var) → slice_get unit.vars k ≡ Some var →
    (is_variable var.role || is_fixed var.role) ≡ false → slice_get (parameters_of unit) k ≡ Some var
parameter_at unit roles k var there parameter =
    ⊎_elim (λ less. get_taken unit.vars (unit.inputs + unit.outputs) k less ∙ there)
    (λ more. absurd (never more)) (cases_lt k (unit.inputs + unit.outputs))
  where
    dropped : {A : Type 0} (n : ℕ) (xs : List A) (k : ℕ) → n ≤ k → slice_get (drop n xs) (k - n) ≡ slice_get xs k
    dropped zero xs k le = let same : k - 0 ≡ k = omega arith in ap (slice_get xs) same
    dropped (suc n) [] k le = refl
    dropped (suc n) (x ∷ xs) zero le = absurd (omega arith)
    dropped (suc n) (x ∷ xs) (suc k) le =
        let less : n ≤ k = omega (arith, le) in
        let same : suc k - suc n ≡ k - n = omega arith in
        ap (slice_get (drop n xs)) same ∙ dropped n xs k less

    never : unit.inputs + unit.outputs ≤ k → ⊥
    never more =
        let locals : list_all (λ (var : Var). is_variable var.role || is_fixed var.role) (locals_of unit) ≡ true =
        last_of_four (nat_le (unit.inputs + unit.outputs) (length unit.vars)) (list_all (λ (var : Var). is_input var.role) (inputs_of unit))
        (list_all (λ (var : Var). is_output var.role) (outputs_of unit))
        (list_all (λ (var : Var). is_variable var.role || is_fixed var.role) (locals_of unit)) roles in
        let own = all_at (λ (var : Var). is_variable var.role || is_fixed var.role) (locals_of unit) (k - (unit.inputs + unit.outputs)) var locals
        (dropped (unit.inputs + unit.outputs) unit.vars k more ∙ there) in
        let no : true ≡ false = sym own ∙ parameter in cc

-- ---- what a file that stands before declares

module _ (structs : List StructDef) (units : List UnitDef) (entry k : ℕ) (unit : UnitDef) (keeps : IsWellTyped structs units entry)
    (there : slice_get units k ≡ Some unit)
    (function : is_activity unit.kind ≡ false) (table : Table (Table CMember)) (functions : Table Signature)
    (before : StandsBefore structs units k unit table functions) (numbers : IsNumbered structs (take k units) unit) where
  abbrev pub my_site : TypingContext
  my_site = site_of structs (take k units) unit

  abbrev pub my_context : Context
  my_context = context_in table functions (function_code structs (take k units) unit)

  roles : roles_stand unit ≡ true
  roles = roles_at structs units entry keeps k unit there

  below : (j : ℕ) (var : Var) → slice_get unit.vars j ≡ Some var → j < 2 ^ 64
  below j var found = let within : j < length unit.vars = slice_get_within unit.vars j var found in let few = numbers.variables in omega (arith, within, few)

  abbrev pub n_flags : ℕ
  n_flags = (body_coded my_site unit).free.flags

  -- the entries of the function's variables
  abbrev locals_here : List (Text × faults.Variable)
  locals_here = all_entries my_site unit n_flags

  -- ---- parameters

  pub param_there : (j : ℕ) (var : Var) → slice_get (parameters_of unit) j ≡ Some var → slice_get unit.vars j ≡ Some var →
      my_context.variables (variable_name unit.vars j) ≡ Some (parameter_for structs var)
  param_there j var in_params in_vars =
      found_front (variable_name unit.vars j) (param_entries structs unit.vars (parameters_of unit)) locals_here (parameter_for structs var)
      (found_param structs unit.vars (parameters_of unit) j var in_params (below j var in_vars))

  -- a name that no parameter has is one of a local's
  local_there : (name : Text) (x : faults.Variable) → ((j : ℕ) → j < length (parameters_of unit) → bytes_eq (variable_name unit.vars j) name ≡ false) →
      found name locals_here ≡ Some x → my_context.variables name ≡ Some x
  local_there name x other is =
      found_behind name (param_entries structs unit.vars (parameters_of unit)) locals_here (no_param structs unit.vars (parameters_of unit) name other) ∙ is

  pub flag_there : (j : ℕ) → j < n_flags → my_context.variables (flag_name j) ≡ Some (variable_of false bool_type)
  flag_there j less =
      local_there (flag_name j) (variable_of false bool_type) (λ i within. refl) (flag_found my_site unit n_flags j less numbers.flags)

  -- ---- variables that are locals by themselves

  alone_there : (j : ℕ) (var : Var) → slice_get unit.vars j ≡ Some var → has_local my_site var ≡ true →
      my_context.variables (variable_name unit.vars j) ≡ Some (variable_of false (c_type structs var.ty))
  alone_there j var in_vars local =
      let behind : unit.inputs + unit.outputs ≤ j = local_behind structs (take k units) unit roles j var in_vars local in
      let many : length (parameters_of unit) ≡ unit.inputs + unit.outputs = parameters_many structs (take k units) unit roles in
      let low : j < 2 ^ 64 = below j var in_vars in
      local_there (variable_name unit.vars j) (variable_of false (c_type structs var.ty))
      (λ i within. variables_differ unit.vars i j (omega (arith, within, many, behind)) low)
      (variable_found my_site unit n_flags j var in_vars local low)

  -- ---- variables that the function holds

  memory_is : (members : List CMember) (name : Text) (m : CMember) → found name (member_entries my_site members) ≡ Some m →
      AreDeclared table (struct_of unit.name members) → option_and_then (λ (t : Table CMember). t name) (table (memory_name unit.name)) ≡ Some m
  memory_is [] name m is declared = absurd (cc)
  memory_is (first ∷ rest) name m is declared =
      ap (option_and_then (λ (t : Table CMember). t name)) (declared _ (0, omega arith, refl)) ∙ is

  held_there : (j : ℕ) (var : Var) → slice_get unit.vars j ≡ Some var → is_held (home_of my_site (Some var)) ≡ true →
      HeldIn my_context false unit.vars j (c_type structs var.ty)
  held_there j var in_vars held = record {
    name = memory_name unit.name;
    memory = local_there (codes "m") (variable_of false (OfStruct (memory_name unit.name))) (λ i within. refl)
        (ap (λ b. found (codes "m") (local_entries ((memory_local unit.name b ++ locals_from my_site 0 unit.vars) ++ flag_locals n_flags)))
        (any_held my_site unit.vars j var in_vars held)
        ∙ memory_found unit.name (locals_from my_site 0 unit.vars ++ flag_locals n_flags));
    member = memory_is (members_of structs (take k units) unit) (variable_name unit.vars j)
        (plain_member (variable_name unit.vars j) (c_type structs var.ty)) member before.memory;
  }
    where
      member : found (variable_name unit.vars j) (member_entries my_site (members_of structs (take k units) unit)) ≡ Some
          (plain_member (variable_name unit.vars j) (c_type structs var.ty))
      member = found_member my_site unit.vars j var in_vars held (below j var in_vars)

  -- ---- variables by their homes

  -- whether a parameter is one by pointer
  abbrev pointer_of : Var → Bool
  pointer_of var = is_output var.role || is_none (scalar_in var.ty)

  input_by : (role : Role) → is_input role ≡ true → (is_variable role || is_fixed role) ≡ false
  input_by Input input = refl
  input_by Output input = absurd (cc)
  input_by OfVariable input = absurd (cc)
  input_by Fixed input = absurd (cc)

  value_by : (role : Role) (s : Option ScalarType) → is_input role ≡ true → is_some s ≡ true → (is_output role || is_none s) ≡ false
  value_by Input (Some s) input is = refl
  value_by Input None input is = absurd (cc)
  value_by Output s input is = absurd (cc)
  value_by OfVariable s input is = absurd (cc)
  value_by Fixed s input is = absurd (cc)

  lent_by : (alone : Bool) (role : Role) (s : Option ScalarType) (copies : Bool) → home_of_role alone role (is_some s) copies ≡ Lent →
      ((is_variable role || is_fixed role) ≡ false) × ((is_output role || is_none s) ≡ true)
  lent_by alone Input (Some s) copies is = absurd (cc)
  lent_by alone Input None true is = absurd (cc)
  lent_by alone Input None false is = (refl, refl)
  lent_by alone Output s copies is = (refl, refl)
  lent_by alone OfVariable s copies is = absurd (declared_unlent alone is)
  lent_by alone Fixed s copies is = absurd (declared_unlent alone is)

  param_of_kind : (j : ℕ) (var : Var) (pointer : Bool) → slice_get unit.vars j ≡ Some var → (is_variable var.role || is_fixed var.role) ≡ false →
      pointer_of var ≡ pointer → my_context.variables (variable_name unit.vars j) ≡ Some (variable_of pointer (c_type structs var.ty))
  param_of_kind j var pointer in_vars parameter is =
      param_there j var (parameter_at unit roles j var in_vars parameter) in_vars ∙ ap (λ p. Some (variable_of p (c_type structs var.ty))) is

  local_by : (j : ℕ) (var : Var) → slice_get unit.vars j ≡ Some var → home_of my_site (Some var) ≡ Local → (local : Bool) → has_local my_site var ≡ local →
      my_context.variables (variable_name unit.vars j) ≡ Some (variable_of false (c_type structs var.ty))
  local_by j var in_vars home true is = alone_there j var in_vars is
  local_by j var in_vars home false is =
      let given = local_parameter my_site var home is in
      param_of_kind j var false in_vars (input_by var.role given.0) (value_by var.role (scalar_in var.ty) given.0 given.1)

  stands_by : (j : ℕ) (var : Var) (home : Home) → slice_get unit.vars j ≡ Some var → home_of my_site (Some var) ≡ home →
      IsDeclaredAt my_context false home unit.vars j (c_type structs var.ty)
  stands_by j var Held in_vars is = held_there j var in_vars (ap is_held is)
  stands_by j var Local in_vars is = local_by j var in_vars is (has_local my_site var) refl
  stands_by j var Lent in_vars is =
      let found = lent_by (is_alone my_site var.ty) var.role (scalar_in var.ty) (copies_inputs my_site) is in
      param_of_kind j var true in_vars found.0 found.1

  pub variable_there : (j : ℕ) (var : Var) → var_at my_site j ≡ Some var →
      IsDeclaredAt my_context (is_activity unit.kind) (home_of my_site (Some var)) unit.vars j (c_type structs var.ty)
  variable_there j var in_vars =
      subst (λ b. IsDeclaredAt my_context b (home_of my_site (Some var)) unit.vars j (c_type structs var.ty)) (sym function)
      (stands_by j var (home_of my_site (Some var)) in_vars refl)

  -- ---- types

  pub declared_here : Declared my_site (is_copied []) my_context
  declared_here = record {
    types = record {
      definitions = λ s has.
          before.declared s (Contains-append_left (joined (map (structs_for_definition structs) structs))
          (joined (map (structs_for_unit structs) units)) s has);
      variables = λ j var in_vars s has.
          before.declared s (Contains-append_right (joined (map (structs_for_definition structs) structs)) (joined (map (structs_for_unit structs) units)) s
          (joined_has (structs_for_unit structs) units k unit s there
          (joined_has (λ (var : Var). arrays_of structs var.ty) unit.vars j var s in_vars has)));
    };
    variables = variable_there;
    copies = λ j var copied in_vars. absurd (cc);
    functions = before.known;
  }

  -- ---- pointers that nothing is written through

  returned : function_returns unit ≡ true
  returned =
      let whole : unit_returns unit ≡ true =
      and_first (unit_returns unit) (is_shallow 200 unit.body && list_all is_apart unit.body)
      (and_second (list_all (fits my_site) unit.body) (unit_returns unit && (is_shallow 200 unit.body && list_all is_apart unit.body))
      (and_second (list_all (λ (var : Var). type_stands (length structs) var.ty) unit.vars)
      (list_all (fits my_site) unit.body && (unit_returns unit && (is_shallow 200 unit.body && list_all is_apart unit.body)))
      (and_second _ _ (unit_at structs units entry keeps k unit there)))) in
      ap (λ (b : Bool). if b then activity_returns unit else function_returns unit) (sym function) ∙ whole

  no_output : (r : Option ScalarType) → unit.result ≡ r → is_some r ≡ true → unit.outputs ≡ 0
  no_output None is some = absurd (cc)
  no_output (Some s) is some =
      eqb-true unit.outputs 0
      (and_first (nat_eq unit.outputs 0) (last_of (map surely_returns unit.body))
      (ap (λ (r : Option ScalarType). is_none r || (nat_eq unit.outputs 0 && last_of (map surely_returns unit.body))) (sym is) ∙ returned))

  keeps_result : (r : Option ScalarType) (other : Bool) → (is_some (option_map c_scalar r) && other) ≡ true → is_some r ≡ true
  keeps_result None other h = absurd (cc)
  keeps_result (Some s) other h = refl

  declared_plain : (alone : Bool) → home_leads false (home_of_declared alone) ≡ false
  declared_plain true = refl
  declared_plain false = refl

  plain_by : (alone : Bool) (role : Role) (s : Option ScalarType) (copies : Bool) → copies ≡ true → is_output role ≡ false →
      home_leads false (home_of_role alone role (is_some s) copies) ≡ false
  plain_by alone Input (Some s) copies is other = refl
  plain_by alone Input None true is other = refl
  plain_by alone Input None false is other = absurd (cc)
  plain_by alone Output s copies is other = absurd (cc)
  plain_by alone OfVariable s copies is other = declared_plain alone
  plain_by alone Fixed s copies is other = declared_plain alone

  not_output : (j : ℕ) (var : Var) → slice_get unit.vars j ≡ Some var → unit.outputs ≡ 0
      → (role : Role) → var.role ≡ role → is_output role ≡ false
  not_output j var in_vars none Input is = refl
  not_output j var in_vars none OfVariable is = refl
  not_output j var in_vars none Fixed is = refl
  not_output j var in_vars none Output is =
      let few : unit.inputs + unit.outputs ≡ unit.inputs = omega (arith, none) in
      let parameter : (is_variable var.role || is_fixed var.role) ≡ false = ap (λ role. is_variable role || is_fixed role) is in
      let inside : slice_get (inputs_of unit) j ≡ Some var =
      ap (λ n. slice_get (take n unit.vars) j) (sym few) ∙ parameter_at unit roles j var in_vars parameter in
      let inputs : list_all (λ (var : Var). is_input var.role) (inputs_of unit) ≡ true = and_first _ _ (and_second _ _ roles) in
      let own : is_input var.role ≡ true = all_at (λ (var : Var). is_input var.role) (inputs_of unit) j var inputs inside in
      absurd (let no : true ≡ false = sym own ∙ ap is_input is in cc)

  -- a function with a result writes through no pointer
  pub plain_here : my_context.is_read_only ≡ true → (j : ℕ) (var : Var) → var_at my_site j ≡ Some var → leads_through my_site j ≡ false
  plain_here keeps_now j var in_vars =
      let some : is_some unit.result ≡ true = keeps_result unit.result _ keeps_now in
      let copies : copies_inputs my_site ≡ true = and_from (is_function unit.kind) (is_some unit.result) (ap not function) some in
      (λ i. home_leads (function i) (home_of my_site (in_vars i)))
      ∙ plain_by (is_alone my_site var.ty) var.role (scalar_in var.ty) (copies_inputs my_site) copies
      (not_output j var in_vars (no_output unit.result refl some) var.role refl)

  -- ---- earlier units

  pub earlier_here : EarlierStand my_site
  earlier_here = record {
    inputs = λ f callee earlier. and_first _ _ (and_second _ _ (roles_at structs units entry keeps f callee (taken_there units k f callee earlier)));
    outputs = λ f callee earlier.
        and_first _ _ (and_second _ _ (and_second _ _ (roles_at structs units entry keeps f callee (taken_there units k f callee earlier))));
  }

  pub typed_here : (j : ℕ) (var : Var) → var_at my_site j ≡ Some var → type_stands (length structs) var.ty ≡ true
  typed_here j var in_vars =
      all_at (λ (var : Var). type_stands (length structs) var.ty) unit.vars j var (vars_stand structs units entry keeps k unit there) in_vars
