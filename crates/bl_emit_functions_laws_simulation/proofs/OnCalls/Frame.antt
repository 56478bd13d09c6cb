-- The frame of a called function.
use Rattle.std.proofs.Common.{◌≡◌, ℕ, ◌+◌, ◌<◌, ◌≤◌, ◌^◌, ℤ, pos, arith, Bool, true, false, not, ◌&&◌, ◌||◌}
use Rattle.std.proofs.Common.{List, [], ◌∷◌, ◌++◌, length, map, take, Option, Some, None, refl, sym, ap, ◌∙◌, subst}
use Rattle.std.proofs.lemmas.Bool.{ltb-false, ltb-true}
use Rattle.std.proofs.lemmas.List.{append-nil}
use Rattle.std.proofs.lemmas.Option.{same_Some}
use Rattle.std.specs.Prelude.{codes, is_none, is_some, nat_eq, nat_le, nat_lt, option_and_then, slice_get, unwrap_or}
use Rattle.std.specs.List.{list_all}
use Rattle.std.proofs.lemmas.Bool.{not-true}
use Rattle.bl_tree.proofs.Basics.{and_second, get_in_front, get_taken, true_not_false}
use Rattle.bl_tree.specs.declared.c.CFunc.{CFunc}
use Rattle.bl_tree.specs.declared.tree.Role.{Role}
use Rattle.bl_tree.specs.declared.tree.Role.TheVariants.{Input, Output, Variable, Fixed}
use Rattle.bl_tree.specs.declared.tree.StructDef.{StructDef}
use Rattle.bl_tree.specs.declared.tree.Ty.{Ty}
use Rattle.bl_tree.specs.declared.tree.Unit.{Unit as UnitDef}
use Rattle.bl_tree.specs.declared.tree.Var.{Var}
use Rattle.bl_tree.specs.declared.value.Value.{Value, out-Value}
use Rattle.bl_tree.specs.declared.value.Value.TheOpen.{Value-F}
use Rattle.bl_tree.specs.Program.{is_input, is_output, locals_of, parameters_of, roles_stand}
use Rattle.bl_tree.specs.Types.{scalar_in}
use Rattle.bl_tree.specs.Typing.{TypingContext, inputs_of, is_activity, is_fixed, is_function, is_variable, outputs_of, site_of, var_at}
use Rattle.bl_eval.specs.Functions.{frame_of}
use Rattle.bl_eval.specs.Values.{number_at as number_level, number_in, parts_at, value_at as value_within, zero_of}
use Rattle.bl_ctext_semantics.specs.Meaning.{ArgumentValue, Meaning, Scope, by_address, by_value}
use Rattle.bl_ctext_semantics.specs.Memory.{CValue, Location, Memory, Projection, member, value_at, variable, without_frame}
use Rattle.bl_ctext_semantics.specs.Memory as memory
use Rattle.bl_ctext_semantics.specs.Tables.{Table}
use Rattle.bl_emit_acts.specs.declared.home.Home.{Home}
use Rattle.bl_emit_acts.specs.declared.home.Home.TheVariants.{Held, Local, Lent}
use Rattle.bl_emit_acts.specs.Places.{copies_inputs, home_of, home_of_declared, home_of_role, is_alone}
use Rattle.bl_emit_acts.specs.Types.{variable_name}
use Rattle.bl_emit_acts_laws_simulation.specs.Frames.{PointersAreValid, is_older, lent_at}
use Rattle.bl_emit_acts_laws_simulation.specs.Encodes.{Encodes, are_apart, home_at, lead_in, location_in, number_within, start_in, way_to}
use Rattle.bl_emit_acts_laws_simulation.proofs.Homes.{declared_home, declared_unlent}
use Rattle.bl_emit_functions.specs.Functions.{function_code, is_held}
use Rattle.bl_emit_functions_laws_simulation.specs.Calls.{ArgFor, FrameBegun, FramesBegin, Handed, HandedOver, is_copied_input, memory_begun, scope_begun}
use Rattle.bl_emit_functions_laws_simulation.proofs.OnCalls.Kept.{keep}
use Rattle.bl_emit_functions_laws_simulation.proofs.OnCalls.Lists.{made_behind, rest_all}
use Rattle.bl_emit_functions_laws_simulation.proofs.OnCalls.Locals.{begun_zero, behind_zero, parameter_role, parameters_many, parameters_within}
use Rattle.bl_emit_functions_laws_simulation.proofs.OnCalls.Params.{pointer_given, value_given}
use Rattle.bl_emit_functions_laws_simulation.proofs.OnCalls.Standing.{roles, stands_at}
use Rattle.bl_emit_acts_laws_simulation.proofs.Parts.{holds_same}
use Rattle.bl_emit_acts_laws_simulation.proofs.Zeros.{zero_holds}
use Rattle.bl_emit_acts_laws_simulation.proofs.Acts.{declared_open_by}

-- a value that is a number is held where that number is
pub number_alone : (structs : List StructDef) (ty : Ty) (value : Value) (held : CValue) → number_in value ≡ Some (memory.scalar_number held) →
    Encodes structs ty value held
number_alone structs ty value held is = record { each = each }
  where
    no_part : (layer : Value-F Value) (k : ℕ) (ks : List ℕ) (n m : ℤ) → number_level layer ≡ Some n →
        option_and_then number_in (option_and_then (value_within ks) (option_and_then (λ all. slice_get all k) (parts_at layer))) ≡ Some m → ⊥
    no_part (Value-F.Number x) k ks n m is h = cc
    no_part (Value-F.Parts all) k ks n m is h = cc

    each : (ks : List ℕ) (n : ℤ) → number_within ks value ≡ Some n → held (way_to structs ks (Some ty)) ≡ n
    each [] n h = same_Some (held []) n (sym is ∙ h)
    each (k ∷ ks) n h = absurd (no_part (out-Value value) k ks (memory.scalar_number held) n is h)

-- ---- homes

pub data Where (site : TypingContext) (depth : ℕ) (here : Memory) (values : List Value) (passed : List ArgumentValue) (n j : ℕ) (var : Var) : Type 0 where
  number : (held : CValue) (value : Value) → slice_get passed j ≡ Some (by_value held) → slice_get values j ≡ Some value →
      number_in value ≡ Some (memory.scalar_number held) → j < n → home_at site j ≡ Local → is_output var.role ≡ false →
      Where site depth here values passed n j var
  place : (at : Location) (value : Value) → slice_get passed j ≡ Some (by_address at) → slice_get values j ≡ Some value →
      is_older depth at.root ≡ true → Encodes site.structs var.ty value (value_at here at) → j < n →
      (home_at site j ≡ Local → ⊥) → (is_copied_input site j var ≡ false → home_at site j ≡ Lent)
      → (is_input var.role || is_output var.role) ≡ true →
      Where site depth here values passed n j var
  local : (alone : Bool) → n ≤ j → is_input var.role ≡ false → home_at site j ≡ home_of_declared alone → Where site depth here values passed n j var

number_home : (alone : Bool) (role : Role) (scalar copies : Bool) → (is_input role || is_output role) ≡ true → is_output role ≡ false → scalar ≡ true →
    home_of_role alone role scalar copies ≡ Local
number_home alone Input true copies parameter isnt is = refl
number_home alone Input false copies parameter isnt is = absurd (cc)
number_home alone Output scalar copies parameter isnt is = absurd (cc)
number_home alone Variable scalar copies parameter isnt is = absurd (cc)
number_home alone Fixed scalar copies parameter isnt is = absurd (cc)

place_given : (alone : Bool) (role : Role) (scalar copies : Bool) → (is_input role || is_output role) ≡ true → (is_output role || not scalar) ≡ true →
    home_of_role alone role scalar copies ≡ Local → ⊥
place_given alone Input true copies parameter pointer is = cc
place_given alone Input false true parameter pointer is = cc
place_given alone Input false false parameter pointer is = cc
place_given alone Output scalar copies parameter pointer is = cc
place_given alone Variable scalar copies parameter pointer is = cc
place_given alone Fixed scalar copies parameter pointer is = cc

place_lent : (alone : Bool) (role : Role) (scalar copies : Bool) → (is_input role || is_output role) ≡ true → (is_output role || not scalar) ≡ true →
    (is_input role && is_held (home_of_role alone role scalar copies)) ≡ false → home_of_role alone role scalar copies ≡ Lent
place_lent alone Input true copies parameter pointer isnt = absurd (cc)
place_lent alone Input false true parameter pointer isnt = absurd (cc)
place_lent alone Input false false parameter pointer isnt = refl
place_lent alone Output scalar copies parameter pointer isnt = refl
place_lent alone Variable scalar copies parameter pointer isnt = absurd (cc)
place_lent alone Fixed scalar copies parameter pointer isnt = absurd (cc)

pub none_not : {A : Type 0} (o : Option A) → is_none o ≡ not (is_some o)
none_not None = refl
none_not (Some x) = refl

pub output_of : (role : Role) → (is_input role || is_output role) ≡ true → is_input role ≡ false → is_output role ≡ true
output_of Input h isnt = absurd (cc)
output_of Output h isnt = refl
output_of Variable h isnt = absurd (cc)
output_of Fixed h isnt = absurd (cc)

module _ (structs : List StructDef) (earlier : List UnitDef) (unit : UnitDef) (standing : roles_stand unit ≡ true) (function : is_function unit.kind ≡ true)
    (few : length unit.vars ≤ 2 ^ 64) (known : Table Meaning) (depth : ℕ) (values : List Value) (passed : List ArgumentValue) (here : Memory)
    (handed : HandedOver structs unit depth here values passed) where
  abbrev site : TypingContext
  site = site_of structs earlier unit

  abbrev code : CFunc
  code = function_code structs earlier unit

  abbrev scope : Scope
  scope = scope_begun known code depth passed

  abbrev begun : Memory
  begun = memory_begun code depth passed here

  abbrev n : ℕ
  n = unit.inputs + unit.outputs

  no_activity : is_activity unit.kind ≡ false
  no_activity = not-true (is_activity unit.kind) function

  within : n ≤ length unit.vars
  within = parameters_within structs earlier unit standing

  parameters : length (parameters_of unit) ≡ n
  parameters = parameters_many structs earlier unit standing

  role_of : (j : ℕ) (var : Var) → var_at site j ≡ Some var → j < n → (is_input var.role || is_output var.role) ≡ true
  role_of = parameter_role structs earlier unit standing

  home_is : (j : ℕ) (var : Var) → var_at site j ≡ Some var →
      home_at site j ≡ home_of_role (is_alone site var.ty) var.role (is_some (scalar_in var.ty)) (copies_inputs site)
  home_is j var there = ap (home_of site) there

  parameter_at : (j : ℕ) (var : Var) → var_at site j ≡ Some var → j < n → slice_get (parameters_of unit) j ≡ Some var
  parameter_at j var there less = get_taken unit.vars n j less ∙ there

  abbrev At : ℕ → Var → Type 0
  At = Where site depth here values passed n

  by_arg : (j : ℕ) (var : Var) → var_at site j ≡ Some var → j < n → (arg : ArgumentValue) (value : Value) → slice_get passed j ≡ Some arg →
      slice_get values j ≡ Some value → ArgFor structs depth here var value arg → At j var
  by_arg j var there less (by_value held) value is_passed is_value fits =
      Where.number held value is_passed is_value fits.2 less
      (home_is j var there ∙ number_home (is_alone site var.ty) var.role (is_some (scalar_in var.ty)) (copies_inputs site)
      (role_of j var there less) fits.0 fits.1)
      fits.0
  by_arg j var there less (by_address at) value is_passed is_value fits =
      let pointer : (is_output var.role || not (is_some (scalar_in var.ty))) ≡ true =
      ap (λ b. is_output var.role || b) (sym (none_not (scalar_in var.ty))) ∙ fits.0 in
      Where.place at value is_passed is_value fits.1 fits.2 less
      (λ is. place_given (is_alone site var.ty) var.role (is_some (scalar_in var.ty)) (copies_inputs site) (role_of j var there less) pointer
      (sym (home_is j var there) ∙ is))
      (λ isnt. home_is j var there
      ∙ place_lent (is_alone site var.ty) var.role (is_some (scalar_in var.ty)) (copies_inputs site) (role_of j var there less) pointer
      (ap (λ home. is_input var.role && is_held home) (sym (home_is j var there)) ∙ isnt))
      (role_of j var there less)

  all_locals : list_all (λ (var : Var). is_variable var.role || is_fixed var.role) (locals_of unit) ≡ true
  all_locals =
      let inputs : Bool = list_all (λ (var : Var). is_input var.role) (inputs_of unit) in
      let outputs : Bool = list_all (λ (var : Var). is_output var.role) (outputs_of unit) in
      let locals : Bool = list_all (λ (var : Var). is_variable var.role || is_fixed var.role) (locals_of unit) in
      and_second outputs locals (and_second inputs (outputs && locals) (and_second (nat_le n (length unit.vars)) (inputs && (outputs && locals)) standing))

  pub where_is : (j : ℕ) (var : Var) → var_at site j ≡ Some var → At j var
  where_is j var there = by (nat_lt j n) refl
    where
      by : (parameter : Bool) → nat_lt j n ≡ parameter → At j var
      by true is =
          let less : j < n = ltb-true j n is in
          let given : Handed structs depth here values passed j var = handed.each j var (parameter_at j var there less) in
          by_arg j var there less given.arg given.value given.is_passed given.is_value given.fits
      by false is =
          let more : n ≤ j = ltb-false j n is in
          let declared : (is_variable var.role || is_fixed var.role) ≡ true =
          rest_all (λ (var : Var). is_variable var.role || is_fixed var.role) n unit.vars j var all_locals there more in
          Where.local (is_alone site var.ty) more (declared_open_by var.role declared)
          (home_is j var there ∙ declared_home (is_alone site var.ty) var.role (is_some (scalar_in var.ty)) (copies_inputs site) declared)

  -- ---- pointers

  pub leads : (j : ℕ) (at : Location) → j < n → slice_get passed j ≡ Some (by_address at) → lent_at scope site.vars j ≡ at
  leads j at less is =
      ap (unwrap_or_at (record { root = variable depth (variable_name site.vars j); parts = [] }))
      (pointer_given structs unit.vars depth (parameters_of unit) 0 j j passed at (omega arith) (omega (arith, less, parameters))
      (omega (arith, few, parameters, within)) is)
    where
      unwrap_or_at : Location → Option Location → Location
      unwrap_or_at other o = unwrap_or o other

  lent_older : (j : ℕ) (var : Var) → home_at site j ≡ Lent → At j var → is_older depth (lent_at scope site.vars j).root ≡ true
  lent_older j var is (Where.number held value p v m less given isnt) = absurd (let isnt = sym given ∙ is in cc)
  lent_older j var is (Where.place at value p v older holds less isnt lent role) = ap (λ (l : Location). is_older depth l.root) (leads j at less p) ∙ older
  lent_older j var is (Where.local alone more isnt declared) = absurd (declared_unlent alone (sym declared ∙ is))

  lent_apart : (i j : ℕ) (a b : Var) → var_at site i ≡ Some a → home_at site i ≡ Lent → home_at site j ≡ Lent → is_input a.role ≡ false →
      nat_eq i j ≡ false → At i a → At j b → are_apart (lent_at scope site.vars i) (lent_at scope site.vars j) ≡ true
  lent_apart i j a b there is other writable differ (Where.number held value p v m less given isnt) second = absurd (let isnt = sym given ∙ is in cc)
  lent_apart i j a b there is other writable differ (Where.local alone more isnt declared) second = absurd (declared_unlent alone (sym declared ∙ is))
  lent_apart i j a b there is other writable differ first (Where.number held value p v m less given isnt) = absurd (let isnt = sym given ∙ other in cc)
  lent_apart i j a b there is other writable differ first (Where.local alone more isnt declared) =
      absurd (declared_unlent alone (sym declared ∙ other))
  lent_apart i j a b there is other writable differ (Where.place at value p v older holds less isnt lent role)
      (Where.place to v2 q w older2 holds2 less2 no2 lent2 role2) =
      ap (λ l. are_apart l (lent_at scope site.vars j)) (leads i at less p) ∙ ap (are_apart at) (leads j to less2 q)
      ∙ handed.apart i j a at to (parameter_at i a there less) (output_of a.role role writable) p q differ

  pointers : PointersAreValid site scope
  pointers = record {
    few = few;
    lent_older = λ j var there is. lent_older j var is (where_is j var there);
    held_older = λ k var there held activity. absurd (true_not_false (sym activity ∙ no_activity));
    lent_apart = λ i j a b there other is at writable differ.
        lent_apart i j a b there is at writable differ (where_is i a there) (where_is j b other);
    held_apart = λ activity. absurd (true_not_false (sym activity ∙ no_activity));
  }

  -- ---- variables

  -- where a variable of a home stands
  abbrev stands_in : Bool → Home → ℕ → Location
  stands_in activity home j =
      record {
        root = (start_in scope activity home site.vars j).root;
        parts = (start_in scope activity home site.vars j).parts ++ (lead_in home site.vars j ++ []);
      }

  same_home : (j : ℕ) (home : Home) (ty : Ty) (value : Value) → home_at site j ≡ home →
      Encodes structs ty value (value_at begun (stands_in false home j)) → Encodes structs ty value (value_at begun (location_in scope site j []))
  same_home j home ty value is h =
      subst (λ activity. Encodes structs ty value (value_at begun (stands_in activity (home_at site j) j))) (sym no_activity)
      (subst (λ home. Encodes structs ty value (value_at begun (stands_in false home j))) (sym is) h)

  older_same : (at : Location) (way : List Projection) → is_older depth at.root ≡ true → value_at begun at way ≡ value_at here at way
  older_same at way older = (keep known code depth passed here).begins at.root (at.parts ++ way) older

  frame_value : (j : ℕ) (value known : Value) → slice_get values j ≡ Some known → slice_get
      (frame_of structs unit values) j ≡ Some value → known ≡ value
  frame_value j value known is at =
      same_Some known value (sym (get_in_front values (map (λ (var : Var). zero_of structs var.ty) (locals_of unit)) j known is) ∙ at)

  -- a variable that the body declares is 0, in the struct of variables or by itself
  declared_zero : (j : ℕ) (var : Var) → var_at site j ≡ Some var → n ≤ j → (alone : Bool) (way : List Projection) →
      value_at begun (stands_in false (home_of_declared alone) j) way ≡ pos 0
  declared_zero j var there more true way = behind_zero structs earlier unit standing few depth passed here j var there more way
  declared_zero j var there more false way =
      begun_zero structs earlier unit standing few depth passed here (codes "m") ((member (variable_name site.vars j) ∷ []) ++ way) (λ i less. refl)

  variable_holds : (j : ℕ) (var : Var) (value : Value) → var_at site j ≡ Some var → slice_get (frame_of structs unit values) j ≡ Some value →
      is_copied_input site j var ≡ false → At j var → Encodes structs var.ty value (value_at begun (location_in scope site j []))
  variable_holds j var value there at isnt (Where.number held mine p v m less given role) =
      same_home j Local var.ty value given
      (holds_same structs var.ty value held (value_at begun (stands_in false Local j))
      (λ way. sym (value_given structs unit.vars depth (parameters_of unit) 0 j j passed (without_frame depth here) held way (omega arith)
      (omega (arith, less, parameters))
      (omega (arith, few, parameters, within)) p))
      (number_alone structs var.ty value held (ap number_in (sym (frame_value j value mine v at)) ∙ m)))
  variable_holds j var value there at isnt (Where.place to mine p v older holds less given lent role) =
      same_home j Lent var.ty value (lent isnt)
      (subst (λ (l : Location). Encodes structs var.ty value (value_at begun (record { root = l.root; parts = l.parts ++ [] }))) (sym (leads j to less p))
      (holds_same structs var.ty value (value_at here to) (value_at begun (record { root = to.root; parts = to.parts ++ [] }))
      (λ way. sym (ap (λ parts. begun to.root (parts ++ way)) (append-nil to.parts) ∙ older_same to way older))
      (subst (λ value. Encodes structs var.ty value (value_at here to)) (frame_value j value mine v at) holds)))
  variable_holds j var value there at isnt (Where.local alone more role declared) =
      same_home j (home_of_declared alone) var.ty value declared
      (subst (λ value. Encodes structs var.ty value (value_at begun (stands_in false (home_of_declared alone) j)))
      (made_behind (λ (var : Var). zero_of structs var.ty) values n unit.vars j value var handed.as_many more there at)
      (zero_holds structs var.ty (value_at begun (stands_in false (home_of_declared alone) j)) (declared_zero j var there more alone)))

  and_first : (a b : Bool) → (a && b) ≡ true → a ≡ true
  and_first true b h = refl
  and_first false b h = absurd (cc)

  held_home : (home : Home) → is_held home ≡ true → home ≡ Held
  held_home Held h = refl
  held_home Local h = absurd (cc)
  held_home Lent h = absurd (cc)

  input_there : (j : ℕ) (var : Var) (value : Value) → slice_get (frame_of structs unit values) j ≡ Some value → is_copied_input site j var ≡ true →
      At j var → (is_older depth (lent_at scope site.vars j).root ≡ true) × Encodes structs var.ty value (value_at begun (lent_at scope site.vars j))
  input_there j var value at is (Where.number held mine p v m less given role) =
      absurd (let held = held_home (home_at site j) (and_second (is_input var.role) (is_held (home_at site j)) is) in
      let isnt = sym given ∙ held in cc)
  input_there j var value at is (Where.local alone more role declared) =
      absurd (true_not_false (sym (and_first (is_input var.role) (is_held (home_at site j)) is) ∙ role))
  input_there j var value at is (Where.place to mine p v older holds less given lent role) = (
    ap (λ (l : Location). is_older depth l.root) (leads j to less p) ∙ older,
    subst (λ (l : Location). Encodes structs var.ty value (value_at begun l)) (sym (leads j to less p))
        (holds_same structs var.ty value (value_at here to) (value_at begun to) (λ way. sym (older_same to way older))
        (subst (λ value. Encodes structs var.ty value (value_at here to)) (frame_value j value mine v at) holds)),
  )

  pub frame_begun : FrameBegun site scope (frame_of structs unit values) begun
  frame_begun = record {
    pointers = pointers;
    variables = λ j var value there at isnt. variable_holds j var value there at isnt (where_is j var there);
    inputs = λ j var value there at is. input_there j var value at is (where_is j var there);
  }

pub begin_all : (structs : List StructDef) (units : List UnitDef) (entry : ℕ) → FramesBegin structs units entry
begin_all structs units entry k unit known depth values passed here keeps there function few handed =
    frame_begun structs (take k units) unit (roles structs (take k units) unit (stands_at structs units entry k unit keeps there)) function few known depth
    values passed here handed
