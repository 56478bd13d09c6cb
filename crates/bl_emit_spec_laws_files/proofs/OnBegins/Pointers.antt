-- Where the pointers of a called activity lead.
use Rattle.std.proofs.Common.{◌≡◌, ℕ, ◌<◌, ◌≤◌, ◌^◌, arith, pos, Bool, true, false, List, [], ◌∷◌}
use Rattle.std.proofs.Common.{◌++◌, length, map}
use Rattle.std.proofs.Common.{Option, Some, None, refl, ap, ◌∙◌}
use Rattle.std.proofs.lemmas.Bool.{eq-eqb}
use Rattle.std.specs.Prelude.{bytes_eq, codes, is_some, slice_get, unwrap_or, if◌then◌else◌}
use Rattle.bl_tree.specs.declared.c.CParam.{CParam}
use Rattle.bl_tree.specs.declared.scalar.Scalar.{Scalar}
use Rattle.bl_tree.specs.declared.text.Text.{Text}
use Rattle.bl_tree.specs.Program.{parameters_of}
use Rattle.bl_ctext_semantics.specs.Meaning.{ArgumentValue, Meaning, Scope, by_address, named_location, pointers_of, with_params}
use Rattle.bl_ctext_semantics.specs.Memory.{Location, Memory, Projection, variable, without_frame, zeros}
use Rattle.bl_ctext_semantics.specs.Tables.{Table, found}
use Rattle.bl_emit_acts.specs.Types.{variable_name}
use Rattle.bl_emit_acts_laws_simulation.specs.Frames.{lent_at, remembered_at}
use Rattle.bl_emit_functions.specs.Functions.{params_from}
use Rattle.bl_emit_functions_laws_simulation.specs.Calls.{memory_begun, scope_begun}
use Rattle.bl_emit_spec.specs.Activities.{Activity, activity_function, activity_params, memory_params, over_params, remembers_any, result_params}
use Rattle.bl_emit_spec.specs.Blocks.{unit_may_end}
use Rattle.bl_emit_spec_laws.specs.Registers.Registers.{frame_at, over_at}
use Rattle.bl_emit_spec_laws.specs.Calls.Calls.{CallAddresses, passed_to, where_true}
use Rattle.bl_emit_spec_laws.specs.Calls.Invariant.{result_at_c}
use Rattle.bl_emit_spec_laws_files.proofs.OnBegins.Params.{found_behind, found_front, no_pointer, other_stays, pointer_given}
use Rattle.bl_emit_spec_laws_files.proofs.OnBegins.Params.{pointers_both, values_both}

-- ---- where some parameters are left out

abbrev Entries : Type 0
Entries = List (Text × Location)

skip_where : (b : Bool) (entry : Text × Location) (rest : Entries) (name : Text) → bytes_eq entry.0 name ≡ false →
    found name (where_true b entry ++ rest) ≡ found name rest
skip_where true entry rest name differ = ap (λ b. if b then Some entry.1 else found name rest) differ
skip_where false entry rest name differ = refl

take_where : (b : Bool) (entry : Text × Location) (rest : Entries) (name : Text) → b ≡ true → bytes_eq entry.0 name ≡ true →
    found name (where_true b entry ++ rest) ≡ Some entry.1
take_where true entry rest name is same = ap (λ b. if b then Some entry.1 else found name rest) same
take_where false entry rest name is same = absurd (cc)

skip_last : (b : Bool) (entry : Text × Location) (name : Text) → bytes_eq entry.0 name ≡ false → found name (where_true b entry) ≡ None
skip_last true entry name differ = ap (λ b. if b then Some entry.1 else None) differ
skip_last false entry name differ = refl

take_last : (b : Bool) (entry : Text × Location) (name : Text) → b ≡ true → bytes_eq entry.0 name ≡ true →
    found name (where_true b entry) ≡ Some entry.1
take_last true entry name is same = ap (λ b. if b then Some entry.1 else None) same
take_last false entry name is same = absurd (cc)

memory_pointers : (a : Activity) (b : Bool) (m : Location) (ps : List CParam) (qs : List ArgumentValue) →
    pointers_of (memory_params a b ++ ps) (where_true b (by_address m) ++ qs) ≡ where_true b (codes "m", m) ++ pointers_of ps qs
memory_pointers a true m ps qs = refl
memory_pointers a false m ps qs = refl

result_pointers : (result : Option Scalar) (ends : Bool) (r e : Location) →
    pointers_of (result_params result ++ over_params ends) (where_true (is_some result) (by_address r) ++ where_true ends (by_address e))
    ≡ where_true (is_some result) (codes "r", r) ++ where_true ends (codes "e", e)
result_pointers None true r e = refl
result_pointers None false r e = refl
result_pointers (Some s) true r e = refl
result_pointers (Some s) false r e = refl

memory_values : (depth : ℕ) (a : Activity) (b : Bool) (m : Location) (ps : List CParam) (qs : List ArgumentValue) (here : Memory) →
    with_params depth (memory_params a b ++ ps) (where_true b (by_address m) ++ qs) here ≡ with_params depth ps qs here
memory_values depth a true m ps qs here = refl
memory_values depth a false m ps qs here = refl

result_values : (depth : ℕ) (result : Option Scalar) (ends : Bool) (r e : Location) (here : Memory) →
    with_params depth (result_params result ++ over_params ends) (where_true (is_some result) (by_address r) ++ where_true ends (by_address e)) here ≡ here
result_values depth None true r e here = refl
result_values depth None false r e here = refl
result_values depth (Some s) true r e here = refl
result_values depth (Some s) false r e here = refl

-- ---- the whole

module _ (a : Activity) (known : Table Meaning) (depth : ℕ) (given : CallAddresses)
    (many : length (given.inputs ++ map by_address given.outputs) ≡ length (parameters_of a.unit)) where
  abbrev Args : List ArgumentValue
  Args = given.inputs ++ map by_address given.outputs

  abbrev pub Begun : Scope
  Begun = scope_begun known (activity_function a) depth (passed_to a.unit (remembers_any a) given)

  -- the entries for variables, and what stands behind them
  abbrev Own : Entries
  Own = pointers_of (params_from a.structs a.unit.vars 0 (parameters_of a.unit)) Args

  abbrev may_end : Bool
  may_end = unit_may_end a.unit

  abbrev Ends : Entries
  Ends = where_true may_end (codes "e", given.over)

  abbrev Behind : Entries
  Behind = where_true (is_some a.unit.result) (codes "r", given.result) ++ Ends

  pointers_are : pointers_of (activity_params a) (passed_to a.unit (remembers_any a) given)
      ≡ (codes "f", given.frame) ∷ (where_true (remembers_any a) (codes "m", given.memory) ++ (Own ++ Behind))
  pointers_are =
      ap (λ (rest : Entries). (codes "f", given.frame) ∷ rest)
      (memory_pointers a (remembers_any a) given.memory
      (params_from a.structs a.unit.vars 0 (parameters_of a.unit) ++ (result_params a.unit.result ++ over_params may_end))
      (Args ++ (where_true (is_some a.unit.result) (by_address given.result) ++ where_true may_end (by_address given.over)))
      ∙ ap (λ (rest : Entries). where_true (remembers_any a) (codes "m", given.memory) ++ rest)
      (pointers_both a.structs a.unit.vars depth (parameters_of a.unit) 0 Args (result_params a.unit.result ++ over_params may_end)
      (where_true (is_some a.unit.result) (by_address given.result) ++ where_true may_end (by_address given.over)) many
      ∙ ap (λ (rest : Entries). Own ++ rest) (result_pointers a.unit.result may_end given.result given.over)))

  abbrev Listed : Entries
  Listed = where_true (remembers_any a) (codes "m", given.memory) ++ (Own ++ Behind)

  -- a name that isn't that of the counters is found behind them
  leads : (name : Text) (at : Location) → bytes_eq (codes "f") name ≡ false → found name Listed ≡ Some at → named_location Begun true name ≡ at
  leads name at differ is =
      ap (λ o. unwrap_or o (record { root = variable depth name; parts = [] }))
      (ap (found name) pointers_are ∙ (ap (λ b. if b then Some given.frame else found name Listed) differ ∙ is))

  nowhere_found : (name : Text) → bytes_eq (codes "f") name ≡ false → found name Listed ≡ None →
      named_location Begun true name ≡ record { root = variable depth name; parts = [] }
  nowhere_found name differ is =
      ap (λ o. unwrap_or o (record { root = variable depth name; parts = [] }))
      (ap (found name) pointers_are ∙ (ap (λ b. if b then Some given.frame else found name Listed) differ ∙ is))

  pub frame_given : frame_at Begun ≡ given.frame
  frame_given =
      ap (λ o. unwrap_or o (record { root = variable depth (codes "f"); parts = [] })) (ap (found (codes "f")) pointers_are)

  pub over_given : unit_may_end a.unit ≡ true → over_at Begun ≡ given.over
  over_given is =
      leads (codes "e") given.over refl
      (skip_where (remembers_any a) (codes "m", given.memory) (Own ++ Behind) (codes "e") refl
      ∙ (found_behind (codes "e") Own Behind (no_pointer a.structs a.unit.vars depth (parameters_of a.unit) 0 Args (codes "e") (λ i. refl))
      ∙ (skip_where (is_some a.unit.result) (codes "r", given.result) Ends (codes "e") refl
      ∙ take_last may_end (codes "e", given.over) (codes "e") is refl)))

  pub memory_given : remembers_any a ≡ true → remembered_at Begun ≡ given.memory
  memory_given is =
      leads (codes "m") given.memory refl
      (take_where (remembers_any a) (codes "m", given.memory) (Own ++ Behind) (codes "m") is refl)

  -- without it the pointer's name is that of a variable of the function
  pub no_memory : remembers_any a ≡ false → remembered_at Begun ≡ record { root = variable depth (codes "m"); parts = [] }
  no_memory is =
      nowhere_found (codes "m") refl
      (ap (λ b. found (codes "m") (where_true b (codes "m", given.memory) ++ (Own ++ Behind))) is
      ∙ (found_behind (codes "m") Own Behind (no_pointer a.structs a.unit.vars depth (parameters_of a.unit) 0 Args (codes "m") (λ i. refl))
      ∙ (skip_where (is_some a.unit.result) (codes "r", given.result) Ends (codes "m") refl
      ∙ skip_last may_end (codes "e", given.over) (codes "m") refl)))

  pub result_given : is_some a.unit.result ≡ true → result_at_c Begun ≡ given.result
  result_given is =
      leads (codes "r") given.result refl
      (skip_where (remembers_any a) (codes "m", given.memory) (Own ++ Behind) (codes "r") refl
      ∙ (found_behind (codes "r") Own Behind (no_pointer a.structs a.unit.vars depth (parameters_of a.unit) 0 Args (codes "r") (λ i. refl))
      ∙ take_where (is_some a.unit.result) (codes "r", given.result) Ends (codes "r") is refl))

  pub lent_given : (j : ℕ) (at : Location) → length (parameters_of a.unit) ≤ 2 ^ 64 → j < length (parameters_of a.unit) →
      slice_get Args j ≡ Some (by_address at) → lent_at Begun a.unit.vars j ≡ at
  lent_given j at few less is =
      leads (variable_name a.unit.vars j) at refl
      (skip_where (remembers_any a) (codes "m", given.memory) (Own ++ Behind) (variable_name a.unit.vars j) refl
      ∙ found_front (variable_name a.unit.vars j) Own Behind at
      (pointer_given a.structs a.unit.vars depth (parameters_of a.unit) 0 j j Args at (omega arith) less (omega (arith, few)) is))

  -- ---- the memory in which it begins

  pub begun_is : (here : Memory) → memory_begun (activity_function a) depth (passed_to a.unit (remembers_any a) given) here
      ≡ with_params depth (params_from a.structs a.unit.vars 0 (parameters_of a.unit)) Args (without_frame depth here)
  begun_is here =
      memory_values depth a (remembers_any a) given.memory
      (params_from a.structs a.unit.vars 0 (parameters_of a.unit) ++ (result_params a.unit.result ++ over_params may_end))
      (Args ++ (where_true (is_some a.unit.result) (by_address given.result) ++ where_true may_end (by_address given.over))) (without_frame depth here)
      ∙ (values_both a.structs a.unit.vars depth (parameters_of a.unit) 0 Args (result_params a.unit.result ++ over_params may_end)
      (where_true (is_some a.unit.result) (by_address given.result) ++ where_true may_end (by_address given.over)) (without_frame depth here) many
      ∙ result_values depth a.unit.result may_end given.result given.over
      (with_params depth (params_from a.structs a.unit.vars 0 (parameters_of a.unit)) Args (without_frame depth here)))

  -- what is no parameter begins at 0
  pub local_zero : (here : Memory) (name : Text) → ((i : ℕ) → bytes_eq (variable_name a.unit.vars i) name ≡ false) → (way : List Projection) →
      memory_begun (activity_function a) depth (passed_to a.unit (remembers_any a) given) here (variable depth name) way ≡ pos 0
  local_zero here name differ way =
      ap (λ (m : Memory). m (variable depth name) way) (begun_is here)
      ∙ (other_stays a.structs a.unit.vars depth (parameters_of a.unit) 0 Args (without_frame depth here) name way (λ i more less. differ i)
      ∙ ap (λ b. (if b then zeros else here (variable depth name)) way) (eq-eqb depth depth refl))
