-- The inputs of a function stand first, and those that it copies begin with what their arguments have.
use Rattle.std.proofs.Common.{◌≡◌, ℕ, ◌+◌, ◌<◌, ◌≤◌, arith, Bool, true, false, ◌&&◌, ◌||◌, List, [], length, take}
use Rattle.std.proofs.Common.{Some, refl, sym, ◌∙◌, subst}
use Rattle.std.proofs.lemmas.Bool.{leb-true, ltb-false, ltb-true}
use Rattle.std.proofs.lemmas.List.{length-take}
use Rattle.std.proofs.lemmas.Option.{slice_get_within}
use Rattle.std.specs.Prelude.{nat_le, nat_lt, slice_get}
use Rattle.std.specs.List.{list_all}
use Rattle.std.proofs.lemmas.Bool.{not-true}
use Rattle.bl_tree.proofs.Basics.{and_first, and_second, get_taken, true_not_false}
use Rattle.bl_tree.specs.declared.tree.Role.{Role}
use Rattle.bl_tree.specs.declared.tree.Role.TheVariants.{Input, Output, Variable, Fixed}
use Rattle.bl_tree.specs.declared.tree.StructDef.{StructDef}
use Rattle.bl_tree.specs.declared.tree.Unit.{Unit as UnitDef}
use Rattle.bl_tree.specs.declared.tree.Var.{Var}
use Rattle.bl_tree.specs.declared.value.Value.{Value}
use Rattle.bl_tree.specs.Program.{is_input, is_output, locals_of, roles_stand}
use Rattle.bl_tree.specs.Typing.{TypingContext, inputs_of, is_activity, is_fixed, is_function, is_variable, outputs_of, site_of, var_at}
use Rattle.bl_ctext_semantics.specs.Course.{Outcome}
use Rattle.bl_ctext_semantics.specs.Meaning.{Scope, block_c}
use Rattle.bl_ctext_semantics.specs.Memory.{Memory, value_at}
use Rattle.bl_emit_acts_laws_simulation.specs.Encodes.{Encodes, location_in}
use Rattle.bl_emit_functions.specs.Functions.{copies_from}
use Rattle.bl_emit_functions_laws_simulation.specs.Calls.{FrameBegun, is_copied_input}
use Rattle.bl_emit_functions_laws_simulation.proofs.OnCalls.Lists.{middle_all, rest_all}
use Rattle.bl_emit_functions_laws_simulation.proofs.OnCalls.Standing.{roles, stands_at}
use Rattle.bl_emit_functions_laws_simulation.specs.Results.{InputsBegin, InputsBegun}
use Rattle.bl_emit_functions_laws_simulation.proofs.OnResults.Copying.{Copied, begins, copies_come}

pub no_output : (role : Role) → is_input role ≡ true → is_output role ≡ true → ⊥
no_output Input h i = true_not_false (sym i)
no_output Output h i = true_not_false (sym h)
no_output Variable h i = true_not_false (sym h)
no_output Fixed h i = true_not_false (sym h)

no_local : (role : Role) → is_input role ≡ true → (is_variable role || is_fixed role) ≡ true → ⊥
no_local Input h i = true_not_false (sym i)
no_local Output h i = true_not_false (sym h)
no_local Variable h i = true_not_false (sym h)
no_local Fixed h i = true_not_false (sym h)

module _ (structs : List StructDef) (earlier : List UnitDef) (unit : UnitDef) (standing : roles_stand unit ≡ true) where
  abbrev site : TypingContext
  site = site_of structs earlier unit

  within : unit.inputs + unit.outputs ≤ length unit.vars
  within = leb-true (unit.inputs + unit.outputs) (length unit.vars) (and_first _ _ standing)

  pub all_inputs : list_all (λ (var : Var). is_input var.role) (inputs_of unit) ≡ true
  all_inputs = and_first _ _ (and_second _ _ standing)

  pub all_outputs : list_all (λ (var : Var). is_output var.role) (outputs_of unit) ≡ true
  all_outputs = and_first _ _ (and_second _ _ (and_second _ _ standing))

  pub all_locals : list_all (λ (var : Var). is_variable var.role || is_fixed var.role) (locals_of unit) ≡ true
  all_locals =
      let inputs : Bool = list_all (λ (var : Var). is_input var.role) (inputs_of unit) in
      let outputs : Bool = list_all (λ (var : Var). is_output var.role) (outputs_of unit) in
      let locals : Bool = list_all (λ (var : Var). is_variable var.role || is_fixed var.role) (locals_of unit) in
      and_second outputs locals
      (and_second inputs (outputs && locals) (and_second (nat_le (unit.inputs + unit.outputs) (length unit.vars)) (inputs && (outputs && locals)) standing))

  pub input_count : length (inputs_of unit) ≡ unit.inputs
  input_count = let few = within in omega (arith, length-take unit.inputs unit.vars, few)

  -- an input stands among the first variables
  pub input_first : (k : ℕ) (var : Var) → var_at site k ≡ Some var → is_input var.role ≡ true → k < unit.inputs
  input_first k var there input = by (nat_lt k unit.inputs) (nat_lt k (unit.inputs + unit.outputs)) refl refl
    where
      by : (first parameter : Bool) → nat_lt k unit.inputs ≡ first → nat_lt k (unit.inputs + unit.outputs) ≡ parameter → k < unit.inputs
      by true parameter is other = ltb-true k unit.inputs is
      by false true is other =
          absurd (no_output var.role input
          (middle_all (λ (var : Var). is_output var.role) unit.inputs unit.outputs unit.vars k var all_outputs there
          (ltb-false k unit.inputs is) (ltb-true k (unit.inputs + unit.outputs) other)))
      by false false is other =
          absurd (no_local var.role input
          (rest_all (λ (var : Var). is_variable var.role || is_fixed var.role) (unit.inputs + unit.outputs) unit.vars k var all_locals there
          (ltb-false k (unit.inputs + unit.outputs) other)))

  -- an input of the list of inputs is the variable at its position
  input_at : (i k : ℕ) (var : Var) → slice_get (inputs_of unit) i ≡ Some var → k ≡ 0 + i → var_at site k ≡ Some var
  input_at i k var there is =
      let less : i < length (inputs_of unit) = slice_get_within (inputs_of unit) i var there in
      let first : i < unit.inputs = omega (arith, less, input_count) in
      let same : i ≡ k = omega (arith, is) in
      subst (λ k. var_at site k ≡ Some var) same (sym (get_taken unit.vars unit.inputs i first) ∙ there)

  module _ (function : is_function unit.kind ≡ true) (scope : Scope) (now : List Value) (here : Memory) (begun : FrameBegun site scope now here) where
    abbrev done : Outcome Memory
    done = block_c (copies_from site 0 (inputs_of unit)) scope here

    abbrev CopiedTo : ℕ → Memory → Type 0
    CopiedTo = Copied site (not-true (is_activity unit.kind) function) scope now here begun

    all_copied : CopiedTo (0 + length (inputs_of unit)) done.memory
    all_copied =
        (copies_come site (not-true (is_activity unit.kind) function) scope now here begun 0 (inputs_of unit) here input_at all_inputs
        (begins site (not-true (is_activity unit.kind) function) scope now here begun)).1

    holds : (k : ℕ) (var : Var) (value : Value) → var_at site k ≡ Some var → slice_get now k ≡ Some value → (copied : Bool) →
        is_copied_input site k var ≡ copied → Encodes structs var.ty value (value_at done.memory (location_in scope site k []))
    holds k var value there stored true is =
        let first : k < unit.inputs = input_first k var there (and_first _ _ is) in
        all_copied.done k var value there stored is (omega (arith, first, input_count))
    holds k var value there stored false is = all_copied.others k var value there stored is

    pub inputs_begun : InputsBegun site scope here now done.memory
    inputs_begun = record {
      variables = record { each = λ k var value there stored. holds k var value there stored (is_copied_input site k var) refl };
      kept = λ root way outside. all_copied.kept root way outside;
    }

pub begin_all : (structs : List StructDef) (units : List UnitDef) (entry : ℕ) → InputsBegin structs units entry
begin_all structs units entry k unit scope now here keeps there function begun =
    let standing = roles structs (take k units) unit (stands_at structs units entry k unit keeps there) in
    let site = site_of structs (take k units) unit in
    let none = not-true (is_activity unit.kind) function in (
      (copies_come site none scope now here begun 0 (inputs_of unit) here (input_at structs (take k units) unit standing)
          (all_inputs structs (take k units) unit standing) (begins site none scope now here begun)).0,
      inputs_begun structs (take k units) unit standing function scope now here begun,
    )
