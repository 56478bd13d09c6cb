-- What holds of the C functions of functions with a result, and of the inputs that they copy.
use Rattle.std.specs.Prelude.{◌≡◌, ℕ, ◌+◌, true, false, List, [], take, Option, Some, None, slice_get}
use Rattle.bl_tree.specs.declared.scalar.Scalar.{Scalar as ScalarType}
use Rattle.bl_tree.specs.declared.tree.StructDef.{StructDef}
use Rattle.bl_tree.specs.declared.tree.Unit.{Unit as UnitDef}
use Rattle.bl_tree.specs.declared.tree.Var.{Var}
use Rattle.bl_tree.specs.declared.value.Value.{Value}
use Rattle.bl_tree.specs.Program.{IsWellTyped}
use Rattle.bl_tree.specs.Typing.{TypingContext, inputs_of, is_function, site_of, var_at}
use Rattle.bl_eval.specs.declared.datum.Datum.{Datum}
use Rattle.bl_eval.specs.declared.datum.Left.{Left}
use Rattle.bl_eval.specs.Functions.{callee_of, callees_of}
use Rattle.bl_eval.specs.Values.{values_fit}
use Rattle.bl_ctext_semantics.specs.Course.{goes_on}
use Rattle.bl_ctext_semantics.specs.Meaning.{ArgumentValue, CallResult, Meaning, Scope, block_c, function_c}
use Rattle.bl_ctext_semantics.specs.Memory.{Memory, Projection, Root}
use Rattle.bl_ctext_semantics.specs.Tables.{Table}
use Rattle.bl_emit_acts_laws_simulation.specs.Acts.{UnchangedOutside, lies_in}
use Rattle.bl_emit_acts_laws_simulation.specs.Encodes.{VariablesEncoded, location_in}
use Rattle.bl_emit_acts_laws_simulation.specs.Simulation.{ArgumentsEncoded, number_given}
use Rattle.bl_emit_functions.specs.Functions.{copies_from, function_code}
use Rattle.bl_emit_functions_laws_simulation.specs.Calls.{FrameBegun, MayRun, is_copied_input}

-- ---- inputs that are copied

-- memory after the inputs that a function copies were set: each variable has its value, and memory outside of these inputs is unchanged
pub record InputsBegun (site : TypingContext) (scope : Scope) (here : Memory) (now : List Value) (after : Memory) : Type 0 where
  pub variables : VariablesEncoded site now scope after
  pub kept : (root : Root) (way : List Projection) →
      ((k : ℕ) (var : Var) → var_at site k ≡ Some var → is_copied_input site k var ≡ true
      → lies_in (location_in scope site k []) root way ≡ false) →
      after root way ≡ here root way

-- The C that copies a function's inputs goes on, and leaves each of them as its argument is
abbrev pub InputsBegin : List StructDef → List UnitDef → ℕ → Type 0
InputsBegin structs units entry =
    (k : ℕ) (unit : UnitDef) (scope : Scope) (now : List Value) (here : Memory) → IsWellTyped structs units entry → slice_get units k ≡ Some unit →
    is_function unit.kind ≡ true → FrameBegun (site_of structs (take k units) unit) scope now here →
    ((block_c (copies_from (site_of structs (take k units) unit) 0 (inputs_of unit)) scope here).end ≡ goes_on)
    × InputsBegun (site_of structs (take k units) unit) scope here now
    (block_c (copies_from (site_of structs (take k units) unit) 0 (inputs_of unit)) scope here).memory

-- ---- functions with a result

-- a call that returns the number of a function's result, and leaves all as it was that was there before
pub record Returned (depth : ℕ) (here : Memory) (left : Left) (called : CallResult) : Type 0 where
  pub datum : Datum
  pub is_given : left.result ≡ Some datum
  pub is_returned : called.result ≡ Some (number_given datum)
  pub kept : UnchangedOutside depth [] here called.memory

-- a call that traps where the function does, and else returns its result
abbrev pub CallReturns : ℕ → Memory → Option Left → CallResult → Type 0
CallReturns depth here None called = called.result ≡ None
CallReturns depth here (Some left) called = Returned depth here left called

-- a call of the C function of a function with a result traps iff the function does. Otherwise it returns the function's result, and leaves all older memory
-- unchanged
abbrev pub ResultsSimulate : List StructDef → List UnitDef → ℕ → Type 0
ResultsSimulate structs units entry =
    (k : ℕ) (unit : UnitDef) (s : ScalarType) (known : Table Meaning) (depth : ℕ) (values : List Value) (passed : List ArgumentValue) (here : Memory) →
    IsWellTyped structs units entry → slice_get units k ≡ Some unit → is_function unit.kind ≡ true → unit.result ≡ Some s →
    MayRun structs units k unit known (depth + 1) passed → values_fit structs (inputs_of unit) values ≡ true →
    ArgumentsEncoded structs depth here (inputs_of unit) values passed →
    CallReturns depth here (callee_of structs (callees_of structs (take k units)) unit values)
    (function_c known (function_code structs (take k units) unit) (depth + 1) passed here)
