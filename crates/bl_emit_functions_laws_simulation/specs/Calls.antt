-- What holds of calls of C functions.
use Rattle.std.specs.Prelude.{◌≡◌, ℕ, ◌+◌, ◌≤◌, ◌^◌, Bool, true, false, ◌&&◌, ◌||◌, List, [], ◌++◌, length, map}
use Rattle.std.specs.Prelude.{nat_eq, take, Option, Some, None, slice_get}
use Rattle.std.specs.Prelude.{is_none, is_some}
use Rattle.bl_tree.specs.declared.c.CFunc.{CFunc}
use Rattle.bl_tree.specs.declared.scalar.Scalar.{Scalar as ScalarType}
use Rattle.bl_tree.specs.declared.tree.StructDef.{StructDef}
use Rattle.bl_tree.specs.declared.tree.Unit.{Unit as UnitDef}
use Rattle.bl_tree.specs.declared.tree.Var.{Var}
use Rattle.bl_tree.specs.declared.value.Value.{Value}
use Rattle.bl_tree.specs.Program.{IsWellTyped, is_input, is_output, parameters_of}
use Rattle.bl_tree.specs.Reduce.{joined}
use Rattle.bl_tree.specs.Types.{scalar_in}
use Rattle.bl_tree.specs.Typing.{TypingContext, inputs_of, is_function, outputs_of, site_of, var_at}
use Rattle.bl_effects.specs.Rules.{aliases_in}
use Rattle.bl_eval.specs.declared.datum.Datum.{Datum}
use Rattle.bl_eval.specs.Functions.{Flow, callee_of, callees_of, does, frame_of, in_order}
use Rattle.bl_eval.specs.Meaning.{Scope as Sees}
use Rattle.bl_eval.specs.Values.{number_in, values_fit}
use Rattle.bl_ctext_semantics.specs.Course.{Outcome}
use Rattle.bl_ctext_semantics.specs.Meaning.{ArgumentValue, Meaning, Scope, block_c, by_address, by_value, function_c, pointers_of, with_params}
use Rattle.bl_ctext_semantics.specs.Memory.{Location, Memory, Projection, Root, value_at, without_frame}
use Rattle.bl_ctext_semantics.specs.Memory as memory
use Rattle.bl_ctext_semantics.specs.Tables.{Table, table_of}
use Rattle.bl_emit_acts_laws_simulation.specs.Acts.{CallSimulates, MayPass, OutputsEncoded, ProceduresAgree}
use Rattle.bl_emit_acts_laws_simulation.specs.Frames.{PointersAreValid, is_older, lent_at}
use Rattle.bl_emit_acts_laws_simulation.specs.Encodes.{Encodes, are_apart, home_at, location_in}
use Rattle.bl_emit_acts_laws_simulation.specs.Simulation.{ArgumentsEncoded, FunctionsAgree}
use Rattle.bl_emit_functions.specs.Functions.{body_coded, function_code, is_held}

-- ---- results

-- what is returned is a result where the function has one, and else none
abbrev pub ResultGiven : Option ScalarType → Option Datum → Type 0
ResultGiven (Some s) given = (datum : Datum) × (given ≡ Some datum)
ResultGiven None given = given ≡ None

-- a body that traps or ends: it goes on to its end only where the function has no result, and returns what the function must
abbrev pub EndsFor : Option ScalarType → Option Flow → Type 0
EndsFor result None = Unit {0}
EndsFor result (Some (Flow.On now)) = result ≡ None
EndsFor result (Some (Flow.Back now given)) = ResultGiven result given

-- the body of each function ends as its result requires, from all values of its variables
abbrev pub BodiesEnd : List StructDef → List UnitDef → ℕ → Type 0
BodiesEnd structs units entry =
    (k : ℕ) (unit : UnitDef) (sees : Sees) (now : List Value) → IsWellTyped structs units entry → slice_get units k ≡ Some unit →
    is_function unit.kind ≡ true → EndsFor unit.result (in_order (map (does sees) unit.body) now)

-- ---- what a call reaches

-- the scope of a called function's body: its pointers lead to the arguments
abbrev pub scope_begun : Table Meaning → CFunc → ℕ → List ArgumentValue → Scope
scope_begun known function depth passed = record { known = known; depth = depth; pointers = table_of (pointers_of function.params passed) }

-- the memory in which it begins
abbrev pub memory_begun : CFunc → ℕ → List ArgumentValue → Memory → Memory
memory_begun function depth passed here = with_params depth function.params passed (without_frame depth here)

-- the outcome of a called function's body
abbrev pub body_done : Table Meaning → CFunc → ℕ → List ArgumentValue → Memory → Outcome Memory
body_done known function depth passed here =
    block_c function.body (scope_begun known function depth passed) (memory_begun function depth passed here)

-- a call of a function at a depth reaches older numbers of memory by its body alone
pub record CallKeepsFrame (known : Table Meaning) (function : CFunc) (depth : ℕ) (passed : List ArgumentValue) (here : Memory) : Type 0 where
  pub begins : (root : Root) (way : List Projection) → is_older depth root ≡ true → memory_begun function depth passed here root way ≡ here root way
  pub ends : (root : Root) (way : List Projection) → is_older depth root ≡ true →
      (function_c known function depth passed here).memory root way ≡ (body_done known function depth passed here).memory root way

-- each call of a function reaches older memory by its body alone
abbrev pub CallsKeepFrame : Type 0
CallsKeepFrame =
    (known : Table Meaning) (function : CFunc) (depth : ℕ) (passed : List ArgumentValue) (here : Memory) → CallKeepsFrame known function depth passed here

-- ---- arguments

-- an argument for a parameter, at a call of a function that runs at this depth: the number of a scalar input; for all others a place that was
-- there before, and has the value
abbrev pub ArgFor : List StructDef → ℕ → Memory → Var → Value → ArgumentValue → Type 0
ArgFor structs depth here var value (by_value held) =
    (is_output var.role ≡ false) × (is_some (scalar_in var.ty) ≡ true) × (number_in value ≡ Some (memory.scalar_number held))
ArgFor structs depth here var value (by_address place) =
    ((is_output var.role || is_none (scalar_in var.ty)) ≡ true) × (is_older depth place.root ≡ true) × Encodes structs var.ty value (value_at here place)

-- the argument of the parameter at a position, and the value that it has
pub record Handed (structs : List StructDef) (depth : ℕ) (here : Memory) (values : List Value) (passed : List ArgumentValue) (k : ℕ) (var : Var) : Type 0 where
  pub arg : ArgumentValue
  pub value : Value
  pub is_passed : slice_get passed k ≡ Some arg
  pub is_value : slice_get values k ≡ Some value
  pub fits : ArgFor structs depth here var value arg

-- A function is called with arguments that have these values. The place of an output has nothing in common with the place of another argument
pub record HandedOver (structs : List StructDef) (unit : UnitDef) (depth : ℕ) (here : Memory) (values : List Value) (passed : List ArgumentValue) : Type 0 where
  pub each : (k : ℕ) (var : Var) → slice_get (parameters_of unit) k ≡ Some var → Handed structs depth here values passed k var
  pub as_many : length values ≡ unit.inputs + unit.outputs
  pub apart : (j k : ℕ) (var : Var) (p q : Location) → slice_get (parameters_of unit) j ≡ Some var → is_output var.role ≡ true →
      slice_get passed j ≡ Some (by_address p) → slice_get passed k ≡ Some (by_address q) → nat_eq j k ≡ false → are_apart p q ≡ true

-- a call hands its arguments over, where these encode the inputs and the places of outputs are apart and hold values
abbrev pub HandsOver : List StructDef → List UnitDef → ℕ → Type 0
HandsOver structs units entry =
    (k : ℕ) (unit : UnitDef) (depth : ℕ) (here : Memory) (values given : List Value) (passed : List ArgumentValue) (outputs : List Location) →
    IsWellTyped structs units entry → slice_get units k ≡ Some unit → ArgumentsEncoded structs depth here (inputs_of unit) values passed →
    OutputsEncoded structs here (outputs_of unit) given outputs → MayPass depth passed outputs →
    HandedOver structs unit (depth + 1) here (values ++ given) (passed ++ map by_address outputs)

-- ---- where a body begins

-- whether the variable at a position is an input that the function copies before its body begins
abbrev pub is_copied_input : TypingContext → ℕ → Var → Bool
is_copied_input site k var = is_input var.role && is_held (home_at site k)

-- the frame of a called function: its pointers lead where they may, and all its variables but the inputs that it still has to copy have the
-- values with which its body begins. Those inputs stand where their pointers lead
pub record FrameBegun (site : TypingContext) (scope : Scope) (now : List Value) (here : Memory) : Type 0 where
  pub pointers : PointersAreValid site scope
  pub variables : (k : ℕ) (var : Var) (value : Value) → var_at site k ≡ Some var
      → slice_get now k ≡ Some value → is_copied_input site k var ≡ false →
      Encodes site.structs var.ty value (value_at here (location_in scope site k []))
  pub inputs : (k : ℕ) (var : Var) (value : Value) → var_at site k ≡ Some var
      → slice_get now k ≡ Some value → is_copied_input site k var ≡ true →
      (is_older scope.depth (lent_at scope site.vars k).root ≡ true) × Encodes site.structs var.ty value (value_at here (lent_at scope site.vars k))

-- a call of the C function of each function begins a frame as `FrameBegun` says, from the arguments that are handed over
abbrev pub FramesBegin : List StructDef → List UnitDef → ℕ → Type 0
FramesBegin structs units entry =
    (k : ℕ) (unit : UnitDef) (known : Table Meaning) (depth : ℕ) (values : List Value) (passed : List ArgumentValue) (here : Memory) →
    IsWellTyped structs units entry → slice_get units k ≡ Some unit → is_function unit.kind ≡ true → length unit.vars ≤ 2 ^ 64 →
    HandedOver structs unit depth here values passed →
    FrameBegun (site_of structs (take k units) unit) (scope_begun known (function_code structs (take k units) unit) depth passed)
    (frame_of structs unit values) (memory_begun (function_code structs (take k units) unit) depth passed here)

-- ---- functions without a result

-- the premises under which a C function simulates its function at a depth of calls, beside its arguments. Variables and flags can be named, arguments of calls
-- don't overlap, and earlier functions agree
pub record MayRun (structs : List StructDef) (units : List UnitDef) (k : ℕ) (unit : UnitDef) (known : Table Meaning) (depth : ℕ) (passed : List ArgumentValue)
    : Type 0 where
  pub vars : length unit.vars ≤ 2 ^ 64
  pub flags : (body_coded (site_of structs (take k units) unit) unit).free.flags ≤ 2 ^ 64
  pub apart : joined (map aliases_in unit.body) ≡ []
  pub functions : FunctionsAgree structs (take k units) (callees_of structs (take k units))
      (scope_begun known (function_code structs (take k units) unit) depth passed)
  pub procedures : ProceduresAgree structs (take k units) (callees_of structs (take k units))
      (scope_begun known (function_code structs (take k units) unit) depth passed)

-- a call of the C function of a function without a result traps iff the function does. Otherwise it leaves the function's outputs at their places, and all
-- older memory else unchanged
abbrev pub ProceduresSimulate : List StructDef → List UnitDef → ℕ → Type 0
ProceduresSimulate structs units entry =
    (k : ℕ) (unit : UnitDef) (known : Table Meaning) (depth : ℕ) (values given : List Value) (passed : List ArgumentValue) (outputs : List Location)
    (here : Memory) → IsWellTyped structs units entry → slice_get units k ≡ Some unit → is_function unit.kind ≡ true → unit.result ≡ None →
    MayRun structs units k unit known (depth + 1) (passed ++ map by_address outputs) → values_fit structs (inputs_of unit) values ≡ true →
    values_fit structs (outputs_of unit) given ≡ true → ArgumentsEncoded structs depth here (inputs_of unit) values passed →
    OutputsEncoded structs here (outputs_of unit) given outputs → MayPass depth passed outputs →
    CallSimulates structs (outputs_of unit) depth outputs here (callee_of structs (callees_of structs (take k units)) unit (values ++ given))
    (function_c known (function_code structs (take k units) unit) (depth + 1) (passed ++ map by_address outputs) here)
