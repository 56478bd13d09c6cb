-- What holds of the C of the statements of every typed program's functions.
use Rattle.std.specs.Prelude.{◌≡◌, ℕ, ℤ, pos, ◌<◌, ◌≤◌, ◌^◌, true, false, List, [], map, take, Option, Some, None, slice_get}
use Rattle.bl_tree.specs.declared.tree.Stmt.{Stmt}
use Rattle.bl_tree.specs.declared.tree.StructDef.{StructDef}
use Rattle.bl_tree.specs.declared.tree.Unit.{Unit as UnitDef}
use Rattle.bl_tree.specs.declared.value.Value.{Value}
use Rattle.bl_tree.specs.Program.{IsWellTyped}
use Rattle.bl_tree.specs.Reduce.{all_of, joined}
use Rattle.bl_tree.specs.Typing.{TypingContext, fits, is_activity, site_of}
use Rattle.bl_effects.specs.Rules.{aliases_in}
use Rattle.bl_eval.specs.declared.datum.Datum.{Datum}
use Rattle.bl_eval.specs.Functions.{Flow, callees_of, does, in_order}
use Rattle.bl_eval.specs.Standing.{scope_of}
use Rattle.bl_eval.specs.Values.{values_fit}
use Rattle.bl_ctext_semantics.specs.Course.{Outcome, goes_on, returns, traps}
use Rattle.bl_ctext_semantics.specs.Meaning.{Scope, block_c}
use Rattle.bl_ctext_semantics.specs.Memory.{Memory, Projection, Root, same_root, variable}
use Rattle.bl_emit_acts.specs.Acts.{is_copied}
use Rattle.bl_emit_acts_laws_simulation.specs.Acts.{Foreign, ProceduresAgree}
use Rattle.bl_emit_acts_laws_simulation.specs.Frames.{PointersAreValid}
use Rattle.bl_emit_acts_laws_simulation.specs.Encodes.{VariablesEncoded}
use Rattle.bl_emit_acts_laws_simulation.specs.Simulation.{FunctionsAgree, number_given}
use Rattle.bl_emit_functions.specs.declared.coded.Free.{Free}
use Rattle.bl_emit_functions.specs.Statements.{block_codes, codes_of}
use Rattle.bl_emit_functions.specs.Trees.{flag_name}

-- memory represents values of a function's variables: each fits its variable's type, and its place has it
pub record Represents (site : TypingContext) (scope : Scope) (now : List Value) (here : Memory) : Type 0 where
  pub fits : values_fit site.structs site.vars now ≡ true
  pub variables : VariablesEncoded site now scope here

-- a number of memory that belongs to no variable that may be written, and to no flag from this one on
pub record Untouched (site : TypingContext) (scope : Scope) (flags : ℕ) (root : Root) (way : List Projection) : Type 0 where
  pub foreign : Foreign site (is_copied []) scope root way
  pub no_flag : (j : ℕ) → flags ≤ j → j < 2 ^ 64 → same_root (variable scope.depth (flag_name j)) root ≡ false

-- numbers of memory are unchanged that belong to no variable that may be written and to no flag from this one on
pub record Spared (site : TypingContext) (scope : Scope) (flags : ℕ) (here after : Memory) : Type 0 where
  pub each : (root : Root) (way : List Projection) → Untouched site scope flags root way → after root way ≡ here root way

-- the number that a function returns; 0 where it has no result
abbrev pub number_back : Option Datum → ℤ
number_back (Some datum) = number_given datum
number_back None = pos 0

-- C simulates statements of a function: it traps iff they trap, goes on or returns as they do, represents the values after them, and spares all else
abbrev pub FlowSimulates : TypingContext → Scope → ℕ → Memory → Option Flow → Outcome Memory → Type 0
FlowSimulates site scope flags here None o = o.end ≡ traps
FlowSimulates site scope flags here (Some (Flow.On now)) o = (o.end ≡ goes_on) × Represents site scope now o.memory × Spared site scope flags here o.memory
FlowSimulates site scope flags here (Some (Flow.Back now result)) o =
    (o.end ≡ returns (number_back result)) × Represents site scope now o.memory × Spared site scope flags here o.memory

-- a function runs in C: it is at the position, its pointers are valid, and earlier functions agree
pub record FunctionIsRunning (structs : List StructDef) (units : List UnitDef) (k : ℕ) (unit : UnitDef) (scope : Scope) : Type 0 where
  pub is_there : slice_get units k ≡ Some unit
  pub is_function : is_activity unit.kind ≡ false
  pub pointers : PointersAreValid (site_of structs (take k units) unit) scope
  pub functions : FunctionsAgree structs (take k units) (callees_of structs (take k units)) scope
  pub procedures : ProceduresAgree structs (take k units) (callees_of structs (take k units)) scope

-- the C of statements of a function simulates them, where they fit and no arguments of calls overlap
abbrev pub StatementsSimulate : List StructDef → List UnitDef → ℕ → Type 0
StatementsSimulate structs units entry =
    (k : ℕ) (unit : UnitDef) (scope : Scope) (body : List Stmt) (free : Free) (now : List Value) (here : Memory) → IsWellTyped structs units entry →
    FunctionIsRunning structs units k unit scope → all_of (map (fits (site_of structs (take k units) unit)) body) ≡ true → joined (map aliases_in body) ≡ [] →
    (block_codes (map (codes_of (site_of structs (take k units) unit)) body) free).free.flags ≤ 2 ^ 64 →
    Represents (site_of structs (take k units) unit) scope now here →
    FlowSimulates (site_of structs (take k units) unit) scope free.flags here
    (in_order (map (does (scope_of (site_of structs (take k units) unit))) body) now)
    (block_c (block_codes (map (codes_of (site_of structs (take k units) unit)) body) free).code scope here)
