-- Which functions the C function of an activity calls, and how long the chains of calls are that it heads.
use Rattle.std.specs.Prelude.{◌≡◌, ℕ, ◌≤◌, List, map, take, Some, slice_get}
use Rattle.bl_tree.specs.declared.scalar.Scalar.{Scalar as ScalarType}
use Rattle.bl_tree.specs.declared.text.Text.{Text}
use Rattle.bl_tree.specs.declared.tree.StructDef.{StructDef}
use Rattle.bl_tree.specs.declared.tree.Unit.{Unit as UnitDef}
use Rattle.bl_tree.specs.Program.{IsWellTyped}
use Rattle.bl_tree.specs.Reduce.{greatest}
use Rattle.bl_limits.specs.Rules.{Passes}
use Rattle.bl_limits_measures.specs.Units.{chain_at}
use Rattle.bl_ctext_semantics.specs.Calls.{calls_in_block}
use Rattle.bl_ctext_semantics.specs.Faults.{depth_of_function}
use Rattle.bl_ctext_semantics.specs.Tables.{Table, with_entry}
use Rattle.bl_emit_acts.specs.Acts.{name_of_callee}
use Rattle.bl_emit_acts.specs.Expressions.{function_name}
use Rattle.bl_emit_acts.specs.Types.{unit_name}
use Rattle.bl_emit_functions_laws_wellformed.specs.Files.Laws.{ChainsKnown}
use Rattle.bl_emit_spec.specs.Activities.{Activity, activity_function}
use Rattle.bl_emit_spec.specs.Programs.{needs_of}

-- no element of a list has a greater number
abbrev pub NoneAbove : {A : Type 0} → (A → ℕ) → ℕ → List A → Type 0
NoneAbove number n xs = greatest (map number xs) ≤ n

-- Give each name of a function a number: one of the prelude 0, and that of an earlier unit no more than its unit has. Where no unit that the activity
-- calls or runs has more than n, no function that the C function calls has
abbrev pub ActivitiesCallFew : Type 0
ActivitiesCallFew =
    (a : Activity) (weight : Text → ℕ) (by : ℕ → ℕ) (n : ℕ) → ((word : Text) (s : ScalarType) → weight (function_name word s) ≡ 0) →
    ((f : ℕ) → weight (name_of_callee (slice_get a.earlier f)) ≤ by f) → NoneAbove by n (needs_of a.unit) →
    NoneAbove weight n (calls_in_block (activity_function a).body)

-- an activity of a unit at a position, with the units before it
pub record IsOfUnit (units : List UnitDef) (k : ℕ) (unit : UnitDef) (a : Activity) : Type 0 where
  pub there : slice_get units k ≡ Some unit
  pub is : a.unit ≡ unit
  pub before : a.earlier ≡ take k units

-- the C function of an activity heads no longer chain of calls than its unit does
abbrev pub ActivityChainsFollow : Type 0
ActivityChainsFollow =
    (units : List UnitDef) (k : ℕ) (unit : UnitDef) (a : Activity) (depths : Table ℕ) → IsOfUnit units k unit a → ChainsKnown units depths →
    depth_of_function depths (activity_function a) ≤ chain_at units k

-- a table of chains stays right once an activity's C function joins it
abbrev pub ActivityChainsGrow : Type 0
ActivityChainsGrow =
    (structs : List StructDef) (units : List UnitDef) (entry : ℕ) (k : ℕ) (unit : UnitDef) (a : Activity) (depths : Table ℕ) →
    IsWellTyped structs units entry → IsOfUnit units k unit a → ChainsKnown units depths →
    ChainsKnown units (with_entry depths (unit_name unit.name) (depth_of_function depths (activity_function a)))

-- the C function of an activity heads no chain of more than 100 functions, where rule Frames holds
abbrev pub ActivityChainsShort : Type 0
ActivityChainsShort =
    (structs : List StructDef) (units : List UnitDef) (entry : ℕ) (k : ℕ) (unit : UnitDef) (a : Activity) (depths : Table ℕ) →
    Passes structs units entry → IsOfUnit units k unit a → ChainsKnown units depths → depth_of_function depths (activity_function a) ≤ 100
