-- How the C function of an activity begins.
use Rattle.std.specs.Prelude.{◌≡◌, ℕ, ◌+◌, ◌<◌, true, List, length, Some, slice_get}
use Rattle.bl_tree.specs.declared.tree.StructDef.{StructDef}
use Rattle.bl_tree.specs.declared.tree.Unit.{Unit as UnitDef}
use Rattle.bl_tree.specs.Typing.{is_activity}
use Rattle.bl_ctext_semantics.specs.Meaning.{Meaning}
use Rattle.bl_ctext_semantics.specs.Memory.{Memory}
use Rattle.bl_ctext_semantics.specs.Tables.{Table}
use Rattle.bl_ctree.specs.Instances.{setting_of, unit_at}
use Rattle.bl_ctree.specs.Store.{Store, view_at}
use Rattle.bl_emit_acts_laws_simulation.specs.Encodes.{VariablesEncoded}
use Rattle.bl_emit_functions_laws_simulation.specs.Units.{AllAgree}
use Rattle.bl_emit_spec.specs.Activities.{Activity, activity_view, remembers_any}
use Rattle.bl_machine.specs.declared.machine.Activity.{Activity as InMachine}
use Rattle.bl_machine_pass_laws_execution.specs.Frames.{Frames}
use Rattle.bl_emit_spec_laws.specs.Calls.Built.{Activities, activity_at, site_at, unit_number}
use Rattle.bl_emit_spec_laws.specs.Calls.Calls.{ActivitySimulates, CallAddresses, CallBegins, MayGive}
use Rattle.bl_emit_spec_laws.specs.Calls.Laws.{CompilationContext, FunctionsBegin, memory_in, scope_in}
use Rattle.bl_emit_spec_laws.specs.Activities.{CalleesRemember, PointersAreGiven}
use Rattle.bl_emit_spec_laws.specs.Calls.Invariant.{FunctionContext}

-- ---- pointers

-- the pointers of each called function lead to the places that the call gives, whatever machine and activities were made of the program
abbrev pub PointersFollow : List StructDef → List UnitDef → ℕ → Type 0
PointersFollow structs units entry =
    (machine : List InMachine) (activities : Activities) → PointersAreGiven structs units entry machine activities

-- ---- the function

-- each function of an activity stands as it begins, where the functions before it are known to do what they do in the program
abbrev pub FunctionsBeginInContext : List StructDef → List UnitDef → ℕ → Type 0
FunctionsBeginInContext structs units entry =
    let w = setting_of structs units entry in
    (machine : List InMachine) (activities : Activities) (i : ℕ) (unit : UnitDef) (known : Table Meaning) (depth : ℕ) (given : CallAddresses)
    (frames : Frames) (store : Store) (here : Memory) → CompilationContext structs units entry machine activities → unit_at w i ≡ Some unit →
    MayGive unit (remembers_any (activity_at w activities i)) depth given → CallBegins w activities i unit depth given frames store here →
    AllAgree structs units (unit_number w i) (scope_in w activities i unit known depth given) →
    ((u : ℕ) → u < unit_number w i → ActivitySimulates w activities u known (depth + 1)) →
    FunctionContext structs units w activities i unit (scope_in w activities i unit known depth given)

-- ---- variables

-- each variable has its value at its place in the memory in which a called function begins
abbrev pub VariablesBegin : List StructDef → List UnitDef → ℕ → Type 0
VariablesBegin structs units entry =
    let w = setting_of structs units entry in
    (machine : List InMachine) (activities : Activities) (i : ℕ) (unit : UnitDef) (known : Table Meaning) (depth : ℕ) (given : CallAddresses)
    (frames : Frames) (store : Store) (here : Memory) → CompilationContext structs units entry machine activities → unit_at w i ≡ Some unit →
    MayGive unit (remembers_any (activity_at w activities i)) depth given → CallBegins w activities i unit depth given frames store here →
    VariablesEncoded (site_at w activities i) (view_at w store i).now (scope_in w activities i unit known depth given)
    (memory_in w activities i unit depth given here)

-- ---- the start

-- all counters of which a rule asks what they held are counters of the activity, which has one at least
pub record CountersSuffice (a : Activity) : Type 0 where
  pub some : 0 < length a.sizes
  pub asked : (k : ℕ) → (activity_view a).is_read k ≡ true → k < length a.sizes

-- functions begin as passes do where that holds of each activity
abbrev pub FunctionsBeginWhere : List StructDef → List UnitDef → ℕ → Type 0
FunctionsBeginWhere structs units entry =
    (machine : List InMachine) (activities : Activities) → CalleesRemember structs units entry machine activities →
    ((k : ℕ) (unit : UnitDef) → slice_get units k ≡ Some unit → is_activity unit.kind ≡ true → CountersSuffice (activities k)) →
    FunctionsBegin structs units entry machine activities
