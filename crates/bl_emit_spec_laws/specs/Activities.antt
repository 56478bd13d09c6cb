-- One call of the C function of an activity.
use Rattle.std.specs.Prelude.{◌≡◌, ℕ, ◌+◌, ◌<◌, true, List, is_some, Contains, Some, slice_get}
use Rattle.bl_tree.specs.declared.place.Place.{Place}
use Rattle.bl_tree.specs.declared.tree.StructDef.{StructDef}
use Rattle.bl_tree.specs.declared.tree.Unit.{Unit as UnitDef}
use Rattle.bl_graph_nodes.specs.Nodes.{Arguments, EnterAt, nodes_in}
use Rattle.bl_graph_nodes.specs.Plain.{Label, plain_body}
use Rattle.bl_eval.specs.Values.{values_fit}
use Rattle.bl_ctext_semantics.specs.Meaning.{Meaning, Scope, function_c}
use Rattle.bl_ctext_semantics.specs.Memory.{Location, Memory}
use Rattle.bl_ctext_semantics.specs.Tables.{Table}
use Rattle.bl_ctree.specs.Instances.{Setting, callee_of, setting_of, unit_at}
use Rattle.bl_ctree.specs.Store.{Store, view_at}
use Rattle.bl_ctree_laws_typing.specs.Fits.{StoreFits}
use Rattle.bl_emit_acts.specs.Types.{unit_name}
use Rattle.bl_emit_acts_laws_simulation.specs.Frames.{lent_at, remembered_at}
use Rattle.bl_emit_functions_laws_simulation.specs.Units.{AllAgree, FunctionsSimulate}
use Rattle.bl_emit_spec.specs.Activities.{activity_function, remembers_any}
use Rattle.bl_emit_spec.specs.Blocks.{unit_may_end}
use Rattle.bl_emit_spec_laws.specs.Registers.Registers.{frame_at, over_at}
use Rattle.bl_machine.specs.declared.machine.Activity.{Activity as InMachine}
use Rattle.bl_machine_pass_laws_execution.specs.Frames.{Frames}
use Rattle.bl_emit_spec_laws.specs.Calls.Built.{Activities, activity_at, site_at}
use Rattle.bl_emit_spec_laws.specs.Calls.Calls.{ActivitySimulates, CallAddresses, CallBegins, MayGive}
use Rattle.bl_emit_spec_laws.specs.Calls.Laws.{ActivitiesSimulate, CompilationContext, FunctionsBegin, PassesSimulate, scope_in}
use Rattle.bl_emit_spec_laws.specs.Calls.Invariant.{result_at_c}

-- ---- pointers

-- the pointers of the called function lead to the places that it was given
pub record PointersLead (w : Setting) (activities : Activities) (i : ℕ) (unit : UnitDef) (scope : Scope) (given : CallAddresses) : Type 0 where
  pub frame : frame_at scope ≡ given.frame
  pub over : unit_may_end unit ≡ true → over_at scope ≡ given.over
  pub memory : remembers_any (activity_at w activities i) ≡ true → remembered_at scope ≡ given.memory
  pub result : is_some unit.result ≡ true → result_at_c scope ≡ given.result
  pub outputs : (k : ℕ) (place : Location) → slice_get given.outputs k ≡ Some place → lent_at scope (site_at w activities i).vars (unit.inputs + k) ≡ place

-- the pointers of the called function lead to the places that it was given, in each call
abbrev pub PointersAreGiven : List StructDef → List UnitDef → ℕ → List InMachine → Activities → Type 0
PointersAreGiven structs units entry machine activities =
    let w = setting_of structs units entry in
    (i : ℕ) (unit : UnitDef) (known : Table Meaning) (depth : ℕ) (given : CallAddresses) (frames : Frames) (store : Store) (here : Memory) →
    CompilationContext structs units entry machine activities → unit_at w i ≡ Some unit →
    MayGive unit (remembers_any (activity_at w activities i)) depth given → CallBegins w activities i unit depth given frames store here →
    PointersLead w activities i unit (scope_in w activities i unit known depth given) given

-- ---- typed views

-- the values that the statements of an instance see in a typed store fit the types of the variables
abbrev pub ViewsFit : List StructDef → List UnitDef → ℕ → List InMachine → Activities → Type 0
ViewsFit structs units entry machine activities =
    let w = setting_of structs units entry in
    (i : ℕ) (unit : UnitDef) (store : Store) → CompilationContext structs units entry machine activities → unit_at w i ≡ Some unit → StoreFits w store →
    values_fit structs unit.vars (view_at w store i).now ≡ true

-- ---- what is remembered

-- an activity that runs one which remembers something remembers that
abbrev pub CalleesRemember : List StructDef → List UnitDef → ℕ → List InMachine → Activities → Type 0
CalleesRemember structs units entry machine activities =
    let w = setting_of structs units entry in
    (i j : ℕ) (unit : UnitDef) (l : Label) (at : Place) (arguments : Arguments) → CompilationContext structs units entry machine activities →
    unit_at w i ≡ Some unit → Contains (nodes_in (plain_body unit.body)) (EnterAt l at arguments) → callee_of w i at ≡ Some j →
    remembers_any (activity_at w activities j) ≡ true → remembers_any (activity_at w activities i) ≡ true

-- ---- calls

-- the table knows the C function of the activity at a position, which sees what another table knows
abbrev pub KnowsActivity : Activities → List UnitDef → ℕ → Table Meaning → Table Meaning → Type 0
KnowsActivity activities units u below known =
    (unit : UnitDef) → slice_get units u ≡ Some unit → known (unit_name unit.name) ≡ Some (function_c below (activity_function (activities u)))

-- the C function of an activity simulates the passes of its instances, where functions begin as passes do and their blocks simulate passes
abbrev pub CallsSimulate : Type 0
CallsSimulate =
    (structs : List StructDef) (units : List UnitDef) (entry : ℕ) (machine : List InMachine) (activities : Activities) →
    FunctionsBegin structs units entry machine activities → PointersAreGiven structs units entry machine activities →
    ViewsFit structs units entry machine activities → CalleesRemember structs units entry machine activities →
    PassesSimulate structs units entry machine activities → (u depth : ℕ) (known below : Table Meaning) →
    CompilationContext structs units entry machine activities → KnowsActivity activities units u below known →
    ((scope : Scope) → scope.known ≡ below → AllAgree structs units u scope) →
    ((v d : ℕ) → v < u → ActivitySimulates (setting_of structs units entry) activities v below d) →
    ActivitySimulates (setting_of structs units entry) activities u known depth

-- the C functions of all activities simulate the passes of their instances, where the C functions of the program's functions agree
abbrev pub AllActivitiesSimulate : Type 0
AllActivitiesSimulate =
    (structs : List StructDef) (units : List UnitDef) (entry : ℕ) (machine : List InMachine) (activities : Activities) →
    FunctionsSimulate structs units entry → FunctionsBegin structs units entry machine activities →
    PointersAreGiven structs units entry machine activities → ViewsFit structs units entry machine activities →
    CalleesRemember structs units entry machine activities → PassesSimulate structs units entry machine activities →
    ActivitiesSimulate structs units entry machine activities
