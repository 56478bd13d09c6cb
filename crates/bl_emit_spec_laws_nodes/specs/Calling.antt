-- What the call that a `run` makes is given, and what it leaves.
use Rattle.std.specs.Prelude.{◌≡◌, ℕ, pos, ◌+◌, ◌<◌, Bool, true, false, List, Contains, is_some, map, None, Some, slice_get}
use Rattle.bl_tree.specs.declared.place.Place.{Place}
use Rattle.bl_tree.specs.declared.tree.Path.{Path}
use Rattle.bl_tree.specs.declared.tree.StructDef.{StructDef}
use Rattle.bl_tree.specs.declared.tree.Unit.{Unit as UnitDef}
use Rattle.bl_tree.specs.declared.tree.Var.{Var}
use Rattle.bl_tree.specs.declared.value.Value.{Value}
use Rattle.bl_tree.specs.Numbers.{number_of}
use Rattle.bl_tree.specs.Reduce.{all_of}
use Rattle.bl_tree.specs.Static.{static_of}
use Rattle.bl_tree.specs.Typing.{TypingContext, is_activity, var_at}
use Rattle.bl_graph_nodes.specs.Nodes.{Arguments, EnterAt, nodes_in}
use Rattle.bl_graph_nodes.specs.Plain.{Label, plain_body}
use Rattle.bl_ctext_semantics.specs.Meaning.{ArgumentValue, CallResult, Scope, applied, call_c, later_call, named_location}
use Rattle.bl_ctext_semantics.specs.Memory.{Location, Memory, scalar_number, value_at}
use Rattle.bl_ctree.specs.Actions.{Copies, Gives, result_at}
use Rattle.bl_ctree.specs.Instances.{Setting, callee_of, setting_of, unit_at}
use Rattle.bl_ctree.specs.Store.{Store, number_or_zero, view_at}
use Rattle.bl_ctree_laws_typing.specs.Fits.{StoreFits}
use Rattle.bl_ctree_laws.specs.Ends.{done_by}
use Rattle.bl_ctree_laws.specs.Pending.{deed}
use Rattle.bl_eval.specs.Values.{put_at}
use Rattle.bl_emit_acts.specs.declared.home.Home.TheVariants.{Held}
use Rattle.bl_emit_acts.specs.Acts.{is_copied, name_of_callee}
use Rattle.bl_emit_acts.specs.Trees.{c_call}
use Rattle.bl_emit_acts.specs.Types.{unit_name}
use Rattle.bl_emit_acts_laws_simulation.specs.Encodes.{copied_in, copied_in_path, home_at, location_in, way_to}
use Rattle.bl_emit_spec.specs.Activities.{activity_view, copies_of, remembers_any}
use Rattle.bl_emit_spec.specs.Blocks.{run_args, unit_may_end}
use Rattle.bl_emit_spec.specs.Names.{NumberedWord, ended_name, given_name}
use Rattle.bl_emit_spec_laws.specs.Registers.Registers.{frame_at}
use Rattle.bl_emit_acts_laws_simulation.specs.Frames.{remembered_at}
use Rattle.bl_machine.specs.declared.machine.Activity.{Activity as InMachine}
use Rattle.bl_machine_laws.specs.Passes.Follows.{DeedYields}
use Rattle.bl_machine_pass.specs.Registers.{Registers, with_at}
use Rattle.bl_machine_pass_laws_execution.specs.Executes.{CopiesMatch, Executes, IsPoint}
use Rattle.bl_machine_pass_laws_execution.specs.Frames.{Frames}
use Rattle.bl_emit_spec_laws.specs.Calls.Built.{Activities, activity_at, cleared, rank_by, run_by, site_at, slots_by, unit_number}
use Rattle.bl_emit_spec_laws.specs.Calls.Calls.{CallAddresses, CallBegins, CallLeaves, MayGive, PassStarts, passed_to}
use Rattle.bl_emit_spec_laws.specs.Calls.Laws.{BlocksSimulate, CompilationContext, Midway, PassKeepsFrame, StartsSimulate}
use Rattle.bl_emit_spec_laws.specs.Calls.Memories.{Nests, inner}
use Rattle.bl_emit_spec_laws.specs.Calls.Invariant.{PassRepresents}
use Rattle.bl_emit_spec_laws_nodes.specs.Points.Points.{PointsStand}

-- ---- runs

-- a `run` of an instance, by the node at which it begins; the instance j that it calls, which is one of the unit `other`
pub record RunOf (w : Setting) (activities : Activities) (i : ℕ) (unit : UnitDef) (l : Label) (at : Place) (arguments : Arguments) (j : ℕ)
    (other : UnitDef) : Type 0 where
  pub node : Contains (nodes_in (plain_body unit.body)) (EnterAt l at arguments)
  pub callee : callee_of w i at ≡ Some j
  pub is_there : unit_at w j ≡ Some other
  pub active : is_activity other.kind ≡ true
  -- the called unit stands before the caller's
  pub earlier : unit_number w j < unit_number w i

-- what is asked of the arguments of each `run`: what they name under a `prev` is copied
pub record RunsStand (units : List UnitDef) : Type 0 where
  pub inputs : (k : ℕ) (unit : UnitDef) (l : Label) (at : Place) (arguments : Arguments) → slice_get units k ≡ Some unit →
      Contains (nodes_in (plain_body unit.body)) (EnterAt l at arguments) →
      all_of (map (copied_in (is_copied (copies_of unit))) arguments.inputs) ≡ true
  pub outputs : (k : ℕ) (unit : UnitDef) (l : Label) (at : Place) (arguments : Arguments) → slice_get units k ≡ Some unit →
      Contains (nodes_in (plain_body unit.body)) (EnterAt l at arguments) →
      all_of (map (copied_in_path (is_copied (copies_of unit))) arguments.outputs) ≡ true

-- ---- what the call is given

-- the places that a `run` with this number and word gives in its function, with these inputs, and these places of outputs
abbrev pub given_by : Scope → NumberedWord → List ArgumentValue → List Location → CallAddresses
given_by scope n inputs outputs = record {
  frame = inner (frame_at scope) n;
  memory = inner (remembered_at scope) n;
  inputs = inputs;
  outputs = outputs;
  result = named_location scope false (given_name n);
  over = named_location scope false ended_name;
}

-- the place is that of the part of a variable to which a path of names leads
pub record PlaceLeads (site : TypingContext) (scope : Scope) (path : Path) (place : Location) : Type 0 where
  pub var : Var
  pub is_there : var_at site (static_of path).root ≡ Some var
  pub is : place ≡ location_in scope site (static_of path).root (way_to site.structs (static_of path).fields (Some var.ty))

-- what a call of the callee's function does that is given these inputs and these places of outputs
abbrev pub call_given : Setting → Activities → ℕ → UnitDef → Scope → NumberedWord → List ArgumentValue → List Location → Memory → CallResult
call_given w activities j other scope n inputs outputs here =
    applied (scope.known (unit_name other.name)) (scope.depth + 1)
    (passed_to other (remembers_any (activity_at w activities j)) (given_by scope n inputs outputs)) here

-- the call that is written for a `run`
abbrev pub call_written : Setting → Activities → ℕ → NumberedWord → ℕ → Arguments → Scope → Memory → CallResult
call_written w activities i n u arguments scope here =
    let view = activity_view (activity_at w activities i) in
    call_c (c_call (name_of_callee (slice_get view.site.earlier u)) (run_args view n u arguments)) scope here

-- memory at the call of a `run` represents what a pass of the callee begins with. The places that it hands over are apart, and outputs are where their paths
-- lead
pub record RunEstablishes (w : Setting) (activities : Activities) (i : ℕ) (scope : Scope) (n : NumberedWord) (arguments : Arguments) (j : ℕ) (other : UnitDef)
    (frames : Frames) (given : Store) (here : Memory) : Type 0 where
  pub inputs : List ArgumentValue
  pub outputs : List Location
  pub count : ℕ
  pub called : call_written w activities i n (unit_number w j) arguments scope here
      ≡ later_call count (call_given w activities j other scope n inputs outputs here)
  pub leads : (k : ℕ) (path : Path) (place : Location) → slice_get arguments.outputs k ≡ Some path → slice_get outputs k ≡ Some place →
      PlaceLeads (site_at w activities i) scope path place
  pub may : MayGive other (remembers_any (activity_at w activities j)) scope.depth (given_by scope n inputs outputs)
  pub begins : CallBegins w activities j other scope.depth (given_by scope n inputs outputs) frames given here

-- the local that tells whether what was called last has ended is false, where the unit that is called may end
abbrev pub NotEnded : UnitDef → Scope → Memory → Type 0
NotEnded other scope here = unit_may_end other ≡ true → scalar_number (value_at here (named_location scope false ended_name)) ≡ pos 0

-- the call of each `run` establishes what a pass of the callee begins with, and traps where its inputs do
pub record RunsEstablish (structs : List StructDef) (units : List UnitDef) (entry : ℕ) (machine : List InMachine) (activities : Activities) : Type 0 where
  pub gives : (i : ℕ) (unit : UnitDef) (scope : Scope) (frames : Frames) (store : Store) (copies : List Value) (r : Registers) (here : Memory)
      (l : Label) (at : Place) (arguments : Arguments) (j : ℕ) (other : UnitDef) (given : Store) → let w = setting_of structs units entry in
      Midway structs units entry machine activities i unit scope frames store copies r here → RunOf w activities i unit l at arguments j other →
      NotEnded other scope here → CopiesMatch w i (EnterAt l at arguments) store copies →
      DeedYields w (deed i at (Copies j arguments.inputs)) store true given →
      RunEstablishes w activities i scope (run_by w activities i at) arguments j other frames given here
  pub stops : (i : ℕ) (unit : UnitDef) (scope : Scope) (frames : Frames) (store : Store) (copies : List Value) (r : Registers) (here : Memory)
      (l : Label) (at : Place) (arguments : Arguments) (j : ℕ) (other : UnitDef) → let w = setting_of structs units entry in
      Midway structs units entry machine activities i unit scope frames store copies r here → RunOf w activities i unit l at arguments j other →
      CopiesMatch w i (EnterAt l at arguments) store copies → done_by w (deed i at (Copies j arguments.inputs)) store ≡ None →
      (call_written w activities i (run_by w activities i at) (unit_number w j) arguments scope here).result ≡ None

-- ---- what it leaves

-- memory after the call of a `run` represents what the callee's pass leaves, whether its body has ended, where that may be, and its result
pub record RunLeaves (w : Setting) (activities : Activities) (i : ℕ) (unit : UnitDef) (scope : Scope) (n : NumberedWord) (j : ℕ) (other : UnitDef)
    (frames : Frames) (left : Store) (copies : List Value) (r : Registers) (ended : Bool) (here after : Memory) : Type 0 where
  pub stands : PassRepresents w activities i unit scope frames left copies r after
  pub kept : PassKeepsFrame (site_at w activities i) unit (remembers_any (activity_at w activities i)) scope here after
  pub over : unit_may_end other ≡ true → scalar_number (value_at after (named_location scope false ended_name)) ≡ number_of ended
  pub result : (value : Value) → ended ≡ true → is_some other.result ≡ true → result_at left j ≡ Some value →
      scalar_number (value_at after (named_location scope false (given_name n))) ≡ number_or_zero value

-- the call of each `run` leaves memory that represents what the callee's pass leaves
abbrev pub RunsLeave : List StructDef → List UnitDef → ℕ → List InMachine → Activities → Type 0
RunsLeave structs units entry machine activities =
    (i : ℕ) (unit : UnitDef) (scope : Scope) (frames : Frames) (store : Store) (copies : List Value) (r : Registers) (here : Memory) (l : Label)
    (at : Place) (arguments : Arguments) (j : ℕ) (other : UnitDef) (given : Store) (begun : Registers) (frames' : Frames) (left : Store)
    (r' : Registers) → let w = setting_of structs units entry in
    let n = run_by w activities i at in
    Midway structs units entry machine activities i unit scope frames store copies r here → RunOf w activities i unit l at arguments j other →
    DeedYields w (deed i at (Copies j arguments.inputs)) store true given →
    (gives : RunEstablishes w activities i scope n arguments j other frames given here) → PassStarts w activities j other frames begun →
    Executes w (rank_by w activities) (slots_by w activities) (cleared w) j 0 frames given (view_at w given j).now begun frames' left r' →
    CallLeaves w activities j other scope.depth (given_by scope n gives.inputs gives.outputs) frames' left r' here
    (call_given w activities j other scope n gives.inputs gives.outputs here) →
    RunLeaves w activities i unit scope n j other (with_at j r'.counters frames') left copies r r'.over here
    (call_given w activities j other scope n gives.inputs gives.outputs here).memory

-- ---- targets

-- a target of a `run` of the instance i gets the result of the instance j, which is this value
pub record TargetGiven (w : Setting) (i j : ℕ) (path : Path) (value : Value) (store left : Store) : Type 0 where
  pub unit : UnitDef
  pub is_there : unit_at w i ≡ Some unit
  pub label : Label
  pub at : Place
  pub arguments : Arguments
  pub node : Contains (nodes_in (plain_body unit.body)) (EnterAt label at arguments)
  pub target : arguments.target ≡ Some path
  pub callee : callee_of w i at ≡ Some j
  pub fitting : StoreFits w store
  pub result : result_at store j ≡ Some value
  pub done : DeedYields w (deed i at (Gives j (Some path))) store true left

-- an instance sees the value at the target of its `run`, and all else as before. Variables inside its callees and its own result are unchanged
pub record TargetsSeen (w : Setting) (activities : Activities) : Type 0 where
  pub own : (i j : ℕ) (path : Path) (value : Value) (store left : Store) → TargetGiven w i j path value store left →
      put_at (static_of path).root (static_of path).fields value (view_at w store i).now ≡ Some (view_at w left i).now
  pub inner : (i j : ℕ) (path : Path) (value : Value) (store left : Store) → TargetGiven w i j path value store left → (at : Place) (c k : ℕ)
      (f m f' m' : Location) (x : ℕ) (var : Var) → callee_of w i at ≡ Some c → Nests w activities c f m k f' m' →
      var_at (site_at w activities k) x ≡ Some var → home_at (site_at w activities k) x ≡ Held →
      slice_get (view_at w left k).now x ≡ slice_get (view_at w store k).now x
  pub result : (i j : ℕ) (path : Path) (value : Value) (store left : Store) → TargetGiven w i j path value store left →
      result_at left i ≡ result_at store i

-- ---- the blocks

-- the blocks of `run`s simulate them, also where a start leaves its call to the next block
abbrev pub RunsSimulate : List StructDef → List UnitDef → ℕ → Type 0
RunsSimulate structs units entry =
    (machine : List InMachine) (activities : Activities) → RunsEstablish structs units entry machine activities →
    RunsLeave structs units entry machine activities → TargetsSeen (setting_of structs units entry) activities →
    (CompilationContext structs units entry machine activities → PointsStand structs units entry activities) →
    BlocksSimulate structs units entry machine activities (λ n. IsPoint n → ⊥) × StartsSimulate structs units entry machine activities
