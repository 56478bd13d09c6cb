-- The store: the values of every instance's variables, now and at the end of the previous tick.
use Rattle.std.specs.Prelude.{ℕ, zero, suc, ◌+◌, ◌-◌, ℤ, pos, Bool, ◌&&◌, nat_eq, nat_lt, nat_le, List, [], ◌∷◌, ◌++◌, map, take, drop, length, slice_get}
use Rattle.std.specs.Prelude.{slice_set, Option, None, option_map, option_and_then, unwrap_or, if◌then◌else◌}
use Rattle.std.specs.List.{range_with_len}
use Rattle.bl_tree.specs.declared.scalar.Scalar.{Scalar as ScalarType}
use Rattle.bl_tree.specs.declared.tree.StructDef.{StructDef}
use Rattle.bl_tree.specs.declared.tree.Unit.{Unit as UnitDef}
use Rattle.bl_tree.specs.declared.tree.Var.{Var}
use Rattle.bl_tree.specs.declared.value.Value.{Value}
use Rattle.bl_tree.specs.declared.value.Value.TheVariants.{Number, Parts}
use Rattle.bl_eval.specs.Meaning.{View}
use Rattle.bl_eval.specs.Values.{number_in, put_at, value_at, zero_of}
use Rattle.bl_tree.specs.declared.static_path.Static.{Static}
use Rattle.bl_tree.specs.Static.{overlaps, whole}
use Rattle.bl_ctree.specs.declared.instance.Instance.{Instance}
use Rattle.bl_ctree.specs.declared.instance.Origin.{Origin}
use Rattle.bl_ctree.specs.Instances.{Setting, unit_at, unit_of}

-- the values of one instance: of its variables now and before, and of its result, where its activity has one
pub record Frame : Type 0 where
  pub now : List Value
  pub before : List Value
  pub result : Option Value

-- the frames of all instances, in order
abbrev pub Store : Type 0
Store = List Frame

-- ---- homes

-- a static path of an instance
pub record Location : Type 0 where
  pub instance : ℕ
  pub path : Static

-- the whole variable with number k of the instance i
abbrev pub whole_of : ℕ → ℕ → Location
whole_of i k = record { instance = i; path = whole k }

-- where the fields of a path lead on from the caller's path for which it stands
abbrev pub under : ℕ → List ℕ → Static → Location
under caller fields path = record { instance = caller; path = record { root = path.root; fields = path.fields ++ fields } }

-- whether the variable is an output of the unit
abbrev pub is_output_of : UnitDef → ℕ → Bool
is_output_of unit k = nat_le unit.inputs k && nat_lt k (unit.inputs + unit.outputs)

-- the caller's path for which a path of a unit stands: none where its variable isn't an output
abbrev pub led_by : Static → Origin → UnitDef → Option Location
led_by path origin unit =
    if is_output_of unit path.root
    then option_map (under origin.caller path.fields) (slice_get origin.outputs (path.root - unit.inputs))
    else None

-- an output of a called instance stands for its caller's path; none for every other variable
abbrev pub led : Setting → Location → Option Location
led w at =
    option_and_then (λ instance. option_and_then (λ origin. option_and_then (led_by at.path origin) (unit_of w instance)) instance.origin)
    (slice_get w.instances at.instance)

-- where a location leads when it is followed through at most so many callers
abbrev pub home_within : Setting → ℕ → Location → Location
home_within w zero at = at
home_within w (suc depth) at = unwrap_or (option_map (home_within w depth) (led w at)) at

-- how many callers the instance has; 0 where there is no such instance
abbrev pub depth_at : Setting → ℕ → ℕ
depth_at w i = unwrap_or (option_map (λ instance. instance.depth) (slice_get w.instances i)) 0

-- where a static path leads, on to the outermost caller: an instance has as many callers as it is deep
abbrev pub home : Setting → Location → Location
home w at = home_within w (depth_at w at.instance) at

-- the homes of static paths of an instance
abbrev pub homes : Setting → ℕ → List Static → List Location
homes w i paths = map (λ path. home w (record { instance = i; path = path })) paths

-- whether two homes have something in common
abbrev pub overlap : Location → Location → Bool
overlap a b = nat_eq a.instance b.instance && overlaps a.path b.path

-- ---- reading

-- the value at a home, among the values that are asked for
abbrev pub value_among : (Frame → List Value) → Store → Location → Option Value
value_among values store at =
    option_and_then (λ frame. option_and_then (value_at at.path.fields) (slice_get (values frame) at.path.root)) (slice_get store at.instance)

-- a variable's value, wherever its home is; nothing fitting stands where no home is
abbrev pub variable_among : (Frame → List Value) → Setting → Store → ℕ → ℕ → Value
variable_among values w store i k = unwrap_or (value_among values store (home w (whole_of i k))) (Parts [])

-- the variables of the instance's unit; none where there is no such instance
abbrev pub vars_at : Setting → ℕ → List Var
vars_at w i = unwrap_or (option_map (λ unit. unit.vars) (unit_at w i)) []

-- the numbers of an instance's variables
abbrev pub variables_of : Setting → ℕ → List ℕ
variables_of w i = range_with_len 0 (length (vars_at w i))

-- what the statements of an instance see: a value for each variable, an output's being that of its home
abbrev pub view_at : Setting → Store → ℕ → View
view_at w store i =
    record {
      now = map (variable_among (λ frame. frame.now) w store i) (variables_of w i);
      before = map (variable_among (λ frame. frame.before) w store i) (variables_of w i);
    }

-- ---- writing

-- the store in which the frame at the location has this value there; none where the location isn't in the frame
abbrev pub with_now : Store → Location → Value → Frame → Option Store
with_now store at value frame =
    option_map (λ now. slice_set store at.instance (record frame { now = now })) (put_at at.path.root at.path.fields value frame.now)

-- the store with the value at a home
abbrev pub put : Location → Value → Store → Store
put at value store = unwrap_or (option_and_then (with_now store at value) (slice_get store at.instance)) store

-- the store with the value at a static path, among the given variables of an instance, put at the path's home
abbrev pub put_path : Setting → ℕ → List Value → Static → Store → Store
put_path w i variables path store =
    unwrap_or (option_map (λ value. put (home w (record { instance = i; path = path })) value store)
    (option_and_then (value_at path.fields) (slice_get variables path.root))) store

-- the store after an act: the values of the written static paths are put at their homes
abbrev pub put_written : Setting → ℕ → List Value → List Static → Store → Store
put_written w i variables [] store = store
put_written w i variables (path ∷ rest) store = put_written w i variables rest (put_path w i variables path store)

-- a change of one frame
abbrev pub with_frame : ℕ → (Frame → Frame) → Store → Store
with_frame i change store = unwrap_or (option_map (λ frame. slice_set store i (change frame)) (slice_get store i)) store

-- a declared variable had before what it has now
abbrev pub remember : ℕ → Frame → Frame
remember k frame = record frame { before = unwrap_or (option_map (slice_set frame.before k) (slice_get frame.now k)) frame.before }

-- the frame with the inputs as its first values
abbrev pub with_inputs : List Value → Frame → Frame
with_inputs inputs frame = record frame { now = inputs ++ drop (length inputs) frame.now }

-- ---- the start of a run, the start of a tick, and its outputs

-- the first value of each variable
abbrev pub zeros : List StructDef → List Var → List Value
zeros structs vars = map (λ var. zero_of structs var.ty) vars

-- the first result of an activity, where it has one: 0 or false
abbrev pub zero_result : Option ScalarType → Option Value
zero_result result = option_map (λ ty. Number (pos 0)) result

-- the frame of an instance of the unit before the first tick
abbrev pub first_frame : List StructDef → UnitDef → Frame
first_frame structs unit = record { now = zeros structs unit.vars; before = zeros structs unit.vars; result = zero_result unit.result }

-- the frame of an instance before the first tick; an empty one where its unit doesn't exist
abbrev pub frame_at_first : Setting → Instance → Frame
frame_at_first w instance =
    unwrap_or (option_map (first_frame w.structs) (unit_of w instance)) (record { now = []; before = []; result = None })

-- the store at the start of a run: 0 or false everywhere
abbrev pub first_store : Setting → Store
first_store w = map (frame_at_first w) w.instances

-- the frame as a tick begins: what is now becomes what was before
abbrev pub aged : Frame → Frame
aged frame = record frame { before = frame.now }

-- every value before becomes the value now, and the entry's inputs become the row
abbrev pub woken_store : List ℤ → Store → Store
woken_store row store = with_frame 0 (with_inputs (map Number row)) (map aged store)

-- the number of a value, and 0 for an array or a structure
abbrev pub number_or_zero : Value → ℤ
number_or_zero value = unwrap_or (number_in value) (pos 0)

-- the numbers of a unit's outputs, in order
abbrev pub outputs_of_frame : UnitDef → Frame → List ℤ
outputs_of_frame unit frame = map number_or_zero (take unit.outputs (drop unit.inputs frame.now))

-- the row of the entry's outputs
abbrev pub outputs_row : Setting → Store → List ℤ
outputs_row w store =
    unwrap_or (option_and_then (λ unit. option_map (outputs_of_frame unit) (slice_get store 0)) (unit_at w 0)) []
