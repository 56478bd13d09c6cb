-- Calls of the C functions of activities: what they are given, and what they leave.
use Rattle.std.specs.Prelude.{◌≡◌, ◌⊎◌, ◌≤◌, ℕ, pos, ◌+◌, Bool, true, List, [], ◌∷◌, ◌++◌, drop, map, take, is_some, Some, None, if◌then◌else◌}
use Rattle.std.specs.List.{list_all}
use Rattle.bl_tree.specs.declared.tree.Unit.{Unit as UnitDef}
use Rattle.bl_tree.specs.declared.value.Value.{Value}
use Rattle.bl_tree.specs.Numbers.{number_of}
use Rattle.bl_tree.specs.Typing.{inputs_of, outputs_of}
use Rattle.bl_ctext_semantics.specs.Meaning.{ArgumentValue, CallResult, Meaning, applied, by_address}
use Rattle.bl_ctext_semantics.specs.Memory.{Location, Memory, scalar_number, value_at}
use Rattle.bl_ctext_semantics.specs.Tables.{Table}
use Rattle.bl_ctree.specs.Actions.{result_at}
use Rattle.bl_ctree.specs.Instances.{Setting, unit_at}
use Rattle.bl_ctree.specs.Store.{Store, number_or_zero, view_at}
use Rattle.bl_ctree_laws_typing.specs.Fits.{StoreFits}
use Rattle.bl_emit_acts.specs.Types.{unit_name}
use Rattle.bl_emit_acts_laws_simulation.specs.Acts.{OutputsEncoded, UnchangedOutside, all_apart, places_in_args}
use Rattle.bl_emit_acts_laws_simulation.specs.Encodes.{are_apart, is_live}
use Rattle.bl_emit_acts_laws_simulation.specs.Simulation.{ArgumentsEncoded}
use Rattle.bl_emit_spec.specs.Activities.{remembers_any}
use Rattle.bl_emit_spec.specs.Blocks.{greatest_value, unit_may_end}
use Rattle.bl_machine_pass.specs.Registers.{Registers, with_at}
use Rattle.bl_machine_pass_laws_execution.specs.Executes.{Executes, PassTraps, begun_registers, resumed_registers}
use Rattle.bl_machine_pass_laws_execution.specs.Frames.{Frames}
use Rattle.bl_emit_spec_laws.specs.Calls.Built.{Activities, activity_at, cleared, rank_by, slots_by, unit_number}
use Rattle.bl_emit_spec_laws.specs.Calls.Memories.{MemoryEncodes}

-- ---- what a call is given

-- the places that the function of an activity is given: of the counters, of what it remembers, of the outputs, of the result and of whether its body
-- has ended; and the inputs. Which of these places matter depends on the activity
pub record CallAddresses : Type 0 where
  pub frame : Location
  pub memory : Location
  pub inputs : List ArgumentValue
  pub outputs : List Location
  pub result : Location
  pub over : Location

-- a list of the one thing, where the test is true, else an empty one
abbrev pub where_true : {X : Type 0} → Bool → X → List X
where_true test x = if test then x ∷ [] else []

-- the arguments, in the order of parameters: an activity that remembers nothing has no place for that, one without a result none for that, and one that
-- never ends none for its end
abbrev pub passed_to : UnitDef → Bool → CallAddresses → List ArgumentValue
passed_to unit remembers given =
    by_address given.frame
    ∷ (where_true remembers (by_address given.memory)
    ++ ((given.inputs ++ map by_address given.outputs)
    ++ (where_true (is_some unit.result) (by_address given.result) ++ where_true (unit_may_end unit) (by_address given.over))))

-- the places that the call may write
abbrev pub written_by : UnitDef → Bool → CallAddresses → List Location
written_by unit remembers given =
    given.frame
    ∷ (where_true remembers given.memory
    ++ (given.outputs ++ (where_true (is_some unit.result) given.result ++ where_true (unit_may_end unit) given.over)))

-- a function at this depth may give these places: those that may be written are live, and apart from each other and from the inputs
pub record MayGive (unit : UnitDef) (remembers : Bool) (depth : ℕ) (given : CallAddresses) : Type 0 where
  pub apart : all_apart (written_by unit remembers given) ≡ true
  pub inputs_apart : list_all (λ place. list_all (are_apart place) (places_in_args given.inputs)) (written_by unit remembers given) ≡ true
  pub live : list_all (λ place. is_live depth place.root) (written_by unit remembers given) ≡ true

-- the values of the inputs of the instance's unit, and those of its outputs
abbrev pub input_values : Setting → Store → ℕ → UnitDef → List Value
input_values w store i unit = take unit.inputs (view_at w store i).now

abbrev pub output_values : Setting → Store → ℕ → UnitDef → List Value
output_values w store i unit = take unit.outputs (drop unit.inputs (view_at w store i).now)

-- no counter of an instance holds more than its greatest value
abbrev pub FramesWithin : Setting → Activities → Frames → Type 0
FramesWithin w activities frames = (i c : ℕ) → frames i c ≤ greatest_value (activity_at w activities i).sizes c

-- memory at the start of a call encodes where the instance rests, what it remembers, and its inputs and outputs. Where the body may end, memory tells that it
-- hasn't
pub record CallBegins (w : Setting) (activities : Activities) (i : ℕ) (unit : UnitDef) (depth : ℕ) (given : CallAddresses) (frames : Frames) (store : Store)
    (here : Memory) : Type 0 where
  pub memory : MemoryEncodes w activities i given.frame given.memory frames store here
  pub inputs : ArgumentsEncoded w.structs depth here (inputs_of unit) (input_values w store i unit) given.inputs
  pub outputs : OutputsEncoded w.structs here (outputs_of unit) (output_values w store i unit) given.outputs
  pub over : unit_may_end unit ≡ true → scalar_number (value_at here given.over) ≡ pos 0
  -- all values are of their types, and no counter holds more than its greatest value
  pub fits : StoreFits w store
  pub within : FramesWithin w activities frames

-- the registers with which a pass starts: the body begins where all counters of the instance hold 0, or goes on where the first one doesn't
abbrev pub PassStarts : Setting → Activities → ℕ → UnitDef → Frames → Registers → Type 0
PassStarts w activities i unit frames r =
    ((r ≡ begun_registers (rank_by w activities) i unit) × ((c : ℕ) → frames i c ≡ 0))
    ⊎ ((r ≡ resumed_registers frames i) × (frames i 0 ≡ 0 → ⊥))

-- ---- what a call leaves

-- memory after a call encodes what a pass by rules leaves, at the same places, and older memory is unchanged elsewhere. Whether the body has ended it tells
-- where that may be
pub record CallLeaves (w : Setting) (activities : Activities) (i : ℕ) (unit : UnitDef) (depth : ℕ) (given : CallAddresses) (frames : Frames) (left : Store)
    (r : Registers) (here : Memory) (called : CallResult) : Type 0 where
  pub returned : called.result ≡ Some (pos 0)
  pub memory : MemoryEncodes w activities i given.frame given.memory (with_at i r.counters frames) left called.memory
  pub outputs : OutputsEncoded w.structs called.memory (outputs_of unit) (output_values w left i unit) given.outputs
  pub over : unit_may_end unit ≡ true → scalar_number (value_at called.memory given.over) ≡ number_of r.over
  -- the result is there where the body has ended
  pub result : (value : Value) → r.over ≡ true → is_some unit.result ≡ true → result_at left i ≡ Some value →
      scalar_number (value_at called.memory given.result) ≡ number_or_zero value
  pub kept : UnchangedOutside depth (written_by unit (remembers_any (activity_at w activities i)) given) here called.memory

-- the C function of the activity at a position simulates the passes by rules of its instances, traps included, if a function at this depth calls it
pub record ActivitySimulates (w : Setting) (activities : Activities) (u : ℕ) (known : Table Meaning) (depth : ℕ) : Type 0 where
  pub executes : (i : ℕ) (unit : UnitDef) (given : CallAddresses) (frames : Frames) (store : Store) (r : Registers) (frames' : Frames) (left : Store)
      (r' : Registers) (here : Memory) → unit_number w i ≡ u → unit_at w i ≡ Some unit →
      let remembers = remembers_any (activity_at w activities i) in
      MayGive unit remembers depth given → CallBegins w activities i unit depth given frames store here → PassStarts w activities i unit frames r →
      Executes w (rank_by w activities) (slots_by w activities) (cleared w) i 0 frames store (view_at w store i).now r frames' left r' →
      CallLeaves w activities i unit depth given frames' left r' here
      (applied (known (unit_name unit.name)) (depth + 1) (passed_to unit remembers given) here)
  pub cut : (i : ℕ) (unit : UnitDef) (given : CallAddresses) (frames : Frames) (store : Store) (r : Registers) (here : Memory) →
      unit_number w i ≡ u → unit_at w i ≡ Some unit →
      let remembers = remembers_any (activity_at w activities i) in
      MayGive unit remembers depth given → CallBegins w activities i unit depth given frames store here → PassStarts w activities i unit frames r →
      PassTraps w (rank_by w activities) (slots_by w activities) (cleared w) i 0 frames store (view_at w store i).now r →
      (applied (known (unit_name unit.name)) (depth + 1) (passed_to unit remembers given) here).result ≡ None
