-- Own values of variables.
use Rattle.std.specs.Prelude.{ℕ, Option, option_and_then, option_map, slice_get, slice_set, unwrap_or}
use Rattle.bl_tree.specs.declared.value.Value.{Value}
use Rattle.bl_ctree.specs.Store.{Frame, Store, with_frame}

-- the value of a variable in its own instance
abbrev pub now_there : Store → ℕ → ℕ → Option Value
now_there store i k = option_and_then (λ frame. slice_get frame.now k) (slice_get store i)

-- the frame with another former value of one variable
abbrev pub with_before : ℕ → Value → Frame → Frame
with_before k value frame = record frame { before = slice_set frame.before k value }

-- the store with another value before for a variable, where one is given
abbrev pub with_value_before : ℕ → ℕ → Option Value → Store → Store
with_value_before i k value store = unwrap_or (option_map (λ value. with_frame i (with_before k value) store) value) store
