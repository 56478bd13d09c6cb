-- Stores in which every value is one of its variable's type.
use Rattle.std.specs.Prelude.{◌≡◌, ℕ, Bool, true, false, List, Option, Some, None, slice_get}
use Rattle.bl_tree.specs.declared.scalar.Scalar.{Scalar as ScalarType}
use Rattle.bl_tree.specs.declared.tree.StructDef.{StructDef}
use Rattle.bl_tree.specs.declared.tree.Unit.{Unit as UnitDef}
use Rattle.bl_tree.specs.declared.value.Value.{Value}
use Rattle.bl_tree.specs.Types.{scalar}
use Rattle.bl_eval.specs.Values.{value_fits, values_fit}
use Rattle.bl_ctree.specs.Instances.{Setting, unit_at}
use Rattle.bl_ctree.specs.Store.{Frame, Store}

-- whether a result is there where the unit has one, and is of its type
abbrev pub result_fits : List StructDef → Option ScalarType → Option Value → Bool
result_fits structs (Some s) (Some value) = value_fits structs (scalar s) value
result_fits structs None None = true
result_fits structs _ _ = false

-- a frame has well-typed values of the unit's variables, now and before, and of its result
pub record FrameFits (structs : List StructDef) (unit : UnitDef) (frame : Frame) : Type 0 where
  pub now : values_fit structs unit.vars frame.now ≡ true
  pub before : values_fit structs unit.vars frame.before ≡ true
  pub result : result_fits structs unit.result frame.result ≡ true

-- a frame that is there, and fits
pub record HasFrame (w : Setting) (store : Store) (i : ℕ) (unit : UnitDef) : Type 0 where
  pub frame : Frame
  pub is : slice_get store i ≡ Some frame
  pub fits : FrameFits w.structs unit frame

-- each instance has a frame, and all values in it are of their types
pub record StoreFits (w : Setting) (store : Store) : Type 0 where
  pub each : (i : ℕ) (unit : UnitDef) → unit_at w i ≡ Some unit → HasFrame w store i unit
