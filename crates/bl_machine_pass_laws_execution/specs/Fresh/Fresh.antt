-- Frames of instances that haven't been passed in this tick: what a variable is now it was before.
use Rattle.std.specs.Prelude.{◌≡◌, ◌≤◌, ◌+◌, ◌-◌, ℕ, List, length, slice_get, Some}
use Rattle.std.specs.List.{range_with_len}
use Rattle.bl_tree.specs.declared.tree.Unit.{Unit as UnitDef}
use Rattle.bl_ctree.specs.Instances.{Setting, unit_at}
use Rattle.bl_ctree.specs.Store.{Frame, Store}

-- how many parameters a unit has
abbrev pub arity : UnitDef → ℕ
arity unit = unit.inputs + unit.outputs

-- the variables that the body of a unit declares: those behind its parameters
abbrev pub locals : UnitDef → List ℕ
locals unit = range_with_len (arity unit) (length unit.vars - arity unit)

-- each variable behind the parameters of the instance is now what it was before
pub record Fresh (w : Setting) (store : Store) (j : ℕ) : Type 0 where
  pub same : (frame : Frame) (unit : UnitDef) (x : ℕ) → slice_get store j ≡ Some frame → unit_at w j ≡ Some unit → arity unit ≤ x →
      slice_get frame.before x ≡ slice_get frame.now x

-- each frame has a value for each variable of its unit, now and before
pub record Framed (w : Setting) (store : Store) : Type 0 where
  pub now : (j : ℕ) (frame : Frame) (unit : UnitDef) → slice_get store j ≡ Some frame → unit_at w j ≡ Some unit →
      length frame.now ≡ length unit.vars
  pub before : (j : ℕ) (frame : Frame) (unit : UnitDef) → slice_get store j ≡ Some frame → unit_at w j ≡ Some unit →
      length frame.before ≡ length unit.vars
