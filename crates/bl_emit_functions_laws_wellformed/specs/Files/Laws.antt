-- The C functions of a program's functions, one behind the other: how long the chains of calls are that they head.
use Rattle.std.specs.Prelude.{◌≡◌, ℕ, ◌≤◌, List, [], take, Some, None, slice_get}
use Rattle.bl_tree.specs.declared.scalar.Scalar.{Scalar as ScalarType}
use Rattle.bl_tree.specs.declared.text.Text.{Text}
use Rattle.bl_tree.specs.declared.tree.StructDef.{StructDef}
use Rattle.bl_tree.specs.declared.tree.Unit.{Unit as UnitDef}
use Rattle.bl_tree.specs.Program.{IsWellTyped}
use Rattle.bl_limits.specs.Rules.{Passes}
use Rattle.bl_limits_measures.specs.Units.{chain_at}
use Rattle.bl_ctext_semantics.specs.Faults.{depth_of_function}
use Rattle.bl_ctext_semantics.specs.Tables.{Table, entry_or, with_entry}
use Rattle.bl_emit_acts.specs.Expressions.{function_name}
use Rattle.bl_emit_acts.specs.Types.{unit_name}
use Rattle.bl_emit_functions.specs.Functions.{function_code}

-- the table bounds the chains of calls that C functions head. It has no prelude function, and a unit's function heads no longer chain than its unit
pub record ChainsKnown (units : List UnitDef) (depths : Table ℕ) : Type 0 where
  pub prelude : (word : Text) (s : ScalarType) → depths (function_name word s) ≡ None
  pub unnamed : depths (unit_name []) ≡ None
  pub of_units : (f : ℕ) (unit : UnitDef) → slice_get units f ≡ Some unit → entry_or 0 depths (unit_name unit.name) ≤ chain_at units f

-- the C function of a unit heads no longer chain of calls than the unit does
abbrev pub ChainsFollow : List StructDef → List UnitDef → Type 0
ChainsFollow structs units =
    (k : ℕ) (unit : UnitDef) (depths : Table ℕ) → slice_get units k ≡ Some unit → ChainsKnown units depths →
    depth_of_function depths (function_code structs (take k units) unit) ≤ chain_at units k

-- a table still knows the chains once the C function of a unit joins it
abbrev pub ChainsGrow : List StructDef → List UnitDef → ℕ → Type 0
ChainsGrow structs units entry =
    (k : ℕ) (unit : UnitDef) (depths : Table ℕ) → IsWellTyped structs units entry → slice_get units k ≡ Some unit → ChainsKnown units depths →
    ChainsKnown units (with_entry depths (unit_name unit.name) (depth_of_function depths (function_code structs (take k units) unit)))

-- the C function of a unit heads no chain of more than 100 functions, where rule Frames holds
abbrev pub ChainsShort : List StructDef → List UnitDef → ℕ → Type 0
ChainsShort structs units entry =
    (k : ℕ) (unit : UnitDef) (depths : Table ℕ) → Passes structs units entry → slice_get units k ≡ Some unit → ChainsKnown units depths →
    depth_of_function depths (function_code structs (take k units) unit) ≤ 100
