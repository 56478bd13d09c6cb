-- The numbers in the names of a C function, by the cells of its unit.
use Rattle.std.specs.Prelude.{◌≡◌, ℕ, ◌+◌, ◌^◌, ◌≤◌, true, List, length, take, Some, slice_get}
use Rattle.bl_tree.specs.declared.tree.StructDef.{StructDef}
use Rattle.bl_tree.specs.declared.tree.Ty.{Ty}
use Rattle.bl_tree.specs.declared.tree.Unit.{Unit as UnitDef}
use Rattle.bl_tree.specs.Program.{IsWellTyped}
use Rattle.bl_tree.specs.Types.{type_stands}
use Rattle.bl_tree.specs.Typing.{site_of}
use Rattle.bl_limits_measures.specs.Statements.{cell_statements_of}
use Rattle.bl_limits_measures.specs.Types.{size}
use Rattle.bl_limits_measures.specs.Units.{cells_at, variables_of}
use Rattle.bl_emit_functions.specs.Functions.{body_coded}
use Rattle.bl_emit_functions_laws_wellformed.specs.Formed.{IsNumbered}

-- a value of a type of a typed program has a scalar
abbrev pub TypesHaveScalars : List StructDef → List UnitDef → ℕ → Type 0
TypesHaveScalars structs units entry = (ty : Ty) → IsWellTyped structs units entry → type_stands (length structs) ty ≡ true → 1 ≤ size structs ty

-- a unit has no more variables than scalars in them, and its C no more flags and turns than statements
pub record IsCounted (structs : List StructDef) (earlier : List UnitDef) (unit : UnitDef) : Type 0 where
  pub variables : length unit.vars ≤ variables_of structs unit
  pub numbers : (body_coded (site_of structs earlier unit) unit).free.flags + (body_coded (site_of structs earlier unit) unit).free.turns
      ≤ cell_statements_of unit

-- each unit of a typed program has at most as many variables as scalars, and as many flags and turns as statements
abbrev pub UnitsCounted : List StructDef → List UnitDef → ℕ → Type 0
UnitsCounted structs units entry =
    (k : ℕ) (unit : UnitDef) → IsWellTyped structs units entry → slice_get units k ≡ Some unit → IsCounted structs (take k units) unit

-- 64 bits hold the numbers in the names of a C function where they hold the counts of its unit's scalars and statements
abbrev pub CountsNumber : List StructDef → List UnitDef → ℕ → Type 0
CountsNumber structs units entry =
    (k : ℕ) (unit : UnitDef) → IsWellTyped structs units entry → slice_get units k ≡ Some unit → variables_of structs unit ≤ 2 ^ 64 →
    cell_statements_of unit ≤ 2 ^ 64 → IsNumbered structs (take k units) unit

-- 64 bits hold the numbers in the names of a C function where they hold the cells of its unit
abbrev pub CellsNumber : List StructDef → List UnitDef → ℕ → Type 0
CellsNumber structs units entry =
    (k : ℕ) (unit : UnitDef) → IsWellTyped structs units entry → slice_get units k ≡ Some unit → cells_at structs units k ≤ 2 ^ 64 →
    IsNumbered structs (take k units) unit
