-- How many cells the C structs of a program's types, and the C functions of its functions, need: no more than rule Cells counts for them.
use Rattle.std.specs.Prelude.{◌≡◌, ℕ, ◌≤◌, true, false, List, [], length, take, Some, None, slice_get, bytes_eq, Contains}
use Rattle.bl_tree.specs.declared.c.CStruct.{CStruct}
use Rattle.bl_tree.specs.declared.scalar.Scalar.{Scalar as ScalarType}
use Rattle.bl_tree.specs.declared.text.Text.{Text}
use Rattle.bl_tree.specs.declared.tree.StructDef.{StructDef}
use Rattle.bl_tree.specs.declared.tree.Ty.{Ty}
use Rattle.bl_tree.specs.declared.tree.Unit.{Unit as UnitDef}
use Rattle.bl_tree.specs.Program.{IsWellTyped}
use Rattle.bl_tree.specs.Types.{type_stands}
use Rattle.bl_tree.specs.Typing.{is_activity, is_function}
use Rattle.bl_limits_measures.specs.Types.{size}
use Rattle.bl_limits_measures.specs.Units.{cells_at, variables_of}
use Rattle.bl_ctext_semantics.specs.Sizes.{Sizes, chain_cells, size_of_struct, size_of_type}
use Rattle.bl_ctext_semantics.specs.Tables.{Table, entry_or, no_entries, with_entry}
use Rattle.bl_emit_acts.specs.Expressions.{function_name}
use Rattle.bl_emit_acts.specs.Types.{c_type, type_name, unit_name}
use Rattle.bl_emit_structs.specs.Structs.{structs_for}
use Rattle.bl_emit_structs_laws_wellformed.specs.Formed.{NestsAtMost}
use Rattle.bl_emit_functions.specs.Functions.{function_code, memory_name, memory_struct}

-- A table of how many scalars each C struct has: of a type's it tells no more than a value of the type has, and of that of a function's variables
-- no more than they have together
pub record SizesKnown (structs : List StructDef) (units : List UnitDef) (known : Sizes) : Type 0 where
  pub types : (ty : Ty) → type_stands (length structs) ty ≡ true → size_of_type known (c_type structs ty) ≤ size structs ty
  pub memories : (k : ℕ) (unit : UnitDef) → slice_get units k ≡ Some unit → is_function unit.kind ≡ true →
      entry_or 0 known (memory_name unit.name) ≤ variables_of structs unit

-- a name that is neither that of a type's struct nor that of the struct of a function's variables
pub record NamesNone (structs : List StructDef) (units : List UnitDef) (name : Text) : Type 0 where
  pub types : (ty : Ty) → bytes_eq name (type_name structs ty) ≡ false
  pub memories : (k : ℕ) (unit : UnitDef) → slice_get units k ≡ Some unit → is_function unit.kind ≡ true →
      bytes_eq name (memory_name unit.name) ≡ false

-- a table tells no more once another struct joins it: one of a type, that of a function's variables, or one of another name
pub record SizesGrow (structs : List StructDef) (units : List UnitDef) : Type 0 where
  pub nothing : SizesKnown structs units no_entries
  pub type : (known : Sizes) (s : CStruct) → SizesKnown structs units known → Contains (structs_for structs units) s →
      SizesKnown structs units (with_entry known s.name (size_of_struct known s))
  pub memory : (known : Sizes) (k : ℕ) (unit : UnitDef) (s : CStruct) → SizesKnown structs units known → slice_get units k ≡ Some unit →
      Contains (memory_struct structs (take k units) unit) s → SizesKnown structs units (with_entry known s.name (size_of_struct known s))
  pub other : (known : Sizes) (name : Text) (n : ℕ) → SizesKnown structs units known → NamesNone structs units name →
      SizesKnown structs units (with_entry known name n)

-- a table of sizes stays within bounds as structs join it, in every typed program
abbrev pub SizesStand : List StructDef → List UnitDef → ℕ → Type 0
SizesStand structs units entry = (most : ℕ) → IsWellTyped structs units entry → NestsAtMost most structs units → SizesGrow structs units

-- a table of the cells of the deepest chain that each C function heads: it has none for a function of the prelude, and of the function of a unit no
-- more cells than the unit has
pub record CellsKnown (structs : List StructDef) (units : List UnitDef) (chains : Table ℕ) : Type 0 where
  pub prelude : (word : Text) (s : ScalarType) → chains (function_name word s) ≡ None
  pub unnamed : chains (unit_name []) ≡ None
  pub of_units : (f : ℕ) (unit : UnitDef) → slice_get units f ≡ Some unit →
      entry_or 0 chains (unit_name unit.name) ≤ cells_at structs units f

-- the deepest chain that the C function of a function heads has no more cells than the function
abbrev pub CellsFollow : List StructDef → List UnitDef → ℕ → Type 0
CellsFollow structs units entry =
    (k : ℕ) (unit : UnitDef) (known : Sizes) (chains : Table ℕ) → IsWellTyped structs units entry → slice_get units k ≡ Some unit →
    is_activity unit.kind ≡ false → SizesKnown structs units known → CellsKnown structs units chains →
    chain_cells known chains (function_code structs (take k units) unit) ≤ cells_at structs units k

-- a table still tells no more once the C function of a function joins it
abbrev pub CellsGrow : List StructDef → List UnitDef → ℕ → Type 0
CellsGrow structs units entry =
    (k : ℕ) (unit : UnitDef) (n : ℕ) (chains : Table ℕ) → IsWellTyped structs units entry → slice_get units k ≡ Some unit →
    CellsKnown structs units chains → n ≤ cells_at structs units k → CellsKnown structs units (with_entry chains (unit_name unit.name) n)
