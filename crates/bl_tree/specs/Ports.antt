-- The inputs and outputs of a unit as columns of rows, and rows that fit columns.
use Rattle.std.specs.Prelude.{ℤ, Bool, true, false, ◌&&◌, List, [], ◌∷◌, map, unwrap_or, IsTrue}
use Rattle.std.specs.List.{list_all}
use Rattle.bl_tree.specs.declared.row.Column.{Column}
use Rattle.bl_tree.specs.declared.scalar.Scalar.{Scalar as ScalarType}
use Rattle.bl_tree.specs.declared.scalar.Scalar.TheVariants.{Bool as OfBool, Int, Nat, Bits}
use Rattle.bl_tree.specs.declared.tree.Unit.{Unit as UnitDef}
use Rattle.bl_tree.specs.declared.tree.Var.{Var}
use Rattle.bl_tree.specs.Scalar.{in_range}
use Rattle.bl_tree.specs.Types.{scalar_in}
use Rattle.bl_tree.specs.Typing.{inputs_of, outputs_of}

-- the type of a column: a bits type has the numbers of the nat type of its width
abbrev pub column_type : ScalarType → ScalarType
column_type OfBool = OfBool
column_type (Int w) = Int w
column_type (Nat w) = Nat w
column_type (Bits w) = Nat w

-- the column of a scalar variable
abbrev pub column_of : Var → Column
column_of var = record { name = var.name; ty = column_type (unwrap_or (scalar_in var.ty) OfBool) }

-- the columns of variables, in order
abbrev pub columns_of : List Var → List Column
columns_of vars = map column_of vars

-- the columns of a unit's inputs
abbrev pub input_columns : UnitDef → List Column
input_columns unit = columns_of (inputs_of unit)

-- the columns of a unit's outputs, in order
abbrev pub output_columns : UnitDef → List Column
output_columns unit = columns_of (outputs_of unit)

-- ---- rows

-- the types of columns, in order
abbrev pub types_of : List Column → List ScalarType
types_of columns = map (λ column. column.ty) columns

-- whether the numbers are as many as the types, and each is in the range of its type
abbrev pub in_ranges : List ScalarType → List ℤ → Bool
in_ranges [] [] = true
in_ranges (t ∷ ts) (n ∷ ns) = in_range t n && in_ranges ts ns
in_ranges [] (n ∷ ns) = false
in_ranges (t ∷ ts) [] = false

-- whether a row has one number for each column, in the range of its type
abbrev pub row_fits : List Column → List ℤ → Bool
row_fits columns row = in_ranges (types_of columns) row

-- every row fits
abbrev pub RowsFit : List Column → List (List ℤ) → Type 0
RowsFit columns rows = IsTrue (list_all (row_fits columns) rows)
