-- Values of C types, and memories in which every place has a value of its type.
use Rattle.std.specs.Prelude.{◌≡◌, ℕ, ℤ, Bool, true, false, ◌&&◌, nat_lt, List, [], ◌∷◌, map, flat_map, Option, Some, None, option_and_then, codes}
use Rattle.std.specs.Prelude.{if◌then◌else◌}
use Rattle.std.specs.List.{list_all}
use Rattle.bl_tree.specs.declared.text.Text.{Text}
use Rattle.bl_tree.specs.declared.scalar.Scalar.{Scalar}
use Rattle.bl_tree.specs.declared.c.CType.{CType}
use Rattle.bl_tree.specs.declared.c.CType.TheVariants.{Scalar as OfScalar, Struct as OfStruct}
use Rattle.bl_tree.specs.declared.c.CMember.{CMember}
use Rattle.bl_tree.specs.declared.c.CStruct.{CStruct}
use Rattle.bl_tree.specs.Ports.{in_ranges}
use Rattle.bl_tree.specs.Scalar.{in_range}
use Rattle.bl_ctext.specs.declared.builtin.Builtin.{Builtin}
use Rattle.bl_ctext_semantics.specs.Builtin.{builtin_of, builtin_params, builtin_result, builtin_value}
use Rattle.bl_ctext_semantics.specs.Parts.{Parts}
use Rattle.bl_ctext_semantics.specs.Tables.{Table, no_entries, table_of}
use Rattle.bl_ctext_semantics.specs.Memory.{Projection, member, element, Root, state_object, input_object, output_object, Location, CValue, Memory}
use Rattle.bl_ctext_semantics.specs.Memory.{scalar_number}
use Rattle.bl_ctext_semantics.specs.Memory.{value_at, set_at, cleared}
use Rattle.bl_ctext_semantics.specs.Cells.{Inner, inner_of_type, inner_after, Cell, cells_of}
use Rattle.bl_ctext_semantics.specs.Faults.{WellFormed, struct_table}

-- ---- values

-- the scalars of each struct by name
abbrev pub scalars : List CStruct → Table (List Inner)
scalars structs = table_of (inner_after no_entries structs)

-- whether the number of a scalar inside a value is in the range of the scalar's type
abbrev pub holds : CValue → Inner → Bool
holds value cell = in_range cell.kind (value cell.parts)

-- whether a value is one of a type: each scalar in it has a number in its range
abbrev pub fits : Table (List Inner) → CType → CValue → Bool
fits known ty value = list_all (holds value) (inner_of_type known ty)

-- ---- parts of values

-- the end of a way into a value: a value of a type, or an array, of which an element must follow
pub data ValueSpot : Type 0 where
  whole : CType → ValueSpot
  row : ℕ → CType → ValueSpot

-- the spot of a value of the type, or of an array of them with this length
abbrev pub spot_of_length : CType → Option ℕ → ValueSpot
spot_of_length ty None = whole ty
spot_of_length ty (Some length) = row length ty

-- what a member is
abbrev pub spot_of : CMember → ValueSpot
spot_of m = spot_of_length m.ty m.length

-- what a member is, where there is one
abbrev pub spot_if : Option CMember → Option ValueSpot
spot_if None = None
spot_if (Some m) = Some (spot_of m)

-- one step further in, where the members of each struct are these
abbrev pub step_in : Table (Table CMember) → ValueSpot → Projection → Option ValueSpot
step_in structs (whole (OfStruct struct)) (member name) = spot_if (option_and_then (λ members. members name) (structs struct))
step_in structs (row length ty) (element k) = if nat_lt k length then Some (whole ty) else None
step_in structs (whole (OfStruct struct)) (element k) = None
step_in structs (whole (OfScalar kind)) part = None
step_in structs (row length ty) (member name) = None

-- step after step further in
abbrev pub walk : Table (Table CMember) → Option ValueSpot → List Projection → Option ValueSpot
walk structs spot [] = spot
walk structs None (part ∷ parts) = None
walk structs (Some spot) (part ∷ parts) = walk structs (step_in structs spot part) parts

-- the type of a whole value
abbrev pub whole_type : Option ValueSpot → Option CType
whole_type None = None
whole_type (Some (whole ty)) = Some ty
whole_type (Some (row length ty)) = None

-- a whole value of the type
abbrev pub whole_spot : Option CType → Option ValueSpot
whole_spot None = None
whole_spot (Some ty) = Some (whole ty)

-- ---- memory

-- the types of the objects and of the variables of the running functions
abbrev pub RootTypes : Type 0
RootTypes = Root → Option CType

-- the type of a place, none where it leads nowhere
abbrev pub place_type : List CStruct → RootTypes → Location → Option CType
place_type structs types place = whole_type (walk (struct_table structs) (whole_spot (types place.root)) place.parts)

-- whether a value is of the type; any value is where no type is known
abbrev pub fits_where : Table (List Inner) → Option CType → CValue → Bool
fits_where known None value = true
fits_where known (Some ty) value = fits known ty value

-- every root that has a type has a value of that type
pub record MemoryFits (structs : List CStruct) (types : RootTypes) (memory : Memory) : Type 0 where
  pub each : (root : Root) → fits_where (scalars structs) (types root) (memory root) ≡ true

-- the types of the three objects
abbrev pub ObjectsAre : RootTypes → Type 0
ObjectsAre types =
    (types state_object ≡ Some (OfStruct (codes "bl_state")))
    × (types input_object ≡ Some (OfStruct (codes "bl_in")))
    × (types output_object ≡ Some (OfStruct (codes "bl_out")))

-- ---- what holds

-- memory that is all 0 fits
abbrev pub ClearedFits : Parts → Type 0
ClearedFits file = (types : RootTypes) → MemoryFits file.structs types cleared

-- what is read at a place of a type is a value of that type
abbrev pub ReadingFits : Parts → Type 0
ReadingFits file = WellFormed file → (types : RootTypes) (memory : Memory) (place : Location) (ty : CType) → MemoryFits file.structs types memory →
    place_type file.structs types place ≡ Some ty → fits (scalars file.structs) ty (value_at memory place) ≡ true

-- memory still fits after a place of a type was set to a value of that type
abbrev pub SettingFits : Parts → Type 0
SettingFits file = WellFormed file → (types : RootTypes) (memory : Memory) (place : Location) (ty : CType) (value : CValue) →
    MemoryFits file.structs types memory →
    place_type file.structs types place ≡ Some ty → fits (scalars file.structs) ty value ≡ true →
    MemoryFits file.structs types (set_at memory place value)

-- whether the number of a cell is in its range
abbrev pub cell_holds : Memory → Cell → Bool
cell_holds memory cell = in_range cell.kind (scalar_number (value_at memory cell.location))

-- each cell of the three objects has a number in its range
abbrev pub CellsFit : Parts → Type 0
CellsFit file = (types : RootTypes) (memory : Memory) → ObjectsAre types → MemoryFits file.structs types memory →
    list_all (cell_holds memory) (cells_of file) ≡ true

-- a function of the prelude gives a number of its result's type for numbers of its parameters' types, or traps
abbrev pub BuiltinsFit : Type 0
BuiltinsFit = (name : Text) (b : Builtin) (numbers : List ℤ) (t : Scalar) (n : ℤ) → builtin_of name ≡ Some b →
    in_ranges (builtin_params b) numbers ≡ true →
    builtin_result b ≡ Some t → builtin_value b numbers ≡ Some n → in_range t n ≡ true
