-- The scalars of the three objects, and the inputs and outputs that two of them declare.
use Rattle.std.specs.Prelude.{ℕ, zero, suc, ℤ, List, [], ◌∷◌, ◌++◌, map, flat_map, filter_map, drop, unwrap_or, Option, Some, None, codes}
use Rattle.bl_tree.specs.declared.text.Text.{Text}
use Rattle.bl_tree.specs.declared.scalar.Scalar.{Scalar}
use Rattle.bl_tree.specs.declared.c.CType.{CType}
use Rattle.bl_tree.specs.declared.c.CType.TheVariants.{Scalar as OfScalar, Struct as OfStruct}
use Rattle.bl_tree.specs.declared.c.CMember.{CMember}
use Rattle.bl_tree.specs.declared.c.CStruct.{CStruct}
use Rattle.bl_tree.specs.declared.row.Column.{Column}
use Rattle.bl_ctext_semantics.specs.Parts.{Parts}
use Rattle.bl_ctext_semantics.specs.Memory.{Projection, member, element, Root, state_object, input_object, output_object, Location, Memory, scalar}
use Rattle.bl_ctext_semantics.specs.Memory.{scalar_number, cleared, value_at, set_at}
use Rattle.bl_ctext_semantics.specs.Tables.{found, Table, no_entries, with_entry, entry_or}

-- ---- the members of a struct

-- the members of the struct of a name, none where there is no such struct
abbrev pub members_of : Text → List CStruct → List CMember
members_of name structs = unwrap_or (found name (map (λ s. (s.name, s.members)) structs)) []

-- ---- cells

-- a scalar inside a value: the parts that lead to it, and its type
pub record Inner : Type 0 where
  pub parts : List Projection
  pub kind : Scalar

-- the numbers below n, in order
abbrev pub below : ℕ → List ℕ
below zero = []
below (suc n) = below n ++ n ∷ []

-- an inner scalar, seen from further out
abbrev pub seen_from_outside : List Projection → Inner → Inner
seen_from_outside parts cell = record { parts = parts ++ cell.parts; kind = cell.kind }

-- the scalars of a value of a type, in order, where those of the structs are known
abbrev pub inner_of_type : Table (List Inner) → CType → List Inner
inner_of_type known (OfScalar kind) = record { parts = []; kind = kind } ∷ []
inner_of_type known (OfStruct name) = entry_or [] known name

-- the scalars of a member: of an array, those of each element
abbrev pub inner_of_length : Text → Option ℕ → List Inner → List Inner
inner_of_length name None cells = map (seen_from_outside (member name ∷ [])) cells
inner_of_length name (Some length) cells = flat_map (λ k. map (seen_from_outside (member name ∷ element k ∷ [])) cells) (below length)

-- the scalars of a member, where those of each struct are known
abbrev pub inner_of_member : Table (List Inner) → CMember → List Inner
inner_of_member known m = inner_of_length m.name m.length (inner_of_type known m.ty)

-- the structs in order by name, each over those before it
abbrev pub inner_after : Table (List Inner) → List CStruct → List (Text × List Inner)
inner_after known [] = []
inner_after known (s ∷ rest) =
    let cells : List Inner = flat_map (inner_of_member known) s.members in
    (s.name, cells) ∷ inner_after (with_entry known s.name cells) rest

-- the scalars of the struct of a name
abbrev pub inner_of : List CStruct → Text → List Inner
inner_of structs name = unwrap_or (found name (inner_after no_entries structs)) []

-- a scalar of one of the three objects
pub record Cell : Type 0 where
  pub location : Location
  pub kind : Scalar

-- the cells of an object with these scalars
abbrev pub cells_at : Root → List Inner → List Cell
cells_at root = map (λ cell. record { location = record { root = root; parts = cell.parts }; kind = cell.kind })

-- the scalars of the state, the input and the output struct, in this order, members in order, arrays by index
unfoldable pub cells_of : Parts → List Cell
cells_of file =
    cells_at state_object (inner_of file.structs (codes "bl_state"))
    ++ cells_at input_object (inner_of file.structs (codes "bl_in"))
    ++ cells_at output_object (inner_of file.structs (codes "bl_out"))

-- the memory in which these cells have these numbers, and all else is 0
abbrev pub memory_of : List Cell → List ℤ → Memory
memory_of (cell ∷ cells) (n ∷ ns) = set_at (memory_of cells ns) cell.location (scalar n)
memory_of [] ns = cleared
memory_of (cell ∷ cells) [] = cleared

-- the numbers of cells in a memory
abbrev pub numbers_of : List Cell → Memory → List ℤ
numbers_of cells memory = map (λ cell. scalar_number (value_at memory cell.location)) cells

-- ---- columns

-- an input or output, as a member declares it: its name without the two characters `i_` or `o_`
abbrev pub column_typed : Text → CType → Option Column
column_typed name (OfScalar kind) = Some (record { name = drop 2 name; ty = kind })
column_typed name (OfStruct struct) = None

-- the column of a member of a scalar type
abbrev pub column_of : CMember → Option Column
column_of m = column_typed m.name m.ty

-- the members of an interface struct behind `pad`
abbrev pub ports_of : Text → Parts → List CMember
ports_of struct file = drop 1 (members_of struct file.structs)

-- the inputs of a file
unfoldable pub inputs_of : Parts → List Column
inputs_of file = filter_map column_of (ports_of (codes "bl_in") file)

-- the outputs of a file
unfoldable pub outputs_of : Parts → List Column
outputs_of file = filter_map column_of (ports_of (codes "bl_out") file)

-- a member of the input or output object
abbrev pub port : Root → CMember → Location
port root m = record { root = root; parts = member m.name ∷ [] }

-- the memory once the inputs have the numbers of a row
abbrev pub with_inputs : List CMember → List ℤ → Memory → Memory
with_inputs (m ∷ ms) (n ∷ ns) memory = with_inputs ms ns (set_at memory (port input_object m) (scalar n))
with_inputs [] ns memory = memory
with_inputs (m ∷ ms) [] memory = memory

-- the row of the outputs
abbrev pub outputs_in : List CMember → Memory → List ℤ
outputs_in ms memory = map (λ m. scalar_number (value_at memory (port output_object m))) ms
