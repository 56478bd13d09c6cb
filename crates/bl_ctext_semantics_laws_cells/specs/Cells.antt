-- The memory that is made of the numbers of a C file's cells.
use Rattle.std.specs.Prelude.{◌≡◌, Some, None, codes}
use Rattle.bl_tree.specs.declared.c.CType.TheVariants.{Scalar as OfScalar, Struct as OfStruct}
use Rattle.bl_tree.specs.declared.scalar.Scalar.{Scalar}
use Rattle.bl_ctext_semantics.specs.Cells.{cells_of, memory_of, numbers_of}
use Rattle.bl_ctext_semantics.specs.Faults.{WellFormed}
use Rattle.bl_ctext_semantics.specs.Memory.{Location, Memory, input_object, output_object, scalar_number, state_object, value_at, variable}
use Rattle.bl_ctext_semantics.specs.Parts.{Parts}
use Rattle.bl_ctext_semantics_laws.specs.Fitting.{RootTypes, place_type}

-- the types of the three objects
abbrev pub object_types : RootTypes
object_types state_object = Some (OfStruct (codes "bl_state"))
object_types input_object = Some (OfStruct (codes "bl_in"))
object_types output_object = Some (OfStruct (codes "bl_out"))
object_types (variable depth name) = None

-- what is there of a memory where only the numbers of the cells were kept
abbrev pub regained : Parts → Memory → Memory
regained file here = memory_of (cells_of file) (numbers_of (cells_of file) here)

-- the number of each scalar place in one of the objects is kept
abbrev pub CellsKept : Parts → Type 0
CellsKept file =
    (here : Memory) (place : Location) (kind : Scalar) → place_type file.structs object_types place ≡ Some (OfScalar kind) →
    scalar_number (value_at (regained file here) place) ≡ scalar_number (value_at here place)

-- the number of each scalar place is kept, in every well-formed file
abbrev pub AllCellsKept : Type 0
AllCellsKept = (file : Parts) → WellFormed file → CellsKept file
