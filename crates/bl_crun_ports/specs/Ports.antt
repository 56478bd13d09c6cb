-- The inputs and outputs of a file, and their cells.
use Rattle.std.specs.Prelude.{◌≡◌, ℕ, ◌+◌, List, length, slice_get, Some, codes}
use Rattle.bl_tree.specs.declared.text.Text.{Text}
use Rattle.bl_tree.specs.declared.scalar.Scalar.{Scalar}
use Rattle.bl_tree.specs.declared.c.CType.TheVariants.{Scalar as OfScalar}
use Rattle.bl_tree.specs.declared.c.CMember.{CMember}
use Rattle.bl_tree.specs.declared.c.CStruct.{CStruct}
use Rattle.bl_tree.specs.declared.c.CFunc.{CFunc}
use Rattle.bl_ctext_semantics.specs.Parts.{Parts, parts_from}
use Rattle.bl_ctext_semantics.specs.Faults.{WellFormed}
use Rattle.bl_ctext_semantics.specs.Cells.{cells_of, inner_of, port, ports_of}
use Rattle.bl_ctext_semantics.specs.Memory.{Root, input_object, output_object}

-- the structs are those of a well-formed file, with some functions
abbrev pub StructsOfWellFormed : List CStruct → Type 0
StructsOfWellFormed structs = (funcs : List CFunc) × WellFormed (parts_from structs funcs)

-- the first cell of the input object
abbrev pub inputs_start : List CStruct → ℕ
inputs_start structs = length (inner_of structs (codes "bl_state"))

-- the first cell of the output object
abbrev pub outputs_start : List CStruct → ℕ
outputs_start structs = inputs_start structs + length (inner_of structs (codes "bl_in"))

-- the ports of an object are its cells behind the first one, from this place on, each of its port's type
abbrev pub StandFrom : Parts → ℕ → Root → Text → Type 0
StandFrom file start root struct = (k : ℕ) (m : CMember) → slice_get (ports_of struct file) k ≡ Some m →
    (kind : Scalar) × ((m.ty ≡ OfScalar kind) × (slice_get (cells_of file) (start + 1 + k) ≡ Some (record { location = port root m; kind = kind })))

-- the cell of each input and output of a well-formed file
abbrev pub PortsStand : Parts → Type 0
PortsStand file = WellFormed file →
    StandFrom file (inputs_start file.structs) input_object (codes "bl_in") × StandFrom file (outputs_start file.structs) output_object (codes "bl_out")
