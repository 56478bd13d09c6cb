-- The types of the cells of structs.
use Rattle.std.specs.Prelude.{List, map}
use Rattle.bl_tree.specs.declared.scalar.Scalar.{Scalar}
use Rattle.bl_ctext_semantics.specs.Parts.{Parts}
use Rattle.bl_ctext_semantics.specs.Cells.{cells_of}

-- the types of the cells of a file
abbrev pub kinds_of : Parts → List Scalar
kinds_of file = map (λ cell. cell.kind) (cells_of file)
