-- What calls of a file's functions come to in the machine.
use Rattle.std.specs.Prelude.{◌≡◌, ◌≤◌, ℤ, true, List, length, take}
use Rattle.bl_tree.specs.Ports.{in_ranges}
use Rattle.bl_ctext_semantics.specs.Parts.{Parts}
use Rattle.bl_ctext_semantics.specs.Sizes.{cells_needed}
use Rattle.bl_crun_ports.specs.Layout.{kinds_of}

-- the numbers of a file's cells, which come first
abbrev pub first_cells : Parts → List ℤ → List ℤ
first_cells file cells = take (length (kinds_of file)) cells

-- the cells that a call of a file's function leaves
pub record CellsKeep (file : Parts) (cells : List ℤ) : Type 0 where
  pub room : cells_needed file ≤ length cells
  pub ranges : in_ranges (kinds_of file) (first_cells file cells) ≡ true
