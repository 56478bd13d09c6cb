-- Which bytes may stand at each place of a saved state.
use Rattle.std.specs.Prelude.{ℕ, suc, ◌+◌, ◌==◌, nat_le, Bool, List, [], ◌∷◌, ◌++◌, map, length, replicate, Option, Some, None}
use Rattle.std.specs.Prelude.{option_map, if◌then◌else◌}
use Rattle.bl_tree.specs.declared.scalar.Scalar.{Scalar}
use Rattle.bl_tree.specs.declared.scalar.Scalar.TheVariants.{Bool as OfBool, Int, Nat, Bits}
use Rattle.bl_save.specs.Bytes.{size_of, state_header}

-- the bytes that may stand at a place
pub data Allowed : Type 0 where
  exactly : ℕ → Allowed
  at_most : ℕ → Allowed

-- whether a byte may stand at a place
abbrev pub allows : Allowed → ℕ → Bool
allows (exactly n) byte = byte == n
allows (at_most n) byte = nat_le byte n

-- the greatest byte of a number of a type: a bool is 0 or 1, and every other type has a number for any bytes
abbrev pub most_of : Scalar → ℕ
most_of OfBool = 1
most_of (Int w) = 255
most_of (Nat w) = 255
most_of (Bits w) = 255

-- the bytes of a cell
abbrev pub cell_shape : Scalar → List Allowed
cell_shape kind = replicate (size_of kind) (at_most (most_of kind))

-- the bytes of cells, one cell after the other
abbrev pub cells_shape : List Scalar → List Allowed
cells_shape [] = []
cells_shape (kind ∷ kinds) = cell_shape kind ++ cells_shape kinds

-- the bytes of a saved state with cells of these types: a header, and the cells
abbrev pub state_shape : List Scalar → List Allowed
state_shape kinds = map exactly (state_header (length kinds)) ++ cells_shape kinds

-- the first position at which bytes leave a shape, or their number where they are too few; none where they have it
abbrev pub misfit : List Allowed → List ℕ → Option ℕ
misfit [] [] = None
misfit [] (byte ∷ bytes) = Some 0
misfit (a ∷ shape) [] = Some 0
misfit (a ∷ shape) (byte ∷ bytes) = if allows a byte then option_map suc (misfit shape bytes) else Some 0

-- the first of two places, where the second is counted from so many bytes on
abbrev pub earlier : Option ℕ → ℕ → Option ℕ → Option ℕ
earlier (Some at) size later = Some at
earlier None size later = option_map (λ n. size + n) later
