-- The numbers of cells as bytes.
use Rattle.std.specs.Prelude.{ℕ, ◌/◌, ℤ, List, [], ◌∷◌, ◌++◌, length, codes}
use Rattle.std.specs.Int.{w128}
use Rattle.bl_tree.specs.declared.scalar.Scalar.{Scalar}
use Rattle.bl_tree.specs.declared.scalar.Scalar.TheVariants.{Bool as OfBool, Int, Nat, Bits}
use Rattle.bl_tree.specs.Scalar.{bits_of}
use Rattle.byteorder.specs.Endian.{big_bytes, low_bytes}

-- how many bytes a number of a type has: a bool one, every other as many as its width
abbrev pub size_of : Scalar → ℕ
size_of OfBool = 1
size_of (Int w) = bits_of w / 8
size_of (Nat w) = bits_of w / 8
size_of (Bits w) = bits_of w / 8

-- the bytes of a number in two's complement, the most significant first; a bool is 0 or 1
abbrev pub cell_bytes : Scalar → ℤ → List ℕ
cell_bytes kind n = big_bytes (size_of kind) (low_bytes w128 (size_of kind) n)

-- the bytes of numbers of these types, one after the other
abbrev pub cells_bytes : List Scalar → List ℤ → List ℕ
cells_bytes (kind ∷ kinds) (n ∷ ns) = cell_bytes kind n ++ cells_bytes kinds ns
cells_bytes [] ns = []
cells_bytes (kind ∷ kinds) [] = []

-- what a state begins with: its form, and the number of cells in four bytes
abbrev pub state_header : ℕ → List ℕ
state_header count = codes "BLSV1\n" ++ big_bytes 4 count

-- the saved state of cells of these types with these numbers
abbrev pub state_bytes : List Scalar → List ℤ → List ℕ
state_bytes kinds numbers = state_header (length kinds) ++ cells_bytes kinds numbers
