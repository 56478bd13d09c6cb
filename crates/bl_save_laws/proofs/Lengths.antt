-- How many bytes a saved state has.
use Rattle.std.proofs.Common.{◌≡◌, ◌∙◌, ap, arith, ℕ, ◌+◌, ◌*◌, ◌/◌, ◌≤◌, ℤ, List, [], ◌∷◌, length, length-append}
use Rattle.std.specs.Prelude.{codes}
use Rattle.std.specs.Int.{w128}
use Rattle.std.proofs.lemmas.List.{length-map}
use Rattle.byteorder.specs.Endian.{big_bytes, low_bytes}
use Rattle.byteorder.specs.Numbers.{length-bytes_high_first}
use Rattle.bl_tree.specs.declared.scalar.Width.{Width}
use Rattle.bl_tree.specs.declared.scalar.Width.TheVariants.{W8, W16, W32, W64}
use Rattle.bl_tree.specs.declared.scalar.Scalar.{Scalar}
use Rattle.bl_tree.specs.declared.scalar.Scalar.TheVariants.{Bool as OfBool, Int, Nat, Bits}
use Rattle.bl_tree.specs.Scalar.{bits_of}
use Rattle.bl_ctext_semantics.specs.Cells.{cells_of}
use Rattle.bl_ctext_semantics.specs.Faults.{WellFormed}
use Rattle.bl_ctext_semantics.specs.Parts.{Parts}
use Rattle.bl_ctext_semantics.specs.Sizes.{cells_needed}
use Rattle.bl_crun_ports.specs.Layout.{kinds_of}
use Rattle.bl_crun.proofs.Cells.{cells-long}
use Rattle.bl_save.specs.Bytes.{cell_bytes, cells_bytes, size_of, state_bytes, state_header}
use Rattle.bl_save_laws.specs.Laws.{ShortStates}

width-most : (w : Width) → bits_of w / 8 ≤ 8
width-most W8 = omega arith
width-most W16 = omega arith
width-most W32 = omega arith
width-most W64 = omega arith

size-most : (kind : Scalar) → size_of kind ≤ 8
size-most OfBool = omega arith
size-most (Int w) = width-most w
size-most (Nat w) = width-most w
size-most (Bits w) = width-most w

length-cell : (kind : Scalar) (n : ℤ) → length (cell_bytes kind n) ≤ 8
length-cell kind n =
    let long = length-bytes_high_first (size_of kind) (low_bytes w128 (size_of kind) n) in omega (arith, long, size-most kind)

length-cells : (kinds : List Scalar) (ns : List ℤ) → length (cells_bytes kinds ns) ≤ 8 * length kinds
length-cells [] ns = omega arith
length-cells (kind ∷ kinds) [] = omega arith
length-cells (kind ∷ kinds) (n ∷ ns) =
    omega (arith, length-append (cell_bytes kind n) (cells_bytes kinds ns), length-cell kind n, length-cells kinds ns)

length-header : (count : ℕ) → length (state_header count) ≡ 10
length-header count = length-append (codes "BLSV1\n") (big_bytes 4 count) ∙ ap (λ n. 6 + n) (length-bytes_high_first 4 count)

length-state : (kinds : List Scalar) (ns : List ℤ) → length (state_bytes kinds ns) ≤ 8 * length kinds + 10
length-state kinds ns =
    omega (arith, length-append (state_header (length kinds)) (cells_bytes kinds ns), length-header (length kinds), length-cells kinds ns)

-- a file has no more cells than it needs
few-kinds : (file : Parts) → WellFormed file → length (kinds_of file) ≤ cells_needed file
few-kinds file formed = let long = length-map (cells_of file) (λ cell. cell.kind) ∙ cells-long file formed in omega arith

pub short-states : (file : Parts) → ShortStates file
short-states file formed numbers bytes saved =
    let long = length-state (kinds_of file) numbers in
    let same = ap length saved.written in
    omega (arith, few-kinds file formed)
