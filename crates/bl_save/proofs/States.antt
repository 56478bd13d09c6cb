-- The bytes of states have their shape, and bytes of that shape are those of a state.
use Rattle.std.proofs.Common.{◌≡◌, ℕ, zero, suc, ◌/◌, ◌<◌, ◌≤◌, List, [], ◌∷◌, ◌++◌, length, map}
use Rattle.std.proofs.Common.{take, drop, replicate, slice_index, refl, sym, ap, ◌∙◌, ◌⊎◌, inl, inr, subst, arith, ℤ, pos, negsuc, Bool}
use Rattle.std.proofs.Common.{true, false, Option, Some, None}
use Rattle.std.specs.Prelude.{◌&&◌, nat_le, option_map, if◌then◌else◌}
use Rattle.std.proofs.Math.Seq.{drop-append_seam}
use Rattle.std.proofs.lemmas.List.{length-replicate, take_all, take-append-drop, length-take}
use Rattle.byteorder.specs.Numbers.{big_from-take}
use Rattle.std.proofs.lemmas.Bool.Decides.{nat_tests}
use Rattle.std.proofs.lemmas.Int.{ints}
use Rattle.std.specs.Int.{bytes_high_first, byte_at, w128}
use Rattle.std.proofs.lemmas.Bool.{and_parts}
use Rattle.byteorder.specs.Endian.{big_number, low_bytes, twos_complement}
use Rattle.bl_tree.specs.declared.scalar.Width.{Width}
use Rattle.bl_tree.specs.declared.scalar.Width.TheVariants.{W8, W16, W32, W64}
use Rattle.bl_tree.specs.declared.scalar.Scalar.{Scalar}
use Rattle.bl_tree.specs.declared.scalar.Scalar.TheVariants.{Bool as OfBool, Int, Nat, Bits}
use Rattle.bl_tree.specs.Ports.{in_ranges}
use Rattle.bl_tree.specs.Scalar.{in_range, bits_of}
use Rattle.bl_save.specs.Bytes.{size_of, cell_bytes, cells_bytes, state_header, state_bytes}
use Rattle.bl_save.specs.inner.Shapes.{Allowed, exactly, at_most, misfit, cell_shape, cells_shape, state_shape, most_of}
use Rattle.bl_save.proofs.Cells.{number_of, StandsFor, stands-for, length-cell_bytes, AreBytes, number-back}
use Rattle.bl_save.proofs.Shaped.{splits, length-shape, joins, exactly-fits, exactly-is, any-bytes, any-ends}

-- ---- of a state

-- the bytes of a number may stand where any may
digits-fit : (k n : ℕ) → misfit (replicate k (at_most 255)) (bytes_high_first k n) ≡ None
digits-fit zero n = refl
digits-fit (suc k) n =
    let low : byte_at k n < 256 = below k in
    let passes : nat_le (byte_at k n) 255 ≡ true = grind (arith, nat_tests) in
    rw passes (ap (option_map suc) (digits-fit k n))
  where
    below : (i : ℕ) → byte_at i n < 256
    below zero = omega arith
    below (suc i) = omega arith

-- a cell's bytes have its shape
pub cell-fits : (kind : Scalar) (n : ℤ) → in_range kind n ≡ true → misfit (cell_shape kind) (cell_bytes kind n) ≡ None
cell-fits OfBool (pos zero) range = refl
cell-fits OfBool (pos (suc zero)) range = refl
cell-fits OfBool (pos (suc (suc n))) range = absurd (grind (arith, ints))
cell-fits OfBool (negsuc n) range = absurd (grind (arith, ints))
cell-fits (Int w) n range = digits-fit (size_of (Int w)) (low_bytes w128 (size_of (Int w)) n)
cell-fits (Nat w) n range = digits-fit (size_of (Nat w)) (low_bytes w128 (size_of (Nat w)) n)
cell-fits (Bits w) n range = digits-fit (size_of (Bits w)) (low_bytes w128 (size_of (Bits w)) n)

-- and so have those of cells
pub cells-fit : (kinds : List Scalar) (ns : List ℤ) → in_ranges kinds ns ≡ true → misfit (cells_shape kinds) (cells_bytes kinds ns) ≡ None
cells-fit [] [] range = refl
cells-fit [] (n ∷ ns) range = absurd (cc)
cells-fit (kind ∷ kinds) [] range = absurd (cc)
cells-fit (kind ∷ kinds) (n ∷ ns) range =
    let parts = and_parts (in_range kind n) (in_ranges kinds ns) range in
    joins (cell_shape kind) (cells_shape kinds) (cell_bytes kind n) (cells_bytes kinds ns) (cell-fits kind n parts.0) (cells-fit kinds ns parts.1)

-- and that of a state
pub state-fits : (kinds : List Scalar) (ns : List ℤ) → in_ranges kinds ns ≡ true → misfit (state_shape kinds) (state_bytes kinds ns) ≡ None
state-fits kinds ns range =
    joins (map exactly (state_header (length kinds))) (cells_shape kinds) (state_header (length kinds)) (cells_bytes kinds ns)
    (exactly-fits (state_header (length kinds)))
    (cells-fit kinds ns range)

-- ---- to a state

-- the numbers of cells of these types, of which the first has the first bytes
abbrev pub numbers_in : List Scalar → List ℕ → List ℤ
numbers_in [] bytes = []
numbers_in (kind ∷ kinds) bytes = number_of kind bytes ∷ numbers_in kinds (drop (size_of kind) bytes)

-- a shape takes as many bytes as its type has
pub length-cell_shape : (kind : Scalar) → length (cell_shape kind) ≡ size_of kind
length-cell_shape kind = length-replicate (size_of kind) (at_most (most_of kind))

-- one byte
one-byte : (b : ℕ) (bytes : List ℕ) → b ≤ 1 → length (b ∷ bytes) ≡ 1 → AreBytes (b ∷ bytes)
one-byte b [] low long zero = omega arith
one-byte b [] low long (suc i) = omega arith
one-byte b (c ∷ bytes) low long i = absurd (omega arith)

-- those of a shape that takes all bytes
any-stands : (kind : Scalar) (bytes : List ℕ) → misfit (cell_shape kind) bytes ≡ None →
    cell_shape kind ≡ replicate (size_of kind) (at_most 255) → (kind ≡ OfBool → ⊥) →
    StandsFor kind bytes
any-stands kind bytes fits any other =
    let all : misfit (replicate (size_of kind) (at_most 255)) bytes ≡ None = subst (λ (s : List Allowed). misfit s bytes ≡ None) any fits in
    let long : length bytes ≡ size_of kind = length-shape (cell_shape kind) bytes fits ∙ length-cell_shape kind in
    stands-for kind bytes (omega arith) (any-bytes (size_of kind) bytes all) (λ is. absurd (other is))

-- bytes of a cell's shape stand for a number
pub cell-stands : (kind : Scalar) (bytes : List ℕ) → misfit (cell_shape kind) bytes ≡ None → StandsFor kind bytes
cell-stands OfBool [] fits = absurd (cc)
cell-stands OfBool (b ∷ bytes) fits = one (nat_le b 1) (misfit [] bytes) refl fits
  where
    one : (t : Bool) (o : Option ℕ) → nat_le b 1 ≡ t → (if t then option_map suc o else Some 0) ≡ None → StandsFor OfBool (b ∷ bytes)
    one false o low is = absurd (cc)
    one true (Some n) low is = absurd (cc)
    one true None low is =
        let bit : b ≤ 1 = grind (arith, nat_tests) in
        let long : length (b ∷ bytes) ≡ 1 = length-shape (cell_shape OfBool) (b ∷ bytes) fits in
        stands-for OfBool (b ∷ bytes) (omega arith) (one-byte b bytes bit long) (λ e. bit)
cell-stands (Int w) bytes fits = any-stands (Int w) bytes fits refl (λ is. cc)
cell-stands (Nat w) bytes fits = any-stands (Nat w) bytes fits refl (λ is. cc)
cell-stands (Bits w) bytes fits = any-stands (Bits w) bytes fits refl (λ is. cc)

-- a number hangs on the bytes of its cell alone
pub number-take : (kind : Scalar) (bytes : List ℕ) → number_of kind (take (size_of kind) bytes) ≡ number_of kind bytes
number-take OfBool bytes = ap pos (big_from-take 0 1 1 bytes (omega arith))
number-take (Int w) bytes = ap (twos_complement (size_of (Int w))) (big_from-take 0 (size_of (Int w)) (size_of (Int w)) bytes (omega arith))
number-take (Nat w) bytes = ap pos (big_from-take 0 (size_of (Nat w)) (size_of (Nat w)) bytes (omega arith))
number-take (Bits w) bytes = ap pos (big_from-take 0 (size_of (Bits w)) (size_of (Bits w)) bytes (omega arith))

-- the first of bytes that begin with those of a cell are those of its number, which is in its range
pub record BeginsCell (kind : Scalar) (bytes : List ℕ) : Type 0 where
  pub written : cell_bytes kind (number_of kind bytes) ≡ take (size_of kind) bytes
  pub range : in_range kind (number_of kind bytes) ≡ true

pub begins-cell : (kind : Scalar) (bytes : List ℕ) → misfit (cell_shape kind) (take (size_of kind) bytes) ≡ None → BeginsCell kind bytes
begins-cell kind bytes fits =
    let stands = cell-stands kind (take (size_of kind) bytes) fits in
    let number = number-take kind bytes in
    let twice : take (size_of kind) (take (size_of kind) bytes) ≡ take (size_of kind) bytes =
    take_all (size_of kind) (take (size_of kind) bytes) (omega (arith, length-take (size_of kind) bytes)) in
    record {
      written = subst (λ (n : ℤ). cell_bytes kind n ≡ take (size_of kind) bytes) number (stands.written ∙ twice);
      range = subst (λ (n : ℤ). in_range kind n ≡ true) number stands.range;
    }

-- the parts of bytes that have the shape of a cell and of those behind it
pub record SplitsCell (kind : Scalar) (kinds : List Scalar) (bytes : List ℕ) : Type 0 where
  pub front : misfit (cell_shape kind) (take (size_of kind) bytes) ≡ None
  pub back : misfit (cells_shape kinds) (drop (size_of kind) bytes) ≡ None

pub splits-cell : (kind : Scalar) (kinds : List Scalar) (bytes : List ℕ) → misfit (cells_shape (kind ∷ kinds)) bytes ≡ None →
    SplitsCell kind kinds bytes
splits-cell kind kinds bytes fits =
    let parts = splits (cell_shape kind) (cells_shape kinds) bytes fits in
    let size = length-cell_shape kind in
    record {
      front = subst (λ (k : ℕ). misfit (cell_shape kind) (take k bytes) ≡ None) size parts.front;
      back = subst (λ (k : ℕ). misfit (cells_shape kinds) (drop k bytes) ≡ None) size parts.back;
    }

-- ---- the bytes of one cell

-- too few bytes leave its shape behind the last
pub cell-ends : (kind : Scalar) (bytes : List ℕ) → length bytes < size_of kind → AreBytes bytes →
    misfit (cell_shape kind) (take (size_of kind) bytes) ≡ Some (length bytes)
cell-ends kind bytes few small = rw (take_all (size_of kind) bytes (omega arith)) (ends kind bytes few small)
  where
    ends : (kind : Scalar) (bytes : List ℕ) → length bytes < size_of kind → AreBytes bytes → misfit (cell_shape kind) bytes ≡ Some (length bytes)
    ends OfBool [] few small = refl
    ends OfBool (b ∷ bytes) few small = absurd (omega arith)
    ends (Int w) bytes few small = any-ends (size_of (Int w)) bytes few small
    ends (Nat w) bytes few small = any-ends (size_of (Nat w)) bytes few small
    ends (Bits w) bytes few small = any-ends (size_of (Bits w)) bytes few small

-- those that are enough have one that takes all
any-front : (k : ℕ) (bytes : List ℕ) → k ≤ length bytes → AreBytes bytes → misfit (replicate k (at_most 255)) (take k bytes) ≡ None
any-front zero bytes long small = refl
any-front (suc k) [] long small = absurd (omega arith)
any-front (suc k) (b ∷ bytes) long small =
    let byte : b < 256 = small 0 in
    let yes : nat_le b 255 ≡ true = grind (arith, nat_tests) in
    rw yes (ap (option_map suc) (any-front k bytes (omega arith) (λ i. small (suc i))))

-- a type has some bytes
width-some : (w : Width) → (1 ≤ bits_of w / 8) × (bits_of w / 8 ≤ 8)
width-some W8 = (omega arith, omega arith)
width-some W16 = (omega arith, omega arith)
width-some W32 = (omega arith, omega arith)
width-some W64 = (omega arith, omega arith)

pub size-some : (kind : Scalar) → (1 ≤ size_of kind) × (size_of kind ≤ 8)
size-some OfBool = (omega arith, omega arith)
size-some (Int w) = width-some w
size-some (Nat w) = width-some w
size-some (Bits w) = width-some w

-- all others have it
pub cell-holds : (kind : Scalar) (bytes : List ℕ) → size_of kind ≤ length bytes → AreBytes bytes → slice_index bytes 0 ≤ most_of kind →
    misfit (cell_shape kind) (take (size_of kind) bytes) ≡ None
cell-holds OfBool [] long small low = absurd (omega arith)
cell-holds OfBool (b ∷ bytes) long small low = let yes : nat_le b 1 ≡ true = grind (arith, nat_tests) in rw yes refl
cell-holds (Int w) bytes long small low = any-front (size_of (Int w)) bytes long small
cell-holds (Nat w) bytes long small low = any-front (size_of (Nat w)) bytes long small
cell-holds (Bits w) bytes long small low = any-front (size_of (Bits w)) bytes long small

-- bytes of the shape of cells are those of their numbers, which are in their ranges
pub record AreCells (kinds : List Scalar) (bytes : List ℕ) : Type 0 where
  pub written : cells_bytes kinds (numbers_in kinds bytes) ≡ bytes
  pub range : in_ranges kinds (numbers_in kinds bytes) ≡ true

pub are-cells : (kinds : List Scalar) (bytes : List ℕ) → misfit (cells_shape kinds) bytes ≡ None → AreCells kinds bytes
are-cells [] [] fits = record { written = refl; range = refl }
are-cells [] (byte ∷ bytes) fits = absurd (cc)
are-cells (kind ∷ kinds) bytes fits =
    let parts = splits-cell kind kinds bytes fits in
    let first = begins-cell kind bytes parts.front in
    let later = are-cells kinds (drop (size_of kind) bytes) parts.back in
    record {
      written = rw (first.written, later.written) (take-append-drop (size_of kind) bytes);
      range = rw (first.range, later.range) refl;
    }

-- the numbers of the bytes of cells are those of the cells
pub numbers-back : (kinds : List Scalar) (ns : List ℤ) → in_ranges kinds ns ≡ true → numbers_in kinds (cells_bytes kinds ns) ≡ ns
numbers-back [] [] range = refl
numbers-back [] (n ∷ ns) range = absurd (cc)
numbers-back (kind ∷ kinds) [] range = absurd (cc)
numbers-back (kind ∷ kinds) (n ∷ ns) range =
    let parts = and_parts (in_range kind n) (in_ranges kinds ns) range in
    let behind : drop (size_of kind) (cell_bytes kind n ++ cells_bytes kinds ns) ≡ cells_bytes kinds ns =
    ap (λ (k : ℕ). drop k (cell_bytes kind n ++ cells_bytes kinds ns)) (sym (length-cell_bytes kind n))
    ∙ drop-append_seam (cell_bytes kind n) (cells_bytes kinds ns) in
    rw (number-back kind n (cells_bytes kinds ns) parts.0, behind, numbers-back kinds ns parts.1) refl

-- ---- a whole state

-- bytes of the shape of a state are a state of these numbers
pub record AreState (kinds : List Scalar) (bytes : List ℕ) : Type 0 where
  pub written : state_bytes kinds (numbers_in kinds (drop 10 bytes)) ≡ bytes
  pub range : in_ranges kinds (numbers_in kinds (drop 10 bytes)) ≡ true
  pub front : take 10 bytes ≡ state_header (length kinds)
  pub cells : misfit (cells_shape kinds) (drop 10 bytes) ≡ None
  pub long : 10 ≤ length bytes

pub are-state : (kinds : List Scalar) (bytes : List ℕ) → misfit (state_shape kinds) bytes ≡ None → AreState kinds bytes
are-state kinds bytes fits =
    let header = state_header (length kinds) in
    let parts = splits (map exactly header) (cells_shape kinds) bytes fits in
    let cells : misfit (cells_shape kinds) (drop 10 bytes) ≡ None = parts.back in
    let front : misfit (map exactly header) (take 10 bytes) ≡ None = parts.front in
    let same : take 10 bytes ≡ header = exactly-is header (take 10 bytes) front in
    let all = are-cells kinds (drop 10 bytes) cells in
    record {
      written = ap (λ (front : List ℕ). front ++ cells_bytes kinds (numbers_in kinds (drop 10 bytes))) (sym same)
          ∙ ap (λ (back : List ℕ). take 10 bytes ++ back) all.written ∙ take-append-drop 10 bytes;
      range = all.range;
      front = same;
      cells = cells;
      long = omega (arith, length-shape (state_shape kinds) bytes fits);
    }

-- a state has one list of numbers
pub state-injective : (kinds : List Scalar) (ns ms : List ℤ) → in_ranges kinds ns ≡ true → in_ranges kinds ms ≡ true →
    state_bytes kinds ns ≡ state_bytes kinds ms → ns ≡ ms
state-injective kinds ns ms first second same =
    let cells : cells_bytes kinds ns ≡ cells_bytes kinds ms = ap (drop 10) same in
    sym (numbers-back kinds ns first) ∙ ap (numbers_in kinds) cells ∙ numbers-back kinds ms second

-- ---- what is read

-- a signed number
pub int-number : (kind : Scalar) (w : Width) (bytes : List ℕ) (k : ℕ) (n : ℤ) → kind ≡ Int w → k ≡ size_of kind →
    n ≡ twos_complement k (big_number k bytes) →
    n ≡ number_of kind bytes
int-number kind w bytes k n is size e =
    e ∙ ap (λ (k : ℕ). twos_complement k (big_number k bytes)) (size ∙ ap size_of is) ∙ ap (λ (kind : Scalar). number_of kind bytes) (sym is)

-- every other one
pub whole-number : (kind : Scalar) (bytes : List ℕ) (k m : ℕ) (n : ℤ) →
    (kind ≡ OfBool) ⊎ (((w : Width) × (kind ≡ Nat w)) ⊎ ((w : Width) × (kind ≡ Bits w))) → k ≡ size_of kind →
    m ≡ big_number k bytes → n ≡ pos m → n ≡ number_of kind bytes
whole-number kind bytes k m n which size e is =
    let number : n ≡ pos (big_number (size_of kind) bytes) = is ∙ ap pos (e ∙ ap (λ (k : ℕ). big_number k bytes) size) in
    elim which [
      | inl one ↦ number ∙ ap (λ (k : ℕ). pos (big_number k bytes)) (ap size_of one) ∙ ap (λ (kind : Scalar). number_of kind bytes) (sym one)
      | inr more ↦ elim more [
        | inl nat ↦ number ∙ ap (λ (k : ℕ). pos (big_number k bytes)) (ap size_of nat.1)
            ∙ ap (λ (kind : Scalar). number_of kind bytes) (sym nat.1)
        | inr bits ↦ number ∙ ap (λ (k : ℕ). pos (big_number k bytes)) (ap size_of bits.1)
            ∙ ap (λ (kind : Scalar). number_of kind bytes) (sym bits.1)
      ]
    ]
