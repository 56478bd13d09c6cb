-- The bytes of a cell, and its number back.
use Rattle.std.proofs.Common.{◌%◌, ◌≡◌, ℕ, suc, ◌+◌, ◌-◌, ◌*◌, ◌/◌, ◌^◌, ◌<◌, ◌≤◌, List, []}
use Rattle.std.proofs.Common.{◌∷◌, ◌++◌, length, take, slice_index, refl, sym, ap, ◌∙◌, arith, inl, inr, ℤ, pos}
use Rattle.std.proofs.Common.{negsuc, true}
use Rattle.std.specs.Prelude.{int_le, neg_ℤ, ◌&&◌}
use Rattle.std.proofs.Math.Nat.{mod-eq_of_lt}
use Rattle.std.proofs.lemmas.Int.{ints}
use Rattle.std.proofs.lemmas.Bool.{cases_lt}
use Rattle.std.proofs.lemmas.Bool.Decides.{nat_tests}
use Rattle.std.specs.Int.{bytes_high_first, w128}
use Rattle.byteorder.specs.Endian.{big_number, twos_complement, low_bytes}
use Rattle.byteorder.specs.Numbers.{big_from-lt, big_from-bytes, length-bytes_high_first}
use Rattle.bl_tree.specs.declared.scalar.Width.{Width}
use Rattle.bl_tree.specs.declared.scalar.Width.TheVariants.{W8, W16, W32, W64}
use Rattle.bl_tree.specs.declared.scalar.Scalar.{Scalar}
use Rattle.bl_tree.specs.declared.scalar.Scalar.TheVariants.{Bool as OfBool, Int, Nat, Bits}
use Rattle.bl_tree.specs.Scalar.{bits_of, in_range}
use Rattle.bl_save.specs.Bytes.{size_of, cell_bytes}
use Rattle.bl_save.proofs.Numbers.{low-negative, bytes-number}

-- the number that the first bytes stand for
abbrev pub number_of : Scalar → List ℕ → ℤ
number_of OfBool bytes = pos (big_number 1 bytes)
number_of (Int w) bytes = twos_complement (bits_of w / 8) (big_number (bits_of w / 8) bytes)
number_of (Nat w) bytes = pos (big_number (bits_of w / 8) bytes)
number_of (Bits w) bytes = pos (big_number (bits_of w / 8) bytes)

-- a cell has as many bytes as its type says
pub length-cell_bytes : (kind : Scalar) (n : ℤ) → length (cell_bytes kind n) ≡ size_of kind
length-cell_bytes kind n = length-bytes_high_first (size_of kind) (low_bytes w128 (size_of kind) n)

-- ---- from a number to bytes and back

-- the bytes of an unsigned number stand for it
unsigned-back : (k n : ℕ) (rest : List ℕ) → n < 2 ^ (8 * k) → n < 256 ^ k →
    big_number k (bytes_high_first k (low_bytes w128 k (pos n)) ++ rest) ≡ n
unsigned-back k n rest small fits =
    big_from-bytes k (low_bytes w128 k (pos n)) rest ∙ ap (λ (m : ℕ). m % 256 ^ k) (mod-eq_of_lt small) ∙ mod-eq_of_lt fits

-- the number in two's complement whose sign bit is clear, and whose is set
clear-complement : (k n : ℕ) → n < 2 ^ (8 * k - 1) → twos_complement k n ≡ pos n
clear-complement k n h = grind (arith, nat_tests)

set-complement : (k n : ℕ) → 2 ^ (8 * k - 1) ≤ 2 ^ (8 * k) - suc n → n < 2 ^ (8 * k) → twos_complement k (2 ^ (8 * k) - suc n) ≡ negsuc n
set-complement k n low high = grind (arith, nat_tests, ints)

-- the bytes of a signed number stand for it: `m` is how many numbers the type has
signed-back : (k h m half : ℕ) (n : ℤ) (rest : List ℕ) → 2 ^ 128 ≡ h * m + m → 2 ^ (8 * k) ≡ m → 256 ^ k ≡ m →
    2 ^ (8 * k - 1) ≡ half → m ≡ 2 * half →
    (int_le (neg_ℤ (pos half)) n && int_le n (pos (half - 1))) ≡ true →
    twos_complement k (big_number k (bytes_high_first k (low_bytes w128 k n) ++ rest)) ≡ n
signed-back k h m half (pos n) rest whole is same mid twice range =
    let small : n < half = grind (arith, ints) in
    let low : n < 2 ^ (8 * k) = omega arith in
    let fits : n < 256 ^ k = omega arith in
    ap (twos_complement k) (unsigned-back k n rest low fits) ∙ clear-complement k n (omega arith)
signed-back k h m half (negsuc n) rest whole is same mid twice range =
    let small : n < half = grind (arith, ints) in
    let low : low_bytes w128 k (negsuc n) ≡ m - suc n = ap (λ (x : ℕ). (2 ^ 128 - suc n) % x) is ∙ low-negative m h n whole (omega arith) in
    let number : big_number k (bytes_high_first k (low_bytes w128 k (negsuc n)) ++ rest) ≡ m - suc n =
    big_from-bytes k (low_bytes w128 k (negsuc n)) rest ∙ ap (λ (x : ℕ). low_bytes w128 k (negsuc n) % x) same ∙ ap (λ (x : ℕ). x % m) low
    ∙ mod-eq_of_lt (omega arith) in
    let complement : twos_complement k (2 ^ (8 * k) - suc n) ≡ negsuc n = set-complement k n (omega arith) (omega arith) in
    ap (twos_complement k) (number ∙ ap (λ (x : ℕ). x - suc n) (sym is)) ∙ complement

-- the bytes of an unsigned number of a type stand for it: `m` is how many numbers the type has
natural-back : (k m : ℕ) (n : ℤ) (rest : List ℕ) → 2 ^ (8 * k) ≡ m → 256 ^ k ≡ m → 1 ≤ m →
    (int_le (pos 0) n && int_le n (pos (m - 1))) ≡ true →
    pos (big_number k (bytes_high_first k (low_bytes w128 k n) ++ rest)) ≡ n
natural-back k m (pos n) rest is same some range =
    let small : n < m = grind (arith, ints) in
    ap pos (unsigned-back k n rest (omega arith) (omega arith))
natural-back k m (negsuc n) rest is same some range = absurd (grind (arith, ints))

-- that of each width
width-back : (w : Width) (n : ℤ) (rest : List ℕ) → in_range (Nat w) n ≡ true → number_of (Nat w) (cell_bytes (Nat w) n ++ rest) ≡ n
width-back W8 n rest range = natural-back 1 (2 ^ 8) n rest refl refl (omega arith) range
width-back W16 n rest range = natural-back 2 (2 ^ 16) n rest refl refl (omega arith) range
width-back W32 n rest range = natural-back 4 (2 ^ 32) n rest refl refl (omega arith) range
width-back W64 n rest range = natural-back 8 (2 ^ 64) n rest refl refl (omega arith) range

-- the bytes of a cell stand for its number
pub number-back : (kind : Scalar) (n : ℤ) (rest : List ℕ) → in_range kind n ≡ true → number_of kind (cell_bytes kind n ++ rest) ≡ n
number-back OfBool (pos n) rest range = let small : n ≤ 1 = grind (arith, ints) in ap pos (unsigned-back 1 n rest (omega arith) (omega arith))
number-back OfBool (negsuc n) rest range = absurd (grind (arith, ints))
number-back (Int W8) n rest range = signed-back 1 (2 ^ 120 - 1) (2 ^ 8) (2 ^ 7) n rest refl refl refl refl refl range
number-back (Int W16) n rest range = signed-back 2 (2 ^ 112 - 1) (2 ^ 16) (2 ^ 15) n rest refl refl refl refl refl range
number-back (Int W32) n rest range = signed-back 4 (2 ^ 96 - 1) (2 ^ 32) (2 ^ 31) n rest refl refl refl refl refl range
number-back (Int W64) n rest range = signed-back 8 (2 ^ 64 - 1) (2 ^ 64) (2 ^ 63) n rest refl refl refl refl refl range
number-back (Nat w) n rest range = width-back w n rest range
number-back (Bits w) n rest range = width-back w n rest range

-- ---- from bytes to a number and back

-- every list of bytes is a list of numbers below 256
abbrev pub AreBytes : List ℕ → Type 0
AreBytes bytes = (i : ℕ) → slice_index bytes i < 256

-- the bytes of a number that bytes stand for are those, and it is in its range
pub record StandsFor (kind : Scalar) (bytes : List ℕ) : Type 0 where
  pub written : cell_bytes kind (number_of kind bytes) ≡ take (size_of kind) bytes
  pub range : in_range kind (number_of kind bytes) ≡ true

-- the bytes of a number below what they can hold
number-bytes : (k x : ℕ) (bytes : List ℕ) → k ≤ length bytes → AreBytes bytes → x ≡ big_number k bytes →
    bytes_high_first k x ≡ take k bytes
number-bytes k x bytes long small is = ap (bytes_high_first k) (is ∙ sym (nothing k (big_number k bytes))) ∙ bytes-number k 0 bytes long small
  where
    nothing : (k n : ℕ) → 0 * 256 ^ k + n ≡ n
    nothing k n = omega arith

-- an unsigned one
unsigned-stands : (k m : ℕ) (bytes : List ℕ) → 2 ^ (8 * k) ≡ m → 256 ^ k ≡ m → 1 ≤ m → k ≤ length bytes → AreBytes bytes →
    (bytes_high_first k (low_bytes w128 k (pos (big_number k bytes))) ≡ take k bytes)
    × ((int_le (pos 0) (pos (big_number k bytes)) && int_le (pos (big_number k bytes)) (pos (m - 1))) ≡ true)
unsigned-stands k m bytes is same some long small =
    let fits : big_number k bytes < 256 ^ k = big_from-lt 0 k bytes small in
    let low : big_number k bytes % 2 ^ (8 * k) ≡ big_number k bytes = mod-eq_of_lt (omega arith) in
    (number-bytes k _ bytes long small low, grind (arith, ints))

-- a signed one
signed-stands : (k h m half : ℕ) (bytes : List ℕ) → 2 ^ 128 ≡ h * m + m → 2 ^ (8 * k) ≡ m → 256 ^ k ≡ m → 2 ^ (8 * k - 1) ≡ half →
    m ≡ 2 * half → k ≤ length bytes →
    AreBytes bytes → (bytes_high_first k (low_bytes w128 k (twos_complement k (big_number k bytes))) ≡ take k bytes)
    × ((int_le (neg_ℤ (pos half)) (twos_complement k (big_number k bytes)) && int_le (twos_complement k (big_number k bytes)) (pos (half - 1))) ≡ true)
signed-stands k h m half bytes whole is same mid twice long small =
    let fits : big_number k bytes < 256 ^ k = big_from-lt 0 k bytes small in
    elim (cases_lt (big_number k bytes) half) [
      | inl clear ↦
          let number : twos_complement k (big_number k bytes) ≡ pos (big_number k bytes) = clear-complement k (big_number k bytes) (omega arith) in
          let low : big_number k bytes % 2 ^ (8 * k) ≡ big_number k bytes = mod-eq_of_lt (omega arith) in
          rw number (number-bytes k _ bytes long small low, grind (arith, ints))
      | inr set ↦
          let n : ℕ = m - suc (big_number k bytes) in
          let back : m - suc n ≡ big_number k bytes = omega arith in
          let number : twos_complement k (big_number k bytes) ≡ negsuc n =
          ap (twos_complement k) (sym back ∙ ap (λ (x : ℕ). x - suc n) (sym is)) ∙ set-complement k n (omega arith) (omega arith) in
          let low : low_bytes w128 k (negsuc n) ≡ big_number k bytes = ap (λ (x : ℕ). (2 ^ 128 - suc n) % x) is
          ∙ low-negative m h n whole (omega arith) ∙ back in
          rw number (number-bytes k _ bytes long small low, grind (arith, ints))
    ]

-- both parts of what is to be shown of a number
of-pair : (kind : Scalar) (bytes : List ℕ) →
    (cell_bytes kind (number_of kind bytes) ≡ take (size_of kind) bytes) × (in_range kind (number_of kind bytes) ≡ true) → StandsFor kind bytes
of-pair kind bytes parts = record { written = parts.0; range = parts.1 }

-- bytes stand for a number of the type, where there are enough; that of a bool is 0 or 1
pub stands-for : (kind : Scalar) (bytes : List ℕ) → size_of kind ≤ length bytes → AreBytes bytes →
    (kind ≡ OfBool → slice_index bytes 0 ≤ 1) → StandsFor kind bytes
stands-for OfBool [] long small bool = absurd (omega arith)
stands-for OfBool (b ∷ bytes) long small bool =
    let one : b ≤ 1 = bool refl in
    let all = unsigned-stands 1 (2 ^ 8) (b ∷ bytes) refl refl (omega arith) long small in
    record { written = all.0; range = grind (arith, ints) }
stands-for (Int W8) bytes long small bool =
    of-pair (Int W8) bytes (signed-stands 1 (2 ^ 120 - 1) (2 ^ 8) (2 ^ 7) bytes refl refl refl refl refl long small)
stands-for (Int W16) bytes long small bool =
    of-pair (Int W16) bytes (signed-stands 2 (2 ^ 112 - 1) (2 ^ 16) (2 ^ 15) bytes refl refl refl refl refl long small)
stands-for (Int W32) bytes long small bool =
    of-pair (Int W32) bytes (signed-stands 4 (2 ^ 96 - 1) (2 ^ 32) (2 ^ 31) bytes refl refl refl refl refl long small)
stands-for (Int W64) bytes long small bool =
    of-pair (Int W64) bytes (signed-stands 8 (2 ^ 64 - 1) (2 ^ 64) (2 ^ 63) bytes refl refl refl refl refl long small)
stands-for (Nat W8) bytes long small bool = of-pair (Nat W8) bytes (unsigned-stands 1 (2 ^ 8) bytes refl refl (omega arith) long small)
stands-for (Nat W16) bytes long small bool = of-pair (Nat W16) bytes (unsigned-stands 2 (2 ^ 16) bytes refl refl (omega arith) long small)
stands-for (Nat W32) bytes long small bool = of-pair (Nat W32) bytes (unsigned-stands 4 (2 ^ 32) bytes refl refl (omega arith) long small)
stands-for (Nat W64) bytes long small bool = of-pair (Nat W64) bytes (unsigned-stands 8 (2 ^ 64) bytes refl refl (omega arith) long small)
stands-for (Bits W8) bytes long small bool = of-pair (Bits W8) bytes (unsigned-stands 1 (2 ^ 8) bytes refl refl (omega arith) long small)
stands-for (Bits W16) bytes long small bool = of-pair (Bits W16) bytes (unsigned-stands 2 (2 ^ 16) bytes refl refl (omega arith) long small)
stands-for (Bits W32) bytes long small bool = of-pair (Bits W32) bytes (unsigned-stands 4 (2 ^ 32) bytes refl refl (omega arith) long small)
stands-for (Bits W64) bytes long small bool = of-pair (Bits W64) bytes (unsigned-stands 8 (2 ^ 64) bytes refl refl (omega arith) long small)
