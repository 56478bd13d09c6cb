-- The types without parts: which whole numbers each has, and which of them a rule asks for.
use Rattle.std.specs.Prelude.{ℕ, ◌-◌, ◌^◌, ℤ, pos, neg_ℤ, ◌≤ℤ◌, Bool, true, false, ◌&&◌, int_le}
use Rattle.bl_tree.specs.declared.scalar.Width.{Width}
use Rattle.bl_tree.specs.declared.scalar.Width.TheVariants.{W8, W16, W32, W64}
use Rattle.bl_tree.specs.declared.scalar.Scalar.{Scalar}
use Rattle.bl_tree.specs.declared.scalar.Scalar.TheVariants.{Bool as OfBool, Int, Nat, Bits}

-- the number of bits of a width
abbrev pub bits_of : Width → ℕ
bits_of W8 = 8
bits_of W16 = 16
bits_of W32 = 32
bits_of W64 = 64

-- the number of bits of a scalar type
abbrev pub width_of : Scalar → ℕ
width_of OfBool = 1
width_of (Int w) = bits_of w
width_of (Nat w) = bits_of w
width_of (Bits w) = bits_of w

-- the least number of a type
abbrev pub low_of : Scalar → ℤ
low_of OfBool = pos 0
low_of (Int w) = neg_ℤ (pos (2 ^ (bits_of w - 1)))
low_of (Nat w) = pos 0
low_of (Bits w) = pos 0

-- the greatest number of a type
abbrev pub high_of : Scalar → ℤ
high_of OfBool = pos 1
high_of (Int w) = pos (2 ^ (bits_of w - 1) - 1)
high_of (Nat w) = pos (2 ^ bits_of w - 1)
high_of (Bits w) = pos (2 ^ bits_of w - 1)

-- n is a number of the type
pub record InRange (t : Scalar) (n : ℤ) : Type 0 where
  pub above : low_of t ≤ℤ n
  pub below : n ≤ℤ high_of t

-- whether n is a number of the type
abbrev pub in_range : Scalar → ℤ → Bool
in_range t n = int_le (low_of t) n && int_le n (high_of t)

-- whether a scalar type has whole numbers: any type but bool
abbrev pub is_whole : Scalar → Bool
is_whole OfBool = false
is_whole (Int w) = true
is_whole (Nat w) = true
is_whole (Bits w) = true

-- int alone, which has numbers below 0
abbrev pub is_int : Scalar → Bool
is_int OfBool = false
is_int (Int w) = true
is_int (Nat w) = false
is_int (Bits w) = false

-- bits alone, whose results wrap
abbrev pub is_bits : Scalar → Bool
is_bits OfBool = false
is_bits (Int w) = false
is_bits (Nat w) = false
is_bits (Bits w) = true

-- whether a scalar type is bool
abbrev pub is_bool : Scalar → Bool
is_bool OfBool = true
is_bool (Int w) = false
is_bool (Nat w) = false
is_bool (Bits w) = false
