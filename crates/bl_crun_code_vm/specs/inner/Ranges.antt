-- Which natural numbers a type has for certain.
use Rattle.std.specs.Prelude.{ℕ, ◌-◌, ◌^◌}
use Rattle.bl_tree.specs.declared.scalar.Width.{Width}
use Rattle.bl_tree.specs.declared.scalar.Width.TheVariants.{W8, W16, W32, W64}
use Rattle.bl_tree.specs.declared.scalar.Scalar.{Scalar}
use Rattle.bl_tree.specs.declared.scalar.Scalar.TheVariants.{Bool as OfBool, Int, Nat, Bits}
use Rattle.bl_tree.specs.Scalar.{bits_of}

-- nat and bits of a width have all natural numbers below this, which 64 bits hold
abbrev pub whole_width : Width → ℕ
whole_width W8 = 2 ^ 8
whole_width W16 = 2 ^ 16
whole_width W32 = 2 ^ 32
whole_width W64 = 2 ^ 63

-- a type has all natural numbers below this; bool has none below it
abbrev pub limit_of : Scalar → ℕ
limit_of OfBool = 0
limit_of (Int w) = 2 ^ (bits_of w - 1)
limit_of (Nat w) = whole_width w
limit_of (Bits w) = whole_width w
