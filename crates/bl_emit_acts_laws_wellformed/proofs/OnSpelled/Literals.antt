-- Numbers of a type are literals of its C type.
use Rattle.std.proofs.Common.{◌≡◌, ℤ, pos, negsuc, true, arith}
use Rattle.std.proofs.lemmas.Bool.Decides.{nat_tests}
use Rattle.std.proofs.lemmas.Int.{ints}
use Rattle.bl_tree.specs.declared.scalar.Scalar.{Scalar}
use Rattle.bl_tree.specs.declared.scalar.Scalar.TheVariants.{Bool as OfBool, Int, Nat, Bits}
use Rattle.bl_tree.specs.declared.scalar.Width.TheVariants.{W8, W16, W32, W64}
use Rattle.bl_tree.specs.Scalar.{in_range}
use Rattle.bl_ctext.specs.Spellable.{is_literal}
use Rattle.bl_emit_acts.specs.Types.{c_scalar}

pub literal-stands : (s : Scalar) (n : ℤ) → in_range s n ≡ true → is_literal (c_scalar s) n ≡ true
literal-stands OfBool (pos n) h = grind (arith, nat_tests, ints)
literal-stands (Int W8) (pos n) h = grind (arith, nat_tests, ints)
literal-stands (Int W16) (pos n) h = grind (arith, nat_tests, ints)
literal-stands (Int W32) (pos n) h = grind (arith, nat_tests, ints)
literal-stands (Int W64) (pos n) h = grind (arith, nat_tests, ints)
literal-stands (Nat W8) (pos n) h = grind (arith, nat_tests, ints)
literal-stands (Nat W16) (pos n) h = grind (arith, nat_tests, ints)
literal-stands (Nat W32) (pos n) h = grind (arith, nat_tests, ints)
literal-stands (Nat W64) (pos n) h = grind (arith, nat_tests, ints)
literal-stands (Bits W8) (pos n) h = grind (arith, nat_tests, ints)
literal-stands (Bits W16) (pos n) h = grind (arith, nat_tests, ints)
literal-stands (Bits W32) (pos n) h = grind (arith, nat_tests, ints)
literal-stands (Bits W64) (pos n) h = grind (arith, nat_tests, ints)
literal-stands (Int W8) (negsuc n) h = grind (arith, nat_tests, ints)
literal-stands (Int W16) (negsuc n) h = grind (arith, nat_tests, ints)
literal-stands (Int W32) (negsuc n) h = grind (arith, nat_tests, ints)
literal-stands (Int W64) (negsuc n) h = grind (arith, nat_tests, ints)
literal-stands OfBool (negsuc n) h = absurd (cc)
literal-stands (Nat w) (negsuc n) h = absurd (cc)
literal-stands (Bits w) (negsuc n) h = absurd (cc)
