-- A number that is too large for every type, while its digits are still read.
use Rattle.std.proofs.Common.{◌≡◌, ℕ, suc, drop-cons, ◌+◌, ◌*◌, ◌<◌, ◌≤◌, List, [], ◌∷◌, length, get_or, refl, drop, Bool, true, false, Some, None, IfSome}
use Rattle.std.proofs.Common.{arith, if◌then◌else◌}
use Rattle.std.specs.Char.{digit_value}
use Rattle.std.specs.Str.Parse.{digits_value_after, digits_value}
use Rattle.std.proofs.Common.{◌^◌, ◌&&◌, Option, ℤ, pos, negsuc, unsigned_abs, int_le, lit<}
use Rattle.std.proofs.lemmas.Bool.Decides.{nat_tests}
use Rattle.bl_tree.specs.declared.scalar.Width.TheVariants.{W8, W16, W32, W64}
use Rattle.bl_tree.specs.declared.scalar.Scalar.{Scalar}
use Rattle.bl_tree.specs.declared.scalar.Scalar.TheVariants.{Bool as OfBool, Int, Nat, Bits}
use Rattle.bl_tree.specs.Scalar.{low_of, high_of}
use Rattle.bl_rows.specs.Fields.{number_of_digits, within}

pub value_grows : (n : ℕ) (ds : List ℕ) → n ≤ digits_value_after 10 n ds
value_grows n [] = omega arith
value_grows n (d ∷ ds) = omega (arith, value_grows (n * 10 + digit_value d) ds)

kept_beyond : (test : Bool) (v b : ℕ) → b ≤ v → IfSome (if test then Some v else None) (λ m. b ≤ m)
kept_beyond true v b h = h
kept_beyond false v b h = tt

-- the digits up to i write n, and one more makes it b or more
pub grows_beyond : (text : List ℕ) (i n b : ℕ) → i < length text → digits_value_after 10 n (drop i text) ≡ digits_value 10 text
    → b ≤ n * 10 + digit_value (get_or text i 0) → IfSome (number_of_digits text) (λ m. b ≤ m)
grows_beyond text i n b h value big =
    let d = get_or text i 0 in
    let here = drop-cons text i 0 h in
    let same : digits_value_after 10 (n * 10 + digit_value d) (drop (suc i) text) ≡ digits_value 10 text = rw here at value in
    kept_beyond _ (digits_value 10 text) b (omega (arith, value_grows (n * 10 + digit_value d) (drop (suc i) text), same))

outside : (low high z : ℤ) (b : ℕ) → unsigned_abs low < b → unsigned_abs high < b → b ≤ unsigned_abs z → (int_le low z && int_le z high) ≡ false
outside (pos l) (pos h) (pos n) b x y w = grind (arith, nat_tests)
outside (pos l) (pos h) (negsuc n) b x y w = grind (arith, nat_tests)
outside (pos l) (negsuc h) (pos n) b x y w = grind (arith, nat_tests)
outside (pos l) (negsuc h) (negsuc n) b x y w = grind (arith, nat_tests)
outside (negsuc l) (pos h) (pos n) b x y w = grind (arith, nat_tests)
outside (negsuc l) (pos h) (negsuc n) b x y w = grind (arith, nat_tests)
outside (negsuc l) (negsuc h) (pos n) b x y w = grind (arith, nat_tests)
outside (negsuc l) (negsuc h) (negsuc n) b x y w = grind (arith, nat_tests)

low_near : (t : Scalar) → unsigned_abs (low_of t) < 2 ^ 64
low_near OfBool = lit< tt
low_near (Nat w) = lit< tt
low_near (Bits w) = lit< tt
low_near (Int W8) = lit< tt
low_near (Int W16) = lit< tt
low_near (Int W32) = lit< tt
low_near (Int W64) = lit< tt

high_near : (t : Scalar) → unsigned_abs (high_of t) < 2 ^ 64
high_near OfBool = lit< tt
high_near (Nat W8) = lit< tt
high_near (Nat W16) = lit< tt
high_near (Nat W32) = lit< tt
high_near (Nat W64) = lit< tt
high_near (Bits W8) = lit< tt
high_near (Bits W16) = lit< tt
high_near (Bits W32) = lit< tt
high_near (Bits W64) = lit< tt
high_near (Int W8) = lit< tt
high_near (Int W16) = lit< tt
high_near (Int W32) = lit< tt
high_near (Int W64) = lit< tt

unpicked : (test : Bool) (z : ℤ) → test ≡ false → (if test then Some z else None) ≡ None
unpicked true z h = cc
unpicked false z h = refl

-- a number that is far from 0 is of no type
pub beyond_none : (t : Scalar) (o : Option ℤ) → IfSome o (λ z. 2 ^ 64 ≤ unsigned_abs z) → within t o ≡ None
beyond_none t None h = refl
beyond_none t (Some z) h = unpicked _ z (outside (low_of t) (high_of t) z (2 ^ 64) (low_near t) (high_near t) h)
