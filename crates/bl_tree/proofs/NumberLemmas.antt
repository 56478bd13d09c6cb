-- What holds of the ranges and the arithmetic of the types without parts.
use Rattle.std.proofs.Common.{◌≡◌, ℕ, ◌-◌, ◌/◌, ◌^◌, ◌<◌, ◌≤◌, ℤ, pos, negsuc, ◌-ℤ◌, ◌*ℤ◌, neg_ℤ, Bool, true, false, IsTrue, refl, ap, arith, to_z, of_z}
use Rattle.std.proofs.Common.{unsigned_abs, bit_and, bit_or, bit_xor, Option, Some, IfSome, nat_lt, lit<, zero, suc, FitsSigned, int_div}
use Rattle.std.proofs.Math.Nat.{div-le_self, mod-eq_of_lt}
use Rattle.std.proofs.lemmas.Int.{ints, to_z_pos, fits_signed_mul, fits_signed_from_abs}
use Rattle.std.proofs.lemmas.Nat.{and_le_l, div-add-mod', or_lt, xor_lt, shr_le, pow_pos}
use Rattle.std.specs.Int.{w128, int_rem_euclid}
use Rattle.bl_tree.specs.declared.scalar.Width.{Width}
use Rattle.bl_tree.specs.declared.scalar.Width.TheVariants.{W8, W16, W32, W64}
use Rattle.bl_tree.specs.declared.scalar.Scalar.{Scalar}
use Rattle.bl_tree.specs.declared.scalar.Scalar.TheVariants.{Bool as OfBool, Int, Nat, Bits}
use Rattle.bl_tree.specs.declared.scalar.Op.{Op}
use Rattle.bl_tree.specs.declared.scalar.Op.TheVariants.{Add, Sub, Mul, Div, Rem, Minus, BitAnd, BitOr, BitXor, BitNot, Shl, Shr, Eq, Ne, Lt, Le, Gt, Ge, And}
use Rattle.bl_tree.specs.declared.scalar.Op.TheVariants.{Or, Not}
use Rattle.bl_tree.specs.Scalar.{bits_of, width_of, in_range, is_bits, InRange}
use Rattle.bl_tree.specs.Numbers.{fitted, WrapsTo, divided_by, number_of, checked_of, checked_one_of, TakesTwo, TakesOne, type_of_result, left_digits}
use Rattle.bl_tree.specs.Numbers.{right_digits, shifted_left, shifted_right}

-- a number below 2 to the width is one of the bits type
pub in_bits : (w : Width) (r : ℕ) → r < 2 ^ bits_of w → InRange (Bits w) (pos r)
in_bits w r h = record { above = omega (arith, ints); below = omega (arith, ints) }

-- a number of a bits type is below 2 to the width, and not below 0
pub bits_small : (w : Width) (n : ℕ) → InRange (Bits w) (pos n) → n < 2 ^ bits_of w
bits_small w n h = let some = pow_pos (bits_of w) in omega (arith, ints, h.below)

pub bits_not_negative : {X : Type 0} (w : Width) (n : ℕ) → InRange (Bits w) (negsuc n) → X
bits_not_negative w n h = absurd (omega (arith, ints, h.above))

-- what a type makes of a result is a number of the type
pub fitted-in_range : (t : Scalar) (z : ℤ) → IfSome (fitted t z) (InRange t)
fitted-in_range OfBool z = grind (arith, ints)
fitted-in_range (Int w) z = grind (arith, ints)
fitted-in_range (Nat w) z = grind (arith, ints)
fitted-in_range (Bits w) (pos n) = let some = pow_pos (bits_of w) in in_bits w _ (omega arith)
fitted-in_range (Bits w) (negsuc n) = let some = pow_pos (bits_of w) in in_bits w _ (omega arith)

-- a result that the type has stays as it is
pub fitted_within : (t : Scalar) (z : ℤ) → InRange t z → fitted t z ≡ Some z
fitted_within OfBool z h = grind (arith, ints)
fitted_within (Int w) z h = grind (arith, ints)
fitted_within (Nat w) z h = grind (arith, ints)
fitted_within (Bits w) (pos n) h = ap (λ (m : ℕ). Some (pos m)) (mod-eq_of_lt (bits_small w n h))
fitted_within (Bits w) (negsuc n) h = bits_not_negative w n h

-- the test passes at the numbers of the type alone
pub in_range_holds : (t : Scalar) (n : ℤ) → IsTrue (in_range t n) → InRange t n
in_range_holds t n h = grind (arith, ints)

pub in_range_passes : (t : Scalar) (n : ℤ) → InRange t n → in_range t n ≡ true
in_range_passes t n h = grind (arith, ints)

-- what bits keep of a result
pub bits-wrap : (w : Width) (z : ℤ) → WrapsTo w z (int_rem_euclid z (pos (2 ^ bits_of w)))
bits-wrap w (pos n) = record {
  in_type = fitted-in_range (Bits w) (pos n);
  turns = pos (n / 2 ^ bits_of w);
  differs = omega (arith, ints, div-add-mod' n (2 ^ bits_of w));
}
bits-wrap w (negsuc n) = record {
  in_type = fitted-in_range (Bits w) (negsuc n);
  turns = negsuc (n / 2 ^ bits_of w);
  differs = let some = pow_pos (bits_of w) in omega (arith, ints, div-add-mod' n (2 ^ bits_of w));
}

-- what bits below 2 to the width give by digits is below it too
pub bit_and_small : (k a b : ℕ) → a < 2 ^ k → bit_and a b < 2 ^ k
bit_and_small k a b h = omega (arith, and_le_l a b)

-- a code's digits, in 128 bits, where the result is below 2 to the width
pub wide_digits : (w : Width) (n : ℕ) → n < 2 ^ bits_of w → to_z w128 n ≡ pos n
wide_digits W8 n h = to_z_pos w128 n (omega arith)
wide_digits W16 n h = to_z_pos w128 n (omega arith)
wide_digits W32 n h = to_z_pos w128 n (omega arith)
wide_digits W64 n h = to_z_pos w128 n (omega arith)

pub either_is : (t : Scalar) (a b : ℤ) → IsTrue (is_bits t) → InRange t a → InRange t b →
    to_z w128 (bit_or (of_z w128 a) (of_z w128 b)) ≡ pos (bit_or (unsigned_abs a) (unsigned_abs b))
either_is (Bits w) (pos n) (pos m) _ h k = wide_digits w _ (or_lt _ n m (bits_small w _ h) (bits_small w _ k))
either_is (Bits w) (pos n) (negsuc m) _ h k = bits_not_negative w m k
either_is (Bits w) (negsuc n) b _ h k = bits_not_negative w n h
either_is OfBool a b t h k = grind arith
either_is (Int w) a b t h k = grind arith
either_is (Nat w) a b t h k = grind arith

-- how far from 0 a number of a type lies at most
pub magnitude_le : (t : Scalar) (a : ℤ) → InRange t a → unsigned_abs a ≤ 2 ^ 64
magnitude_le OfBool a h = grind (arith, ints)
magnitude_le (Int W8) a h = grind (arith, ints)
magnitude_le (Int W16) a h = grind (arith, ints)
magnitude_le (Int W32) a h = grind (arith, ints)
magnitude_le (Int W64) a h = grind (arith, ints)
magnitude_le (Nat W8) a h = grind (arith, ints)
magnitude_le (Nat W16) a h = grind (arith, ints)
magnitude_le (Nat W32) a h = grind (arith, ints)
magnitude_le (Nat W64) a h = grind (arith, ints)
magnitude_le (Bits W8) a h = grind (arith, ints)
magnitude_le (Bits W16) a h = grind (arith, ints)
magnitude_le (Bits W32) a h = grind (arith, ints)
magnitude_le (Bits W64) a h = grind (arith, ints)

pub int_magnitude_le : (w : Width) (a : ℤ) → InRange (Int w) a → unsigned_abs a ≤ 2 ^ 63
int_magnitude_le W8 a h = grind (arith, ints)
int_magnitude_le W16 a h = grind (arith, ints)
int_magnitude_le W32 a h = grind (arith, ints)
int_magnitude_le W64 a h = grind (arith, ints)

-- 128 bits hold each product of two ints
ints_product_fits : (w : Width) (a b : ℤ) → InRange (Int w) a → InRange (Int w) b → FitsSigned w128 (a *ℤ b)
ints_product_fits w a b h k = fits_signed_mul w128 a b (2 ^ 63) (2 ^ 63) (int_magnitude_le w a h) (int_magnitude_le w b k) (lit< tt)

pub int_product_fits : (t : Scalar) (w : Width) (a b : ℤ) → t ≡ Int w → InRange t a → InRange t b → FitsSigned w128 (a *ℤ b)
int_product_fits t w a b e h k = ints_product_fits w a b (rw e at h) (rw e at k)

pub zero-minus : (a : ℤ) → pos 0 -ℤ a ≡ neg_ℤ a
zero-minus a = omega (arith, ints)

-- a division by what isn't 0 has its result
pub divided : (d : ℤ) (r : Option ℤ) → (of_z w128 d ≡ 0 → ⊥) → divided_by d r ≡ r
divided (pos zero) r h = absurd (h refl)
divided (pos (suc n)) r h = refl
divided (negsuc n) r h = refl

-- a quotient lies no farther from 0 than the dividend
unsigned_abs-neg : (n : ℕ) → unsigned_abs (neg_ℤ (pos n)) ≡ n
unsigned_abs-neg zero = refl
unsigned_abs-neg (suc n) = refl

quotient_le : (a d : ℤ) → unsigned_abs (int_div a d) ≤ unsigned_abs a
quotient_le (pos a) (pos d) = div-le_self a d
quotient_le (pos a) (negsuc d) = rw unsigned_abs-neg (div-le_self a (suc d))
quotient_le (negsuc a) (pos d) = rw unsigned_abs-neg (div-le_self (suc a) d)
quotient_le (negsuc a) (negsuc d) = div-le_self (suc a) (suc d)

-- 128 bits hold each quotient
pub quotient_fits : (t : Scalar) (a d : ℤ) → InRange t a → FitsSigned w128 (int_div a d)
quotient_fits t a d h = fits_signed_from_abs w128 (int_div a d) (omega (arith, quotient_le a d, magnitude_le t a h))

-- ---- a result is a number of its type

-- what a rule on binary digits gives for two numbers of a bits type is one too, where the rule keeps to the width
digits-in_range : (f : ℕ → ℕ → ℕ → ℕ) → ((k n m : ℕ) → n < 2 ^ k → m < 2 ^ k → f k n m < 2 ^ k) → (t : Scalar) (a b : ℤ) →
    IsTrue (is_bits t) → InRange t a → InRange t b → InRange t (pos (f (width_of t) (unsigned_abs a) (unsigned_abs b)))
digits-in_range f keeps (Bits w) (pos n) (pos m) _ h k = in_bits w _ (keeps (bits_of w) n m (bits_small w n h) (bits_small w m k))
digits-in_range f keeps (Bits w) (pos n) (negsuc m) _ h k = bits_not_negative w m k
digits-in_range f keeps (Bits w) (negsuc n) b _ h k = bits_not_negative w n h
digits-in_range f keeps OfBool a b t h k = grind arith
digits-in_range f keeps (Int w) a b t h k = grind arith
digits-in_range f keeps (Nat w) a b t h k = grind arith

left_digits_lt : (below : Bool) (w n k : ℕ) → left_digits below w n k < 2 ^ w
left_digits_lt true w n k = let some = pow_pos w in omega arith
left_digits_lt false w n k = pow_pos w

right_digits_le : (below : Bool) (n k : ℕ) → right_digits below n k ≤ n
right_digits_le true n k = shr_le n k
right_digits_le false n k = omega arith

shifted_right_lt : (w n k : ℕ) → n < 2 ^ w → shifted_right w n k < 2 ^ w
shifted_right_lt w n k h = omega (arith, right_digits_le (nat_lt k w) n k)

complement-in_range : (t : Scalar) (a : ℤ) → IsTrue (is_bits t) → InRange t a → InRange t (pos (2 ^ width_of t - 1) -ℤ a)
complement-in_range (Bits w) a _ h = record { above = omega (arith, ints, h.above, h.below); below = omega (arith, ints, h.above, h.below) }
complement-in_range OfBool a t h = grind arith
complement-in_range (Int w) a t h = grind arith
complement-in_range (Nat w) a t h = grind arith

number_of-in_range : (b : Bool) → InRange OfBool (number_of b)
number_of-in_range true = grind (arith, ints)
number_of-in_range false = grind (arith, ints)

divided_by-in_range : (t : Scalar) (d : ℤ) (r : Option ℤ) → IfSome r (InRange t) → IfSome (divided_by d r) (InRange t)
divided_by-in_range t (pos zero) r h = tt
divided_by-in_range t (pos (suc n)) r h = h
divided_by-in_range t (negsuc n) r h = h

-- what an operator gives is a number of its result's type
pub checked_of-in_range : (op : Op) (t : Scalar) (a b : ℤ) → TakesTwo op t → InRange t a → InRange t b →
    IfSome (checked_of op t a b) (InRange (type_of_result op t))
checked_of-in_range Add t a b takes h k = fitted-in_range t _
checked_of-in_range Sub t a b takes h k = fitted-in_range t _
checked_of-in_range Mul t a b takes h k = fitted-in_range t _
checked_of-in_range Div t a b takes h k = divided_by-in_range t b _ (fitted-in_range t _)
checked_of-in_range Rem t a b takes h k = divided_by-in_range t b _ (fitted-in_range t _)
checked_of-in_range BitAnd t a b takes h k = digits-in_range (λ _ n m. bit_and n m) (λ w n m p _. bit_and_small w n m p) t a b takes h k
checked_of-in_range BitOr t a b takes h k = digits-in_range (λ _ n m. bit_or n m) (λ w n m p q. or_lt w n m p q) t a b takes h k
checked_of-in_range BitXor t a b takes h k = digits-in_range (λ _ n m. bit_xor n m) (λ w n m p q. xor_lt w n m p q) t a b takes h k
checked_of-in_range Shl t a b takes h k = digits-in_range (λ w n m. shifted_left w n m) (λ w n m _ _. left_digits_lt (nat_lt m w) w n m) t a b takes h k
checked_of-in_range Shr t a b takes h k = digits-in_range (λ w n m. shifted_right w n m) (λ w n m p _. shifted_right_lt w n m p) t a b takes h k
checked_of-in_range Eq t a b takes h k = number_of-in_range _
checked_of-in_range Ne t a b takes h k = number_of-in_range _
checked_of-in_range Lt t a b takes h k = number_of-in_range _
checked_of-in_range Le t a b takes h k = number_of-in_range _
checked_of-in_range Gt t a b takes h k = number_of-in_range _
checked_of-in_range Ge t a b takes h k = number_of-in_range _
checked_of-in_range And t a b takes h k = number_of-in_range _
checked_of-in_range Or t a b takes h k = number_of-in_range _
checked_of-in_range Minus t a b takes h k = tt
checked_of-in_range BitNot t a b takes h k = tt
checked_of-in_range Not t a b takes h k = tt

pub checked_one_of-in_range : (op : Op) (t : Scalar) (a : ℤ) → TakesOne op t → InRange t a →
    IfSome (checked_one_of op t a) (InRange (type_of_result op t))
checked_one_of-in_range Minus t a takes h = fitted-in_range t _
checked_one_of-in_range BitNot t a takes h = complement-in_range t a takes h
checked_one_of-in_range Not t a takes h = number_of-in_range _
checked_one_of-in_range _ t a takes h = tt
