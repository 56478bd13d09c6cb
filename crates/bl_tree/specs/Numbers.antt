-- The arithmetic of the types without parts, by exact whole numbers.
use Rattle.std.specs.Prelude.{◌≡◌, ℕ, zero, suc, ◌-◌, ◌*◌, ◌/◌, ◌%◌, ◌^◌, ℤ, pos, negsuc, neg_ℤ, ◌+ℤ◌, ◌-ℤ◌, ◌*ℤ◌, Bool, true, false, not, ◌&&◌, ◌||◌, int_lt}
use Rattle.std.specs.Prelude.{int_le, int_div, int_rem, unsigned_abs, nat_lt, bit_and, bit_or, bit_xor, Option, Some, None, IsTrue, if◌then◌else◌}
use Rattle.std.specs.Int.{int_rem_euclid}
use Rattle.std.specs.Ordering.{int_eq}
use Rattle.bl_tree.specs.declared.scalar.Width.{Width}
use Rattle.bl_tree.specs.declared.scalar.Scalar.{Scalar}
use Rattle.bl_tree.specs.declared.scalar.Scalar.TheVariants.{Bool as OfBool, Bits}
use Rattle.bl_tree.specs.declared.scalar.Op.{Op}
use Rattle.bl_tree.specs.declared.scalar.Op.TheVariants.{Add, Sub, Mul, Div, Rem, Minus, BitAnd, BitOr, BitXor, BitNot, Shl, Shr, Eq, Ne, Lt, Le, Gt, Ge, And}
use Rattle.bl_tree.specs.declared.scalar.Op.TheVariants.{Or, Not}
use Rattle.bl_tree.specs.Scalar.{bits_of, width_of, in_range, is_whole, is_int, is_bits, is_bool, InRange}

-- ---- which operator takes operands of which type

-- whether the operator takes two operands of the type
abbrev pub takes_two : Op → Scalar → Bool
takes_two Add t = is_whole t
takes_two Sub t = is_whole t
takes_two Mul t = is_whole t
takes_two Div t = is_whole t
takes_two Rem t = is_whole t
takes_two BitAnd t = is_bits t
takes_two BitOr t = is_bits t
takes_two BitXor t = is_bits t
takes_two Shl t = is_bits t
takes_two Shr t = is_bits t
takes_two Eq t = true
takes_two Ne t = true
takes_two Lt t = is_whole t
takes_two Le t = is_whole t
takes_two Gt t = is_whole t
takes_two Ge t = is_whole t
takes_two And t = is_bool t
takes_two Or t = is_bool t
takes_two Minus t = false
takes_two BitNot t = false
takes_two Not t = false

-- whether the operator takes one operand of the type
abbrev pub takes_one : Op → Scalar → Bool
takes_one Minus t = is_int t || is_bits t
takes_one BitNot t = is_bits t
takes_one Not t = is_bool t
takes_one _ t = false

-- the operator takes two operands of the type
abbrev pub TakesTwo : Op → Scalar → Type 0
TakesTwo op t = IsTrue (takes_two op t)

-- the operator takes one operand of the type
abbrev pub TakesOne : Op → Scalar → Type 0
TakesOne op t = IsTrue (takes_one op t)

-- the type of what the operator gives: bool for a comparison and between bools, else the operands' type
abbrev pub type_of_result : Op → Scalar → Scalar
type_of_result Eq t = OfBool
type_of_result Ne t = OfBool
type_of_result Lt t = OfBool
type_of_result Le t = OfBool
type_of_result Gt t = OfBool
type_of_result Ge t = OfBool
type_of_result And t = OfBool
type_of_result Or t = OfBool
type_of_result Not t = OfBool
type_of_result _ t = t

-- ---- what they give

-- true is 1, false is 0
abbrev pub number_of : Bool → ℤ
number_of true = pos 1
number_of false = pos 0

-- whether a number of type bool is true
abbrev pub is_one : ℤ → Bool
is_one z = int_eq z (pos 1)

-- a result in its type: bits keep its remainder by 2 to the width; other types trap where it is out of range
abbrev pub fitted : Scalar → ℤ → Option ℤ
fitted (Bits w) z = Some (int_rem_euclid z (pos (2 ^ bits_of w)))
fitted t z = if in_range t z then Some z else None

-- kept is the number of the bits type that differs from z by a multiple of 2 to the width
pub record WrapsTo (w : Width) (z kept : ℤ) : Type 0 where
  pub in_type : InRange (Bits w) kept
  pub turns : ℤ
  pub differs : z ≡ kept +ℤ turns *ℤ pos (2 ^ bits_of w)

-- a result of a division by d, which traps where d is 0
abbrev pub divided_by : ℤ → Option ℤ → Option ℤ
divided_by (pos zero) r = None
divided_by (pos (suc n)) r = r
divided_by (negsuc n) r = r

-- a shift left in a width of w bits; the first argument is the test that spares powers of a large k
abbrev pub left_digits : Bool → ℕ → ℕ → ℕ → ℕ
left_digits true w n k = n * 2 ^ k % 2 ^ w
left_digits false w n k = 0

-- n without its last k binary digits
abbrev pub right_digits : Bool → ℕ → ℕ → ℕ
right_digits true n k = n / 2 ^ k
right_digits false n k = 0

-- shifts at a width of w bits: by w or more they leave 0
abbrev pub shifted_left : ℕ → ℕ → ℕ → ℕ
shifted_left w n k = left_digits (nat_lt k w) w n k

-- n shifted to the right by k: its last k digits are gone, and by w or more nothing is left
abbrev pub shifted_right : ℕ → ℕ → ℕ → ℕ
shifted_right w n k = right_digits (nat_lt k w) n k

-- the result of a binary operator, none where it traps; quotients round toward 0, remainders have the dividend's sign
abbrev pub checked_of : Op → Scalar → ℤ → ℤ → Option ℤ
checked_of Add t a b = fitted t (a +ℤ b)
checked_of Sub t a b = fitted t (a -ℤ b)
checked_of Mul t a b = fitted t (a *ℤ b)
checked_of Div t a b = divided_by b (fitted t (int_div a b))
checked_of Rem t a b = divided_by b (fitted t (int_rem a b))
checked_of BitAnd t a b = Some (pos (bit_and (unsigned_abs a) (unsigned_abs b)))
checked_of BitOr t a b = Some (pos (bit_or (unsigned_abs a) (unsigned_abs b)))
checked_of BitXor t a b = Some (pos (bit_xor (unsigned_abs a) (unsigned_abs b)))
checked_of Shl t a b = Some (pos (shifted_left (width_of t) (unsigned_abs a) (unsigned_abs b)))
checked_of Shr t a b = Some (pos (shifted_right (width_of t) (unsigned_abs a) (unsigned_abs b)))
checked_of Eq t a b = Some (number_of (int_eq a b))
checked_of Ne t a b = Some (number_of (not (int_eq a b)))
checked_of Lt t a b = Some (number_of (int_lt a b))
checked_of Le t a b = Some (number_of (int_le a b))
checked_of Gt t a b = Some (number_of (int_lt b a))
checked_of Ge t a b = Some (number_of (int_le b a))
checked_of And t a b = Some (number_of (is_one a && is_one b))
checked_of Or t a b = Some (number_of (is_one a || is_one b))
checked_of Minus t a b = None
checked_of BitNot t a b = None
checked_of Not t a b = None

-- the result of a unary operator for a number of a type that it takes, none where it traps
abbrev pub checked_one_of : Op → Scalar → ℤ → Option ℤ
checked_one_of Minus t a = fitted t (neg_ℤ a)
checked_one_of BitNot t a = Some (pos (2 ^ width_of t - 1) -ℤ a)
checked_one_of Not t a = Some (number_of (not (is_one a)))
checked_one_of _ t a = None
