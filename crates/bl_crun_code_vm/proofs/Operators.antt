-- What the operators of the prelude give for small natural numbers.
use Rattle.std.proofs.Common.{◌≡◌, ◌≢◌, ℕ, zero, suc, ◌+◌, ◌-◌, ◌*◌, ◌/◌, ◌%◌, ◌^◌, ◌<◌, ◌≤◌, ℤ, pos, ◌-ℤ◌}
use Rattle.std.proofs.Common.{Bool, true, false, [], ◌∷◌, Some, refl, arith, sym, ◌∙◌}
use Rattle.std.specs.Prelude.{bit_and, bit_or, bit_xor}
use Rattle.std.proofs.Math.Nat.{div-le_self}
use Rattle.std.proofs.lemmas.Int.{ints}
use Rattle.std.proofs.lemmas.Nat.{mod_below}
use Rattle.bl_tree.specs.declared.scalar.Scalar.{Scalar}
use Rattle.bl_tree.specs.declared.scalar.Scalar.TheVariants.{Bool as OfBool, Int, Nat, Bits}
use Rattle.bl_tree.specs.declared.scalar.Width.{Width}
use Rattle.bl_tree.specs.declared.scalar.Width.TheVariants.{W8, W16, W32, W64}
use Rattle.bl_tree.specs.declared.scalar.Op.{Op}
use Rattle.bl_tree.specs.declared.scalar.Op.TheVariants.{Add, BitAnd, BitOr, BitXor, Div, Mul, Rem, Shl, Shr, Sub}
use Rattle.bl_tree.specs.Numbers.{checked_of, shifted_left, shifted_right, takes_two}
use Rattle.bl_tree.specs.Scalar.{InRange, bits_of, in_range, is_whole}
use Rattle.bl_tree.proofs.NumberLemmas.{fitted_within, in_range_passes}
use Rattle.bl_ctext.specs.declared.builtin.Builtin.TheVariants.{Cast, Two}
use Rattle.bl_ctext_semantics.specs.Builtin.{in_c, widest}
use Rattle.bl_ctext_semantics_laws.specs.Flat.{prelude_value}
use Rattle.bl_crun_code_vm.specs.inner.Ranges.{limit_of, whole_width}

int-has : (w : Width) (n : ℕ) → n < 2 ^ (bits_of w - 1) → InRange (Int w) (pos n)
int-has w n h = grind (arith, ints)

nat-has : (w : Width) (n : ℕ) → n < whole_width w → InRange (Nat w) (pos n)
nat-has W8 n h = grind (arith, ints)
nat-has W16 n h = grind (arith, ints)
nat-has W32 n h = grind (arith, ints)
nat-has W64 n h = grind (arith, ints)

bits-has : (w : Width) (n : ℕ) → n < whole_width w → InRange (Bits w) (pos n)
bits-has W8 n h = grind (arith, ints)
bits-has W16 n h = grind (arith, ints)
bits-has W32 n h = grind (arith, ints)
bits-has W64 n h = grind (arith, ints)

has : (t : Scalar) (n : ℕ) → n < limit_of t → InRange t (pos n)
has OfBool n h = absurd (omega arith)
has (Int w) n h = int-has w n h
has (Nat w) n h = nat-has w n h
has (Bits w) n h = bits-has w n h

has-in-c : (t : Scalar) (n : ℕ) → n < limit_of t → in_range (in_c t) (pos n) ≡ true
has-in-c OfBool n h = absurd (omega arith)
has-in-c (Int w) n h = in_range_passes (Int w) (pos n) (int-has w n h)
has-in-c (Nat w) n h = in_range_passes (Nat w) (pos n) (nat-has w n h)
has-in-c (Bits w) n h = in_range_passes (Nat w) (pos n) (nat-has w n h)

is-whole : (t : Scalar) (n : ℕ) → n < limit_of t → is_whole t ≡ true
is-whole OfBool n h = absurd (omega arith)
is-whole (Int w) n h = refl
is-whole (Nat w) n h = refl
is-whole (Bits w) n h = refl

two-is : (op : Op) (t : Scalar) (a b : ℤ) → takes_two op t ≡ true → in_range (in_c t) a ≡ true → in_range (in_c t) b ≡ true →
    prelude_value (Two op t) (a ∷ b ∷ []) ≡ checked_of op t a b
two-is op t a b takes left right = rw (takes, left, right) refl

pub sum_stays : (t : Scalar) (limit a b : ℕ) → limit ≡ limit_of t → a < limit → b < limit → a + b < limit →
    prelude_value (Two Add t) (pos a ∷ pos b ∷ []) ≡ Some (pos (a + b))
sum_stays t limit a b is left right small =
    let l : a < limit_of t = omega arith in
    let r : b < limit_of t = omega arith in
    let n : a + b < limit_of t = omega arith in
    two-is Add t (pos a) (pos b) (is-whole t a l) (has-in-c t a l) (has-in-c t b r) ∙ fitted_within t (pos (a + b)) (has t (a + b) n)

pos-less : (a b : ℕ) → b ≤ a → pos a -ℤ pos b ≡ pos (a - b)
pos-less a b h = omega (arith, ints)

pub difference_stays : (t : Scalar) (limit a b : ℕ) → limit ≡ limit_of t → a < limit → b < limit → b ≤ a →
    prelude_value (Two Sub t) (pos a ∷ pos b ∷ []) ≡ Some (pos (a - b))
difference_stays t limit a b is left right small =
    let l : a < limit_of t = omega arith in
    let r : b < limit_of t = omega arith in
    let n : a - b < limit_of t = omega arith in
    two-is Sub t (pos a) (pos b) (is-whole t a l) (has-in-c t a l) (has-in-c t b r)
    ∙ rw (pos-less a b small) (fitted_within t (pos (a - b)) (has t (a - b) n))

pub product_stays : (t : Scalar) (limit a b : ℕ) → limit ≡ limit_of t → a < limit → b < limit → a * b < limit →
    prelude_value (Two Mul t) (pos a ∷ pos b ∷ []) ≡ Some (pos (a * b))
product_stays t limit a b is left right small =
    let l : a < limit_of t = omega arith in
    let r : b < limit_of t = omega arith in
    let n : a * b < limit_of t = rw (sym is) small in
    two-is Mul t (pos a) (pos b) (is-whole t a l) (has-in-c t a l) (has-in-c t b r) ∙ fitted_within t (pos (a * b)) (has t (a * b) n)

-- where the divisor isn't 0, a quotient and a remainder aren't above the dividend
pub quotient_stays : (t : Scalar) (limit a b : ℕ) → limit ≡ limit_of t → a < limit → b < limit → b ≢ 0 →
    prelude_value (Two Div t) (pos a ∷ pos b ∷ []) ≡ Some (pos (a / b))
quotient_stays t limit a zero is left right some = absurd (some refl)
quotient_stays t limit a (suc b) is left right some =
    let l : a < limit_of t = omega arith in
    let r : suc b < limit_of t = omega arith in
    let n : a / suc b < limit_of t = omega (arith, div-le_self a (suc b)) in
    two-is Div t (pos a) (pos (suc b)) (is-whole t a l) (has-in-c t a l) (has-in-c t (suc b) r) ∙ fitted_within t (pos (a / suc b)) (has t (a / suc b) n)

pub remainder_stays : (t : Scalar) (limit a b : ℕ) → limit ≡ limit_of t → a < limit → b < limit → b ≢ 0 →
    prelude_value (Two Rem t) (pos a ∷ pos b ∷ []) ≡ Some (pos (a % b))
remainder_stays t limit a zero is left right some = absurd (some refl)
remainder_stays t limit a (suc b) is left right some =
    let l : a < limit_of t = omega arith in
    let r : suc b < limit_of t = omega arith in
    let n : a % suc b < limit_of t = omega (arith, mod_below a (suc b) (omega arith)) in
    two-is Rem t (pos a) (pos (suc b)) (is-whole t a l) (has-in-c t a l) (has-in-c t (suc b) r) ∙ fitted_within t (pos (a % suc b)) (has t (a % suc b) n)

-- ---- binary digits

bits-are : (op : Op) (w : Width) (limit a b : ℕ) → takes_two op (Bits w) ≡ true → limit ≡ limit_of (Bits w) → a < limit → b < limit →
    prelude_value (Two op (Bits w)) (pos a ∷ pos b ∷ []) ≡ checked_of op (Bits w) (pos a) (pos b)
bits-are op w limit a b takes is left right =
    let l : a < limit_of (Bits w) = omega arith in
    let r : b < limit_of (Bits w) = omega arith in
    two-is op (Bits w) (pos a) (pos b) takes (has-in-c (Bits w) a l) (has-in-c (Bits w) b r)

pub both_are : (w : Width) (limit a b : ℕ) → limit ≡ limit_of (Bits w) → a < limit → b < limit →
    prelude_value (Two BitAnd (Bits w)) (pos a ∷ pos b ∷ []) ≡ Some (pos (bit_and a b))
both_are w limit a b = bits-are BitAnd w limit a b refl

pub either_is : (w : Width) (limit a b : ℕ) → limit ≡ limit_of (Bits w) → a < limit → b < limit →
    prelude_value (Two BitOr (Bits w)) (pos a ∷ pos b ∷ []) ≡ Some (pos (bit_or a b))
either_is w limit a b = bits-are BitOr w limit a b refl

pub one_is : (w : Width) (limit a b : ℕ) → limit ≡ limit_of (Bits w) → a < limit → b < limit →
    prelude_value (Two BitXor (Bits w)) (pos a ∷ pos b ∷ []) ≡ Some (pos (bit_xor a b))
one_is w limit a b = bits-are BitXor w limit a b refl

pub left_is : (w : Width) (limit a b : ℕ) → limit ≡ limit_of (Bits w) → a < limit → b < limit →
    prelude_value (Two Shl (Bits w)) (pos a ∷ pos b ∷ []) ≡ Some (pos (shifted_left (bits_of w) a b))
left_is w limit a b = bits-are Shl w limit a b refl

pub right_is : (w : Width) (limit a b : ℕ) → limit ≡ limit_of (Bits w) → a < limit → b < limit →
    prelude_value (Two Shr (Bits w)) (pos a ∷ pos b ∷ []) ≡ Some (pos (shifted_right (bits_of w) a b))
right_is w limit a b = bits-are Shr w limit a b refl

-- ---- casts

limit-few : (t : Scalar) → limit_of t ≤ 2 ^ 63
limit-few OfBool = omega arith
limit-few (Int W8) = omega arith
limit-few (Int W16) = omega arith
limit-few (Int W32) = omega arith
limit-few (Int W64) = omega arith
limit-few (Nat W8) = omega arith
limit-few (Nat W16) = omega arith
limit-few (Nat W32) = omega arith
limit-few (Nat W64) = omega arith
limit-few (Bits W8) = omega arith
limit-few (Bits W16) = omega arith
limit-few (Bits W32) = omega arith
limit-few (Bits W64) = omega arith

has-widest : (signed : Bool) (t : Scalar) (n : ℕ) → n < limit_of t → in_range (widest signed) (pos n) ≡ true
has-widest true t n h = in_range_passes (Int W64) (pos n) (int-has W64 n (omega (arith, limit-few t)))
has-widest false t n h = in_range_passes (Nat W64) (pos n) (nat-has W64 n (omega (arith, limit-few t)))

-- a number that a type has for certain is left by a cast as it is
pub cast_keeps : (signed : Bool) (t : Scalar) (n limit : ℕ) → limit ≡ limit_of t → n < limit → prelude_value (Cast signed t) (pos n ∷ []) ≡ Some (pos n)
cast_keeps signed t n limit is below =
    let l : n < limit_of t = omega arith in
    rw (has-widest signed t n l, in_range_passes t (pos n) (has t n l)) refl
