-- The prelude's functions by the names that are made of the words of operations and types.
use Rattle.std.proofs.Common.{◌≡◌, Bool, true, false, Some, refl}
use Rattle.bl_tree.specs.declared.scalar.Op.TheVariants.{Add, Sub, Mul, Div, Rem, Minus, BitAnd, BitOr, BitXor, BitNot, Shl, Shr}
use Rattle.bl_tree.specs.declared.scalar.Scalar.{Scalar as ScalarType}
use Rattle.bl_tree.specs.declared.scalar.Scalar.TheVariants.{Bool as OfBool, Int, Nat, Bits}
use Rattle.bl_tree.specs.declared.scalar.Width.TheVariants.{W8, W16, W32, W64}
use Rattle.bl_tree.specs.Scalar.{is_bits, is_whole}
use Rattle.bl_tree.specs.Numbers.{takes_one}
use Rattle.bl_ctext.specs.declared.builtin.Builtin.TheVariants.{Two, One, Cast}
use Rattle.bl_ctext_semantics.specs.Builtin.{builtin_of}
use Rattle.bl_emit_acts.specs.Expressions.{cast_word, function_name, operator_word}

pub add_function : (s : ScalarType) → is_whole s ≡ true → builtin_of (function_name (operator_word Add) s) ≡ Some (Two Add s)
unfolding builtin_of
add_function (Int W8) h = refl
add_function (Int W16) h = refl
add_function (Int W32) h = refl
add_function (Int W64) h = refl
add_function (Nat W8) h = refl
add_function (Nat W16) h = refl
add_function (Nat W32) h = refl
add_function (Nat W64) h = refl
add_function (Bits W8) h = refl
add_function (Bits W16) h = refl
add_function (Bits W32) h = refl
add_function (Bits W64) h = refl
add_function _ h = absurd (cc)

pub sub_function : (s : ScalarType) → is_whole s ≡ true → builtin_of (function_name (operator_word Sub) s) ≡ Some (Two Sub s)
unfolding builtin_of
sub_function (Int W8) h = refl
sub_function (Int W16) h = refl
sub_function (Int W32) h = refl
sub_function (Int W64) h = refl
sub_function (Nat W8) h = refl
sub_function (Nat W16) h = refl
sub_function (Nat W32) h = refl
sub_function (Nat W64) h = refl
sub_function (Bits W8) h = refl
sub_function (Bits W16) h = refl
sub_function (Bits W32) h = refl
sub_function (Bits W64) h = refl
sub_function _ h = absurd (cc)

pub mul_function : (s : ScalarType) → is_whole s ≡ true → builtin_of (function_name (operator_word Mul) s) ≡ Some (Two Mul s)
unfolding builtin_of
mul_function (Int W8) h = refl
mul_function (Int W16) h = refl
mul_function (Int W32) h = refl
mul_function (Int W64) h = refl
mul_function (Nat W8) h = refl
mul_function (Nat W16) h = refl
mul_function (Nat W32) h = refl
mul_function (Nat W64) h = refl
mul_function (Bits W8) h = refl
mul_function (Bits W16) h = refl
mul_function (Bits W32) h = refl
mul_function (Bits W64) h = refl
mul_function _ h = absurd (cc)

pub div_function : (s : ScalarType) → is_whole s ≡ true → builtin_of (function_name (operator_word Div) s) ≡ Some (Two Div s)
unfolding builtin_of
div_function (Int W8) h = refl
div_function (Int W16) h = refl
div_function (Int W32) h = refl
div_function (Int W64) h = refl
div_function (Nat W8) h = refl
div_function (Nat W16) h = refl
div_function (Nat W32) h = refl
div_function (Nat W64) h = refl
div_function (Bits W8) h = refl
div_function (Bits W16) h = refl
div_function (Bits W32) h = refl
div_function (Bits W64) h = refl
div_function _ h = absurd (cc)

pub rem_function : (s : ScalarType) → is_whole s ≡ true → builtin_of (function_name (operator_word Rem) s) ≡ Some (Two Rem s)
unfolding builtin_of
rem_function (Int W8) h = refl
rem_function (Int W16) h = refl
rem_function (Int W32) h = refl
rem_function (Int W64) h = refl
rem_function (Nat W8) h = refl
rem_function (Nat W16) h = refl
rem_function (Nat W32) h = refl
rem_function (Nat W64) h = refl
rem_function (Bits W8) h = refl
rem_function (Bits W16) h = refl
rem_function (Bits W32) h = refl
rem_function (Bits W64) h = refl
rem_function _ h = absurd (cc)

pub and_function : (s : ScalarType) → is_bits s ≡ true → builtin_of (function_name (operator_word BitAnd) s) ≡ Some (Two BitAnd s)
unfolding builtin_of
and_function (Bits W8) h = refl
and_function (Bits W16) h = refl
and_function (Bits W32) h = refl
and_function (Bits W64) h = refl
and_function _ h = absurd (cc)

pub or_function : (s : ScalarType) → is_bits s ≡ true → builtin_of (function_name (operator_word BitOr) s) ≡ Some (Two BitOr s)
unfolding builtin_of
or_function (Bits W8) h = refl
or_function (Bits W16) h = refl
or_function (Bits W32) h = refl
or_function (Bits W64) h = refl
or_function _ h = absurd (cc)

pub xor_function : (s : ScalarType) → is_bits s ≡ true → builtin_of (function_name (operator_word BitXor) s) ≡ Some (Two BitXor s)
unfolding builtin_of
xor_function (Bits W8) h = refl
xor_function (Bits W16) h = refl
xor_function (Bits W32) h = refl
xor_function (Bits W64) h = refl
xor_function _ h = absurd (cc)

pub shl_function : (s : ScalarType) → is_bits s ≡ true → builtin_of (function_name (operator_word Shl) s) ≡ Some (Two Shl s)
unfolding builtin_of
shl_function (Bits W8) h = refl
shl_function (Bits W16) h = refl
shl_function (Bits W32) h = refl
shl_function (Bits W64) h = refl
shl_function _ h = absurd (cc)

pub shr_function : (s : ScalarType) → is_bits s ≡ true → builtin_of (function_name (operator_word Shr) s) ≡ Some (Two Shr s)
unfolding builtin_of
shr_function (Bits W8) h = refl
shr_function (Bits W16) h = refl
shr_function (Bits W32) h = refl
shr_function (Bits W64) h = refl
shr_function _ h = absurd (cc)

pub neg_function : (s : ScalarType) → takes_one Minus s ≡ true → builtin_of (function_name (operator_word Minus) s) ≡ Some (One Minus s)
unfolding builtin_of
neg_function (Int W8) h = refl
neg_function (Int W16) h = refl
neg_function (Int W32) h = refl
neg_function (Int W64) h = refl
neg_function (Bits W8) h = refl
neg_function (Bits W16) h = refl
neg_function (Bits W32) h = refl
neg_function (Bits W64) h = refl
neg_function _ h = absurd (cc)

pub not_function : (s : ScalarType) → is_bits s ≡ true → builtin_of (function_name (operator_word BitNot) s) ≡ Some (One BitNot s)
unfolding builtin_of
not_function (Bits W8) h = refl
not_function (Bits W16) h = refl
not_function (Bits W32) h = refl
not_function (Bits W64) h = refl
not_function _ h = absurd (cc)

pub cast_function : (signed : Bool) (s : ScalarType) → is_whole s ≡ true → builtin_of (function_name (cast_word signed) s) ≡ Some (Cast signed s)
unfolding builtin_of
cast_function true (Int W8) h = refl
cast_function true (Int W16) h = refl
cast_function true (Int W32) h = refl
cast_function true (Int W64) h = refl
cast_function true (Nat W8) h = refl
cast_function true (Nat W16) h = refl
cast_function true (Nat W32) h = refl
cast_function true (Nat W64) h = refl
cast_function true (Bits W8) h = refl
cast_function true (Bits W16) h = refl
cast_function true (Bits W32) h = refl
cast_function true (Bits W64) h = refl
cast_function false (Int W8) h = refl
cast_function false (Int W16) h = refl
cast_function false (Int W32) h = refl
cast_function false (Int W64) h = refl
cast_function false (Nat W8) h = refl
cast_function false (Nat W16) h = refl
cast_function false (Nat W32) h = refl
cast_function false (Nat W64) h = refl
cast_function false (Bits W8) h = refl
cast_function false (Bits W16) h = refl
cast_function false (Bits W32) h = refl
cast_function false (Bits W64) h = refl
cast_function true OfBool h = absurd (cc)
cast_function false OfBool h = absurd (cc)
