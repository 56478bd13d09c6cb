-- What the prelude's functions take and give, by the names that are made of the words of operations and types.
use Rattle.std.proofs.Common.{◌≡◌, Bool, true, false, Some, None, refl}
use Rattle.std.proofs.lemmas.Slice.Eq.{bytes_eq-Decides}
use Rattle.bl_tree.specs.declared.scalar.Op.TheVariants.{Add, Sub, Mul, Div, Rem, Minus, BitAnd, BitOr, BitXor, BitNot, Shl, Shr}
use Rattle.bl_tree.specs.declared.text.Text.{Text}
use Rattle.bl_tree.specs.declared.scalar.Scalar.{Scalar as ScalarType}
use Rattle.bl_tree.specs.declared.scalar.Scalar.TheVariants.{Bool as OfBool, Int, Nat, Bits}
use Rattle.bl_tree.specs.declared.scalar.Width.{Width}
use Rattle.bl_tree.specs.declared.scalar.Width.TheVariants.{W8, W16, W32, W64}
use Rattle.bl_tree.specs.declared.c.CType.{CType}
use Rattle.bl_tree.specs.declared.c.CType.TheVariants.{Scalar as OfScalar, Struct as OfStruct}
use Rattle.bl_tree.specs.Scalar.{is_bits, is_int, is_whole}
use Rattle.bl_tree.specs.Numbers.{takes_one}
use Rattle.bl_ctext.specs.declared.builtin.Builtin.{Builtin}
use Rattle.bl_ctext.specs.declared.builtin.Builtin.TheVariants.{Two, One, Cast}
use Rattle.bl_ctext_semantics.specs.Builtin.{builtin_of, in_c, widest}
use Rattle.bl_ctext_semantics.specs.Faults.{fits_param, indexes, same_type, same_width}
use Rattle.bl_emit_acts.specs.Expressions.{cast_word, function_name, operator_word}
use Rattle.bl_emit_acts.specs.Types.{c_scalar, unit_name}

-- what holds of each whole-number type
pub each_whole : (P : ScalarType → Type 0) → P (Int W8) → P (Int W16) → P (Int W32) → P (Int W64)
    → P (Nat W8) → P (Nat W16) → P (Nat W32) → P (Nat W64) →
    P (Bits W8) → P (Bits W16) → P (Bits W32) → P (Bits W64) → (s : ScalarType) → is_whole s ≡ true → P s
each_whole P a b c d e f g h i j k l (Int W8) whole = a
each_whole P a b c d e f g h i j k l (Int W16) whole = b
each_whole P a b c d e f g h i j k l (Int W32) whole = c
each_whole P a b c d e f g h i j k l (Int W64) whole = d
each_whole P a b c d e f g h i j k l (Nat W8) whole = e
each_whole P a b c d e f g h i j k l (Nat W16) whole = f
each_whole P a b c d e f g h i j k l (Nat W32) whole = g
each_whole P a b c d e f g h i j k l (Nat W64) whole = h
each_whole P a b c d e f g h i j k l (Bits W8) whole = i
each_whole P a b c d e f g h i j k l (Bits W16) whole = j
each_whole P a b c d e f g h i j k l (Bits W32) whole = k
each_whole P a b c d e f g h i j k l (Bits W64) whole = l
each_whole P a b c d e f g h i j k l OfBool whole = absurd (cc)

-- what holds of each bits type
pub each_bits : (P : ScalarType → Type 0) → P (Bits W8) → P (Bits W16) → P (Bits W32)
    → P (Bits W64) → (s : ScalarType) → is_bits s ≡ true → P s
each_bits P a b c d (Bits W8) bits = a
each_bits P a b c d (Bits W16) bits = b
each_bits P a b c d (Bits W32) bits = c
each_bits P a b c d (Bits W64) bits = d
each_bits P a b c d OfBool bits = absurd (cc)
each_bits P a b c d (Int w) bits = absurd (cc)
each_bits P a b c d (Nat w) bits = absurd (cc)

-- ---- names

-- the prelude has this function for a type
abbrev pub Named : Text → (ScalarType → Builtin) → ScalarType → Type 0
Named word make s = builtin_of (function_name word s) ≡ Some (make s)

pub add_named : (s : ScalarType) → is_whole s ≡ true → Named (operator_word Add) (Two Add) s
unfolding builtin_of
add_named = each_whole (Named (operator_word Add) (Two Add)) refl refl refl refl refl refl refl refl refl refl refl refl

pub sub_named : (s : ScalarType) → is_whole s ≡ true → Named (operator_word Sub) (Two Sub) s
unfolding builtin_of
sub_named = each_whole (Named (operator_word Sub) (Two Sub)) refl refl refl refl refl refl refl refl refl refl refl refl

pub mul_named : (s : ScalarType) → is_whole s ≡ true → Named (operator_word Mul) (Two Mul) s
unfolding builtin_of
mul_named = each_whole (Named (operator_word Mul) (Two Mul)) refl refl refl refl refl refl refl refl refl refl refl refl

pub div_named : (s : ScalarType) → is_whole s ≡ true → Named (operator_word Div) (Two Div) s
unfolding builtin_of
div_named = each_whole (Named (operator_word Div) (Two Div)) refl refl refl refl refl refl refl refl refl refl refl refl

pub rem_named : (s : ScalarType) → is_whole s ≡ true → Named (operator_word Rem) (Two Rem) s
unfolding builtin_of
rem_named = each_whole (Named (operator_word Rem) (Two Rem)) refl refl refl refl refl refl refl refl refl refl refl refl

pub and_named : (s : ScalarType) → is_bits s ≡ true → Named (operator_word BitAnd) (Two BitAnd) s
unfolding builtin_of
and_named = each_bits (Named (operator_word BitAnd) (Two BitAnd)) refl refl refl refl

pub or_named : (s : ScalarType) → is_bits s ≡ true → Named (operator_word BitOr) (Two BitOr) s
unfolding builtin_of
or_named = each_bits (Named (operator_word BitOr) (Two BitOr)) refl refl refl refl

pub xor_named : (s : ScalarType) → is_bits s ≡ true → Named (operator_word BitXor) (Two BitXor) s
unfolding builtin_of
xor_named = each_bits (Named (operator_word BitXor) (Two BitXor)) refl refl refl refl

pub shl_named : (s : ScalarType) → is_bits s ≡ true → Named (operator_word Shl) (Two Shl) s
unfolding builtin_of
shl_named = each_bits (Named (operator_word Shl) (Two Shl)) refl refl refl refl

pub shr_named : (s : ScalarType) → is_bits s ≡ true → Named (operator_word Shr) (Two Shr) s
unfolding builtin_of
shr_named = each_bits (Named (operator_word Shr) (Two Shr)) refl refl refl refl

pub not_named : (s : ScalarType) → is_bits s ≡ true → Named (operator_word BitNot) (One BitNot) s
unfolding builtin_of
not_named = each_bits (Named (operator_word BitNot) (One BitNot)) refl refl refl refl

pub neg_named : (s : ScalarType) → takes_one Minus s ≡ true → Named (operator_word Minus) (One Minus) s
unfolding builtin_of
neg_named (Int W8) h = refl
neg_named (Int W16) h = refl
neg_named (Int W32) h = refl
neg_named (Int W64) h = refl
neg_named (Bits W8) h = refl
neg_named (Bits W16) h = refl
neg_named (Bits W32) h = refl
neg_named (Bits W64) h = refl
neg_named _ h = absurd (cc)

pub cast_named : (signed : Bool) (s : ScalarType) → is_whole s ≡ true → Named (cast_word signed) (Cast signed) s
unfolding builtin_of
cast_named true = each_whole (Named (cast_word true) (Cast true)) refl refl refl refl refl refl refl refl refl refl refl refl
cast_named false = each_whole (Named (cast_word false) (Cast false)) refl refl refl refl refl refl refl refl refl refl refl refl

-- the function of a unit is none of the prelude's
pub unit_named : (name : Text) → builtin_of (unit_name name) ≡ None
unfolding builtin_of
unit_named name = refl

-- ---- types

-- a type as C spells it
pub same_in_c : (s : ScalarType) → in_c s ≡ c_scalar s
same_in_c OfBool = refl
same_in_c (Int w) = refl
same_in_c (Nat w) = refl
same_in_c (Bits w) = refl

-- a parameter of a type takes a number of the type
pub own_fits : (s : ScalarType) → is_whole s ≡ true → fits_param true (OfScalar (in_c s)) (OfScalar (c_scalar s)) ≡ true
own_fits =
    each_whole (λ s. fits_param true (OfScalar (in_c s)) (OfScalar (c_scalar s)) ≡ true) refl refl refl refl refl refl refl refl refl refl refl refl

-- and the widest one of the sign
pub widest_fits : (s : ScalarType) → is_whole s ≡ true → fits_param true (OfScalar (widest (is_int s))) (OfScalar (c_scalar s)) ≡ true
widest_fits =
    each_whole (λ s. fits_param true (OfScalar (widest (is_int s))) (OfScalar (c_scalar s)) ≡ true)
    refl refl refl refl refl refl refl refl refl refl refl refl

-- an index of a type is taken by the function of its sign
pub index_suits : (s : ScalarType) → is_whole s ≡ true → indexes (is_int s) (OfScalar (c_scalar s)) ≡ true
index_suits (Int w) h = refl
index_suits (Nat w) h = refl
index_suits (Bits w) h = refl
index_suits OfBool h = absurd (cc)

-- ---- a type is itself

width_same : (w : Width) → same_width w w ≡ true
width_same W8 = refl
width_same W16 = refl
width_same W32 = refl
width_same W64 = refl

pub type_same : (ty : CType) → same_type ty ty ≡ true
type_same (OfScalar OfBool) = refl
type_same (OfScalar (Int w)) = width_same w
type_same (OfScalar (Nat w)) = width_same w
type_same (OfScalar (Bits w)) = width_same w
type_same (OfStruct name) = (bytes_eq-Decides name name).1 refl
