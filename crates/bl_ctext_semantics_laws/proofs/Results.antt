-- What the prelude's functions give is in range.
use Rattle.bl_tree.specs.Ports.{in_ranges}
use Rattle.std.proofs.Common.{◌≡◌, ◌+◌, ◌^◌, ◌<◌, ℤ, pos, ◌+ℤ◌, Bool, true, false, ◌&&◌, List, [], ◌∷◌, Option, Some, None, refl, ap, sym}
use Rattle.std.proofs.Common.{subst, ◌∙◌, arith}
use Rattle.std.specs.Prelude.{bytes_eq, int_le, int_lt, IfSome, if◌then◌else◌}
use Rattle.std.specs.Int.{int_rem_euclid}
use Rattle.std.specs.Ordering.{int_eq}
use Rattle.std.specs.List.{list_all}
use Rattle.std.proofs.lemmas.Int.{ints}
use Rattle.bl_tree.proofs.Basics.{and_first, and_second}
use Rattle.bl_tree.specs.declared.text.Text.{Text}
use Rattle.bl_tree.specs.declared.scalar.Scalar.{Scalar}
use Rattle.bl_tree.specs.declared.scalar.Scalar.TheVariants.{Bool as OfBool, Int, Nat, Bits}
use Rattle.bl_tree.specs.declared.scalar.Width.TheVariants.{W32}
use Rattle.bl_tree.specs.declared.scalar.Op.{Op}
use Rattle.bl_tree.specs.declared.scalar.Op.TheVariants.{Add, Sub, Mul, Div, Rem, Minus, BitAnd, BitOr, BitXor, BitNot, Shl, Shr, Eq, Ne, Lt, Le, Gt}
use Rattle.bl_tree.specs.declared.scalar.Op.TheVariants.{Ge, And, Or, Not}
use Rattle.bl_tree.specs.Scalar.{in_range, InRange}
use Rattle.bl_tree.specs.Numbers.{checked_of, checked_one_of, takes_two, takes_one, type_of_result}
use Rattle.bl_tree.proofs.NumberLemmas.{checked_of-in_range, checked_one_of-in_range, fitted-in_range, in_range_holds, in_range_passes}
use Rattle.bl_ctext.specs.declared.builtin.Builtin.{Builtin}
use Rattle.bl_ctext.specs.declared.builtin.Builtin.TheVariants.{Two, One, Cast, Index, Turn, Stop}
use Rattle.bl_ctext.specs.Builtins.{builtins}
use Rattle.bl_ctext_semantics.specs.Builtin.{builtin_of, builtin_params, builtin_result, builtin_value, in_c, only_if, widest}
use Rattle.bl_ctext_semantics.specs.Tables.{found}
use Rattle.bl_ctext_semantics_laws.specs.Fitting.{BuiltinsFit}
use Rattle.bl_ctext_semantics_laws.specs.Flat.{is_typed}

-- an operator whose result has its operands' type
abbrev keeps_type : Op → Bool
keeps_type Eq = false
keeps_type Ne = false
keeps_type Lt = false
keeps_type Le = false
keeps_type Gt = false
keeps_type Ge = false
keeps_type And = false
keeps_type Or = false
keeps_type Not = false
keeps_type _ = true

type-kept : (op : Op) (t : Scalar) → keeps_type op ≡ true → type_of_result op t ≡ t
type-kept Eq t h = cc
type-kept Ne t h = cc
type-kept Lt t h = cc
type-kept Le t h = cc
type-kept Gt t h = cc
type-kept Ge t h = cc
type-kept And t h = cc
type-kept Or t h = cc
type-kept Not t h = cc
type-kept Add t h = refl
type-kept Sub t h = refl
type-kept Mul t h = refl
type-kept Div t h = refl
type-kept Rem t h = refl
type-kept Minus t h = refl
type-kept BitAnd t h = refl
type-kept BitOr t h = refl
type-kept BitXor t h = refl
type-kept BitNot t h = refl
type-kept Shl t h = refl
type-kept Shr t h = refl

-- what each function of the prelude is
abbrev proper : Builtin → Bool
proper (Two op t) = takes_two op t && keeps_type op
proper (One op t) = takes_one op t && keeps_type op
proper _ = true

all-proper : list_all (λ e. proper e.1) builtins ≡ true
all-proper = refl

some_builtin : (a b : Builtin) → Some a ≡ Some b → a ≡ b
some_builtin a b h = cc

now-or-later : (b : Bool) (x y : Builtin) (rest : Option Builtin) → (if b then Some x else rest) ≡ Some y → proper x ≡ true →
    (rest ≡ Some y → proper y ≡ true) → proper y ≡ true
now-or-later true x y rest is here later = subst (λ z. proper z ≡ true) (some_builtin x y is) here
now-or-later false x y rest is here later = later is

found-proper : (name : Text) (entries : List (Text × Builtin)) (b : Builtin) → found name entries ≡ Some b →
    list_all (λ e. proper e.1) entries ≡ true →
    proper b ≡ true
found-proper name [] b is all = cc
found-proper name (e ∷ entries) b is all =
    now-or-later (bytes_eq e.0 name) e.1 b (found name entries) is (and_first (proper e.1) _ all)
    (λ later. found-proper name entries b later (and_second (proper e.1) _ all))

builtin-proper : (name : Text) (b : Builtin) → builtin_of name ≡ Some b → proper b ≡ true
unfolding builtin_of
builtin-proper name b is = found-proper name builtins b is all-proper

typed-if : (b : Builtin) → proper b ≡ true → is_typed b ≡ true
typed-if (Two op t) h = and_first (takes_two op t) _ h
typed-if (One op t) h = and_first (takes_one op t) _ h
typed-if (Cast signed t) h = refl
typed-if (Index signed) h = refl
typed-if Turn h = refl
typed-if Stop h = refl

pub builtin-typed : (name : Text) (b : Builtin) → builtin_of name ≡ Some b → is_typed b ≡ true
builtin-typed name b is = typed-if b (builtin-proper name b is)

-- ---- numbers

in-c : (t : Scalar) (n : ℤ) → in_range (in_c t) n ≡ in_range t n
in-c OfBool n = refl
in-c (Int w) n = refl
in-c (Nat w) n = refl
in-c (Bits w) n = refl

some_scalar : (a b : Scalar) → Some a ≡ Some b → a ≡ b
some_scalar a b h = cc

some_number : (a b : ℤ) → Some a ≡ Some b → a ≡ b
some_number a b h = cc

-- a result of a type, as C spells it
spelled : (s t : Scalar) (n : ℤ) → Some (in_c s) ≡ Some t → in_range s n ≡ true → in_range t n ≡ true
spelled s t n is h = ap (λ x. in_range x n) (sym (some_scalar (in_c s) t is)) ∙ in-c s n ∙ h

operated : (op : Op) (s : Scalar) (r : Option ℤ) (n : ℤ) → keeps_type op ≡ true → IfSome r (InRange (type_of_result op s)) →
    r ≡ Some n → in_range s n ≡ true
operated op s r n kept h is =
    in_range_passes s n (subst (λ x. InRange x n) (type-kept op s kept) (subst (λ o. IfSome o (InRange (type_of_result op s))) is h))

passed : (b : Bool) (a n : ℤ) → only_if b a ≡ Some n → b ≡ true
passed true a n h = refl
passed false a n h = cc

passed-is : (b : Bool) (a n : ℤ) → only_if b a ≡ Some n → a ≡ n
passed-is true a n h = some_number a n h
passed-is false a n h = cc

index-in : (i length : ℤ) → (int_le (pos 0) i && int_lt i length) ≡ true → in_range (Nat W32) length ≡ true → in_range (Nat W32) i ≡ true
index-in i length h k = grind (arith, ints)

turned : (b : Bool) (t n : ℤ) → (if b then None else Some (int_rem_euclid (t +ℤ pos 1) (pos (2 ^ 32)))) ≡ Some n → in_range (Nat W32) n ≡ true
turned true t n h = cc
turned false t n h =
    ap (in_range (Nat W32)) (sym (some_number (int_rem_euclid (t +ℤ pos 1) (pos (2 ^ 32))) n h))
    ∙ in_range_passes (Bits W32) (int_rem_euclid (t +ℤ pos 1) (pos (2 ^ 32))) (fitted-in_range (Bits W32) (t +ℤ pos 1))

value-fits : (b : Builtin) (numbers : List ℤ) (t : Scalar) (n : ℤ) → proper b ≡ true → in_ranges (builtin_params b) numbers ≡ true →
    builtin_result b ≡ Some t →
    builtin_value b numbers ≡ Some n → in_range t n ≡ true
value-fits (Two op s) [] t n is h result value = cc
value-fits (Two op s) (a ∷ []) t n is h result value = cc
value-fits (Two op s) (a ∷ c ∷ d ∷ rest) t n is h result value = cc
value-fits (Two op s) (a ∷ c ∷ []) t n is h result value =
    let first = in_range_holds s a (sym (in-c s a) ∙ and_first (in_range (in_c s) a) _ h) in
    let second = in_range_holds s c (sym (in-c s c) ∙ and_first (in_range (in_c s) c) true (and_second (in_range (in_c s) a) _ h)) in
    spelled s t n result
    (operated op s (checked_of op s a c) n (and_second (takes_two op s) _ is) (checked_of-in_range op s a c (and_first (takes_two op s) _ is) first second) value)
value-fits (One op s) [] t n is h result value = cc
value-fits (One op s) (a ∷ c ∷ rest) t n is h result value = cc
value-fits (One op s) (a ∷ []) t n is h result value =
    let first = in_range_holds s a (sym (in-c s a) ∙ and_first (in_range (in_c s) a) _ h) in
    spelled s t n result
    (operated op s (checked_one_of op s a) n (and_second (takes_one op s) _ is) (checked_one_of-in_range op s a (and_first (takes_one op s) _ is) first) value)
value-fits (Cast signed s) [] t n is h result value = cc
value-fits (Cast signed s) (a ∷ c ∷ rest) t n is h result value = cc
value-fits (Cast signed s) (a ∷ []) t n is h result value =
    spelled s t n result (ap (in_range s) (sym (passed-is (in_range s a) a n value)) ∙ passed (in_range s a) a n value)
value-fits (Index signed) [] t n is h result value = cc
value-fits (Index signed) (a ∷ []) t n is h result value = cc
value-fits (Index signed) (a ∷ c ∷ d ∷ rest) t n is h result value = cc
value-fits (Index signed) (a ∷ c ∷ []) t n is h result value =
    let within : (int_le (pos 0) a && int_lt a c) ≡ true = passed (int_le (pos 0) a && int_lt a c) a n value in
    ap (λ x. in_range x n) (sym (some_scalar (Nat W32) t result))
    ∙ ap (in_range (Nat W32)) (sym (passed-is (int_le (pos 0) a && int_lt a c) a n value))
    ∙ index-in a c within (and_first (in_range (Nat W32) c) true (and_second (in_range (widest signed) a) (in_range (Nat W32) c && true) h))
value-fits Turn [] t n is h result value = cc
value-fits Turn (a ∷ c ∷ rest) t n is h result value = cc
value-fits Turn (a ∷ []) t n is h result value = ap (λ x. in_range x n) (sym (some_scalar (Nat W32) t result)) ∙ turned (int_eq a (pos 65536)) a n value
value-fits Stop numbers t n is h result value = cc

pub builtins-fit : BuiltinsFit
builtins-fit name b numbers t n is h result value = value-fits b numbers t n (builtin-proper name b is) h result value
