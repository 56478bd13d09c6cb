-- The functions of the prelude by name: what they take and what they give.
use Rattle.std.specs.Prelude.{ℕ, ◌+◌, ◌%◌, ◌^◌, ℤ, pos, ◌+ℤ◌, Bool, true, false, ◌&&◌, List, [], ◌∷◌, Option, Some, None, int_lt, int_le, if◌then◌else◌}
use Rattle.std.specs.Int.{int_rem_euclid}
use Rattle.std.specs.Ordering.{int_eq}
use Rattle.bl_tree.specs.declared.text.Text.{Text}
use Rattle.bl_tree.specs.declared.scalar.Scalar.{Scalar}
use Rattle.bl_tree.specs.declared.scalar.Scalar.TheVariants.{Bool as OfBool, Int, Nat, Bits}
use Rattle.bl_tree.specs.declared.scalar.Width.TheVariants.{W32, W64}
use Rattle.bl_ctext.specs.declared.builtin.Builtin.{Builtin}
use Rattle.bl_ctext.specs.declared.builtin.Builtin.TheVariants.{Two, One, Cast, Index, Turn, Stop}
use Rattle.bl_tree.specs.Scalar.{in_range}
use Rattle.bl_tree.specs.Numbers.{checked_of, checked_one_of}
use Rattle.bl_ctext.specs.Builtins.{builtins}
use Rattle.bl_ctext_semantics.specs.Tables.{found}

-- the function of the prelude that has this name
unfoldable pub builtin_of : Text → Option Builtin
builtin_of name = found name builtins

-- ---- what they take and give

-- a type as C spells it: bits and nat are one unsigned type
abbrev pub in_c : Scalar → Scalar
in_c (Bits w) = Nat w
in_c OfBool = OfBool
in_c (Int w) = Int w
in_c (Nat w) = Nat w

-- the type of 64 bits from which a cast or index takes its number
abbrev pub widest : Bool → Scalar
widest true = Int W64
widest false = Nat W64

-- the types of a built-in function's parameters
abbrev pub builtin_params : Builtin → List Scalar
builtin_params (Two op t) = in_c t ∷ in_c t ∷ []
builtin_params (One op t) = in_c t ∷ []
builtin_params (Cast signed t) = widest signed ∷ []
builtin_params (Index signed) = widest signed ∷ Nat W32 ∷ []
builtin_params Turn = Nat W32 ∷ []
builtin_params Stop = []

-- the type of a built-in function's result, where it has one
abbrev pub builtin_result : Builtin → Option Scalar
builtin_result (Two op t) = Some (in_c t)
builtin_result (One op t) = Some (in_c t)
builtin_result (Cast signed t) = Some (in_c t)
builtin_result (Index signed) = Some (Nat W32)
builtin_result Turn = Some (Nat W32)
builtin_result Stop = None

-- a number that passed a test; else none, a trap
abbrev pub only_if : Bool → ℤ → Option ℤ
only_if holds n = if holds then Some n else None

-- an index into an array of this length; none, a trap, outside of it
abbrev pub index_within : ℤ → ℤ → Option ℤ
index_within i length = only_if (int_le (pos 0) i && int_lt i length) i

-- the result of a built-in function for these numbers; none where it traps
abbrev pub builtin_value : Builtin → List ℤ → Option ℤ
builtin_value (Two op t) (a ∷ b ∷ []) = checked_of op t a b
builtin_value (One op t) (a ∷ []) = checked_one_of op t a
builtin_value (Cast signed t) (a ∷ []) = only_if (in_range t a) a
builtin_value (Index signed) (i ∷ length ∷ []) = index_within i length
builtin_value Turn (t ∷ []) = if int_eq t (pos 65536) then None else Some (int_rem_euclid (t +ℤ pos 1) (pos (2 ^ 32)))
builtin_value _ _ = None
