-- What holds of each word and sign of the lists, found by computing it for all of them.
use Rattle.std.proofs.Common.{◌≡◌, ℕ, Bool, true, false, not, ◌&&◌, ◌||◌, ◌==◌, List, [], ◌∷◌, refl, arith}
use Rattle.std.specs.Prelude.{slice_get, slice_index, Some}
use Rattle.std.specs.List.{list_all}
use Rattle.bl_tree.proofs.Basics.{all_at}
use Rattle.bl_lex.specs.Spelling.{signs, is_blank, is_word_byte}

-- a sign begins with neither white space nor a byte of words
unfoldable pub begins_as_sign : List ℕ → Bool
begins_as_sign s = not (is_blank (slice_index s 0)) && not (is_word_byte (slice_index s 0))

pub all_begin_as_signs : list_all begins_as_sign signs ≡ true
unfolding signs begins_as_sign
all_begin_as_signs = refl

-- the only bytes that are signs by themselves
abbrev pub is_one_byte : ℕ → Bool
is_one_byte a = a == 40 || a == 41 || a == 91 || a == 93 || a == 44 || a == 46 || a == 58 || a == 61 || a == 60 || a == 62
    || a == 43 || a == 45 || a == 42 || a == 47 || a == 37 || a == 38 || a == 124 || a == 94 || a == 126 || a == 64 || a == 123 || a == 125

-- the only pairs of bytes that are signs
abbrev pub is_two_bytes : ℕ → ℕ → Bool
is_two_bytes a b = (a == 61 && b == 61) || (a == 33 && b == 61) || (a == 60 && b == 61) || (a == 62 && b == 61) || (a == 60 && b == 60) || (a == 62 && b == 62)

unfoldable pub is_known : List ℕ → Bool
is_known [] = false
is_known (a ∷ []) = is_one_byte a
is_known (a ∷ b ∷ []) = is_two_bytes a b
is_known (a ∷ b ∷ c ∷ s) = false

pub all_known : list_all is_known signs ≡ true
unfolding signs is_known
all_known = refl

pub one_byte_known : (a k : ℕ) → slice_get signs k ≡ Some (a ∷ []) → is_one_byte a ≡ true
unfolding is_known
one_byte_known a k is = all_at is_known signs k (a ∷ []) all_known is

pub two_bytes_known : (a b k : ℕ) → slice_get signs k ≡ Some (a ∷ b ∷ []) → is_two_bytes a b ≡ true
unfolding is_known
two_bytes_known a b k is = all_at is_known signs k (a ∷ b ∷ []) all_known is
