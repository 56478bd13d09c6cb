-- How words, numbers and signs are spelled.
use Rattle.std.specs.Prelude.{◌≡◌, ℕ, ◌+◌, ◌*◌, ◌^◌, ◌<◌, Bool, ◌||◌, ◌==◌, List, [], ◌∷◌, ◌++◌, length, slice_index, codes, All}
use Rattle.std.specs.Char.{digit_value, is_ascii_digit}
pub use Rattle.bl_tree.specs.Words.{is_word_byte}
use Rattle.bl_tree.specs.Words

-- the keywords, in the order of their positions
unfoldable pub keywords : List (List ℕ)
keywords = Words.keywords

-- the words of the whole language that the profile leaves out
unfoldable pub words_outside : List (List ℕ)
words_outside = Words.outside_words

-- the signs, in the order of their positions
unfoldable pub signs : List (List ℕ)
signs =
    codes "(" ∷ codes ")" ∷ codes "[" ∷ codes "]" ∷ codes "," ∷ codes "." ∷ codes ":" ∷
    codes "=" ∷ codes "==" ∷ codes "!=" ∷ codes "<" ∷ codes "<=" ∷ codes ">" ∷ codes ">=" ∷
    codes "+" ∷ codes "-" ∷ codes "*" ∷ codes "/" ∷ codes "%" ∷ codes "&" ∷ codes "|" ∷
    codes "^" ∷ codes "~" ∷ codes "<<" ∷ codes ">>" ∷ codes "@" ∷ codes "{" ∷ codes "}" ∷ []

-- white space: space, tab, carriage return and line feed
abbrev pub is_blank : ℕ → Bool
is_blank byte = byte == 32 || byte == 9 || byte == 13 || byte == 10

-- the first byte of a word is a digit
abbrev pub begins_with_digit : List ℕ → Bool
begins_with_digit word = is_ascii_digit (slice_index word 0)

-- what digits stand for in a base: each is worth as much as its place gives it
abbrev pub digits_value : ℕ → List ℕ → ℕ
digits_value base [] = 0
digits_value base (c ∷ cs) = digit_value c * base ^ length cs + digits_value base cs

-- one or more bytes, all of them digits of the base
pub record IsDigits (base : ℕ) (digits : List ℕ) : Type 0 where
  pub nonempty : 0 < length digits
  pub each : All (λ c. digit_value c < base) digits

-- a word spells a number: decimal digits, `0x` and hexadecimal digits, or `0b` and binary digits
pub data IsNumber : List ℕ → ℕ → Type 0 where
  decimal : {digits : List ℕ} → IsDigits 10 digits → IsNumber digits (digits_value 10 digits)
  hexadecimal : {digits : List ℕ} → IsDigits 16 digits → IsNumber (codes "0x" ++ digits) (digits_value 16 digits)
  binary : {digits : List ℕ} → IsDigits 2 digits → IsNumber (codes "0b" ++ digits) (digits_value 2 digits)

-- `0o` and octal digits, which the profile leaves out
abbrev pub IsOctal : List ℕ → Type 0
IsOctal word = (digits : List ℕ) × (word ≡ codes "0o" ++ digits) × IsDigits 8 digits
