-- The tokens of a text of the C subset, and how bytes are cut into them.
use Rattle.std.specs.Prelude.{◌≡◌, ℕ, ◌≤◌, Bool, false, ◌&&◌, ◌||◌, ◌==◌, IsTrue, List, ◌∷◌, ◌++◌, length, map}
use Rattle.std.specs.Prelude.{[]}
use Rattle.std.specs.Char.{is_ascii_alphanumeric}
use Rattle.bl_tree.specs.Reduce.{all_of, any_of}

-- a token, as its bytes
abbrev pub Token : Type 0
Token = List ℕ

-- a space or a line feed
abbrev pub is_blank : ℕ → Bool
is_blank b = b == 32 || b == 10

-- a letter, a digit or `_`
abbrev pub is_word_byte : ℕ → Bool
is_word_byte b = is_ascii_alphanumeric b || b == 95

-- whether the byte is one of `( ) [ ] { } ; , . * & ! = < > -`
abbrev pub is_sign_byte : ℕ → Bool
is_sign_byte b = any_of (map (λ s. b == s) (40 ∷ 41 ∷ 91 ∷ 93 ∷ 123 ∷ 125 ∷ 59 ∷ 44 ∷ 46 ∷ 42 ∷ 38 ∷ 33 ∷ 61 ∷ 60 ∷ 62 ∷ 45
    ∷ []))

-- whether the two bytes are one of `== != <= >= && ||`
abbrev pub is_double_sign : ℕ → ℕ → Bool
is_double_sign a b = (a == 61 || a == 33 || a == 60 || a == 62) && b == 61 || (a == 38 && b == 38 || a == 124 && b == 124)

-- a run of letters, digits and `_`
abbrev pub is_word : Token → Bool
is_word [] = false
is_word (b ∷ bs) = is_word_byte b && all_of (map is_word_byte bs)

-- whether a token is a sign
abbrev pub is_sign : Token → Bool
is_sign [] = false
is_sign (a ∷ []) = is_sign_byte a
is_sign (a ∷ b ∷ []) = is_double_sign a b
is_sign (a ∷ b ∷ c ∷ more) = false

-- whether bytes are a token: a word or a sign
abbrev pub is_token : Token → Bool
is_token bytes = is_word bytes || is_sign bytes

-- the token is the longest at its place: no longer token begins there, with these bytes behind it
abbrev pub IsLongest : Token → List ℕ → Type 0
IsLongest token after = (longer others : List ℕ) → longer ++ others ≡ token ++ after → IsTrue (is_token longer) → length longer ≤ length token

-- the bytes begin with the token, white space aside, and go on with these bytes
pub record Begins (token : Token) (bytes after : List ℕ) : Type 0 where
  pub blanks : List ℕ
  pub blank : IsTrue (all_of (map is_blank blanks))
  pub cut : bytes ≡ blanks ++ (token ++ after)
  pub is_one : IsTrue (is_token token)
  pub longest : IsLongest token after

-- the bytes are the tokens in order, each as long as possible, with any white space before, between and behind them
abbrev pub SpacedC : List Token → List ℕ → Type 0
SpacedC [] bytes = IsTrue (all_of (map is_blank bytes))
SpacedC (token ∷ tokens) bytes = (after : List ℕ) × (Begins token bytes after × SpacedC tokens after)

-- the tokens, with a byte put before the first one
abbrev pub put_before : ℕ → List Token → List Token
put_before b [] = (b ∷ []) ∷ []
put_before b (token ∷ tokens) = (b ∷ token) ∷ tokens
