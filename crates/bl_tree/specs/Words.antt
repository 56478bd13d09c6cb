-- The words of the source language: which of them are names.
use Rattle.std.specs.Prelude.{ℕ, Bool, true, false, not, ◌&&◌, ◌||◌, nat_eq, List, [], ◌∷◌, codes, bytes_eq}
use Rattle.std.specs.Char.{is_ascii_alphanumeric, is_ascii_digit}
use Rattle.std.specs.List.{list_all, list_any}

-- a byte that a word may have
abbrev pub is_word_byte : ℕ → Bool
is_word_byte byte = is_ascii_alphanumeric byte || nat_eq byte 95

-- the keywords, in the order of their positions
abbrev pub keywords : List (List ℕ)
keywords =
    codes "function" ∷ codes "activity" ∷ codes "returns" ∷ codes "return" ∷ codes "struct" ∷
    codes "var" ∷ codes "let" ∷ codes "const" ∷ codes "if" ∷ codes "then" ∷
    codes "elseif" ∷ codes "else" ∷ codes "end" ∷ codes "await" ∷ codes "run" ∷
    codes "cobegin" ∷ codes "weak" ∷ codes "with" ∷ codes "when" ∷ codes "abort" ∷
    codes "reset" ∷ codes "repeat" ∷ codes "until" ∷ codes "while" ∷ codes "prev" ∷
    codes "as" ∷ codes "not" ∷ codes "and" ∷ codes "or" ∷ codes "true" ∷
    codes "false" ∷ codes "bool" ∷ codes "int8" ∷ codes "int16" ∷ codes "int32" ∷
    codes "int64" ∷ codes "nat8" ∷ codes "nat16" ∷ codes "nat32" ∷ codes "nat64" ∷
    codes "bits8" ∷ codes "bits16" ∷ codes "bits32" ∷ codes "bits64" ∷ []

-- the words that the profile reserves and leaves out, a choice of this project
abbrev pub outside_words : List (List ℕ)
outside_words =
    codes "float32" ∷ codes "float64" ∷ codes "param" ∷ codes "extern" ∷ codes "singleton" ∷
    codes "unit" ∷ codes "import" ∷ codes "module" ∷ codes "enum" ∷ codes "suspend" ∷ []

-- whether the text is one of the words
abbrev pub is_among : List ℕ → List (List ℕ) → Bool
is_among text words = list_any (bytes_eq text) words

-- whether the text is a word that does not begin with a digit
abbrev pub is_plain_word : List ℕ → Bool
is_plain_word [] = false
is_plain_word (first ∷ rest) = not (is_ascii_digit first) && list_all is_word_byte (first ∷ rest)

-- whether the text is a name
abbrev pub is_name : List ℕ → Bool
is_name text = is_plain_word text && (not (is_among text keywords) && not (is_among text outside_words))

-- whether no text stands twice
abbrev pub are_distinct : List (List ℕ) → Bool
are_distinct [] = true
are_distinct (text ∷ rest) = not (is_among text rest) && are_distinct rest
