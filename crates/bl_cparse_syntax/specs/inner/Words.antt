-- What tells most names from reserved words at a glance.
use Rattle.std.specs.Prelude.{ℕ, Bool, false, not, ◌&&◌, List, [], ◌∷◌, codes}
use Rattle.std.specs.Char.{is_ascii_digit}
use Rattle.bl_ctext.specs.Names.{c_keywords, grammar_words, is_among}

-- whether the second byte of a word is a digit, as in most names of an emitted text
abbrev pub is_numbered : List ℕ → Bool
is_numbered [] = false
is_numbered (b ∷ []) = false
is_numbered (b ∷ c ∷ bs) = is_ascii_digit c

-- whether a word is neither of the grammar, nor a keyword of C99, nor `abort`
abbrev pub is_unreserved : List ℕ → Bool
is_unreserved word = not (is_among word grammar_words) && (not (is_among word c_keywords) && not (is_among word (codes "abort" ∷ [])))
