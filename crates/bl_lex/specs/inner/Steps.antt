-- What the steps of the walk over a text find.
use Rattle.std.specs.Prelude.{◌≡◌, ◌≢◌, ℕ, ◌^◌, ◌≤◌, min, List, slice_get, slice_range, Some, All, length}
use Rattle.bl_tree.specs.Keywords.{position}
use Rattle.bl_tree.specs.declared.token.TokenKind.TheVariants.{Sign}
use Rattle.bl_lex.specs.declared.piece.Piece.{Piece}
use Rattle.bl_lex.specs.declared.piece.Form.TheVariants.{Token}
use Rattle.bl_lex.specs.declared.number.Numeral.{Numeral}
use Rattle.bl_lex.specs.declared.number.Numeral.TheVariants.{Decimal, Prefixed, Octal}
use Rattle.bl_lex.specs.declared.reserved.Meaning.{Meaning}
use Rattle.bl_lex.specs.declared.reserved.Reserved.{Reserved}
use Rattle.bl_lex.specs.declared.reserved.Meaning.TheVariants.{Keyword, Outside}
use Rattle.bl_lex.specs.Spelling.{keywords, words_outside, digits_value, IsDigits, IsNumber, IsOctal}
use Rattle.bl_lex.specs.Pieces.{IsWord, WordIs, IsSign}
use Rattle.bl_lex.specs.Tokens.{IsLongest}

-- the word is reserved, and means this
abbrev pub IsMeaningOf : List ℕ → Meaning → Type 0
IsMeaningOf word (Keyword k) = slice_get keywords (position k) ≡ Some word
IsMeaningOf word Outside = (k : ℕ) × (slice_get words_outside k ≡ Some word)

-- the word is neither a keyword nor outside the profile
pub record IsUnreserved (word : List ℕ) : Type 0 where
  pub no_keyword : (k : ℕ) → slice_get keywords k ≢ Some word
  pub not_outside : (k : ℕ) → slice_get words_outside k ≢ Some word

-- the entries are all reserved words of n bytes with their meanings
pub record AreReservedOf (n : ℕ) (entries : List Reserved) : Type 0 where
  pub right : All (λ entry. IsMeaningOf entry.text.now entry.meaning) entries
  pub complete : (word : List ℕ) → length word ≡ n → All (λ entry. entry.text.now ≢ word) entries → IsUnreserved word

-- the word is a numeral of this sort, with this kept value
abbrev pub IsNumeral : List ℕ → Numeral → Type 0
IsNumeral word (Decimal kept) = IsDigits 10 word × (kept ≡ min (digits_value 10 word) (2 ^ 64))
IsNumeral word (Prefixed kept) = (¬ IsDigits 10 word) × ((n : ℕ) × IsNumber word n × (kept ≡ min n (2 ^ 64)))
IsNumeral word Octal = IsOctal word

-- the word is neither a number nor an octal number
pub record IsNoNumeral (word : List ℕ) : Type 0 where
  pub no_number : (n : ℕ) → ¬ IsNumber word n
  pub not_octal : ¬ IsOctal word

-- the whole word at this place, and what it is
pub record IsWordPiece (text : List ℕ) (at : ℕ) (piece : Piece) : Type 0 where
  pub whole : IsWord text at piece.end
  pub is : WordIs text piece.end (slice_range text at piece.end) piece.form

-- a sign at this place that no other goes beyond
pub record IsLongestSign (text : List ℕ) (at : ℕ) (piece : Piece) : Type 0 where
  pub k : ℕ
  pub form : piece.form ≡ Token (Sign k)
  pub sign : IsSign text at piece.end k
  pub longest : (end other : ℕ) → IsSign text at end other → end ≤ piece.end

-- the longest piece at this place
abbrev pub IsLongestAt : List ℕ → ℕ → Piece → Type 0
IsLongestAt text at piece = IsLongest text (record { start = at; end = piece.end; form = piece.form })
