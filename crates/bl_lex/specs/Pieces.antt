-- The pieces that a text is made of: white space, comments and tokens.
use Rattle.std.specs.Prelude.{◌≡◌, ◌≢◌, ℕ, ◌+◌, ◌-◌, ◌^◌, ◌<◌, ◌≤◌, min, true, false, List, length, slice_index, slice_get, slice_range, Option, Some, None}
use Rattle.std.specs.Prelude.{Bool}
use Rattle.std.specs.Char.{is_ascii_digit}
use Rattle.bl_tree.specs.declared.token.Keyword.{Keyword}
use Rattle.bl_tree.specs.Keywords.{position}
use Rattle.bl_tree.specs.declared.token.TokenKind.{TokenKind}
use Rattle.bl_tree.specs.declared.token.TokenKind.TheVariants.{Name, Number, Word, Sign}
use Rattle.bl_lex.specs.declared.piece.Form.{Form}
use Rattle.bl_lex.specs.declared.piece.Form.TheVariants.{Blank, Comment, Token, Outside}
use Rattle.bl_lex.specs.Spelling.{keywords, words_outside, signs, is_blank, is_word_byte, begins_with_digit, IsDigits, IsNumber, IsOctal}

-- the byte that ends a line
abbrev pub line_feed : ℕ
line_feed = 10

-- `/`
abbrev pub slash : ℕ
slash = 47

-- `*`
abbrev pub star : ℕ
star = 42

-- `.`
abbrev pub point : ℕ
point = 46

-- `/*` stands here
abbrev pub OpensComment : List ℕ → ℕ → Type 0
OpensComment text at = (slice_index text at ≡ slash) × (slice_index text (at + 1) ≡ star)

-- `*/` stands here
abbrev pub ClosesComment : List ℕ → ℕ → Type 0
ClosesComment text at = (slice_index text at ≡ star) × (slice_index text (at + 1) ≡ slash)

-- a `.` and a digit stand here
abbrev pub FractionAt : List ℕ → ℕ → Type 0
FractionAt text at = (slice_index text at ≡ point) × (is_ascii_digit (slice_index text (at + 1)) ≡ true)

-- `//` and what follows it on its line
pub record IsLineComment (text : List ℕ) (start end : ℕ) : Type 0 where
  pub first : slice_index text start ≡ slash
  pub second : slice_index text (start + 1) ≡ slash
  pub body : start + 2 ≤ end
  pub inside : end ≤ length text
  pub one_line : (i : ℕ) → start ≤ i → i < end → slice_index text i ≢ line_feed
  pub stops : end < length text → slice_index text end ≡ line_feed

-- `/*` up to the next `*/`, which shares no byte with it
pub record IsBlockComment (text : List ℕ) (start end : ℕ) : Type 0 where
  pub opens : OpensComment text start
  pub body : start + 4 ≤ end
  pub inside : end ≤ length text
  pub closes : ClosesComment text (end - 2)
  pub next : (i : ℕ) → start + 2 ≤ i → i < end - 2 → ¬ ClosesComment text i

-- letters, digits and `_`, as far as they go
pub record IsWord (text : List ℕ) (start end : ℕ) : Type 0 where
  pub nonempty : start < end
  pub inside : end ≤ length text
  pub each : (i : ℕ) → start ≤ i → i < end → is_word_byte (slice_index text i) ≡ true
  pub stops : end < length text → is_word_byte (slice_index text end) ≡ false

-- what a word is that ends here: a keyword, a name, a number, or what the profile leaves out
pub data WordIs (text : List ℕ) (end : ℕ) (word : List ℕ) : Form → Type 0 where
  keyword : {k : Keyword} → slice_get keywords (position k) ≡ Some word → WordIs text end word (Token (Word k))
  name : begins_with_digit word ≡ false → ((k : ℕ) → slice_get keywords k ≢ Some word) →
      ((k : ℕ) → slice_get words_outside k ≢ Some word) → WordIs text end word (Token Name)
  -- a greater number than 2^64 is kept as 2^64
  number : {n kept : ℕ} → IsNumber word n → (IsDigits 10 word → ¬ FractionAt text end) → kept ≡ min n (2 ^ 64) →
      WordIs text end word (Token (Number kept))
  outside : (k : ℕ) → slice_get words_outside k ≡ Some word → WordIs text end word Outside
  octal : IsOctal word → WordIs text end word Outside
  fraction : IsDigits 10 word → FractionAt text end → WordIs text end word Outside

-- the k-th sign stands from `start` up to `end`; `/*` begins a comment, and no sign
pub record IsSign (text : List ℕ) (start end k : ℕ) : Type 0 where
  pub nonempty : start < end
  pub inside : end ≤ length text
  pub spelled : slice_get signs k ≡ Some (slice_range text start end)
  pub no_comment : ¬ OpensComment text start

-- a piece of this form stands from `start` up to `end`: a byte of white space, a comment, a word or a sign
pub data IsPiece (text : List ℕ) (start end : ℕ) : Form → Type 0 where
  blank : start < length text → end ≡ start + 1 → is_blank (slice_index text start) ≡ true → IsPiece text start end Blank
  line_comment : IsLineComment text start end → IsPiece text start end Comment
  block_comment : IsBlockComment text start end → IsPiece text start end Comment
  word : {form : Form} → IsWord text start end → WordIs text end (slice_range text start end) form → IsPiece text start end form
  sign : {k : ℕ} → IsSign text start end k → IsPiece text start end (Token (Sign k))

-- no piece begins here
abbrev pub NoPieceAt : List ℕ → ℕ → Type 0
NoPieceAt text start = (end : ℕ) (form : Form) → ¬ IsPiece text start end form

-- the kind of the token that a piece is
abbrev pub kind_of : Form → Option TokenKind
kind_of Blank = None
kind_of Comment = None
kind_of (Token kind) = Some kind
kind_of Outside = None

-- white space and comments stand between the tokens
abbrev pub is_between : Form → Bool
is_between Blank = true
is_between Comment = true
is_between (Token kind) = false
is_between Outside = false
