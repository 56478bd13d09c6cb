-- How a text fails the rules Size, Lex and Profile, and at which place.
use Rattle.std.specs.Prelude.{◌≡◌, ◌≢◌, ℕ, ◌+◌, ◌<◌, ◌≤◌, ◌⊎◌, true, false, List, [], ◌∷◌, ◌++◌, length, slice_index, slice_range, codes}
use Rattle.bl_tree.specs.declared.place.Place.{Place}
use Rattle.bl_tree.specs.declared.rule.Rule.{Rule}
use Rattle.bl_tree.specs.declared.rule.Rule.TheVariants as rule
use Rattle.bl_tree.specs.declared.token.TokenKind.TheVariants.{Name, Sign}
use Rattle.bl_tree.specs.Rules.{FailsFirst as FirstOf, Passes as NoneOf}
use Rattle.bl_lex.specs.declared.piece.Form.TheVariants.{Token, Outside}
use Rattle.bl_lex.specs.declared.sign.TheConstants.{OPEN_BRACKET, AT, OPEN_BRACE, CLOSE_BRACE}
use Rattle.bl_lex.specs.Spelling.{is_word_byte, begins_with_digit, IsNumber, IsOctal}
use Rattle.bl_lex.specs.Pieces.{OpensComment, ClosesComment, IsWord, NoPieceAt}
use Rattle.bl_lex.specs.Tokens.{LexedPiece, place_of, Covers, without_between}

-- Size: the text has more than 1,048,576 bytes; the place is the first beyond
pub record FailsSize (text : List ℕ) (place : Place) : Type 0 where
  pub too_long : 1_048_576 < length text
  pub at : place ≡ record { start = 1_048_576; end = 1_048_577 }

-- a byte that begins no piece; of a word and of `/*` more than the byte is named
pub record IsStrayByte (text : List ℕ) (place : Place) : Type 0 where
  pub inside : place.start < length text
  pub begins_nothing : NoPieceAt text place.start
  pub no_word : is_word_byte (slice_index text place.start) ≡ false
  pub no_comment : ¬ OpensComment text place.start
  pub one_byte : place.end ≡ place.start + 1

-- a `/*` that no `*/` follows
pub record IsUnclosedComment (text : List ℕ) (place : Place) : Type 0 where
  pub opens : OpensComment text place.start
  pub never_closes : (i : ℕ) → place.start + 2 ≤ i → ¬ ClosesComment text i
  pub two_bytes : place.end ≡ place.start + 2

-- a word that begins with a digit and is neither a number nor what rule Profile refuses
pub record IsMalformedNumber (text : List ℕ) (place : Place) : Type 0 where
  pub whole_word : IsWord text place.start place.end
  pub digit : begins_with_digit (slice_range text place.start place.end) ≡ true
  pub no_number : (n : ℕ) → ¬ IsNumber (slice_range text place.start place.end) n
  pub not_octal : ¬ IsOctal (slice_range text place.start place.end)

-- what stands here begins no piece, and this is the place that names it
abbrev pub IsFault : List ℕ → Place → Type 0
IsFault text place = IsStrayByte text place ⊎ (IsUnclosedComment text place ⊎ IsMalformedNumber text place)

-- Lex: pieces cover the text as far as this place, and none stands here
pub record FailsLex (text : List ℕ) (place : Place) : Type 0 where
  pub parts : List LexedPiece
  pub covers : Covers text 0 parts place.start
  pub fault : IsFault text place

-- a token that the profile leaves out, such as some words, a brace, or a name after `@ [` other than `EntryPoint`
pub data IsLeftOut (text : List ℕ) (before : List LexedPiece) (part : LexedPiece) : Type 0 where
  outside : part.form ≡ Outside → IsLeftOut text before part
  open_brace : part.form ≡ Token (Sign OPEN_BRACE) → IsLeftOut text before part
  close_brace : part.form ≡ Token (Sign CLOSE_BRACE) → IsLeftOut text before part
  attribute : (front : List LexedPiece) (at bracket : LexedPiece) → before ≡ front ++ (at ∷ bracket ∷ []) → at.form ≡ Token (Sign AT)
      → bracket.form ≡ Token (Sign OPEN_BRACKET) → part.form ≡ Token Name →
      slice_range text part.start part.end ≢ codes "EntryPoint" → IsLeftOut text before part

-- Profile: pieces cover the whole text, and the profile leaves out the token at this place
pub record FailsProfile (text : List ℕ) (place : Place) : Type 0 where
  pub parts : List LexedPiece
  pub covers : Covers text 0 parts (length text)
  pub before : List LexedPiece
  pub part : LexedPiece
  pub after : List LexedPiece
  pub stands : without_between parts ≡ before ++ part ∷ after
  pub left_out : IsLeftOut text before part
  pub at : place ≡ place_of part

-- ---- the rules by name

-- the rule fails at this place, and its line names no further one; the others aren't judged here
abbrev pub Fails : List ℕ → Rule → Place → List Place → Type 0
Fails text rule.Size place also = FailsSize text place × (also ≡ [])
Fails text rule.Lex place also = FailsLex text place × (also ≡ [])
Fails text rule.Profile place also = FailsProfile text place × (also ≡ [])
Fails text _ place also = ⊥

-- the rule is the first of the lexer's rules that fails, and fails first at this place
abbrev pub FailsFirst : List ℕ → Rule → Place → List Place → Type 0
FailsFirst text = FirstOf (Fails text)

-- none of the lexer's rules Size, Lex and Profile fails
abbrev pub Passes : List ℕ → Type 0
Passes text = NoneOf (Fails text)
