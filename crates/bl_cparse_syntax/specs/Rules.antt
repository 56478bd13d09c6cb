-- Where a text stops beginning one of the subset.
use Rattle.std.specs.Prelude.{◌≡◌, ℕ, ◌<◌, ◌⊎◌, false, List, [], ◌∷◌, ◌++◌, length, drop, slice_index}
use Rattle.bl_ctext.specs.Token.{Token, is_blank}
use Rattle.bl_cparse_syntax.specs.Pieces.{pieces}
use Rattle.bl_cparse_syntax.specs.Grammar.{SpellText}

-- the pieces begin a text: some further pieces complete them
abbrev pub BeginsText : List Token → Type 0
BeginsText front = (more : List Token) × SpellText (front ++ more)

-- the text from an offset on is a text of the subset
abbrev pub Passes : List ℕ → ℕ → Type 0
Passes text start = SpellText (pieces (drop start text))

-- the first of the pieces begins at the offset
pub record StandAt (text : List ℕ) (at : ℕ) (left : List Token) : Type 0 where
  pub inside : at < length text
  pub no_blank : is_blank (slice_index text at) ≡ false
  pub left_there : pieces (drop at text) ≡ left

-- the text fails at the start of a piece: the pieces before it begin a text of the grammar, and with it they don't
pub record FailsAtPiece (text : List ℕ) (start at : ℕ) : Type 0 where
  pub before : List Token
  pub piece : Token
  pub after : List Token
  pub stands : pieces (drop start text) ≡ before ++ piece ∷ after
  pub begins : BeginsText before
  pub ends : ¬ BeginsText (before ++ piece ∷ [])
  pub there : StandAt text at (piece ∷ after)

-- the text fails at its end: its pieces begin a text of the grammar, and are none
pub record FailsAtEnd (text : List ℕ) (start at : ℕ) : Type 0 where
  pub begins : BeginsText (pieces (drop start text))
  pub no_text : ¬ Passes text start
  pub at_end : at ≡ length text

-- the text, from the first offset on, fails at the second
abbrev pub FailsFirst : List ℕ → ℕ → ℕ → Type 0
FailsFirst text start at = FailsAtPiece text start at ⊎ FailsAtEnd text start at
