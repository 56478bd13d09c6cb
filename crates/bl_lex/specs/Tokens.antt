-- The tokens of a text.
use Rattle.std.specs.Prelude.{◌≡◌, ◌≢◌, ℕ, ◌≤◌, ◌==◌, not, List, [], ◌∷◌, length, take, count_by, filter, filter_map, All, Option, option_map}
use Rattle.bl_tree.specs.declared.place.Place.{Place}
use Rattle.bl_tree.specs.declared.token.Token.{Token}
use Rattle.bl_lex.specs.declared.piece.Form.{Form}
use Rattle.bl_lex.specs.declared.piece.Form.TheVariants.{Outside}
use Rattle.bl_lex.specs.Pieces.{line_feed, IsPiece, kind_of, is_between}

-- a piece and where it stands
pub record LexedPiece : Type 0 where
  pub start : ℕ
  pub end : ℕ
  pub form : Form

-- where a part stands
abbrev pub place_of : LexedPiece → Place
place_of part = record { start = part.start; end = part.end }

-- a piece that no other piece at its place goes beyond
pub record IsLongest (text : List ℕ) (part : LexedPiece) : Type 0 where
  pub piece : IsPiece text part.start part.end part.form
  pub longest : (end : ℕ) (form : Form) → IsPiece text part.start end form → end ≤ part.end

-- the parts cover the bytes from `start` up to `end` in order, and each is the longest piece at its place
abbrev pub Covers : List ℕ → ℕ → List LexedPiece → ℕ → Type 0
Covers text start [] end = start ≡ end
Covers text start (part ∷ parts) end = (part.start ≡ start) × IsLongest text part × Covers text part.end parts end

-- the number of line feeds before a place
abbrev pub line_at : List ℕ → ℕ → ℕ
line_at text at = count_by (λ byte. byte == line_feed) (take at text)

-- the token that a part is, if it has a kind
abbrev pub token_of : List ℕ → LexedPiece → Option Token
token_of text part = option_map (λ kind. record { kind = kind; place = place_of part; line = line_at text part.start }) (kind_of part.form)

-- the tokens among the parts, in order
abbrev pub tokens_of : List ℕ → List LexedPiece → List Token
tokens_of text parts = filter_map (token_of text) parts

-- the parts that aren't white space or comments
abbrev pub without_between : List LexedPiece → List LexedPiece
without_between parts = filter (λ part. not (is_between part.form)) parts

-- the tokens of a text: with white space and comments they cover it, each as long as possible
pub record Lexes (text : List ℕ) (tokens : List Token) : Type 0 where
  pub parts : List LexedPiece
  pub covers : Covers text 0 parts (length text)
  pub each_has_a_kind : All (λ part. part.form ≢ Outside) parts
  pub are_tokens : tokens ≡ tokens_of text parts

-- what begins at this place is at most a word that the profile leaves out
abbrev pub BeginsNoToken : List ℕ → ℕ → Type 0
BeginsNoToken text at = (end : ℕ) (form : Form) → IsPiece text at end form → form ≡ Outside

-- these are the tokens before `stop`, the first place where neither a token nor white space nor a comment begins
pub record FrontOf (text : List ℕ) (tokens : List Token) (stop : ℕ) : Type 0 where
  pub parts : List LexedPiece
  pub covers : Covers text 0 parts stop
  pub each_has_a_kind : All (λ part. part.form ≢ Outside) parts
  pub are_tokens : tokens ≡ tokens_of text parts
  pub stops : BeginsNoToken text stop
