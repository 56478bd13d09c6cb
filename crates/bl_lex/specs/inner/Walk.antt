-- What the walk over a text knows at a place.
use Rattle.std.specs.Prelude.{◌≡◌, ◌≢◌, ℕ, ◌⊎◌, List, [], ◌∷◌, ◌++◌, Bool, true, false, Option, Some, None, option_map, option_to_list, codes}
use Rattle.bl_tree.specs.declared.place.Place.{Place}
use Rattle.bl_tree.specs.declared.token.TokenKind.TheVariants.{Name, Sign}
use Rattle.bl_tree.specs.declared.token.Token.{Token as LexedToken}
use Rattle.bl_lex.specs.declared.piece.Form.{Form}
use Rattle.bl_lex.specs.declared.piece.Form.TheVariants.{Token, Outside}
use Rattle.bl_lex.specs.declared.scan.Scan.{Scan}
use Rattle.bl_lex.specs.declared.scan.Before.{Before}
use Rattle.bl_lex.specs.declared.scan.Before.TheVariants.{Other, At, AtBracket}
use Rattle.bl_lex.specs.declared.sign.TheConstants.{OPEN_BRACKET, AT, OPEN_BRACE, CLOSE_BRACE}
use Rattle.bl_lex.specs.Pieces.{kind_of}
use Rattle.bl_lex.specs.Tokens.{LexedPiece, place_of, Covers, line_at, tokens_of, without_between}
use Rattle.bl_lex.specs.Rules.{IsLeftOut}

-- the last token is `@`
pub record EndsAt (tokens : List LexedPiece) : Type 0 where
  pub front : List LexedPiece
  pub at : LexedPiece
  pub stands : tokens ≡ front ++ (at ∷ [])
  pub is_at : at.form ≡ Token (Sign AT)

-- the last two tokens are `@ [`
pub record EndsAtBracket (tokens : List LexedPiece) : Type 0 where
  pub front : List LexedPiece
  pub at : LexedPiece
  pub bracket : LexedPiece
  pub stands : tokens ≡ front ++ (at ∷ bracket ∷ [])
  pub is_at : at.form ≡ Token (Sign AT)
  pub is_bracket : bracket.form ≡ Token (Sign OPEN_BRACKET)

-- the state says whether the tokens end in `@`, in `@ [`, or in neither
abbrev pub IsBefore : Before → List LexedPiece → Type 0
IsBefore Other tokens = (¬ EndsAt tokens) × (¬ EndsAtBracket tokens)
IsBefore At tokens = EndsAt tokens
IsBefore AtBracket tokens = EndsAtBracket tokens

-- the second state describes the tokens after a part of this form, if the first described them before
abbrev pub NextBefore : Before → Form → Before → Type 0
NextBefore before form next = (tokens : List LexedPiece) (part : LexedPiece) → part.form ≡ form → IsBefore before tokens →
    IsBefore next (tokens ++ without_between (part ∷ []))

-- the profile leaves out a token of this form and these bytes after tokens that the state describes
abbrev pub IsLeftOutAfter : Before → Form → List ℕ → Type 0
IsLeftOutAfter before form bytes = (form ≡ Outside) ⊎ ((form ≡ Token (Sign OPEN_BRACE)) ⊎ ((form ≡ Token (Sign CLOSE_BRACE))
    ⊎ ((before ≡ AtBracket) × (form ≡ Token Name) × (bytes ≢ codes "EntryPoint"))))

-- the profile leaves out none of the tokens
abbrev pub NoneLeftOut : List ℕ → List LexedPiece → Type 0
NoneLeftOut text tokens = (before : List LexedPiece) (part : LexedPiece) (after : List LexedPiece) → tokens ≡ before ++ part ∷ after → ¬ IsLeftOut text before part

-- the first token that the profile leaves out stands at this place
pub record IsFirstLeftOut (text : List ℕ) (tokens : List LexedPiece) (place : Place) : Type 0 where
  pub before : List LexedPiece
  pub part : LexedPiece
  pub after : List LexedPiece
  pub stands : tokens ≡ before ++ part ∷ after
  pub left_out : IsLeftOut text before part
  pub at : place ≡ place_of part
  pub first : NoneLeftOut text before

-- the first token that the profile leaves out, if there is one, stands at this place
abbrev pub IsLeftOutPlace : List ℕ → List LexedPiece → Option Place → Type 0
IsLeftOutPlace text tokens None = NoneLeftOut text tokens
IsLeftOutPlace text tokens (Some place) = IsFirstLeftOut text tokens place

-- what the walk has found of the text up to a place
pub record IsScanned (text : List ℕ) (at : ℕ) (scan : Scan) : Type 0 where
  pub parts : List LexedPiece
  pub covers : Covers text 0 parts at
  pub tokens : scan.tokens.items ≡ tokens_of text parts
  pub line : scan.line ≡ line_at text at
  pub before : IsBefore scan.before (without_between parts)
  pub left_out : IsLeftOutPlace text (without_between parts) scan.left_out

-- the place found before, or else this one where its token is left out
abbrev pub earlier : Option Place → Bool → Place → Option Place
earlier (Some found) left_out place = Some found
earlier None true place = Some place
earlier None false place = None

-- the token of a piece of this form, if it is one
abbrev pub token_with : Form → Place → ℕ → List LexedToken
token_with form place line = option_to_list (option_map (λ kind. record { kind = kind; place = place; line = line }) (kind_of form))
