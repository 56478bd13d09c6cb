-- Several texts as one.
use Rattle.std.specs.Prelude.{ℕ, ◌+◌, ◌-◌, ◌==◌, List, [], ◌∷◌, ◌++◌, length, map, count_by}
use Rattle.bl_tree.specs.declared.place.Place.{Place}
use Rattle.bl_tree.specs.declared.token.Token.{Token}
use Rattle.bl_lex.specs.Pieces.{line_feed}

-- the texts in order, each followed by a line feed
abbrev pub joined_text : List (List ℕ) → List ℕ
joined_text [] = []
joined_text (text ∷ texts) = text ++ line_feed ∷ joined_text texts

-- the number of line feeds in a text
abbrev pub line_feeds : List ℕ → ℕ
line_feeds text = count_by (λ byte. byte == line_feed) text

-- where a part stands after so many bytes were written before its text
abbrev pub moved_place : ℕ → Place → Place
moved_place offset place = record { start = offset + place.start; end = offset + place.end }

-- a token after so many bytes, with so many line feeds among them, were written before its text
abbrev pub moved_token : ℕ → ℕ → Token → Token
moved_token offset lines token = record { kind = token.kind; place = moved_place offset token.place; line = lines + token.line }

-- a text with its tokens
pub record LexedText : Type 0 where
  pub text : List ℕ
  pub tokens : List Token

-- the bytes of texts with tokens
abbrev pub texts_of : List LexedText → List (List ℕ)
texts_of files = map (λ file. file.text) files

-- the tokens of joined texts, where so many bytes, with so many line feeds among them, stand before the first
abbrev pub tokens_behind : ℕ → ℕ → List LexedText → List Token
tokens_behind offset lines [] = []
tokens_behind offset lines (file ∷ files) =
    map (moved_token offset lines) file.tokens
    ++ tokens_behind (offset + length file.text + 1) (lines + line_feeds file.text + 1) files

-- the tokens of joined texts: those of each text, moved to where it stands
abbrev pub joined_tokens : List LexedText → List Token
joined_tokens files = tokens_behind 0 0 files
