-- What is known of texts that were joined one after another.
use Rattle.std.specs.Prelude.{◌≡◌, ℕ, ◌+◌, ◌<◌, ◌^◌, List, All}
use Rattle.bl_tree.specs.declared.token.Token.{Token}
use Rattle.bl_lex.specs.Tokens.{Lexes}
use Rattle.bl_joined.specs.declared.joined.Joined.{Joined}
use Rattle.bl_joined.specs.Places.{starts_behind}
use Rattle.bl_joined.specs.Texts.{LexedText, joined_text, joined_tokens, line_feeds, texts_of}

-- these texts were joined, with the tokens of each and where it begins
pub record IsJoinedOf (texts : List (List ℕ)) (joined : Joined) : Type 0 where
  pub files : List LexedText
  pub of_texts : texts_of files ≡ texts
  pub lexed : All (λ file. Lexes file.text file.tokens) files
  pub text : joined.text.items ≡ joined_text texts
  pub tokens : joined.tokens.items ≡ joined_tokens files
  pub starts : joined.starts.items ≡ starts_behind 0 texts
  pub lines : joined.lines ≡ line_feeds (joined_text texts)

-- some texts were joined
abbrev pub IsJoined : Joined → Type 0
IsJoined joined = (texts : List (List ℕ)) × IsJoinedOf texts joined

-- the numbers of a token have 32 bits behind so many bytes and line feeds
pub record FitsBehind (offset lines : ℕ) (token : Token) : Type 0 where
  pub start : offset + token.place.start < 2 ^ 32
  pub end : offset + token.place.end < 2 ^ 32
  pub line : lines + token.line < 2 ^ 32
