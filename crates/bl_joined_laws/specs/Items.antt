-- The items of several texts as one.
use Rattle.std.specs.Prelude.{ℕ, ◌+◌, List, [], ◌∷◌, ◌++◌, length, map}
use Rattle.bl_tree.specs.declared.token.Token.{Token}
use Rattle.bl_lex.specs.Tokens.{Lexes}
use Rattle.bl_parse.specs.Programs.{SpellsItems}
use Rattle.bl_parse_tree.specs.declared.item.RawItem.{RawItem}
use Rattle.bl_joined.specs.Texts.{LexedText, moved_place}
use Rattle.bl_joined.specs.Trees.{placed_item}

-- a text with its tokens and the items that they spell
pub record ReadText : Type 0 where
  pub text : List ℕ
  pub tokens : List Token
  pub items : List RawItem

-- the tokens are those of the text, and spell the items
pub record IsRead (file : ReadText) : Type 0 where
  pub lexes : Lexes file.text file.tokens
  pub spells : SpellsItems file.text file.tokens file.items 0 (length file.tokens)

-- a text with its tokens alone
abbrev pub lexed : ReadText → LexedText
lexed file = record { text = file.text; tokens = file.tokens }

-- texts with their tokens alone
abbrev pub all_lexed : List ReadText → List LexedText
all_lexed files = map lexed files

-- the items of joined texts, where so many bytes stand before the first
abbrev pub items_behind : ℕ → List ReadText → List RawItem
items_behind offset [] = []
items_behind offset (file ∷ files) = map (placed_item (moved_place offset)) file.items ++ items_behind (offset + length file.text + 1) files

-- the items of joined texts: those of each text, moved to where it stands
abbrev pub joined_items : List ReadText → List RawItem
joined_items files = items_behind 0 files
