-- The tree of joined texts, from the trees of the texts.
use Rattle.std.proofs.Common.{◌≡◌, ℕ, List, [], ◌∷◌, length, refl, ap, subst}
use Rattle.std.proofs.lemmas.List.Elements.{All-cons, All-nil}
use Rattle.std.specs.Prelude.{All, ⊤}
use Rattle.bl_joined.specs.Texts.{LexedText, joined_text, joined_tokens, texts_of}
use Rattle.bl_joined_laws.specs.Items.{IsRead, ReadText, all_lexed, joined_items}
use Rattle.bl_lex.specs.Tokens.{Lexes}
use Rattle.bl_parse.specs.Programs.{SpellsItems}
use Rattle.bl_parse_syntax.specs.Rules.{Passes as TokensPass, PassesDepth}
use Rattle.bl_parse_tree.specs.declared.raw.Raw.{Raw}
use Rattle.bl_rules.proofs.Layers.{TokensAreOne, TreesAreOne, one_tree}
use Rattle.bl_rules.specs.Rules.{Parses}
use Rattle.bl_tree.specs.declared.token.Token.{Token}

-- the joined text has the joined tokens
abbrev pub JoinedLex : Type 0
JoinedLex =
    (files : List LexedText) → All (λ file. Lexes file.text file.tokens) files → Lexes (joined_text (texts_of files)) (joined_tokens files)

-- the joined tokens keep the rules Depth and Syntax
abbrev pub JoinedPass : Type 0
JoinedPass =
    (files : List ReadText) → All IsRead files → All (λ file. PassesDepth file.tokens) files → TokensPass (joined_tokens (all_lexed files))

-- the joined tokens spell the joined items
abbrev pub JoinedSpell : Type 0
JoinedSpell =
    (files : List ReadText) → All IsRead files →
    SpellsItems (joined_text (texts_of (all_lexed files))) (joined_tokens (all_lexed files)) (joined_items files) 0
    (length (joined_tokens (all_lexed files)))

-- the laws of joined texts
pub record TextLaws : Type 0 where
  pub tokens_one : TokensAreOne
  pub trees_one : TreesAreOne
  pub lex : JoinedLex
  pub pass : JoinedPass
  pub spell : JoinedSpell

-- a text with its tree
pub record Parsed (text : List ℕ) : Type 0 where
  pub raw : Raw
  pub parses : Parses text raw

-- each text with its tree
abbrev pub AllParsed : List (List ℕ) → Type 0
AllParsed [] = ⊤
AllParsed (text ∷ texts) = Parsed text × AllParsed texts

-- a text with its tokens and items
abbrev pub file_read : (text : List ℕ) → Parsed text → ReadText
file_read text parsed = record { text = text; tokens = parsed.parses.tokens; items = parsed.raw.items }

-- texts with their tokens and items
abbrev pub files_read : (texts : List (List ℕ)) → AllParsed texts → List ReadText
files_read [] parsed = []
files_read (text ∷ texts) parsed = file_read text parsed.0 ∷ files_read texts parsed.1

are_read : (texts : List (List ℕ)) (parsed : AllParsed texts) → All IsRead (files_read texts parsed)
are_read [] parsed = All-nil IsRead
are_read (text ∷ texts) parsed =
    All-cons IsRead (file_read text parsed.0) (files_read texts parsed.1)
    (record { lexes = parsed.0.parses.lexes; spells = parsed.0.parses.spells.items }) (are_read texts parsed.1)

are_shallow : (texts : List (List ℕ)) (parsed : AllParsed texts) → All (λ file. PassesDepth file.tokens) (files_read texts parsed)
are_shallow [] parsed = All-nil (λ (file : ReadText). PassesDepth file.tokens)
are_shallow (text ∷ texts) parsed =
    All-cons (λ (file : ReadText). PassesDepth file.tokens) (file_read text parsed.0) (files_read texts parsed.1) parsed.0.parses.passes.depth
    (are_shallow texts parsed.1)

are_lexed : (texts : List (List ℕ)) (parsed : AllParsed texts) → All (λ file. Lexes file.text file.tokens) (all_lexed (files_read texts parsed))
are_lexed [] parsed = All-nil (λ (file : LexedText). Lexes file.text file.tokens)
are_lexed (text ∷ texts) parsed =
    All-cons (λ (file : LexedText). Lexes file.text file.tokens) (record { text = text; tokens = parsed.0.parses.tokens })
    (all_lexed (files_read texts parsed.1)) parsed.0.parses.lexes (are_lexed texts parsed.1)

same_texts : (texts : List (List ℕ)) (parsed : AllParsed texts) → texts_of (all_lexed (files_read texts parsed)) ≡ texts
same_texts [] parsed = refl
same_texts (text ∷ texts) parsed = ap (λ (rest : List (List ℕ)). text ∷ rest) (same_texts texts parsed.1)

-- the tree with the items of all texts
abbrev pub tree_of : (texts : List (List ℕ)) → AllParsed texts → Raw
tree_of texts parsed = record { items = joined_items (files_read texts parsed); bytes = length (joined_text texts) }

module _ (lex : JoinedLex) (pass : JoinedPass) (texts : List (List ℕ)) (parsed : AllParsed texts) where
  abbrev files : List ReadText
  files = files_read texts parsed

  abbrev tokens : List Token
  tokens = joined_tokens (all_lexed files)

  lexes : Lexes (joined_text texts) tokens
  lexes = subst (λ (them : List (List ℕ)). Lexes (joined_text them) tokens) (same_texts texts parsed) (lex (all_lexed files) (are_lexed texts parsed))

  passes : TokensPass tokens
  passes = pass files (are_read texts parsed) (are_shallow texts parsed)

  -- the tokens of the joined texts keep the rules Depth and Syntax
  pub tokens_pass : TokensAreOne → (others : List Token) → Lexes (joined_text texts) others → TokensPass others
  tokens_pass one others read = subst TokensPass (one (joined_text texts) tokens others lexes read) passes

  pub joined_parses : JoinedSpell → Parses (joined_text texts) (tree_of texts parsed)
  joined_parses spell = record {
    tokens = tokens;
    lexes = lexes;
    passes = passes;
    spells = record {
      items = subst (λ (them : List (List ℕ)). SpellsItems (joined_text them) tokens (joined_items files) 0 (length tokens)) (same_texts texts parsed)
          (spell files (are_read texts parsed));
      bytes = refl;
    };
  }

-- each tree of the joined texts has the items of all
pub joined_tree : (laws : TextLaws) (texts : List (List ℕ)) (parsed : AllParsed texts) (raw : Raw) → Parses (joined_text texts) raw →
    raw.items ≡ joined_items (files_read texts parsed)
joined_tree laws texts parsed raw parses =
    ap (λ (it : Raw). it.items)
    (one_tree laws.tokens_one laws.trees_one (joined_text texts) raw (tree_of texts parsed) parses
    (joined_parses laws.lex laws.pass texts parsed laws.spell))
