-- Texts that can each be read by itself, and the text of all of them.
use Rattle.std.proofs.Common.{◌≡◌, inl, inr, ℕ, List, [], ◌∷◌, length, get_or, refl, ap, ◌∙◌, subst, arith}
use Rattle.std.proofs.lemmas.Option.{slice_get-get_or}
use Rattle.std.proofs.lemmas.List.Elements.{All-cons, All-head, All-nil, All-tail}
use Rattle.std.specs.Prelude.{All, None}
use Rattle.bl_tree.proofs.Basics.{some_within}
use Rattle.bl_face.specs.declared.face.Face.{Face}
use Rattle.bl_joined.specs.Texts.{LexedText, joined_text, joined_tokens, texts_of}
use Rattle.bl_joined_laws.specs.Items.{IsRead, ReadText, all_lexed, joined_items}
use Rattle.bl_lex.specs.Tokens.{Lexes}
use Rattle.bl_module.specs.Rules.{FailsIn}
use Rattle.bl_module_laws.specs.Files.{AreGoodFiles}
use Rattle.bl_module_laws.specs.Laws.{GoodFilesPass, ParsesAlone}
use Rattle.bl_parse.specs.Programs.{SpellsItems}
use Rattle.bl_parse_syntax.specs.inner.Depth.{last_kind}
use Rattle.bl_parse_syntax.specs.Rules.{Fails as TokensFail, Passes as TokensPass, PassesDepth}
use Rattle.bl_rules.specs.Rules.Fails.{in_bytes, in_tokens, in_tree}
use Rattle.bl_tree.specs.declared.place.Place.{Place}
use Rattle.bl_tree.specs.declared.rule.Rule.{Rule}
use Rattle.bl_tree.specs.declared.token.Token.{Token}
use Rattle.bl_module_laws_texts.proofs.Border.{last_token}
use Rattle.bl_module_laws_texts.proofs.Bytes.{AllHavePieces, HasPieces, joined_size_alone, none_where_passing}
use Rattle.bl_module_laws_texts.proofs.Last.{EndsItems, items_end_right}
use Rattle.bl_module_laws_texts.specs.Laws.{GoodFilesFailLimitsAlone, JoinedTextsParse, JoinedTokensPass, OnlySizeFails}

-- ---- bytes

has_pieces : (text : List ℕ) → ParsesAlone text → HasPieces text
has_pieces text alone =
    let lexes = alone.parses.lexes in
    let ends = items_end_right text alone.parses.tokens alone.raw.items alone.parses.spells.items in
    record {
      parts = lexes.parts;
      covers = lexes.covers;
      none = none_where_passing text alone.passes lexes.parts lexes.covers;
      ends = subst EndsItems (ap (last_kind None) lexes.are_tokens ∙ last_token text None lexes.parts lexes.each_has_a_kind) ends;
    }

all_have_pieces : (texts : List (List ℕ)) → All ParsesAlone texts → AllHavePieces texts
all_have_pieces [] alone = tt
all_have_pieces (text ∷ texts) alone = (has_pieces text (All-head ParsesAlone text texts alone), all_have_pieces texts (All-tail ParsesAlone text texts alone))

pub only_size : OnlySizeFails
only_size texts alone = joined_size_alone texts (all_have_pieces texts alone)

-- ---- tokens

-- the texts with their tokens and items
record AreRead (texts : List (List ℕ)) : Type 0 where
  files : List ReadText
  of_texts : texts_of (all_lexed files) ≡ texts
  read : All IsRead files
  shallow : All (λ (file : ReadText). PassesDepth file.tokens) files
  lexed : All (λ (file : LexedText). Lexes file.text file.tokens) (all_lexed files)

are_read : (texts : List (List ℕ)) → All ParsesAlone texts → AreRead texts
are_read [] alone = record {
  files = [];
  of_texts = refl;
  read = All-nil IsRead;
  shallow = All-nil (λ (file : ReadText). PassesDepth file.tokens);
  lexed = All-nil (λ (file : LexedText). Lexes file.text file.tokens);
}
are_read (text ∷ texts) alone =
    let own = All-head ParsesAlone text texts alone in
    let rest = are_read texts (All-tail ParsesAlone text texts alone) in
    let file : ReadText = record { text = text; tokens = own.parses.tokens; items = own.raw.items } in
    record {
      files = file ∷ rest.files;
      of_texts = ap (λ (them : List (List ℕ)). text ∷ them) rest.of_texts;
      read = All-cons IsRead file rest.files (record { lexes = own.parses.lexes; spells = own.parses.spells.items }) rest.read;
      shallow = All-cons (λ (file : ReadText). PassesDepth file.tokens) file rest.files own.parses.passes.depth rest.shallow;
      lexed = All-cons (λ (file : LexedText). Lexes file.text file.tokens) (record { text = text; tokens = own.parses.tokens }) (all_lexed rest.files)
          own.parses.lexes rest.lexed;
    }

-- the laws of tokens and of joined texts
pub record JoiningLaws : Type 0 where
  -- a text has one list of tokens
  pub tokens_one : (text : List ℕ) (tokens others : List Token) → Lexes text tokens → Lexes text others → tokens ≡ others
  -- no rule fails for tokens that pass
  pub tokens_pass : (size : ℕ) (tokens : List Token) (of : Rule) (place : Place) (also : List Place) → TokensPass tokens →
      ¬ TokensFail size tokens of place also
  -- the joined text has the joined tokens
  pub lex : (files : List LexedText) → All (λ file. Lexes file.text file.tokens) files → Lexes (joined_text (texts_of files)) (joined_tokens files)
  -- the joined tokens keep the rules Depth and Syntax
  pub pass : (files : List ReadText) → All IsRead files → All (λ file. PassesDepth file.tokens) files → TokensPass (joined_tokens (all_lexed files))
  -- the joined tokens spell the joined items
  pub spell : (files : List ReadText) → All IsRead files →
      SpellsItems (joined_text (texts_of (all_lexed files))) (joined_tokens (all_lexed files)) (joined_items files) 0
      (length (joined_tokens (all_lexed files)))

module _ (laws : JoiningLaws) where
  pub texts_parse : JoinedTextsParse
  texts_parse texts alone =
      let all = are_read texts alone in
      let tokens = joined_tokens (all_lexed all.files) in (
        record { items = joined_items all.files; bytes = length (joined_text texts) },
        record {
          tokens = tokens;
          lexes = subst (λ (them : List (List ℕ)). Lexes (joined_text them) tokens) all.of_texts (laws.lex (all_lexed all.files) all.lexed);
          passes = laws.pass all.files all.read all.shallow;
          spells = record {
            items = subst (λ (them : List (List ℕ)). SpellsItems (joined_text them) tokens (joined_items all.files) 0 (length tokens)) all.of_texts
                (laws.spell all.files all.read);
            bytes = refl;
          };
        },
      )

  pub tokens_pass : JoinedTokensPass
  tokens_pass texts tokens alone lexes of at also fails =
      let parsed = texts_parse texts alone in
      laws.tokens_pass (length (joined_text texts)) parsed.1.tokens of at also parsed.1.passes
      (subst (λ (them : List Token). TokensFail (length (joined_text texts)) them of at also)
      (laws.tokens_one (joined_text texts) tokens parsed.1.tokens lexes parsed.1.lexes) fails)

-- ---- good files

good_alone : (count : ℕ) (texts : List (List ℕ)) (faces : List Face) → AreGoodFiles count texts faces → All ParsesAlone texts
good_alone count texts faces good k d inside =
    let face = some_within faces k (omega (arith, inside, good.counted)) in
    let is = good.each k (get_or texts k d) face.0 (slice_get-get_or texts k d inside) face.1 in
    record { passes = λ of at also fails. is.passes of at also (FailsIn.in_bytes fails); raw = is.is_face.raw; parses = is.is_face.parses }

module _ (size : OnlySizeFails) (tokens_pass_there : JoinedTokensPass) (whole : GoodFilesPass) where
  pub limits_alone : GoodFilesFailLimitsAlone
  limits_alone texts faces some good of at also (in_bytes fails) = inl (size texts (good_alone (length texts) texts faces good) of at also fails)
  limits_alone texts faces some good of at also (in_tokens tokens passes lexes fails) =
      absurd (tokens_pass_there texts tokens (good_alone (length texts) texts faces good) lexes of at also fails)
  limits_alone texts faces some good of at also (in_tree raw passes parses fails) = inr (whole texts faces raw some good parses of at also fails)
