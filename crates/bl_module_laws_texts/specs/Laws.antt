-- Which rules can fail for a joined text.
use Rattle.std.specs.Prelude.{◌≡◌, ◌⊎◌, ℕ, ◌<◌, All, List, length}
use Rattle.bl_face.specs.declared.face.Face.{Face}
use Rattle.bl_joined.specs.Texts.{joined_text}
use Rattle.bl_lex.specs.Rules.{Fails as TextFails}
use Rattle.bl_lex.specs.Tokens.{Lexes}
use Rattle.bl_module_laws.specs.Files.{AreGoodFiles}
use Rattle.bl_module_laws.specs.Laws.{IsLimit, ParsesAlone}
use Rattle.bl_parse_syntax.specs.Rules.{Fails as TokensFail}
use Rattle.bl_parse_tree.specs.declared.raw.Raw.{Raw}
use Rattle.bl_rules.specs.Rules.{Fails, Parses}
use Rattle.bl_tree.specs.declared.place.Place.{Place}
use Rattle.bl_tree.specs.declared.rule.Rule.{Rule}
use Rattle.bl_tree.specs.declared.rule.Rule.TheVariants as rule
use Rattle.bl_tree.specs.declared.token.Token.{Token}

-- neither Lex nor Profile fails for the joined text of texts that each keep the rules from Size to Syntax
abbrev pub OnlySizeFails : Type 0
OnlySizeFails = (texts : List (List ℕ)) → All ParsesAlone texts → (of : Rule) (at : Place) (also : List Place) →
    TextFails (joined_text texts) of at also → of ≡ rule.Size

-- neither Depth nor Syntax fails for the tokens of the joined text of texts that each keep the rules from Size to Syntax
abbrev pub JoinedTokensPass : Type 0
JoinedTokensPass = (texts : List (List ℕ)) (tokens : List Token) → All ParsesAlone texts → Lexes (joined_text texts) tokens →
    (of : Rule) (at : Place) (also : List Place) → ¬ TokensFail (length (joined_text texts)) tokens of at also

-- the joined text of texts that each keep the rules from Size to Syntax has tokens that keep Depth and Syntax and spell a tree
abbrev pub JoinedTextsParse : Type 0
JoinedTextsParse = (texts : List (List ℕ)) → All ParsesAlone texts → (raw : Raw) × Parses (joined_text texts) raw

-- of all rules only Size, Frames and Cells can fail for the joined text of good files
abbrev pub GoodFilesFailLimitsAlone : Type 0
GoodFilesFailLimitsAlone = (texts : List (List ℕ)) (faces : List Face) → 0 < length texts → AreGoodFiles (length texts) texts faces →
    (of : Rule) (at : Place) (also : List Place) → Fails (joined_text texts) of at also → (of ≡ rule.Size) ⊎ IsLimit of
