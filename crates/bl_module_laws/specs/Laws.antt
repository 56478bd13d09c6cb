-- Files that are good one behind another pass together, and the other way round.
use Rattle.std.specs.Prelude.{◌≡◌, ◌⊎◌, ℕ, ◌+◌, ◌<◌, false, All, List, length, slice_get, Some}
use Rattle.std.specs.List.{list_any}
use Rattle.bl_face.specs.declared.face.Face.{Face}
use Rattle.bl_joined.specs.Texts.{joined_text}
use Rattle.bl_lex.specs.Rules.{Passes as TextPasses}
use Rattle.bl_module.specs.Rules.{is_marked}
use Rattle.bl_parse_tree.specs.declared.raw.Raw.{Raw}
use Rattle.bl_rules.specs.Rules.{Parses, TreeFails, TreePasses}
use Rattle.bl_tree.specs.declared.place.Place.{Place}
use Rattle.bl_tree.specs.declared.rule.Rule.{Rule}
use Rattle.bl_tree.specs.declared.rule.Rule.TheVariants as rule
use Rattle.bl_module_laws.specs.Files.{AreGoodFiles}

-- the rule is Frames or Cells, whose measures are those of the whole program
abbrev pub IsLimit : Rule → Type 0
IsLimit of = (of ≡ rule.Frames) ⊎ (of ≡ rule.Cells)

-- from Duplicate on only Frames and Cells can fail for the tree of the joined texts of good files
abbrev pub GoodFilesPass : Type 0
GoodFilesPass = (texts : List (List ℕ)) (faces : List Face) (raw : Raw) → 0 < length texts → AreGoodFiles (length texts) texts faces →
    Parses (joined_text texts) raw → (rule : Rule) (at : Place) (also : List Place) → TreeFails raw rule at also → IsLimit rule

-- the text by itself keeps the rules from Size to Syntax
pub record ParsesAlone (text : List ℕ) : Type 0 where
  pub passes : TextPasses text
  pub raw : Raw
  pub parses : Parses text raw

-- no text but the last has a unit with the mark of an entry point
abbrev pub MarksAreInLast : List (List ℕ) → Type 0
MarksAreInLast texts = (k : ℕ) (text : List ℕ) (raw : Raw) → slice_get texts k ≡ Some text → k + 1 < length texts → Parses text raw →
    list_any is_marked raw.items ≡ false

-- the texts are files that are good one behind another
pub record AreGoodTexts (texts : List (List ℕ)) : Type 0 where
  pub faces : List Face
  pub good : AreGoodFiles (length texts) texts faces

-- texts that keep the rules from Size to Syntax, with marks in the last alone, are good files if the tree of their joined texts passes
abbrev pub PassingFilesAreGood : Type 0
PassingFilesAreGood = (texts : List (List ℕ)) (raw : Raw) → All ParsesAlone texts → MarksAreInLast texts → Parses (joined_text texts) raw →
    TreePasses raw → AreGoodTexts texts
