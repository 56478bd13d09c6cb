-- Texts that are trees by themselves.
use Rattle.std.specs.Prelude.{◌≡◌, ℕ, ◌+◌, ◌<◌, ◌^◌, nat_eq, Bool, false, All, List, length, slice_get, Some}
use Rattle.std.specs.List.{list_any}
use Rattle.bl_joined.specs.declared.joined.Joined.{Joined}
use Rattle.bl_joined.specs.Joined.{IsJoinedOf}
use Rattle.bl_lex.specs.Rules.{Passes as TextPasses}
use Rattle.bl_module.specs.Rules.{is_marked}
use Rattle.bl_module_laws.specs.Laws.{ParsesAlone}
use Rattle.bl_parse_tree.specs.declared.raw.Raw.{Raw}
use Rattle.bl_rules.specs.Rules.{Parses}

-- the text keeps the rules from Size to Syntax, and this is its tree
pub record IsTreeAlone (text : List ℕ) (raw : Raw) : Type 0 where
  pub passes : TextPasses text
  pub parses : Parses text raw

-- the text keeps the rules from Size to Syntax by itself, and has the mark of an entry point only as the last file
pub record StandsAlone (last : Bool) (text : List ℕ) : Type 0 where
  pub alone : ParsesAlone text
  pub marks : last ≡ false → (raw : Raw) → Parses text raw → list_any is_marked raw.items ≡ false

-- each of the texts stands alone as the file that it is of so many
abbrev pub EachStandsAlone : ℕ → List (List ℕ) → Type 0
EachStandsAlone count texts = (k : ℕ) (text : List ℕ) → slice_get texts k ≡ Some text → StandsAlone (nat_eq (k + 1) count) text

-- the texts stand alone and were joined, and what came of it isn't too long to be parsed
pub record AreJoinedAlone (texts : List (List ℕ)) (joined : Joined) : Type 0 where
  pub alone : All ParsesAlone texts
  pub stand : EachStandsAlone (length texts) texts
  pub is : IsJoinedOf texts joined
  pub short : length joined.text.items < 2 ^ 32
