-- Texts that are trees by themselves.
use Rattle.std.proofs.Common.{◌≡◌, Bool, false, List, ℕ, subst}
use Rattle.std.specs.List.{list_any}
use Rattle.bl_link_together.specs.Alone.{IsTreeAlone, StandsAlone}
use Rattle.bl_module.specs.Rules.{is_marked}
use Rattle.bl_parse_tree.specs.declared.raw.Raw.{Raw}
use Rattle.bl_rules.proofs.Layers.{TokensAreOne, TreesAreOne, one_tree}

-- what is found in one tree of the text holds of each, as there is one
pub stands : TokensAreOne → TreesAreOne → (text : List ℕ) (raw : Raw) (last : Bool) → IsTreeAlone text raw →
    (last ≡ false → list_any is_marked raw.items ≡ false) → StandsAlone last text
stands tokens trees text raw last is marks = record {
  alone = record { passes = is.passes; raw = raw; parses = is.parses };
  marks = λ earlier other parses.
      subst (λ (r : Raw). list_any is_marked r.items ≡ false) (one_tree tokens trees text raw other is.parses parses) (marks earlier);
}
