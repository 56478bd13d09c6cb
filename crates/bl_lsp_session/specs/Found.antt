-- What is found in a text.
use Rattle.std.specs.Prelude.{◌≡◌, ℕ, List}
use Rattle.serde_json.specs.Data.{Items, item, no_items}
use Rattle.bl_lsp_answers.specs.Diagnostics.{diagnostic_data}
use Rattle.bl_rules.specs.Rules.{FirstFailing, Passes}
use Rattle.bl_tree.specs.declared.place.Place.{Place}
use Rattle.bl_tree.specs.declared.rule.Rule.{Rule}

-- what is found in a text: exactly the first failing rule, or nothing where no rule fails
pub data Found (uri text : List ℕ) (found : Items) : Type 0 where
  passes : Passes text → found ≡ no_items → Found uri text found
  fails : (rule : Rule) (at : Place) (also : List Place) → FirstFailing text rule at also →
      found ≡ item (diagnostic_data uri text rule at also) no_items → Found uri text found
