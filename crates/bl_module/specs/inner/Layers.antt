-- Layers of rules, each judged by itself.
use Rattle.std.specs.Prelude.{◌≡◌, ℕ, List}
use Rattle.bl_names_scopes.specs.Marks.{Marks}
use Rattle.bl_names_scopes.specs.Rules.{FailsBehind as NamesFail}
use Rattle.bl_names_scopes.specs.Scopes.{Scopes}
use Rattle.bl_tree.specs.declared.place.Place.{Place}
use Rattle.bl_tree.specs.declared.rule.Rule.{Rule}
use Rattle.bl_tree.specs.declared.tree.StructDef.{StructDef}
use Rattle.bl_tree.specs.declared.tree.Unit.{Unit as UnitDef}
use Rattle.bl_tree.specs.Rules.{Passes as NoneOf}
use Rattle.bl_module.specs.Rules.{OwnFails, here}

-- a rule on names fails for marks behind a start, and the further places are those in the text
pub record NamesFailHere (start : Scopes) (marks : Marks) (rule : Rule) (at : Place) (also : List Place) : Type 0 where
  pub further : List Place
  pub fails : NamesFail start marks rule at further
  pub kept : also ≡ here further

-- no rule from Pause on fails for own units and structs
abbrev pub OwnPasses : List StructDef → ℕ → List UnitDef → Type 0
OwnPasses structs from units = NoneOf (OwnFails structs from units)
