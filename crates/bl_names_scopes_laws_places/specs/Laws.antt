-- How the rules Duplicate, Unknown and Kind judge one text behind two starts whose scopes correspond.
use Rattle.std.specs.Prelude.{◌≡◌, ℕ, List, map, ◌↔◌}
use Rattle.bl_tree.specs.declared.place.Place.{Place}
use Rattle.bl_tree.specs.declared.rule.Rule.{Rule}
use Rattle.bl_joined.specs.Trees.{placed_item}
use Rattle.bl_names_scopes.specs.Marks.{Marks, marks_of}
use Rattle.bl_names_scopes.specs.Rules.{FailsBehind, PassesBehind}
use Rattle.bl_names_scopes.specs.Scopes.{Scopes, after}
use Rattle.bl_names_scopes_laws_places.specs.Agree.{ScopesAgree, placed_marks}
use Rattle.bl_parse_tree.specs.declared.item.RawItem.{RawItem}

-- items with mapped places have the marks of the items, with mapped places
abbrev pub MarksMove : Type 0
MarksMove = (f : Place → Place) (items : List RawItem) → marks_of (map (placed_item f) items) ≡ placed_marks f (marks_of items)

-- scopes that correspond do so after marks too
abbrev pub AgreementStays : Type 0
AgreementStays = (f : Place → Place) (renumber : ℕ → ℕ) (one other : Scopes) → ScopesAgree renumber one other → (marks : Marks) →
    ScopesAgree renumber (after one marks) (after other (placed_marks f marks))

-- a rule fails at the place, whatever further places its line names
pub record FailsAt (Fails : Rule → Place → List Place → Type 0) (rule : Rule) (at : Place) : Type 0 where
  pub further : List Place
  pub fails : Fails rule at further

-- a rule fails at the image of a place at which it fails so
pub record FailsAtImage (f : Place → Place) (Fails : Rule → Place → List Place → Type 0) (rule : Rule) (at : Place) : Type 0 where
  pub source : Place
  pub fails : FailsAt Fails rule source
  pub is_at : at ≡ f source

-- marks with mapped places behind one of two corresponding starts fail at the images of the places at which the marks fail behind the other
abbrev pub FailuresAgree : Type 0
FailuresAgree = (f : Place → Place) (renumber : ℕ → ℕ) (one other : Scopes) → ScopesAgree renumber one other →
    (marks : Marks) (rule : Rule) (at : Place) →
    FailsAt (FailsBehind other (placed_marks f marks)) rule at ↔ FailsAtImage f (FailsBehind one marks) rule at

-- marks pass behind one of two corresponding starts iff with mapped places they pass behind the other
abbrev pub PassingAgrees : Type 0
PassingAgrees = (f : Place → Place) (renumber : ℕ → ℕ) (one other : Scopes) → ScopesAgree renumber one other → (marks : Marks) →
    PassesBehind other (placed_marks f marks) ↔ PassesBehind one marks
