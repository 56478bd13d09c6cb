-- How a text fails the rules behind a start, and the first rule that fails. The start is what is declared before the text. Only what stands in the text is
-- judged.
use Rattle.std.specs.Prelude.{◌≡◌, ℕ, Bool, false, not, List, drop, filter, length}
use Rattle.std.specs.List.{list_any}
use Rattle.bl_cause_trees.specs.Rules.{Fails as GraphsFail, Passes as GraphsPass}
use Rattle.bl_effects.specs.Rules.{Fails as UnitsFail, Passes as UnitsPass}
use Rattle.bl_lex.specs.Rules.{Fails as TextFails, Passes as TextPasses}
use Rattle.bl_lex.specs.Tokens.{Lexes}
use Rattle.bl_limits.specs.Rules.{NestingFails}
use Rattle.bl_names.specs.Named.{named_behind}
use Rattle.bl_names_scopes.specs.Marks.{marks_of}
use Rattle.bl_names_scopes.specs.Rules.{FailsBehind as NamesFail, PassesBehind as NamesPass}
use Rattle.bl_names_scopes.specs.Scopes.{opened_by}
use Rattle.bl_names_tree.specs.declared.named.Named.{Named}
use Rattle.bl_parse_syntax.specs.Rules.{Fails as TokensFail}
use Rattle.bl_parse_tree.specs.declared.item.RawItem.{RawItem}
use Rattle.bl_parse_tree.specs.declared.item.RawItem.TheVariants.{Struct, Constant, Unit as UnitItem}
use Rattle.bl_parse_tree.specs.declared.raw.Raw.{Raw}
use Rattle.bl_rules.specs.Rules.{Parses}
use Rattle.bl_tree.specs.declared.place.Place.{Place}
use Rattle.bl_tree.specs.declared.rule.Rule.{Rule}
use Rattle.bl_tree.specs.declared.token.Token.{Token}
use Rattle.bl_tree.specs.declared.tree.StructDef.{StructDef}
use Rattle.bl_tree.specs.declared.tree.Unit.{Unit as UnitDef}
use Rattle.bl_tree.specs.Rules.{FailsFirst, Passes as NoneOf, same_place}
use Rattle.bl_types.specs.declared.environment.Environment.{Environment}
use Rattle.bl_types.specs.declared.environment.Known.{Known}
use Rattle.bl_types.specs.Programs.{known_before, known_behind}
use Rattle.bl_types.specs.Rules.{FailsBehind as TypesFail, PassesBehind as TypesPass}
use Rattle.bl_module.specs.Behind.{outside_text}
use Rattle.bl_module.specs.declared.behind.Behind.{Behind}
use Rattle.bl_module.specs.declared.taken.Taken.{Taken}
use Rattle.bl_module.specs.declared.taken.Taken.TheVariants.{AsLast, AsMarked}

-- ---- what is known behind a start

-- whether an item is a unit with the mark of an entry point
abbrev pub is_marked : RawItem → Bool
is_marked (Struct def) = false
is_marked (Constant constant) = false
is_marked (UnitItem unit) = unit.entry

-- whether a tree is judged as that of the last file, which has the entry point
abbrev pub is_last : Taken → Raw → Bool
is_last (AsLast last) raw = last
is_last AsMarked raw = list_any is_marked raw.items

-- the places of a text among some places
abbrev pub here : List Place → List Place
here = filter (λ place. not (same_place place outside_text))

-- a tree with positions in place of names
abbrev pub named_in : Behind → Raw → Named
named_in behind raw = named_behind behind.headings raw.items raw.bytes

-- what the types' judge knows before a tree
abbrev pub known_at : Behind → Environment
known_at behind = known_before behind.structs behind.constants behind.units

-- all that is known at the end of a tree
abbrev pub known_in : Behind → Raw → Known
known_in behind raw = known_behind (known_at behind) (named_in behind raw)

-- the units of the tree itself, with their types
abbrev pub own_units : Behind → Raw → List UnitDef
own_units behind raw = drop (length behind.units) (known_in behind raw).units

-- ---- the rules

-- the rule fails for own units at the place, or for own structs, which are those from a position on; a layer is judged where those before pass
pub data OwnFails (structs : List StructDef) (from : ℕ) (units : List UnitDef) (rule : Rule) (at : Place) (also : List Place) : Type 0 where
  -- a failure of Pause, Conflict, Alias or Instant, on the units
  in_units : UnitsFail units rule at also → OwnFails structs from units rule at also
  -- a failure of Twice or Cycle, on the tick graphs of the peeled activities
  in_graphs : UnitsPass units → GraphsFail units rule at also → OwnFails structs from units rule at also
  -- a failure of Cells by types that are nested too deep
  in_nesting : UnitsPass units → GraphsPass units → NestingFails from structs units rule at also → OwnFails structs from units rule at also

-- the rule fails for a tree behind a start, which has the entry point where it is that of the last file
pub data TreeFails (behind : Behind) (last : Bool) (raw : Raw) (rule : Rule) (at : Place) (also : List Place) : Type 0 where
  -- a failure of Duplicate, Unknown or Kind; further places in other texts are left out
  in_names : (further : List Place) → NamesFail (opened_by behind.headings) (marks_of raw.items) rule at further → also ≡ here further →
      TreeFails behind last raw rule at also
  -- a failure of a rule from Type to Entry, on the tree with resolved names
  in_types : NamesPass (opened_by behind.headings) (marks_of raw.items) → TypesFail last (known_at behind) (named_in behind raw) rule at also →
      TreeFails behind last raw rule at also
  -- a failure of a later rule, on the tree's own units and structs
  in_own : NamesPass (opened_by behind.headings) (marks_of raw.items) → TypesPass last (known_at behind) (named_in behind raw) →
      OwnFails (known_in behind raw).structs (length behind.structs) (own_units behind raw) rule at also → TreeFails behind last raw rule at also

-- no rule fails for a tree behind a start
abbrev pub TreePasses : Behind → Bool → Raw → Type 0
TreePasses behind last raw = NoneOf (TreeFails behind last raw)

-- the rule fails for a text at the place, with the further places, behind a start
pub data FailsIn (behind : Behind) (taken : Taken) (text : List ℕ) (rule : Rule) (at : Place) (also : List Place) : Type 0 where
  -- a failure of Size, Lex or Profile, on the bytes
  in_bytes : TextFails text rule at also → FailsIn behind taken text rule at also
  -- a failure of Depth or Syntax, on the tokens
  in_tokens : (tokens : List Token) → TextPasses text → Lexes text tokens → TokensFail (length text) tokens rule at also →
      FailsIn behind taken text rule at also
  -- a failure of a later rule, on the tree
  in_tree : (raw : Raw) → TextPasses text → Parses text raw → TreeFails behind (is_last taken raw) raw rule at also →
      FailsIn behind taken text rule at also

-- no rule fails for a text behind a start
abbrev pub PassesIn : Behind → Taken → List ℕ → Type 0
PassesIn behind taken text = NoneOf (FailsIn behind taken text)

-- the rule is the first that fails for a text behind a start, at its first place, with the first further places unless they are a walk
abbrev pub FirstFailingIn : Behind → Taken → List ℕ → Rule → Place → List Place → Type 0
FirstFailingIn behind taken text = FailsFirst (FailsIn behind taken text)
