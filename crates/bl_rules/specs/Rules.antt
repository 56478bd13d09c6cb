-- How a source text fails the rules, all of them in one relation, and the first rule that fails.
use Rattle.std.specs.Prelude.{ℕ, List, length}
use Rattle.bl_cause_trees.specs.Rules.{Fails as GraphsFail, Passes as GraphsPass}
use Rattle.bl_cause_trees.specs.Peeled.{ArePeeled}
use Rattle.bl_effects.specs.Rules.{Fails as UnitsFail, Passes as UnitsPass}
use Rattle.bl_lex.specs.Rules.{Fails as TextFails, Passes as TextPasses}
use Rattle.bl_lex.specs.Tokens.{Lexes}
use Rattle.bl_limits.specs.Rules.{Fails as LimitsFail}
use Rattle.bl_parse.specs.Programs.{Spells}
use Rattle.bl_types_program.specs.Programs.{named_of, typed_of}
use Rattle.bl_parse_tree.specs.declared.raw.Raw.{Raw}
use Rattle.bl_names_scopes.specs.Rules.{Fails as NamesFail, Passes as NamesPass}
use Rattle.bl_parse_syntax.specs.Rules.{Fails as TokensFail, Passes as TokensPass}
use Rattle.bl_tree.specs.declared.place.Place.{Place}
use Rattle.bl_tree.specs.declared.rule.Rule.{Rule}
use Rattle.bl_tree.specs.declared.token.Token.{Token}
use Rattle.bl_tree.specs.declared.tree.StructDef.{StructDef}
use Rattle.bl_tree.specs.declared.tree.Unit.{Unit as UnitDef}
use Rattle.bl_tree.specs.Rules.{FailsFirst, Passes as NoneOf}
use Rattle.bl_types.specs.Rules.{Fails as TypesFail, Passes as TypesPass}

-- the tokens of the text keep the rules Depth and Syntax and spell the tree
pub record Parses (text : List ℕ) (raw : Raw) : Type 0 where
  pub tokens : List Token
  pub lexes : Lexes text tokens
  pub passes : TokensPass tokens
  pub spells : Spells text tokens raw

-- the rule fails for a typed program at the place, with the further places
pub data ProgramFails (structs : List StructDef) (units : List UnitDef) (entry : ℕ) (rule : Rule) (at : Place) (also : List Place) : Type 0 where
  -- a failure of Pause, Conflict, Alias or Instant, on the units
  in_units : UnitsFail units rule at also → ProgramFails structs units entry rule at also
  -- a failure of Twice or Cycle, on the tick graphs of the peeled activities
  in_graphs : UnitsPass units → GraphsFail units rule at also → ProgramFails structs units entry rule at also
  -- a failure of Frames or Cells, on the measures of the peeled program
  in_limits : (peeled : List UnitDef) → UnitsPass units → GraphsPass units → ArePeeled units peeled → LimitsFail structs peeled entry rule at also →
      ProgramFails structs units entry rule at also

-- no rule on typed programs fails for the program
abbrev pub ProgramPasses : List StructDef → List UnitDef → ℕ → Type 0
ProgramPasses structs units entry = NoneOf (ProgramFails structs units entry)

-- the rule fails for a tree at the place; a layer of rules is judged only where the layers before pass
pub data TreeFails (raw : Raw) (rule : Rule) (at : Place) (also : List Place) : Type 0 where
  -- a failure of Duplicate, Unknown or Kind, on the tree
  in_names : NamesFail raw.items rule at also → TreeFails raw rule at also
  -- a failure of Type, Literal, Immutable, Constant, Arity, Prev, Return, Where or Entry, on the tree with resolved names
  in_types : NamesPass raw.items → TypesFail (named_of raw) rule at also → TreeFails raw rule at also
  -- a failure of a rule on typed programs, on the tree's program
  in_program : NamesPass raw.items → TypesPass (named_of raw) →
      ProgramFails (typed_of raw).structs (typed_of raw).units (typed_of raw).entry rule at also → TreeFails raw rule at also

-- no rule on trees or typed programs fails for the tree
abbrev pub TreePasses : Raw → Type 0
TreePasses raw = NoneOf (TreeFails raw)

-- the rule fails for a text at the place, with the further places
pub data Fails (text : List ℕ) (rule : Rule) (at : Place) (also : List Place) : Type 0 where
  -- a failure of Size, Lex or Profile, on the bytes
  in_bytes : TextFails text rule at also → Fails text rule at also
  -- a failure of Depth or Syntax, on the tokens
  in_tokens : (tokens : List Token) → TextPasses text → Lexes text tokens → TokensFail (length text) tokens rule at also → Fails text rule at also
  -- a failure of a rule on trees or typed programs, on the tree
  in_tree : (raw : Raw) → TextPasses text → Parses text raw → TreeFails raw rule at also → Fails text rule at also

-- no rule fails for a text
abbrev pub Passes : List ℕ → Type 0
Passes text = NoneOf (Fails text)

-- the rule is the first that fails for a text, at its first place, with the first further places unless they are a walk
abbrev pub FirstFailing : List ℕ → Rule → Place → List Place → Type 0
FirstFailing text = FailsFirst (Fails text)
