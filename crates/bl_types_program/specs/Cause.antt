-- Why a tree has no program.
use Rattle.std.specs.Prelude.{List, ⊤}
use Rattle.bl_tree.specs.declared.place.Place.{Place}
use Rattle.bl_tree.specs.declared.rule.Refusal.{Refusal}
use Rattle.bl_tree.specs.declared.rule.Refusal.TheVariants as refusal
use Rattle.bl_tree.specs.declared.rule.Rule.{Rule}
use Rattle.bl_names_scopes.specs.Rules.{FailsFirst as NamesFailFirst, Passes as NamesPass}
use Rattle.bl_parse_tree.specs.declared.raw.Raw.{Raw}
use Rattle.bl_types.specs.Rules.{FailsFirst as TypesFailFirst}
use Rattle.bl_types_program.specs.Programs.{named_of}

-- the first of the rules on names and types that fails for a tree, with its place and its further places
pub data FailsFirst (raw : Raw) : Rule → Place → List Place → Type 0 where
  -- the first failing rule is Duplicate, Unknown or Kind
  names : (rule : Rule) (place : Place) (also : List Place) → NamesFailFirst raw.items rule place also → FailsFirst raw rule place also
  -- the names pass, and the first failing rule is one on types, from Type to Entry
  types : (rule : Rule) (place : Place) (also : List Place) → NamesPass raw.items → TypesFailFirst (named_of raw) rule place also →
      FailsFirst raw rule place also

-- the refusal names the first failing rule; want of memory has no cause in the tree
abbrev pub IsCause : Raw → Refusal → Type 0
IsCause raw (refusal.Rule rule place also) = FailsFirst raw rule place also
IsCause raw refusal.NoMemory = ⊤
