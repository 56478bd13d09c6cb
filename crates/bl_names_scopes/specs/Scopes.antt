-- The scopes that are open at a place of the text, and what a name stands for there.
use Rattle.std.specs.Prelude.{ℕ, ◌+◌, List, [], ◌∷◌, ◌++◌, map, Option, Some, None, bytes_eq}
use Rattle.std.specs.Borrow.{Bor}
use Rattle.std.specs.Map.{lookup}
use Rattle.std.specs.Option.{option_or}
use Rattle.bl_parse_tree.specs.declared.name.Name.{Name}
use Rattle.bl_names_scopes.specs.declared.heading.Heading.{Heading}
use Rattle.bl_names_scopes.specs.declared.kind.Kind.{Kind}
use Rattle.bl_names_scopes.specs.declared.kind.Kind.TheVariants as kind
use Rattle.bl_names_scopes.specs.declared.scopes.Counts.{Counts}
use Rattle.bl_names_scopes.specs.declared.scopes.Declaration.{Declaration}
use Rattle.bl_names_scopes.specs.Marks.{Mark, Marks, opens, closes, declares, uses}

-- the names that a scope declares so far, in order, each with its declaration
abbrev pub Declared : Type 0
Declared = List (List ℕ × Declaration)

-- a scope without names
abbrev pub nothing : Declared
nothing = []

-- entries of a map, each name as its bytes
abbrev pub named : List (Bor (List ℕ) × Declaration) → Declared
named entries = map (λ entry. (entry.0.now, entry.1)) entries

-- the declaration of a name in a scope
abbrev pub found : Declared → List ℕ → Option Declaration
found scope name = lookup (bytes_eq name) scope

-- the counts before any declaration
abbrev pub no_counts : Counts
no_counts = record { structs = 0; constants = 0; units = 0; variables = 0 }

-- the number of declarations so far that share positions with this kind; fields have no positions
abbrev pub count_of : Counts → Kind → ℕ
count_of counts kind.Struct = counts.structs
count_of counts kind.Constant = counts.constants
count_of counts kind.Variable = counts.variables
count_of counts kind.Function = counts.units
count_of counts kind.Activity = counts.units
count_of counts kind.Field = 0

-- the counts after one more declaration; the variables of each unit are counted anew
abbrev pub counted : Counts → Kind → Counts
counted counts kind.Struct = record counts { structs = counts.structs + 1 }
counted counts kind.Constant = record counts { constants = counts.constants + 1 }
counted counts kind.Variable = record counts { variables = counts.variables + 1 }
counted counts kind.Function = record counts { units = counts.units + 1; variables = 0 }
counted counts kind.Activity = record counts { units = counts.units + 1; variables = 0 }
counted counts kind.Field = counts

-- the scopes that are open: the innermost, and those around it from the inside out
pub record Scopes : Type 0 where
  pub inner : Declared
  pub outer : List Declared
  pub counts : Counts

-- the scope of the file alone, with no name
abbrev pub file_scope : Scopes
file_scope = record { inner = []; outer = []; counts = no_counts }

-- the declaration of a name in the innermost of these scopes that has one
abbrev pub bound_around : List Declared → List ℕ → Option Declaration
bound_around [] name = None
bound_around (scope ∷ outer) name = option_or (found scope name) (bound_around outer name)

-- what a name stands for: its declaration in the innermost open scope that has one
abbrev pub bound : Scopes → List ℕ → Option Declaration
bound scopes name = option_or (found scopes.inner name) (bound_around scopes.outer name)

-- the open scopes after the innermost ends: its enclosing scope becomes the innermost, an empty one where there is none
abbrev pub scopes_outside : List Declared → Counts → Scopes
scopes_outside [] counts = record { inner = []; outer = []; counts = counts }
scopes_outside (scope ∷ outer) counts = record { inner = scope; outer = outer; counts = counts }

-- a name is declared at its place, as this kind of thing and with this position
abbrev pub declaration_of : Name → Kind → ℕ → Declaration
declaration_of name kind position = record { kind = kind; place = name.place; position = position }

-- a scope with one more name
abbrev pub with_name : Declared → Name → Kind → ℕ → Declared
with_name scope name kind position = scope ++ ((name.text, declaration_of name kind position) ∷ [])

-- a name that the scope declares already stays what it is
abbrev pub declared : Option Declaration → Declared → Name → Kind → ℕ → Declared
declared (Some earlier) scope name kind position = scope
declared None scope name kind position = with_name scope name kind position

-- the scopes that are open after a mark
abbrev pub enter : Scopes → Mark → Scopes
enter scopes opens = record { inner = []; outer = scopes.inner ∷ scopes.outer; counts = scopes.counts }
enter scopes closes = scopes_outside scopes.outer scopes.counts
enter scopes (declares name kind) = record {
  inner = declared (found scopes.inner name.text) scopes.inner name kind (count_of scopes.counts kind);
  outer = scopes.outer;
  counts = counted scopes.counts kind;
}
enter scopes (uses name wanted) = scopes

-- the scopes that are open after marks
abbrev pub after : Scopes → Marks → Scopes
after scopes [] = scopes
after scopes (mark ∷ rest) = after (enter scopes mark) rest

-- a heading declares its name as what it is
abbrev pub heading_mark : Heading → Mark
heading_mark heading = declares heading.name heading.kind

-- the scope of a file behind headings, which declare their names in order
abbrev pub opened_by : List Heading → Scopes
opened_by headings = after file_scope (map heading_mark headings)
