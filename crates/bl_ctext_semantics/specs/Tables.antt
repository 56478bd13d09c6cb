-- What is found by a name.
use Rattle.std.specs.Prelude.{List, [], ◌∷◌, Option, Some, None, bytes_eq, unwrap_or, if◌then◌else◌}
use Rattle.std.specs.Option.{option_or}
use Rattle.bl_tree.specs.declared.text.Text.{Text}

-- the first entry of this name
abbrev pub found : {A : Type 0} → Text → List (Text × A) → Option A
found name [] = None
found name (entry ∷ entries) = if bytes_eq entry.0 name then Some entry.1 else found name entries

-- what stands under each name
abbrev pub Table : Type 0 → Type 0
Table A = Text → Option A

-- nothing under any name
abbrev pub no_entries : {A : Type 0} → Table A
no_entries name = None

-- the entries of a list, the first of each name
abbrev pub table_of : {A : Type 0} → List (Text × A) → Table A
table_of entries name = found name entries

-- a table with one more entry, unless the name has one
abbrev pub with_entry : {A : Type 0} → Table A → Text → A → Table A
with_entry table name value asked = option_or (table asked) (if bytes_eq name asked then Some value else None)

-- what stands under a name, else the other
abbrev pub entry_or : {A : Type 0} → A → Table A → Text → A
entry_or other table name = unwrap_or (table name) other
