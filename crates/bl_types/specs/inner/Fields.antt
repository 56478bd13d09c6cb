-- Where the fields of a struct stand, by a table of their names.
use Rattle.std.specs.Prelude.{◌≡◌, ℕ, suc, List, [], ◌∷◌, Option, Some, None, String, bytes_eq, if◌then◌else◌, option_map}
use Rattle.std.specs.HashMap.{HashMap, get_by_text}
use Rattle.bl_tree.specs.declared.tree.Field.{Field}

-- the index of the first field of the name in a list
abbrev pub first_named : List ℕ → List Field → Option ℕ
first_named name [] = None
first_named name (field ∷ rest) = if bytes_eq field.name name then Some 0 else option_map suc (first_named name rest)

-- the table has the position of the first field of each name, and no other name
abbrev pub IndexesFields : {Z S : Type 0} → HashMap (String Z) ℕ S → List Field → Type 0
IndexesFields table fields = (name : List ℕ) → get_by_text table name ≡ first_named name fields
