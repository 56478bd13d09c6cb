-- Tables of names.
use Rattle.std.specs.Prelude.{◌≡◌, List, Option, bytes_eq, is_some}
use Rattle.std.specs.List.{list_any}
use Rattle.bl_tree.specs.declared.text.Text.{Text}

-- a table has an entry for each of these names, and for no other
abbrev pub HasNames : {V : Type 0} → (Text → Option V) → List Text → Type 0
HasNames table names = (name : Text) → list_any (λ n. bytes_eq n name) names ≡ is_some (table name)
