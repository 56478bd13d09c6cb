-- What is declared so far.
use Rattle.std.specs.Prelude.{List, [], ◌∷◌, ◌++◌, bytes_eq, if◌then◌else◌}
use Rattle.std.specs.List.{list_any}
use Rattle.bl_tree.specs.declared.text.Text.{Text}
use Rattle.bl_tree.specs.declared.c.CStruct.{CStruct}

-- structs, and the names that are taken
pub record Collected : Type 0 where
  pub structs : List CStruct
  pub taken : List Text

-- no struct yet
abbrev pub nothing : Collected
nothing = record { structs = []; taken = [] }

-- the structs with one more, unless its name is taken
abbrev pub added : Collected → CStruct → Collected
added collected s =
    if list_any (bytes_eq s.name) collected.taken then collected
    else record { structs = collected.structs ++ s ∷ []; taken = collected.taken ++ s.name ∷ [] }

-- the structs with further ones added, one after another
abbrev pub all_added : Collected → List CStruct → Collected
all_added collected [] = collected
all_added collected (s ∷ rest) = all_added (added collected s) rest
